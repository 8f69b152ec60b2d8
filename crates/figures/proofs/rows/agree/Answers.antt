-- `figures::rows::agree` meets its contract: rows that are equal have the same numbers, and others differ somewhere.
use mathlib.Core.Path.{◌≡◌, refl, sym}
use mathlib.Core.Bool.{Bool, true, false, false≢true}
use mathlib.Core.List.{List}
use mathlib.Core.Logic.{⊎_elim}
use Prim.Native.Nat.{ℕ, zero, suc, ◌<◌}
use native.Mathlib.Omega.{arith}
use borrow.Author.Tests.{eq-eqb, eqb-true}
use lib.Dec.{eqb}
use lib.ListN.{length, get_or}
use Rattle.std.proofs.Common.{rules, IsTrue, ◌↔◌}
use Rattle.std.proofs.lemmas.List.{ext_get_or}
use Rattle.rules.proofs.Tests.{both_l, both_r, fails}
use Rattle.rules.proofs.Search.{below_suc}
use Rattle.figures.specs.Rows.{agree_to, agree}
use Rattle.figures.proofs.rows.agree.Goals as goal

alike : (a : List ℕ) (n : ℕ) → agree_to a a n ≡ true
unfolding agree_to
alike a zero = refl
alike a (suc n) = rw (alike a n, eq-eqb (get_or a n 0) (get_or a n 0) refl) refl

each : (a b : List ℕ) (n : ℕ) → agree_to a b n ≡ true → (i : ℕ) → i < n → get_or a i 0 ≡ get_or b i 0
unfolding agree_to
each a b zero h i l = absurd (omega arith)
each a b (suc n) h i l =
    ⊎_elim (λ c. each a b n (both_l (agree_to a b n) _ h) i c)
    (λ e. rw e (eqb-true _ _ (both_r (agree_to a b n) (eqb (get_or a n 0) (get_or b n 0)) h)))
    (below_suc i n l)

same : (a b : List ℕ) (r : Bool) → (IsTrue r ↔ (a ≡ b)) → r ≡ agree a b
unfolding agree
same a b true i =
    let e : a ≡ b = i.0 refl in
    rw (← e, eq-eqb (length a) (length a) refl, alike a (length a)) refl
same a b false i =
    sym (fails _ (λ t. false≢true (i.1
    (ext_get_or 0 a b (eqb-true _ _ (both_l (eqb (length a) (length b)) _ t))
    (each a b (length a) (both_r (eqb (length a) (length b)) _ t))))))

pub returns : goal.returns
returns c = same _ _ _ (search rules)
