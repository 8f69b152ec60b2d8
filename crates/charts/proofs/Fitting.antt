-- A picture that is drawn in wider columns while it has no room. Rests on where a text ends that is written at a row's start.
use Prim.Native.Nat.{ℕ, zero, suc, ◌+◌, ◌-◌, ◌/◌, ◌≤◌, ◌<◌}
use mathlib.Core.Path.{◌≡◌, refl, sym, ap, subst, ◌∙◌}
use mathlib.Core.Bool.{Bool, true, false}
use mathlib.Core.List.{List, [], ◌∷◌, ◌++◌}
use mathlib.Core.Logic.{⊎_elim}
use native.Mathlib.Omega.{arith}
use borrow.Author.Tests.{ltb-true, ltb-false}
use lib.Dec.{ltb}
use lib.ListN.{length, take, drop, set, replicate, length-replicate, length-take, take-append-drop}
use Rattle.rules.specs.Refusals.{pick}
use Rattle.rules.proofs.Tests.{decide}
use Rattle.text.specs.Output.{Page, page, put, puts, Written}
use Rattle.text.proofs.Pages.{puts_append, puts_fits}
use Rattle.charts.specs.Charts.{chart_text, coarser, finest_text, first_columns, first_grain, tries}

-- ---- where a text ends

put_grows : (p : Page) (b : ℕ) → p.at ≤ (put p b).at
unfolding put
put_grows p b = go (ltb p.at (length p.row))
  where
    go : (t : Bool) → p.at ≤ (pick t (page (set p.row p.at b) (p.at + 1)) p).at
    go true = omega arith
    go false = omega arith

grows : (s : List ℕ) (p : Page) → p.at ≤ (puts p s).at
unfolding puts
grows [] p = omega arith
grows (b ∷ s) p = let one = put_grows p b in let rest = grows s (put p b) in omega arith

module _ (row T out : List ℕ) (end : ℕ) (w : Written row 0 T out end) where
  -- one that has room ends at its length, and one that has none at the row's end or behind it
  ends_at : length T ≤ length row → end ≡ length T
  ends_at fits =
      let is : end ≡ 0 + length T = ap (λ (p : Page). p.at) (w ∙ puts_fits T row 0 (omega arith)) in
      omega arith

  fills : length row ≤ length T → length row ≤ end
  fills over =
      let n : ℕ = length row in
      let cut : T ≡ take n T ++ drop n T = sym (take-append-drop n T) in
      let many : length (take n T) ≡ n = length-take n T ∙ omega arith in
      let first = puts_fits (take n T) row 0 (omega arith) in
      let then : puts (page row 0) T ≡ puts (puts (page row 0) (take n T)) (drop n T) =
      ap (puts (page row 0)) cut ∙ puts_append (take n T) (drop n T) (page row 0) in
      let reached : (puts (page row 0) (take n T)).at ≡ 0 + length (take n T) = ap (λ (p : Page). p.at) first in
      let more = grows (drop n T) (puts (page row 0) (take n T)) in
      let is : end ≡ (puts (puts (page row 0) (take n T)) (drop n T)).at = ap (λ (p : Page). p.at) (w ∙ then) in
      omega arith

  pub has_room : end < length row → ltb (length T) (length row) ≡ true
  has_room low =
      ⊎_elim (λ x. x)
      (λ x. absurd (let over = fills (ltb-false (length T) (length row) x) in omega arith))
      (decide (ltb (length T) (length row)))

  pub has_none : length row ≤ end → ltb (length T) (length row) ≡ false
  has_none high =
      ⊎_elim
      (λ x. absurd (let fits = ltb-true (length T) (length row) x in let is = ends_at (omega arith) in omega arith))
      (λ x. x)
      (decide (ltb (length T) (length row)))

-- ---- wider and wider

module _ (room pool : ℕ) (log : List ℕ) (columns grain : ℕ) where
  -- where it has no room it is drawn in wider columns
  finest_on : (n : ℕ) → ltb (length (chart_text pool log columns grain)) room ≡ false →
      finest_text room pool log columns grain (suc n) ≡ finest_text room pool log (columns / 2) (coarser grain) n
  unfolding finest_text
  finest_on n none = rw none refl

  -- where it has, or where no try is left, in these
  finest_here : (n : ℕ) → ltb (length (chart_text pool log columns grain)) room ≡ true →
      finest_text room pool log columns grain n ≡ chart_text pool log columns grain
  unfolding finest_text
  finest_here zero some = refl
  finest_here (suc n) some = rw some refl

  finest_last : (n : ℕ) → n ≡ 0 → finest_text room pool log columns grain n ≡ chart_text pool log columns grain
  unfolding finest_text
  finest_last n none = rw none refl

module _ (pool : ℕ) (log : List ℕ) (size : ℕ) where
  abbrev blank : List ℕ
  blank = replicate size 0

  abbrev wanted : ℕ → ℕ → ℕ → List ℕ
  wanted columns grain left = finest_text size pool log columns grain left

  pub record Trying (out' : List ℕ) (columns grain left end : ℕ) : Type 0 where
    pub same : wanted columns grain left ≡ wanted first_columns first_grain tries
    pub written : Written blank 0 (chart_text pool log columns grain) out' end
    pub long : length out' ≡ size

  pub begins : (out' : List ℕ) (end n : ℕ) → n ≡ size → Written (replicate n 0) 0 (chart_text pool log first_columns first_grain) out' end →
      length out' ≡ size → Trying out' first_columns first_grain tries end
  begins out' end n e w long =
      record {
        same = refl;
        written = subst (λ k. Written (replicate k 0) 0 (chart_text pool log first_columns first_grain) out' end) e w;
        long = long;
      }

  blank_long : length blank ≡ size
  blank_long = length-replicate size 0

  module _ (out' : List ℕ) (columns grain left end : ℕ) (t : Trying out' columns grain left end) where
    pub tries_on : length out' ≤ end → 0 < left → (rest : ℕ) → rest ≡ left - 1 → (g : ℕ) → g ≡ coarser grain → (out'' : List ℕ) (end'' : ℕ) →
        Written (replicate (length out') 0) 0 (chart_text pool log (columns / 2) g) out'' end'' → length out'' ≡ length out' →
        Trying out'' (columns / 2) g rest end''
    tries_on over some rest fewer g wide out'' end'' w long =
        let high : length blank ≤ end = omega (arith, blank_long, t.long) in
        let none : ltb (length (chart_text pool log columns grain)) size ≡ false =
        subst (λ n. ltb (length (chart_text pool log columns grain)) n ≡ false) blank_long
        (has_none blank (chart_text pool log columns grain) out' end t.written high) in
        let up : left ≡ suc rest = omega (arith, some) in
        record {
          same = ap (λ x. wanted (columns / 2) x rest) wide ∙ sym (finest_on size pool log columns grain rest none)
              ∙ ap (wanted columns grain) (sym up) ∙ t.same;
          written = subst (λ n. Written (replicate n 0) 0 (chart_text pool log (columns / 2) g) out'' end'') t.long w;
          long = long ∙ t.long;
        }

    found : (n : ℕ) → size ≡ n → wanted columns grain left ≡ chart_text pool log columns grain →
        Written (replicate n 0) 0 (finest_text n pool log first_columns first_grain tries) out' end
    found n e settled =
        subst (λ k. Written (replicate k 0) 0 (finest_text k pool log first_columns first_grain tries) out' end) e
        (t.written ∙ ap (puts (page blank 0)) (sym settled ∙ t.same))

    -- where the picture has room
    pub found_room : (n : ℕ) → size ≡ n → end < length out' → Written (replicate n 0) 0 (finest_text n pool log first_columns first_grain tries) out' end
    found_room n e low =
        let under : end < length blank = omega (arith, blank_long, t.long) in
        found n e
        (finest_here size pool log columns grain left
        (subst (λ n. ltb (length (chart_text pool log columns grain)) n ≡ true) blank_long
        (has_room blank (chart_text pool log columns grain) out' end t.written under)))

    -- and where no try is left
    pub found_last : (n : ℕ) → size ≡ n → left ≡ 0 → Written (replicate n 0) 0 (finest_text n pool log first_columns first_grain tries) out' end
    found_last n e none = found n e (finest_last size pool log columns grain left none)
