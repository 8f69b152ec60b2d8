-- The first notice that does not count is told as that, by its number and its answer, whatever follows it.
-- Rests on the definition of the count.
use mathlib.Core.Path.{◌≡◌, refl}
use mathlib.Core.Bool.{Bool, true, false}
use mathlib.Core.List.{List, [], ◌∷◌, ◌++◌}
use Prim.Native.Nat.{ℕ, suc}
use native.Mathlib.Omega.{arith}
use borrow.Author.Tests.{eq-eqb, ne_eqb}
use lib.Dec.{eqb}
use lib.ListN.{length}
use Rattle.rules.specs.Refusals.{pick, done}
use Rattle.notice.specs.declared.Notice.{Notice}
use Rattle.unheard.specs.Unheard.{notice_answered, missed_in, first_in, first_said}

module _ (pool : ℕ) (n : Notice) (ns : List Notice) (none : missed_in pool ns ≡ 0) (refused : notice_answered pool ns n ≡ done → ⊥) where
  some_missed : (later : List Notice) → missed_in pool (later ++ n ∷ ns) ≡ 0 → ⊥
  unfolding missed_in
  some_missed [] h = let z : suc (missed_in pool ns) ≡ 0 = rw (ne_eqb (notice_answered pool ns n) done refused) at h in omega arith
  some_missed (m ∷ later) h = go (eqb (notice_answered pool (later ++ n ∷ ns) m) done) (some_missed later) h
    where
      go : (b : Bool) → (missed_in pool (later ++ n ∷ ns) ≡ 0 → ⊥)
          → pick b (missed_in pool (later ++ n ∷ ns)) (suc (missed_in pool (later ++ n ∷ ns))) ≡ 0 → ⊥
      go true before h = before h
      go false before h = omega arith

  -- a later notice changes neither
  stays : (x y z : ℕ) (b : Bool) → (x ≡ 0 → ⊥) → pick b z (pick (eqb x 0) y z) ≡ z
  stays x y z true some = refl
  stays x y z false some = rw (ne_eqb x 0 some) refl

  pub first_is : (later : List Notice) → first_in pool (later ++ n ∷ ns) ≡ suc (length ns)
  unfolding first_in
  first_is [] = rw (ne_eqb (notice_answered pool ns n) done refused, eq-eqb (missed_in pool ns) 0 none) refl
  first_is (m ∷ later) =
      rw (stays (missed_in pool (later ++ n ∷ ns)) _ (first_in pool (later ++ n ∷ ns)) (eqb (notice_answered pool (later ++ n ∷ ns) m) done) (some_missed later))
      (first_is later)

  pub said_is : (later : List Notice) → first_said pool (later ++ n ∷ ns) ≡ notice_answered pool ns n
  unfolding first_said
  said_is [] = rw (ne_eqb (notice_answered pool ns n) done refused, eq-eqb (missed_in pool ns) 0 none) refl
  said_is (m ∷ later) =
      rw (stays (missed_in pool (later ++ n ∷ ns)) _ (first_said pool (later ++ n ∷ ns)) (eqb (notice_answered pool (later ++ n ∷ ns) m) done) (some_missed later))
      (said_is later)
