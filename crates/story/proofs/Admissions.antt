-- The count that admits boxes, which turns only at its own slot starts, and what an admission has: asked of a life beside its being
-- ruled (specs/Ruled). Rests on the definition of an admission.
use mathlib.Core.Path.{◌≡◌}
use mathlib.Core.Bool.{Bool, true, false, not}
use Prim.Native.Nat.{ℕ, suc, ◌≤◌, ◌<◌}
use lib.Dec.{ltb, eqb}
use borrow.Author.Tests.{ltb-true, not-true}
use Rattle.rules.specs.Limits.{both}
use Rattle.rules.specs.Refusals.{pick}
use Rattle.rules.specs.Search.{after}
use Rattle.rules.proofs.Tests.{both_l, both_r}
use Rattle.scheme.specs.Scheme.{starts}
use Rattle.story.specs.Life.{Life, Course, scheme, is_admission}
use Rattle.story.specs.Ruled.{Ruled}

-- the count that admits boxes at a tick, 0 while the doors are held
abbrev pub admits : Life → ℕ → ℕ
admits L t = pick (L.shut t) 0 (L.rule t)

-- a count begins and ends to admit boxes only at slot starts of its own
pub record Legal (L : Life) : Type 0 where
  pub ends : (t : ℕ) → 0 < admits L t → (admits L t ≡ admits L (suc t) → ⊥) →
      starts (scheme L) (admits L t) (suc t) ≡ true
  pub begins : (t : ℕ) → 0 < admits L (suc t) → (admits L t ≡ admits L (suc t) → ⊥) →
      starts (scheme L) (admits L (suc t)) (suc t) ≡ true

-- count c admits boxes at tick t
abbrev pub is_admitting : Life → ℕ → ℕ → Bool
is_admitting L c t = eqb (admits L t) c

-- the tick at which count c last stopped to admit boxes, seen from tick T; 0 where it never did before
unfoldable pub last_end : Life → ℕ → ℕ → ℕ
last_end L c T = after (is_admitting L c) T

-- the ruling count at an admission, that it is a slot start, and that this count admits
pub record Admitted (L : Life) (a : ℕ) : Type 0 where
  pub some : 0 < L.rule a
  pub low : L.film.floor ≤ L.rule a
  pub start : starts (scheme L) (L.rule a) a ≡ true
  pub unheld : L.shut a ≡ false

pub admitted : (L : Life) → Ruled L → (a : ℕ) → is_admission L a ≡ true → Admitted L a
unfolding is_admission
admitted L ruled a h =
    let k : ℕ = L.rule a in
    let start : Bool = starts (scheme L) k a in
    let rest : both (not (L.shut a)) start ≡ true = both_r (ltb 0 k) (both (not (L.shut a)) start) h in
    let on : 0 < k = ltb-true 0 k (both_l (ltb 0 k) (both (not (L.shut a)) start) h) in
    record {
      some = on;
      low = ruled.low a on;
      start = both_r (not (L.shut a)) start rest;
      unheld = not-true (L.shut a) (both_l (not (L.shut a)) start rest);
    }

-- a course has the same rule and the same doors as a life at a tick
pub record SameAt (L : Life) (r : Course) (t : ℕ) : Type 0 where
  pub rule : r.rule t ≡ L.rule t
  pub shut : r.shut t ≡ L.shut t
