-- The curve as far as it is drawn, step by step: each step takes a millisecond at least, and once its end is reached nothing is added.
-- Rests on the definitions.
use Prim.Native.Nat.{ℕ, zero, suc, ◌+◌, ◌-◌, ◌≤◌, ◌<◌}
use mathlib.Core.Path.{◌≡◌, refl, sym, ap, subst, ◌∙◌}
use mathlib.Core.List.{List}
use native.Mathlib.Omega.{arith}
use borrow.Author.Tests.{lt-ltb, le-ltb}
use lib.ListN.{length}
use Rattle.story.specs.declared.State.{State}
use Rattle.story.specs.Kept.{lanes_held}
use Rattle.drawing.specs.Axis.{part_across}
use Rattle.text.specs.declared.page.Page.{Page}
use Rattle.text.specs.Pages.{Puts}
use Rattle.text.proofs.Pages.{then, nothing, told_as}
use Rattle.strips.specs.Kept.{kept_length}
use Rattle.curves.specs.declared.Curve.{Curve}
use Rattle.curves.specs.Curves.{height_of, level_text, level_kept, next_step, Walk, walked_on, walked, curve_text, curve_kept}

pub height_is : (c : Curve) (n p r : ℕ) → p ≡ part_across 1_000 c.pool n → r ≡ c.base - p → r ≡ height_of c n
unfolding height_of
height_is c n p r e f = f ∙ ap (λ x. c.base - x) e

module _ (c : Curve) (s : State) (kept : List ℕ) (from to : ℕ) where
  abbrev at : ℕ → Walk
  at n = walked c s kept from to n

  -- so many steps were drawn
  pub record Walking (p q : Page) (k : List ℕ) (time : ℕ) : Type 0 where
    pub steps : ℕ
    pub low : from ≤ time
    pub few : steps ≤ time - from
    pub high : time ≤ from + (to - from)
    pub written : Puts p (at steps).text q
    pub kept_is : k ≡ (at steps).kept
    pub time_is : time ≡ (at steps).time
    pub long : length k ≡ kept_length

  pub begins : (p : Page) → length kept ≡ kept_length → Walking p p kept from
  unfolding walked
  begins p long =
      record { steps = 0; low = omega arith; few = omega arith; high = omega arith; written = nothing; kept_is = refl; time_is = refl; long = long }

  module _ (p q : Page) (k : List ℕ) (time : ℕ) (w : Walking p q k time) where
    pub steps_on : (next held : ℕ) (r : Page) (k' : List ℕ) → time < to → (next ≡ next_step s time to) × ((time < next) × (next ≤ to)) →
        held ≡ lanes_held s time → Puts q (level_text c k time next held) r → k' ≡ level_kept c k time next held → length k' ≡ kept_length →
        Walking p r k' next
    unfolding walked
    steps_on next held r k' before n h a b long =
        let go : at (suc w.steps) ≡ walked_on c s to (at w.steps) = rw (lt-ltb (at w.steps).time to (subst (λ x. x < to) w.time_is before)) refl in
        record {
          steps = suc w.steps;
          low = omega (arith, w.low, n.1.0);
          few = omega (arith, w.low, w.few, n.1.0);
          high = omega (arith, w.low, before, n.1.1);
          written = rw go (then w.written (rw (h, n.0, w.kept_is, w.time_is) at a));
          kept_is = rw go (rw (h, n.0, w.kept_is, w.time_is) at b);
          time_is = rw go (n.0 ∙ ap (λ x. next_step s x to) w.time_is);
          long = long;
        }

    -- once the end is reached more steps add nothing
    rests : to ≤ time → (m : ℕ) → at (m + w.steps) ≡ at w.steps
    unfolding walked
    rests end zero = let none : 0 + w.steps ≡ w.steps = omega arith in ap at none
    rests end (suc m) =
        let next : suc m + w.steps ≡ suc (m + w.steps) = omega arith in
        let same = rests end m in
        ap at next ∙ rw (same, le-ltb (at w.steps).time to (subst (λ x. to ≤ x) w.time_is end)) refl

    pub arrives : to ≤ time → (Puts p (curve_text c s kept from to) q) × (k ≡ curve_kept c s kept from to)
    unfolding curve_text curve_kept
    arrives end =
        let many : (to - from) ≡ ((to - from) - w.steps) + w.steps = omega (arith, w.few, w.high) in
        let all : at (to - from) ≡ at w.steps = ap at many ∙ rests end ((to - from) - w.steps) in
        (told_as (ap (λ (x : Walk). x.text) (sym all)) w.written, w.kept_is ∙ ap (λ (x : Walk). x.kept) (sym all))
