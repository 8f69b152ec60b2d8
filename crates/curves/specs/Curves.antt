-- The curve of lanes held: a step for each stretch of time between releases of lanes, as high as the lanes held at its start.
use Rattle.std.specs.Prelude.{ℕ, zero, suc, ◌-◌, min, Bool, List, [], ◌++◌, ltb, get_or, set}
use Rattle.rules.specs.Limits.{titles_max}
use Rattle.rules.specs.Refusals.{pick}
use Rattle.story.specs.declared.State.{State}
use Rattle.story.specs.Kept.{lanes_held}
use Rattle.moments.specs.inner.Steps.{release_in}
use Rattle.text.specs.Texts.{text}
use Rattle.drawing.specs.Axis.{part_across}
use Rattle.drawing.specs.Pieces.{path_text, point_text, step_text, path_end}
use Rattle.strips.specs.Scale.{place_across}
use Rattle.strips.specs.Kept.{level_at}
use Rattle.curves.specs.declared.Curve.{Curve}

-- where a number of lanes is drawn: the pool's line lies 100 pixels above none
unfoldable pub height_of : Curve → ℕ → ℕ
height_of c n = c.base - part_across 1_000 c.pool n

-- a step is drawn where it is a column wide at least, from the height of the step before it
abbrev pub is_step : Curve → ℕ → ℕ → Bool
is_step c from to = ltb (place_across c.scale from) (place_across c.scale to)

unfoldable pub level_text : Curve → List ℕ → ℕ → ℕ → ℕ → List ℕ
level_text c kept from to n =
    pick (is_step c from to)
    (path_text (text "curve") ++ point_text 77 (place_across c.scale from) (height_of c (get_or kept level_at 0)) ++ step_text 86 (height_of c n)
    ++ step_text 72 (place_across c.scale to) ++ path_end)
    []

unfoldable pub level_kept : Curve → List ℕ → ℕ → ℕ → ℕ → List ℕ
level_kept c kept from to n = pick (is_step c from to) (set kept level_at n) kept

-- a step at τ ends at the next release, but no later than a moment
unfoldable pub next_step : State → ℕ → ℕ → ℕ
next_step s τ to = pick (ltb τ (release_in s τ titles_max)) (min (release_in s τ titles_max) to) to

-- as far as the curve is drawn: its text, the row that is kept, and the time
pub record Walk : Type 0 where
  pub text : List ℕ
  pub kept : List ℕ
  pub time : ℕ

abbrev pub walked_on : Curve → State → ℕ → Walk → Walk
walked_on c s to w =
    record {
      text = w.text ++ level_text c w.kept w.time (next_step s w.time to) (lanes_held s w.time);
      kept = level_kept c w.kept w.time (next_step s w.time to) (lanes_held s w.time);
      time = next_step s w.time to;
    }

-- so many steps, or as many as there are; each takes a millisecond at least
unfoldable pub walked : Curve → State → List ℕ → ℕ → ℕ → ℕ → Walk
walked c s kept from to zero = record { text = []; kept = kept; time = from }
walked c s kept from to (suc n) =
    pick (ltb (walked c s kept from to n).time to) (walked_on c s to (walked c s kept from to n)) (walked c s kept from to n)

unfoldable pub curve_text : Curve → State → List ℕ → ℕ → ℕ → List ℕ
curve_text c s kept from to = (walked c s kept from to (to - from)).text

unfoldable pub curve_kept : Curve → State → List ℕ → ℕ → ℕ → List ℕ
curve_kept c s kept from to = (walked c s kept from to (to - from)).kept
