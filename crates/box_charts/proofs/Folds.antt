-- Laws of what is written one behind the other: keys, quarters, the steps of the line and of the curve, and marks. Each begins with
-- nothing, and goes on with one more.
use Prim.Native.Nat.{ℕ, ◌+◌}
use mathlib.Core.Path.{◌≡◌, ap, ◌∙◌}
use native.Mathlib.Numerals.{add-one}
use Rattle.text.specs.declared.page.Page.{Page}
use Rattle.text.specs.Pages.{Puts}
use Rattle.text.proofs.Pages.{then, nothing, told_as}
use Rattle.drawing.specs.Pieces.{step_text}
use Rattle.drawing.specs.Axis.{x_of}
use Rattle.box_charts.specs.Heading.{lane_key, lane_keys}
use Rattle.box_charts.specs.Axes.{y_of, quarter_line, quarter_marks, quarters_text}
use Rattle.box_charts.specs.Marks.{plays_to, mark_if, marks_to}
use Rattle.box_charts.specs.Curve.{kept_y, curve_to}

module _ {p : Page} where
  pub keys_none : Puts p (lane_keys 0) p
  unfolding lane_keys
  keys_none = nothing

  pub keys_next : {q r : Page} (l : ℕ) → Puts p (lane_keys l) q → Puts q (lane_key l) r → Puts p (lane_keys (l + 1)) r
  unfolding lane_keys
  keys_next l e f = rw add-one (then e f)

  pub quarters_none : (moment tick n : ℕ) → Puts p (quarters_text moment tick n 0) p
  unfolding quarters_text
  quarters_none moment tick n = nothing

  pub quarters_next : {q r s : Page} (moment tick n i : ℕ) → Puts p (quarters_text moment tick n i) q → Puts q (quarter_line n i) r
      → Puts r (quarter_marks moment tick n i) s → Puts p (quarters_text moment tick n (i + 1)) s
  unfolding quarters_text
  quarters_next moment tick n i e f g = rw add-one (then (then e f) g)

  module _ (n : ℕ) where
    pub plays_none : Puts p (plays_to n 0) p
    unfolding plays_to
    plays_none = nothing

    pub plays_next : {q r s : Page} {x y : ℕ} (c : ℕ) → Puts p (plays_to n c) q → x ≡ x_of n (c + 1) → y ≡ y_of n (c + 1)
        → Puts q (step_text 72 x) r → Puts r (step_text 86 y) s → Puts p (plays_to n (c + 1)) s
    unfolding plays_to
    plays_next c e ex ey f g =
        rw add-one (then (then e (told_as (ap (step_text 72) (ex ∙ ap (x_of n) (add-one c))) f)) (told_as (ap (step_text 86) (ey ∙ ap (y_of n) (add-one c))) g))

    pub marks_none : (place : ℕ → ℕ) → Puts p (marks_to n place 0) p
    unfolding marks_to
    marks_none place = nothing

    pub marks_next : {q r : Page} (place : ℕ → ℕ) (c : ℕ) → Puts p (marks_to n place c) q → Puts q (mark_if n (place c) c) r
        → Puts p (marks_to n place (c + 1)) r
    unfolding marks_to
    marks_next place c e f = rw add-one (then e f)

    module _ (most : ℕ) (kept : ℕ → ℕ) where
      pub curve_none : Puts p (curve_to n most kept 0) p
      unfolding curve_to
      curve_none = nothing

      pub curve_next : {q r s : Page} {many x y : ℕ} (t : ℕ) → Puts p (curve_to n most kept t) q → many ≡ kept t → y ≡ kept_y most many
          → x ≡ x_of n (t + 1) → Puts q (step_text 86 y) r → Puts r (step_text 72 x) s → Puts p (curve_to n most kept (t + 1)) s
      unfolding curve_to
      curve_next t e em ey ex f g =
          rw add-one (then (then e (told_as (ap (step_text 86) (ey ∙ ap (kept_y most) em)) f)) (told_as (ap (step_text 72) (ex ∙ ap (x_of n) (add-one t))) g))
