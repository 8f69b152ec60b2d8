-- Times across the plot: the next one.
use Prim.Native.Nat.{ℕ, ◌+◌, ◌*◌, ◌/◌, min}
use mathlib.Core.Path.{◌≡◌}
use native.Mathlib.Numerals.{add-one}
use Rattle.text.specs.declared.page.Page.{Page}
use Rattle.text.specs.Pages.{Puts}
use Rattle.text.proofs.Pages.{then}
use Rattle.strips.specs.declared.scale.Scale.{Scale}
use Rattle.frames.specs.Times.{step_most, round_step, time_text, times_text}

pub times_next : {p q r : Page} (s : Scale) (base n step m : ℕ) → Puts p (times_text s base n) q → step ≡ round_step s.span →
    m ≡ min s.first step_most → Puts q (time_text s base ((m / step + n) * step)) r → Puts p (times_text s base (n + 1)) r
unfolding times_text
times_next s base n step m e f g w = rw (add-one n, ← f, ← g) (then e w)
