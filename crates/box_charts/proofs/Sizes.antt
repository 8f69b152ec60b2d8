-- The area of a mark.
use Prim.Native.Nat.{ℕ, ◌+◌, ◌-◌, max}
use mathlib.Core.Path.{◌≡◌, refl}
use Rattle.drawing.specs.declared.pieces.Area.{Area}
use Rattle.drawing.specs.Axis.{x_of}
use Rattle.box_charts.specs.Axes.{y_of}
use Rattle.box_charts.specs.Marks.{mark_least, mark_area}

-- from where its tick begins and ends and its cell begins and ends
pub area_is : (n tick c s e w t b h : ℕ) → e ≡ x_of n (tick + 1) → s ≡ x_of n tick → w ≡ max (e - s) mark_least → t ≡ y_of n (c + 1)
    → b ≡ y_of n c → h ≡ max (b - t) mark_least → ◌≡◌ {A = Area} (record { x = e - w; y = t; width = w; height = h }) (mark_area n tick c)
unfolding mark_area
area_is n tick c s e w t b h ee es ew et eb eh = rw (ew, eh, ee, es, et, eb) refl
