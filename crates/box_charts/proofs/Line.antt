-- No mark of a cell that is taken by its turn lies past the line: it ends where the tick ends in which the cell is taken, which is no
-- further right than the line's step at that cell, the end of the tick in which it plays. Rests on places across the plot growing with the
-- tick.
use Prim.Native.Nat.{ℕ, ◌+◌, ◌*◌, ◌/◌, ◌≤◌, ◌<◌, min}
use native.Mathlib.Omega.{arith}
use native.Mathlib.Nat.{mul-le-mul_right, le-div_iff_mul-le, div-mul-le_self}
use Rattle.drawing.specs.Axis.{span_held, part_across, plot_width, x_of}
use Rattle.box_charts.specs.Marks.{mark_width, mark_area}

quotient_grows : (s a b : ℕ) → 0 < s → a ≤ b → a / s ≤ b / s
quotient_grows s a b some h = (le-div_iff_mul-le some).1 (omega (arith, div-mul-le_self a s))

part_grows : (w span m n : ℕ) → m ≤ n → part_across w span m ≤ part_across w span n
unfolding part_across
part_grows w span m n h =
    let s : ℕ = span_held span in
    let low : min m s ≤ min n s = omega arith in
    quotient_grows s (min m s * w) (min n s * w) (omega arith) (mul-le-mul_right w low)

x_grows : (span m n : ℕ) → m ≤ n → x_of span m ≤ x_of span n
unfolding x_of
x_grows span m n h = omega (arith, part_grows plot_width span m n h)

-- the right end of a mark of cell c, taken in a tick up to c, and the line's step at c
pub mark_in_time : (n tick c : ℕ) → tick ≤ c → (mark_area n tick c).x + (mark_area n tick c).width ≤ x_of n (c + 1)
unfolding mark_area x_of
mark_in_time n tick c h =
    let wide : mark_width n tick ≤ x_of n (tick + 1) = omega arith in
    omega (arith, x_grows n (tick + 1) (c + 1) (omega arith))
