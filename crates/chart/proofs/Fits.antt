-- Every picture of a box fits into the room that the program lends, so that none of it is left out. Rests on how long a number is.
use mathlib.Core.Bool.{Bool, true, false}
use mathlib.Core.List.{List, [], ◌∷◌}
use Prim.Native.Nat.{ℕ, zero, suc, ◌+◌, ◌-◌, ◌*◌, ◌/◌, ◌%◌, ◌≤◌}
use native.Mathlib.Omega.{arith}
use lib.Dec.{ltb, eqb}
use lib.ListN.{length, length-append}
use Rattle.rules.specs.Limits.{id_max, count_max, lane_places}
use Rattle.rules.specs.Refusals.{pick}
use Rattle.text.specs.Texts.{text}
use Rattle.text.specs.Digits.{decimal}
use Rattle.text.proofs.Printing.{decimal_short}
use Rattle.drawing.specs.declared.pieces.Area.{Area}
use Rattle.clocks.specs.Clocks.{hour_ms, second_ms, thousandths_text, clock_text}
use Rattle.drawing.specs.Pieces.{tenths_text, field_text, rect_text, label_text, path_text, step_text, point_text}
use Rattle.drawing.specs.Document.{sheet, hatch_text, hatches_text, svg_head}
use Rattle.drawing.specs.Axis.{plot_left, x_of, time_mark_text}
use Rattle.takings.specs.declared.Peak.{Peak}
use Rattle.takings.specs.Takings.{place_tick, place_lane, kept_at, peak_to}
use Rattle.box_charts.specs.declared.Begun.{Begun}
use Rattle.box_charts.specs.Heading.{box_heading, meaning_line, lane_name, key_step, lane_key, lane_keys}
use Rattle.box_charts.specs.Axes.{taken_top, taken_bottom, kept_top, kept_bottom, plot_right, y_of, quarters_of}
use Rattle.box_charts.specs.Axes.{frames_text, quarter_line, quarter_marks, quarters_text}
use Rattle.box_charts.specs.Marks.{plays_to, plays_text, mark_area, taken_line, mark_text, mark_if, marks_to}
use Rattle.box_charts.specs.Curve.{kept_y, curve_to, kept_curve, peak_text}
use Rattle.box_charts.specs.Picture.{chart_width, chart_height, box_frame, drawn_text, box_drawing}
use Rattle.chart.specs.Room.{EveryBoxFits}

tenths_length : (n : ℕ) → length (tenths_text n) ≤ 41
unfolding tenths_text text
tenths_length n = simp length-append (omega (arith, decimal_short (n / 10), decimal_short (n % 10)))

field_length : (lead : List ℕ) (n : ℕ) → length (field_text lead n) ≤ length lead + 41
unfolding field_text
field_length lead n = simp length-append (omega (arith, tenths_length n))

step_length : (letter n : ℕ) → length (step_text letter n) ≤ 42
unfolding step_text
step_length letter n = omega (arith, field_length (letter ∷ []) n)

rect_length : (class : List ℕ) (n : ℕ) (a : Area) → length (rect_text class n a) ≤ length class + 300
unfolding rect_text text
rect_length class n a =
    simp length-append
    (omega (arith, decimal_short n, field_length (text "' x='") a.x, field_length (text "' y='") a.y, field_length (text "' width='") a.width, field_length (text "' height='") a.height))

line_length : (place c : ℕ) → length (taken_line place c) ≤ 150
unfolding taken_line text
line_length place c = simp length-append (omega (arith, decimal_short c, decimal_short (place_tick place), decimal_short (place_lane place)))

mark_length : (n place c : ℕ) → length (mark_text n place c) ≤ 500
unfolding mark_text text
mark_length n place c =
    simp length-append (omega (arith, rect_length (text "l") (place_lane place) (mark_area n (place_tick place) c), line_length place c))

mark_if_length : (n place c : ℕ) → length (mark_if n place c) ≤ 500
unfolding mark_if
mark_if_length n place c = go (ltb place (n * lane_places))
  where
    go : (b : Bool) → length (pick b (mark_text n place c) []) ≤ 500
    go true = mark_length n place c
    go false = omega arith

marks_length : (n : ℕ) (place : ℕ → ℕ) (c : ℕ) → length (marks_to n place c) ≤ c * 500
unfolding marks_to
marks_length n place zero = omega arith
marks_length n place (suc c) = simp length-append (omega (arith, marks_length n place c, mark_if_length n (place c) c))

plays_length : (n c : ℕ) → length (plays_to n c) ≤ c * 84
unfolding plays_to
plays_length n zero = omega arith
plays_length n (suc c) = simp length-append (omega (arith, plays_length n c, step_length 72 (x_of n (suc c)), step_length 86 (y_of n (suc c))))

curve_length : (n most : ℕ) (kept : ℕ → ℕ) (t : ℕ) → length (curve_to n most kept t) ≤ t * 84
unfolding curve_to
curve_length n most kept zero = omega arith
curve_length n most kept (suc t) =
    simp length-append (omega (arith, curve_length n most kept t, step_length 86 (kept_y most (kept t)), step_length 72 (x_of n (suc t))))

-- ---- labels, times and paths

label_length : (class : List ℕ) (x y : ℕ) → length (label_text class x y) ≤ length class + 120
unfolding label_text text
label_length class x y = simp length-append (omega (arith, field_length (text "' x='") x, field_length (text "' y='") y))

point_length : (letter x y : ℕ) → length (point_text letter x y) ≤ 84
unfolding point_text text
point_length letter x y = simp length-append (omega (arith, step_length letter x, field_length (text " ") y))

path_length : (class : List ℕ) → length (path_text class) ≤ length class + 30
unfolding path_text text
path_length class = simp length-append (omega arith)

clock_length : (ms : ℕ) → length (clock_text ms) ≤ 40
unfolding clock_text
clock_length ms = simp length-append (omega (arith, decimal_short (ms / hour_ms), go (eqb (ms % second_ms) 0)))
  where
    go : (b : Bool) → length (pick b [] (thousandths_text (ms % second_ms))) ≤ 4
    go true = omega arith
    go false = omega arith

time_length : (x y ms : ℕ) → length (time_mark_text x y ms) ≤ 500
unfolding time_mark_text text
time_length x y ms =
    simp length-append
    (omega (arith, path_length (text "axis"), point_length 77 x y, step_length 86 (y + 60), label_length (text "time") x (y + 190), clock_length ms))

-- ---- the head, what stands above the plots, and their frames

hatch_length : (id : ℕ) → length (hatch_text id) ≤ 300
unfolding hatch_text text
hatch_length id = simp length-append (omega (arith, decimal_short id))

hatches_length : (n : ℕ) → length (hatches_text n) ≤ n * 300
unfolding hatches_text
hatches_length zero = omega arith
hatches_length (suc id) = simp length-append (omega (arith, hatches_length id, hatch_length id))

sheet_length : length sheet ≤ 6000
unfolding sheet text
sheet_length = omega arith

head_length : (w h : ℕ) → length (svg_head w h) ≤ 12_000
unfolding svg_head text
head_length w h =
    simp length-append
    (omega (
      arith,
      field_length (text "<svg xmlns='http://www.w3.org/2000/svg' viewBox='0 0 ") w,
      field_length (text " ") h,
      field_length (text "' width='") w,
      field_length (text "' height='") h,
      sheet_length,
      hatches_length (id_max + 1),
    ))

heading_length : (title moment : ℕ) → length (box_heading title moment) ≤ 300
unfolding box_heading text
heading_length title moment =
    simp length-append (omega (arith, label_length (text "head") plot_left 360, decimal_short title, clock_length moment))

meaning_length : (n tick : ℕ) → length (meaning_line n tick) ≤ 400
unfolding meaning_line text
meaning_length n tick = simp length-append (omega (arith, label_length (text "small") plot_left 570, decimal_short n, decimal_short tick))

name_length : (l : ℕ) → length (lane_name l) ≤ 25
unfolding lane_name text
name_length l = simp length-append (omega (arith, decimal_short l))

key_length : (l : ℕ) → length (lane_key l) ≤ 600
unfolding lane_key text
key_length l =
    simp length-append
    (omega (
      arith,
      rect_length (text "l") l (record { x = plot_left + l * key_step; y = 690; width = 140; height = 140 }),
      label_length (text "small") (plot_left + l * key_step + 190) 800,
      name_length l,
    ))

keys_length : (n : ℕ) → length (lane_keys n) ≤ n * 600
unfolding lane_keys
keys_length zero = omega arith
keys_length (suc l) = simp length-append (omega (arith, keys_length l, key_length l))

quarter_line_length : (n q : ℕ) → length (quarter_line n q) ≤ 500
unfolding quarter_line text
quarter_line_length n q =
    simp length-append
    (omega (
      arith,
      path_length (text "grid"),
      point_length 77 (x_of 4 q) taken_top,
      step_length 86 kept_bottom,
      label_length (text "time") (x_of 4 q) (taken_bottom + 200),
      decimal_short (quarters_of n q),
    ))

quarter_marks_length : (moment tick n q : ℕ) → length (quarter_marks moment tick n q) ≤ 800
unfolding quarter_marks text
quarter_marks_length moment tick n q =
    simp length-append
    (omega (
      arith,
      label_length (text "right") (plot_left - 80) (y_of 4 q + 40),
      decimal_short (quarters_of n q),
      time_length (x_of 4 q) kept_bottom (moment + quarters_of n q * tick),
    ))

quarters_length : (moment tick n q : ℕ) → length (quarters_text moment tick n q) ≤ q * 1300
unfolding quarters_text
quarters_length moment tick n zero = omega arith
quarters_length moment tick n (suc q) =
    simp length-append (omega (arith, quarters_length moment tick n q, quarter_line_length n q, quarter_marks_length moment tick n q))

frames_length : length frames_text ≤ 700
unfolding frames_text text
frames_length =
    simp length-append
    (omega (
      arith,
      path_length (text "axis"),
      point_length 77 plot_left taken_top,
      step_length 86 taken_bottom,
      step_length 72 plot_right,
      point_length 77 plot_left kept_top,
      step_length 86 kept_bottom,
      label_length (text "right") (plot_left - 80) (taken_top - 140),
    ))

frame_length : (b : Begun) (n : ℕ) → b.lanes ≤ count_max → length (box_frame b n) ≤ 50_000
unfolding box_frame
frame_length b n h =
    simp length-append
    (omega (
      arith,
      head_length chart_width chart_height,
      heading_length b.title b.moment,
      meaning_length n b.tick,
      keys_length b.lanes,
      quarters_length b.moment b.tick n 5,
      frames_length,
    ))

-- ---- what is drawn into them

line_of_plays : (n : ℕ) → length (plays_text n) ≤ n * 84 + 200
unfolding plays_text text
line_of_plays n = simp length-append (omega (arith, path_length (text "plays"), point_length 77 plot_left taken_bottom, plays_length n n))

whole_curve : (n most : ℕ) (kept : ℕ → ℕ) → length (kept_curve n most kept) ≤ n * 84 + 300
unfolding kept_curve text
whole_curve n most kept =
    simp length-append
    (omega (arith, path_length (text "curve"), point_length 77 plot_left kept_bottom, curve_length n most kept n, step_length 86 kept_bottom))

peak_length : (p : Peak) → length (peak_text p) ≤ 600
unfolding peak_text text
peak_length p =
    simp length-append
    (omega (
      arith,
      path_length (text "limit"),
      point_length 77 plot_left kept_top,
      step_length 72 plot_right,
      label_length (text "note") (plot_left + 60) (kept_top - 80),
      decimal_short p.many,
      decimal_short p.tick,
    ))

drawn_length : (place : ℕ → ℕ) (n : ℕ) → length (drawn_text place n) ≤ n * 700 + 2000
unfolding drawn_text
drawn_length place n =
    simp length-append
    (omega (
      arith,
      line_of_plays n,
      marks_length n place n,
      whole_curve n (peak_to (kept_at place n) n).many (kept_at place n),
      peak_length (peak_to (kept_at place n) n),
    ))

pub every_box_fits : EveryBoxFits
unfolding box_drawing text
every_box_fits b place n few low = simp length-append (omega (arith, frame_length b n few, drawn_length place n))
