-- The whole picture of a log of notices: what stands in every picture, the marks of its notices, what is left at its end, and the lanes held
-- under the line of the pool. It is drawn in the finest columns in which it has room.
use Rattle.std.specs.Prelude.{ℕ, zero, suc, ◌+◌, ◌-◌, ◌*◌, ◌/◌, List, ◌++◌, ltb, length, replicate, unwrap_or}
use Rattle.rules.specs.Limits.{within, pool_min, pool_max, titles_max}
use Rattle.rules.specs.Refusals.{pick, outside_limits}
use Rattle.story.specs.declared.State.{State}
use Rattle.words.specs.Words.{refusal_text}
use Rattle.agent.specs.Played.{agent_played}
use Rattle.drawing.specs.Axis.{plot_left, plot_width}
use Rattle.drawing.specs.Document.{svg_head, foot_text}
use Rattle.spans.specs.declared.Outline.{Outline}
use Rattle.spans.specs.Extents.{measure_of}
use Rattle.strips.specs.declared.scale.Scale.{Scale}
use Rattle.strips.specs.Kept.{kept_length}
use Rattle.curves.specs.declared.Curve.{Curve}
use Rattle.curves.specs.Curves.{curve_text}
use Rattle.frames.specs.declared.bands.View.{View}
use Rattle.frames.specs.Bands.{top_of, bands_text}
use Rattle.frames.specs.Headings.{heading_text, legend_text, pool_lines}
use Rattle.frames.specs.Times.{times_most, times_text}
use Rattle.log_marks.specs.Played.{Drawn, drawn_of}
use Rattle.log_marks.specs.Ending.{all_marks, all_kept, cut_marks, cut_kept}

-- the time of the first accepted event, or 0
abbrev pub first_drawn : Outline → ℕ
first_drawn m = unwrap_or m.extent.first 0

-- the scale of a log in so many columns of so many tenths of a pixel
abbrev pub scale_of : Outline → ℕ → ℕ → Scale
scale_of m columns grain =
    record { first = first_drawn m; span = m.end - first_drawn m; columns = columns; grain = grain }

-- a curve whose line of no lanes lies at a place
abbrev pub curve_at : Outline → ℕ → ℕ → ℕ → ℕ → Curve
curve_at m pool columns grain base = record { scale = scale_of m columns grain; pool = pool; base = base }

abbrev pub view_at : Outline → ℕ → ℕ → ℕ → ℕ → View
view_at m pool columns grain base = record { curve = curve_at m pool columns grain base; caps = m.extent.caps }

-- the curve stands below the last band
abbrev pub base_of : Outline → ℕ → ℕ → ℕ → ℕ
base_of m pool columns grain = top_of (view_at m pool columns grain 0) titles_max + 1_200

unfoldable pub view_of : Outline → ℕ → ℕ → ℕ → View
view_of m pool columns grain = view_at m pool columns grain (base_of m pool columns grain)

-- ---- its parts

-- what stands in every picture
unfoldable pub still_text : Outline → View → List ℕ
still_text m v =
    svg_head (plot_left + plot_width + 800) (v.curve.base + 350) ++ heading_text v.curve.pool (first_drawn m) m.end ++ legend_text
    ++ bands_text v titles_max ++ times_text v.curve.scale v.curve.base times_most ++ pool_lines v.curve

-- the marks of the log's notices
abbrev pub marked_of : View → ℕ → List ℕ → Drawn
marked_of v pool log = drawn_of v pool log (replicate kept_length 0)

-- what is left at its end, where the state is s: bytes that are no notice, all titles, and the curve up to the end
abbrev pub cut_of : Outline → List ℕ → ℕ → List ℕ
cut_of m kept size = cut_kept kept m.stop size

unfoldable pub rest_text : Outline → View → State → List ℕ → ℕ → List ℕ
rest_text m v s kept size =
    cut_marks kept m.stop size ++ all_marks v s (cut_of m kept size) m.end titles_max
    ++ curve_text v.curve s (all_kept v s (cut_of m kept size) m.end titles_max) s.last m.end

unfoldable pub marks_text : Outline → View → ℕ → List ℕ → List ℕ
marks_text m v pool log =
    (marked_of v pool log).text ++ rest_text m v (agent_played pool log).state (marked_of v pool log).kept (length log)

unfoldable pub chart_text : ℕ → List ℕ → ℕ → ℕ → List ℕ
chart_text pool log columns grain =
    still_text (measure_of pool log) (view_of (measure_of pool log) pool columns grain)
    ++ marks_text (measure_of pool log) (view_of (measure_of pool log) pool columns grain) pool log
    ++ foot_text

-- ---- the finest columns in which it has room

-- the plot at first has a column for each tenth of a pixel; columns twice as wide are half as many
abbrev pub first_columns : ℕ
first_columns = plot_width

abbrev pub first_grain : ℕ
first_grain = 1

abbrev pub tries : ℕ
tries = 7

abbrev pub grain_most : ℕ
grain_most = 128

unfoldable pub coarser : ℕ → ℕ
coarser grain = pick (ltb grain grain_most) (grain * 2) grain

-- where it has no room it is drawn in wider columns, so many times at most
unfoldable pub finest_text : ℕ → ℕ → List ℕ → ℕ → ℕ → ℕ → List ℕ
finest_text room pool log columns grain zero = chart_text pool log columns grain
finest_text room pool log columns grain (suc n) =
    pick (ltb (length (chart_text pool log columns grain)) room) (chart_text pool log columns grain)
    (finest_text room pool log (columns / 2) (coarser grain) n)

unfoldable pub picture_text : ℕ → ℕ → List ℕ → List ℕ
picture_text room pool log =
    pick (within pool_min pool_max pool) (finest_text room pool log first_columns first_grain tries) (refusal_text outside_limits 0)
