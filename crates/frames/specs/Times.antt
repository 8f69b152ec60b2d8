-- Times across the plot: a dozen or so, each a round one.
use Rattle.std.specs.Prelude.{ℕ, zero, suc, ◌+◌, ◌-◌, ◌*◌, ◌/◌, min, List, [], ◌++◌, leb}
use Rattle.rules.specs.Limits.{both}
use Rattle.rules.specs.Refusals.{pick}
use Rattle.text.specs.Texts.{text}
use Rattle.drawing.specs.Axis.{time_mark_text}
use Rattle.drawing.specs.Pieces.{path_text, point_text, step_text, path_end}
use Rattle.strips.specs.declared.scale.Scale.{Scale}
use Rattle.strips.specs.Scale.{place_across}

abbrev pub step_most : ℕ
step_most = 1_099_511_627_776

-- from one time to the next, by the span that is drawn
unfoldable pub round_step : ℕ → ℕ
round_step span =
    pick (leb span 12) 1
    (pick (leb span 1_200) 100
    (pick (leb span 12_000) 1_000
    (pick (leb span 120_000) 10_000
    (pick (leb span 720_000) 60_000
    (pick (leb span 3_600_000) 300_000
    (pick (leb span 10_800_000) 900_000
    (pick (leb span 21_600_000) 1_800_000
    (pick (leb span 43_200_000) 3_600_000 (pick (leb span 172_800_000) 14_400_000 step_most)))))))))

-- a line through the picture at a time, and the time below it
unfoldable pub time_across : Scale → ℕ → ℕ → List ℕ
time_across s base τ =
    path_text (text "grid") ++ point_text 77 (place_across s τ) 780 ++ step_text 86 base ++ path_end ++ time_mark_text (place_across s τ) base τ

-- where it lies in what is drawn
unfoldable pub time_text : Scale → ℕ → ℕ → List ℕ
time_text s base τ = pick (both (leb s.first τ) (leb (τ - s.first) s.span)) (time_across s base τ) []

abbrev pub times_most : ℕ
times_most = 14

-- the first n of them, from the last one before what is drawn on
unfoldable pub times_text : Scale → ℕ → ℕ → List ℕ
times_text s base zero = []
times_text s base (suc n) = times_text s base n ++ time_text s base ((min s.first step_most / round_step s.span + n) * round_step s.span)
