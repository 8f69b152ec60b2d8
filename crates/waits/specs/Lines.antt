-- What the program prints (02, request 1's program): six lines, or a refusal's number and its meaning.
use Rattle.std.specs.Prelude.{ℕ, ◌+◌, ◌-◌, ◌*◌, ◌/◌, List, ◌++◌, eqb}
use Rattle.rules.specs.Refusals.{pick, done}
use Rattle.text.specs.Texts.{text}
use Rattle.files.specs.Lines.{line_of}
use Rattle.words.specs.Words.{refusal_text}
use Rattle.admissions.specs.declared.Waits.{Waits}
use Rattle.waiting.specs.declared.Report.{Report}

-- s over n to the nearest whole number, halves up; 0 over none
unfoldable pub nearest : ℕ → ℕ → ℕ
nearest s n = pick (eqb n 0) 0 ((2 * s + n) / (2 * n))

-- who got in, and who was turned away
unfoldable pub count_lines : ℕ → ℕ → List ℕ
count_lines arrivals admitted =
    (line_of (text "arrivals ") arrivals (text "\n") ++ line_of (text "admitted ") admitted (text "\n"))
    ++ line_of (text "turned away ") (arrivals - admitted) (text "\n")

unfoldable pub mean_line : Waits → List ℕ
mean_line w =
    pick (eqb w.admitted 0) (text "mean wait -\n") (line_of (text "mean wait ") (nearest w.sum w.admitted) (text " ms\n"))

-- the longest wait, the sum and the mean
unfoldable pub wait_lines : Waits → List ℕ
wait_lines w =
    (line_of (text "longest wait ") w.longest (text " ms\n") ++ line_of (text "sum of waits ") w.sum (text " ms\n"))
    ++ mean_line w

unfoldable pub report_text : Report → List ℕ
report_text r =
    pick (eqb r.answer done) (count_lines r.arrivals r.waits.admitted ++ wait_lines r.waits)
    (refusal_text r.answer 0 ++ text "\n")
