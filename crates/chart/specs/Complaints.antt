-- What the program says on standard error beside the picture of a box.
use Rattle.std.specs.Prelude.{ℕ, ◌+◌, min, List, [], ◌++◌, eqb}
use Rattle.rules.specs.Limits.{asked_max}
use Rattle.rules.specs.Refusals.{pick, done, not_there}
use Rattle.text.specs.Texts.{text}
use Rattle.text.specs.Digits.{decimal}
use Rattle.clocks.specs.Clocks.{clock_text}
use Rattle.admissions.specs.Waits.{wait_max}
use Rattle.log_boxes.specs.declared.Beginning.{Beginning}
use Rattle.log_boxes.specs.Box.{is_now}

-- the next admission: no moment that is told of is later than the last that may be asked about, and no wait is longer than the longest
unfoldable pub next_moment : Beginning → ℕ
next_moment b = min b.from asked_max + min b.wait wait_max

unfoldable pub next_words : ℕ → List ℕ
next_words moment = text "the next is " ++ decimal moment ++ text " (" ++ clock_text moment ++ text ")\n"

unfoldable pub no_admission_line : ℕ → Beginning → List ℕ
no_admission_line title b =
    text "? TIME is no admission of title " ++ decimal title ++ text ": "
    ++ pick b.follows (next_words (next_moment b)) (text "none follows\n")

unfoldable pub never_opened_line : ℕ → List ℕ
never_opened_line title = text "? title " ++ decimal title ++ text " was never opened\n"

-- what is told of a moment: nothing where the box begins then
unfoldable pub beginning_line : ℕ → ℕ → Beginning → List ℕ
beginning_line title x b =
    pick (eqb b.answer done) (pick (is_now b x) [] (no_admission_line title b))
    (pick (eqb b.answer not_there) (never_opened_line title) [])
