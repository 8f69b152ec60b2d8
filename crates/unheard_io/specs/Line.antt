-- The line about the notices of a log that did not count. Nothing is said where all count, or where the log or the pool is refused.
use Rattle.std.specs.Prelude.{ℕ, List, [], ◌++◌, eqb}
use Rattle.rules.specs.Refusals.{pick}
use Rattle.text.specs.Texts.{text}
use Rattle.files.specs.Lines.{line_of}
use Rattle.words.specs.Words.{meaning_text}
use Rattle.unheard.specs.declared.MissedTally.{MissedTally}
use Rattle.unheard.specs.Unheard.{unheard_in}

-- how many of how many, and of the first its number in the log, counted from 1, and its answer in words
unfoldable pub missed_line : MissedTally → List ℕ
missed_line t =
    (((line_of (text "? LOG: ") t.missed (text " of ")
    ++ line_of [] t.notices (text " notices did not count, the first is number "))
    ++ line_of [] t.first (text ": "))
    ++ meaning_text t.said)
    ++ text "\n"

unfoldable pub unheard_line : ℕ → List ℕ → List ℕ
unheard_line pool log =
    pick (eqb (unheard_in pool log).tally.missed 0) [] (missed_line (unheard_in pool log).tally)
