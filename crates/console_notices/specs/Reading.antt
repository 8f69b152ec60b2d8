-- A notice that was read, in the words of the line that writes it (docs/CONSOLE.md, "Commands": read).
use Rattle.std.specs.Prelude.{ℕ, List, [], ◌∷◌, ◌++◌}
use Rattle.rules.specs.Refusals.{malformed}
use Rattle.notice.specs.declared.Notice.{Notice}
use Rattle.notice.specs.declared.Kind.{Kind}
use Rattle.notice.specs.declared.Kind.TheVariants.{Open, Change, Close, Hold, Lift, Skip}
use Rattle.notice.specs.declared.Reading.{Reading}
use Rattle.notice.specs.declared.Reading.TheVariants as reading
use Rattle.text.specs.Texts.{text}
use Rattle.words.specs.Words.{refusal_text}
use Rattle.console_answers.specs.Entries.{entry, numbers_text}

-- the kind with the numbers of its notice: id, time, and its own
abbrev pub kind_text : ℕ → ℕ → Kind → List ℕ
kind_text id time (Open d a k n) = text " open" ++ numbers_text (id ∷ time ∷ d ∷ a ∷ k ∷ n ∷ []) 6
kind_text id time (Change n) = text " change" ++ numbers_text (id ∷ time ∷ n ∷ []) 3
kind_text id time Close = text " close" ++ numbers_text (id ∷ time ∷ []) 2
kind_text id time Hold = text " hold" ++ numbers_text (id ∷ time ∷ []) 2
kind_text id time Lift = text " lift" ++ numbers_text (id ∷ time ∷ []) 2
kind_text id time (Skip d n) = text " skip" ++ numbers_text (id ∷ time ∷ d ∷ n ∷ []) 4

unfoldable pub notice_text : Notice → List ℕ
notice_text n = (text "0" ++ entry n.sequence) ++ kind_text n.title n.time n.kind

abbrev pub reading_text : Reading → List ℕ
reading_text (reading.Whole n) = notice_text n
reading_text reading.Malformed = refusal_text malformed 0
