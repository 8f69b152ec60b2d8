-- A notice in words: its sequence, title, kind, time, and what it is answered.
use Rattle.std.specs.Prelude.{ℕ, List, ◌++◌}
use Rattle.notice.specs.declared.Notice.{Notice}
use Rattle.notice.specs.declared.Kind.{Kind}
use Rattle.notice.specs.declared.Kind.TheVariants.{Open, Change, Close, Hold, Lift, Skip}
use Rattle.text.specs.Texts.{text}
use Rattle.text.specs.Digits.{decimal}
use Rattle.clocks.specs.Clocks.{clock_text}
use Rattle.words.specs.Words.{meaning_text}

unfoldable pub act_label : Kind → List ℕ
act_label (Open d a k n) = text "open with " ++ decimal n
act_label (Change n) = text "change to " ++ decimal n
act_label Close = text "close"
act_label Hold = text "hold"
act_label Lift = text "lift"
act_label (Skip d n) = text "skip with " ++ decimal n

unfoldable pub notice_hover : Notice → ℕ → List ℕ
notice_hover n answer =
    text "sequence " ++ decimal n.sequence ++ text ", title " ++ decimal n.title ++ text ", " ++ act_label n.kind
    ++ text " at " ++ clock_text n.time ++ text ": " ++ meaning_text answer
