-- What a call answered (docs/CONSOLE.md, "Answers"): 0, alone or with a number, or the refusal in words.
use Rattle.std.specs.Prelude.{ℕ, List, [], ◌++◌, eqb}
use Rattle.rules.specs.Refusals.{pick, done}
use Rattle.text.specs.Texts.{text}
use Rattle.words.specs.Words.{refusal_text}
use Rattle.console_answers.specs.Entries.{entry}

-- x is the number that the words of a refusal name
unfoldable pub done_text : ℕ → ℕ → List ℕ
done_text a x = pick (eqb a done) (text "0") (refusal_text a x)

-- what stands behind the 0, and nothing behind a refusal
unfoldable pub with_text : ℕ → ℕ → List ℕ → List ℕ
with_text a x more = done_text a x ++ pick (eqb a done) more []

unfoldable pub value_text : ℕ → ℕ → ℕ → List ℕ
value_text a v x = with_text a x (entry v)
