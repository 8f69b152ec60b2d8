-- `other_word` meets its contract: each way out decides the test.
use borrow.Author.Tests.{lt-ltb, le-ltb, eq-eqb, ne_eqb}
use Rattle.journal_records.specs.Header.{other_word}
use Rattle.journal_records.proofs.headers.other_word.Goals.{else-word-via-then-word+else-word-gt-LETTERS, else-word-via-else-word}
use Rattle.journal_records.proofs.headers.other_word.Goals as goal

pub returns-then-word-gt-LETTERS : goal.returns-then-word-gt-LETTERS
unfolding other_word
returns-then-word-gt-LETTERS c = rw (eq-eqb _ _ c.if-word.true, lt-ltb _ _ c.if-word-gt-LETTERS.true)

pub returns-else-word : goal.returns-else-word
unfolding other_word
returns-else-word c =
    elim c.else-word.branch [
      | else-word-via-then-word+else-word-gt-LETTERS w ↦ rw (eq-eqb _ _ w.if-word.true, le-ltb _ _ w.if-word-gt-LETTERS.false)
      | else-word-via-else-word w ↦ rw (ne_eqb _ _ w.if-word.false)
    ]
