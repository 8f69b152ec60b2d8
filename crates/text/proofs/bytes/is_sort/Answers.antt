-- `text::bytes::is_sort` meets its contract: each arm is a case of the definition.
use Rattle.text.specs.Bytes.{is_sort}
use Rattle.text.proofs.bytes.is_sort.Goals as goal

pub returns-in-Separator : goal.returns-in-Separator
unfolding is_sort
returns-in-Separator c = rw c.in-Separator.is (cc)

pub returns-in-Word : goal.returns-in-Word
unfolding is_sort
returns-in-Word c = rw c.in-Word.is (cc)

pub returns-in-Digit : goal.returns-in-Digit
unfolding is_sort
returns-in-Digit c = rw c.in-Digit.is (cc)

pub returns-in-Hex : goal.returns-in-Hex
unfolding is_sort
returns-in-Hex c = rw c.in-Hex.is (cc)

pub returns-in-Line : goal.returns-in-Line
unfolding is_sort
returns-in-Line c = rw c.in-Line.is
