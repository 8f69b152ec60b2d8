-- `notice::read` meets its contract: the notice at the start, where it is all that the bytes are.
-- Rests on what is there where a whole notice stands.
use borrow.Author.Rules.{rules}
use mathlib.Core.Path.{sym, ◌∙◌}
use native.Mathlib.Omega.{arith}
use Rattle.rules.proofs.Tests.{both_l}
use Rattle.notice_bytes.proofs.Whole.{Stood, stood}
use Rattle.notice.specs.Decode.{read_of}
use Rattle.notice.proofs.Answers.{reads}
use Rattle.notice.proofs.read.Tie as tie
use Rattle.notice.proofs.read.Lts as lts
use Rattle.notice.proofs.read.Reads as reads
use Rattle.notice.proofs.read.Goals as goal

-- where the test of one notice and nothing after it passed
here : (c : lts.Then1 tie.the-claims reads.Pre reads.Post) → Stood c.args.bytes.now 0
here c = stood _ 0 (both_l _ _ (sym c.alone.ensures ∙ c.if-alone.true))

pub bounds-bytes-3 : goal.bounds-bytes-3
bounds-bytes-3 c = omega (arith, (here c.before.before).fits, (here c.before.before).headed)

pub notice_in-requires : goal.notice_in-requires
notice_in-requires c = ((here c.before.before).fits, (here c.before.before).known)

pub returns-then-alone : goal.returns-then-alone
unfolding read_of
returns-then-alone c =
    let tested = c in
    reads _ (rw (c.notice_in.ensures, ← tested.alone.ensures, tested.if-alone.true))

pub returns-else-alone : goal.returns-else-alone
unfolding read_of
returns-else-alone c = reads _ (rw (← c.alone.ensures, c.if-alone.false))
