-- `notice::found_from` meets its contract: what stands at the start of the log's part from the place on, counted in the log.
-- Rests on a reading being that of the part.
use borrow.Author.Rules.{rules}
use native.Mathlib.Omega.{arith}
use Rattle.notice.proofs.Answers.{finds}
use Rattle.notice.proofs.Part.{from_part, part_fits}
use Rattle.notice.proofs.found_from.Goals as goal

pub counted_on-requires : goal.counted_on-requires
counted_on-requires c =
    part_fits _ _ _ _ c.part_from.ensures c.read_at-first.ensures.is (omega arith) (omega arith)

pub returns : goal.returns
returns c =
    finds _ _
    (from_part _ _ _ _ _ c.part_from.ensures c.read_at-first.ensures.is c.counted_on.ensures)
