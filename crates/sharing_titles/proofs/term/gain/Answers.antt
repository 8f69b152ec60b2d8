-- `term::gain` meets its contract: below the cap it is rate x tick x the slot of one lane more, which is as
-- much as falls, and it fits 64 bits (proofs/term/Laws).
use Prim.Native.Nat.{◌*◌, ◌≤◌, ◌<◌, ◌^◌}
use borrow.Author.Tests.{lt-ltb, le-ltb}
use Rattle.rules.specs.Limits.{count_max, length_max}
use Rattle.sharing_titles.specs.Term.{worth}
use Rattle.sharing_titles.proofs.term.Laws.{fall_is, slot_fits, part_fits}
use Rattle.sharing_titles.proofs.term.gain.Tie as tie
use Rattle.sharing_titles.proofs.term.gain.Lts as lts
use Rattle.sharing_titles.proofs.term.gain.Reads as reads
use Rattle.sharing_titles.proofs.term.gain.Goals as goal

-- the ms in a slot of one lane more
room : (c : lts.After-slot tie.the-claims reads.Pre reads.Post tie.handed_clauses) → c.tick-tick.result * c.slot.result ≤ length_max * 2 ^ count_max
room c =
    let w = c.requires in
    slot_fits c.tick-tick.ensures.high w.length_high c.slot.ensures.high

pub overflow_mul-result : goal.overflow_mul-result
overflow_mul-result c =
    let w = c.requires in
    record { fits = part_fits w.rate_high (room c.before) }

pub returns-then-count-cap : goal.returns-then-count-cap
unfolding worth
returns-then-count-cap c =
    let s = c.before.before.before.before.before.before.before in
    let below : s.args.k < s.args.t.cap = c.if-count-cap.true in
    rw (lt-ltb _ _ below)
    (fall_is s.args.t s.args.k below c.tick-tick.ensures.is c.slot.ensures.is)

pub returns-else-count-cap : goal.returns-else-count-cap
unfolding worth
returns-else-count-cap c = rw (le-ltb _ _ c.if-count-cap.false)
