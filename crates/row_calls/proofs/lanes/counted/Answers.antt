-- `counted` meets its contract: the question's time, the clock, and then the count.
use mathlib.Core.Path.{refl}
use Rattle.agent_rows.specs.Packed.{unpacked}
use Rattle.row_calls.proofs.Cells.{told, held_outside, held_early, held_told}
use Rattle.row_calls.proofs.lanes.counted.Goals as goal

pub returns-then-time-gt-ASKED_MAX : goal.returns-then-time-gt-ASKED_MAX
returns-then-time-gt-ASKED_MAX c =
    let s = c in
    told c.unheld.ensures.0 c.unheld.ensures.1 (held_outside (unpacked s.args.row.now).state s.args.time s.requires.ok c.if-time-gt-ASKED_MAX.true)

pub returns-then-time-last : goal.returns-then-time-last
returns-then-time-last c =
    let fits = c in
    let s = fits in
    told c.unheld-then-time-last.ensures.0 c.unheld-then-time-last.ensures.1
    (held_early (unpacked s.args.row.now).state s.args.time s.requires.ok fits.if-time-gt-ASKED_MAX.false c.if-time-last.true)

pub returns : goal.returns
returns c =
    let fits = c in
    let s = fits in
    told refl c.lanes_held.ensures
    (held_told (unpacked s.args.row.now).state s.args.time s.requires.ok fits.if-time-gt-ASKED_MAX.false c.if-time-last.false)
