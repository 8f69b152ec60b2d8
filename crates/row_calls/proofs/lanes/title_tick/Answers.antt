-- `title_tick` meets its contract: each way out decides the tests up to it.
use mathlib.Core.Path.{refl, sym}
use Prim.Native.Nat.{◌≤◌, ◌<◌}
use native.Mathlib.Omega.{arith}
use borrow.Author.Tests.{lt-ltb}
use Rattle.grid.specs.Bounds.{tick_max}
use Rattle.story.specs.Kept.{ruling}
use Rattle.measures.proofs.Within.{readable, sending}
use Rattle.owed.proofs.Shown.{tick_active}
use Rattle.agent_rows.specs.Packed.{title_from}
use Rattle.row_calls.proofs.Cells.{told_tick, asked_early, asked_absent, asked_above, asked_held, active_is_held}
use Rattle.row_calls.proofs.lanes.title_tick.Tie as tie
use Rattle.row_calls.proofs.lanes.title_tick.Lts as lts
use Rattle.row_calls.proofs.lanes.title_tick.Reads as reads
use Rattle.row_calls.proofs.lanes.title_tick.Goals as goal

-- the tick is one that may be asked about
capped_tick : (c : lts.After-tick_at tie.the-claims reads.Pre reads.Post tie.handed_clauses) → c.tick_at-tick.result ≤ tick_max
capped_tick c = omega (arith, c.tick_at-tick.ensures.high, c.requires.at_value.1)

pub returns-then-time-last : goal.returns-then-time-last
returns-then-time-last c =
    let s = c in
    told_tick c.refused.ensures.0 c.refused.ensures.1 (asked_early (title_from s.args.row.now s.args.at) s.args.lane s.args.time c.if-time-last.true)

pub returns-then-mode-eq-ABSENT : goal.returns-then-mode-eq-ABSENT
returns-then-mode-eq-ABSENT c =
    let late = c in
    let s = late in
    told_tick c.refused-then-mode-eq-ABSENT.ensures.0 c.refused-then-mode-eq-ABSENT.ensures.1 (asked_absent (title_from s.args.row.now s.args.at) s.args.lane s.args.time late.if-time-last.false c.if-mode-eq-ABSENT.true)

pub returns-then-cap-lane : goal.returns-then-cap-lane
returns-then-cap-lane c =
    let there = c in
    let late = there in
    let s = late in
    told_tick c.refused-then-cap-lane.ensures.0 c.refused-then-cap-lane.ensures.1 (asked_above (title_from s.args.row.now s.args.at) s.args.lane s.args.time late.if-time-last.false there.if-mode-eq-ABSENT.false c.if-cap-lane.true)

pub tick_at-tick-requires : goal.tick_at-tick-requires
tick_at-tick-requires c = let there = c in
    let s = c in
    record { title_places_in_bounds = s.requires.title_places_in_bounds; filmed = readable (title_from s.args.row.now s.args.at) s.requires.at_value.0 there.if-mode-eq-ABSENT.false }

pub returns-then-lane-ruling : goal.returns-then-lane-ruling
returns-then-lane-ruling c =
    let ruled = c in
    let capped = ruled in
    let there = capped in
    let s = capped in
    let t = title_from s.args.row.now s.args.at in
    let tick = ruled.tick_at-tick.result in
    let active : s.args.lane < ruling t = rw ruled.ruling.ensures at c.if-lane-ruling.true in
    told_tick refl (record { is = sym (tick_active t s.args.lane tick (lt-ltb _ _ active)); high = capped_tick ruled.before.before.before })
    (rw (active_is_held t s.args.lane tick active) at (asked_held t s.args.lane s.args.time there.if-time-last.false there.if-mode-eq-ABSENT.false capped.if-cap-lane.false tick ruled.tick_at-tick.ensures.is))

pub owed_tick-requires : goal.owed_tick-requires
owed_tick-requires c = let ruled = c in
    let capped = ruled in
    let there = capped in
    let s = capped in
    let t = title_from s.args.row.now s.args.at in record {
      title_places_in_bounds = s.requires.title_places_in_bounds;
      above = record {
        ok = s.requires.at_value.0;
        sending = sending t s.requires.at_value.0 there.if-mode-eq-ABSENT.false;
        above = rw ruled.ruling.ensures at c.if-lane-ruling.false;
        capped = capped.if-cap-lane.false;
        early = capped_tick ruled.before.before.before;
      };
    }

pub returns : goal.returns
returns c =
    let ruled = c in
    let capped = ruled in
    let there = capped in
    let s = capped in
    told_tick c.owed_tick.ensures.0 c.owed_tick.ensures.1
    (asked_held (title_from s.args.row.now s.args.at) s.args.lane s.args.time there.if-time-last.false there.if-mode-eq-ABSENT.false capped.if-cap-lane.false ruled.tick_at-tick.result ruled.tick_at-tick.ensures.is)
