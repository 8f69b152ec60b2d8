-- `asked_tick` meets its contract: the question's numbers, and then what the id's title answers.
use mathlib.Core.Logic.{⊎_elim}
use mathlib.Core.Path.{◌≡◌, sym, ap, ◌∙◌}
use mathlib.Core.Bool.{true, false}
use Prim.Native.Nat.{ℕ}
use lib.Dec.{leb}
use native.Mathlib.Omega.{arith}
use borrow.Author.Tests.{le-leb, lt-leb}
use Rattle.rules.specs.Limits.{both, id_max, lane_max, asked_max}
use Rattle.story.specs.declared.Title.{Title}
use Rattle.measures.proofs.Within.{title_ok_lem}
use Rattle.agent_rows.specs.Packed.{title_from, unpacked}
use Rattle.agent_rows.proofs.Inverse.{title_at_lem}
use Rattle.row_calls.specs.inner.Steps.{lane_told, tick_told}
use Rattle.row_calls.proofs.Cells.{told_tick, lane_in, lane_out}
use Rattle.row_calls.proofs.lanes.asked_tick.Goals as goal

pub title_tick-requires-clause-at_value : goal.title_tick-requires-clause-at_value
title_tick-requires-clause-at_value c =
    let r = c.args.row.now in
    (rw (c.title_place.ensures, ← title_at_lem r c.args.id (omega arith)) (title_ok_lem (unpacked r).state c.requires.ok c.args.id (omega arith)), c.if-time-le-ASKED_MAX.true)

pub returns-then-time-le-ASKED_MAX : goal.returns-then-time-le-ASKED_MAX
returns-then-time-le-ASKED_MAX c =
    let a = c.args in
    let r = a.row.now in
    let same = title_at_lem r a.id (omega arith) in
    let place = c.title_place.ensures in
    let fits : both (leb a.id id_max) (both (leb a.lane lane_max) (leb a.time asked_max)) ≡ true =
    simp (le-leb a.id id_max c.if-id-le-ID_MAX.true, le-leb a.lane lane_max c.if-lane-le-LANE_MAX.true, le-leb a.time asked_max c.if-time-le-ASKED_MAX.true) in
    told_tick
    (c.title_tick.ensures.0
    ∙ ap (λ (n : ℕ). lane_told (title_from r n) a.lane a.time) place
    ∙ ap (λ (t : Title). lane_told t a.lane a.time) (sym same))
    (record {
      is =
          c.title_tick.ensures.1.is
          ∙ ap (λ (n : ℕ). tick_told (title_from r n) a.lane a.time) place
          ∙ ap (λ (t : Title). tick_told t a.lane a.time) (sym same);
      high = c.title_tick.ensures.1.high;
    })
    (lane_in (unpacked r).state a.id a.lane a.time c.requires.ok fits)

pub returns : goal.returns
returns c =
    let a = c.args in
    let unfit : both (leb a.id id_max) (both (leb a.lane lane_max) (leb a.time asked_max)) ≡ false =
    ⊎_elim (λ h. simp (le-leb a.id id_max h.0, le-leb a.lane lane_max h.1, lt-leb a.time asked_max h.2))
    (⊎_elim (λ h. simp (le-leb a.id id_max h.0, lt-leb a.lane lane_max h.1)) (λ h. simp (lt-leb a.id id_max h))) c.else-id-le-ID_MAX.either in
    told_tick c.refused.ensures.0 c.refused.ensures.1 (lane_out (unpacked a.row.now).state a.id a.lane a.time c.requires.ok unfit)
