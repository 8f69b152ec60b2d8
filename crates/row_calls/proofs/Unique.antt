-- Each call's contract settles what it gives back and the row that it leaves: two outcomes that it admits are equal. Rests on the contracts
-- being equations to definitions.
use Prim.Native.Nat.{ℕ}
use mathlib.Core.Path.{◌≡◌, sym, ap₂, ◌∙◌}
use Rattle.rules.specs.OneOutcome.{OneOutcome, OneEnd}
use Rattle.row_calls.proofs.events.event.Kinds as event-kinds
use Rattle.row_calls.proofs.events.event.Reads as event-call
use Rattle.row_calls.proofs.notices.take.Kinds as take-kinds
use Rattle.row_calls.proofs.notices.take.Reads as take-call
use Rattle.row_calls.proofs.starting.fresh.Kinds as fresh-kinds
use Rattle.row_calls.proofs.starting.fresh.Reads as fresh-call
use Rattle.row_calls.proofs.titles.status.Kinds as status-kinds
use Rattle.row_calls.proofs.titles.status.Reads as status-call
use Rattle.row_calls.proofs.lanes.lane.Kinds as lane-kinds
use Rattle.row_calls.proofs.lanes.lane.Reads as lane-call
use Rattle.row_calls.proofs.lanes.shown_tick.Kinds as tick-kinds
use Rattle.row_calls.proofs.lanes.shown_tick.Reads as tick-call
use Rattle.row_calls.proofs.lanes.held.Kinds as held-kinds
use Rattle.row_calls.proofs.lanes.held.Reads as held-call

-- the row is the first parameter
pub event_one_outcome : OneEnd 1 event-kinds.ps event-kinds.r (λ κs e f. e.0.now ≡ f.0.now) event-call.Learnt
event_one_outcome κs a x y e f p q = (p.0 ∙ sym q.0, p.1 ∙ sym q.1)

pub take_one_outcome : OneEnd 2 take-kinds.ps take-kinds.r (λ κs e f. e.0.now ≡ f.0.now) take-call.Learnt
take_one_outcome κs a x y e f p q = (p.0 ∙ sym q.0, p.1 ∙ sym q.1)

pub fresh_one_outcome : OneEnd 1 fresh-kinds.ps fresh-kinds.r (λ κs e f. e.0.now ≡ f.0.now) fresh-call.Learnt
fresh_one_outcome κs a x y e f p q = (p.0 ∙ sym q.0, p.1 ∙ sym q.1)

pub lane_one_outcome : OneOutcome 1 lane-kinds.ps lane-kinds.r lane-call.Learnt
lane_one_outcome κs a x y e f p q =
    ap₂ (λ (n m : ℕ). record { answer = n; cell = m }) (p.0 ∙ sym q.0) (p.1 ∙ sym q.1)

pub shown_tick_one_outcome : OneOutcome 1 tick-kinds.ps tick-kinds.r tick-call.Learnt
shown_tick_one_outcome κs a x y e f p q =
    ap₂ (λ (n m : ℕ). record { answer = n; tick = m }) (p.0 ∙ sym q.0) (p.1.is ∙ sym q.1.is)

pub held_one_outcome : OneOutcome 1 held-kinds.ps held-kinds.r held-call.Learnt
held_one_outcome κs a x y e f p q =
    ap₂ (λ (n m : ℕ). record { answer = n; lanes = m }) (p.0 ∙ sym q.0) (p.1 ∙ sym q.1)

-- the rows of counts, of lanes held and of marks, parameters 3 to 5, from 0
pub status_one_outcome :
    OneEnd 5 status-kinds.ps status-kinds.r
    (λ κs e f. (e.1.1.1.0.now ≡ f.1.1.1.0.now)
    × ((e.1.1.1.1.0.now ≡ f.1.1.1.1.0.now) × (e.1.1.1.1.1.0.now ≡ f.1.1.1.1.1.0.now)))
    status-call.Learnt
status_one_outcome κs a x y e f p q =
    let same : x ≡ y = p.0 ∙ sym q.0 in (
      same,
      (
        rw same at p.1.0 ∙ sym q.1.0,
        (rw same at p.1.1.0 ∙ sym q.1.1.0, rw same at p.1.1.1 ∙ sym q.1.1.1),
      ),
    )
