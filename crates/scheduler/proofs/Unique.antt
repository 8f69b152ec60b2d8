-- Each call's contract settles what it gives back: two outcomes that it admits are equal. Rests on the contracts being
-- equations to definitions.
use Prim.Native.Nat.{ℕ}
use mathlib.Core.Path.{◌≡◌, sym, ap₂, ◌∙◌}
use Rattle.rules.specs.OneOutcome.{OneOutcome}
use Rattle.story.specs.declared.State.{State}
use Rattle.scheduler.specs.declared.Outcome.{Outcome}
use Rattle.scheduler.proofs.fresh.Kinds as fresh-kinds
use Rattle.scheduler.proofs.fresh.Reads as fresh-call
use Rattle.scheduler.proofs.call.Kinds as call-kinds
use Rattle.scheduler.proofs.call.Reads as call-call
use Rattle.scheduler.proofs.open.Kinds as open-kinds
use Rattle.scheduler.proofs.open.Reads as open-call
use Rattle.scheduler.proofs.skip.Kinds as skip-kinds
use Rattle.scheduler.proofs.skip.Reads as skip-call
use Rattle.scheduler.proofs.change.Kinds as change-kinds
use Rattle.scheduler.proofs.change.Reads as change-call
use Rattle.scheduler.proofs.close.Kinds as close-kinds
use Rattle.scheduler.proofs.close.Reads as close-call
use Rattle.scheduler.proofs.hold.Kinds as hold-kinds
use Rattle.scheduler.proofs.hold.Reads as hold-call
use Rattle.scheduler.proofs.lift.Kinds as lift-kinds
use Rattle.scheduler.proofs.lift.Reads as lift-call
use Rattle.scheduler.proofs.lane.Kinds as lane-kinds
use Rattle.scheduler.proofs.lane.Reads as lane-call
use Rattle.scheduler.proofs.held.Kinds as held-kinds
use Rattle.scheduler.proofs.held.Reads as held-call

pub fresh_one_outcome : OneOutcome 0 fresh-kinds.ps fresh-kinds.r fresh-call.Learnt
fresh_one_outcome κs a x y e f p q =
    ap₂ (λ (n : ℕ) (s : State). record { answer = n; state = s }) (p.0 ∙ sym q.0) (p.1 ∙ sym q.1)

-- an event's answer and state, each said twice
both_told : {n : ℕ} {s : State} (x y : Outcome) → (x.answer ≡ n) × (x.state ≡ s) → (y.answer ≡ n) × (y.state ≡ s) →
    x ≡ y
both_told x y p q =
    ap₂ (λ (n : ℕ) (s : State). record { answer = n; state = s }) (p.0 ∙ sym q.0) (p.1 ∙ sym q.1)

pub call_one_outcome : OneOutcome 0 call-kinds.ps call-kinds.r call-call.Learnt
call_one_outcome κs a x y e f p q = both_told x y p q

pub open_one_outcome : OneOutcome 0 open-kinds.ps open-kinds.r open-call.Learnt
open_one_outcome κs a x y e f p q = both_told x y p q

pub skip_one_outcome : OneOutcome 0 skip-kinds.ps skip-kinds.r skip-call.Learnt
skip_one_outcome κs a x y e f p q = both_told x y p q

pub change_one_outcome : OneOutcome 0 change-kinds.ps change-kinds.r change-call.Learnt
change_one_outcome κs a x y e f p q = both_told x y p q

pub close_one_outcome : OneOutcome 0 close-kinds.ps close-kinds.r close-call.Learnt
close_one_outcome κs a x y e f p q = both_told x y p q

pub hold_one_outcome : OneOutcome 0 hold-kinds.ps hold-kinds.r hold-call.Learnt
hold_one_outcome κs a x y e f p q = both_told x y p q

pub lift_one_outcome : OneOutcome 0 lift-kinds.ps lift-kinds.r lift-call.Learnt
lift_one_outcome κs a x y e f p q = both_told x y p q

pub lane_one_outcome : OneOutcome 0 lane-kinds.ps lane-kinds.r lane-call.Learnt
lane_one_outcome κs a x y e f p q =
    ap₂ (λ (n m : ℕ). record { answer = n; cell = m }) (p.0 ∙ sym q.0) (p.1 ∙ sym q.1)

pub held_one_outcome : OneOutcome 0 held-kinds.ps held-kinds.r held-call.Learnt
held_one_outcome κs a x y e f p q =
    ap₂ (λ (n m : ℕ). record { answer = n; lanes = m }) (p.0 ∙ sym q.0) (p.1 ∙ sym q.1)
