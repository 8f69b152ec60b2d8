-- Each call's contract settles what it gives back: two outcomes that it admits are equal. Rests on the contracts being
-- equations to definitions.
use Prim.Native.Nat.{ℕ}
use mathlib.Core.Path.{sym, ap₂, ◌∙◌}
use Rattle.rules.specs.OneOutcome.{OneOutcome}
use Rattle.outlook.proofs.when.Kinds as when-kinds
use Rattle.outlook.proofs.when.Reads as when-call
use Rattle.outlook.proofs.start_from.Kinds as start-kinds
use Rattle.outlook.proofs.start_from.Reads as start-call
use Rattle.outlook.proofs.free_lanes.Kinds as free-kinds
use Rattle.outlook.proofs.free_lanes.Reads as free-call
use Rattle.outlook.proofs.room_from.Kinds as room-kinds
use Rattle.outlook.proofs.room_from.Reads as room-call
use Rattle.outlook.proofs.id_free_from.Kinds as id-kinds
use Rattle.outlook.proofs.id_free_from.Reads as id-call
use Rattle.outlook.proofs.presence.Kinds as presence-kinds
use Rattle.outlook.proofs.presence.Reads as presence-call

pub when_one_outcome : OneOutcome 0 when-kinds.ps when-kinds.r when-call.Learnt
when_one_outcome κs a x y e f p q =
    ap₂ (λ (n m : ℕ). record { answer = n; time = m }) (p.0 ∙ sym q.0) (p.1 ∙ sym q.1)

pub start_one_outcome : OneOutcome 0 start-kinds.ps start-kinds.r start-call.Learnt
start_one_outcome κs a x y e f p q = p ∙ sym q

pub free_one_outcome : OneOutcome 0 free-kinds.ps free-kinds.r free-call.Learnt
free_one_outcome κs a x y e f p q = p ∙ sym q

pub room_one_outcome : OneOutcome 0 room-kinds.ps room-kinds.r room-call.Learnt
room_one_outcome κs a x y e f p q = p ∙ sym q

pub id_one_outcome : OneOutcome 0 id-kinds.ps id-kinds.r id-call.Learnt
id_one_outcome κs a x y e f p q = p ∙ sym q

pub presence_one_outcome : OneOutcome 0 presence-kinds.ps presence-kinds.r presence-call.Learnt
presence_one_outcome κs a x y e f p q = p ∙ sym q
