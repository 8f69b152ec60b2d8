-- Each call's contract settles what it gives back: two outcomes that it admits are equal. Rests on the contracts being
-- equations to definitions.
use Prim.Native.Nat.{ℕ}
use mathlib.Core.Path.{◌≡◌, sym, ap₂, ◌∙◌}
use Rattle.rules.specs.OneOutcome.{OneOutcome}
use Rattle.story.specs.declared.State.{State}
use Rattle.agent.specs.declared.Agent.{Agent}
use Rattle.agent.specs.declared.Followed.{Followed}
use Rattle.agent.proofs.fresh_agent.Kinds as fresh-kinds
use Rattle.agent.proofs.fresh_agent.Reads as fresh-call
use Rattle.agent.proofs.enact.Kinds as enact-kinds
use Rattle.agent.proofs.enact.Reads as enact-call
use Rattle.agent.proofs.heed.Kinds as heed-kinds
use Rattle.agent.proofs.heed.Reads as heed-call
use Rattle.agent.proofs.take.Kinds as take-kinds
use Rattle.agent.proofs.take.Reads as take-call

-- an answer and an agent, each said twice
both_told : {n : ℕ} {g : Agent} (x y : Followed) → (x.answer ≡ n) × (x.agent ≡ g) → (y.answer ≡ n) × (y.agent ≡ g) →
    x ≡ y
both_told x y p q =
    ap₂ (λ (n : ℕ) (g : Agent). record { answer = n; agent = g }) (p.0 ∙ sym q.0) (p.1 ∙ sym q.1)

pub fresh_one_outcome : OneOutcome 0 fresh-kinds.ps fresh-kinds.r fresh-call.Learnt
fresh_one_outcome κs a x y e f p q = both_told x y p q

pub enact_one_outcome : OneOutcome 0 enact-kinds.ps enact-kinds.r enact-call.Learnt
enact_one_outcome κs a x y e f p q =
    ap₂ (λ (n : ℕ) (s : State). record { answer = n; state = s }) (p.0 ∙ sym q.0) (p.1 ∙ sym q.1)

pub heed_one_outcome : OneOutcome 0 heed-kinds.ps heed-kinds.r heed-call.Learnt
heed_one_outcome κs a x y e f p q = both_told x y p q

pub take_one_outcome : OneOutcome 1 take-kinds.ps take-kinds.r take-call.Learnt
take_one_outcome κs a x y e f p q = both_told x y p q
