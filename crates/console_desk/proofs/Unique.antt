-- Two outcomes that a contract of this crate admits are equal.
use Prim.Native.Nat.{ℕ}
use mathlib.Core.Path.{◌≡◌, sym, ap, ◌∙◌}
use mathlib.Core.Bool.{Bool}
use Rattle.rules.specs.OneOutcome.{OneEnd}
use mathlib.Core.List.{List}
use Rattle.agent.specs.declared.Agent.{Agent}
use Rattle.text.specs.Output.{Page, page}
use Rattle.console_desk.specs.declared.Answered.{Answered}
use Rattle.console_desk.specs.Desk.{Left}
use Rattle.console_desk.proofs.answer.Kinds as answer-kinds
use Rattle.console_desk.proofs.answer.Reads as answer-call

-- of `answer`: the agent, the place and whether the session is over, and the lent row, parameter 2, from 0
same_left : {g : Agent} {o : List ℕ} {n : ℕ} {t : List ℕ} {b : Bool} (x y : Answered) (c d : List ℕ) →
    (Left g o n t x.agent c x.at) × (x.over ≡ b) → (Left g o n t y.agent d y.at) × (y.over ≡ b) → (x ≡ y) × (c ≡ d)
same_left x y c d (l, u) (m, v) =
    let agent : x.agent ≡ y.agent = l.agent ∙ sym m.agent in
    let left : page c x.at ≡ page d y.at = l.written ∙ sym m.written in
    let at : x.at ≡ y.at = ap (λ (p : Page). p.at) left in
    let over : x.over ≡ y.over = u ∙ sym v in
    (λ i. record { agent = agent i; at = at i; over = over i }, ap (λ (p : Page). p.row) left)

pub answer_one_outcome : OneEnd 2 answer-kinds.ps answer-kinds.r (λ κs e f. e.1.1.0.now ≡ f.1.1.0.now)
    answer-call.Learnt
answer_one_outcome κs a x y e f p q = same_left x y _ _ p q
