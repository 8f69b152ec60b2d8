-- The calls' contracts settle what they give back and what they write: two outcomes that one of them admits are equal. Rests on their
-- equations.
use mathlib.Core.Path.{◌≡◌, sym, ap, ◌∙◌}
use Rattle.rules.specs.OneOutcome.{OneEnd, OneOutcome}
use Rattle.text.specs.Output.{Page}
use Rattle.playouts.proofs.answer_of.Kinds as answer-kinds
use Rattle.playouts.proofs.answer_of.Reads as answer-call
use Rattle.playouts.proofs.put_playout.Kinds as text-kinds
use Rattle.playouts.proofs.put_playout.Reads as text-call

pub answer_one_outcome : OneOutcome 1 answer-kinds.ps answer-kinds.r answer-call.Learnt
answer_one_outcome κs a x y e f p q = p ∙ sym q

-- the row that is written is parameter 0
pub text_one_outcome : OneEnd 2 text-kinds.ps text-kinds.r (λ κs e f. e.0.now ≡ f.0.now) text-call.Learnt
text_one_outcome κs a x y e f p q =
    (ap (λ (o : Page). o.at) (p ∙ sym q), ap (λ (o : Page). o.row) (p ∙ sym q))
