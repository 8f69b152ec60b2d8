-- The sharing call's contract settles answer and row: two outcomes that it admits are equal. Rests on its record of equations.
use mathlib.Core.Path.{◌≡◌, sym, ◌∙◌}
use Rattle.rules.specs.OneOutcome.{OneEnd}
use Rattle.sharing.proofs.share.Kinds as share-kinds
use Rattle.sharing.proofs.share.Reads as share-call

-- the row of counts is parameter 5, from 0
pub one_outcome : OneEnd 5 share-kinds.ps share-kinds.r (λ κs e f. e.1.1.1.1.1.0.now ≡ f.1.1.1.1.1.0.now)
    share-call.Learnt
one_outcome κs a x y e f p q = (p.answer ∙ sym q.answer, p.counts ∙ sym q.counts)
