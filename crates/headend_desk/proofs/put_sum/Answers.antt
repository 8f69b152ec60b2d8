-- `headend_desk::put_sum` meets its contract: the sum's four bytes.
use mathlib.Core.Path.{refl}
use Rattle.text.proofs.Pages.{told_as}
use Rattle.headend_desk.proofs.Keeping.{laid_sum}
use Rattle.headend_desk.proofs.put_sum.Goals as goal

pub returns : goal.returns
returns c = told_as (laid_sum _ _ _ _ refl c.put.ensures c.sum-total.ensures) c.put-2.ensures
