-- `summing::sum_next` meets its contract, by what its reader finds at the place.
use mathlib.Core.Path.{refl, sym, ◌∙◌}
use native.Mathlib.Omega.{arith}
use Rattle.notice.proofs.NoticePlaces.{inside}
use Rattle.journals.proofs.SumsMade.{sum_laid, no_sum}
use Rattle.journals.proofs.summing.sum_next.Goals as goal

pub lay_sum-requires : goal.lay_sum-requires
lay_sum-requires c =
    let i = inside _ _ _ _ (sym c.next_in.ensures.is ∙ c.in-At.is) in
    (omega (arith, i.ahead), (i.within, c.requires))

pub returns : goal.returns
returns c = sum_laid _ _ _ _ _ _ _ (sym c.next_in.ensures.is ∙ c.in-At.is) c.lay_sum.ensures

pub returns-in_default : goal.returns-in_default
returns-in_default c = no_sum _ _ _ _ _ _ (sym c.next_in.ensures.is) c.in_default.not-At refl
