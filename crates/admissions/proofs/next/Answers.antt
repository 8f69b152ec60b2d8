-- `admissions::next` meets its contract: whole slots from the opening.
use native.Mathlib.Omega.{arith}
use Rattle.admissions.proofs.Slots.{slots_fit, next_reaches}
use Rattle.admissions.proofs.next.Goals as goal

pub overflow_mul-result : goal.overflow_mul-result
overflow_mul-result c = record { fits = omega (arith, slots_fit _ _ c.requires.spaced c.requires.moment_le_asked_max _ c.max.ensures) }

pub overflow_add-result : goal.overflow_add-result
overflow_add-result c =
    record {
      fits = omega (arith, slots_fit _ _ c.requires.spaced c.requires.moment_le_asked_max _ c.max.ensures, c.requires.spaced.since, c.requires.spaced.early);
    }

pub returns : goal.returns
returns c = next_reaches _ _ c.requires.spaced c.requires.moment_le_asked_max _ c.max.ensures
