-- `turns_at` meets its contract: what is left of the turn, and what is owed of it and of the next.
use Prim.Native.Nat.{min}
use mathlib.Core.Path.{refl, ap, ◌∙◌}
use native.Mathlib.Omega.{arith}
use native.Mathlib.Nat.{mod-lt}
use Rattle.stretches.proofs.turns.turns_at.Goals as goal

pub nonzero_rem-left : goal.nonzero_rem-left
nonzero_rem-left c = c.period-turn.ensures.low

pub overflow_sub-left : goal.overflow_sub-left
overflow_sub-left c = omega (arith, mod-lt c.args.at {m = c.period-turn.result} (omega (arith, c.period-turn.ensures.low)))

pub due_at-requires : goal.due_at-requires
due_at-requires c = let s = c in
    record { filmed = s.requires.filmed; kind_value = s.requires.kind_value; ended_le_asked_max = (s.requires.ended_le_asked_max.0, omega (arith, s.requires.ended_le_asked_max.1)) }

pub due_at-requires-2 : goal.due_at-requires-2
due_at-requires-2 c = let s = c in
    record { filmed = s.requires.filmed; kind_value = s.requires.kind_value; ended_le_asked_max = (s.requires.ended_le_asked_max.0, omega (arith, s.requires.ended_le_asked_max.1, c.period-turn.ensures.high)) }

pub returns : goal.returns
returns c =
    let p = c.period-turn in
    record {
      left = rw p.ensures.is refl;
      first = rw p.ensures.is at (c.min.ensures ∙ ap (min _) c.due_at.ensures);
      second = rw p.ensures.is at c.due_at-2.ensures;
    }
