-- The arrays of an agent keep their lengths, whatever byte strings it takes. Rests on those of a fresh agent having them, and on a notice
-- leaving them as they were.
use mathlib.Core.List.{List, [], ◌∷◌}
use Prim.Native.Nat.{ℕ}
use Rattle.notice.specs.Decode.{read_of}
use Rattle.agent.specs.Series.{agent_after}
use Rattle.agent_rows.specs.Packed.{WholeAgent}
use Rattle.row_calls.proofs.Whole.{whole_fresh, whole_noticed}

pub after_whole_lem : (pool : ℕ) (bss : List (List ℕ)) → WholeAgent (agent_after pool bss)
unfolding agent_after
after_whole_lem pool [] = whole_fresh pool
after_whole_lem pool (bs ∷ bss) = whole_noticed (agent_after pool bss) (read_of bs) (after_whole_lem pool bss)
