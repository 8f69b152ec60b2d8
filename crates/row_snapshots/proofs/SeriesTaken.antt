-- Taking a series from an agent after another is hearing both in order, and taking it in place leaves the row of that agent.
-- Rests on a notice that is taken in place.
use mathlib.Core.Path.{◌≡◌, refl, ap, ◌∙◌}
use mathlib.Core.List.{List, [], ◌∷◌, ◌++◌}
use Prim.Native.Nat.{ℕ, zero, suc}
use Rattle.notice.specs.Decode.{read_of}
use Rattle.agent.specs.declared.Agent.{Agent}
use Rattle.agent.specs.Turns.{noticed}
use Rattle.agent.specs.Series.{agent_after}
use Rattle.agent_rows.specs.Packed.{packed}
use Rattle.row_calls.specs.Answers.{row_after_notice}
use Rattle.row_snapshots.specs.Taken.{taken_from, row_taken, AllBytes}
use Rattle.row_snapshots.proofs.Whole.{after_whole_lem}
use Rattle.row_snapshots.proofs.Sequence.{after_fits}
use Rattle.row_snapshots.proofs.InPlace.{taken_in_place}

pub from_there : (pool : ℕ) (earlier later : List (List ℕ)) → taken_from (agent_after pool earlier) later ≡ agent_after pool (later ++ earlier)
unfolding taken_from agent_after
from_there pool earlier [] = refl
from_there pool earlier (bs ∷ later) = ap (λ (g : Agent). noticed g (read_of bs)) (from_there pool earlier later)

-- ---- in place

all_bytes : (later earlier : List (List ℕ)) → AllBytes later → AllBytes earlier → AllBytes (later ++ earlier)
all_bytes [] earlier f g i = g i
all_bytes (bs ∷ later) earlier f g zero = f zero
all_bytes (bs ∷ later) earlier f g (suc i) = all_bytes later earlier (λ j. f (suc j)) g i

pub row_from_there : (pool : ℕ) (earlier later : List (List ℕ)) → AllBytes earlier → AllBytes later
    → row_taken (packed (agent_after pool earlier)) later ≡ packed (agent_after pool (later ++ earlier))
unfolding row_taken agent_after
row_from_there pool earlier [] old new = refl
row_from_there pool earlier (bs ∷ later) old new =
    let newer : AllBytes later = λ i. new (suc i) in
    let all = later ++ earlier in
    ap (λ (row : List ℕ). row_after_notice row (read_of bs)) (row_from_there pool earlier later old newer)
    ∙ taken_in_place (agent_after pool all) (after_whole_lem pool all) (after_fits pool all (all_bytes later earlier newer old)) (read_of bs)
