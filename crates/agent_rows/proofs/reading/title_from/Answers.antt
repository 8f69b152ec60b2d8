-- `title_from` meets its contract: the rows are copied, and the other numbers stand where the definition has them.
use mathlib.Core.Path.{◌≡◌, refl}
use mathlib.Core.List.{List}
use Prim.Native.Nat.{ℕ}
use Rattle.story.specs.Next.{with_ends, with_rows}
use Rattle.agent_rows.specs.Packed.{title_from}
use Rattle.agent_rows.proofs.reading.title_from.Goals as goal

-- a title with the rows that it has
with_own : (r : List ℕ) (at : ℕ) (e d o : List ℕ) → e ≡ (title_from r at).ends → d ≡ (title_from r at).dropped → o ≡ (title_from r at).owed →
    with_rows (with_ends (title_from r at) e) d o ≡ title_from r at
with_own r at e d o p q s = rw (p, q, s) refl

pub returns : goal.returns
returns c =
    let lanes = c in
    let a = lanes.args in
    with_own a.row.now a.at _ _ _ lanes.numbers_from-ends.ensures lanes.numbers_from-dropped.ensures lanes.numbers_from-owed.ensures
