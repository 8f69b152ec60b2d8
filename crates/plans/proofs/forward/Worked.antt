-- The plans of a title with 4 lanes for starts 0 to 3, computed from the definition (document 002, figure 3.5b).
use mathlib.Core.Path.{◌≡◌, refl}
use mathlib.Core.List.{List, [], ◌∷◌}
use Prim.Native.Nat.{ℕ}
use Rattle.rules.specs.Search.{some, first}
use Rattle.scheme.specs.Scheme.{takes_from, takes, taken_after, steady_cell}
use Rattle.plans.specs.Forward.{skip_at}

-- the plan of a box that starts at tick a
abbrev four : ℕ → List ℕ
four a =
    skip_at 4 a 0 ∷ skip_at 4 a 1 ∷ skip_at 4 a 2 ∷ skip_at 4 a 3
    ∷ skip_at 4 a 4 ∷ skip_at 4 a 5 ∷ skip_at 4 a 6 ∷ skip_at 4 a 7 ∷ []

pub from_0 : four 0 ≡ 0 ∷ 0 ∷ 0 ∷ 1 ∷ 0 ∷ 1 ∷ 2 ∷ 3 ∷ []
unfolding taken_after first takes takes_from some steady_cell
from_0 = refl

pub from_1 : four 1 ≡ 0 ∷ 0 ∷ 1 ∷ 0 ∷ 3 ∷ 0 ∷ 1 ∷ 2 ∷ []
unfolding taken_after first takes takes_from some steady_cell
from_1 = refl

pub from_2 : four 2 ≡ 0 ∷ 0 ∷ 0 ∷ 1 ∷ 2 ∷ 3 ∷ 0 ∷ 1 ∷ []
unfolding taken_after first takes takes_from some steady_cell
from_2 = refl

pub from_3 : four 3 ≡ 0 ∷ 0 ∷ 1 ∷ 0 ∷ 1 ∷ 2 ∷ 3 ∷ 0 ∷ []
unfolding taken_after first takes takes_from some steady_cell
from_3 = refl
