-- The cells that hold film, as so many from the first on. Rests on the rounding up.
use mathlib.Core.Path.{◌≡◌}
use Prim.Native.Nat.{ℕ, suc, ◌+◌, ◌-◌, ◌*◌, ◌/◌, ◌≤◌, ◌<◌}
use native.Mathlib.Omega.{arith}
use native.Mathlib.Nat.{le-div_iff_mul-le}
use lib.Dec.{ltb}
use borrow.Author.Tests.{ltb-true, lt-ltb}
use Rattle.rules.proofs.Tests.{same}
use Rattle.grid.specs.Ticks.{rounded_up}
use Rattle.scheme.specs.Scheme.{film_in}

-- a cell that holds film is one of so many
pub film_cells_lem : (D k c : ℕ) → 0 < k → film_in D k c ≡ ltb c (rounded_up D k)
unfolding film_in rounded_up
film_cells_lem D k c pos =
    same (ltb (c * k) D) (ltb c ((D + (k - 1)) / k))
    (λ t. let h : c * k < D = ltb-true (c * k) D t in lt-ltb c ((D + (k - 1)) / k) ((le-div_iff_mul-le {k = k} {x = suc c} {y = D + (k - 1)} pos).1 (omega arith)))
    (λ t.
    let h : suc c ≤ (D + (k - 1)) / k = ltb-true c ((D + (k - 1)) / k) t in
    let m : suc c * k ≤ D + (k - 1) = (le-div_iff_mul-le {k = k} {x = suc c} {y = D + (k - 1)} pos).0 h in
    lt-ltb (c * k) D (omega arith))
