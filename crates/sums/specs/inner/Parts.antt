-- The registers of four parts of a row.
use Rattle.std.specs.Prelude.{ℕ, ◌*◌, ◌≡◌, List}
use Rattle.sums.specs.declared.Registers.{Registers}
use Rattle.sums.specs.Crc.{ones}
use Rattle.sums.specs.inner.Moves.{register_from}

-- the first begins with ones, as the whole row does, and the others with nothing
pub record InParts (bs : List ℕ) (m : ℕ) (p : Registers) : Type 0 where
  pub first : p.0 ≡ register_from bs 0 ones m
  pub second : p.1 ≡ register_from bs m 0 m
  pub third : p.2 ≡ register_from bs (2 * m) 0 m
  pub fourth : p.3 ≡ register_from bs (3 * m) 0 m
