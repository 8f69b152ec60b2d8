-- Whether floor and cap are the box's, as the test of both says it. Rests on the definitions.
use mathlib.Core.Path.{◌≡◌, refl}
use mathlib.Core.Bool.{true, false}
use Prim.Native.Nat.{ℕ}
use lib.Dec.{eqb}
use borrow.Author.Tests.{eq-eqb, eqb-true, not-false}
use Rattle.rules.specs.Limits.{both}
use Rattle.rules.proofs.Tests.{both_l, both_r}
use Rattle.rom_table.specs.Table.{rom_floor, rom_cap, is_other}

module _ (A K : ℕ) where
  pub own : A ≡ rom_floor → K ≡ rom_cap → is_other A K ≡ false
  own e f = rw (eq-eqb A rom_floor e, eq-eqb K rom_cap f) refl

  pub own_numbers_lem : is_other A K ≡ false → (A ≡ rom_floor) × (K ≡ rom_cap)
  own_numbers_lem h =
      let b : both (eqb A rom_floor) (eqb K rom_cap) ≡ true = not-false (both (eqb A rom_floor) (eqb K rom_cap)) h in (
        eqb-true A rom_floor (both_l (eqb A rom_floor) (eqb K rom_cap) b),
        eqb-true K rom_cap (both_r (eqb A rom_floor) (eqb K rom_cap) b),
      )
