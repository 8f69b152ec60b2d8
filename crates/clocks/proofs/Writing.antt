-- Laws of a time's writing: its parts digit by digit, and the whole with and without a part of a second.
use Prim.Native.Nat.{ℕ, ◌/◌}
use mathlib.Core.Path.{◌≡◌}
use mathlib.Core.List.{[], ◌∷◌}
use Rattle.clocks.specs.Clocks.{colon, point, last_digit, part_text, thousandths_text}

pub part_is : (n a b : ℕ) → a ≡ last_digit (n / 10) → b ≡ last_digit n → colon ∷ a ∷ b ∷ [] ≡ part_text n
part_is n a b e f = rw (e, f)

pub thousandths_is : (n a b c : ℕ) → a ≡ last_digit (n / 100) → b ≡ last_digit (n / 10) → c ≡ last_digit n
    → point ∷ a ∷ b ∷ c ∷ [] ≡ thousandths_text n
thousandths_is n a b c e f g = rw (e, f, g)
