-- Laws of the columns of a line: how long they are, and that their numbers stand in the line.
use Prim.Native.Nat.{ℕ, zero, suc, ◌+◌, ◌*◌, ◌<◌, ◌≤◌, min}
use mathlib.Core.Path.{◌≡◌, refl, ◌∙◌}
use mathlib.Core.List.{List}
use native.Mathlib.Nat.{mul-le-mul}
use native.Mathlib.Omega.{arith}
use lib.ListN.{length, get_or, length-set}
use Rattle.text.specs.Numbers.{four_bytes_most}
use Rattle.console_commands.specs.Commands.{titles_most, title_numbers}
use Rattle.console_lines.specs.Lines.{numbers_most}
use Rattle.console_pools.specs.Shares.{column}

pub column_length : (numbers : List ℕ) (first apart n : ℕ) → length (column numbers first apart n) ≡ titles_most
unfolding column
column_length numbers first apart zero = refl
column_length numbers first apart (suc n) =
    length-set (column numbers first apart n) n (min (get_or numbers (first + apart * n) 0) four_bytes_most)
    ∙ column_length numbers first apart n

-- such a number stands in the line
pub in_line : (first apart i : ℕ) → first ≤ title_numbers → apart ≤ title_numbers → i < titles_most
    → (apart * i ≤ title_numbers * 16) × (first + apart * i < numbers_most)
in_line first apart i f a l =
    let below : i ≤ 16 = omega arith in
    let most : apart * i ≤ title_numbers * 16 = mul-le-mul a below in
    (most, omega arith)
