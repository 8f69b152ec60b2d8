-- Which number of a line is out of its limits, in words (docs/CONSOLE.md, "Refusals"): the first from the left with its name and
-- its limits, or, where none is, that the state is.
use Rattle.std.specs.Prelude.{ℕ, ◌<◌, ◌≤◌, ◌≡◌, Bool, true, false, List, ◌++◌, length, get_or, ltb}
use Rattle.rules.specs.Refusals.{pick}
use Rattle.rules.specs.Search.{first}
use Rattle.text.specs.Texts.{text}
use Rattle.text.specs.Digits.{decimal}
use Rattle.console_limits.specs.Quantities.{bounds_of, quantity_name, quantity_at, is_out}

-- the number at a place behind a command is out of its limits
abbrev pub is_out_at : ℕ → List ℕ → ℕ → Bool
is_out_at c ns p = is_out (quantity_at c p) (get_or ns p 0)

-- the first such place; how many numbers there are, where there is none
unfoldable pub first_out : ℕ → List ℕ → ℕ
first_out c ns = first (is_out_at c ns) (length ns)

-- the limits of a quantity, by its name
unfoldable pub bounds_text : ℕ → List ℕ
bounds_text q =
    ((((text ", " ++ quantity_name q) ++ text " is ") ++ decimal (bounds_of q).low) ++ text " to ") ++ decimal (bounds_of q).high

unfoldable pub out_text : ℕ → List ℕ → List ℕ
out_text c ns =
    pick (ltb (first_out c ns) (length ns)) (bounds_text (quantity_at c (first_out c ns))) (text ", the state is out of its limits")

-- what 1 says is so: the number that is named is out of its limits, and none before it is; where none is named the state is, of
-- which `ok` tells whether it is within its own
pub record SaysOut (ok : Bool) (c : ℕ) (ns : List ℕ) : Type 0 where
  pub named : first_out c ns < length ns → is_out_at c ns (first_out c ns) ≡ true
  pub earlier : (p : ℕ) → p < first_out c ns → is_out_at c ns p ≡ false
  pub state : length ns ≤ first_out c ns → ok ≡ false
