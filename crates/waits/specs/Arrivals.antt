-- The arrivals that a text spells (02, request 1's program): decimal numbers with spaces, tabs, carriage returns or newlines
-- between; one that 64 bits do not hold is handed on as the largest.
use Rattle.std.specs.Prelude.{ℕ, zero, suc, ◌+◌, ◌*◌, min, Bool, Some, None, is_some, unwrap_or, List, eqb, length, get_or}
use Rattle.rules.specs.Limits.{either}
use Rattle.rules.specs.Refusals.{pick}
use Rattle.text.specs.Bytes.{separator, digit, digit_of}
use Rattle.text.specs.Numbers.{top}
use Rattle.text.specs.Output.{page, put}
use Rattle.waits.specs.declared.arrivals.ArrivalsScan.{ArrivalsScan}

abbrev pub is_gap : ℕ → Bool
is_gap b = either (eqb b 10) (separator b)

-- a text as far as it was read, with the row that its numbers go into
pub record ArrivalsSoFar : Type 0 where
  pub row : List ℕ
  pub scan : ArrivalsScan

abbrev pub arrivals_so_far : List ℕ → ArrivalsScan → ArrivalsSoFar
arrivals_so_far row scan = record { row = row; scan = scan }

-- at first: no number, and none being spelt
abbrev pub no_arrivals : ArrivalsScan
no_arrivals = record { count = 0; spelt = None; wrong = None }

-- the word ends: its number goes into the row, where there is room for it
unfoldable pub ending_arrival : ArrivalsSoFar → ArrivalsSoFar
ending_arrival s =
    pick (is_some s.scan.spelt)
    (arrivals_so_far (put (page s.row s.scan.count) (unwrap_or s.scan.spelt 0)).row
    (record { count = (put (page s.row s.scan.count) (unwrap_or s.scan.spelt 0)).at; spelt = None; wrong = s.scan.wrong }))
    s

-- a digit more of a number
abbrev pub spelling_arrival : ArrivalsSoFar → ℕ → ArrivalsSoFar
spelling_arrival s b =
    arrivals_so_far s.row
    (record
    { count = s.scan.count; spelt = Some (min (10 * unwrap_or s.scan.spelt 0 + digit_of b) top); wrong = s.scan.wrong })

-- a byte that is neither in a number nor between two, at a place
abbrev pub failing_arrival : ArrivalsSoFar → ℕ → ArrivalsSoFar
failing_arrival s place =
    arrivals_so_far s.row
    (record
    { count = s.scan.count; spelt = s.scan.spelt; wrong = Some place })

-- one byte more; the first that has no place there ends it
unfoldable pub taking_arrival : ArrivalsSoFar → ℕ → ℕ → ArrivalsSoFar
taking_arrival s place b =
    pick (is_some s.scan.wrong) s (pick (digit b) (spelling_arrival s b) (pick (is_gap b) (ending_arrival s) (failing_arrival s place)))

-- the first n bytes; places are counted from 1
unfoldable pub arrivals_to : List ℕ → List ℕ → ℕ → ArrivalsSoFar
arrivals_to text row zero = arrivals_so_far row no_arrivals
arrivals_to text row (suc n) = taking_arrival (arrivals_to text row n) (suc n) (get_or text n 0)

abbrev pub all_arrivals : List ℕ → List ℕ → ArrivalsSoFar
all_arrivals text row = ending_arrival (arrivals_to text row (length text))
