-- Rates by id, as a line names them (docs/CONSOLE.md, "Commands": balance): behind its time an id and a rate for each title
-- that has another than the usual one.
use Rattle.std.specs.Prelude.{ℕ, zero, suc, ◌+◌, ◌-◌, ◌*◌, ◌/◌, min, List, leb, get_or, set, replicate}
use Rattle.rules.specs.Limits.{id_max, titles_max}
use Rattle.rules.specs.Refusals.{pick}
use Rattle.text.specs.Numbers.{four_bytes_most}

-- a line has up to so many pairs of an id and a rate
abbrev pub pairs_most : ℕ
pairs_most = titles_max

-- the rate of a title that the line leaves out
abbrev pub usual_rate : ℕ
usual_rate = 1

-- the pairs of a line of so many numbers
unfoldable pub pairs_in : ℕ → ℕ
pairs_in count = min ((count - 1) / 2) pairs_most

-- the id and the rate of the k-th pair, from 0
abbrev pub pair_id : List ℕ → ℕ → ℕ
pair_id numbers k = get_or numbers (1 + 2 * k) 0

abbrev pub pair_rate : List ℕ → ℕ → ℕ
pair_rate numbers k = get_or numbers (2 + 2 * k) 0

-- the row with a rate at an id; one that is no id has no place
unfoldable pub with_rate : List ℕ → ℕ → ℕ → List ℕ
with_rate row i r = pick (leb i id_max) (set row i (min r four_bytes_most)) row

-- the rates by id, of the first n pairs: of two rates of one id the last counts
unfoldable pub rates_by : List ℕ → ℕ → List ℕ
rates_by numbers zero = replicate titles_max usual_rate
rates_by numbers (suc n) = with_rate (rates_by numbers n) (pair_id numbers n) (pair_rate numbers n)
