-- How the code judges: backwards over the ticks, with for each cell the next tick at which some lane shows it, then forwards
-- over the marks. The contract of `judge` cites nothing of this; proofs/ shows that it comes to what a life says.
use Rattle.std.specs.Prelude.{ℕ, zero, suc, ◌+◌, ◌≤◌, ◌<◌, ◌≡◌, Bool, true, false, not, List, leb, ltb, eqb, get_or, length, set}
use Rattle.rules.specs.Limits.{both, plan_places}
use Rattle.rules.specs.Refusals.{pick}
use Rattle.scheme.specs.Scheme.{film_in}
use Rattle.judging.specs.declared.Counts.{Counts}
use Rattle.judging.specs.Record.{nothing_seen, lowest, ticks_max, ticks_in, seen, is_shown, is_in_time}

-- the next ticks after the first n lanes of tick t were noted: a number that is no cell has no place
unfoldable pub noted : List ℕ → ℕ → List ℕ → ℕ → List ℕ
noted r t next zero = next
noted r t next (suc l) = set (noted r t next l) (seen r t l) t

-- for each cell the next tick from tick a on at which some lane shows it
pub record Nexts (r : List ℕ) (a : ℕ) (next : List ℕ) : Type 0 where
  pub size : length next ≡ plan_places
  pub none_before : (c u : ℕ) → c < plan_places → a ≤ u → u < ticks_in r → u < get_or next c 0 → is_shown r c u ≡ false
  pub shown : (c : ℕ) → c < plan_places → get_or next c 0 < nothing_seen →
      (a ≤ get_or next c 0) × (is_shown r c (get_or next c 0) ≡ true)

-- of a film of D ms with ticks of τ ms, cell c holds film and is next shown after its turn, for a box that begins at tick a
unfoldable pub is_late : ℕ → ℕ → List ℕ → ℕ → ℕ → Bool
is_late D τ next a c = both (film_in D τ c) (ltb (a + c) (get_or next c 0))

-- the same by the record
unfoldable pub is_unseen : ℕ → ℕ → List ℕ → ℕ → ℕ → Bool
is_unseen D τ r a c = both (film_in D τ c) (not (is_in_time r a c))

-- for each tick from tick a on from which as many ticks as there are cells lie in the record, the lowest cell that is unseen
pub record Results (r : List ℕ) (cells D τ a : ℕ) (found : List ℕ) : Type 0 where
  pub size : length found ≡ ticks_max
  pub result : (b : ℕ) → a ≤ b → b + cells ≤ ticks_in r → b < ticks_in r → get_or found b 0 ≡ lowest (is_unseen D τ r b) cells

-- a tick that is an admission or not, whole or not, and has a result: the counts and the row after it
unfoldable pub counts_after : ℕ → Bool → Bool → Counts → Counts
counts_after x admission whole w =
    record {
      judged = w.judged + pick (both admission whole) 1 0;
      played = w.played + pick (both (both admission whole) (eqb x nothing_seen)) 1 0;
      outlast = w.outlast + pick (both admission (not whole)) 1 0;
    }

unfoldable pub result_put : ℕ → Bool → Bool → Counts → List ℕ → List ℕ
result_put x admission whole w row = pick (both admission whole) (set row w.judged x) row

pub record OneMore (x : ℕ) (admission whole : Bool) (w : Counts) (row after : List ℕ) (v : Counts) : Type 0 where
  pub left : after ≡ result_put x admission whole w row
  pub counts : v ≡ counts_after x admission whole w

-- counts of few ticks, and a row of n places with room for one result more
pub record FewCounts (w : Counts) (n : ℕ) : Type 0 where
  pub judged_few : (w.judged < n) × (w.judged < ticks_max)
  pub played_few : w.played < ticks_max
  pub outlast_few : w.outlast < ticks_max

-- the counts after the first a of n ticks, from the results of the ticks and the marks
unfoldable pub counts_to : List ℕ → List ℕ → ℕ → ℕ → ℕ → Counts
counts_to found marks cells n zero = record { judged = 0; played = 0; outlast = 0 }
counts_to found marks cells n (suc a) =
    counts_after (get_or found a 0) (eqb (get_or marks a 0) 1) (leb (a + cells) n) (counts_to found marks cells n a)

-- and the row
unfoldable pub row_to : List ℕ → List ℕ → ℕ → ℕ → List ℕ → ℕ → List ℕ
row_to found marks cells n row zero = row
row_to found marks cells n row (suc a) =
    result_put (get_or found a 0) (eqb (get_or marks a 0) 1) (leb (a + cells) n) (counts_to found marks cells n a)
    (row_to found marks cells n row a)

pub record TellsResults (found marks : List ℕ) (cells n : ℕ) (row after : List ℕ) (w : Counts) : Type 0 where
  pub left : after ≡ row_to found marks cells n row n
  pub counts : w ≡ counts_to found marks cells n n
