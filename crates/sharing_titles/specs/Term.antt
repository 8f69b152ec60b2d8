-- A title's part of the sum that is to be least (02, request 2): rate x tick x 2^(K-k), the slot that its boxes wait
-- for weighed by its rate. A request that weighs titles otherwise moves `term` here, `gain` in src/term and the laws in
-- proofs/term, and nothing else.
use Rattle.std.specs.Prelude.{ℕ, suc, ◌*◌, ◌-◌, ltb}
use Rattle.rules.specs.Refusals.{pick}
use Rattle.grid.specs.Ticks.{tick_of, slot}
use Rattle.sharing_titles.specs.declared.titles.Rated.{Rated}

-- the title's part of the sum with count k: its rate times the ms in a slot
unfoldable pub term : Rated → ℕ → ℕ
term t k = t.rate * (tick_of t.length t.floor t.cap * slot t.cap k)

-- by how much the part falls with one lane more
unfoldable pub fall : Rated → ℕ → ℕ
fall t k = term t k - term t (suc k)

-- what one lane more is worth to a title with count k: nothing at its cap
unfoldable pub worth : Rated → ℕ → ℕ
worth t k = pick (ltb k t.cap) (fall t k) 0
