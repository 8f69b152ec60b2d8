-- The number that stands for one that 16 bits do not hold is no title's cell, so that such a record is refused with 1. Rest on the
-- definition of the answer and on the cap of a title that a log opened.
use mathlib.Core.Path.{◌≡◌, refl, sym, ◌∙◌}
use mathlib.Core.Bool.{true, false, false≢true}
use mathlib.Core.List.{List}
use Prim.Native.Nat.{ℕ, ◌^◌, ◌≤◌, ◌<◌}
use native.Mathlib.Omega.{arith}
use lib.Dec.{eqb, ltb}
use lib.ListN.{length, get_or}
use lib.Pow.{pow_mono}
use borrow.Author.Tests.{le-ltb}
use Rattle.rules.specs.Limits.{either, count_max}
use Rattle.rules.specs.Refusals.{outside_limits, first_hit}
use Rattle.rules.proofs.Tests.{fails}
use Rattle.rules.proofs.Search.{every_out}
use Rattle.grid.specs.Ticks.{cells}
use Rattle.notice.specs.Log.{Bytes, is_whole_log}
use Rattle.agent.specs.Played.{life_in}
use Rattle.judging.specs.Record.{nothing_seen}
use Rattle.airing.specs.Air.{in_limits, has_room_for, is_film_title, all_cells, air_answer}
use Rattle.airing.proofs.Starves.{film_numbers}
use Rattle.air_record.specs.Record.{no_cell}

pub no_title_cell : (K : ℕ) (r : List ℕ) (j : ℕ) → K ≤ count_max → j < length r → get_or r j 0 ≡ no_cell → all_cells K r ≡ false
unfolding all_cells
no_title_cell K r j high there is =
    fails (all_cells K r)
    (λ all.
    let most : 2 ^ K ≤ 2 ^ count_max = pow_mono high in
    let past : either (eqb (get_or r j 0) nothing_seen) (ltb (get_or r j 0) (cells K)) ≡ false =
    rw (is, le-ltb no_cell (cells K) (omega arith)) refl in
    false≢true (sym past ∙ every_out (λ i. either (eqb (get_or r i 0) nothing_seen) (ltb (get_or r i 0) (cells K))) (length r) j all there))

-- so a record with it gets 1, where nothing else is wrong
pub no_cell_refused : (pool : ℕ) (log : List ℕ) (title : ℕ) (r : List ℕ) (room j : ℕ) → Bytes log → in_limits pool title ≡ true →
    has_room_for r room ≡ true → is_whole_log log ≡ true → is_film_title (life_in pool log title) ≡ true → j < length r → get_or r j 0 ≡ no_cell →
    air_answer pool log title r room ≡ outside_limits
unfolding air_answer first_hit
no_cell_refused pool log title r room j small limits roomy whole film there is =
    let high = (film_numbers pool log title small limits film).cap_high in
    rw (limits, roomy, whole, film, no_title_cell (life_in pool log title).film.cap r j high there is) refl
