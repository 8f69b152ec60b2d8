-- The definitions give what 01 prints in every starred case: one test, computed over the whole table, and a lemma that
-- carries it to each entry. Assumes nothing.
use mathlib.Core.Path.{◌≡◌, refl}
use mathlib.Core.Bool.{true, false≢true}
use mathlib.Core.List.{List, [], ◌∷◌, flat_map}
use Prim.Native.Nat.{ℕ, zero, suc, ◌<◌}
use native.Mathlib.Omega.{arith}
use lib.Dec.{eqb}
use lib.ListN.{length, get_or}
use borrow.Author.Tests.{eqb-true}
use Rattle.rules.specs.Refusals.{first_hit}
use Rattle.rules.specs.Search.{some, first, how_many, after, total}
use Rattle.rules.proofs.Tests.{both_l, both_r}
use Rattle.grid.specs.Ticks.{tick_of, rounded_up, slot, cell_of}
use Rattle.grid.specs.Channels.{floor_rem, shift, segment, channel_cell}
use Rattle.grid.specs.Lanes.{is_in_g, is_added, added_channel, lane_cell}
use Rattle.scheme.specs.Scheme.{scheme_of, starts, takes, takes_from, taken_after, tick_for, film_in}
use Rattle.plans.specs.Padded.{plan_at}
use Rattle.story.specs.Life.{is_admission, is_active, dropped_at, is_awaited, is_owed, reach, owed_within, is_nth, nth_owed}
use Rattle.story.specs.Life.{sends, on_air, is_held}
use Rattle.story.specs.Story.{tick_in, life_of, latest_of, tuned_of, up_to, held_in, held_over, answer_to, accepted}
use Rattle.sharing.specs.Titles.{titles, row_total}
use Rattle.sharing.specs.Term.{term}
use Rattle.sharing.specs.Choice.{wait_sum, less_or, at_least, prefers, from, ways, better, best_of, shared}
use Rattle.sharing.specs.Verdict.{rows_fit, allowed, ordered, each_title, verdict_of, row_after}
use Rattle.worked_cases.specs.Cases.{Case, case, printed_cases, up_from, along, those, same_row, all_agree}

pub worked : all_agree printed_cases ≡ true
unfolding scheme_of starts takes takes_from taken_after tick_for film_in all_agree printed_cases same_row up_from along those first_hit some first how_many after total tick_of rounded_up slot cell_of floor_rem shift segment channel_cell is_in_g is_added added_channel lane_cell plan_at is_admission is_active dropped_at is_awaited is_owed reach owed_within is_nth nth_owed sends on_air is_held tick_in life_of latest_of tuned_of up_to held_in held_over answer_to accepted flat_map titles row_total term wait_sum less_or at_least prefers from ways better best_of shared rows_fit allowed ordered each_title verdict_of row_after
worked = refl

-- rows that pass the test are equal
same_row_lem : (xs ys : List ℕ) → same_row xs ys ≡ true → xs ≡ ys
unfolding same_row
same_row_lem [] [] h = refl
same_row_lem [] (y ∷ ys) h = absurd (false≢true h)
same_row_lem (x ∷ xs) [] h = absurd (false≢true h)
same_row_lem (x ∷ xs) (y ∷ ys) h =
    let p : x ≡ y = eqb-true x y (both_l (eqb x y) (same_row xs ys) h) in
    let q : xs ≡ ys = same_row_lem xs ys (both_r (eqb x y) (same_row xs ys) h) in
    λ i. p i ∷ q i

-- from the whole table to each entry
at : (cs : List Case) → all_agree cs ≡ true → (j : ℕ) → j < length cs →
    (get_or cs j (case 0 [] [])).given ≡ (get_or cs j (case 0 [] [])).printed
unfolding all_agree
at [] h j b = absurd (omega arith)
at (c ∷ cs) h zero b = same_row_lem c.given c.printed (both_l (same_row c.given c.printed) (all_agree cs) h)
at (c ∷ cs) h (suc j) b = at cs (both_r (same_row c.given c.printed) (all_agree cs) h) j (omega arith)

pub each_case : (j : ℕ) → j < length printed_cases → (get_or printed_cases j (case 0 [] [])).given ≡ (get_or printed_cases j (case 0 [] [])).printed
each_case = at printed_cases worked
