-- What 1 says of the planner and of a sharing is so: the number that is named is out of its limits, and none before it; where none is named, the state is out of
-- its own. Rests on `console_limits` proofs/Naming and on the laws of columns.
use Prim.Native.Nat.{ℕ, zero, suc, ◌+◌, ◌-◌, ◌*◌, ◌%◌, ◌<◌, ◌≤◌, min}
use mathlib.Core.Path.{◌≡◌, refl, ◌∙◌}
use mathlib.Core.Bool.{true, not}
use mathlib.Core.Logic.{⊎_elim}
use mathlib.Core.List.{List, [], ◌∷◌}
use native.Mathlib.Nat.{mod-lt, mod-eq_of_lt, add-mul-mod_self_left}
use native.Mathlib.Omega.{arith}
use borrow.Author.Tests.{le-ltb, leb-true}
use lib.Dec.{leb, ltb, eqb}
use lib.ListN.{length, get_or, take, length-take}
use lib.Seq.{get_or-take, get_or-set_same, get_or-set_other}
use Rattle.rules.specs.Limits.{both, within, pool_min, pool_max, rate_min, rate_max, length_min, length_max, floor_min, floor_max}
use Rattle.rules.specs.Limits.{count_min, count_max, event_time_max, titles_max}
use Rattle.rules.specs.Refusals.{Rule, refuse, outside_limits, too_early, no_lanes, wrong_rows, past_clock, floor_above_cap}
use Rattle.rules.proofs.Tests.{both_r, both_in}
use Rattle.rules.proofs.Search.{every_in, below_suc}
use Rattle.rules.proofs.Refusals.{first_hit_lem, hits_of, distinct, is_listed}
use Rattle.story.specs.declared.State.{State}
use Rattle.story.specs.Kept.{state_ok}
use Rattle.sharing_titles.specs.declared.titles.Rated.{Rated}
use Rattle.sharing_titles.specs.Titles.{titles, row_total}
use Rattle.sharing.specs.Verdict.{rows_fit, allowed, ordered, each_title, verdict_of}
use Rattle.sharers.specs.Sharers.{rates_ok, floors_of, shared_pool}
use Rattle.wishes.specs.Wishes.{wishes}
use Rattle.planner.specs.Moves.{falls_past}
use Rattle.planner.specs.Outcome.{moves, planner_answer}
use Rattle.text.specs.Numbers.{four_bytes_most}
use Rattle.console_commands.specs.Commands.{titles_most, title_numbers, do_planner, do_share}
use Rattle.console_lines.specs.Lines.{numbers_most}
use Rattle.console_limits.specs.Quantities.{bounds_of, bounds_table, of_rate, of_length, of_floor, of_cap, repeated, quantity_at, column_of, row_of, quantity_table}
use Rattle.console_limits.specs.Outside.{first_out, SaysOut}
use Rattle.console_limits.proofs.Naming.{within_all, by_limits}
use Rattle.console_pools.specs.Shares.{column, titles_in, column_in, shared_in}
use Rattle.console_pools.specs.Moves.{rates_of, rates_in}
use Rattle.console_pools.proofs.Numbers.{column_length}

-- what stands at a place of a column
column_at : (numbers : List ℕ) (first apart n : ℕ) → n ≤ titles_most → (j : ℕ) → j < n
    → get_or (column numbers first apart n) j 0 ≡ min (get_or numbers (first + apart * j) 0) four_bytes_most
unfolding column
column_at numbers first apart zero few j l = absurd (omega arith)
column_at numbers first apart (suc n) few j l =
    let room : n < length (column numbers first apart n) = omega (arith, column_length numbers first apart n) in
    ⊎_elim
    (λ b.
    get_or-set_other (column numbers first apart n) n j (min (get_or numbers (first + apart * n) 0) four_bytes_most) 0
    (λ e. omega (arith, e, b))
    ∙ column_at numbers first apart n (omega arith) j b)
    (λ e. rw e (get_or-set_same (column numbers first apart n) n (min (get_or numbers (first + apart * n) 0) four_bytes_most) 0 room))
    (below_suc j n l)

-- every number behind the time and the room of a planner is a rate
planner_rate : (j : ℕ) → quantity_at do_planner (2 + j) ≡ of_rate
unfolding quantity_at column_of repeated row_of quantity_table
planner_rate j =
    let some : 0 < 1 = omega arith in
    let none : (2 + j - 2) % 1 < 1 = mod-lt (2 + j - 2) some in
    let two : 2 + (2 + j - 2) % 1 ≡ 2 = omega arith in
    let past : 2 ≤ 2 + j = omega arith in
    rw (le-ltb (2 + j) 2 past, two) refl

-- the planner's order of refusals (`planner` specs/Outcome `planner_answer`)
abbrev planner_rules : State → ℕ → List ℕ → ℕ → List Rule
planner_rules s τ rates room =
    refuse outside_limits (not (both (state_ok s) (both (leb τ event_time_max) (rates_ok rates))))
    ∷ refuse too_early (ltb τ s.last)
    ∷ refuse no_lanes (ltb (shared_pool s) (floors_of s))
    ∷ refuse wrong_rows (not (both (eqb (length rates) titles_max) (leb (length (wishes s rates)) room)))
    ∷ refuse past_clock (falls_past (moves s τ rates))
    ∷ []

-- the rates of a line before they are taken for its definition
abbrev rates_row : List ℕ → ℕ → List ℕ
rates_row numbers count = take (rates_of count) (column numbers 2 1 titles_most)

module _ (numbers : List ℕ) (count : ℕ) (whole : length numbers ≡ numbers_most) where
  abbrev asked : List ℕ
  asked = take (2 + rates_of count) numbers

  asked_length : length asked ≡ 2 + rates_of count
  asked_length = rw length-take (omega arith)

  module _ (none : length asked ≤ first_out do_planner asked) where
    time_within : leb (get_or numbers 0 0) event_time_max ≡ true
    unfolding quantity_at column_of repeated row_of quantity_table bounds_of bounds_table
    time_within =
        both_r (leb 0 (get_or numbers 0 0)) (leb (get_or numbers 0 0) event_time_max)
        (rw (get_or-take (2 + rates_of count) numbers 0 0 (omega arith)) at (within_all do_planner asked none 0 (omega (arith, asked_length))))

    rate_within : (j : ℕ) → j < rates_of count → within rate_min rate_max (get_or numbers (2 + j) 0) ≡ true
    unfolding bounds_of bounds_table
    rate_within j l =
        rw (planner_rate j, get_or-take (2 + rates_of count) numbers (2 + j) 0 (omega arith)) at
        (within_all do_planner asked none (2 + j) (omega (arith, asked_length)))

    rates_within : rates_ok (rates_in numbers count) ≡ true
    unfolding rates_ok rates_in
    rates_within =
        every_in (λ j. within rate_min rate_max (get_or (rates_row numbers count) j 0)) (length (rates_row numbers count))
        (λ j l.
        let size = column_length numbers 2 1 titles_most in
        let long : length (rates_row numbers count) ≤ rates_of count = rw length-take (omega arith) in
        let few : j < rates_of count = omega arith in
        let most : j < titles_most = omega arith in
        let inside = rate_within j few in
        let high : get_or numbers (2 + j) 0 ≤ rate_max = leb-true _ _ (both_r (leb rate_min (get_or numbers (2 + j) 0)) (leb (get_or numbers (2 + j) 0) rate_max) inside) in
        let at : get_or (rates_row numbers count) j 0 ≡ min (get_or numbers (2 + 1 * j) 0) four_bytes_most =
        get_or-take (rates_of count) (column numbers 2 1 titles_most) j 0 few ∙ column_at numbers 2 1 titles_most (omega arith) j most in
        let place : 2 + 1 * j ≡ 2 + j = omega arith in
        let kept : min (get_or numbers (2 + j) 0) four_bytes_most ≡ get_or numbers (2 + j) 0 = omega arith in
        rw (at, place, kept) inside)

  -- of the planner, over the numbers of a line
  pub planner_out : (s : State) (room : ℕ) → planner_answer s (get_or numbers 0 0) (rates_in numbers count) room ≡ outside_limits
      → SaysOut (state_ok s) do_planner (take (2 + rates_of count) numbers)
  unfolding planner_answer hits_of distinct is_listed
  planner_out s room h =
      by_limits do_planner asked (state_ok s) (both (leb (get_or numbers 0 0) event_time_max) (rates_ok (rates_in numbers count)))
      (first_hit_lem (planner_rules s (get_or numbers 0 0) (rates_in numbers count) room) refl outside_limits (omega arith) h).0
      (λ none. both_in _ _ (time_within none) (rates_within none))

-- ---- sharing

-- the order of refusals of a sharing (`sharing` specs/Verdict `verdict_of`)
abbrev share_rules : ℕ → List ℕ → List ℕ → List ℕ → List ℕ → ℕ → List Rule
share_rules pool rates lengths floors caps room =
    refuse wrong_rows (not (rows_fit rates lengths floors caps room))
    ∷ refuse outside_limits (not (both (within pool_min pool_max pool) (each_title allowed (titles rates lengths floors caps))))
    ∷ refuse floor_above_cap (not (each_title ordered (titles rates lengths floors caps)))
    ∷ refuse no_lanes (ltb pool (row_total floors))
    ∷ []

-- the numbers of a title repeat behind the pool
share_column : (d j : ℕ) → d < title_numbers → column_of do_share ((1 + d) + title_numbers * j) ≡ 1 + d
unfolding column_of repeated
share_column d j l =
    let past : 1 ≤ (1 + d) + title_numbers * j = omega arith in
    let less : (1 + d) + title_numbers * j - 1 ≡ d + title_numbers * j = omega arith in
    rw (le-ltb ((1 + d) + title_numbers * j) 1 past, less, add-mul-mod_self_left d title_numbers j, mod-eq_of_lt l) refl

share_rate : (j : ℕ) → quantity_at do_share (1 + title_numbers * j) ≡ of_rate
unfolding quantity_at row_of quantity_table
share_rate j = rw (share_column 0 j (omega arith)) refl

share_length_lem : (j : ℕ) → quantity_at do_share (2 + title_numbers * j) ≡ of_length
unfolding quantity_at row_of quantity_table
share_length_lem j = rw (share_column 1 j (omega arith)) refl

share_floor : (j : ℕ) → quantity_at do_share (3 + title_numbers * j) ≡ of_floor
unfolding quantity_at row_of quantity_table
share_floor j = rw (share_column 2 j (omega arith)) refl

share_cap : (j : ℕ) → quantity_at do_share (4 + title_numbers * j) ≡ of_cap
unfolding quantity_at row_of quantity_table
share_cap j = rw (share_column 3 j (omega arith)) refl

-- a number within limits that four bytes hold is so when it is cut at these
cut_within : (lo hi x : ℕ) → hi ≤ four_bytes_most → within lo hi x ≡ true → within lo hi (min x four_bytes_most) ≡ true
cut_within lo hi x h inside =
    let high : x ≤ hi = leb-true x hi (both_r (leb lo x) (leb x hi) inside) in
    let kept : min x four_bytes_most ≡ x = omega arith in
    rw kept inside

-- titles that are allowed each by each are allowed together
abbrev title_of : List ℕ → List ℕ → List ℕ → List ℕ → ℕ → Rated
title_of rs ds fs cs j = record { rate = get_or rs j 0; length = get_or ds j 0; floor = get_or fs j 0; cap = get_or cs j 0 }

each_allowed : (rs ds fs cs : List ℕ) → ((j : ℕ) → j < length rs → allowed (title_of rs ds fs cs j) ≡ true)
    → each_title allowed (titles rs ds fs cs) ≡ true
unfolding each_title titles
each_allowed [] ds fs cs h = refl
each_allowed (r ∷ rs) [] fs cs h = refl
each_allowed (r ∷ rs) (d ∷ ds) [] cs h = refl
each_allowed (r ∷ rs) (d ∷ ds) (f ∷ fs) [] h = refl
each_allowed (r ∷ rs) (d ∷ ds) (f ∷ fs) (c ∷ cs) h =
    both_in _ _ (h 0 (omega arith)) (each_allowed rs ds fs cs (λ j l. h (suc j) (omega arith)))

-- the titles of a line are at most as many as it may name
titles_few : (count : ℕ) → titles_in count ≤ titles_most
unfolding titles_in
titles_few count = omega arith

module _ (numbers : List ℕ) (count : ℕ) (whole : length numbers ≡ numbers_most) where
  abbrev shared : List ℕ
  shared = shared_in numbers count

  shared_length : length shared ≡ 1 + title_numbers * titles_in count
  shared_length = rw length-take (omega (arith, titles_few count))

  column_in_lem : (first j : ℕ) → j < titles_in count
      → get_or (column_in numbers count first) j 0 ≡ min (get_or numbers (first + title_numbers * j) 0) four_bytes_most
  column_in_lem first j l =
      get_or-take (titles_in count) (column numbers first title_numbers titles_most) j 0 l
      ∙ column_at numbers first title_numbers titles_most (omega arith) j (omega (arith, titles_few count))

  column_few : (first : ℕ) → length (column_in numbers count first) ≤ titles_in count
  column_few first = rw length-take (omega arith)

  module _ (none : length shared ≤ first_out do_share shared) where
    pool_within : within pool_min pool_max (get_or numbers 0 0) ≡ true
    unfolding quantity_at column_of repeated row_of quantity_table bounds_of bounds_table
    pool_within =
        rw (get_or-take (1 + title_numbers * titles_in count) numbers 0 0 (omega arith)) at
        (within_all do_share shared none 0 (omega (arith, shared_length)))

    -- the number of a title at a place of the line is within the limits of its quantity
    at_place : (d j : ℕ) → d < title_numbers → j < titles_in count →
        let q = quantity_at do_share ((1 + d) + title_numbers * j) in
        within (bounds_of q).low (bounds_of q).high (get_or numbers ((1 + d) + title_numbers * j) 0) ≡ true
    at_place d j l t =
        let place : (1 + d) + title_numbers * j < 1 + title_numbers * titles_in count = omega arith in
        rw (get_or-take (1 + title_numbers * titles_in count) numbers ((1 + d) + title_numbers * j) 0 place) at
        (within_all do_share shared none ((1 + d) + title_numbers * j) (omega (arith, shared_length)))

    title_allowed : (j : ℕ) → j < titles_in count
        → allowed (title_of (column_in numbers count 1) (column_in numbers count 2) (column_in numbers count 3) (column_in numbers count 4) j) ≡ true
    unfolding allowed bounds_of bounds_table
    title_allowed j l =
        rw (column_in_lem 1 j l, column_in_lem 2 j l, column_in_lem 3 j l, column_in_lem 4 j l)
        (both_in _ _ (cut_within rate_min rate_max (get_or numbers (1 + title_numbers * j) 0) (omega arith) (rw (share_rate j) at (at_place 0 j (omega arith) l)))
        (both_in _ _ (cut_within length_min length_max (get_or numbers (2 + title_numbers * j) 0) (omega arith) (rw (share_length_lem j) at (at_place 1 j (omega arith) l)))
        (both_in _ _ (cut_within floor_min floor_max (get_or numbers (3 + title_numbers * j) 0) (omega arith) (rw (share_floor j) at (at_place 2 j (omega arith) l)))
        (cut_within count_min count_max (get_or numbers (4 + title_numbers * j) 0) (omega arith) (rw (share_cap j) at (at_place 3 j (omega arith) l))))))

  -- of a sharing, over the numbers of a line; no state is asked, so that a number is always named
  pub share_out : (room : ℕ)
      → verdict_of (get_or numbers 0 0) (column_in numbers count 1) (column_in numbers count 2) (column_in numbers count 3) (column_in numbers count 4) room
      ≡ outside_limits
      → SaysOut true do_share (shared_in numbers count)
  unfolding verdict_of hits_of distinct is_listed
  share_out room h =
      by_limits do_share shared true
      (both (within pool_min pool_max (get_or numbers 0 0))
      (each_title allowed
      (titles (column_in numbers count 1) (column_in numbers count 2) (column_in numbers count 3) (column_in numbers count 4))))
      (first_hit_lem
      (share_rules (get_or numbers 0 0) (column_in numbers count 1) (column_in numbers count 2) (column_in numbers count 3) (column_in numbers count 4) room)
      refl outside_limits (omega arith) h).0
      (λ none.
      both_in _ _ (pool_within none)
      (each_allowed (column_in numbers count 1) (column_in numbers count 2) (column_in numbers count 3) (column_in numbers count 4)
      (λ j l. title_allowed none j (omega (arith, column_few 1)))))
