-- The row of an agent whose arrays have their lengths has its length, and where its sequence fits 32 bits and its state is within its
-- limits each of its numbers fits 64: it is a row that a snapshot holds. Rests on the limits of a state and on the laws of lists.
use mathlib.Core.Path.{◌≡◌, refl}
use mathlib.Core.Bool.{Bool, true, false}
use mathlib.Core.Logic.{⊎_elim}
use mathlib.Core.List.{List, [], ◌∷◌, ◌++◌}
use Prim.Native.Nat.{ℕ, zero, suc, ◌*◌, ◌≤◌, ◌<◌, ◌^◌}
use native.Mathlib.Omega.{arith}
use lib.Dec.{ltb}
use lib.ListN.{length, get_or, length-append, get_or-eq_default}
use borrow.Author.Tests.{leb-true, ltb-true, ltb-false}
use Rattle.rules.specs.Limits.{pool_max, asked_max, floor_max, steady_max, count_max, length_max, count_places, lane_places}
use Rattle.rules.specs.Refusals.{pick}
use Rattle.rules.proofs.Tests.{decide, both_l, both_r}
use Rattle.scheme.specs.Scheme.{steady_kind}
use Rattle.story.specs.declared.Title.{Title}
use Rattle.story.specs.declared.State.{State}
use Rattle.story.specs.Kept.{closing_mode, held_mark, no_title, is_steady_title, row_ok, numbers_ok, title_ok, state_ok}
use Rattle.measures.proofs.Within.{numbers, ends_ok, dropped_ok, in_row, title_ok_lem}
use Rattle.agent.specs.declared.Agent.{Agent}
use Rattle.agent_rows.specs.Layout.{row_version, row_length, sequence_end, title_places}
use Rattle.agent_rows.specs.Packed.{packed_title, packed_titles, packed, WholeTitle, WholeAgent}
use Rattle.agent_rows.proofs.Inverse.{AllWhole, packed_length}
use Rattle.agent_rows.proofs.Lanes.{owed_ok}
use Rattle.snapshots.specs.Bytes.{AgentRow}

-- ---- its length

titles_length : (ts : List Title) → AllWhole ts → length (packed_titles ts) ≡ length ts * title_places
unfolding packed_titles AllWhole
titles_length [] all = refl
titles_length (t ∷ ts) all =
    omega (arith, length-append (packed_title t) (packed_titles ts), packed_length t (all 0 (omega arith)), titles_length ts (λ i l. all (suc i) (omega arith)))

pub row_length_lem : (g : Agent) → WholeAgent g → length (packed g) ≡ row_length
unfolding AllWhole
row_length_lem g w =
    omega (arith, titles_length g.state.titles (λ i l. w.each i (omega (arith, w.titles))), w.titles)

-- ---- its numbers

-- each number of a list fits 64 bits
unfoldable Small : List ℕ → Type 0
Small xs = (i : ℕ) → get_or xs i 0 < 2 ^ 64

small_more : (x : ℕ) (xs : List ℕ) → x < 2 ^ 64 → Small xs → Small (x ∷ xs)
unfolding Small
small_more x xs h f zero = h
small_more x xs h f (suc i) = f i

small_append : (xs ys : List ℕ) → Small xs → Small ys → Small (xs ++ ys)
unfolding Small
small_append [] ys f g i = g i
small_append (x ∷ xs) ys f g zero = f zero
small_append (x ∷ xs) ys f g (suc i) = small_append xs ys (λ j. f (suc j)) g i

-- a row within the limit of times, with none of its numbers behind its length
small_row : (row : List ℕ) (n : ℕ) → length row ≡ n → row_ok row n ≡ true → Small row
unfolding Small
small_row row n e ok i =
    ⊎_elim (λ lt. omega (arith, in_row row n i ok (ltb-true i n lt)))
    (λ ge. let none : get_or row i 0 ≡ 0 = get_or-eq_default row 0 {n = i} (omega (arith, ltb-false i n ge)) in omega arith)
    (decide (ltb i n))

-- the numbers of a title
floor_high : (b : Bool) → pick b steady_max floor_max ≤ steady_max
floor_high true = omega arith
floor_high false = omega arith

title_small : (t : Title) → WholeTitle t → title_ok t ≡ true → Small (packed_title t)
unfolding numbers_ok
title_small t w ok =
    let n = numbers t ok in
    let mode : t.mode ≤ closing_mode = search (both_l, leb-true) in
    let kind : t.film.kind ≤ steady_kind = search (both_l, both_r, leb-true) depth 12 in
    let opened : t.opened ≤ asked_max = search (both_l, both_r, leb-true) depth 12 in
    let long : t.film.length ≤ length_max = search (both_l, both_r, leb-true) depth 12 in
    let floor : t.film.floor ≤ pick (is_steady_title t) steady_max floor_max = search (both_l, both_r, leb-true) depth 12 in
    let cap : t.film.cap ≤ count_max = search (both_l, both_r, leb-true) depth 12 in
    let count : t.count ≤ count_max = search (both_l, both_r, leb-true) depth 12 in
    let mark : t.mark ≤ held_mark = search (both_l, both_r, leb-true) depth 12 in
    let last : t.last ≤ asked_max = search (both_l, both_r, leb-true) depth 12 in
    let tuned : t.tuned ≤ asked_max = search (both_l, both_r, leb-true) depth 12 in
    let rows : Small (t.ends ++ (t.dropped ++ t.owed)) =
    small_append t.ends (t.dropped ++ t.owed) (small_row t.ends count_places w.ends (ends_ok t ok))
    (small_append t.dropped t.owed (small_row t.dropped lane_places w.dropped (dropped_ok t ok))
    (small_row t.owed lane_places w.owed (owed_ok t ok))) in
    small_more t.mode _ (omega arith)
    (small_more t.film.kind _ (omega arith)
    (small_more t.opened _ (omega arith)
    (small_more t.film.length _ (omega arith)
    (small_more t.film.floor _ (omega (arith, floor_high (is_steady_title t)))
    (small_more t.film.cap _ (omega arith)
    (small_more t.count _ (omega arith)
    (small_more t.mark _ (omega arith)
    (small_more t.last _ (omega arith)
    (small_more t.tuned _ (omega arith) rows)))))))))

titles_small : (ts : List Title) → AllWhole ts → ((i : ℕ) → i < length ts → title_ok (get_or ts i no_title) ≡ true) → Small (packed_titles ts)
unfolding packed_titles AllWhole Small
titles_small [] all ok = λ i. omega arith
titles_small (t ∷ ts) all ok =
    small_append (packed_title t) (packed_titles ts) (title_small t (all 0 (omega arith)) (ok 0 (omega arith)))
    (titles_small ts (λ i l. all (suc i) (omega arith)) (λ i l. ok (suc i) (omega arith)))

module _ (g : Agent) (w : WholeAgent g) (fits : g.sequence < sequence_end) (ok : state_ok g.state ≡ true) where
  row_small : Small (packed g)
  unfolding AllWhole state_ok
  row_small =
      let s : State = g.state in
      let pool : s.pool ≤ pool_max = search (both_l, leb-true) in
      let last : s.last ≤ asked_max = search (both_l, both_r, leb-true) depth 12 in
      let titles : Small (packed_titles s.titles) =
      titles_small s.titles (λ i l. w.each i (omega (arith, w.titles))) (λ i l. title_ok_lem s ok i (omega (arith, w.titles))) in
      small_more row_version _ (omega arith)
      (small_more g.sequence _ (omega arith) (small_more s.pool _ (omega arith) (small_more s.last _ (omega arith) titles)))

  pub packed_small : (i : ℕ) → get_or (packed g) i 0 < 2 ^ 64
  unfolding Small
  packed_small = row_small

  -- so it is a row that a snapshot holds
  pub packed_row : AgentRow (packed g)
  packed_row = record { places = row_length_lem g w; small = packed_small; version = refl }
