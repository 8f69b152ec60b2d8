-- A change keeps a state within its limits, and every title its mode, kind, floor and cap, where the title is open and the count
-- lies from its floor to its cap. Rests on the laws of dropped lanes and of searches.
use mathlib.Core.Path.{◌≡◌, refl, sym, ◌∙◌}
use mathlib.Core.Bool.{Bool, true, false, not, false≢true}
use mathlib.Core.Logic.{⊎_elim}
use mathlib.Core.List.{List, [], ◌∷◌}
use Prim.Native.Nat.{ℕ, zero, suc, ◌+◌, ◌-◌, ◌^◌, ◌≤◌, ◌<◌}
use native.Mathlib.Omega.{arith}
use native.Mathlib.Nat.{div-le_self, le_trans}
use lib.Dec.{leb, ltb, eqb}
use lib.ListN.{get_or, set}
use lib.Pow.{pow_mono}
use borrow.Author.Tests.{leb-true, le-leb, ne_eqb}
use Rattle.rules.specs.Limits.{both, either, asked_max, count_max, pool_min, pool_max, id_max, titles_max, length_min, length_max}
use Rattle.rules.specs.Limits.{floor_min, floor_max, steady_max, lane_places}
use Rattle.rules.specs.Refusals.{pick}
use Rattle.rules.specs.Search.{every}
use Rattle.rules.proofs.Tests.{both_l, both_r, both_in, either_l, either_r, either_out}
use Rattle.rules.proofs.Search.{every_in, every_out, how_many_le}
use Rattle.scheme.specs.Scheme.{steady_kind}
use Rattle.story.specs.declared.Film.{Film}
use Rattle.story.specs.declared.Title.{Title}
use Rattle.story.specs.declared.State.{State}
use Rattle.story.specs.Life.{reach}
use Rattle.story.specs.Kept.{absent_mode, open_mode, held_mark, no_title, title_at, row_ok, numbers_ok, order_ok, title_ok, state_ok, slot_ok}
use Rattle.story.specs.Kept.{is_steady_title, title_tick, tick_at, kept_owed, kept_within}
use Rattle.story.specs.Next.{ended, drop_lane, drop_lanes, changed_title, change_next}
use Rattle.measures.proofs.Within.{numbers, order, owing, dropped_ok, title_ok_lem}
use Rattle.owed.proofs.Fixed.{Fixed, fixed_drops, stored, stored_row, ended_owing}

-- ---- one title

-- the rows of dropped ticks and owed cells stay within their limits, and the opening stays
pub record Dropping (t q : Title) : Type 0 where
  pub opened : q.opened ≡ t.opened
  pub dropped : row_ok t.dropped lane_places ≡ true → row_ok q.dropped lane_places ≡ true
  pub owed : row_ok t.owed lane_places ≡ true → row_ok q.owed lane_places ≡ true

-- no lane owes more cells than its reach
within_reach : (t : Title) (l n : ℕ) → t.film.cap ≤ count_max → kept_within t l n (reach t.film.cap) ≤ asked_max
unfolding kept_within reach
within_reach t l n high =
    let few : kept_within t l n (2 ^ (t.film.cap - 1)) ≤ 2 ^ (t.film.cap - 1) =
    how_many_le (λ o. kept_owed t l (n + o)) (2 ^ (t.film.cap - 1)) in
    let small : 2 ^ (t.film.cap - 1) ≤ 2 ^ 12 = pow_mono {j = 12} (omega arith) in
    omega arith

dropping : (t : Title) (n k i : ℕ) → n ≤ asked_max → t.film.cap ≤ count_max → Dropping t (drop_lanes t n k i)
unfolding drop_lanes
dropping t n k zero l h = record { opened = refl; dropped = λ r. r; owed = λ r. r }
dropping t n k (suc i) l h = go (both (leb k i) (ltb i t.count)) (dropping t n k i l h) (fixed_drops t n k i)
  where
    go : (b : Bool) → Dropping t (drop_lanes t n k i) → Fixed t (drop_lanes t n k i) →
        Dropping t (pick b (drop_lane (drop_lanes t n k i) n i) (drop_lanes t n k i))
    go true d f =
        let q = drop_lanes t n k i in
        record {
          opened = d.opened;
          dropped = λ r. stored_row q.dropped lane_places i n l (d.dropped r);
          owed = λ r.
              stored_row q.owed lane_places i (kept_within q i n (reach q.film.cap))
              (within_reach q i n (rw f.film h)) (d.owed r);
        }
    go false d f = d

tick_high : (t : Title) (τ : ℕ) → τ ≤ asked_max → tick_at t τ ≤ asked_max
unfolding tick_at
tick_high t τ l = le_trans (div-le_self (τ - t.opened) (title_tick t)) (omega arith)

-- an open title that changes at τ to k, a count from its floor to its cap
module _ (t : Title) (τ k : ℕ) (ok : title_ok t ≡ true) (is_open : t.mode ≡ open_mode) (low : t.film.floor ≤ k)
    (high : k ≤ t.film.cap) (early : τ ≤ asked_max) where
  there : t.mode ≡ absent_mode → ⊥
  there e = omega arith

  cap_high : t.film.cap ≤ count_max
  unfolding numbers_ok
  cap_high = let n = numbers t ok in search (both_l, both_r, leb-true) depth 12

  changed_numbers : numbers_ok (changed_title t τ k) ≡ true
  unfolding numbers_ok changed_title
  changed_numbers =
      let n = numbers t ok in
      let u = ended t (tick_at t τ) in
      let f = fixed_drops u (tick_at t τ) k t.count in
      let d = dropping u (tick_at t τ) k t.count (tick_high t τ early) cap_high in
      let opening : leb t.opened asked_max ≡ true = search (both_l, both_r) depth 12 in
      let sized : leb t.film.length length_max ≡ true = search (both_l, both_r) depth 12 in
      let kinded : leb t.film.kind steady_kind ≡ true = search (both_l, both_r) depth 12 in
      let floored : leb t.film.floor (pick (is_steady_title t) steady_max floor_max) ≡ true = search (both_l, both_r) depth 12 in
      let marked : leb t.mark held_mark ≡ true = search (both_l, both_r) depth 12 in
      rw (
        f.film,
        f.ends,
        d.opened,
        kinded,
        opening,
        sized,
        floored,
        marked,
        le-leb t.film.cap count_max cap_high,
        le-leb k count_max (omega (arith, cap_high)),
        le-leb τ asked_max early,
        (ended_owing t (tick_at t τ) (tick_high t τ early) (owing t ok there)).ends,
        d.dropped (dropped_ok t ok),
        d.owed (search (both_l, both_r) depth 12),
      )
      refl

  changed_order : order_ok (changed_title t τ k) ≡ true
  unfolding order_ok changed_title
  changed_order =
      let o = order t ok there in
      let f = fixed_drops (ended t (tick_at t τ)) (tick_at t τ) k t.count in
      let sized : leb length_min t.film.length ≡ true = search (both_l, both_r) depth 12 in
      let floored : leb floor_min t.film.floor ≡ true = search (both_l, both_r) depth 12 in
      let fitted : leb t.film.floor t.film.cap ≡ true = search (both_l, both_r) depth 12 in
      let level : either (not (is_steady_title t)) (eqb t.film.floor t.film.cap) ≡ true = search (both_r) depth 12 in
      rw (f.film, le-leb t.film.floor k low, le-leb k t.film.cap high, sized, floored, fitted, level) refl

  pub changed_ok : title_ok (changed_title t τ k) ≡ true
  unfolding title_ok
  changed_ok =
      let q = changed_title t τ k in
      both_in (numbers_ok q) (either (eqb q.mode absent_mode) (order_ok q)) changed_numbers
      (either_r (eqb q.mode absent_mode) (order_ok q) changed_order)

-- ---- the state

-- what a change of count leaves of a title
pub record Frame : Type 0 where
  pub mode : ℕ
  pub film : Film

abbrev pub frame_of : Title → Frame
frame_of t = record { mode = t.mode; film = t.film }

-- every title of one state has the mode and the film that it has in the other
abbrev pub Framed : State → State → Type 0
Framed s q = (i : ℕ) → frame_of (title_at q i) ≡ frame_of (title_at s i)

changed_frame : (t : Title) (τ k : ℕ) → t.mode ≡ open_mode → frame_of (changed_title t τ k) ≡ frame_of t
unfolding changed_title
changed_frame t τ k is_open =
    let f = fixed_drops (ended t (tick_at t τ)) (tick_at t τ) k t.count in rw (f.film, is_open) refl

-- what a stored value shows as the old one did, every place shows as before
same_shown : {A B : Type 0} (f : A → B) (row : List A) (i j : ℕ) (v d : A) → f v ≡ f (get_or row i d) →
    f (get_or (set row i v) j d) ≡ f (get_or row j d)
same_shown f [] i j v d e = refl
same_shown f (x ∷ xs) zero zero v d e = e
same_shown f (x ∷ xs) zero (suc j) v d e = refl
same_shown f (x ∷ xs) (suc i) zero v d e = refl
same_shown f (x ∷ xs) (suc i) (suc j) v d e = same_shown f xs i j v d e

pub next_framed : (s : State) (i τ k : ℕ) → (title_at s i).mode ≡ open_mode → Framed s (change_next s i τ k)
next_framed s i τ k is_open j =
    same_shown (λ t. frame_of t) s.titles i j (changed_title (title_at s i) τ k) no_title (changed_frame (title_at s i) τ k is_open)

-- the test of a slot, of its title
abbrev slot_test : ℕ → Title → Bool
slot_test pool t = both (title_ok t) (either (leb pool_min pool) (eqb t.mode absent_mode))

-- a pool with an open title has a lane
funded : (pool : ℕ) (t : Title) → slot_test pool t ≡ true → t.mode ≡ open_mode → leb pool_min pool ≡ true
funded pool t ok is_open =
    ⊎_elim (λ p. p) (λ none. absurd (false≢true (sym (ne_eqb t.mode absent_mode (λ e. omega arith)) ∙ none)))
    (either_out (leb pool_min pool) (eqb t.mode absent_mode)
    (both_r (title_ok t) (either (leb pool_min pool) (eqb t.mode absent_mode)) ok))

-- a state within its limits is so after a change of an open title to a count from its floor to its cap
pub next_ok : (s : State) (i τ k : ℕ) → state_ok s ≡ true → i ≤ id_max → (title_at s i).mode ≡ open_mode →
    (title_at s i).film.floor ≤ k → k ≤ (title_at s i).film.cap → τ ≤ asked_max → state_ok (change_next s i τ k) ≡ true
unfolding state_ok
next_ok s i τ k ok id is_open low high early =
    let t = title_at s i in
    let q = changed_title t τ k in
    let slots : every (slot_ok s) titles_max ≡ true = search (both_l, both_r) in
    let at : (j : ℕ) → j < titles_max → slot_test s.pool (title_at s j) ≡ true =
    λ j l. every_out (slot_ok s) titles_max j slots l in
    let here : slot_test s.pool t ≡ true = at i (omega arith) in
    let there : slot_test s.pool q ≡ true =
    both_in (title_ok q) (either (leb pool_min s.pool) (eqb q.mode absent_mode))
    (changed_ok t τ k (title_ok_lem s ok i (omega arith)) is_open low high early)
    (either_l (leb pool_min s.pool) (eqb q.mode absent_mode) (funded s.pool t here is_open)) in
    let pooled : leb s.pool pool_max ≡ true =
    both_l (leb s.pool pool_max) (both (leb s.last asked_max) (every (slot_ok s) titles_max)) ok in
    rw (pooled, le-leb τ asked_max early)
    (every_in (slot_ok (change_next s i τ k)) titles_max
    (λ j l. stored (λ x. slot_test s.pool x ≡ true) s.titles i j q no_title there (at j l)))
