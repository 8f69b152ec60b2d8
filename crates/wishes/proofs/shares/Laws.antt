-- The sharing of the pool among the titles that take part: it refuses nothing, and each title finds its share by its place.
-- Rests on the sharing's promise, on the limits of a state's numbers, and on the ids' places.
use mathlib.Core.Path.{◌≡◌, refl, sym, ap, ◌∙◌}
use mathlib.Core.Bool.{Bool, true}
use mathlib.Core.List.{List, [], ◌∷◌, map, map-map}
use mathlib.Core.Logic.{⊎_elim}
use Prim.Native.Nat.{ℕ, zero, suc, ◌≤◌, ◌<◌}
use native.Mathlib.Omega.{arith}
use lib.Dec.{leb}
use lib.ListN.{length, get_or, length-map, length-set}
use lib.Seq.{get_or-set_same, get_or-set_other, get_or-take}
use borrow.Author.Tests.{leb-true, le-leb, eq-eqb, le-ltb}
use Rattle.rules.specs.Limits.{within, pool_min, pool_max, rate_min, rate_max, floor_min, count_min, titles_max}
use Rattle.rules.specs.Refusals.{pick, done, first_hit}
use Rattle.rules.specs.Search.{how_many, total}
use Rattle.rules.proofs.Tests.{both_l, both_r, both_in, pick_true}
use Rattle.rules.proofs.Search.{below_suc, every_out, how_many_le, total_at}
use Rattle.sharing.specs.Titles.{Rated}
use Rattle.sharing.specs.Titles.{unrated, titles, row_total}
use Rattle.sharing.specs.Titles as sharing
use Rattle.sharing.specs.Choice.{Shared, shared}
use Rattle.sharing.specs.Verdict.{allowed, ordered, each_title, rows_fit, verdict_of, row_after}
use Rattle.sharing.proofs.Search.{search_finds}
use Rattle.sharing.proofs.Promise.{first_places}
use Rattle.story.specs.declared.State.{State}
use Rattle.story.specs.Kept.{absent_mode, title_at, order_ok, state_ok}
use Rattle.measures.proofs.Within.{numbers, order, readable, title_ok_lem, all_readable}
use Rattle.sharers.specs.Sharers.{rates_ok, takes_part, shared_pool, sharers, rated_at, rated, floors_of}
use Rattle.sharers.specs.Rows.{no_row, rows_to}
use Rattle.sharers.proofs.Ids.{ids_at, ids_each, ids_many, ids_total, read_many, place_below, row_is}
use Rattle.sharers.proofs.Sharers.{sharer_open, rows_are, floor_high}
use Rattle.wishes.specs.Wishes.{share_of}
use Rattle.wishes.specs.Shares.{counts_of, shares_to, ByShare}

-- ---- titles in rows

titles_map : (a b c d : ℕ → ℕ) (l : List ℕ) →
    titles (map a l) (map b l) (map c l) (map d l) ≡ map (λ i. record { rate = a i; length = b i; floor = c i; cap = d i }) l
unfolding titles
titles_map a b c d [] = refl
titles_map a b c d (i ∷ l) =
    ap (λ (ts : List Rated). record { rate = a i; length = b i; floor = c i; cap = d i } ∷ ts) (titles_map a b c d l)

-- a test that passes at each place passes
each_in : (p : Rated → Bool) (ts : List Rated) → ((j : ℕ) → j < length ts → p (sharing.rated_title ts j) ≡ true) → each_title p ts ≡ true
unfolding each_title
each_in p [] f = refl
each_in p (t ∷ ts) f =
    both_in (p t) (each_title p ts) (f zero (omega arith)) (each_in p ts (λ j l. f (suc j) (omega arith)))

-- ---- counts at ids

row_places : (s : State) (counts : List ℕ) (n : ℕ) → length (shares_to s counts n) ≡ titles_max
unfolding shares_to
row_places s counts zero = refl
row_places s counts (suc n) = length-set (shares_to s counts n) n (get_or counts (how_many (takes_part s) n) 0) ∙ row_places s counts n

shares_at : (s : State) (counts : List ℕ) (n i : ℕ) → n ≤ titles_max → i < n →
    get_or (shares_to s counts n) i 0 ≡ get_or counts (how_many (takes_part s) i) 0
unfolding shares_to
shares_at s counts zero i few l = absurd (omega arith)
shares_at s counts (suc n) i few l =
    let v = get_or counts (how_many (takes_part s) n) 0 in
    ⊎_elim
    (λ below. get_or-set_other (shares_to s counts n) n i v 0 (omega arith) ∙ shares_at s counts n i (omega arith) below)
    (λ here. rw here (get_or-set_same (shares_to s counts n) n v 0 (omega (arith, row_places s counts n))))
    (below_suc i n l)

-- ---- the titles that take part

-- a title that takes part is not absent
pub not_absent : (s : State) (i : ℕ) → takes_part s i ≡ true → (title_at s i).mode ≡ absent_mode → ⊥
not_absent s i part none = omega (arith, sharer_open (title_at s i) part, none)

module _ (s : State) (rates : List ℕ) (ok : state_ok s ≡ true)
    (many : length rates ≡ titles_max) (good : rates_ok rates ≡ true) where
  -- what each row of the sharing has of an id
  abbrev rate : ℕ → ℕ
  rate i = get_or rates i 0

  abbrev film : ℕ → ℕ
  film i = (title_at s i).film.length

  abbrev floor : ℕ → ℕ
  floor i = (title_at s i).film.floor

  abbrev cap : ℕ → ℕ
  cap i = (title_at s i).film.cap

  -- such a title has a floor
  part_floor : (i : ℕ) → i < titles_max → takes_part s i ≡ true → floor_min ≤ (title_at s i).film.floor
  unfolding order_ok
  part_floor i l part =
      let o = order (title_at s i) (title_ok_lem s ok i l) (not_absent s i part) in search (both_l, both_r, leb-true) depth 12

  -- its numbers are within the sharing's limits
  part_allowed : (i : ℕ) → i < titles_max → takes_part s i ≡ true → allowed (rated_at s rates i) ≡ true
  unfolding allowed rates_ok
  part_allowed i l part =
      let t = title_at s i in
      let fit = title_ok_lem s ok i l in
      let n = numbers t fit in
      let inside = readable t fit (not_absent s i part) in
      let low = part_floor i l part in
      let rate = every_out (λ j. within rate_min rate_max (get_or rates j 0)) (length rates) i good (omega arith) in
      both_in _ _ rate
      (both_in _ _ (both_in _ _ (le-leb _ _ inside.sized.low) (le-leb _ _ inside.sized.high))
      (both_in _ _ (both_in _ _ (le-leb _ _ low) (le-leb _ _ (floor_high t n part)))
      (both_in _ _ (le-leb count_min t.film.cap (omega (arith, inside.cut.fit))) (le-leb _ _ inside.cut.high))))

  part_ordered : (i : ℕ) → i < titles_max → takes_part s i ≡ true → ordered (rated_at s rates i) ≡ true
  unfolding ordered
  part_ordered i l part = le-leb _ _ (all_readable s ok i l (not_absent s i part)).cut.fit

  -- what is shared is a pool, where it has room for such a title
  part_pool : floors_of s ≤ shared_pool s → (i : ℕ) → i < titles_max → takes_part s i ≡ true → within pool_min pool_max (shared_pool s) ≡ true
  unfolding state_ok shared_pool floors_of sharers
  part_pool fit i l part =
      let f : ℕ → ℕ = λ j. pick (takes_part s j) (floor j) 0 in
      let own : f i ≡ floor i = pick_true (takes_part s i) (floor i) 0 part in
      let all : floors_of s ≡ total f titles_max = ids_total (takes_part s) floor titles_max in
      let pool : s.pool ≤ pool_max = leb-true s.pool pool_max (both_l (leb s.pool pool_max) _ ok) in
      both_in _ _ (le-leb pool_min (shared_pool s) (omega (arith, total_at f titles_max i l, part_floor i l part)))
      (le-leb (shared_pool s) pool_max (omega arith))

  -- each place of the titles that take part has one of them
  part_each : (P : Rated → Type 0) → ((i : ℕ) → i < titles_max → takes_part s i ≡ true → P (rated_at s rates i)) → (j : ℕ)
      → j < length (rated s rates) → P (sharing.rated_title (rated s rates) j)
  unfolding rated sharers
  part_each P f = ids_each (takes_part s) (rated_at s rates) unrated titles_max P f

  all_allowed : each_title allowed (rated s rates) ≡ true
  all_allowed = each_in allowed (rated s rates) (part_each (λ t. allowed t ≡ true) part_allowed)

  all_ordered : each_title ordered (rated s rates) ≡ true
  all_ordered = each_in ordered (rated s rates) (part_each (λ t. ordered t ≡ true) part_ordered)

  module _ (fit : floors_of s ≤ shared_pool s) where
    -- the counts that the sharing gives are to be preferred to every choice
    pub best_shares : Shared (shared_pool s) (rated s rates) (shared (shared_pool s) (rated s rates))
    unfolding ordered rated floors_of
    best_shares =
        search_finds (shared_pool s) (rated s rates)
        (part_each (λ t. t.floor ≤ t.cap) (λ i l part. leb-true _ _ (part_ordered i l part)))
        (rw (map-map (λ (t : Rated). t.floor) (rated_at s rates) (sharers s)) fit)

    -- one for each title that takes part
    pub shares_many : length (shared (shared_pool s) (rated s rates)) ≡ how_many (takes_part s) titles_max
    unfolding rated sharers
    shares_many = best_shares.choice.way.places ∙ read_many (takes_part s) (rated_at s rates) titles_max

    -- a share lies from the title's floor to its cap
    pub share_range : (i : ℕ) → i < titles_max → takes_part s i ≡ true →
        ((title_at s i).film.floor ≤ share_of s rates i) × (share_of s rates i ≤ (title_at s i).film.cap)
    unfolding share_of rated sharers
    share_range i l part =
        let p = takes_part s in
        let j = how_many p i in
        let place = place_below p (rated_at s rates) titles_max i l part in
        let here = ids_at p (rated_at s rates) unrated titles_max i l part in
        (rw here at (best_shares.choice.way.low j place), rw here at (best_shares.choice.way.high j place))

    -- the sharing refuses none of this
    not_refused : within pool_min pool_max (shared_pool s) ≡ true →
        verdict_of (shared_pool s) (map rate (sharers s)) (map film (sharers s)) (map floor (sharers s)) (map cap (sharers s))
        titles_max
        ≡ done
    unfolding verdict_of first_hit rows_fit rated sharers floors_of
    not_refused pool =
        let ids = sharers s in
        let few : length ids ≤ titles_max =
        omega (arith, ids_many (takes_part s) titles_max, how_many_le (takes_part s) titles_max) in
        simp (
          length-map,
          eq-eqb (length ids) (length ids) refl,
          le-leb (length ids) titles_max few,
          titles_map rate film floor cap ids,
          pool,
          all_allowed,
          all_ordered,
          le-ltb (shared_pool s) (row_total (map floor ids)) fit,
        )

    -- the row that it leaves has the share of each at its place
    counts_at : (i : ℕ) → i < titles_max → takes_part s i ≡ true →
        get_or (counts_of (shared_pool s) (rows_to s rates titles_max)) (how_many (takes_part s) i) 0 ≡ share_of s rates i
    unfolding counts_of share_of rated sharers
    counts_at i l part =
        let p = takes_part s in
        let j = how_many p i in
        let ids = sharers s in
        let rs = map rate ids in
        let ds = map film ids in
        let fs = map floor ids in
        let ks = map cap ids in
        rw (
          rows_are s rates titles_max,
          row_is p rate no_row titles_max (omega arith),
          row_is p film no_row titles_max (omega arith),
          row_is p floor no_row titles_max (omega arith),
          row_is p cap no_row titles_max (omega arith),
        )
        (sym (get_or-take (length rs) (row_after (shared_pool s) rs ds fs ks no_row) j 0 (place_below p rate titles_max i l part))
        ∙ (ap (λ (xs : List ℕ). get_or xs j 0) (first_places (shared_pool s) rs ds fs ks no_row (not_refused (part_pool fit i l part)))
        ∙ ap (λ (ts : List Rated). get_or (shared (shared_pool s) ts) j 0) (titles_map rate film floor cap ids)))

    pub by_share : ByShare s rates (shares_to s (counts_of (shared_pool s) (rows_to s rates titles_max)) titles_max)
    by_share =
        record {
          each =
              λ i l part. shares_at s (counts_of (shared_pool s) (rows_to s rates titles_max)) titles_max i (omega arith) l
              ∙ counts_at i l part;
        }
