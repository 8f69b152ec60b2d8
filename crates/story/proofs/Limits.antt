-- No reached state gets 1 for itself: what the events keep true of a title keeps its numbers within their limits.
-- Rests on `Present` and `Tells`.
use mathlib.Core.Path.{◌≡◌, refl, ap}
use mathlib.Core.Bool.{Bool, true, not}
use mathlib.Core.Logic.{◌⊎◌, ⊎_elim}
use mathlib.Core.List.{List, []}
use Prim.Native.Nat.{ℕ, ◌≤◌, ◌<◌}
use native.Mathlib.Omega.{arith}
use lib.Dec.{leb, eqb}
use lib.ListN.{get_or}
use borrow.Author.Tests.{le-leb, eq-eqb, eqb-true}
use Rattle.rules.specs.Limits.{both, either, pool_min, pool_max, asked_max, length_min, length_max, floor_min, floor_max}
use Rattle.rules.specs.Limits.{count_max, steady_max, titles_max, count_places, lane_places}
use Rattle.rules.specs.Refusals.{pick}
use Rattle.rules.specs.Search.{every}
use Rattle.rules.proofs.Tests.{decide, both_in, either_l, either_r}
use Rattle.rules.proofs.Search
use Rattle.scheme.specs.Scheme.{steady_kind}
use Rattle.story.specs.declared.Title.{Title}
use Rattle.story.specs.declared.State.{State}
use Rattle.story.specs.Kept.{held_mark, title_at, is_steady_title, row_ok, numbers_ok, order_ok, title_ok, state_ok}
use Rattle.story.specs.Life.{Life, Course}
use Rattle.story.specs.declared.Event.{Event}
use Rattle.story.specs.Story.{life_of, latest_of}
use Rattle.story.proofs.Kept.{Present}
use Rattle.story.proofs.Tells.{TellsTitle, absent, present, Tells}

row_ok_lem : (row : List ℕ) (n : ℕ) → ((j : ℕ) → get_or row j 0 ≤ asked_max) → row_ok row n ≡ true
row_ok_lem row n f = Search.every_in (λ j. leb (get_or row j 0) asked_max) n (λ j b. le-leb (get_or row j 0) asked_max (f j))

numbers_ok_lem : (t : Title) (r : Course) → Present t r → numbers_ok t ≡ true
unfolding numbers_ok
numbers_ok_lem t r p =
    let z = p.sized in
    let m : t.mode ≤ 2 = ⊎_elim (λ e. omega arith) (λ e. omega arith) p.mode in
    rw (
      le-leb t.mode 2 m,
      le-leb t.film.kind steady_kind z.kind_high,
      le-leb t.opened asked_max (omega (arith, z.opened_high)),
      le-leb t.film.length length_max z.length_high,
      le-leb t.film.floor (pick (is_steady_title t) steady_max floor_max) z.floor_high,
      le-leb t.film.cap count_max z.cap_high,
      le-leb t.count count_max (omega (arith, z.count_high, z.cap_high)),
      le-leb t.mark held_mark z.mark_high,
      le-leb t.last asked_max (omega (arith, z.last_high)),
      le-leb t.tuned asked_max (omega (arith, z.tuned_high)),
      row_ok_lem t.ends count_places z.ends_high,
      row_ok_lem t.dropped lane_places z.dropped_high,
      row_ok_lem t.owed lane_places z.owed_high,
    )
    refl

-- of a skip-forward title floor and cap are one
level : (t : Title) → (t.film.kind ≡ steady_kind → t.film.floor ≡ t.film.cap) →
    either (not (is_steady_title t)) (eqb t.film.floor t.film.cap) ≡ true
level t flat =
    ⊎_elim (λ x. rw x (eq-eqb t.film.floor t.film.cap (flat (eqb-true t.film.kind steady_kind x)))) (λ x. rw x refl)
    (decide (is_steady_title t))

order_ok_lem : (t : Title) (r : Course) → Present t r → order_ok t ≡ true
unfolding order_ok
order_ok_lem t r p =
    let z = p.sized in
    rw (
      le-leb length_min t.film.length z.length_low,
      le-leb floor_min t.film.floor z.floor_low,
      le-leb t.film.floor t.film.cap (omega (arith, z.count_low, z.count_high)),
      le-leb t.film.floor t.count z.count_low,
      le-leb t.count t.film.cap z.count_high,
      level t z.flat,
    )
    refl

title_ok_lem : (L : Life) (m : ℕ) (t : Title) → TellsTitle L m t → title_ok t ≡ true
unfolding title_ok numbers_ok every
title_ok_lem L m t (absent e f g) = rw g refl
title_ok_lem L m t (present r e f p) =
    both_in (numbers_ok t) (either (eqb t.mode 0) (order_ok t)) (numbers_ok_lem t r p)
    (either_r (eqb t.mode 0) (order_ok t) (order_ok_lem t r p))

-- where nothing happened there is no title
untold : (es : List Event) (i : ℕ) → es ≡ [] → (life_of es i).film.floor ≡ 0
unfolding life_of
untold es i e = ap (λ x. (life_of x i).film.floor) e

nobody : (L : Life) (m : ℕ) (t : Title) → TellsTitle L m t → L.film.floor ≡ 0 → eqb t.mode 0 ≡ true
nobody L m t (absent e f g) z = rw g refl
nobody L m t (present r e f p) z =
    let q : L.film.floor ≡ t.film.floor = ap (λ (x : Life). x.film.floor) e in
    absurd (omega (arith, p.sized.floor_low))

-- a pool of no lanes has accepted nothing
abbrev pub Funded : ℕ → List Event → Type 0
Funded lanes es = (0 < lanes) ⊎ (es ≡ [])

-- a slot is within its limits, and empty where the pool has no lanes
slot_ok_lem : (lanes : ℕ) (es : List Event) (s : State) → Tells lanes es s → Funded lanes es → (i : ℕ) → i < titles_max →
    both (title_ok (title_at s i)) (either (leb pool_min s.pool) (eqb (title_at s i).mode 0)) ≡ true
slot_ok_lem lanes es s w funded i b =
    let some_lane : Bool = leb pool_min s.pool in
    let empty : Bool = eqb (title_at s i).mode 0 in
    both_in (title_ok (title_at s i)) (either some_lane empty)
    (title_ok_lem (life_of es i) (latest_of es i) (title_at s i) (w.title i b))
    (⊎_elim (λ p. either_l some_lane empty (le-leb pool_min s.pool (omega (arith, w.pool))))
    (λ e. either_r some_lane empty (nobody (life_of es i) (latest_of es i) (title_at s i) (w.title i b) (untold es i e)))
    funded)

pub state_ok_lem : (lanes : ℕ) (es : List Event) (s : State) → Tells lanes es s → lanes ≤ pool_max → Funded lanes es →
    state_ok s ≡ true
unfolding state_ok
state_ok_lem lanes es s w high funded =
    let slots : ℕ → Bool = λ i. both (title_ok (title_at s i)) (either (leb pool_min s.pool) (eqb (title_at s i).mode 0)) in
    both_in (leb s.pool pool_max) (both (leb s.last asked_max) (every slots titles_max))
    (le-leb s.pool pool_max (omega (arith, w.pool)))
    (both_in (leb s.last asked_max) (every slots titles_max)
    (le-leb s.last asked_max (omega (arith, w.last, w.limit)))
    (Search.every_in slots titles_max (slot_ok_lem lanes es s w funded)))
