-- What dropping lanes and ending a count leave as it was, and what a title within its limits has.
-- Rests on the laws of lists and searches.
use mathlib.Core.Path.{◌≡◌, refl, ap}
use mathlib.Core.Logic.{⊎_elim}
use native.Mathlib.Omega.{arith}
use mathlib.Core.Bool.{Bool, true, false}
use mathlib.Core.List.{List, [], ◌∷◌}
use Prim.Native.Nat.{ℕ, zero, suc, ◌≤◌, ◌<◌}
use lib.Dec.{leb, ltb}
use lib.ListN.{get_or, set}
use borrow.Author.Tests.{le-leb, lt-leb, lt-ltb, le-ltb, leb-true, leb-false}
use Rattle.rules.specs.Limits.{both, asked_max, count_places}
use Rattle.rules.specs.Refusals.{pick}
use Rattle.rules.proofs.Tests.{decide}
use Rattle.rules.proofs.Search.{every_in}
use Rattle.story.specs.declared.Film.{Film}
use Rattle.story.specs.declared.Title.{Title}
use Rattle.story.specs.declared.Act.{Act}
use Rattle.story.specs.declared.Act.TheVariants.{Opens, Changes, Closes, Doors}
use Rattle.story.specs.Kept.{open_mode, closing_mode, clear_mark, is_shut, row_ok, tick_at}
use Rattle.story.specs.Next.{ended, drop_lane, drop_lanes, turned_title, changed_title, closed_title, doors_title, next_title}
use Rattle.measures.specs.Readable.{Filmed, Owing}
use Rattle.measures.proofs.Within.{in_row}
use Rattle.owed.specs.Owing.{Turnable}

-- a title with the same film, count and ends
pub record Fixed (t q : Title) : Type 0 where
  pub film : q.film ≡ t.film
  pub count : q.count ≡ t.count
  pub ends : q.ends ≡ t.ends

pub fixed_drops : (t : Title) (n k i : ℕ) → Fixed t (drop_lanes t n k i)
unfolding drop_lanes
fixed_drops t n k zero = record { film = refl; count = refl; ends = refl }
fixed_drops t n k (suc i) = go (both (leb k i) (ltb i t.count)) (fixed_drops t n k i)
  where
    go : (b : Bool) → Fixed t (drop_lanes t n k i) →
        Fixed t (pick b (drop_lane (drop_lanes t n k i) n i) (drop_lanes t n k i))
    go true f = record { film = f.film; count = f.count; ends = f.ends }
    go false f = f

-- the limits of the same film
pub fixed_film : (t q : Title) → Fixed t q → Filmed t.film → Filmed q.film
fixed_film t q f o = record { sized = rw f.film o.sized; cut = rw f.film o.cut; flat = rw f.film o.flat }

pub fixed_owing : (t q : Title) → Fixed t q → Owing t → Owing q
fixed_owing t q f o = record { film = fixed_film t q f o.film; ends = rw f.ends o.ends }

-- what holds of a value, and of each place of a row, holds of each place once the value is stored
pub stored : {A : Type 0} (P : A → Type 0) (row : List A) (i j : ℕ) (v d : A) → P v → P (get_or row j d) →
    P (get_or (set row i v) j d)
stored P [] i j v d a b = b
stored P (x ∷ xs) zero zero v d a b = a
stored P (x ∷ xs) zero (suc j) v d a b = b
stored P (x ∷ xs) (suc i) zero v d a b = b
stored P (x ∷ xs) (suc i) (suc j) v d a b = stored P xs i j v d a b

pub stored_row : (row : List ℕ) (n i v : ℕ) → v ≤ asked_max → row_ok row n ≡ true → row_ok (set row i v) n ≡ true
stored_row row n i v l ok =
    every_in (λ j. leb (get_or (set row i v) j 0) asked_max) n
    (λ j below. le-leb (get_or (set row i v) j 0) asked_max (stored (λ x. x ≤ asked_max) row i j v 0 l (in_row row n j ok below)))

pub ended_owing : (t : Title) (n : ℕ) → n ≤ asked_max → Owing t → Owing (ended t n)
ended_owing t n l o =
    record {
      film = record { sized = o.film.sized; cut = o.film.cut; flat = o.film.flat };
      ends = elim (is_shut t) as (λ b. row_ok (pick b t.ends (set t.ends t.count n)) count_places ≡ true) [
        | true ↦ o.ends
        | false ↦ stored_row t.ends count_places t.count n l o.ends
      ];
    }

-- of the lanes below the new count none is dropped,
pub drop_below : (t : Title) (n k i : ℕ) → i ≤ k → drop_lanes t n k i ≡ t
unfolding drop_lanes
drop_below t n k zero l = refl
drop_below t n k (suc i) l = rw (lt-leb k i (omega arith)) (drop_below t n k i (omega arith))

-- from there up to the old one each is,
pub drop_more : (t q : Title) (n k i : ℕ) → q ≡ drop_lanes t n k i → k ≤ i → i < t.count →
    drop_lane q n i ≡ drop_lanes t n k (suc i)
unfolding drop_lanes
drop_more t q n k i e h l = rw (le-leb k i h, lt-ltb i t.count l, ← e) refl

-- and from the old one up none
pub drop_past : (t : Title) (n k i : ℕ) → t.count ≤ i → drop_lanes t n k i ≡ drop_lanes t n k t.count
unfolding drop_lanes
drop_past t n k zero l = ap (drop_lanes t n k) {x = zero} {y = t.count} (omega arith)
drop_past t n k (suc i) l =
    ⊎_elim (λ h. rw (le-ltb i t.count (leb-true t.count i h), no_pick (leb k i)) (drop_past t n k i (leb-true t.count i h)))
    (λ h. ap (drop_lanes t n k) {x = suc i} {y = t.count} (omega (arith, leb-false t.count i h))) (decide (leb t.count i))
  where
    no_pick : (b : Bool) → both b false ≡ false
    no_pick true = refl
    no_pick false = refl

-- the film of a title after an event is within its limits: an opening's own, or as it was
turned_film : (t : Title) (τ q m c d u : ℕ) → (turned_title t τ q m c d u).film ≡ t.film
turned_film t τ q m c d u = (fixed_drops (ended t (tick_at t τ)) (tick_at t τ) q t.count).film

pub next_filmed : (t : Title) (τ : ℕ) (a : Act) → Turnable t a → ((f : Film) (k : ℕ) → a ≡ Opens f k → Filmed f) →
    Filmed (next_title t τ a).film
unfolding changed_title closed_title doors_title
next_filmed t τ (Opens f k) ready own = own f k refl
next_filmed t τ (Changes k) ready own = rw (turned_film t τ k open_mode k t.mark τ) ready.owing.film
next_filmed t τ Closes ready own = rw (turned_film t τ 0 closing_mode t.count clear_mark t.tuned) ready.owing.film
next_filmed t τ (Doors b) ready own = ready.owing.film
