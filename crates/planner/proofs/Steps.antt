-- The list wish by wish: what one wish more adds to the list, to the state that it leaves and to its last moment; and that an
-- event falls past the clock just where the last does. Rests on the laws of lists.
use mathlib.Core.Path.{◌≡◌, refl, sym, ap, ◌∙◌}
use mathlib.Core.Bool.{Bool}
use mathlib.Core.Logic.{⊎_elim}
use mathlib.Core.List.{List, [], ◌∷◌, ◌++◌, map, map-append}
use Prim.Native.Nat.{ℕ, zero, suc, ◌≤◌, ◌<◌}
use native.Mathlib.Omega.{arith}
use native.Mathlib.Nat.{le_trans}
use lib.Dec.{ltb}
use Rattle.std.proofs.Math.Seq.{take-suc}
use lib.ListN.{take, length, get_or, set, length-append}
use lib.Seq.{get_or-set_same, get_or-set_other}
use borrow.Author.Tests.{ltb-true, ltb-false, lt-ltb, le-ltb}
use Rattle.rules.specs.Limits.{event_time_max}
use Rattle.rules.proofs.Tests.{decide}
use Rattle.rules.proofs.Search.{below_suc}
use Rattle.story.specs.declared.State.{State}
use Rattle.moments.specs.Moments.{earliest}
use Rattle.wishes.specs.Wishes.{Wish, wish_at, wishes_to}
use Rattle.wishes.proofs.Wished.{Each, each_none, each_more}
use Rattle.planner.specs.Moves.{Move, moment_for, moved_at, move_at, listed, all_moved, falls_past}
use Rattle.planner.specs.inner.Steps.{last_moment, first_of}

-- ---- one wish more

pub listed_more : (s : State) (τ : ℕ) (ws : List Wish) (w : Wish) →
    listed s τ (ws ++ (w ∷ [])) ≡ listed s τ ws ++ (move_at (all_moved s τ ws) (last_moment s τ ws) w ∷ [])
unfolding listed all_moved last_moment
listed_more s τ [] w = refl
listed_more s τ (v ∷ ws) w =
    ap (λ (ms : List Move). move_at s τ v ∷ ms) (listed_more (moved_at s τ v) (moment_for s τ v) ws w)

pub moved_more : (s : State) (τ : ℕ) (ws : List Wish) (w : Wish) →
    all_moved s τ (ws ++ (w ∷ [])) ≡ moved_at (all_moved s τ ws) (last_moment s τ ws) w
unfolding all_moved last_moment
moved_more s τ [] w = refl
moved_more s τ (v ∷ ws) w = moved_more (moved_at s τ v) (moment_for s τ v) ws w

pub last_more : (s : State) (τ : ℕ) (ws : List Wish) (w : Wish) →
    last_moment s τ (ws ++ (w ∷ [])) ≡ moment_for (all_moved s τ ws) (last_moment s τ ws) w
unfolding all_moved last_moment
last_more s τ [] w = refl
last_more s τ (v ∷ ws) w = last_more (moved_at s τ v) (moment_for s τ v) ws w

-- ---- moments only rise

from_on_lem : (p : ℕ → Bool) (τ : ℕ) → τ ≤ earliest p τ
unfolding earliest
from_on_lem p τ = omega arith

last_from : (s : State) (τ : ℕ) (ws : List Wish) → τ ≤ last_moment s τ ws
unfolding last_moment
last_from s τ [] = omega arith
last_from s τ (w ∷ ws) = le_trans (from_on_lem _ τ) (last_from (moved_at s τ w) (moment_for s τ w) ws)

pub falls_last : (s : State) (τ : ℕ) (ws : List Wish) → τ ≤ event_time_max →
    falls_past (listed s τ ws) ≡ ltb event_time_max (last_moment s τ ws)
unfolding falls_past listed last_moment
falls_last s τ [] l = sym (le-ltb event_time_max τ l)
falls_last s τ (w ∷ ws) l =
    ⊎_elim
    (λ past.
    rw past
    (sym
    (lt-ltb event_time_max (last_moment (moved_at s τ w) (moment_for s τ w) ws)
    (le_trans (ltb-true event_time_max (moment_for s τ w) past) (last_from (moved_at s τ w) (moment_for s τ w) ws)))))
    (λ in_clock.
    rw in_clock
    (falls_last (moved_at s τ w) (moment_for s τ w) ws (ltb-false event_time_max (moment_for s τ w) in_clock)))
    (decide (ltb event_time_max (moment_for s τ w)))

-- ---- what the list says of its wishes

pub listed_length : (s : State) (τ : ℕ) (ws : List Wish) → length (listed s τ ws) ≡ length ws
unfolding listed
listed_length s τ [] = refl
listed_length s τ (w ∷ ws) = ap suc (listed_length (moved_at s τ w) (moment_for s τ w) ws)

pub listed_titles : (s : State) (τ : ℕ) (ws : List Wish) → map (λ m. m.title) (listed s τ ws) ≡ map (λ w. w.title) ws
unfolding listed
listed_titles s τ [] = refl
listed_titles s τ (w ∷ ws) = ap (λ (is : List ℕ). w.title ∷ is) (listed_titles (moved_at s τ w) (moment_for s τ w) ws)

pub listed_counts : (s : State) (τ : ℕ) (ws : List Wish) → map (λ m. m.count) (listed s τ ws) ≡ map (λ w. w.count) ws
unfolding listed
listed_counts s τ [] = refl
listed_counts s τ (w ∷ ws) = ap (λ (ks : List ℕ). w.count ∷ ks) (listed_counts (moved_at s τ w) (moment_for s τ w) ws)

-- ---- the first places of a row

-- a place from n on that is written
pub first_set : (row : List ℕ) (j v n : ℕ) → n ≤ j → first_of (set row j v) n ≡ first_of row n
unfolding first_of
first_set row j v zero l = refl
first_set row j v (suc n) l = rw (first_set row j v n (omega arith), get_or-set_other row j n v 0 (λ e. omega arith)) refl

pub first_write : (row : List ℕ) (j v : ℕ) → j < length row → first_of (set row j v) (suc j) ≡ first_of row j ++ (v ∷ [])
unfolding first_of
first_write row j v l = rw (first_set row j v j (omega arith), get_or-set_same row j v 0 l) refl

-- the first places of a row
pub first_take : (row : List ℕ) (n : ℕ) → n ≤ length row → take n row ≡ first_of row n
unfolding first_of
first_take row zero l = refl
first_take row (suc n) l = take-suc row n 0 (omega arith) ∙ ap (λ (xs : List ℕ). xs ++ (get_or row n 0 ∷ [])) (first_take row n (omega arith))

-- ---- wishes in rows

pub wishes_length : (ids counts : List ℕ) (n : ℕ) → length (wishes_to ids counts n) ≡ n
unfolding wishes_to
wishes_length ids counts zero = refl
wishes_length ids counts (suc n) =
    length-append (wishes_to ids counts n) (wish_at ids counts n ∷ []) ∙ omega (arith, wishes_length ids counts n)

pub wishes_titles : (ids counts : List ℕ) (n : ℕ) → map (λ w. w.title) (wishes_to ids counts n) ≡ first_of ids n
unfolding wishes_to first_of
wishes_titles ids counts zero = refl
wishes_titles ids counts (suc n) =
    map-append (λ w. w.title) (wishes_to ids counts n) (wish_at ids counts n ∷ [])
    ∙ ap (λ (is : List ℕ). is ++ (get_or ids n 0 ∷ [])) (wishes_titles ids counts n)

pub wishes_counts : (ids counts : List ℕ) (n : ℕ) → map (λ w. w.count) (wishes_to ids counts n) ≡ first_of counts n
unfolding wishes_to first_of
wishes_counts ids counts zero = refl
wishes_counts ids counts (suc n) =
    map-append (λ w. w.count) (wishes_to ids counts n) (wish_at ids counts n ∷ [])
    ∙ ap (λ (ks : List ℕ). ks ++ (get_or counts n 0 ∷ [])) (wishes_counts ids counts n)

-- what holds of each wish of a list holds of the last, and of each before it
each_last : (P : Wish → Type 0) (ws : List Wish) (w : Wish) → Each P (ws ++ (w ∷ [])) → P w
each_last P [] w (each_more p e) = p
each_last P (v ∷ ws) w (each_more p e) = each_last P ws w e

each_before : (P : Wish → Type 0) (ws : List Wish) (w : Wish) → Each P (ws ++ (w ∷ [])) → Each P ws
each_before P [] w e = each_none
each_before P (v ∷ ws) w (each_more p e) = each_more p (each_before P ws w e)

pub each_at : (P : Wish → Type 0) (ids counts : List ℕ) (n j : ℕ) → Each P (wishes_to ids counts n) → j < n →
    P (wish_at ids counts j)
unfolding wishes_to
each_at P ids counts zero j e l = absurd (omega arith)
each_at P ids counts (suc n) j e l =
    ⊎_elim (λ below. each_at P ids counts n j (each_before P (wishes_to ids counts n) (wish_at ids counts n) e) below)
    (λ here. rw here (each_last P (wishes_to ids counts n) (wish_at ids counts n) e))
    (below_suc j n l)
