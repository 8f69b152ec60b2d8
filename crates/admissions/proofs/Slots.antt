-- Laws of whole slots, as the code meets them: where the first admission of a stretch at or after a moment lies.
-- Rest on division with remainder.
use mathlib.Core.Path.{◌≡◌, refl, ap, ◌∙◌}
use mathlib.Core.Bool.{Bool, true, false, not}
use mathlib.Core.Logic.{⊎_elim}
use mathlib.Core.List.{List}
use Prim.Native.Nat.{ℕ, zero, suc, ◌+◌, ◌-◌, ◌*◌, ◌/◌, ◌^◌, ◌≤◌, ◌<◌, max}
use native.Mathlib.Omega.{arith}
use native.Mathlib.Nat.{div-mul-le_self}
use borrow.Author.Tests.{lt-leb, le-leb, lt-ltb, le-ltb, ltb-true, ltb-false, eqb-true}
use lib.Dec.{leb, ltb, eqb}
use lib.ListN.{get_or, length}
use Rattle.rules.specs.Limits.{both, asked_max, count_max, length_max}
use Rattle.rules.specs.Refusals.{pick}
use Rattle.rules.proofs.Tests.{decide, both_l}
use Rattle.grid.specs.Ticks.{rounded_up}
use Rattle.grid.specs.Bounds.{Exactly}
use Rattle.grid.proofs.Ticks.{rounded_enough, slot_ms_lem}
use Rattle.story.specs.declared.Title.{Title}
use Rattle.story.specs.Kept.{open_mode, is_shut, scheme_in, title_tick}
use Rattle.admissions.specs.declared.Waits.{Waits}
use Rattle.admissions.specs.declared.Stretch.{Stretch}
use Rattle.admissions.specs.declared.Tally.{Tally}
use Rattle.admissions.specs.Waits.{waited, wait_max}
use Rattle.admissions.specs.Stretches.{Spaced, next_in, Reaches, Room, Few, Playing, gather, gathered, stretch_of}
use Rattle.admissions.specs.Stretches.{ended_in, admitting, settled, all_settled}

-- whole slots that reach d: less than a slot more
pub rounded_less : (d g : ℕ) → rounded_up d g * g ≤ d + (g - 1)
unfolding rounded_up
rounded_less d g = div-mul-le_self (d + (g - 1)) g

module _ (s : Stretch) (x : ℕ) (z : Spaced s) (low : x ≤ asked_max) where
  -- the number of slots that the code finds
  abbrev pub slots_to : ℕ → ℕ
  slots_to m = (m - s.opened + (s.slot - 1)) / s.slot

  pub slots_fit : (m : ℕ) → m ≡ max x s.start → slots_to m * s.slot ≤ 2 ^ 41 + 2 ^ count_max * length_max
  slots_fit m e =
      let h = div-mul-le_self (m - s.opened + (s.slot - 1)) s.slot in
      omega (arith, h, z.short, z.early)

  pub next_reaches : (m : ℕ) → m ≡ max x s.start → Reaches s x (s.opened + slots_to m * s.slot)
  unfolding next_in rounded_up
  next_reaches m e =
      let a : m - s.opened ≤ slots_to m * s.slot = rounded_enough (m - s.opened) s.slot z.some in
      let b : slots_to m * s.slot ≤ m - s.opened + (s.slot - 1) = rounded_less (m - s.opened) s.slot in
      record {
        is = ap (λ k. s.opened + slots_to k * s.slot) e;
        late = omega (arith, a, z.since);
        soon = omega (arith, b, z.some, z.since);
      }

abbrev pub tally_of : ℕ → Waits → Tally
tally_of f w = record { from = f; waits = w }

abbrev pub spaced_at : ℕ → ℕ → ℕ → Stretch
spaced_at o g b = record { opened = o; slot = g; start = b }

pub next_is : (s : Stretch) (x : ℕ) → Spaced s → x ≤ asked_max → Reaches s x (next_in s x)
next_is s x z low = let r = next_reaches s x z low (max x s.start) refl in rw r.is at r

next_soon : (s : Stretch) (x : ℕ) → Spaced s → x ≤ asked_max → next_in s x ≤ wait_max
next_soon s x z low = omega (arith, (next_is s x z low).soon, z.short, z.early)

-- ---- the stretch of a title

pub stretch_spaced : (t : Title) (a b : ℕ) → Playing t → Exactly ((scheme_in t).slot_of t.count) 1 (2 ^ count_max) a →
    Exactly (title_tick t) 1 t.film.length b
    → (spaced_at t.opened (a * b) t.last ≡ stretch_of t) × Spaced (spaced_at t.opened (a * b) t.last)
unfolding stretch_of
stretch_spaced t a b p x y =
    let m = slot_ms_lem a b t.film.length x.low x.high y.low y.high p.sized.high in (
      rw (x.is, y.is),
      record { some = m.0; short = m.1; since = p.since; early = p.early },
    )

-- ---- one arrival

abbrev pub waits_of : ℕ → ℕ → ℕ → Waits
waits_of n l t = record { admitted = n; longest = l; sum = t }

module _ (s : Stretch) (from upto x : ℕ) (w : Waits) where
  pub comes_before : x < from → gather s from upto x w ≡ w
  unfolding gather
  comes_before h = rw (lt-leb from x h)

  pub comes_after : upto < x → gather s from upto x w ≡ w
  unfolding gather
  comes_after h = rw (lt-leb x upto h) (go (leb from x))
    where
      go : (b : Bool) → pick (both b false) (waited w (next_in s x - x)) w ≡ w
      go true = refl
      go false = refl

  pub comes_between : from ≤ x → x ≤ upto → gather s from upto x w ≡ waited w (next_in s x - x)
  unfolding gather
  comes_between h k = rw (le-leb from x h, le-leb x upto k)

  pub comes_in : (r m : ℕ) → from ≤ x → x ≤ upto → Reaches s x r → m ≡ max w.longest (r - x)
      → waits_of (w.admitted + 1) m (w.sum + (r - x)) ≡ gather s from upto x w
  unfolding waited
  comes_in r m h k is e =
      let d : r - x ≡ next_in s x - x = ap (λ y. y - x) is.is in
      rw (comes_between h k, ← d, e)

-- ---- a row: each arrival adds one at most, and a wait at most

one_more : (s : Stretch) (from upto x : ℕ) (w : Waits) → Spaced s → upto ≤ asked_max
    → ((gather s from upto x w).admitted ≤ w.admitted + 1) × ((gather s from upto x w).sum ≤ w.sum + wait_max)
unfolding waited
one_more s from upto x w z low =
    ⊎_elim (λ (h : ltb x from ≡ true). rw (comes_before s from upto x w (ltb-true x from h)) (omega arith, omega arith))
    (λ (h : ltb x from ≡ false).
    ⊎_elim (λ k. rw (comes_after s from upto x w (ltb-true upto x k)) (omega arith, omega arith))
    (λ k.
    let in_time : x ≤ upto = ltb-false upto x k in
    rw (comes_between s from upto x w (ltb-false x from h) in_time)
    (omega arith, omega (arith, next_soon s x z (omega arith))))
    (decide (ltb upto x)))
    (decide (ltb x from))

pub row_adds : (s : Stretch) (from upto : ℕ) (xs : List ℕ) (w : Waits) → Spaced s → upto ≤ asked_max → (n : ℕ)
    → ((gathered s from upto xs w n).admitted ≤ w.admitted + n) × ((gathered s from upto xs w n).sum ≤ w.sum + n * wait_max)
unfolding gathered
row_adds s from upto xs w z low zero = (omega arith, omega arith)
row_adds s from upto xs w z low (suc n) =
    let before = row_adds s from upto xs w z low n in
    let one = one_more s from upto (get_or xs n 0) (gathered s from upto xs w n) z low in
    (omega arith, omega arith)

pub row_room : (s : Stretch) (from upto : ℕ) (xs : List ℕ) (w : Waits) (m n : ℕ) → Spaced s → upto ≤ asked_max →
    Few m w → n < m
    → Room (gathered s from upto xs w n)
row_room s from upto xs w m n z low few h =
    let adds = row_adds s from upto xs w z low n in
    record {
      admitted_few = omega (arith, adds.0, few.row_short, few.admitted_few);
      sum_low = omega (arith, adds.1, few.row_short, few.sum_low);
    }

-- ---- the end of a stretch

module _ (s : Stretch) (τ : ℕ) (xs : List ℕ) (y : Tally) (r : ℕ) (is : r ≡ next_in s τ) where
  none_in_it : r < s.start + s.slot → y ≡ ended_in s τ xs y
  unfolding ended_in
  none_in_it h = rw (lt-ltb (next_in s τ) (s.start + s.slot) (rw is at h))

  some_in_it : (w : Waits) → s.start + s.slot ≤ r → w ≡ gathered s y.from (r - s.slot) xs y.waits (length xs)
      → tally_of (r - s.slot + 1) w ≡ ended_in s τ xs y
  unfolding ended_in
  some_in_it w h all = rw (le-ltb (next_in s τ) (s.start + s.slot) (rw is at h), all, is)

-- a title that admits boxes is open
pub admitting_open : (t : Title) → admitting t ≡ true → t.mode ≡ open_mode
unfolding admitting
admitting_open t h = eqb-true t.mode open_mode (both_l (eqb t.mode open_mode) (not (is_shut t)) h)

module _ (t : Title) (xs : List ℕ) (y : Tally) where
  pub not_open : (τ : ℕ) → admitting t ≡ false → y ≡ settled t τ xs y
  unfolding settled
  not_open τ h = rw h

  pub not_endless : admitting t ≡ false → y.waits ≡ all_settled t xs y
  unfolding all_settled
  not_endless h = rw h

  module _ (is_open : admitting t ≡ true) (s : Stretch) (same : s ≡ stretch_of t) where
    open_ends : (τ : ℕ) → ended_in s τ xs y ≡ settled t τ xs y
    unfolding settled
    open_ends τ = rw is_open (ap (λ z. ended_in z τ xs y) same)

    pub ends_without : (τ r : ℕ) → r ≡ next_in s τ → r < s.start + s.slot → y ≡ settled t τ xs y
    ends_without τ r is h = none_in_it s τ xs y r is h ∙ open_ends τ

    pub ends_with : (τ r : ℕ) (w : Waits) → r ≡ next_in s τ → s.start + s.slot ≤ r
        → w ≡ gathered s y.from (r - s.slot) xs y.waits (length xs) → tally_of (r - s.slot + 1) w ≡ settled t τ xs y
    ends_with τ r w is h all = some_in_it s τ xs y r is w h all ∙ open_ends τ

    pub never_ends : (w : Waits) → w ≡ gathered s y.from asked_max xs y.waits (length xs) → w ≡ all_settled t xs y
    unfolding all_settled
    never_ends w all =
        rw is_open (all ∙ ap (λ z. gathered z y.from asked_max xs y.waits (length xs)) same)
