-- No release moves later since padding is owed to nobody: whatever the life, a lane that is held was held under the
-- rule before too, so no more lanes are held at any moment. An event that was accepted then, after the same accepted
-- events, is accepted now, an opening above all; what got 9 may pass. Rests on the laws of held lanes and of listed
-- refusals.
use mathlib.Core.Path.{◌≡◌, refl, sym, ◌∙◌}
use mathlib.Core.Bool.{Bool, true, false}
use mathlib.Core.Logic.{⊎_elim}
use mathlib.Core.List.{List, ◌∷◌}
use Prim.Native.Nat.{ℕ, ◌+◌, ◌-◌, ◌≤◌, ◌<◌}
use native.Mathlib.Omega.{arith}
use lib.Dec.{ltb, eqb}
use borrow.Author.Tests.{ltb-true, ltb-false, lt-ltb, le-ltb, eqb-false}
use Rattle.rules.specs.Limits.{either, titles_max}
use Rattle.rules.specs.Refusals.{first_hit, outside_limits, too_early, id_taken, is_closing, floor_above_cap, below_floor}
use Rattle.rules.specs.Refusals.{is_steady, above_cap, unchanged}
use Rattle.rules.specs.Refusals.{doors_unchanged, second_event, too_soon}
use Rattle.rules.specs.Refusals.{not_at_slot, no_lanes}
use Rattle.rules.specs.Search.{how_many}
use Rattle.rules.proofs.Tests.{decide, either_l, either_r, either_false, either_false_l, either_false_r}
use Rattle.rules.proofs.Search
use Rattle.rules.proofs.Refusals.{hits_of, numbered, cleared}
use Rattle.grid.proofs.Numbers.{ne_zero_pos}
use Rattle.story.specs.Life.{Life, is_active, dropped_at, is_owed, reach, owed_within, owes}
use Rattle.story.specs.Life.{is_held}
use Rattle.story.specs.declared.Act.{Act}
use Rattle.story.specs.declared.Act.TheVariants.{Opens, Changes, Closes, Doors}
use Rattle.story.specs.declared.Event.{Event}
use Rattle.story.specs.Story.{tick_in, life_of, count_in, is_held_in}
use Rattle.story.specs.Story.{held_in}
use Rattle.story.specs.Story.{held_over}
use Rattle.story.specs.Story.{is_there_in, order_of, answer_to, answer}
use Rattle.story.specs.Formerly.{formerly_owed, formerly_owes, formerly_held, formerly_held_in, formerly_held_over, formerly_tests}
use Rattle.story.specs.Formerly.{formerly_answer_to, formerly_answer}
use Rattle.story.proofs.Owed.{owed_out}
use Rattle.story.proofs.Held.{held_sending}

module _ (L : Life) (l : ℕ) where
  -- what is owed was owed, so a dropped lane owes no more than it did
  pub owed_before : (T t : ℕ) → is_owed L l T t ≡ true → formerly_owed L l T t ≡ true
  unfolding formerly_owed
  owed_before T t h = owed_out L l T t h

  pub owes_no_more : (T : ℕ) → owes L l T ≤ formerly_owes L l T
  unfolding owes owed_within formerly_owes
  owes_no_more T =
      Search.how_many_wider (λ o. is_owed L l T (T + o)) (λ o. formerly_owed L l T (T + o)) (reach L.film.cap)
      (λ o b. owed_before T (T + o))

  -- a lane that is held at a tick was held then
  pub held_before : (t : ℕ) → is_held L l t ≡ true → formerly_held L l t ≡ true
  unfolding formerly_held
  held_before t h = ⊎_elim (λ on. either_l (is_active L l t) sending on) off (decide (is_active L l t))
    where
      T : ℕ
      T = dropped_at L l t

      sending : Bool
      sending = ltb (t - T) (formerly_owes L l T)

      off : is_active L l t ≡ false → either (is_active L l t) sending ≡ true
      off x =
          let now : t - T < owes L l T = ltb-true (t - T) (owes L l T) (sym (held_sending L l t x) ∙ h) in
          either_r (is_active L l t) sending (lt-ltb (t - T) (formerly_owes L l T) (omega (arith, owes_no_more T)))

  -- so of any n ticks on end, those from a drop on for one, it is held in no more than it was
  pub no_longer : (T n : ℕ) → how_many (λ j. is_held L l (T + j)) n ≤ how_many (λ j. formerly_held L l (T + j)) n
  no_longer T n =
      Search.how_many_wider (λ j. is_held L l (T + j)) (λ j. formerly_held L l (T + j)) n (λ j b. held_before (T + j))

-- no more lanes are held at any moment, of a title and over all of them
pub title_holds_no_more : (L : Life) (τ : ℕ) → held_in L τ ≤ formerly_held_in L τ
unfolding held_in formerly_held_in
title_holds_no_more L τ =
    Search.how_many_wider (λ l. is_held_in L l τ) (λ l. formerly_held L l (tick_in L τ)) L.film.cap
    (λ l b. held_before L l (tick_in L τ))

pub no_more_held : (es : List Event) (τ : ℕ) → held_over es τ ≤ formerly_held_over es τ
unfolding held_over formerly_held_over
no_more_held es τ =
    Search.total_le (λ i. held_in (life_of es i) τ) (λ i. formerly_held_in (life_of es i) τ) titles_max
    (λ i b. title_holds_no_more (life_of es i) τ)

-- an id that was free is free, and where the pool was large enough it is
still_away : (L : Life) (τ : ℕ) → either (ltb 0 (count_in L τ)) (ltb 0 (formerly_held_in L τ)) ≡ false →
    is_there_in L τ ≡ false
still_away L τ h =
    let none : formerly_held_in L τ ≤ 0 =
    ltb-false 0 (formerly_held_in L τ) (either_false_r (ltb 0 (count_in L τ)) (ltb 0 (formerly_held_in L τ)) h) in
    either_false (ltb 0 (count_in L τ)) (ltb 0 (held_in L τ))
    (either_false_l (ltb 0 (count_in L τ)) (ltb 0 (formerly_held_in L τ)) h)
    (le-ltb 0 (held_in L τ) (omega (arith, title_holds_no_more L τ)))

still_room : (pool : ℕ) (es : List Event) (τ : ℕ) → ltb pool (formerly_held_over es τ) ≡ false →
    ltb pool (held_over es τ) ≡ false
still_room pool es τ h =
    let before : formerly_held_over es τ ≤ pool = ltb-false pool (formerly_held_over es τ) h in
    le-ltb pool (held_over es τ) (omega (arith, no_more_held es τ))

-- a title that a count rules is there
open_there : (L : Life) (τ : ℕ) → eqb (count_in L τ) 0 ≡ false → is_there_in L τ ≡ true
open_there L τ h =
    either_l (ltb 0 (count_in L τ)) (ltb 0 (held_in L τ))
    (lt-ltb 0 (count_in L τ) (ne_zero_pos (count_in L τ) (eqb-false (count_in L τ) 0 h)))

module _ (pool : ℕ) (es : List Event) (e : Event) (L : Life) where
  clears : (a : Act) → formerly_answer_to pool es e L a ≡ 0 → (n : ℕ) →
      hits_of n (order_of a (formerly_tests pool es e L a)) ≡ false
  unfolding formerly_answer_to numbered
  clears (Opens f k) h = cleared (order_of (Opens f k) (formerly_tests pool es e L (Opens f k))) refl h
  clears (Changes k) h = cleared (order_of (Changes k) (formerly_tests pool es e L (Changes k))) refl h
  clears Closes h = cleared (order_of Closes (formerly_tests pool es e L Closes)) refl h
  clears (Doors b) h = cleared (order_of (Doors b) (formerly_tests pool es e L (Doors b))) refl h

  still : (a : Act) → formerly_answer_to pool es e L a ≡ 0 → answer_to pool es e L a ≡ 0
  unfolding answer_to first_hit hits_of
  still (Opens f k) h =
      let clear = clears (Opens f k) h in
      rw (
        clear outside_limits,
        clear too_early,
        still_away L e.time (clear id_taken),
        clear floor_above_cap,
        clear below_floor,
        clear above_cap,
        still_room pool (e ∷ es) e.time (clear no_lanes),
      )
      refl
  still (Changes k) h =
      let clear = clears (Changes k) h in
      rw (
        clear outside_limits,
        clear too_early,
        open_there L e.time (clear is_closing),
        clear is_closing,
        clear is_steady,
        clear below_floor,
        clear above_cap,
        clear unchanged,
        clear second_event,
        clear too_soon,
        clear not_at_slot,
        still_room pool (e ∷ es) e.time (clear no_lanes),
      )
      refl
  still (Doors b) h =
      let clear = clears (Doors b) h in
      rw (
        clear outside_limits,
        clear too_early,
        open_there L e.time (clear is_closing),
        clear is_closing,
        clear is_steady,
        clear doors_unchanged,
        clear second_event,
        clear not_at_slot,
      )
      refl
  still Closes h =
      let clear = clears Closes h in
      rw (
        clear outside_limits,
        clear too_early,
        open_there L e.time (clear is_closing),
        clear is_closing,
        clear second_event,
        clear not_at_slot,
      )
      refl

-- an event that was accepted after the accepted events es is accepted after them now
pub accepted_still : (pool : ℕ) (es : List Event) (e : Event) → formerly_answer pool es e ≡ 0 → answer pool es e ≡ 0
accepted_still pool es e = still pool es e (life_of es e.title) e.act
