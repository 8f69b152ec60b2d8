-- What is left to refuse an event at a later time, once its own answer has been 8 or 9: what passed at its time passes then, so that behind an
-- 8 only lanes may refuse it at an allowed time, and behind a 9 nothing refuses an opening that has room.
-- Rests on the laws of the refusals' order and of skipped times.
use mathlib.Core.Path.{◌≡◌, refl, sym, ◌∙◌}
use mathlib.Core.Bool.{Bool, true, false, not, false≢true}
use mathlib.Core.Logic.{◌⊎◌, inl, inr}
use Prim.Native.Nat.{ℕ, ◌≤◌}
use native.Mathlib.Omega.{arith}
use lib.Dec.{ltb, eqb}
use borrow.Author.Tests.{ltb-false, le-ltb, not-false}
use Rattle.rules.specs.Limits.{both, event_time_max}
use Rattle.rules.specs.Refusals.{pick, first_hit, outside_limits, too_early, not_there, id_taken, is_closing, floor_above_cap, below_floor}
use Rattle.rules.specs.Refusals.{above_cap, unchanged, second_event, not_at_slot, no_lanes, too_soon, doors_unchanged, is_steady}
use Rattle.rules.proofs.Tests.{both_l, fails}
use Rattle.rules.proofs.Refusals.{hits_of, numbered, distinct, is_listed, cleared, first_hit_lem}
use Rattle.story.specs.declared.Film.{Film}
use Rattle.story.specs.declared.Title.{Title}
use Rattle.story.specs.declared.State.{State}
use Rattle.story.specs.declared.Act.{Act}
use Rattle.story.specs.declared.Act.TheVariants.{Opens, Changes, Closes, Doors}
use Rattle.story.specs.Orders.{Tests, open_order, change_order, close_order, doors_order}
use Rattle.story.specs.Kept.{closing_mode, title_at, is_there}
use Rattle.story.specs.Story.{order_of, act_limits}
use Rattle.story.specs.Calls.{event_ok, tests_in, call_answer}
use Rattle.verdicts.proofs.Event.{in_parts, event_title}
use Rattle.outlook.proofs.Skipped.{still_inside, there_before}
use Rattle.outlook.proofs.Freed.{there_open}
use Rattle.outlook.proofs.Rooms.{open_there}

-- ---- over any tests

open_done : (t : Tests) → t.outside ≡ false → t.early ≡ false → t.there ≡ false → t.crossed ≡ false → t.below ≡ false →
    t.above ≡ false → t.full ≡ false → first_hit (open_order t) ≡ 0
unfolding first_hit
open_done t a b c d e f g = rw (a, b, c, d, e, f, g) refl

change_left : (t : Tests) → t.outside ≡ false → t.early ≡ false → t.there ≡ true → t.closing ≡ false → t.steady ≡ false →
    t.below ≡ false → t.above ≡ false → t.same ≡ false → t.second ≡ false → t.soon ≡ false → t.off ≡ false →
    (first_hit (change_order t) ≡ 0) ⊎ (first_hit (change_order t) ≡ no_lanes)
unfolding first_hit
change_left t a b c d e f g h i j k = rw (a, b, c, d, e, f, g, h, i, j, k) (go t.full)
  where
    go : (x : Bool) → (pick x no_lanes 0 ≡ 0) ⊎ (pick x no_lanes 0 ≡ no_lanes)
    go true = inr refl
    go false = inl refl

close_left : (t : Tests) → t.outside ≡ false → t.early ≡ false → t.there ≡ true → t.closing ≡ false → t.second ≡ false →
    t.off ≡ false → first_hit (close_order t) ≡ 0
unfolding first_hit
close_left t a b c d e f = rw (a, b, c, d, e, f) refl

doors_left : (t : Tests) → t.outside ≡ false → t.early ≡ false → t.there ≡ true → t.closing ≡ false → t.steady ≡ false →
    t.same_doors ≡ false → t.second ≡ false → t.off ≡ false → first_hit (doors_order t) ≡ 0
unfolding first_hit
doors_left t a b c d e f g h = rw (a, b, c, d, e, f, g, h) refl

-- ---- from a time on

module _ (s : State) (i τ υ : ℕ) (le : τ ≤ υ) (clock : υ ≤ event_time_max) where
  fits : (a : Act) → not (act_limits a (event_ok s i τ)) ≡ false → both (event_ok s i τ) (act_limits a true) ≡ true
  fits a inside = sym (in_parts a (event_ok s i τ)) ∙ not-false (act_limits a (event_ok s i τ)) inside

  later_inside : (a : Act) → not (act_limits a (event_ok s i τ)) ≡ false → not (act_limits a (event_ok s i υ)) ≡ false
  later_inside a inside = still_inside s i υ τ clock a (fits a inside)

  later_late : ltb τ s.last ≡ false → ltb υ s.last ≡ false
  later_late late = let l : s.last ≤ τ = ltb-false τ s.last late in le-ltb υ s.last (omega arith)

  -- an open title stays so
  later_there : (a : Act) → not (act_limits a (event_ok s i τ)) ≡ false → not (is_there (title_at s i) τ) ≡ false →
      eqb (title_at s i).mode closing_mode ≡ false → is_there (title_at s i) υ ≡ true
  later_there a inside there other =
      let t : Title = title_at s i in
      let ok = event_title s i τ (both_l (event_ok s i τ) (act_limits a true) (fits a inside)) in
      there_open t υ (open_there t τ ok (not-false (is_there t τ) there) other)

  -- behind an 8, at an allowed time
  pub eight_left : (a : Act) → call_answer s i τ a ≡ not_at_slot → hits_of second_event (order_of a (tests_in s i υ a)) ≡ false →
      hits_of too_soon (order_of a (tests_in s i υ a)) ≡ false → hits_of not_at_slot (order_of a (tests_in s i υ a)) ≡ false →
      (call_answer s i υ a ≡ 0) ⊎ (call_answer s i υ a ≡ no_lanes)
  unfolding call_answer hits_of numbered distinct is_listed
  eight_left (Opens f k) is second soon off =
      absurd (false≢true (first_hit_lem (open_order (tests_in s i τ (Opens f k))) refl not_at_slot (omega arith) is).0)
  eight_left (Changes k) is second soon off =
      let t : Tests = tests_in s i τ (Changes k) in
      let clear = cleared _ refl (first_hit_lem (change_order t) refl not_at_slot (omega arith) is).1 in
      change_left (tests_in s i υ (Changes k)) (later_inside (Changes k) (clear outside_limits)) (later_late (clear too_early))
      (later_there (Changes k) (clear outside_limits) (clear not_there) (clear is_closing)) (clear is_closing) (clear is_steady) (clear below_floor)
      (clear above_cap) (clear unchanged) second soon off
  eight_left Closes is second soon off =
      let t : Tests = tests_in s i τ Closes in
      let clear = cleared _ refl (first_hit_lem (close_order t) refl not_at_slot (omega arith) is).1 in
      inl
      (close_left (tests_in s i υ Closes) (later_inside Closes (clear outside_limits)) (later_late (clear too_early))
      (later_there Closes (clear outside_limits) (clear not_there) (clear is_closing)) (clear is_closing) second off)
  eight_left (Doors b) is second soon off =
      let t : Tests = tests_in s i τ (Doors b) in
      let clear = cleared _ refl (first_hit_lem (doors_order t) refl not_at_slot (omega arith) is).1 in
      inl
      (doors_left (tests_in s i υ (Doors b)) (later_inside (Doors b) (clear outside_limits)) (later_late (clear too_early))
      (later_there (Doors b) (clear outside_limits) (clear not_there) (clear is_closing)) (clear is_closing) (clear is_steady) (clear doors_unchanged)
      second off)

  -- behind a 9, of an opening that has room
  pub nine_left : (f : Film) (k : ℕ) → call_answer s i τ (Opens f k) ≡ no_lanes →
      hits_of no_lanes (order_of (Opens f k) (tests_in s i υ (Opens f k))) ≡ false → call_answer s i υ (Opens f k) ≡ 0
  unfolding call_answer hits_of numbered distinct is_listed
  nine_left f k is full =
      let t : Tests = tests_in s i τ (Opens f k) in
      let clear = cleared _ refl (first_hit_lem (open_order t) refl no_lanes (omega arith) is).1 in
      let away : is_there (title_at s i) υ ≡ false =
      fails (is_there (title_at s i) υ)
      (λ there. false≢true (sym (clear id_taken) ∙ there_before (title_at s i) τ υ le there)) in
      open_done (tests_in s i υ (Opens f k)) (later_inside (Opens f k) (clear outside_limits)) (later_late (clear too_early)) away
      (clear floor_above_cap) (clear below_floor) (clear above_cap) full
