-- What an event that is accepted at a time clears then, and so at which times before it could not have been: what stands in its way at a
-- time is its time alone, or no later time accepts it. Rests on the laws of the refusals' order and of falling lanes.
use mathlib.Core.Path.{◌≡◌, refl, sym, ◌∙◌}
use mathlib.Core.Bool.{Bool, true, false, not}
use mathlib.Core.Logic.{⊎_elim}
use Prim.Native.Nat.{ℕ, ◌≤◌, ◌<◌}
use native.Mathlib.Omega.{arith}
use lib.Dec.{ltb, eqb}
use borrow.Author.Tests.{ltb-true, ltb-false, lt-ltb, le-leb, leb-true, not-false}
use Rattle.rules.specs.Limits.{both, either, id_max, event_time_max}
use Rattle.rules.specs.Refusals.{pick, first_hit, outside_limits, too_early, not_there, id_taken, is_closing, floor_above_cap, below_floor, above_cap}
use Rattle.rules.specs.Refusals.{unchanged, second_event, not_at_slot, no_lanes, too_soon, doors_unchanged, is_steady}
use Rattle.rules.proofs.Tests.{both_l, both_r, either_l, either_r, either_out}
use Rattle.rules.proofs.Refusals.{hits_of, numbered, cleared}
use Rattle.story.specs.declared.Title.{Title}
use Rattle.story.specs.declared.State.{State}
use Rattle.story.specs.declared.Event.{Event}
use Rattle.story.specs.declared.Act.{Act}
use Rattle.story.specs.declared.Act.TheVariants.{Opens, Changes, Closes, Doors}
use Rattle.story.specs.Orders.{Tests, open_order, change_order, close_order, doors_order}
use Rattle.story.specs.Kept.{open_mode, title_at, title_held, is_there}
use Rattle.story.specs.Story.{act_limits, order_of, takes_lanes}
use Rattle.story.specs.Calls.{event_ok, tests_in, call_answer}
use Rattle.story.specs.Runs.{answered}
use Rattle.moments.proofs.Falling.{title_falls}
use Rattle.verdicts.proofs.Event.{in_parts, event_state, event_id}
use Rattle.outlook.specs.Outlook.{asked_at, is_hit_by, is_allowed, finds_room, is_mended}

-- ---- what an accepted event clears

numbered_order : (a : Act) (t : Tests) → numbered (order_of a t) ≡ true
unfolding numbered
numbered_order (Opens f k) t = refl
numbered_order (Changes k) t = refl
numbered_order Closes t = refl
numbered_order (Doors b) t = refl

outside_rule : (a : Act) (t : Tests) → hits_of outside_limits (order_of a t) ≡ t.outside
unfolding hits_of
outside_rule (Opens f k) t = refl
outside_rule (Changes k) t = refl
outside_rule Closes t = refl
outside_rule (Doors b) t = refl

early_rule : (a : Act) (t : Tests) → hits_of too_early (order_of a t) ≡ t.early
unfolding hits_of
early_rule (Opens f k) t = refl
early_rule (Changes k) t = refl
early_rule Closes t = refl
early_rule (Doors b) t = refl

module _ (s : State) (e : Event) (υ : ℕ) (ok : answered s (asked_at e υ) ≡ 0) where
  -- every refusal,
  pub clears : (n : ℕ) → is_hit_by n s e υ ≡ false
  unfolding call_answer
  clears n =
      let t : Tests = tests_in s e.title υ e.act in
      cleared (order_of e.act t) (numbered_order e.act t) ok n

  -- so it is allowed then,
  pub clears_start : is_allowed s e υ ≡ true
  unfolding is_allowed
  clears_start = rw (clears second_event, clears too_soon, clears not_at_slot) refl

  -- has room,
  pub clears_room : finds_room s e υ ≡ true
  unfolding finds_room
  clears_room = either_r (not (takes_lanes e.act (title_at s e.title).count)) (not (is_hit_by no_lanes s e υ)) (rw (clears no_lanes) refl)

  -- comes no earlier than the last event,
  pub clears_last : s.last ≤ υ
  clears_last = ltb-false υ s.last (sym (early_rule e.act (tests_in s e.title υ e.act)) ∙ clears too_early)

  -- and has its numbers within their limits
  pub clears_limits : both (event_ok s e.title υ) (act_limits e.act true) ≡ true
  clears_limits =
      let t : Tests = tests_in s e.title υ e.act in
      let inside = not-false (act_limits e.act (event_ok s e.title υ)) (sym (outside_rule e.act t) ∙ clears outside_limits) in
      sym (in_parts e.act (event_ok s e.title υ)) ∙ inside

  pub clears_event : event_ok s e.title υ ≡ true
  clears_event = both_l (event_ok s e.title υ) (act_limits e.act true) clears_limits

  pub clears_clock : υ ≤ event_time_max
  clears_clock = let ok = clears_event in search (both_l, both_r, leb-true) depth 6

-- ---- a title that is there was there before

pub there_before : (t : Title) (τ υ : ℕ) → τ ≤ υ → is_there t υ ≡ true → is_there t τ ≡ true
unfolding is_there
there_before t τ υ le there =
    ⊎_elim (λ o. either_l (eqb t.mode open_mode) (ltb 0 (title_held t τ)) o)
    (λ h.
    let some : 0 < title_held t υ = ltb-true 0 (title_held t υ) h in
    either_r (eqb t.mode open_mode) (ltb 0 (title_held t τ)) (lt-ltb 0 (title_held t τ) (omega (arith, title_falls t τ υ le))))
    (either_out (eqb t.mode open_mode) (ltb 0 (title_held t υ)) there)

-- ---- what is answered before a time at which an event is accepted

-- its time is what stands in its way: one that a later time mends, before the last event, or with the id still in use
abbrev pub is_timely : ℕ → Bool
is_timely n = either (is_mended n) (either (eqb n too_early) (eqb n id_taken))

-- over any tests: where nothing else hits
open_timely : (t : Tests) → t.outside ≡ false → t.crossed ≡ false → t.below ≡ false → t.above ≡ false →
    is_timely (first_hit (open_order t)) ≡ true
unfolding first_hit
open_timely t a b c d = rw (a, b, c, d) (go t.early t.there t.full)
  where
    go : (x y z : Bool) → is_timely (pick x too_early (pick y id_taken (pick z no_lanes 0))) ≡ true
    go true y z = refl
    go false true z = refl
    go false false true = refl
    go false false false = refl

change_timely : (t : Tests) → t.outside ≡ false → t.there ≡ true → t.closing ≡ false → t.steady ≡ false → t.below ≡ false →
    t.above ≡ false → t.same ≡ false → is_timely (first_hit (change_order t)) ≡ true
unfolding first_hit
change_timely t a b c d e f g = rw (a, b, c, d, e, f, g) (go t.early t.second t.soon t.off t.full)
  where
    go : (v w x y z : Bool) →
        is_timely (pick v too_early (pick w second_event (pick x too_soon (pick y not_at_slot (pick z no_lanes 0))))) ≡ true
    go true w x y z = refl
    go false true x y z = refl
    go false false true y z = refl
    go false false false true z = refl
    go false false false false true = refl
    go false false false false false = refl

close_timely : (t : Tests) → t.outside ≡ false → t.there ≡ true → t.closing ≡ false → is_timely (first_hit (close_order t)) ≡ true
unfolding first_hit
close_timely t a b c = rw (a, b, c) (go t.early t.second t.off)
  where
    go : (x y z : Bool) → is_timely (pick x too_early (pick y second_event (pick z not_at_slot 0))) ≡ true
    go true y z = refl
    go false true z = refl
    go false false true = refl
    go false false false = refl

doors_timely : (t : Tests) → t.outside ≡ false → t.there ≡ true → t.closing ≡ false → t.steady ≡ false → t.same_doors ≡ false →
    is_timely (first_hit (doors_order t)) ≡ true
unfolding first_hit
doors_timely t a b c d e = rw (a, b, c, d, e) (go t.early t.second t.off)
  where
    go : (x y z : Bool) → is_timely (pick x too_early (pick y second_event (pick z not_at_slot 0))) ≡ true
    go true y z = refl
    go false true z = refl
    go false false true = refl
    go false false false = refl

-- numbers within their limits at a time are so at any other of the clock
pub still_inside : (s : State) (i τ υ : ℕ) → τ ≤ event_time_max → (a : Act) → both (event_ok s i υ) (act_limits a true) ≡ true →
    not (act_limits a (event_ok s i τ)) ≡ false
still_inside s i τ υ clock a all =
    let then : event_ok s i υ ≡ true = both_l (event_ok s i υ) (act_limits a true) all in
    let own : act_limits a true ≡ true = both_r (event_ok s i υ) (act_limits a true) all in
    rw (in_parts a (event_ok s i τ), event_state s i υ then, le-leb i id_max (event_id s i υ then), le-leb τ event_time_max clock, own) refl

module _ (s : State) (i τ υ : ℕ) (le : τ ≤ υ) (clock : τ ≤ event_time_max) where
  still_there : not (is_there (title_at s i) υ) ≡ false → is_there (title_at s i) τ ≡ true
  still_there there = there_before (title_at s i) τ υ le (not-false (is_there (title_at s i) υ) there)

  timely_by : (a : Act) → ((n : ℕ) → hits_of n (order_of a (tests_in s i υ a)) ≡ false) →
      both (event_ok s i υ) (act_limits a true) ≡ true → is_timely (call_answer s i τ a) ≡ true
  unfolding call_answer hits_of
  timely_by (Opens f k) clear all =
      open_timely (tests_in s i τ (Opens f k)) (still_inside s i τ υ clock (Opens f k) all) (clear floor_above_cap) (clear below_floor) (clear above_cap)
  timely_by (Changes k) clear all =
      change_timely (tests_in s i τ (Changes k)) (still_inside s i τ υ clock (Changes k) all) (still_there (clear not_there)) (clear is_closing)
      (clear is_steady) (clear below_floor) (clear above_cap) (clear unchanged)
  timely_by Closes clear all =
      close_timely (tests_in s i τ Closes) (still_inside s i τ υ clock Closes all) (still_there (clear not_there)) (clear is_closing)
  timely_by (Doors b) clear all =
      doors_timely (tests_in s i τ (Doors b)) (still_inside s i τ υ clock (Doors b) all) (still_there (clear not_there)) (clear is_closing)
      (clear is_steady) (clear doors_unchanged)

-- an event that is accepted at a time is stopped before it, on the clock, by its time alone
pub timely : (s : State) (e : Event) (τ υ : ℕ) → τ ≤ υ → τ ≤ event_time_max → answered s (asked_at e υ) ≡ 0 →
    is_timely (answered s (asked_at e τ)) ≡ true
timely s e τ υ le clock ok =
    timely_by s e.title τ υ le clock e.act (clears s e υ ok) (clears_limits s e υ ok)
