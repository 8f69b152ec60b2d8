-- A change that is due is accepted, and one that is accepted is due: what the scheduler's refusals ask of a change from a
-- title's count to another between floor and cap. Rests on the order of a change's refusals.
use mathlib.Core.Path.{◌≡◌, refl, sym, ◌∙◌}
use mathlib.Core.Bool.{Bool, true, false, not}
use Prim.Native.Nat.{ℕ, ◌≤◌}
use native.Mathlib.Omega.{arith}
use lib.Dec.{leb}
use borrow.Author.Tests.{leb-true, le-leb, le-ltb, ne_eqb, not-true}
use Rattle.rules.specs.Limits.{both, within, id_max, event_time_max, floor_min, count_min, count_max}
use Rattle.rules.specs.Refusals.{pick, first_hit, second_event, too_soon, not_at_slot, no_lanes}
use Rattle.rules.proofs.Tests.{both_l, both_r, both_in, either_r, pick_false}
use Rattle.rules.proofs.Refusals.{hits_of, numbered, cleared}
use Rattle.measures.proofs.Within.{title_ok_lem, readable, order}
use Rattle.story.specs.declared.Title.{Title}
use Rattle.story.specs.declared.State.{State}
use Rattle.story.specs.Orders.{Tests, change_order}
use Rattle.story.specs.Kept.{absent_mode, open_mode, title_at, order_ok, is_there}
use Rattle.story.specs.declared.Act.TheVariants.{Changes}
use Rattle.story.specs.Story.{event}
use Rattle.story.specs.Calls.{tests_in, call_answer}
use Rattle.story.specs.Runs.{answered}
use Rattle.moments.specs.Moments.{is_permitted_by, is_permitted, has_lanes, is_due}
use Rattle.planner.specs.Carried.{Ready}

-- over any tests: where no other hits the lanes decide,
lanes_decide : (t : Tests) → t.outside ≡ false → t.early ≡ false → t.there ≡ true → t.closing ≡ false → t.steady ≡ false →
    t.below ≡ false → t.above ≡ false → t.same ≡ false → is_permitted_by t ≡ true → first_hit (change_order t) ≡ pick t.full no_lanes 0
unfolding first_hit
lanes_decide t a b c d n e f g p =
    let second = not-true t.second (both_l (not t.second) (both (not t.soon) (not t.off)) p) in
    let rest = both_r (not t.second) (both (not t.soon) (not t.off)) p in
    let soon = not-true t.soon (both_l (not t.soon) (not t.off) rest) in
    let off = not-true t.off (both_r (not t.soon) (not t.off) rest) in
    rw (a, b, c, d, n, e, f, g, second, soon, off) refl

-- and what it says of the time and of the lanes
not_in : (b : Bool) → b ≡ false → not b ≡ true
not_in b e = rw e refl

clear_time : (t : Tests) → first_hit (change_order t) ≡ 0 → is_permitted_by t ≡ true
unfolding hits_of numbered
clear_time t h =
    both_in (not t.second) (both (not t.soon) (not t.off)) (not_in t.second (cleared (change_order t) refl h second_event))
    (both_in (not t.soon) (not t.off) (not_in t.soon (cleared (change_order t) refl h too_soon)) (not_in t.off (cleared (change_order t) refl h not_at_slot)))

clear_lanes : (t : Tests) → first_hit (change_order t) ≡ 0 → t.full ≡ false
unfolding hits_of numbered
clear_lanes t h = cleared (change_order t) refl h no_lanes

-- an open title is there
there_open : (t : Title) (τ : ℕ) → t.mode ≡ open_mode → is_there t τ ≡ true
unfolding is_there
there_open t τ e = rw e refl

module _ (s : State) (i k : ℕ) (r : Ready s i k) where
  present : (title_at s i).mode ≡ absent_mode → ⊥
  present e = let z : open_mode ≡ absent_mode = sym r.is_open ∙ e in omega arith

  counted : within count_min count_max k ≡ true
  unfolding order_ok
  counted =
      let t = title_ok_lem s r.ok i r.an_id in
      let o = order (title_at s i) t present in
      let floored : floor_min ≤ (title_at s i).film.floor = search (both_l, both_r, leb-true) depth 12 in
      let capped = (readable (title_at s i) t present).cut.high in
      both_in (leb count_min k) (leb k count_max) (le-leb count_min k (omega (arith, r.low))) (le-leb k count_max (omega (arith, r.high)))

  -- at a permitted time in the clock it is accepted, or gets 9 where lanes are short,
  pub by_lanes : (τ : ℕ) → s.last ≤ τ → τ ≤ event_time_max → is_permitted s i k τ ≡ true →
      answered s (event i τ (Changes k)) ≡ pick (tests_in s i τ (Changes k)).full no_lanes 0
  unfolding call_answer is_permitted
  by_lanes τ late clock p =
      lanes_decide (tests_in s i τ (Changes k))
      (rw (r.ok, le-leb i id_max (omega (arith, r.an_id)), le-leb τ event_time_max clock, counted) refl)
      (le-ltb τ s.last late)
      (there_open (title_at s i) τ r.is_open)
      (rw r.is_open refl)
      r.padded
      (le-ltb k (title_at s i).film.floor r.low)
      (le-ltb (title_at s i).film.cap k r.high)
      (ne_eqb k (title_at s i).count r.other)
      p

  -- so with the lanes there it is accepted
  pub accepted_when : (τ : ℕ) → s.last ≤ τ → τ ≤ event_time_max → is_permitted s i k τ ≡ true →
      (tests_in s i τ (Changes k)).full ≡ false → answered s (event i τ (Changes k)) ≡ 0
  accepted_when τ late clock p f = by_lanes τ late clock p ∙ pick_false (tests_in s i τ (Changes k)).full no_lanes 0 f

-- a change that is accepted is due then
pub due_when : (s : State) (i k τ : ℕ) → answered s (event i τ (Changes k)) ≡ 0 → is_due s i k τ ≡ true
unfolding call_answer is_permitted has_lanes is_due
due_when s i k τ h =
    both_in (is_permitted s i k τ) (has_lanes s i k τ) (clear_time (tests_in s i τ (Changes k)) h)
    (either_r (leb k (title_at s i).count) (not (tests_in s i τ (Changes k)).full)
    (not_in (tests_in s i τ (Changes k)).full (clear_lanes (tests_in s i τ (Changes k)) h)))
