-- The outlook of a reached state, told by the events that reach it: statement 5 of specs/Foreseen. Rests on what the state tells of the
-- story, and on the pool that is never exceeded.
use mathlib.Core.Path.{◌≡◌, refl, sym, ap, ◌∙◌}
use mathlib.Core.Bool.{Bool, true, false, false≢true}
use mathlib.Core.Logic.{⊎_elim}
use mathlib.Core.List.{List}
use Prim.Native.Nat.{ℕ, ◌+◌, ◌≤◌, ◌<◌}
use native.Mathlib.Omega.{arith}
use lib.Dec.{eqb}
use borrow.Author.Tests.{ltb-false, le-leb, ne_eqb, eqb-true, not-false}
use Rattle.rules.specs.Limits.{titles_max, id_max}
use Rattle.rules.specs.Refusals.{pick, hits_of, too_early, not_there, is_closing, no_lanes}
use Rattle.rules.proofs.Tests.{decide, fails}
use Rattle.rules.proofs.Refusals.{distinct, is_listed, first_hit_lem}
use Rattle.story.specs.declared.Title.{Title}
use Rattle.story.specs.declared.State.{State}
use Rattle.story.specs.declared.Event.{Event}
use Rattle.story.specs.declared.Act.{Act}
use Rattle.story.specs.declared.Act.TheVariants.{Opens, Changes, Closes, Doors}
use Rattle.story.specs.Life.{Life}
use Rattle.story.specs.Kept.{absent_mode, title_at, state_ok, is_there}
use Rattle.story.specs.Story.{event, order_of, takes_lanes, life_of, latest_of, last_time, held_over, count_in, is_there_in, unopened}
use Rattle.story.specs.Calls.{tests_in, call_answer}
use Rattle.story.specs.Runs.{lanes_of, Reached}
use Rattle.story.proofs.Tells.{TellsTitle, absent, present, Tells, there_told, count_told}
use Rattle.story.proofs.Turn.{open_ruling}
use Rattle.story.proofs.Runs.{lanes_limit}
use Rattle.story.proofs.Pool.{takes_none, up_to_all_lem, never_exceeded}
use Rattle.story.proofs.Reached.{run_accepted, run_told}
use Rattle.story.proofs.Demands.{tells_the_story, nine_is_exact}
use Rattle.title_verdicts.proofs.Stands.{in_slot}
use Rattle.verdicts.specs.Before.{first_answer}
use Rattle.verdicts.proofs.Event.{cleared_all, taken_event, event_id, event_title}
use Rattle.outlook.specs.Outlook.{free_lanes, is_present, is_gone, never_opened, presence_of}
use Rattle.outlook.specs.Foreseen.{ForeseenReached}
use Rattle.outlook.proofs.Rooms.{open_there}

-- ---- presence, of a title told by the story

-- a slot without a title tells of an id that was never opened
never_told : (L : Life) (m : ℕ) (t : Title) → TellsTitle L m t → t.mode ≡ absent_mode → L ≡ unopened
never_told L m t (absent e f g) none = e
never_told L m t (present r e f p) none = absurd (⊎_elim (λ x. omega (arith, x, none)) (λ x. omega (arith, x, none)) p.mode)

-- which of the three it is
picked_present : (a b : Bool) → pick a never_opened (pick b is_present is_gone) ≡ is_present → b ≡ true
picked_present true b h = absurd (omega arith)
picked_present false true h = refl
picked_present false false h = absurd (omega arith)

picked_never : (a b : Bool) → pick a never_opened (pick b is_present is_gone) ≡ never_opened → a ≡ true
picked_never true b h = refl
picked_never false true h = absurd (omega arith)
picked_never false false h = absurd (omega arith)

there_slot : (t : Title) (τ : ℕ) → is_there t τ ≡ true → eqb t.mode absent_mode ≡ false
there_slot t τ there = ne_eqb t.mode absent_mode (in_slot t τ there)

module _ (pool : ℕ) (es : List Event) (s : State) (run : Reached pool es s) where
  tells : Tells (lanes_of pool) es s
  tells = (run_told pool es s run).tells

  sound : state_ok s ≡ true
  sound = (tells_the_story pool es s run).sound

  fits_now : (τ : ℕ) → last_time es ≤ τ → held_over es τ ≤ lanes_of pool
  fits_now τ late = rw (up_to_all_lem τ es late) at (never_exceeded (lanes_of pool) es (lanes_limit pool) (run_accepted pool es s run) τ)

  free_now : (τ : ℕ) → last_time es ≤ τ → free_lanes s τ + held_over es τ ≡ lanes_of pool
  unfolding free_lanes
  free_now τ late = rw sound (omega (arith, tells.pool, (tells_the_story pool es s run).all_held τ late, fits_now τ late))

  module _ (i τ : ℕ) (b : i < titles_max) where
    presence_is : presence_of s i τ
        ≡ pick (eqb (title_at s i).mode absent_mode) never_opened (pick (is_there (title_at s i) τ) is_present is_gone)
    unfolding presence_of
    presence_is = rw (sound, le-leb i id_max (omega arith)) refl

    there_is : last_time es ≤ τ → is_there_in (life_of es i) τ ≡ is_there (title_at s i) τ
    there_is late = there_told (life_of es i) (latest_of es i) (title_at s i) τ (tells.title i b) (omega (arith, tells.newest i))

    is_present_lem : last_time es ≤ τ → presence_of s i τ ≡ is_present → is_there_in (life_of es i) τ ≡ true
    is_present_lem late h =
        there_is late
        ∙ picked_present (eqb (title_at s i).mode absent_mode) (is_there (title_at s i) τ) (sym presence_is ∙ h)

    not_present : last_time es ≤ τ → (presence_of s i τ ≡ is_present → ⊥) → is_there_in (life_of es i) τ ≡ false
    not_present late h =
        there_is late
        ∙ fails (is_there (title_at s i) τ) (λ there. h (presence_is ∙ rw (there_slot (title_at s i) τ there, there) refl))

    never_opened_holds : presence_of s i τ ≡ never_opened → life_of es i ≡ unopened
    never_opened_holds h =
        never_told (life_of es i) (latest_of es i) (title_at s i) (tells.title i b)
        (eqb-true (title_at s i).mode absent_mode
        (picked_never (eqb (title_at s i).mode absent_mode) (is_there (title_at s i) τ) (sym presence_is ∙ h)))

  -- ---- a 9

  -- the count of a change that only lanes refuse
  counted : (i τ k : ℕ) → first_answer s (event i τ (Changes k)) ≡ 0 → (last_time es ≤ τ) × (count_in (life_of es i) τ ≡ (title_at s i).count)
  unfolding hits_of
  counted i τ k none =
      let t = title_at s i in
      let clear = cleared_all s i τ (Changes k) none in
      let fits = taken_event s i τ (Changes k) none in
      let late : s.last ≤ τ = ltb-false τ s.last (clear too_early) in
      let id = event_id s i τ fits in
      let is_open = open_there t τ (event_title s i τ fits) (not-false (is_there t τ) (clear not_there)) (clear is_closing) in (
        omega (arith, tells.last),
        count_told (life_of es i) (latest_of es i) t τ (tells.title i (omega arith)) (omega (arith, tells.newest i, tells.last))
            ∙ open_ruling t is_open,
      )

  nine_act : (i τ : ℕ) (a : Act) → call_answer s i τ a ≡ no_lanes → takes_lanes a (title_at s i).count ≡ true
  unfolding call_answer first_answer hits_of distinct is_listed
  nine_act i τ (Opens f k) nine = refl
  nine_act i τ (Changes k) nine =
      let e : Event = event i τ (Changes k) in
      let c = counted i τ k (first_hit_lem (order_of (Changes k) (tests_in s i τ (Changes k))) refl no_lanes (omega arith) nine).1 in
      let over = (nine_is_exact pool es s run).nine e (sym ((tells_the_story pool es s run).every_answer e) ∙ nine) in
      ⊎_elim (λ x. x)
      (λ x.
      let fewer = takes_none es i τ (Changes k) (ap (takes_lanes (Changes k)) c.1 ∙ x) in
      absurd (omega (arith, fewer, over, fits_now τ c.0)))
      (decide (takes_lanes (Changes k) (title_at s i).count))
  nine_act i τ Closes nine =
      absurd (false≢true (first_hit_lem (order_of Closes (tests_in s i τ Closes)) refl no_lanes (omega arith) nine).0)
  nine_act i τ (Doors b) nine =
      absurd (false≢true (first_hit_lem (order_of (Doors b) (tests_in s i τ (Doors b))) refl no_lanes (omega arith) nine).0)

  -- 5.
  pub foreseen_reached : ForeseenReached pool es s
  foreseen_reached =
      record {
        free = free_now;
        present = is_present_lem;
        not_present = not_present;
        never_opened_holds = never_opened_holds;
        nine_takes = λ e nine. nine_act e.title e.time e.act nine;
      }
