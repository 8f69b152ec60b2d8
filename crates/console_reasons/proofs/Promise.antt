-- What is promised of the words behind a refusal (specs/Promise), of every state: `event_promise` of an event that can be spelt, `lane_promise`
-- of a lane question. Rests on proofs/Naming and Spelling for 1, and on what the outlook foresees for 4, 8 and 9 (`outlook` proofs/Foreseen).
use Prim.Native.Nat.{ℕ, ◌<◌}
use mathlib.Core.Path.{◌≡◌, refl, sym, ◌∙◌}
use mathlib.Core.Bool.{Bool, true, false, not, false≢true}
use native.Mathlib.Omega.{arith}
use borrow.Author.Tests.{ltb-true, not-true, eqb-true}
use lib.Dec.{leb, ltb, eqb}
use Rattle.rules.specs.Limits.{both, id_max, lane_max, asked_max}
use Rattle.rules.specs.Refusals.{pick, before, outside_limits, too_early, not_there}
use Rattle.rules.proofs.Tests.{both_l, both_r, fails}
use Rattle.rules.proofs.Refusals.{first_hit_lem, cleared, hits_of, distinct, is_listed, numbered}
use Rattle.story.specs.declared.State.{State}
use Rattle.story.specs.declared.Title.{Title}
use Rattle.story.specs.declared.Act.{Act}
use Rattle.story.specs.declared.Act.TheVariants.{Opens, Changes, Closes, Doors}
use Rattle.story.specs.declared.Event.{Event}
use Rattle.story.specs.Kept.{state_ok, absent_mode, title_at, title_held, is_there}
use Rattle.story.specs.Orders.{open_order, change_order, close_order, doors_order}
use Rattle.story.specs.Calls.{tests_in, call_answer, lane_held, lane_rules, lane_answer}
use Rattle.outlook.specs.Outlook.{is_present, is_gone, never_opened, presence_of}
use Rattle.outlook.proofs.Foreseen.{foreseen}
use Rattle.console_reasons.specs.Lanes.{last_in}
use Rattle.console_reasons.specs.Events.{is_spelt}
use Rattle.console_reasons.specs.Promise.{EventReasons, LaneReasons}
use Rattle.console_limits.proofs.Naming.{not_out}
use Rattle.console_reasons.proofs.Naming.{lane_out}
use Rattle.console_reasons.proofs.Spelling.{event_out_lem}

-- ---- what a presence says

present_only : (b m c : Bool) → pick b (pick m never_opened (pick c is_present is_gone)) never_opened ≡ is_present → c ≡ true
present_only true true c h = absurd (omega arith)
present_only true false true h = refl
present_only true false false h = absurd (omega arith)
present_only false m c h = absurd (omega arith)

module _ (s : State) (i τ : ℕ) where
  -- who is present is there
  present_there : presence_of s i τ ≡ is_present → is_there (title_at s i) τ ≡ true
  unfolding presence_of
  present_there h =
      present_only (both (state_ok s) (leb i id_max)) (eqb (title_at s i).mode absent_mode) (is_there (title_at s i) τ) h

  -- and who is there is present, in a state and of an id within their limits
  there_present : state_ok s ≡ true → leb i id_max ≡ true → eqb (title_at s i).mode absent_mode ≡ false
      → is_there (title_at s i) τ ≡ true → presence_of s i τ ≡ is_present
  unfolding presence_of
  there_present ok id some there = rw (ok, id, some, there) refl

-- ---- events

module _ (s : State) (i τ : ℕ) where
  early_hit : (a : Act) → call_answer s i τ a ≡ too_early → ltb τ s.last ≡ true
  unfolding call_answer hits_of distinct is_listed
  early_hit (Opens f k) h = (first_hit_lem (open_order (tests_in s i τ (Opens f k))) refl too_early (omega arith) h).0
  early_hit (Changes k) h = (first_hit_lem (change_order (tests_in s i τ (Changes k))) refl too_early (omega arith) h).0
  early_hit Closes h = (first_hit_lem (close_order (tests_in s i τ Closes)) refl too_early (omega arith) h).0
  early_hit (Doors b) h = (first_hit_lem (doors_order (tests_in s i τ (Doors b))) refl too_early (omega arith) h).0

  -- an opening is never answered 3
  away_hit : (a : Act) → call_answer s i τ a ≡ not_there → not (is_there (title_at s i) τ) ≡ true
  unfolding call_answer hits_of distinct is_listed
  away_hit (Opens f k) h = absurd (false≢true (first_hit_lem (open_order (tests_in s i τ (Opens f k))) refl not_there (omega arith) h).0)
  away_hit (Changes k) h = (first_hit_lem (change_order (tests_in s i τ (Changes k))) refl not_there (omega arith) h).0
  away_hit Closes h = (first_hit_lem (close_order (tests_in s i τ Closes)) refl not_there (omega arith) h).0
  away_hit (Doors b) h = (first_hit_lem (doors_order (tests_in s i τ (Doors b))) refl not_there (omega arith) h).0

pub event_promise : (s : State) (e : Event) → is_spelt e.act ≡ true → EventReasons s e
event_promise s e spelt =
    let seen = foreseen s e in
    record {
      one = event_out_lem s e spelt;
      two = λ h. ltb-true e.time s.last (early_hit s e.title e.time e.act h);
      three = away;
      three_title = λ h p. false≢true (sym (away h) ∙ present_there s e.title e.time p);
      four = seen.behind_four;
      eight = seen.behind_eight;
      nine = seen.behind_nine;
      nine_accepted = seen.accepted_when;
    }
  where
    away : call_answer s e.title e.time e.act ≡ not_there → is_there (title_at s e.title) e.time ≡ false
    away h = not-true _ (away_hit s e.title e.time e.act h)

-- ---- lane questions

-- a title that is there was opened
there_some : (t : Title) (τ : ℕ) → is_there t τ ≡ true → eqb t.mode absent_mode ≡ false
unfolding is_there title_held
there_some t τ h =
    fails (eqb t.mode absent_mode)
    (λ a. let none : t.mode ≡ absent_mode = eqb-true t.mode absent_mode a in false≢true (rw none at h))

module _ (s : State) (i l τ : ℕ) where
  abbrev asked : Bool
  asked = both (state_ok s) (both (leb i id_max) (both (leb l lane_max) (leb τ asked_max)))

  -- a question that is answered 2 or 3 has all its numbers within their limits
  early_asked : lane_answer s i l τ ≡ too_early → asked ≡ true
  unfolding lane_answer hits_of distinct is_listed numbered
  early_asked h =
      not_out asked
      (cleared (before too_early (lane_rules s i l τ)) refl (first_hit_lem (lane_rules s i l τ) refl too_early (omega arith) h).1 outside_limits)

  away_asked : lane_answer s i l τ ≡ not_there → asked ≡ true
  unfolding lane_answer hits_of distinct is_listed numbered
  away_asked h =
      not_out asked
      (cleared (before not_there (lane_rules s i l τ)) refl (first_hit_lem (lane_rules s i l τ) refl not_there (omega arith) h).1 outside_limits)

  id_asked : asked ≡ true → leb i id_max ≡ true
  id_asked h = both_l (leb i id_max) _ (both_r (state_ok s) _ h)

  lane_early : lane_answer s i l τ ≡ too_early → τ < last_in s i
  unfolding lane_answer hits_of distinct is_listed last_in
  lane_early h =
      rw (id_asked (early_asked h))
      (ltb-true τ (title_at s i).last (first_hit_lem (lane_rules s i l τ) refl too_early (omega arith) h).0)

  lane_away : lane_answer s i l τ ≡ not_there → lane_held (title_at s i) l τ ≡ false
  unfolding lane_answer hits_of distinct is_listed
  lane_away h = not-true _ (first_hit_lem (lane_rules s i l τ) refl not_there (omega arith) h).0

  title_away : lane_answer s i l τ ≡ not_there → (presence_of s i τ ≡ is_present → ⊥) → is_there (title_at s i) τ ≡ false
  title_away h gone =
      fails (is_there (title_at s i) τ)
      (λ there.
      gone
      (there_present s i τ (both_l (state_ok s) _ (away_asked h)) (id_asked (away_asked h)) (there_some (title_at s i) τ there) there))

  pub lane_promise : LaneReasons s i l τ
  lane_promise = record { one = lane_out s i l τ; two = lane_early; three = lane_away; three_title = title_away }
