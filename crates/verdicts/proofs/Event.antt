-- What an event's numbers and its standing give of the title: that it is there, within its limits.
-- Rests on the laws of tests, of the refusals' order and of states within their limits.
use mathlib.Core.Path.{◌≡◌, refl, sym, ap, ◌∙◌}
use mathlib.Core.Bool.{Bool, true, false, not}
use mathlib.Core.List.{◌∷◌}
use Prim.Native.Nat.{ℕ, ◌≤◌}
use native.Mathlib.Omega.{arith}
use borrow.Author.Tests.{leb-true, not-false}
use lib.Dec.{leb, ltb}
use Rattle.rules.specs.Limits.{both, id_max, event_time_max, asked_max}
use Rattle.rules.specs.Refusals.{first_hit, refuse, hits_of, numbered, outside_limits, too_early}
use Rattle.rules.proofs.Tests.{both_l, both_r, both_true}
use Rattle.rules.proofs.Refusals.{cleared}
use Rattle.story.specs.declared.State.{State}
use Rattle.story.specs.declared.Act.{Act}
use Rattle.story.specs.declared.Act.TheVariants.{Opens, Changes, Closes, Doors}
use Rattle.story.specs.Kept.{title_at, state_ok, title_ok, is_there}
use Rattle.story.specs.Story.{event, act_limits}
use Rattle.story.specs.Calls.{event_ok}
use Rattle.measures.proofs.Within.{title_ok_lem}
use Rattle.measures.specs.Readable.{Changeable}
use Rattle.title_verdicts.specs.Titled.{title_rules}
use Rattle.title_verdicts.proofs.Stands.{there_changeable}
use Rattle.verdicts.specs.Before.{event_rules, first_answer}

-- the order of an event: its numbers, the clock, and what its title decides
pub in_order : (s : State) (i τ : ℕ) (a : Act) →
    event_rules s (event i τ a)
    ≡ refuse outside_limits (not (act_limits a (event_ok s i τ))) ∷ refuse too_early (ltb τ s.last) ∷ title_rules (title_at s i) τ a
in_order s i τ (Opens f k) = refl
in_order s i τ (Changes k) = refl
in_order s i τ Closes = refl
in_order s i τ (Doors b) = refl

-- the numbers of an event are those that every event has, and those of what it does
pub in_parts : (a : Act) (b : Bool) → act_limits a b ≡ both b (act_limits a true)
in_parts (Opens f k) b = refl
in_parts (Changes k) b = refl
in_parts Closes b = sym (both_true b)
in_parts (Doors d) b = sym (both_true b)

-- the ways out of an event's verdict: its numbers, the clock, or what its title decides
module _ (s : State) (i τ : ℕ) (a : Act) where
  pub out_by_numbers : both (event_ok s i τ) (act_limits a true) ≡ false → 1 ≡ first_answer s (event i τ a)
  unfolding first_answer first_hit
  out_by_numbers out = rw (in_order s i τ a, in_parts a (event_ok s i τ), out) refl

  pub out_by_clock : both (event_ok s i τ) (act_limits a true) ≡ true → ltb τ s.last ≡ true → 2 ≡ first_answer s (event i τ a)
  unfolding first_answer first_hit
  out_by_clock fits early = rw (in_order s i τ a, in_parts a (event_ok s i τ), fits, early) refl

  pub out_by_title : both (event_ok s i τ) (act_limits a true) ≡ true → ltb τ s.last ≡ false →
      first_hit (title_rules (title_at s i) τ a) ≡ first_answer s (event i τ a)
  unfolding first_answer first_hit
  out_by_title fits late = rw (in_order s i τ a, in_parts a (event_ok s i τ), fits, late) refl

module _ (s : State) (i τ : ℕ) (ok : event_ok s i τ ≡ true) where
  pub event_state : state_ok s ≡ true
  event_state = both_l (state_ok s) (both (leb i id_max) (leb τ event_time_max)) ok

  pub event_id : i ≤ id_max
  event_id = search (both_l, both_r, leb-true)

  pub event_time : τ ≤ asked_max
  event_time = let e : τ ≤ event_time_max = search (both_l, both_r, leb-true) in omega arith

  pub event_title : title_ok (title_at s i) ≡ true
  event_title = let l = event_id in title_ok_lem s event_state i (omega arith)

-- an event that only lanes may refuse
module _ (s : State) (i τ : ℕ) (a : Act) (none : first_answer s (event i τ a) ≡ 0) where
  -- clears the rest of its order,
  pub cleared_all : (n : ℕ) →
      hits_of n (refuse outside_limits (not (act_limits a (event_ok s i τ))) ∷ refuse too_early (ltb τ s.last) ∷ title_rules (title_at s i) τ a)
      ≡ false
  unfolding first_answer numbered
  cleared_all n = cleared _ (numbered_order a) (sym (ap first_hit (in_order s i τ a)) ∙ none) n
    where
      numbered_order : (a : Act) →
          numbered (refuse outside_limits (not (act_limits a (event_ok s i τ))) ∷ refuse too_early (ltb τ s.last) ∷ title_rules (title_at s i) τ a)
          ≡ true
      numbered_order (Opens f k) = refl
      numbered_order (Changes k) = refl
      numbered_order Closes = refl
      numbered_order (Doors b) = refl

  -- so its numbers are within their limits,
  act_numbers : act_limits a (event_ok s i τ) ≡ true
  unfolding hits_of
  act_numbers = not-false (act_limits a (event_ok s i τ)) (cleared_all outside_limits)

  pub taken_limits : act_limits a true ≡ true
  taken_limits = both_r (event_ok s i τ) (act_limits a true) (sym (in_parts a (event_ok s i τ)) ∙ act_numbers)

  pub taken_event : event_ok s i τ ≡ true
  taken_event = both_l (event_ok s i τ) (act_limits a true) (sym (in_parts a (event_ok s i τ)) ∙ act_numbers)

  pub taken_changeable : not (is_there (title_at s i) τ) ≡ false → Changeable (title_at s i)
  taken_changeable away = there_changeable (title_at s i) τ (event_title s i τ taken_event) (not-false (is_there (title_at s i) τ) away)
