-- The refusals that a title alone decides, and the parts of them that are answered one by one (01, "Numbers that calls give back"): they
-- stand behind those of the numbers and of the clock, and before the want of lanes.
use Rattle.std.specs.Prelude.{ℕ, min, Bool, false, not, List, ltb, eqb}
use Rattle.rules.specs.Refusals.{Rule, before, behind, too_early, is_closing, unchanged, second_event, no_lanes}
use Rattle.story.specs.declared.Title.{Title}
use Rattle.story.specs.declared.Act.{Act}
use Rattle.story.specs.declared.Act.TheVariants.{Changes, Closes, Doors}
use Rattle.story.specs.Orders.{Tests}
use Rattle.story.specs.Story.{order_of, permitted, is_crossed, is_below, is_above, is_same, is_same_doors}
use Rattle.story.specs.Kept.{closing_mode, is_shut, is_steady_title, settled_at, is_there}
use Rattle.story.specs.Calls.{at_slot_start}

-- what the title decides of an event, at slot starts of count k
abbrev pub title_tests : Title → ℕ → Act → ℕ → Tests
title_tests t τ a k =
    record {
      outside = false;
      early = false;
      there = is_there t τ;
      closing = eqb t.mode closing_mode;
      steady = is_steady_title t;
      crossed = is_crossed a;
      below = is_below a t.film.floor;
      above = is_above a t.film.cap;
      same = is_same a t.count;
      same_doors = is_same_doors a (is_shut t);
      second = eqb τ t.last;
      soon = ltb τ (settled_at t);
      off = not (at_slot_start t k τ);
      full = false;
    }

-- the order of an event from behind the clock up to the want of lanes, at slot starts of count k,
abbrev pub title_order : Title → ℕ → Act → ℕ → List Rule
title_order t τ a k = behind too_early (before no_lanes (order_of a (title_tests t τ a k)))

-- and of the count at whose slot starts the event is permitted
abbrev pub title_rules : Title → ℕ → Act → List Rule
title_rules t τ a = title_order t τ a (permitted a t.film.floor t.count)

-- whether a title can have an event other than an opening at a time at all
abbrev pub standing_rules : Title → ℕ → List Rule
standing_rules t τ = before second_event (title_order t τ Closes 0)

-- whether an open title has a turn at a time, a slot start of count k
abbrev pub turn_rules : Title → ℕ → ℕ → List Rule
turn_rules t k τ = behind is_closing (title_order t τ Closes k)

-- whether it can change to count k at a time
abbrev pub count_rules : Title → ℕ → ℕ → List Rule
count_rules t k τ = behind is_closing (title_order t τ (Changes k) (min t.count k))

-- whether it can retune at a time, a slot start of count n
abbrev pub retune_rules : Title → ℕ → ℕ → List Rule
retune_rules t n τ = behind unchanged (title_order t τ (Changes n) n)

-- whether its doors can be held at a time, or lifted
abbrev pub doors_rules : Title → Bool → ℕ → List Rule
doors_rules t b τ = behind is_closing (title_order t τ (Doors b) t.count)
