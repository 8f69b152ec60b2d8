-- The rule before 02's request 5, when a dropped lane owed padding too: what is held no longer than before is held against it.
use Rattle.std.specs.Prelude.{Bool, List, ◌∷◌, ℕ, ◌+◌, ◌-◌, ltb}
use Rattle.rules.specs.Limits.{either, titles_max}
use Rattle.rules.specs.Refusals.{first_hit}
use Rattle.rules.specs.Search.{how_many, total}
use Rattle.story.specs.Life.{Life, usual_cell, is_active, dropped_at, is_awaited, reach}
use Rattle.story.specs.Orders.{Tests}
use Rattle.story.specs.declared.Act.{Act}
use Rattle.story.specs.declared.Event.{Event}
use Rattle.story.specs.Story.{tick_in, life_of, count_in, tests_to, order_of}

-- the rule before: a tick was owed whether or not its cell holds film
unfoldable pub formerly_owed : Life → ℕ → ℕ → ℕ → Bool
formerly_owed L l T t = is_awaited L T (usual_cell L l t) t

unfoldable pub formerly_owes : Life → ℕ → ℕ → ℕ
formerly_owes L l T = how_many (λ o. formerly_owed L l T (T + o)) (reach L.film.cap)

-- a lane was held while it was active, and from its drop on for as many ticks as it owed cells
unfoldable pub formerly_held : Life → ℕ → ℕ → Bool
formerly_held L l t = either (is_active L l t) (ltb (t - dropped_at L l t) (formerly_owes L l (dropped_at L l t)))

-- the lanes of a title that were held at a moment, and those over all titles
unfoldable pub formerly_held_in : Life → ℕ → ℕ
formerly_held_in L τ = how_many (λ l. formerly_held L l (tick_in L τ)) L.film.cap

unfoldable pub formerly_held_over : List Event → ℕ → ℕ
formerly_held_over es τ = total (λ i. formerly_held_in (life_of es i) τ) titles_max

-- what an event was answered after the accepted events es: two of the tests asked for lanes held
abbrev pub formerly_tests : ℕ → List Event → Event → Life → Act → Tests
formerly_tests pool es e L a =
    let now : Tests = tests_to pool es e L a in
    record {
      outside = now.outside;
      early = now.early;
      there = either (ltb 0 (count_in L e.time)) (ltb 0 (formerly_held_in L e.time));
      closing = now.closing;
      steady = now.steady;
      crossed = now.crossed;
      below = now.below;
      above = now.above;
      same = now.same;
      same_doors = now.same_doors;
      second = now.second;
      soon = now.soon;
      off = now.off;
      full = ltb pool (formerly_held_over (e ∷ es) e.time);
    }

unfoldable pub formerly_answer_to : ℕ → List Event → Event → Life → Act → ℕ
formerly_answer_to pool es e L a = first_hit (order_of a (formerly_tests pool es e L a))

abbrev pub formerly_answer : ℕ → List Event → Event → ℕ
formerly_answer pool es e = formerly_answer_to pool es e (life_of es e.title) e.act
