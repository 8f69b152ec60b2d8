-- Before the first event of the list: in a reached state with the four refusals passed, the wishes are under way, what all titles are
-- to have fits the pool, and so the list is carried out or falls past the clock. Rests on Carried, and on the wishes' laws.
use mathlib.Core.Path.{◌≡◌, refl, sym, ◌∙◌}
use mathlib.Core.Bool.{true, false≢true}
use mathlib.Core.Logic.{◌⊎◌, ⊎_elim}
use mathlib.Core.List.{List, [], ◌∷◌}
use Prim.Native.Nat.{ℕ, ◌≤◌, ◌<◌}
use native.Mathlib.Omega.{arith}
use Rattle.rules.specs.Limits.{titles_max}
use Rattle.rules.specs.Refusals.{done, past_clock}
use Rattle.rules.specs.Search.{total}
use Rattle.rules.proofs.Tests.{decide}
use Rattle.story.specs.declared.State.{State}
use Rattle.story.specs.declared.Event.{Event}
use Rattle.story.specs.Kept.{title_at, ruling}
use Rattle.story.specs.Runs.{lanes_of, Reached}
use Rattle.story.proofs.Demands.{tells_the_story}
use Rattle.sharers.specs.Sharers.{takes_part}
use Rattle.wishes.specs.Wishes.{Wish, share_of, wishes}
use Rattle.wishes.proofs.Wished.{Each, each_none, each_more, Without, Wished, all_wished, apart, drops_first, at_share, shares_fit}
use Rattle.planner.specs.Outcome.{planner_answer, Standing}
use Rattle.planner.specs.Carried.{Past, goal_of}
use Rattle.planner.proofs.Passed.{standing_done, standing_past, in_clock, past_clock_lem}
use Rattle.planner.proofs.WishesLeft.{Left, Underway, pool_is, held_fits}
use Rattle.planner.proofs.Goals.{goal_share, part_rules, goals_fit}
use Rattle.planner.proofs.Carried.{Fared, Fails, fares}

module _ (pool : ℕ) (es : List Event) (s : State) (run : Reached pool es s) (rates : List ℕ) where
  wish_left : (w : Wish) → Wished s rates w → Left (goal_of s rates) s w
  wish_left w h =
      record {
        ready = record {
          ok = (tells_the_story pool es s run).sound;
          an_id = h.an_id;
          is_open = h.is_open;
          padded = h.padded;
          low = h.low;
          high = h.high;
          other = h.other;
        };
        meant = h.is_share ∙ sym (goal_share s rates w.title h.is_open h.padded);
      }

  all_left : (ws : List Wish) → Each (Wished s rates) ws → Each (Left (goal_of s rates) s) ws
  all_left [] each_none = each_none
  all_left (w ∷ ws) (each_more h hs) = each_more (wish_left w h) (all_left ws hs)

  at_goal : (ws : List Wish) →
      ((i : ℕ) → i < titles_max → takes_part s i ≡ true → Without i ws → (title_at s i).count ≡ share_of s rates i) →
      (i : ℕ) → i < titles_max → Without i ws → ruling (title_at s i) ≡ goal_of s rates i
  at_goal ws share i b away =
      ⊎_elim (λ x. rw x (part_rules s i x ∙ share i b x away)) (λ x. rw x refl) (decide (takes_part s i))

  -- with the four refusals passed, the wishes are under way and fare
  module _ (τ room : ℕ) (st : Standing s τ rates room) where
    started : Underway pool (goal_of s rates) es s (wishes s rates)
    started =
        record {
          run = run;
          left = all_left (wishes s rates) (all_wished s rates st.ok (st.sixteen, (st.rated, st.floors)));
          apart = apart s rates st.ok (st.sixteen, (st.rated, st.floors));
          in_order = drops_first s rates st.ok (st.sixteen, (st.rated, st.floors));
          brought = at_goal (wishes s rates) (at_share s rates st.ok (st.sixteen, (st.rated, st.floors)));
        }

    pub fit : total (goal_of s rates) titles_max ≤ lanes_of pool
    fit =
        let shares = shares_fit s rates st.ok (st.sixteen, (st.rated, st.floors)) in
        let held = held_fits pool es s run s.last (omega arith) in
        omega (arith, pool_is pool es s run, goals_fit s rates st.ok s.last held shares)

    fared : Fared pool (goal_of s rates) fit s τ (wishes s rates) ⊎ Fails pool (goal_of s rates) fit s τ (wishes s rates)
    fared = fares pool (goal_of s rates) fit (wishes s rates) es s τ started st.late st.clock

  -- where 0 is answered no event falls past the clock, so the list is carried out
  pub carried_out : (τ room : ℕ) (h : planner_answer s τ rates room ≡ done) →
      Fared pool (goal_of s rates) (fit τ room (standing_done s τ rates room h)) s τ (wishes s rates)
  carried_out τ room h =
      ⊎_elim (λ f. f)
      (λ f. absurd (false≢true (sym (in_clock s τ rates room h) ∙ f.falls_past_holds)))
      (fared τ room (standing_done s τ rates room h))

  -- where 18 is answered, one does
  pub falls_out : (τ room : ℕ) → planner_answer s τ rates room ≡ past_clock → Past s τ (wishes s rates)
  falls_out τ room h =
      ⊎_elim (λ f. absurd (false≢true (sym f.in_clock ∙ past_clock_lem s τ rates room h)))
      (λ f. f.past)
      (fared τ room (standing_past s τ rates room h))
