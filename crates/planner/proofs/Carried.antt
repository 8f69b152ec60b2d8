-- How a list of wishes fares from a reached state on, nobody else acting: either every event comes, none earlier than it
-- could, and each title has what it is to have; or one of them falls past the clock. By induction over the wishes that are
-- left. Rests on WishesLeft (the next event) and DueChanges (that it is due at some time).
use mathlib.Core.Path.{◌≡◌, refl, sym, subst, ◌∙◌}
use mathlib.Core.Bool.{true, false, false≢true}
use mathlib.Core.Logic.{◌⊎◌, inl, inr, ⊎_elim}
use mathlib.Core.List.{List, [], ◌∷◌}
use Prim.Native.Nat.{ℕ, ◌≤◌, ◌<◌}
use native.Mathlib.Omega.{arith}
use lib.Dec.{leb, ltb, eqb}
use borrow.Author.Tests.{leb-true, leb-false, lt-ltb, le-ltb, eq-eqb}
use Rattle.rules.specs.Limits.{event_time_max, titles_max}
use Rattle.rules.specs.Search.{total}
use Rattle.rules.proofs.Tests.{decide, either_l, either_r, either_false, pick_true}
use Rattle.story.specs.declared.State.{State}
use Rattle.story.specs.Kept.{title_at, ruling}
use Rattle.story.specs.declared.Event.{Event}
use Rattle.story.specs.Runs.{answered, called, lanes_of, Reached}
use Rattle.wishes.specs.Wishes.{Wish}
use Rattle.wishes.proofs.Wished.{Each, each_none, each_more, Raises, DropsFirst, raises_only, drop_next}
use Rattle.moments.specs.Moments.{is_due, FirstDue}
use Rattle.moments.proofs.Earliest.{Hits, earliest_hits}
use Rattle.planner.specs.Moves.{as_event, moment_for, move_at, moved_at, listed, all_moved, falls_past}
use Rattle.planner.specs.Carried.{Comes, Carried, all_came, next_comes, Falls, Past, this_falls, later_falls}
use Rattle.planner.proofs.Accepted.{due_when}
use Rattle.planner.proofs.DueChanges.{enough, due_sometime}
use Rattle.planner.proofs.WishesLeft.{Left, Underway, without_or, pool_is, due_accepted, wish_event, onward}

-- the first time from τ on at which a wish may come true, over all times, where the clock has none
falls : (s : State) (τ : ℕ) (w : Wish) (υ : ℕ) → FirstDue s w.title w.count τ υ →
    ((ω : ℕ) → τ ≤ ω → ω ≤ event_time_max → is_due s w.title w.count ω ≡ false) → Falls s τ w
falls s τ w υ f none =
    record {
      time = υ;
      past = ⊎_elim (λ x. absurd (false≢true (sym (none υ f.after (leb-true υ event_time_max x)) ∙ f.due)))
          (λ x. leb-false υ event_time_max x)
          (decide (leb υ event_time_max));
      due = f.due;
      no_earlier = f.no_earlier;
    }

module _ (pool : ℕ) (goal : ℕ → ℕ) (fits : total goal titles_max ≤ lanes_of pool) where
  -- what has come of a list and what is left of it is settled by how its wishes fare
  pub record Fared (s : State) (τ : ℕ) (ws : List Wish) : Type 0 where
    pub events : List Event
    pub run : Reached pool events (all_moved s τ ws)
    pub carried : Carried s τ (listed s τ ws) (all_moved s τ ws)
    pub in_clock : falls_past (listed s τ ws) ≡ false
    pub brought : (i : ℕ) → i < titles_max → ruling (title_at (all_moved s τ ws) i) ≡ goal i

  pub record Fails (s : State) (τ : ℕ) (ws : List Wish) : Type 0 where
    pub falls_past_holds : falls_past (listed s τ ws) ≡ true
    pub past : Past s τ ws

  -- while only raises are left no title has more than it is to have
  at_most : (s : State) (ws : List Wish) → Each (Left goal s) ws → Each (Raises (λ i. (title_at s i).count)) ws →
      Each (λ w. ruling (title_at s w.title) ≤ goal w.title) ws
  unfolding ruling
  at_most s [] each_none each_none = each_none
  at_most s (w ∷ ws) (each_more l ls) (each_more up ups) =
      each_more {w = w} (rw l.ready.is_open (omega (arith, l.meant))) (at_most s ws ls ups)

  module _ (es : List Event) (s : State) (w : Wish) (ws : List Wish) (u : Underway pool goal es s (w ∷ ws)) where
    first_left : Left goal s w
    first_left = go u.left
      where
        go : Each (Left goal s) (w ∷ ws) → Left goal s w
        go (each_more l ls) = l

    -- the first wish that is left comes true at some time
    someday : (τ : ℕ) → (υ : ℕ) × FirstDue s w.title w.count τ υ
    someday τ = go u.in_order
      where
        go : DropsFirst (λ i. (title_at s i).count) (w ∷ ws) → (υ : ℕ) × FirstDue s w.title w.count τ υ
        go (drop_next down rest) = due_sometime s w.title w.count first_left.ready τ (inl (omega arith))
        go (raises_only ups) =
            due_sometime s w.title w.count first_left.ready τ
            (inr
            (enough s w.title w.count first_left.ready goal
            (λ j b.
            ⊎_elim (λ away. omega (arith, u.brought j b away)) (λ le. le)
            (without_or (λ i. ruling (title_at s i) ≤ goal i) (w ∷ ws) (at_most s (w ∷ ws) u.left ups) j))
            (omega (arith, first_left.meant))
            (omega (arith, pool_is pool es s u.run))
            (upward ups)))
          where
            upward : Each (Raises (λ i. (title_at s i).count)) (w ∷ ws) → (title_at s w.title).count ≤ w.count
            upward (each_more up rest) = omega arith

    module _ (τ : ℕ) (late : s.last ≤ τ) (clock : τ ≤ event_time_max) where
      hits : Hits (is_due s w.title w.count) τ (moment_for s τ w)
      hits = earliest_hits (is_due s w.title w.count) τ (omega arith)

      -- its moment in the clock: it is accepted then and not before
      taken : moment_for s τ w ≤ event_time_max → answered s (wish_event w (moment_for s τ w)) ≡ 0
      taken early =
          due_accepted pool es s u.run w.title w.count (moment_for s τ w) first_left.ready
          (omega (arith, hits.after)) early (hits.hit early)

      it_comes : moment_for s τ w ≤ event_time_max → Comes s τ (move_at s τ w)
      it_comes early =
          record {
            after = hits.after;
            in_clock = early;
            accepted = taken early;
            no_earlier = λ υ from before ok.
                false≢true (sym (hits.none υ from before (omega arith)) ∙ due_when s w.title w.count υ ok);
          }

      moved : moment_for s τ w ≤ event_time_max → called s (as_event (move_at s τ w)) ≡ moved_at s τ w
      moved early =
          pick_true (eqb (answered s (as_event (move_at s τ w))) 0) (moved_at s τ w) s
          (eq-eqb (answered s (as_event (move_at s τ w))) 0 (taken early))

      -- its moment past the clock
      it_falls : event_time_max < moment_for s τ w → Fails s τ (w ∷ ws)
      unfolding listed falls_past
      it_falls far =
          let day = someday τ in
          record {
            falls_past_holds = either_l (ltb event_time_max (moment_for s τ w)) (falls_past (listed (moved_at s τ w) (moment_for s τ w) ws))
                (lt-ltb event_time_max (moment_for s τ w) far);
            past = this_falls
                (falls s τ w day.0 day.1 (λ ω from early. hits.none ω from (omega arith) early));
          }

      -- then the rest of the list fares
      fare_on : moment_for s τ w ≤ event_time_max →
          Fared (moved_at s τ w) (moment_for s τ w) ws ⊎ Fails (moved_at s τ w) (moment_for s τ w) ws →
          Fared s τ (w ∷ ws) ⊎ Fails s τ (w ∷ ws)
      unfolding listed all_moved falls_past
      fare_on early (inl f) =
          inl
          (record {
            events = f.events;
            run = f.run;
            carried = next_comes (it_comes early)
                (subst (λ z. Carried z (moment_for s τ w) (listed (moved_at s τ w) (moment_for s τ w) ws) (all_moved (moved_at s τ w) (moment_for s τ w) ws)) (sym (moved early)) f.carried);
            in_clock = either_false (ltb event_time_max (moment_for s τ w)) (falls_past (listed (moved_at s τ w) (moment_for s τ w) ws))
                (le-ltb event_time_max (moment_for s τ w) early) f.in_clock;
            brought = f.brought;
          })
      fare_on early (inr f) =
          inr
          (record {
            falls_past_holds = either_r (ltb event_time_max (moment_for s τ w)) (falls_past (listed (moved_at s τ w) (moment_for s τ w) ws)) f.falls_past_holds;
            past = later_falls (it_comes early) (subst (λ z. Past z (moment_for s τ w) ws) (sym (moved early)) f.past);
          })

  -- every list of wishes under way fares one way or the other
  pub fares : (ws : List Wish) (es : List Event) (s : State) (τ : ℕ) → Underway pool goal es s ws → s.last ≤ τ →
      τ ≤ event_time_max → Fared s τ ws ⊎ Fails s τ ws
  unfolding listed all_moved falls_past
  fares [] es s τ u late clock =
      inl
      (record {
        events = es;
        run = u.run;
        carried = all_came;
        in_clock = refl;
        brought = λ i b. u.brought i b each_none;
      })
  fares (w ∷ ws) es s τ u late clock =
      let m : ℕ = moment_for s τ w in
      ⊎_elim
      (λ x.
      let early : m ≤ event_time_max = leb-true m event_time_max x in
      fare_on es s w ws u τ late clock early
      (fares ws (wish_event w m ∷ es) (moved_at s τ w) m
      (onward pool goal es s w ws m (taken es s w ws u τ late clock early) u) (omega arith) early))
      (λ x. inr (it_falls es s w ws u τ late clock (leb-false m event_time_max x)))
      (decide (leb m event_time_max))
