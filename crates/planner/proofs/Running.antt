-- What holds while the wishes of a list come true one by one: the state and the moment reached, within their limits, and each
-- title still what a wish of it needs. Rests on the laws of one wish more, and on what a change keeps.
use mathlib.Core.Path.{◌≡◌, refl, sym, ap, ◌∙◌}
use mathlib.Core.Bool.{true}
use mathlib.Core.List.{List, [], ◌∷◌, ◌++◌, map, map-append}
use Prim.Native.Nat.{ℕ, suc, ◌≤◌, ◌<◌}
use native.Mathlib.Omega.{arith}
use lib.ListN.{length, set}
use Rattle.rules.specs.Limits.{event_time_max}
use Rattle.story.specs.declared.State.{State}
use Rattle.story.specs.Kept.{title_at, state_ok}
use Rattle.story.specs.Next.{change_next}
use Rattle.measures.proofs.Within.{title_ok_lem}
use Rattle.measures.specs.Readable.{Changeable}
use Rattle.measures.proofs.Within.{changeable}
use Rattle.wishes.specs.Wishes.{Wish}
use Rattle.planner.specs.Moves.{moment_for, move_at, listed, all_moved}
use Rattle.planner.specs.inner.Steps.{WishFits, last_moment, first_of}
use Rattle.planner.proofs.Kept.{Frame, Framed, next_ok, next_framed}
use Rattle.planner.proofs.Steps.{listed_more, moved_more, last_more, first_write}

-- from s and τ on, some wishes have come true: the state q and the moment l are reached
pub record Running (s : State) (τ : ℕ) (ws : List Wish) (q : State) (l : ℕ) : Type 0 where
  pub state : q ≡ all_moved s τ ws
  pub moment : l ≡ last_moment s τ ws
  pub ok : state_ok q ≡ true
  pub framed : Framed s q
  pub high : l ≤ suc event_time_max

pub running_none : (s : State) (τ : ℕ) → state_ok s ≡ true → τ ≤ event_time_max → Running s τ [] s τ
unfolding all_moved last_moment
running_none s τ ok l = record { state = refl; moment = refl; ok = ok; framed = λ i. refl; high = omega arith }

-- a wish that fits one state fits another with the same frames
pub still_fits : (s q : State) (w : Wish) → Framed s q → WishFits s w → WishFits q w
still_fits s q w same f =
    let e = same w.title in
    record {
      an_id = f.an_id;
      is_open = ap (λ (x : Frame). x.mode) e ∙ f.is_open;
      low = rw (ap (λ (x : Frame). x.film.floor) e) f.low;
      high = rw (ap (λ (x : Frame). x.film.cap) e) f.high;
    }

-- a title that a wish fits can change
pub fit_changeable : (q : State) (w : Wish) → state_ok q ≡ true → WishFits q w → Changeable (title_at q w.title)
fit_changeable q w ok f =
    changeable (title_at q w.title) (title_ok_lem q ok w.title (omega (arith, f.an_id))) (λ e. omega (arith, f.is_open))

-- one wish more, which comes true at m
module _ (s : State) (τ : ℕ) (ws : List Wish) (w : Wish) (q : State) (l m : ℕ) (r : Running s τ ws q l)
    (is : m ≡ moment_for q l w) where
  pub running_more : (z : State) → WishFits s w → m ≤ suc event_time_max → z ≡ change_next q w.title m w.count →
      Running s τ (ws ++ (w ∷ [])) z m
  running_more z fit high next =
      let f = still_fits s q w r.framed fit in
      record {
        state = rw (moved_more s τ ws w, ← r.state, ← r.moment)
            (next ∙ ap (λ (n : ℕ). change_next q w.title n w.count) is);
        moment = rw (last_more s τ ws w, ← r.state, ← r.moment) is;
        ok = rw next
            (next_ok q w.title m w.count r.ok f.an_id f.is_open f.low f.high (omega arith));
        framed = rw next (λ i. next_framed q w.title m w.count f.is_open i ∙ r.framed i);
        high = high;
      }

  -- and is kept in a row behind those before it
  pub row_more : (row : List ℕ) (j : ℕ) → j < length row → first_of row j ≡ map (λ x. x.time) (listed s τ ws) →
      first_of (set row j m) (suc j) ≡ map (λ x. x.time) (listed s τ (ws ++ (w ∷ [])))
  row_more row j below kept =
      rw (first_write row j m below, kept, listed_more s τ ws w, ← r.state, ← r.moment)
      (ap (λ (n : ℕ). map (λ x. x.time) (listed s τ ws) ++ (n ∷ [])) is
      ∙ sym (map-append (λ x. x.time) (listed s τ ws) (move_at q l w ∷ [])))
