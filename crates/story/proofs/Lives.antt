-- What every accepted sequence keeps true of a life, in the sequence's own terms. The stored state serves as the witness:
-- it tells the sequence, and what it keeps of a title are facts about the title's rule.
use mathlib.Core.Path.{◌≡◌, refl, sym, ◌∙◌}
use mathlib.Core.Logic.{◌⊎◌, inl, inr, ⊎_elim}
use mathlib.Core.List.{List}
use Prim.Native.Nat.{ℕ, ◌≤◌, ◌<◌}
use native.Mathlib.Omega.{arith}
use Rattle.rules.specs.Limits.{pool_max, titles_max, count_max}
use Rattle.scheme.specs.Scheme.{scheme_of}
use Rattle.scheme.proofs.Padded.{nothing_lawful}
use Rattle.story.specs.declared.Title.{Title}
use Rattle.story.specs.declared.State.{State}
use Rattle.story.specs.Ruled.{Ruled}
use Rattle.story.specs.Kept.{title_at, tick_at}
use Rattle.story.specs.Calls.{empty_pool}
use Rattle.story.specs.Next.{call_next}
use Rattle.story.specs.Life.{Life, Course}
use Rattle.story.specs.declared.Event.{Event}
use Rattle.story.specs.Story.{unopened, tick_length, tick_in, life_of, latest_of, last_time, Accepted, none}
use Rattle.story.specs.Story.{more}
use Rattle.story.proofs.Stored.{life_in}
use Rattle.story.proofs.Kept.{Present, tick_some}
use Rattle.story.proofs.Tells.{TellsTitle, absent, present}
use Rattle.story.proofs.Runs.{Told, told_more, fresh_tells}

-- a life whose latest event was at m: its rule keeps to floor and cap and is steady from then on
pub record Lively (L : Life) (m : ℕ) : Type 0 where
  pub ruled : Ruled L
  pub floor_some : 0 < L.film.floor
  pub cap_high : L.film.cap ≤ count_max
  pub tick_some : 0 < tick_length L
  pub since : L.opened ≤ m
  pub steady : (u v : ℕ) → tick_in L m ≤ u → tick_in L m ≤ v → L.rule u ≡ L.rule v

stored : (t : Title) (r : Course) → Present t r → Lively (life_in t r) t.last
unfolding tick_in tick_at
stored t r p =
    record {
      ruled = p.ruled;
      floor_some = omega (arith, p.sized.floor_low);
      cap_high = p.sized.cap_high;
      tick_some = tick_some t r p;
      since = p.since;
      steady = λ u v lu lv. p.steady u lu ∙ sym (p.steady v lv);
    }

pub lively_told : (L : Life) (m : ℕ) (t : Title) → TellsTitle L m t → (L ≡ unopened) ⊎ Lively L m
lively_told L m t (absent e f g) = inl e
lively_told L m t (present r e f p) = inr (rw (e, f) (stored t r p))

-- an accepted sequence is told by some state
pub witness : (lanes : ℕ) (es : List Event) → lanes ≤ pool_max → Accepted lanes es → (s : State) × Told lanes es s
witness lanes es high none = (empty_pool lanes, record { tells = fresh_tells lanes; funded = inr refl })
witness lanes es high (more {e = e} {es = es'} acc h) =
    let w = witness lanes es' high acc in
    (call_next w.0 e.title e.time e.act, told_more lanes high es' w.0 w.1 e h)

pub lively : (lanes : ℕ) (es : List Event) → lanes ≤ pool_max → Accepted lanes es → (i : ℕ) → i < titles_max →
    (life_of es i ≡ unopened) ⊎ Lively (life_of es i) (latest_of es i)
lively lanes es high acc i id =
    let w = witness lanes es high acc in
    lively_told (life_of es i) (latest_of es i) (title_at w.0 i) (w.1.tells.title i id)

-- no event of a title is later than the last of all
pub newest : (lanes : ℕ) (es : List Event) → lanes ≤ pool_max → Accepted lanes es → (i : ℕ) → latest_of es i ≤ last_time es
newest lanes es high acc i = let w = witness lanes es high acc in w.1.tells.newest i

-- so every life is ruled, one that was never opened too
unopened_ruled : Ruled unopened
unfolding scheme_of
unopened_ruled =
    record {
      laws = nothing_lawful (tick_length unopened);
      flat = λ e. absurd (omega arith);
      low = λ t p. absurd (omega arith);
      high = λ t. omega arith;
    }

pub ruled_life : (lanes : ℕ) (es : List Event) → lanes ≤ pool_max → Accepted lanes es → (i : ℕ) → i < titles_max → Ruled (life_of es i)
ruled_life lanes es high acc i id = ⊎_elim (λ e. rw e unopened_ruled) (λ w. w.ruled) (lively lanes es high acc i id)
