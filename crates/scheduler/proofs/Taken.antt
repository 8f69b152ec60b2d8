-- An event that only lanes may refuse: its title can be turned, and what it leaves can be read. Rests on what such an event has passed.
use mathlib.Core.Path.{◌≡◌, subst}
use Prim.Native.Nat.{ℕ}
use native.Mathlib.Omega.{arith}
use borrow.Author.Tests.{ltb-false}
use Rattle.rules.specs.Refusals.{hits_of, not_there, floor_above_cap}
use Rattle.story.specs.declared.Film.{Film}
use Rattle.story.specs.declared.State.{State}
use Rattle.story.specs.declared.Act.{Act}
use Rattle.story.specs.declared.Act.TheVariants.{Opens, Changes, Closes, Doors}
use Rattle.story.specs.Kept.{title_at}
use Rattle.story.specs.Next.{next_title}
use Rattle.story.specs.Story.{event}
use Rattle.story.proofs.Passed.{offered}
use Rattle.measures.specs.Readable.{Filmed}
use Rattle.owed.specs.Owing.{Turnable}
use Rattle.owed.proofs.Fixed.{next_filmed}
use Rattle.verdicts.specs.Before.{first_answer}
use Rattle.verdicts.proofs.Event.{cleared_all, taken_limits, taken_changeable}

-- its title can be turned,
pub taken_turnable : (s : State) (i τ : ℕ) (a : Act) → first_answer s (event i τ a) ≡ 0 → Turnable (title_at s i) a
unfolding hits_of
taken_turnable s i τ (Opens f k) none = tt
taken_turnable s i τ (Changes k) none = taken_changeable s i τ (Changes k) none (cleared_all s i τ (Changes k) none not_there)
taken_turnable s i τ Closes none = taken_changeable s i τ Closes none (cleared_all s i τ Closes none not_there)
taken_turnable s i τ (Doors b) none = taken_changeable s i τ (Doors b) none (cleared_all s i τ (Doors b) none not_there)

opened_filmed : (s : State) (i τ : ℕ) (f : Film) (k : ℕ) → first_answer s (event i τ (Opens f k)) ≡ 0 → Filmed f
unfolding hits_of
opened_filmed s i τ f k none =
    let o = offered f k (taken_limits s i τ (Opens f k) none) in
    let fit = ltb-false f.cap f.floor (cleared_all s i τ (Opens f k) none floor_above_cap) in
    record {
      sized = record { low = o.length_low; high = o.length_high };
      cut = record { low = omega (arith, o.floor_low); fit = fit; high = o.cap_high };
      flat = o.flat;
    }

-- and it leaves a film within its limits
pub taken_filmed : (s : State) (i τ : ℕ) (a : Act) → first_answer s (event i τ a) ≡ 0 → Filmed (next_title (title_at s i) τ a).film
taken_filmed s i τ a none = next_filmed (title_at s i) τ a (taken_turnable s i τ a none) own
  where
    own : (f : Film) (k : ℕ) → a ≡ Opens f k → Filmed f
    own f k e = opened_filmed s i τ f k (subst (λ x. first_answer s (event i τ x) ≡ 0) e none)
