-- The steps by which an event's first accepted time is found.
use Rattle.std.specs.Prelude.{ℕ, suc, ◌≤◌, ◌<◌, min, ◌≡◌, Bool, true, false}
use Rattle.rules.specs.Limits.{event_time_max}
use Rattle.story.specs.declared.Title.{Title}
use Rattle.story.specs.declared.State.{State}
use Rattle.story.specs.declared.Event.{Event}
use Rattle.story.specs.declared.Act.{Act}
use Rattle.story.specs.declared.Act.TheVariants.{Opens, Changes, Closes, Doors}
use Rattle.moments.specs.Searched.{turns, permits}
use Rattle.outlook.specs.Outlook.{is_accepted_at}

-- the rules of a title permit an event at a time: what 7, 16 and 8 ask of it
unfoldable pub allows : Title → Act → ℕ → Bool
allows t (Opens f k) υ = true
allows t (Changes k) υ = permits t (min t.count k) υ
allows t Closes υ = turns t t.film.floor υ
allows t (Doors b) υ = turns t t.count υ

-- from τ on an event is refused at every time before r
pub record Skips (s : State) (e : Event) (τ r : ℕ) : Type 0 where
  pub high : r ≤ suc event_time_max
  pub refused : (υ : ℕ) → τ ≤ υ → υ < r → is_accepted_at s e υ ≡ false
