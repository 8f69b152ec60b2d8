-- The tally of a log is the count of its events: after any notices told to a fresh agent it counts the arrivals that the title's
-- life lets in, told from the accepted events alone. Rests on `told_turns`, and on what follows a title's events (`told_kept`).
use mathlib.Core.List.{List, map}
use Prim.Native.Nat.{ℕ, ◌≤◌}
use lib.ListN.{get_or, length}
use Rattle.rules.specs.Limits.{id_max, asked_max}
use Rattle.notice.specs.declared.Notice.{Notice}
use Rattle.story.specs.Kept.{title_at}
use Rattle.story.specs.Life.{Life}
use Rattle.story.specs.declared.Event.{Event}
use Rattle.story.specs.Story.{unopened, life_of, latest_of, tick_in}
use Rattle.story.specs.Runs.{lanes_of}
use Rattle.agent.specs.Turns.{event_of, fresh_agent}
use Rattle.agent.specs.Played.{agent_told, heard_of, ReadAs}
use Rattle.logs.proofs.Lives.{FollowsLife, told_kept, told_title}
use Rattle.admissions.specs.declared.Tally.{Tally}
use Rattle.admissions.specs.Waits.{Tallied, row_max}
use Rattle.admissions.specs.Stretches.{fresh_tally, settled, all_settled}
use Rattle.admissions.proofs.Told.{Counted, opened_counted, told_playing, told_few, told_turns, told_stays}
use Rattle.waiting.specs.inner.Steps.{told_tally, ReadyToTally}

-- the tally follows a title's events
abbrev CountedIn : List ℕ → Life → ℕ → Tally → Type 0
CountedIn xs L n y = Counted L n xs y

follows : (xs : List ℕ) → FollowsLife (CountedIn xs) (λ t τ y. settled t τ xs y) (λ τ y. fresh_tally τ)
follows xs =
    record {
      at_opening = λ L y. opened_counted L xs;
      at_turn = λ L m t told y c. told_turns L m t told xs y c;
    }

module _ (pool i : ℕ) (id : i ≤ id_max) (xs : List ℕ) (bss : List (List ℕ)) (ns : List Notice) (r : ReadAs bss ns) where
  abbrev events : List Event
  events = map event_of (heard_of (lanes_of pool) ns)

  pub told_counted : Counted (life_of events i) (tick_in (life_of events i) (latest_of events i)) xs (told_tally pool i xs ns)
  told_counted =
      told_kept (CountedIn xs) (λ t τ y. settled t τ xs y) (λ τ y. fresh_tally τ) (follows xs) pool i id (fresh_tally 0) (opened_counted unopened xs) bss ns r

  -- what the code builds on, and what it comes to
  pub told_ready : length xs ≤ row_max → ReadyToTally (agent_told (fresh_agent pool) ns) i xs (told_tally pool i xs ns)
  told_ready short =
      let told = told_title pool i id bss ns r in
      record {
        id = id;
        playing = told_playing _ _ _ told;
        few = told_few _ _ _ told xs (told_tally pool i xs ns) told_counted short;
      }

  pub told_tallied : ((j : ℕ) → get_or xs j 0 ≤ asked_max)
      → Tallied (life_of events i) xs (length xs) (all_settled (title_at (agent_told (fresh_agent pool) ns).state i) xs (told_tally pool i xs ns))
  told_tallied low = told_stays _ _ _ (told_title pool i id bss ns r) xs (told_tally pool i xs ns) told_counted low
