-- A row of the right length that is sound is answered as its agent is, and left as its agent is left: by a notice and by an event.
-- Rests on `packed` and `unpacked` being each other's inverse.
use mathlib.Core.Path.{◌≡◌, refl, sym}
use mathlib.Core.Bool.{Bool, true, false}
use mathlib.Core.List.{List}
use Prim.Native.Nat.{ℕ}
use lib.Dec.{eqb}
use lib.ListN.{length}
use borrow.Author.Tests.{eq-eqb}
use Rattle.rules.specs.Refusals.{pick}
use Rattle.notice.specs.declared.Reading.{Reading}
use Rattle.notice.specs.declared.Reading.TheVariants as reading
use Rattle.story.specs.declared.Event.{Event}
use Rattle.story.specs.Next.{call_next}
use Rattle.story.specs.Runs.{answered, called}
use Rattle.agent.specs.declared.Agent.{Agent}
use Rattle.agent.specs.Turns.{notice_answer, notice_next, noticed}
use Rattle.agent_rows.specs.Layout.{row_length}
use Rattle.agent_rows.specs.Packed.{packed, unpacked, row_sound, with_state}
use Rattle.agent_rows.proofs.Inverse.{packed_unpacked}
use Rattle.row_calls.specs.Answers.{row_event, row_after_event, row_reading, row_notice, row_after_notice}

-- a row picked by a test is that of the agent picked by it, where the other is the row's own
picked_row : (b : Bool) (g h : Agent) (r : List ℕ) → packed h ≡ r → pick b (packed (pick b g h)) r ≡ packed (pick b g h)
picked_row true g h r own = refl
picked_row false g h r own = sym own

module _ (r : List ℕ) (long : length r ≡ row_length) (sound : row_sound r ≡ true) where
  own : packed (unpacked r) ≡ r
  own = packed_unpacked r long sound

  read_as_agent : (q : Reading) → row_reading r q ≡ notice_answer (unpacked r) q
  unfolding row_reading notice_answer
  read_as_agent (reading.Whole n) = rw sound refl
  read_as_agent reading.Malformed = refl

  pub noticed_as_agent : (q : Reading) → (row_notice r q ≡ notice_answer (unpacked r) q) × (row_after_notice r q ≡ packed (noticed (unpacked r) q))
  unfolding row_notice row_after_notice
  noticed_as_agent q =
      rw (eq-eqb (length r) row_length long, read_as_agent q)
      (refl, picked_row (eqb (notice_answer (unpacked r) q) 0) (notice_next (unpacked r) q) (unpacked r) r own)

  pub called_as_agent : (e : Event) →
      (row_event r e ≡ answered (unpacked r).state e) × (row_after_event r e ≡ packed (with_state (unpacked r) (called (unpacked r).state e)))
  unfolding row_event row_after_event
  called_as_agent e =
      let g : Agent = unpacked r in
      rw (eq-eqb (length r) row_length long, sound) (refl, go (eqb (answered g.state e) 0))
    where
      go : (b : Bool) →
          pick b (packed (with_state (unpacked r) (pick b (call_next (unpacked r).state e.title e.time e.act) (unpacked r).state))) r
          ≡ packed (with_state (unpacked r) (pick b (call_next (unpacked r).state e.title e.time e.act) (unpacked r).state))
      go true = refl
      go false = sym own
