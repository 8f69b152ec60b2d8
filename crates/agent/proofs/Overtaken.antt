-- A drop that overtakes the raise before it: the agent answers it with 12 and stays as it is, and after the missing notice
-- it is the agent that heard both in order. For any agent and notices in such a plight; then a worked one, computed from the
-- definitions over the notices' own bytes. Rests on the laws of one notice's turn.
use mathlib.Core.Path.{◌≡◌, refl, sym, ap, subst, ◌∙◌}
use lib.ListN.{length}
use mathlib.Core.List.{List, [], ◌∷◌}
use Prim.Native.Nat.{ℕ, suc}
use native.Mathlib.Omega.{arith}
use Rattle.rules.specs.Refusals.{out_of_turn}
use Rattle.story.specs.declared.Act.TheVariants.{Changes}
use Rattle.story.specs.declared.Event.{Event}
use Rattle.story.specs.Story.{opens, event, accepted}
use Rattle.story.specs.Runs.{state_after}
use Rattle.story.proofs.Computed.{computed}
use Rattle.notice.specs.declared.Notice.{Notice}
use Rattle.notice.specs.declared.Kind.TheVariants.{Open, Change}
use Rattle.notice.specs.declared.Reading.TheVariants as reading
use Rattle.notice.specs.Fields.{table, start_of, span_of}
use Rattle.notice.specs.Numbers.{big_endian, number_at}
use Rattle.notice.specs.Encode.{bytes_of, bytes_to, row_bytes, field_bytes}
use Rattle.notice.specs.Decode.{read_of, notice_in, kind_in, value_at, stands_to, row_stands, head_stands}
use Rattle.agent.specs.declared.Agent.{Agent}
use Rattle.agent.specs.Turns.{notice_answer, noticed}
use Rattle.notice.proofs.ReadBack.{one_notice}
use Rattle.agent.specs.Series.{agent_after, heard, events_heard, Of, no_bytes, more_bytes, OneEach}
use Rattle.agent.proofs.Order.{follows}
use Rattle.agent.proofs.OneLog.{one_log}
use Rattle.agent.proofs.Alike.{alike}
use Rattle.agent.proofs.Turns.{out_of_turn_lem, refused_stays}

-- the agent waits for the raise, and the drop comes first
module _ (g : Agent) (raise drop : Notice) (waits : raise.sequence ≡ suc g.sequence)
    (follows : drop.sequence ≡ suc raise.sequence) where
  pub answers_twelve : notice_answer g (reading.Whole drop) ≡ out_of_turn
  answers_twelve = out_of_turn_lem g drop (λ e. omega arith)

  pub stays_as_it_is : noticed g (reading.Whole drop) ≡ g
  stays_as_it_is = refused_stays g (reading.Whole drop) (λ z. omega (arith, answers_twelve))

  -- the raise, and the drop again, then leave the agent that heard them in order
  pub as_in_order :
      noticed (noticed (noticed g (reading.Whole drop)) (reading.Whole raise)) (reading.Whole drop)
      ≡ noticed (noticed g (reading.Whole raise)) (reading.Whole drop)
  as_in_order = ap (λ h. noticed (noticed h (reading.Whole raise)) (reading.Whole drop)) stays_as_it_is

-- what computing over bytes opens: the codec, and the story
computed_reading : Unit {0}
unfolding read_of notice_in kind_in value_at stands_to row_stands head_stands number_at start_of span_of table
computed_reading = tt

computed_bytes : Unit {0}
unfolding heard big_endian bytes_of bytes_to row_bytes field_bytes computed_reading computed
computed_bytes = tt

abbrev pub opened : Notice
opened = record { sequence = 1; title = 0; time = 0; kind = Open 12 2 4 3 }

abbrev pub raised : Notice
raised = record { sequence = 2; title = 0; time = 4; kind = Change 4 }

abbrev pub dropped : Notice
dropped = record { sequence = 3; title = 0; time = 8; kind = Change 3 }

-- newest first: the drop comes before the raise, and again after it
abbrev pub overtaken : List (List ℕ)
overtaken = bytes_of dropped ∷ bytes_of raised ∷ bytes_of dropped ∷ bytes_of opened ∷ []

pub heard_in_turn : heard 8 overtaken ≡ dropped ∷ raised ∷ opened ∷ []
unfolding computed_bytes
heard_in_turn = refl

-- the same notices in order, and that both series are of one log: no two of its notices share a sequence
abbrev pub in_order : List (List ℕ)
in_order = bytes_of dropped ∷ bytes_of raised ∷ bytes_of opened ∷ []

heard_in_order : heard 8 in_order ≡ dropped ∷ raised ∷ opened ∷ []
unfolding computed_bytes
heard_in_order = refl

data Log : Notice → Type 0 where
  first_of : Log opened
  second_of : Log raised
  third_of : Log dropped

one_each : OneEach Log
one_each m n first_of first_of e = refl
one_each m n first_of second_of e = absurd (omega arith)
one_each m n first_of third_of e = absurd (omega arith)
one_each m n second_of first_of e = absurd (omega arith)
one_each m n second_of second_of e = refl
one_each m n second_of third_of e = absurd (omega arith)
one_each m n third_of first_of e = absurd (omega arith)
one_each m n third_of second_of e = absurd (omega arith)
one_each m n third_of third_of e = refl

reads_opened : read_of (bytes_of opened) ≡ reading.Whole opened
unfolding computed_bytes
reads_opened = refl

reads_raised : read_of (bytes_of raised) ≡ reading.Whole raised
unfolding computed_bytes
reads_raised = refl

reads_dropped : read_of (bytes_of dropped) ≡ reading.Whole dropped
unfolding computed_bytes
reads_dropped = refl

logged : (m n : Notice) → Log m → read_of (bytes_of m) ≡ reading.Whole m → read_of (bytes_of m) ≡ reading.Whole n → Log n
logged m n l reads is = subst Log (one_notice (bytes_of m) m n reads is) l

of_order : Of Log in_order
of_order =
    more_bytes (λ n is. logged dropped n third_of reads_dropped is)
    (more_bytes (λ n is. logged raised n second_of reads_raised is)
    (more_bytes (λ n is. logged opened n first_of reads_opened is) no_bytes))

of_log : Of Log overtaken
of_log =
    more_bytes (λ n is. logged dropped n third_of reads_dropped is)
    (more_bytes (λ n is. logged raised n second_of reads_raised is)
    (more_bytes (λ n is. logged dropped n third_of reads_dropped is)
    (more_bytes (λ n is. logged opened n first_of reads_opened is) no_bytes)))

-- so the agent that was overtaken is the agent that heard them in order
pub caught_up : agent_after 8 overtaken ≡ agent_after 8 in_order
caught_up =
    one_log Log one_each 8 overtaken in_order of_log of_order
    ((follows 8 overtaken).sequence ∙ ap length heard_in_turn ∙ sym ((follows 8 in_order).sequence ∙ ap length heard_in_order))

-- and a head-end with those events is in its state
abbrev calls : List Event
calls = event 0 8 (Changes 3) ∷ event 0 4 (Changes 4) ∷ event 0 0 (opens 12 2 4 3) ∷ []

same_events : accepted 8 calls ≡ events_heard 8 overtaken
unfolding computed_bytes
same_events = refl

pub as_the_head_end : state_after 8 calls ≡ (agent_after 8 overtaken).state
as_the_head_end = alike 8 calls overtaken same_events
