-- An agent that is told notices is the agent of the agent's page after byte strings that read as them. The notices of a log,
-- written out, are such byte strings: what holds of any series holds of a log played into a fresh agent.
-- Rests on what a log gives at a place being that notice's bytes.
use Prim.Native.Nat.{ℕ, zero, suc}
use mathlib.Core.Path.{◌≡◌, refl, sym, ap, ◌∙◌}
use mathlib.Core.List.{List, [], ◌∷◌, map}
use lib.Dec.{eqb}
use lib.ListN.{length}
use Rattle.rules.specs.Refusals.{pick, out_of_turn}
use Rattle.notice.specs.declared.Notice.{Notice}
use Rattle.notice.specs.declared.Reading.TheVariants as reading
use Rattle.notice.specs.declared.Found.{Found}
use Rattle.notice.specs.declared.Found.TheVariants as found
use Rattle.notice.specs.Encode.{bytes_of}
use Rattle.notice.specs.Decode.{read_at, read_of}
use Rattle.notice.specs.Log.{Bytes, place_to, with_found, notices_to, notices_of}
use Rattle.notice.proofs.ReadBack.{read_alone}
use Rattle.agent.specs.declared.Agent.{Agent}
use Rattle.agent.specs.Turns.{event_of, fresh_agent, notice_answer, noticed}
use Rattle.story.specs.Story.{answer}
use Rattle.story.specs.Runs.{lanes_of, Reached}
use Rattle.story.proofs.Demands.{tells_the_story}
use Rattle.agent.specs.Series.{agent_after, hearing, heard, Hearing}
use Rattle.agent.specs.Played.{agent_told, agent_played, heard_of, events_played, ReadAs, none_read, one_read}
use Rattle.agent.proofs.Order.{follows}

-- one read more of a log is one more notice told, or none
pub told_more : (g : Agent) (ns : List Notice) (f : Found)
    → agent_told (agent_told g ns) (with_found f []) ≡ agent_told g (with_found f ns)
unfolding agent_told
told_more g ns (found.At n e) = refl
told_more g ns found.End = refl
told_more g ns found.Malformed = refl

-- told the notices, or handed byte strings that read as them: one agent
pub told_series : (pool : ℕ) (bss : List (List ℕ)) (ns : List Notice) → ReadAs bss ns
    → agent_told (fresh_agent pool) ns ≡ agent_after pool bss
unfolding agent_told agent_after
told_series pool [] [] none_read = refl
told_series pool (bs ∷ bss) (n ∷ ns) (one_read is rest) =
    ap (λ (g : Agent). noticed g (reading.Whole n)) (told_series pool bss ns rest)
    ∙ ap (noticed (agent_after pool bss)) (sym is)
told_series pool [] (n ∷ ns) r = elim r [ ]
told_series pool (bs ∷ bss) [] r = elim r [ ]

-- one read more of a log, its notice written out
one_more : (bs : List ℕ) → Bytes bs → (p : ℕ) (ns : List Notice) (f : Found) → read_at bs p ≡ f
    → ReadAs (map bytes_of ns) ns → ReadAs (map bytes_of (with_found f ns)) (with_found f ns)
one_more bs small p ns (found.At m e) is rest = one_read (read_alone bs small p m e is) rest
one_more bs small p ns found.End is rest = rest
one_more bs small p ns found.Malformed is rest = rest

-- the notices that the first n reads of a log give, written out, read as themselves
pub log_series : (bs : List ℕ) → Bytes bs → (n : ℕ) → ReadAs (map bytes_of (notices_to bs n)) (notices_to bs n)
unfolding notices_to
log_series bs small zero = none_read
log_series bs small (suc n) =
    one_more bs small (place_to bs n) (notices_to bs n) (read_at bs (place_to bs n)) refl (log_series bs small n)

-- a log played into a fresh agent is the series of its notices, each in its own bytes
pub played : (pool : ℕ) (log : List ℕ) → Bytes log
    → agent_played pool log ≡ agent_after pool (map bytes_of (notices_of log))
played pool log small = told_series pool _ _ (log_series log small _)

-- notices and the bytes that read as them are heard alike
pub heard_alike : (lanes : ℕ) (bss : List (List ℕ)) (ns : List Notice) → ReadAs bss ns → heard lanes bss ≡ heard_of lanes ns
unfolding heard heard_of
heard_alike lanes [] [] none_read = refl
heard_alike lanes (bs ∷ bss) (n ∷ ns) (one_read is rest) =
    ap (λ hs. hearing lanes hs (read_of bs)) (heard_alike lanes bss ns rest) ∙ ap (hearing lanes (heard_of lanes ns)) is
heard_alike lanes [] (n ∷ ns) r = elim r [ ]
heard_alike lanes (bs ∷ bss) [] r = elim r [ ]

-- an agent that was told notices follows those that count
pub told_follows : (pool : ℕ) (bss : List (List ℕ)) (ns : List Notice) → ReadAs bss ns →
    Hearing pool (heard_of (lanes_of pool) ns) (agent_told (fresh_agent pool) ns)
told_follows pool bss ns r =
    rw (told_series pool bss ns r, ← heard_alike (lanes_of pool) bss ns r) (follows pool bss)

-- the events of a log are reached, with the state that a fresh agent has after the log
pub log_reached : (pool : ℕ) (log : List ℕ) → Bytes log → Reached pool (events_played pool log) (agent_played pool log).state
log_reached pool log small = (told_follows pool _ (notices_of log) (log_series log small (length log))).run

-- what it answers a notice is what the sequence of those that count says
pub told_notice : (pool : ℕ) (ns : List Notice) → Hearing pool (heard_of (lanes_of pool) ns) (agent_told (fresh_agent pool) ns) →
    (n : Notice) → notice_answer (agent_told (fresh_agent pool) ns) (reading.Whole n)
    ≡ pick (eqb n.sequence (suc (length (heard_of (lanes_of pool) ns)))) (answer (lanes_of pool) (map event_of (heard_of (lanes_of pool) ns)) (event_of n)) out_of_turn
unfolding notice_answer
told_notice pool ns w n =
    rw (
      w.sequence,
      (tells_the_story pool (map event_of (heard_of (lanes_of pool) ns)) (agent_told (fresh_agent pool) ns).state w.run
          ).every_answer (event_of n),
    )
