-- What counts and what does not are all notices of a log: those that did not count are the ones that are not heard, so the
-- report over what is heard and the line about what is not tell of the same log.
-- Rests on the agent following the notices that count (`told_notice`).
use mathlib.Core.Path.{◌≡◌}
use mathlib.Core.Bool.{Bool, true, false}
use mathlib.Core.Logic.{⊎_elim}
use mathlib.Core.List.{List, [], ◌∷◌, map}
use Prim.Native.Nat.{ℕ, suc, ◌+◌}
use native.Mathlib.Omega.{arith}
use lib.Dec.{eqb}
use lib.ListN.{length}
use Rattle.rules.specs.Limits.{both}
use Rattle.rules.specs.Refusals.{pick, done, out_of_turn}
use Rattle.rules.proofs.Tests.{decide}
use Rattle.notice.specs.declared.Notice.{Notice}
use Rattle.notice.specs.Log.{Bytes, notices_of}
use Rattle.story.specs.Story.{answer}
use Rattle.story.specs.Runs.{lanes_of}
use Rattle.agent.specs.Turns.{event_of}
use Rattle.agent.specs.Played.{heard_of, ReadAs, none_read, one_read}
use Rattle.agent.proofs.Played.{log_series, told_follows, told_notice}
use Rattle.unheard.specs.Unheard.{missed_in}

module _ (pool : ℕ) where
  abbrev lanes : ℕ
  lanes = lanes_of pool

  pub heard_or_missed : (bss : List (List ℕ)) (ns : List Notice) → ReadAs bss ns
      → missed_in pool ns + length (heard_of lanes ns) ≡ length ns
  unfolding missed_in heard_of
  heard_or_missed [] [] none_read = omega arith
  heard_or_missed [] (n ∷ ns) r = elim r [ ]
  heard_or_missed (bs ∷ bss) [] r = elim r [ ]
  heard_or_missed (bs ∷ bss) (n ∷ ns) (one_read is rest) =
      rw (told_notice pool ns (told_follows pool bss ns rest) n)
      (go (eqb n.sequence (suc (length hs))) (answer lanes (map event_of hs) (event_of n)) (heard_or_missed bss ns rest))
    where
      hs : List Notice
      hs = heard_of lanes ns

      go : (turn : Bool) (m : ℕ) → missed_in pool ns + length hs ≡ length ns →
          pick (eqb (pick turn m out_of_turn) done) (missed_in pool ns) (suc (missed_in pool ns))
          + length (pick (both turn (eqb m 0)) (n ∷ hs) hs) ≡ suc (length ns)
      go false m before = omega arith
      go true m before = ⊎_elim (λ x. rw x (omega arith)) (λ x. rw x (omega arith)) (decide (eqb m 0))

-- of a log
pub log_counts : (pool : ℕ) (log : List ℕ) → Bytes log
    → missed_in pool (notices_of log) + length (heard_of (lanes_of pool) (notices_of log)) ≡ length (notices_of log)
log_counts pool log small = heard_or_missed pool _ (notices_of log) (log_series log small (length log))
