-- Which notices of a log did not count, as a fresh agent of a pool takes them (01, "Notices"; 02, request 1: notices that are
-- refused there count for nothing).
use Rattle.std.specs.Prelude.{ℕ, suc, not, List, [], ◌∷◌, eqb, length}
use Rattle.rules.specs.Limits.{within, pool_min, pool_max}
use Rattle.rules.specs.Refusals.{pick, Rule, refuse, first_hit, done, outside_limits, malformed}
use Rattle.notice.specs.declared.Notice.{Notice}
use Rattle.notice.specs.declared.Reading.TheVariants as reading
use Rattle.notice.specs.Log.{notices_of, is_whole_log}
use Rattle.agent.specs.Turns.{fresh_agent, notice_answer}
use Rattle.agent.specs.Played.{agent_told}
use Rattle.unheard.specs.declared.MissedTally.{MissedTally}
use Rattle.unheard.specs.declared.Unheard.{Unheard}

-- what a notice is answered behind these, newest first; it counts where that is done
abbrev pub notice_answered : ℕ → List Notice → Notice → ℕ
notice_answered pool ns n = notice_answer (agent_told (fresh_agent pool) ns) (reading.Whole n)

-- of notices, newest first, how many did not count
unfoldable pub missed_in : ℕ → List Notice → ℕ
missed_in pool [] = 0
missed_in pool (n ∷ ns) = pick (eqb (notice_answered pool ns n) done) (missed_in pool ns) (suc (missed_in pool ns))

-- the number of the first that did not, counted from 1; 0 where all count
unfoldable pub first_in : ℕ → List Notice → ℕ
first_in pool [] = 0
first_in pool (n ∷ ns) =
    pick (eqb (notice_answered pool ns n) done) (first_in pool ns) (pick (eqb (missed_in pool ns) 0) (suc (length ns)) (first_in pool ns))

-- and what it was answered
unfoldable pub first_said : ℕ → List Notice → ℕ
first_said pool [] = done
first_said pool (n ∷ ns) =
    pick (eqb (notice_answered pool ns n) done) (first_said pool ns) (pick (eqb (missed_in pool ns) 0) (notice_answered pool ns n) (first_said pool ns))

abbrev pub tally_in : ℕ → List Notice → MissedTally
tally_in pool ns = record { notices = length ns; missed = missed_in pool ns; first = first_in pool ns; said = first_said pool ns }

abbrev pub none_told : MissedTally
none_told = record { notices = 0; missed = 0; first = 0; said = done }

abbrev pub unheard_rules : ℕ → List ℕ → List Rule
unheard_rules pool log =
    refuse outside_limits (not (within pool_min pool_max pool)) ∷ refuse malformed (not (is_whole_log log)) ∷ []

unfoldable pub unheard_answer : ℕ → List ℕ → ℕ
unheard_answer pool log = first_hit (unheard_rules pool log)

-- beside a refusal nothing is told
abbrev pub refused_unheard : ℕ → Unheard
refused_unheard a = record { answer = a; tally = none_told }

-- what the call gives back
unfoldable pub unheard_in : ℕ → List ℕ → Unheard
unheard_in pool log =
    pick (eqb (unheard_answer pool log) done) (record { answer = done; tally = tally_in pool (notices_of log) })
    (refused_unheard (unheard_answer pool log))
