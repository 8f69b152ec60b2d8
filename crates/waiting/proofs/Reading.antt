-- What a log as far as it was played lets the next step build on. Rests on the tally of a log's notices.
use mathlib.Core.Path.{sym, subst}
use mathlib.Core.List.{List}
use Prim.Native.Nat.{ℕ, ◌≤◌}
use lib.ListN.{length}
use Rattle.rules.specs.Limits.{id_max}
use Rattle.notice.specs.Log.{Bytes, notices_to}
use Rattle.logs.specs.declared.PlayedLog.{PlayedLog}
use Rattle.agent.specs.declared.Agent.{Agent}
use Rattle.agent.proofs.Played.{log_series}
use Rattle.agent_rows.specs.Packed.{unpacked}
use Rattle.logs.proofs.Reading.{PlayedTo}
use Rattle.admissions.specs.declared.Tally.{Tally}
use Rattle.admissions.specs.Waits.{row_max}
use Rattle.admissions.specs.Stretches.{fresh_tally}
use Rattle.waiting.specs.inner.Steps.{heard_tally, ReadyToTally}
use Rattle.waiting.proofs.Counting.{told_ready}

pub ready : (pool : ℕ) (log : List ℕ) (i : ℕ) (xs row : List ℕ) (p : PlayedLog) (y : Tally) →
    PlayedTo (heard_tally i xs) pool log (fresh_tally 0) row p y → Bytes log → i ≤ id_max → length xs ≤ row_max →
    ReadyToTally (unpacked row) i xs y
ready pool log i xs row p y w small id short =
    subst (λ (g : Agent). ReadyToTally g i xs y) (sym w.agent_is)
    (rw w.kept_is
    (told_ready pool i id xs _ (notices_to log w.reads) (log_series log small w.reads) short))
