-- What a log as far as it was played lets the next step build on. Rests on the marks of a log's notices.
use mathlib.Core.Path.{◌≡◌, sym, subst}
use mathlib.Core.List.{List}
use Prim.Native.Nat.{ℕ, ◌≤◌}
use lib.ListN.{length}
use Rattle.rules.specs.Limits.{id_max}
use Rattle.notice.specs.Log.{Bytes, notices_to}
use Rattle.logs.specs.declared.PlayedLog.{PlayedLog}
use Rattle.agent.specs.declared.Agent.{Agent}
use Rattle.agent.proofs.Played.{log_series}
use Rattle.agent_rows.specs.Packed.{unpacked}
use Rattle.logs.proofs.Reading.{PlayedTo}
use Rattle.airing.specs.inner.Steps.{heard_marks, ReadyToMark}
use Rattle.airing.proofs.Marking.{told_length, told_ready}

module _ (pool : ℕ) (log : List ℕ) (i : ℕ) (row r : List ℕ) (p : PlayedLog) (m : List ℕ) (w : PlayedTo (heard_marks i) pool log row r p m) where
  pub ready : Bytes log → i ≤ id_max → ReadyToMark (unpacked r) i
  ready small id =
      subst (λ (g : Agent). ReadyToMark g i) (sym w.agent_is)
      (told_ready pool i id row _ (notices_to log w.reads) (log_series log small w.reads))

  pub kept_length_lem : length m ≡ length row
  kept_length_lem = rw w.kept_is (told_length pool i row (notices_to log w.reads))
