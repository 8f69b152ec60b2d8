-- Laws of one read, as the code meets its cases, and what a log as far as it was played lets the next step build on. Rest on the
-- definition of a row after an event, and on the numbers of a log's notices.
use mathlib.Core.Path.{◌≡◌, refl, sym, subst}
use mathlib.Core.List.{List}
use Prim.Native.Nat.{ℕ, ◌≤◌}
use native.Mathlib.Omega.{arith}
use borrow.Author.Tests.{eq-eqb, ne_eqb}
use lib.ListN.{length}
use Rattle.rules.specs.Limits.{id_max}
use Rattle.notice.specs.Log.{Bytes, notices_to}
use Rattle.story.specs.declared.Title.{Title}
use Rattle.story.specs.Kept.{open_mode, tick_at}
use Rattle.logs.specs.declared.PlayedLog.{PlayedLog}
use Rattle.agent.specs.declared.Agent.{Agent}
use Rattle.agent.proofs.Played.{log_series}
use Rattle.agent_rows.specs.Packed.{unpacked}
use Rattle.logs.proofs.Reading.{PlayedTo}
use Rattle.playouts.specs.inner.Steps.{filled_to, event_numbers, heard_numbers, RowToFill, ReadyToFill}
use Rattle.playouts.proofs.Filling.{told_length, told_ready}

module _ (opening from : ℕ) (t : Title) (τ : ℕ) (row : List ℕ) where
  pub settled_own : (u : ℕ) (m : List ℕ) → t.mode ≡ open_mode → t.opened ≡ opening → u ≡ tick_at t τ → m ≡ filled_to t from u row →
      m ≡ event_numbers opening from t τ row
  settled_own u m on own tick is = rw (eq-eqb t.mode open_mode on, eq-eqb t.opened opening own, ← tick) is

  pub settled_other : t.mode ≡ open_mode → (t.opened ≡ opening → ⊥) → row ≡ event_numbers opening from t τ row
  settled_other on other = rw (eq-eqb t.mode open_mode on, ne_eqb t.opened opening other) refl

  pub settled_opening : (t.mode ≡ open_mode → ⊥) → row ≡ event_numbers opening from t τ row
  settled_opening off = rw (ne_eqb t.mode open_mode off) refl

module _ (pool : ℕ) (log : List ℕ) (i opening from : ℕ) (row r : List ℕ) (p : PlayedLog) (m : List ℕ) (w : PlayedTo (heard_numbers i opening from) pool log row r p m) where
  pub ready : Bytes log → i ≤ id_max → ReadyToFill (unpacked r) i
  ready small id =
      subst (λ (g : Agent). ReadyToFill g i) (sym w.agent_is)
      (told_ready pool i id _ (notices_to log w.reads) (log_series log small w.reads))

  pub kept_length_lem : length m ≡ length row
  kept_length_lem = rw w.kept_is (told_length opening from pool i row (notices_to log w.reads))

  pub still_fillable : RowToFill from row → RowToFill from m
  still_fillable f = record { soon = f.soon; short = omega (arith, f.short, kept_length_lem) }
