-- What status of a row answers, as its code meets it, and what an answer of done gives. Rests on the laws of tests and of status.
use mathlib.Core.Path.{◌≡◌, refl}
use mathlib.Core.Bool.{Bool, true, false}
use mathlib.Core.List.{List}
use Prim.Native.Nat.{ℕ, ◌≤◌, ◌<◌}
use native.Mathlib.Omega.{arith}
use lib.Dec.{eqb}
use lib.ListN.{length}
use borrow.Author.Tests.{lt-ltb, le-ltb, le-leb, lt-leb, eq-eqb, ne_eqb, eqb-true}
use Rattle.rules.specs.Limits.{both, asked_max}
use Rattle.rules.specs.Refusals.{pick, first_hit, outside_limits, too_early, wrong_rows}
use Rattle.story.specs.declared.State.{State}
use Rattle.story.specs.Kept.{state_ok}
use Rattle.story.specs.Calls.{status_answer}
use Rattle.questions.specs.Asked.{asked_answer}
use Rattle.status.specs.Rows.{ids_ok}
use Rattle.status.proofs.Asked.{rows_state}
use Rattle.agent_rows.specs.Layout.{row_length}
use Rattle.agent_rows.specs.Packed.{unpacked, row_sound}
use Rattle.row_calls.specs.Answers.{row_status, on_sound}
use Rattle.row_calls.specs.inner.Steps.{Tested}
use Rattle.row_calls.proofs.Rows.{row_out}

-- ---- a question of all titles, on a state within its limits

module _ (s : State) (τ : ℕ) (others : Bool) (ok : state_ok s ≡ true) where
  pub asked_outside : asked_max < τ → outside_limits ≡ asked_answer s τ others
  unfolding asked_answer first_hit
  asked_outside out = rw (ok, lt-leb τ asked_max out) refl

  module _ (fits : τ ≤ asked_max) where
    pub asked_no_ids : others ≡ false → outside_limits ≡ asked_answer s τ others
    unfolding asked_answer first_hit
    asked_no_ids none = rw (ok, le-leb τ asked_max fits, none) refl

    pub asked_too_early : others ≡ true → τ < s.last → too_early ≡ asked_answer s τ others
    unfolding asked_answer first_hit
    asked_too_early all early = rw (ok, le-leb τ asked_max fits, all, lt-ltb τ s.last early) refl

    pub asked_in_time : others ≡ true → s.last ≤ τ → 0 ≡ asked_answer s τ others
    unfolding asked_answer first_hit
    asked_in_time all late = rw (ok, le-leb τ asked_max fits, all, le-ltb τ s.last late) refl

-- ---- status of a row

-- an answer of done takes the first of two
first_of : (b : Bool) (x k : ℕ) → pick b x k ≡ 0 → (k ≡ 0 → ⊥) → (b ≡ true) × (x ≡ 0)
first_of true x k none some = (refl, none)
first_of false x k none some = absurd (some none)

-- rows as long as that of the ids
abbrev Rows : List ℕ → ℕ → ℕ → ℕ → Bool
Rows ids m h d = both (eqb m (length ids)) (both (eqb h (length ids)) (eqb d (length ids)))

module _ (r : List ℕ) (τ : ℕ) (ids : List ℕ) (m h d : ℕ) where
  pub status_elsewhere : (length r ≡ row_length → ⊥) → wrong_rows ≡ row_status r τ ids m h d
  unfolding row_status
  status_elsewhere other = rw (ne_eqb (length r) row_length other) refl

  module _ (long : length r ≡ row_length) where
    pub wrong_counts : (m ≡ length ids → ⊥) → wrong_rows ≡ row_status r τ ids m h d
    unfolding row_status
    wrong_counts other = rw (eq-eqb (length r) row_length long, ne_eqb m (length ids) other) refl

    pub wrong_held : m ≡ length ids → (h ≡ length ids → ⊥) → wrong_rows ≡ row_status r τ ids m h d
    unfolding row_status
    wrong_held same other = rw (eq-eqb (length r) row_length long, eq-eqb m (length ids) same, ne_eqb h (length ids) other) refl

    pub wrong_marks : m ≡ length ids → h ≡ length ids → (d ≡ length ids → ⊥) → wrong_rows ≡ row_status r τ ids m h d
    unfolding row_status
    wrong_marks same too other =
        rw (eq-eqb (length r) row_length long, eq-eqb m (length ids) same, eq-eqb h (length ids) too, ne_eqb d (length ids) other) refl

    module _ (e : m ≡ length ids) (f : h ≡ length ids) (g : d ≡ length ids) where
      alike : Rows ids m h d ≡ true
      alike = rw (eq-eqb m (length ids) e, eq-eqb h (length ids) f, eq-eqb d (length ids) g) refl

      pub status_in : row_sound r ≡ true → asked_answer (unpacked r).state τ (ids_ok ids) ≡ row_status r τ ids m h d
      unfolding row_status status_answer asked_answer first_hit ids_ok
      status_in sound = rw (eq-eqb (length r) row_length long, alike, sound) refl

      outside : state_ok (unpacked r).state ≡ false → status_answer (unpacked r).state τ ids m h d ≡ outside_limits
      unfolding status_answer first_hit
      outside bad = rw (alike, bad) refl

      pub status_out : both (row_sound r) (state_ok (unpacked r).state) ≡ false → outside_limits ≡ row_status r τ ids m h d
      unfolding row_status
      status_out out =
          rw (eq-eqb (length r) row_length long, alike) (row_out r (status_answer (unpacked r).state τ ids m h d) out outside)

  -- an answer of done
  module _ (none : row_status r τ ids m h d ≡ 0) where
    of_length_lem : (eqb (length r) row_length ≡ true) × (pick (Rows ids m h d) (on_sound r (status_answer (unpacked r).state τ ids m h d)) wrong_rows ≡ 0)
    unfolding row_status
    of_length_lem = first_of (eqb (length r) row_length) (pick (Rows ids m h d) (on_sound r (status_answer (unpacked r).state τ ids m h d)) wrong_rows) wrong_rows none (λ z. omega arith)

    of_rows : (Rows ids m h d ≡ true) × (on_sound r (status_answer (unpacked r).state τ ids m h d) ≡ 0)
    of_rows = first_of (Rows ids m h d) (on_sound r (status_answer (unpacked r).state τ ids m h d)) wrong_rows of_length_lem.1 (λ z. omega arith)

    of_sound : (row_sound r ≡ true) × (status_answer (unpacked r).state τ ids m h d ≡ 0)
    of_sound = first_of (row_sound r) (status_answer (unpacked r).state τ ids m h d) outside_limits of_rows.1 (λ z. omega arith)

    pub done_answer : status_answer (unpacked r).state τ ids m h d ≡ 0
    done_answer = of_sound.1

    pub done_tested : Tested r
    done_tested =
        record {
          long = eqb-true (length r) row_length of_length_lem.0;
          sound = of_sound.0;
          ok = rows_state (unpacked r).state τ ids m h d of_sound.1;
        }
