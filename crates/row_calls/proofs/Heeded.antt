-- What a notice is answered on a row, as the code meets its cases: another length, no notice, out of its turn, out of its limits, and its
-- event's own answer. Rests on the laws of tests.
use mathlib.Core.Path.{◌≡◌, refl, sym, subst, ◌∙◌}
use mathlib.Core.Bool.{true, false}
use mathlib.Core.List.{List}
use mathlib.Core.Logic.{⊎_elim}
use Prim.Native.Nat.{ℕ, suc, ◌-◌}
use native.Mathlib.Omega.{arith}
use lib.Dec.{eqb}
use lib.ListN.{length, set}
use borrow.Author.Tests.{eq-eqb, ne_eqb, eqb-true, eqb-false}
use Rattle.rules.specs.Limits.{both}
use Rattle.rules.specs.Refusals.{pick, outside_limits, wrong_rows, malformed, out_of_turn}
use Rattle.rules.proofs.Tests.{decide}
use Rattle.notice.specs.declared.Notice.{Notice}
use Rattle.notice.specs.declared.Reading.{Reading}
use Rattle.notice.specs.declared.Reading.TheVariants as reading
use Rattle.story.specs.Kept.{state_ok}
use Rattle.story.specs.Next.{call_next}
use Rattle.story.specs.Runs.{answered}
use Rattle.agent.specs.Turns.{act_of, event_of, notice_answer}
use Rattle.agent_rows.specs.Layout.{sequence_at, row_length}
use Rattle.agent_rows.specs.Packed.{packed, unpacked, row_sound, with_state}
use Rattle.row_calls.specs.Answers.{row_reading, row_notice, row_after_notice}
use Rattle.row_calls.proofs.Rows.{event_out_lem, row_out}

-- what is answered to a reading of a row, and the row afterwards
abbrev pub Heeds : List ℕ → Reading → ℕ → List ℕ → Type 0
Heeds r q a x = (a ≡ row_notice r q) × (x ≡ row_after_notice r q)

-- by what the bytes read as
pub heeds_as : (r : List ℕ) (q p : Reading) (a : ℕ) (x : List ℕ) → q ≡ p → Heeds r p a x → Heeds r q a x
heeds_as r q p a x e w = subst (λ (z : Reading). Heeds r z a x) (sym e) w

pub notice_elsewhere : (r : List ℕ) (q : Reading) → (length r ≡ row_length → ⊥) → Heeds r q wrong_rows r
unfolding row_notice row_after_notice
notice_elsewhere r q other = rw (ne_eqb (length r) row_length other) (refl, refl)

-- a number one below another has that other after it
pub same_next : (a b : ℕ) → (b ≡ 0 → ⊥) → eqb a (b - 1) ≡ eqb b (suc a)
same_next a b some =
    ⊎_elim (λ z. z ∙ sym (eq-eqb b (suc a) (omega (arith, eqb-true a (b - 1) z, some))))
    (λ no. no ∙ sym (ne_eqb b (suc a) (λ e. eqb-false a (b - 1) no (omega (arith, e)))))
    (decide (eqb a (b - 1)))

module _ (r : List ℕ) (long : length r ≡ row_length) where
  pub no_notice : Heeds r reading.Malformed malformed r
  unfolding row_notice row_after_notice row_reading
  no_notice = rw (eq-eqb (length r) row_length long) (refl, refl)

  module _ (n : Notice) where
    pub not_its_turn : (n.sequence ≡ suc (unpacked r).sequence → ⊥) → Heeds r (reading.Whole n) out_of_turn r
    unfolding row_notice row_after_notice row_reading
    not_its_turn other = rw (eq-eqb (length r) row_length long, ne_eqb n.sequence (suc (unpacked r).sequence) other) (refl, refl)

    module _ (turn : n.sequence ≡ suc (unpacked r).sequence) where
      pub turn_out : both (row_sound r) (state_ok (unpacked r).state) ≡ false → Heeds r (reading.Whole n) outside_limits r
      unfolding row_notice row_after_notice row_reading
      turn_out out =
          let one : outside_limits ≡ pick (row_sound r) (answered (unpacked r).state (event_of n)) outside_limits =
          row_out r (answered (unpacked r).state (event_of n)) out (event_out_lem (unpacked r).state (event_of n)) in
          rw (eq-eqb (length r) row_length long, eq-eqb n.sequence (suc (unpacked r).sequence) turn, ← one) (refl, refl)

      -- in its turn, on a row that was tested: the event's answer, and the row that the event left
      module _ (sound : row_sound r ≡ true) (a : ℕ) (x : List ℕ) (is-a : a ≡ answered (unpacked r).state (event_of n))
          (is_x : x ≡ pick (eqb a 0) (packed (with_state (unpacked r) (call_next (unpacked r).state n.title n.time (act_of n.kind)))) r) where
        its_answer : a ≡ row_notice r (reading.Whole n)
        unfolding row_notice row_reading
        its_answer = rw (eq-eqb (length r) row_length long, eq-eqb n.sequence (suc (unpacked r).sequence) turn, sound) is-a

        pub turn_taken : a ≡ 0 → Heeds r (reading.Whole n) a (set x sequence_at n.sequence)
        unfolding row_after_notice notice_answer
        turn_taken none =
            let left : x ≡ packed (with_state (unpacked r) (call_next (unpacked r).state n.title n.time (act_of n.kind))) =
            rw (eq-eqb a 0 none) at is_x in
            let zero-answer : row_notice r (reading.Whole n) ≡ 0 = sym its_answer ∙ none in
            let event-zero : answered (unpacked r).state (event_of n) ≡ 0 = sym is-a ∙ none in (
              its_answer,
              rw (left, eq-eqb (row_notice r (reading.Whole n)) 0 zero-answer, eq-eqb n.sequence (suc (unpacked r).sequence) turn, eq-eqb (answered (unpacked r).state (event_of n)) 0 event-zero) refl,
            )

        pub turn_refused : (a ≡ 0 → ⊥) → Heeds r (reading.Whole n) a x
        unfolding row_after_notice
        turn_refused some =
            (its_answer, rw (← its_answer, ne_eqb a 0 some) (rw (ne_eqb a 0 some) at is_x))
