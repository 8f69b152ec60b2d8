-- An event put to the head-end, as the code meets its cases: accepted, refused by the scheduler, or refused for want of a sequence;
-- and that the notice of an accepted one is not cut. Rests on accepted events fitting the fields of their notices.
use Prim.Native.Nat.{ℕ, suc, ◌+◌, ◌<◌, ◌≤◌}
use mathlib.Core.Path.{◌≡◌, refl, sym, ap, ◌∙◌}
use mathlib.Core.Bool.{Bool, true, false}
use mathlib.Core.Logic.{⊎_elim}
use native.Mathlib.Numerals.{add-one}
use native.Mathlib.Omega.{arith}
use borrow.Author.Tests.{eq-eqb, ne_eqb, eqb-true, eqb-false, lt-ltb, le-ltb, ltb-true}
use lib.Dec.{eqb, ltb}
use Rattle.rules.specs.Refusals.{pick, done, out_of_turn}
use Rattle.rules.proofs.Tests.{decide}
use Rattle.story.specs.declared.State.{State}
use Rattle.story.specs.declared.Event.{Event}
use Rattle.story.specs.Runs.{answered, called}
use Rattle.agent.specs.declared.Agent.{Agent}
use Rattle.agent.specs.Series.{notice_for}
use Rattle.agent.proofs.HeadEnd.{typed_called}
use Rattle.text.specs.Numbers.{four_bytes_most}
use Rattle.console_acts.specs.Writing.{cut_event}
use Rattle.console_acts.proofs.Written.{uncut}
use Rattle.headend_desk.specs.Desk.{head_answer, head_next}

-- what an event is answered, and the agent after it
abbrev pub Taken : Agent → Event → ℕ → Agent → Type 0
Taken g e a h = (a ≡ head_answer g e) × (h ≡ head_next g e)

-- ---- the ways out of `take`

module _ (g : Agent) (e : Event) where
  next_done : head_answer g e ≡ done → record { sequence = suc g.sequence; state = called g.state e } ≡ head_next g e
  unfolding head_next
  next_done h = rw (eq-eqb _ _ h) refl

  next_refused : (head_answer g e ≡ done → ⊥) → g ≡ head_next g e
  unfolding head_next
  next_refused h = rw (ne_eqb _ _ h) refl

  module _ (a : ℕ) (is : a ≡ answered g.state e) where
    answer_taken : a ≡ done → g.sequence < four_bytes_most → head_answer g e ≡ done
    unfolding head_answer
    answer_taken h low = rw (eq-eqb (answered g.state e) done (sym is ∙ h), lt-ltb g.sequence four_bytes_most low) refl

    answer_late : a ≡ done → four_bytes_most ≤ g.sequence → head_answer g e ≡ out_of_turn
    unfolding head_answer
    answer_late h high = rw (eq-eqb (answered g.state e) done (sym is ∙ h), le-ltb g.sequence four_bytes_most high) refl

    answer_refused : (a ≡ done → ⊥) → head_answer g e ≡ a
    unfolding head_answer
    answer_refused h = rw (ne_eqb (answered g.state e) done (λ z. h (is ∙ z))) (sym is)

    pub takes : (t : State) → t ≡ called g.state e → a ≡ done → g.sequence < four_bytes_most →
        Taken g e done (record { sequence = g.sequence + 1; state = t })
    takes t next h low =
        let z = answer_taken h low in
        let one : g.sequence + 1 ≡ suc g.sequence = add-one g.sequence in
        (sym z, (λ i. record { sequence = one i; state = next i }) ∙ next_done z)

    pub takes_late : a ≡ done → four_bytes_most ≤ g.sequence → Taken g e out_of_turn g
    takes_late h high =
        let z = answer_late h high in
        (sym z, next_refused (λ o. let n : out_of_turn ≡ done = sym z ∙ o in omega arith))

    pub takes_refused : (a ≡ done → ⊥) → Taken g e a g
    takes_refused h =
        let z = answer_refused h in
        (sym z, next_refused (λ o. h (sym z ∙ o)))

  -- ---- an accepted event

  -- the scheduler accepts it, and a sequence is left
  pub accepts : head_answer g e ≡ done → (answered g.state e ≡ done) × (g.sequence < four_bytes_most)
  unfolding head_answer
  accepts h =
      ⊎_elim
      (λ x.
      let seq : pick (ltb g.sequence four_bytes_most) done out_of_turn ≡ done = rw x at h in
      (eqb-true (answered g.state e) done x, late (ltb g.sequence four_bytes_most) refl seq))
      (λ x. let own : answered g.state e ≡ done = rw x at h in absurd (eqb-false (answered g.state e) done x own))
      (decide (eqb (answered g.state e) done))
    where
      late : (t : Bool) → ltb g.sequence four_bytes_most ≡ t → pick t done out_of_turn ≡ done → g.sequence < four_bytes_most
      late true is z = ltb-true g.sequence four_bytes_most is
      late false is z = absurd (omega arith)

  -- the agent after it
  pub moves_on : head_answer g e ≡ done → head_next g e ≡ record { sequence = suc g.sequence; state = called g.state e }
  moves_on h = sym (next_done h)

  -- and its notice has each number as it is
  pub next_notice : head_answer g e ≡ done → notice_for (head_next g e).sequence (cut_event e) ≡ notice_for (suc g.sequence) e
  next_notice h =
      let ok = accepts h in
      let sequence : (head_next g e).sequence ≡ suc g.sequence = ap (λ (x : Agent). x.sequence) (moves_on h) in
      let low : g.sequence < four_bytes_most = ok.1 in
      let fits = typed_called g.state e (suc g.sequence) (omega arith) ok.0 in
      ap (λ (q : ℕ). notice_for q (cut_event e)) sequence ∙ uncut (suc g.sequence) e fits
