-- Laws of one notice's turn, as the agent's code meets its cases.
-- Rest on the definitions of the agent's answer and on nothing of the story.
use mathlib.Core.Path.{◌≡◌, refl, sym, ap, ◌∙◌}
use Prim.Native.Nat.{ℕ, suc, ◌+◌}
use native.Mathlib.Numerals.{add-one}
use native.Mathlib.Omega.{arith}
use borrow.Author.Tests.{eq-eqb, ne_eqb}
use Rattle.rules.specs.Refusals.{pick, malformed, out_of_turn}
use Rattle.notice.specs.declared.Notice.{Notice}
use Rattle.notice.specs.declared.Reading.{Reading}
use Rattle.notice.specs.declared.Reading.TheVariants as reading
use Rattle.story.specs.declared.State.{State}
use Rattle.story.specs.Next.{call_next}
use Rattle.story.specs.Runs.{answered, called}
use Rattle.agent.specs.declared.Agent.{Agent}
use Rattle.agent.specs.Turns.{act_of, event_of, notice_answer, noticed, Stops}

abbrev pub agent_of : ℕ → State → Agent
agent_of n s = record { sequence = n; state = s }

-- what an agent makes of a notice
abbrev pub Turn : Agent → Notice → ℕ → Agent → Type 0
Turn g n a h = (a ≡ notice_answer g (reading.Whole n)) × (h ≡ noticed g (reading.Whole n))

-- in turn: the answer is the event's
pub in_turn : (g : Agent) (n : Notice) → n.sequence ≡ g.sequence + 1 →
    notice_answer g (reading.Whole n) ≡ answered g.state (event_of n)
unfolding notice_answer
in_turn g n e = ap (λ b. pick b (answered g.state (event_of n)) out_of_turn) (eq-eqb n.sequence (suc g.sequence) (e ∙ add-one g.sequence))

pub turn_taken : (g : Agent) (n : Notice) (a : ℕ) (s : State) → n.sequence ≡ g.sequence + 1 →
    a ≡ answered g.state (event_of n) → s ≡ called g.state (event_of n) → a ≡ 0 →
    Turn g n a (agent_of n.sequence s)
turn_taken g n a s e p q z =
    let zero-answer : answered g.state (event_of n) ≡ 0 = sym p ∙ z in
    let in-state : s ≡ call_next g.state n.title n.time (act_of n.kind) =
    q ∙ ap (λ b. pick b (call_next g.state n.title n.time (act_of n.kind)) g.state) (eq-eqb (answered g.state (event_of n)) 0 zero-answer) in (
      p ∙ sym (in_turn g n e),
      ap (agent_of n.sequence) in-state
          ∙ sym (ap (λ b. pick b (agent_of n.sequence (call_next g.state n.title n.time (act_of n.kind))) g) (eq-eqb (notice_answer g (reading.Whole n)) 0 (in_turn g n e ∙ zero-answer))),
    )

-- refused: the agent stays
stays : (g : Agent) (r : Reading) → (notice_answer g r ≡ 0 → ⊥) → g ≡ noticed g r
stays g r h = rw (ne_eqb (notice_answer g r) 0 h) refl

pub turn_refused : (g : Agent) (n : Notice) (a : ℕ) → n.sequence ≡ g.sequence + 1 →
    a ≡ answered g.state (event_of n) → (a ≡ 0 → ⊥) → Turn g n a g
turn_refused g n a e p z =
    (p ∙ sym (in_turn g n e), stays g (reading.Whole n) (λ h. z (p ∙ sym (in_turn g n e) ∙ h)))

pub out_of_turn_lem : (g : Agent) (n : Notice) → (n.sequence ≡ suc g.sequence → ⊥) →
    notice_answer g (reading.Whole n) ≡ out_of_turn
unfolding notice_answer
out_of_turn_lem g n h = ap (λ b. pick b (answered g.state (event_of n)) out_of_turn) (ne_eqb n.sequence (suc g.sequence) h)

pub turn_other : (g : Agent) (n : Notice) → (n.sequence ≡ g.sequence + 1 → ⊥) → Turn g n out_of_turn g
turn_other g n h =
    let e : notice_answer g (reading.Whole n) ≡ out_of_turn = out_of_turn_lem g n (λ q. h (q ∙ sym (add-one g.sequence))) in
    (sym e, stays g (reading.Whole n) (λ z. let o : out_of_turn ≡ 0 = sym e ∙ z in omega arith))

pub malformed_stays : (g : Agent) → (malformed ≡ notice_answer g reading.Malformed) × (g ≡ noticed g reading.Malformed)
unfolding notice_answer
malformed_stays g = (refl, refl)

-- by what the bytes read as
pub reads_as : (g : Agent) (r q : Reading) (a : ℕ) (h : Agent) → r ≡ q → (a ≡ notice_answer g q) × (h ≡ noticed g q) →
    (a ≡ notice_answer g r) × (h ≡ noticed g r)
reads_as g r q a h e w = rw e w

-- a reading that is refused changes nothing
pub refused_stays : (g : Agent) (r : Reading) → (notice_answer g r ≡ 0 → ⊥) → noticed g r ≡ g
refused_stays g r h = sym (stays g r h)

-- whatever notice is refused in its turn, the one numbered after it gets 12: the agent goes no further
pub goes_no_further : (g : Agent) (m n : Notice) (a : ℕ) → m.sequence ≡ suc g.sequence → n.sequence ≡ suc m.sequence →
    answered g.state (event_of m) ≡ a → (a ≡ 0 → ⊥) → Stops g (reading.Whole m) (reading.Whole n) a
goes_no_further g m n a next after says not_done =
    let refused : notice_answer g (reading.Whole m) ≡ a = in_turn g m (next ∙ sym (add-one g.sequence)) ∙ says in
    let stays : noticed g (reading.Whole m) ≡ g = refused_stays g (reading.Whole m) (λ z. not_done (sym refused ∙ z)) in
    let twelve : notice_answer g (reading.Whole n) ≡ out_of_turn = out_of_turn_lem g n (λ e. omega (arith, e, next, after)) in
    record {
      refused = refused;
      then_twelve = rw stays twelve;
      stays = rw stays (refused_stays g (reading.Whole n) (λ z. omega (arith, twelve, z)));
    }
