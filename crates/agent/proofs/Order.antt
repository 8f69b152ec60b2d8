-- Order is part of the message: over any series of byte strings handed to a fresh agent, those that count have sequences
-- 1, 2, 3, .. with none left out, their events are accepted by the pool, and the agent is the state that they leave. So
-- agents that heard the same notices are equal, and an earlier agent of the series has the events up to any moment. Rests on the story's `run_more`: one accepted event more is reached too.
use mathlib.Core.Path.{◌≡◌, refl, sym, ap, ◌∙◌}
use mathlib.Core.Bool.{Bool, true, false}
use mathlib.Core.Logic.{⊎_elim}
use mathlib.Core.List.{List, [], ◌∷◌, map}
use Prim.Native.Nat.{ℕ, suc}
use lib.Dec.{leb, eqb}
use lib.ListN.{length}
use borrow.Author.Tests.{eqb-true}
use Rattle.rules.specs.Limits.{both}
use Rattle.rules.specs.Refusals.{pick, out_of_turn}
use Rattle.rules.proofs.Tests.{decide}
use Rattle.notice.specs.declared.Notice.{Notice}
use Rattle.notice.specs.declared.Reading.{Reading}
use Rattle.notice.specs.declared.Reading.TheVariants as reading
use Rattle.notice.specs.Decode.{read_of}
use Rattle.story.specs.Story.{up_to, answer, none}
use Rattle.story.specs.Runs.{answered, state_after, lanes_of}
use Rattle.story.proofs.Reached.{reached, run_more, run_state}
use Rattle.story.proofs.Demands.{tells_the_story}
use Rattle.agent.specs.declared.Agent.{Agent}
use Rattle.agent.specs.Turns.{event_of, fresh_agent, notice_answer, notice_next, noticed}
use Rattle.agent.specs.Series.{agent_after, hearing, heard, events_heard, HeardBy, Hearing, start, next}

fresh_hearing : (pool : ℕ) → Hearing pool [] (fresh_agent pool)
unfolding state_after
fresh_hearing pool = record { sequence = refl; run = reached pool [] none; turn = start }

-- both choices go the same way: in turn and accepted by the state, in turn and accepted after those heard
both_ways : (pool : ℕ) (ns₁ ns₀ : List Notice) (g₁ g₀ : Agent) (turn : Bool) (m k : ℕ) → m ≡ k →
    (turn ≡ true → k ≡ 0 → Hearing pool ns₁ g₁) → Hearing pool ns₀ g₀ →
    Hearing pool (pick (both turn (eqb k 0)) ns₁ ns₀) (pick (eqb (pick turn m out_of_turn) 0) g₁ g₀)
both_ways pool ns₁ ns₀ g₁ g₀ false m k e taken left = left
both_ways pool ns₁ ns₀ g₁ g₀ true m k e taken left =
    rw e (⊎_elim (λ x. rw x (taken refl (eqb-true k 0 x))) (λ x. rw x left) (decide (eqb k 0)))

-- one more notice
hear_notice : (pool : ℕ) (ns : List Notice) (g : Agent) (n : Notice) → Hearing pool ns g →
    Hearing pool (hearing (lanes_of pool) ns (reading.Whole n)) (noticed g (reading.Whole n))
unfolding notice_answer
hear_notice pool ns g n w =
    rw (ap (λ k. eqb n.sequence (suc k)) w.sequence)
    (both_ways pool (n ∷ ns) ns (notice_next g (reading.Whole n)) g (eqb n.sequence (suc (length ns)))
    (answered g.state (event_of n)) (answer (lanes_of pool) (map event_of ns) (event_of n))
    ((tells_the_story pool (map event_of ns) g.state w.run).every_answer (event_of n))
    (λ turn ok.
    record {
      sequence = eqb-true n.sequence (suc (length ns)) turn;
      run = run_more pool (map event_of ns) g.state w.run (event_of n) ok;
      turn = next (eqb-true n.sequence (suc (length ns)) turn) w.turn;
    })
    w)

-- one more reading
hear : (pool : ℕ) (ns : List Notice) (g : Agent) (r : Reading) → Hearing pool ns g →
    Hearing pool (hearing (lanes_of pool) ns r) (noticed g r)
unfolding notice_answer
hear pool ns g reading.Malformed w = w
hear pool ns g (reading.Whole n) w = hear_notice pool ns g n w

-- after any series of byte strings
pub follows : (pool : ℕ) (bss : List (List ℕ)) → Hearing pool (heard (lanes_of pool) bss) (agent_after pool bss)
unfolding heard agent_after
follows pool [] = fresh_hearing pool
follows pool (bs ∷ bss) = hear pool (heard (lanes_of pool) bss) (agent_after pool bss) (read_of bs) (follows pool bss)

-- the agent's state is the state after the events heard
pub state_heard : (pool : ℕ) (bss : List (List ℕ)) → (agent_after pool bss).state ≡ state_after pool (events_heard pool bss)
state_heard pool bss = run_state pool (events_heard pool bss) (agent_after pool bss).state (follows pool bss).run

-- agents of one pool that heard the same are equal
pub same_heard : (pool : ℕ) (bss css : List (List ℕ)) → heard (lanes_of pool) bss ≡ heard (lanes_of pool) css →
    agent_after pool bss ≡ agent_after pool css
same_heard pool bss css e =
    let b = follows pool bss in
    let c = follows pool css in
    let q : (agent_after pool bss).sequence ≡ (agent_after pool css).sequence = b.sequence ∙ ap length e ∙ sym c.sequence in
    let s : (agent_after pool bss).state ≡ (agent_after pool css).state =
    state_heard pool bss ∙ ap (λ ns. state_after pool (map event_of ns)) e ∙ sym (state_heard pool css) in
    λ i. record { sequence = q i; state = s i }

-- ---- the agent at an earlier moment: some earlier part of the series has just the events up to then

module _ (pool τ : ℕ) (bs : List ℕ) (bss : List (List ℕ)) (w : HeardBy pool bss τ) where
  -- one byte string more that brings no event up to the moment
  nothing_by : up_to τ (events_heard pool (bs ∷ bss)) ≡ up_to τ (events_heard pool bss) → HeardBy pool (bs ∷ bss) τ
  nothing_by same =
      record { later = bs ∷ w.later; earlier = w.earlier; parts = ap (λ x. bs ∷ x) w.parts; events = w.events ∙ sym same }

  -- or an event, which came by then or is later
  one_by : (n : Notice) → heard (lanes_of pool) (bs ∷ bss) ≡ n ∷ heard (lanes_of pool) bss → HeardBy pool (bs ∷ bss) τ
  unfolding up_to
  one_by n is =
      let events = ap (map event_of) is in
      let all = ap (up_to τ) events in
      ⊎_elim
      (λ x. record { later = []; earlier = bs ∷ bss; parts = refl; events = events ∙ sym (rw x at all) })
      (λ x. nothing_by (rw x at all))
      (decide (leb n.time τ))

  reading_by : (r : Reading) → heard (lanes_of pool) (bs ∷ bss) ≡ hearing (lanes_of pool) (heard (lanes_of pool) bss) r →
      HeardBy pool (bs ∷ bss) τ
  reading_by reading.Malformed is = nothing_by (ap (λ ns. up_to τ (map event_of ns)) is)
  reading_by (reading.Whole n) is =
      let ns : List Notice = heard (lanes_of pool) bss in
      ⊎_elim (λ x. one_by n (rw x at is)) (λ x. nothing_by (ap (λ ns. up_to τ (map event_of ns)) (rw x at is)))
      (decide (both (eqb n.sequence (suc (length ns))) (eqb (answer (lanes_of pool) (map event_of ns) (event_of n)) 0)))

pub heard_by : (pool : ℕ) (bss : List (List ℕ)) (τ : ℕ) → HeardBy pool bss τ
unfolding heard up_to
heard_by pool [] τ = record { later = []; earlier = []; parts = refl; events = refl }
heard_by pool (bs ∷ bss) τ = reading_by pool τ bs bss (heard_by pool bss τ) (read_of bs) refl

-- the agent after such a part is in the state that those events leave
pub state_by : (pool : ℕ) (bss : List (List ℕ)) (τ : ℕ) (w : HeardBy pool bss τ) →
    (agent_after pool w.earlier).state ≡ state_after pool (up_to τ (events_heard pool bss))
state_by pool bss τ w = state_heard pool w.earlier ∙ ap (state_after pool) w.events
