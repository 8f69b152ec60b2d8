-- Two events at one moment on titles of different ids, as notices (02, 14). Where both orders are accepted, the agents that are
-- handed them, each numbered from 1 on, are equal, and stay so whatever comes after, and the logs that the head-end keeps tell the
-- same life of every title. An agent that is handed an order which is refused goes no further: to the refused notice it answers 9,
-- and to the one numbered after it 12. Rests on the story's `all_one_later` and on what an agent is that hears a head-end's notices.
use mathlib.Core.Path.{◌≡◌, refl, sym, ap, ◌∙◌}
use mathlib.Core.List.{List, [], ◌∷◌, ◌++◌, map}
use Prim.Native.Nat.{ℕ, suc, ◌^◌, ◌<◌}
use native.Mathlib.Omega.{arith}
use native.Mathlib.Numerals.{add-one}
use lib.Dec.{eqb}
use lib.ListN.{length}
use borrow.Author.Tests.{eq-eqb}
use Rattle.rules.specs.Limits.{both}
use Rattle.rules.specs.Refusals.{no_lanes}
use Rattle.rules.proofs.Tests.{both_in, pick_true}
use Rattle.notice.specs.declared.Notice.{Notice}
use Rattle.notice.specs.declared.Reading.TheVariants as reading
use Rattle.notice.specs.Encode.{bytes_of}
use Rattle.notice.specs.Decode.{read_of}
use Rattle.notice.specs.Log.{is_whole_log}
use Rattle.story.specs.declared.Event.{Event}
use Rattle.story.specs.Story.{life_of, answer, Accepted, more, OneMoment, BothAccepted, WantsLanes, NineAfter}
use Rattle.story.specs.Runs.{answered, state_after, lanes_of, Reached}
use Rattle.story.proofs.Reached.{reached}
use Rattle.story.proofs.OneMoment.{either_after}
use Rattle.story.proofs.Demands.{tells_the_story, orders_that_matter, order_is_all_one}
use Rattle.agent.specs.Turns.{event_of, notice_answer, noticed, Stops}
use Rattle.agent.specs.Series.{agent_after, hearing, heard, events_heard, notice_for, notices_for, sent, log_kept}
use Rattle.agent.specs.Played.{life_in}
use Rattle.notice.proofs.RoundTrip.{written_reads}
use Rattle.agent.proofs.Turns.{in_turn, goes_no_further}
use Rattle.agent.proofs.Order.{follows}
use Rattle.agent.proofs.HeadEnd.{fits, same_event, as_sent, kept_whole, kept_events}

-- either order has as many events
as_many : (new es : List Event) (e f : Event) → length (new ++ f ∷ e ∷ es) ≡ length (new ++ e ∷ f ∷ es)
as_many [] es e f = refl
as_many (d ∷ new) es e f = ap suc (as_many new es e f)

module _ (pool : ℕ) (es : List Event) (acc : Accepted (lanes_of pool) es) (e f : Event) (at : OneMoment e f)
    (one : BothAccepted (lanes_of pool) es e f) (other : BothAccepted (lanes_of pool) es f e)
    (few : suc (suc (length es)) < 2 ^ 32) where
  run : Reached pool es (state_after pool es)
  run = reached pool es acc

  same_state : state_after pool (f ∷ e ∷ es) ≡ state_after pool (e ∷ f ∷ es)
  same_state =
      let both = (orders_that_matter pool es (state_after pool es) run).both_answered in
      (order_is_all_one pool es (state_after pool es) run).all_one_later e f at (both e f one) (both f e other) []

  pub orders_alike : agent_after pool (sent (f ∷ e ∷ es)) ≡ agent_after pool (sent (e ∷ f ∷ es))
  orders_alike =
      as_sent pool (f ∷ e ∷ es) (more (more acc one.first) one.second) few
      ∙ (λ i. record { sequence = suc (suc (length es)); state = same_state i })
      ∙ sym (as_sent pool (e ∷ f ∷ es) (more (more acc other.first) other.second) few)

  -- with more events behind the two, all of them numbered on
  pub logs_alike : (new : List Event) →
      agent_after pool (sent (new ++ f ∷ e ∷ es)) ≡ agent_after pool (sent (new ++ e ∷ f ∷ es))
  unfolding notices_for agent_after
  logs_alike [] = orders_alike
  logs_alike (d ∷ new) =
      ap (λ n. noticed (agent_after pool (sent (new ++ f ∷ e ∷ es))) (read_of (bytes_of (notice_for (suc n) d)))) (as_many new es e f)
      ∙ ap (λ g. noticed g (read_of (bytes_of (notice_for (suc (length (new ++ e ∷ f ∷ es))) d)))) (logs_alike new)

  -- and whatever byte strings come after
  pub orders_stay_alike : (bss : List (List ℕ)) →
      agent_after pool (bss ++ sent (f ∷ e ∷ es)) ≡ agent_after pool (bss ++ sent (e ∷ f ∷ es))
  unfolding agent_after
  orders_stay_alike [] = orders_alike
  orders_stay_alike (bs ∷ bss) = ap (λ g. noticed g (read_of bs)) (orders_stay_alike bss)

-- ---- the logs that a head-end keeps of two sequences that differ in the order alone

module _ (pool : ℕ) (es new : List Event) (e f : Event) (at : OneMoment e f)
    (one : Accepted (lanes_of pool) (new ++ f ∷ e ∷ es)) (other : Accepted (lanes_of pool) (new ++ e ∷ f ∷ es))
    (few : length (new ++ f ∷ e ∷ es) < 2 ^ 32) where
  few_too : length (new ++ e ∷ f ∷ es) < 2 ^ 32
  few_too = rw (as_many new es e f) at few

  -- both are whole, and have the same life of every title: what is told of it by the log is the same
  pub kept_both_whole : is_whole_log (log_kept (new ++ f ∷ e ∷ es)) ≡ is_whole_log (log_kept (new ++ e ∷ f ∷ es))
  kept_both_whole =
      kept_whole (lanes_of pool) (new ++ f ∷ e ∷ es) one few ∙ sym (kept_whole (lanes_of pool) (new ++ e ∷ f ∷ es) other few_too)

  pub kept_lives : (i : ℕ) → life_in pool (log_kept (new ++ f ∷ e ∷ es)) i ≡ life_in pool (log_kept (new ++ e ∷ f ∷ es)) i
  kept_lives i =
      ap (λ fs. life_of fs i) (kept_events pool (new ++ f ∷ e ∷ es) one few)
      ∙ (either_after e f es at new).life i
      ∙ sym (ap (λ fs. life_of fs i) (kept_events pool (new ++ e ∷ f ∷ es) other few_too))

-- ---- the order that is refused, as two numbered notices

-- of any agent that was handed a series
module _ (pool : ℕ) (bss : List (List ℕ)) where
  -- the notice of an event within its limits, numbered next, is answered as the event is after those heard
  next_says : (before : List Event) (e : Event) → answer (lanes_of pool) before e ≡ 0 → (q : ℕ) →
      answered (agent_after pool bss).state (event_of (notice_for q e)) ≡ answer (lanes_of pool) (events_heard pool bss) e
  next_says before e h q =
      ap (answered (agent_after pool bss).state) (same_event (lanes_of pool) before q e h)
      ∙ (tells_the_story pool (events_heard pool bss) (agent_after pool bss).state (follows pool bss).run).every_answer e

  -- its bytes read as that notice
  reads_next : (before : List Event) (e : Event) → answer (lanes_of pool) before e ≡ 0 → (q : ℕ) → q < 2 ^ 32 →
      read_of (bytes_of (notice_for q e)) ≡ reading.Whole (notice_for q e)
  reads_next before e h q small = written_reads (notice_for q e) (fits (lanes_of pool) before e q small h)

  -- an event that is accepted after those heard, numbered next, is heard too
  heard_more : (e : Event) → answer (lanes_of pool) (events_heard pool bss) e ≡ 0 → (q : ℕ) →
      q ≡ suc (agent_after pool bss).sequence → q < 2 ^ 32 →
      heard (lanes_of pool) (bytes_of (notice_for q e) ∷ bss) ≡ notice_for q e ∷ heard (lanes_of pool) bss
  unfolding heard
  heard_more e h q next small =
      let n : Notice = notice_for q e in
      let ns : List Notice = heard (lanes_of pool) bss in
      let turn : q ≡ suc (length ns) = next ∙ ap suc (follows pool bss).sequence in
      let done : answer (lanes_of pool) (map event_of ns) (event_of n) ≡ 0 =
      ap (answer (lanes_of pool) (map event_of ns)) (same_event (lanes_of pool) (events_heard pool bss) q e h) ∙ h in
      ap (hearing (lanes_of pool) ns) (reads_next (events_heard pool bss) e h q small)
      ∙ pick_true (both (eqb q (suc (length ns))) (eqb (answer (lanes_of pool) (map event_of ns) (event_of n)) 0)) (n ∷ ns) ns
      (both_in (eqb q (suc (length ns))) (eqb (answer (lanes_of pool) (map event_of ns) (event_of n)) 0)
      (eq-eqb q (suc (length ns)) turn) (eq-eqb (answer (lanes_of pool) (map event_of ns) (event_of n)) 0 done))

-- of an agent that was handed any series, and waits for sequence q
module _ (pool : ℕ) (bss : List (List ℕ)) (q : ℕ) (waits : q ≡ suc (agent_after pool bss).sequence) (few : suc q < 2 ^ 32) where
  -- where e and then f would be accepted, and the other order wants lanes for f: handed f and then e, the agent answers 9 and then
  -- 12, and stays as it was
  pub refused_order : (e f : Event) → BothAccepted (lanes_of pool) (events_heard pool bss) e f →
      WantsLanes (lanes_of pool) (events_heard pool bss) e f →
      Stops (agent_after pool bss) (read_of (bytes_of (notice_for q f))) (read_of (bytes_of (notice_for (suc q) e))) no_lanes
  refused_order e f both w =
      let es : List Event = events_heard pool bss in
      rw (reads_next pool bss (e ∷ es) f both.second q (omega arith), reads_next pool bss es e both.first (suc q) few)
      (goes_no_further (agent_after pool bss) (notice_for q f) (notice_for (suc q) e) no_lanes waits refl
      (next_says pool bss (e ∷ es) f both.second q ∙ w.nine) (λ z. omega (arith, z)))

  -- where there is room for one of the two: handed e and then f, the agent answers 0 and then 9, and 12 to whatever is numbered on
  pub second_refused : (e f : Event) → answer (lanes_of pool) (events_heard pool bss) f ≡ 0 →
      NineAfter (lanes_of pool) (events_heard pool bss) e f →
      (notice_answer (agent_after pool bss) (read_of (bytes_of (notice_for q e))) ≡ 0)
      × ((n : Notice) → n.sequence ≡ suc (suc q) →
      Stops (agent_after pool (bytes_of (notice_for q e) ∷ bss)) (read_of (bytes_of (notice_for (suc q) f))) (reading.Whole n) no_lanes)
  second_refused e f alone w =
      let es : List Event = events_heard pool bss in
      let css : List (List ℕ) = bytes_of (notice_for q e) ∷ bss in
      let hears : heard (lanes_of pool) css ≡ notice_for q e ∷ heard (lanes_of pool) bss = heard_more pool bss e w.first q waits (omega arith) in
      let events : events_heard pool css ≡ e ∷ es =
      ap (map event_of) hears ∙ ap (λ d. d ∷ es) (same_event (lanes_of pool) es q e w.first) in
      let counts : (agent_after pool css).sequence ≡ q =
      (follows pool css).sequence ∙ ap length hears ∙ sym (waits ∙ ap suc (follows pool bss).sequence) in (
        rw (reads_next pool bss es e w.first q (omega arith))
            (in_turn (agent_after pool bss) (notice_for q e) (waits ∙ sym (add-one (agent_after pool bss).sequence))
            ∙ next_says pool bss es e w.first q ∙ w.first),
        λ n turn.
            rw (reads_next pool bss es f alone (suc q) few)
            (goes_no_further (agent_after pool css) (notice_for (suc q) f) n no_lanes (ap suc (sym counts)) turn
            (next_says pool css es f alone (suc q) ∙ ap (λ fs. answer (lanes_of pool) fs f) events ∙ w.nine) (λ z. omega (arith, z))),
      )
