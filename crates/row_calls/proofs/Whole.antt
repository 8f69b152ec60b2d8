-- The agent of the row that a call leaves is the agent that the call leaves: titles keep the lengths of their rows through every event.
-- Rests on `packed` and `unpacked` being each other's inverse, and on what an accepted event has passed.
use mathlib.Core.Path.{◌≡◌, refl, ap, ◌∙◌}
use mathlib.Core.Bool.{Bool, true, false}
use mathlib.Core.Logic.{⊎_elim}
use mathlib.Core.List.{List}
use Prim.Native.Nat.{ℕ, zero, suc, ◌≤◌}
use native.Mathlib.Omega.{arith}
use lib.Dec.{leb, ltb, eqb}
use lib.ListN.{length, set, length-set, length-replicate, get_or-replicate}
use borrow.Author.Tests.{eqb-true, eqb-false}
use Rattle.rules.specs.Limits.{both, within, pool_min, pool_max, id_max, titles_max}
use Rattle.rules.specs.Refusals.{pick, out_of_turn}
use Rattle.rules.proofs.Tests.{decide}
use Rattle.notice.specs.declared.Reading.{Reading}
use Rattle.notice.specs.declared.Reading.TheVariants as reading
use Rattle.story.specs.declared.Title.{Title}
use Rattle.story.specs.declared.Act.{Act}
use Rattle.story.specs.declared.Act.TheVariants.{Opens, Changes, Closes, Doors}
use Rattle.story.specs.declared.Event.{Event}
use Rattle.story.specs.Kept.{no_title, title_at, tick_at, is_shut, kept_within}
use Rattle.story.specs.Story.{event}
use Rattle.story.specs.Life.{reach}
use Rattle.story.specs.Next.{ended, drop_lane, drop_lanes, changed_title, closed_title, doors_title, next_title, call_next}
use Rattle.story.specs.Calls.{blank_title, call_answer}
use Rattle.story.specs.Runs.{answered, called}
use Rattle.owed.proofs.Fixed.{stored}
use Rattle.verdicts.specs.Before.{first_answer}
use Rattle.verdicts.proofs.Event.{taken_event, event_id}
use Rattle.agent.specs.declared.Agent.{Agent}
use Rattle.agent.specs.Turns.{act_of, event_of, fresh_agent, notice_answer, noticed}
use Rattle.agent_rows.specs.Layout.{row_length}
use Rattle.agent_rows.specs.Packed.{unpacked, row_sound, with_state, WholeTitle, WholeAgent}
use Rattle.agent_rows.proofs.Inverse.{unpacked_packed, whole_unpacked}
use Rattle.row_calls.specs.Answers.{row_after_event, row_after_notice, row_after_fresh}
use Rattle.row_calls.proofs.Rows.{by_first}
use Rattle.row_calls.proofs.Started.{fresh_left}
use Rattle.row_calls.proofs.Follows.{noticed_as_agent, called_as_agent}

-- ---- a title

picked_length : (b : Bool) (xs : List ℕ) (i n : ℕ) → length (pick b xs (set xs i n)) ≡ length xs
picked_length true xs i n = refl
picked_length false xs i n = length-set xs i n

whole_ended : (t : Title) (n : ℕ) → WholeTitle t → WholeTitle (ended t n)
whole_ended t n w = record { ends = picked_length (is_shut t) t.ends t.count n ∙ w.ends; dropped = w.dropped; owed = w.owed }

whole_drop : (t : Title) (n l : ℕ) → WholeTitle t → WholeTitle (drop_lane t n l)
whole_drop t n l w =
    record {
      ends = w.ends;
      dropped = length-set t.dropped l n ∙ w.dropped;
      owed = length-set t.owed l (kept_within t l n (reach t.film.cap)) ∙ w.owed;
    }

whole_pick : (b : Bool) (x y : Title) → WholeTitle x → WholeTitle y → WholeTitle (pick b x y)
whole_pick true x y w v = w
whole_pick false x y w v = v

whole_drops : (t : Title) (n k i : ℕ) → WholeTitle t → WholeTitle (drop_lanes t n k i)
unfolding drop_lanes
whole_drops t n k zero w = w
whole_drops t n k (suc i) w =
    whole_pick (both (leb k i) (ltb i t.count)) (drop_lane (drop_lanes t n k i) n i) (drop_lanes t n k i)
    (whole_drop (drop_lanes t n k i) n i (whole_drops t n k i w)) (whole_drops t n k i w)

whole_next : (t : Title) (τ : ℕ) (a : Act) → WholeTitle t → WholeTitle (next_title t τ a)
unfolding changed_title closed_title doors_title
whole_next t τ (Opens f k) w = record { ends = refl; dropped = refl; owed = refl }
whole_next t τ (Changes k) w =
    let d = whole_drops (ended t (tick_at t τ)) (tick_at t τ) k t.count (whole_ended t (tick_at t τ) w) in
    record { ends = d.ends; dropped = d.dropped; owed = d.owed }
whole_next t τ Closes w =
    let d = whole_drops (ended t (tick_at t τ)) (tick_at t τ) 0 t.count (whole_ended t (tick_at t τ) w) in
    record { ends = d.ends; dropped = d.dropped; owed = d.owed }
whole_next t τ (Doors b) w =
    let d = whole_ended t (tick_at t τ) w in record { ends = d.ends; dropped = d.dropped; owed = d.owed }

-- ---- an agent

pub whole_fresh : (pool : ℕ) → WholeAgent (fresh_agent pool)
whole_fresh pool =
    record {
      titles = length-replicate titles_max blank_title;
      each = λ i l. rw (get_or-replicate titles_max i blank_title no_title l) (record { ends = refl; dropped = refl; owed = refl });
    }

-- an accepted event names an id
taken_id : (g : Agent) (i τ : ℕ) (a : Act) → call_answer g.state i τ a ≡ 0 → i ≤ id_max
taken_id g i τ a none = event_id g.state i τ (taken_event g.state i τ a first)
  where
    first : first_answer g.state (event i τ a) ≡ 0
    first =
        ⊎_elim (λ z. eqb-true (first_answer g.state (event i τ a)) 0 z)
        (λ no. by_first g.state i τ a (first_answer g.state (event i τ a)) refl (eqb-false (first_answer g.state (event i τ a)) 0 no) ∙ none)
        (decide (eqb (first_answer g.state (event i τ a)) 0))

whole_after : (g : Agent) (n i τ : ℕ) (a : Act) → WholeAgent g → call_answer g.state i τ a ≡ 0 →
    WholeAgent (record { sequence = n; state = call_next g.state i τ a })
whole_after g n i τ a w none =
    let low : i ≤ id_max = taken_id g i τ a none in
    let next : WholeTitle (next_title (title_at g.state i) τ a) = whole_next (title_at g.state i) τ a (w.each i (omega arith)) in
    record {
      titles = length-set g.state.titles i (next_title (title_at g.state i) τ a) ∙ w.titles;
      each = λ j l. stored WholeTitle g.state.titles i j (next_title (title_at g.state i) τ a) no_title next (w.each j l);
    }

whole_called : (g : Agent) (e : Event) → WholeAgent g → WholeAgent (with_state g (called g.state e))
whole_called g e w =
    ⊎_elim (λ z. rw z (whole_after g g.sequence e.title e.time e.act w (eqb-true (answered g.state e) 0 z))) (λ no. rw no w)
    (decide (eqb (answered g.state e) 0))

picked_zero : (b : Bool) (x : ℕ) → pick b x out_of_turn ≡ 0 → x ≡ 0
picked_zero true x none = none
picked_zero false x none = absurd (omega arith)

pub whole_noticed : (g : Agent) (q : Reading) → WholeAgent g → WholeAgent (noticed g q)
unfolding notice_answer
whole_noticed g (reading.Whole n) w =
    ⊎_elim
    (λ z.
    rw z
    (whole_after g n.sequence n.title n.time (act_of n.kind) w
    (picked_zero (eqb n.sequence (suc g.sequence)) (answered g.state (event_of n)) (eqb-true (notice_answer g (reading.Whole n)) 0 z))))
    (λ no. rw no w) (decide (eqb (notice_answer g (reading.Whole n)) 0))
whole_noticed g reading.Malformed w = w

-- ---- a row

module _ (r : List ℕ) (long : length r ≡ row_length) (sound : row_sound r ≡ true) where
  pub agent_after_notice : (q : Reading) → unpacked (row_after_notice r q) ≡ noticed (unpacked r) q
  agent_after_notice q =
      ap unpacked (noticed_as_agent r long sound q).1
      ∙ unpacked_packed (noticed (unpacked r) q) (whole_noticed (unpacked r) q (whole_unpacked r long))

  pub agent_after_event : (e : Event) → unpacked (row_after_event r e) ≡ with_state (unpacked r) (called (unpacked r).state e)
  agent_after_event e =
      ap unpacked (called_as_agent r long sound e).1
      ∙ unpacked_packed (with_state (unpacked r) (called (unpacked r).state e)) (whole_called (unpacked r) e (whole_unpacked r long))

-- a row that a fresh agent of a pool was laid into is that agent's
pub agent_after_fresh : (r : List ℕ) (pool : ℕ) → length r ≡ row_length → within pool_min pool_max pool ≡ true →
    unpacked (row_after_fresh r pool) ≡ fresh_agent pool
agent_after_fresh r pool long fits =
    ap unpacked (fresh_left r pool long fits) ∙ unpacked_packed (fresh_agent pool) (whole_fresh pool)
