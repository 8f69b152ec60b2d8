-- After a kill at any moment: whatever is left of a head-end's journal and sums, the next start goes on as the head-end was after its first
-- events, as many as are whole and have their sums.
-- Rests on what a head-end keeps, and on the start after a kill needing no help.
use mathlib.Core.Path.{◌≡◌, refl, sym, ap, ◌∙◌}
use mathlib.Core.Bool.{true}
use mathlib.Core.List.{List, [], ◌∷◌, map}
use Prim.Native.Nat.{ℕ, zero, suc, ◌+◌, ◌-◌, ◌≤◌, ◌<◌, ◌^◌}
use native.Mathlib.Nat.{add-zero, add-suc}
use native.Mathlib.Omega.{arith}
use lib.ListN.{length, take, drop, length-drop}
use lib.Seq.{length-take-le}
use Rattle.notice.specs.declared.Notice.{Notice}
use Rattle.notice.specs.declared.Found.{Found}
use Rattle.notice.specs.declared.Found.TheVariants as found
use Rattle.notice.specs.Encode.{bytes_of}
use Rattle.notice.specs.Decode.{read_at}
use Rattle.notice.specs.Log.{place_to, is_notice, with_found, notices_to}
use Rattle.notice.proofs.CaseSplits.{by_order, false_true}
use Rattle.story.specs.declared.Event.{Event}
use Rattle.story.specs.Story.{Accepted, more}
use Rattle.story.specs.Runs.{lanes_of, state_after}
use Rattle.agent.specs.declared.Agent.{Agent}
use Rattle.agent.specs.Turns.{fresh_agent}
use Rattle.agent.specs.Series.{agent_after, notices_for, log_kept}
use Rattle.agent.specs.Played.{agent_told}
use Rattle.agent.proofs.Played.{log_series, told_series}
use Rattle.agent.proofs.HeadEnd.{kept_notices, as_sent}
use Rattle.journals.specs.Start.{Stage, journal_start}
use Rattle.journals.specs.Outcome.{Heeded}
use Rattle.journals.specs.Summing.{sums_to}
use Rattle.journals.specs.Restart.{LeftOf, GoesOn}
use Rattle.journals.proofs.Outcomes.{outcome}
use Rattle.journals.proofs.Restarts.{same_reads, goes_on}
use Rattle.journals.proofs.HeadEndKeeps.{grows, before_end, numbered_for, kept_with}

-- ---- the first notices of a log, which are the last of its notices, newest first

first_notices : (j : List ℕ) (k e : ℕ) → drop (length (notices_to j (k + e)) - length (notices_to j k)) (notices_to j (k + e)) ≡ notices_to j k
unfolding notices_to
first_notices j k zero =
    let none : length (notices_to j k) - length (notices_to j k) ≡ 0 = omega arith in
    rw (add-zero k, none)
first_notices j k (suc e) = rw (add-suc k e) (go (read_at j (place_to j (k + e))) (first_notices j k e))
  where
    go : (f : Found) → drop (length (notices_to j (k + e)) - length (notices_to j k)) (notices_to j (k + e)) ≡ notices_to j k
        → drop (length (with_found f (notices_to j (k + e))) - length (notices_to j k)) (with_found f (notices_to j (k + e))) ≡ notices_to j k
    go (found.At n e') before =
        let one : suc (length (notices_to j (k + e))) - length (notices_to j k) ≡ suc (length (notices_to j (k + e)) - length (notices_to j k)) =
        omega (arith, grows j k e) in
        rw one before
    go found.End before = before
    go found.Malformed before = before

length_all : (j : List ℕ) (k : ℕ) → ((i : ℕ) → i < k → is_notice (read_at j (place_to j i)) ≡ true) → length (notices_to j k) ≡ k
unfolding notices_to
length_all j zero whole = refl
length_all j (suc k) whole = go (read_at j (place_to j k)) (whole k (omega arith)) (length_all j k (λ i lt. whole i (omega arith)))
  where
    go : (f : Found) → is_notice f ≡ true → length (notices_to j k) ≡ k → length (with_found f (notices_to j k)) ≡ suc k
    go (found.At n e) good before = ap suc before
    go found.End good before = false_true good
    go found.Malformed good before = false_true good

-- those of events are those of the events
first_events : (d : ℕ) (es : List Event) → drop d (notices_for es) ≡ notices_for (drop d es)
unfolding notices_for
first_events zero es = refl
first_events (suc d) [] = refl
first_events (suc d) (e ∷ es) = first_events d es

first_accepted_lem : (lanes d : ℕ) (es : List Event) → Accepted lanes es → Accepted lanes (drop d es)
first_accepted_lem lanes zero es acc = acc
first_accepted_lem lanes (suc d) [] acc = acc
first_accepted_lem lanes (suc d) (e ∷ es) (more acc h) = first_accepted_lem lanes d es acc

-- ---- the theorem

module _ (pool : ℕ) (es : List Event) (acc : Accepted (lanes_of pool) es) (few : length es < 2 ^ 32) (c m : ℕ)
    (left : LeftOf (log_kept es) (sums_to (log_kept es) (length es)) c m) where
  abbrev log : List ℕ
  log = log_kept es

  abbrev x : Stage Agent
  x = journal_start pool (take c log) true (take m (sums_to log (length es)))

  pub after_kill : GoesOn (take c log) (take m (sums_to log (length es))) x
  after_kill = goes_on pool log (sums_to log (length es)) c m (kept_with pool es acc few) left

  -- the first events of the head-end, newest first
  abbrev firsts : List Event
  firsts = drop (length es - x.start.heard) es

  heeded : Heeded pool (take c log) (take m (sums_to log (length es))) x
  heeded = (outcome pool (take c log) true (take m (sums_to log (length es)))).heeded

  each_whole : (i : ℕ) → i < x.start.heard → is_notice (read_at (take c log) (place_to (take c log) i)) ≡ true
  each_whole i lt = heeded.whole i (omega arith)

  same_notices : notices_to (take c log) x.start.heard ≡ notices_to log x.start.heard
  same_notices = (same_reads log c left.journal_to x.start.heard each_whole).1

  -- no notice is empty
  low : x.start.heard ≤ length log
  low =
      by_order (length log) x.start.heard
      (λ more.
      let inside = before_end (take c log) (length log) (each_whole (length log) more) in
      absurd (omega (arith, inside, length-take-le c log left.journal_to, left.journal_to)))
      (λ le. le)

  heard_notices : notices_to log x.start.heard ≡ notices_for firsts
  heard_notices =
      let rest : x.start.heard + (length log - x.start.heard) ≡ length log = omega (arith, low) in
      let count : length (notices_to log x.start.heard) ≡ x.start.heard =
      ap length (sym same_notices) ∙ length_all (take c log) x.start.heard each_whole in
      let firstly = rw (rest, kept_notices (lanes_of pool) es acc few, numbered_for es, count)
      at (first_notices log x.start.heard (length log - x.start.heard)) in
      sym firstly ∙ first_events (length es - x.start.heard) es

  pub as_it_was : x.hearer ≡ record { sequence = x.start.heard; state = state_after pool firsts }
  as_it_was =
      let kept = kept_with pool es acc few in
      let fewer : length firsts < 2 ^ 32 = rw (length-drop (length es - x.start.heard) es) (omega (arith, few)) in
      let told : agent_told (fresh_agent pool) (notices_to log x.start.heard) ≡ agent_after pool (map bytes_of (notices_to log x.start.heard)) =
      told_series pool _ _ (log_series log kept.bytes x.start.heard) in
      let is : x.hearer ≡ record { sequence = length firsts; state = state_after pool firsts } =
      heeded.agent_is
      ∙ (ap (agent_told (fresh_agent pool)) same_notices
      ∙ (told ∙ (ap (λ (ns : List Notice). agent_after pool (map bytes_of ns)) heard_notices
      ∙ as_sent pool firsts (first_accepted_lem (lanes_of pool) (length es - x.start.heard) es acc) fewer))) in
      let count : length firsts ≡ x.start.heard = sym (ap (λ (g : Agent). g.sequence) is) ∙ heeded.in_turn in
      is ∙ ap (λ (q : ℕ). record { sequence = q; state = state_after pool firsts }) count
