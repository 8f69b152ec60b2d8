-- What a start's verdict says of the files, shown step by step: the page specs/Outcome.
-- Rests on the definitions, on steps going on, and on a cut log having just the notices before the cut.
use mathlib.Core.Path.{◌≡◌, refl, sym, ap, ◌∙◌}
use mathlib.Core.Bool.{Bool, true, false, not}
use mathlib.Core.Logic.{inl, inr, ⊎_elim}
use mathlib.Core.List.{List, ◌∷◌}
use Prim.Native.Nat.{ℕ, zero, suc, ◌+◌, ◌-◌, ◌/◌, ◌≤◌, ◌<◌}
use native.Mathlib.Numerals.{add-one}
use native.Mathlib.Omega.{arith}
use lib.Dec.{eqb, ltb}
use lib.ListN.{length, drop}
use borrow.Author.Tests.{lt-ltb, le-ltb, eq-eqb, ne_eqb, eqb-true, eqb-false, ltb-true}
use Rattle.rules.specs.Limits.{both}
use Rattle.rules.specs.Refusals.{pick, out_of_turn}
use Rattle.rules.proofs.Tests.{both_l, both_r, decide}
use Rattle.sums.specs.Crc.{sum_of}
use Rattle.notice.specs.declared.Notice.{Notice}
use Rattle.notice.specs.declared.Reading.TheVariants as reading
use Rattle.notice.specs.declared.Found.{Found}
use Rattle.notice.specs.declared.Found.TheVariants as found
use Rattle.notice.specs.Decode.{read_at, place_after}
use Rattle.notice.specs.Log.{place_to, is_notice, with_found, notices_to}
use Rattle.notice.proofs.CaseSplits.{by_order, false_true}
use Rattle.notice.proofs.NoticePlaces.{inside, ended}
use Rattle.story.specs.Runs.{answered}
use Rattle.agent.specs.declared.Agent.{Agent}
use Rattle.agent.specs.Turns.{event_of, fresh_agent, notice_answer, noticed}
use Rattle.agent.specs.Played.{agent_told}
use Rattle.journals.specs.declared.Start.{Start}
use Rattle.journals.specs.declared.Verdict.{Verdict}
use Rattle.journals.specs.declared.Verdict.TheVariants.{Hearing, Heard, Torn, NoNotice, SumDiffers, Refused, SumsShort, SumsMissing}
use Rattle.journals.specs.Torn.{is_torn, had_kind}
use Rattle.journals.specs.Start.{sum_bytes, block_events, is_going, started_with, begun_with, ended_with, heard_one, passed_one, has_sum, after_summed, after_unsummed}
use Rattle.journals.specs.Start.{at_stop, agent_hears, Stage, stage, view, sum_at, is_ready, part_of, notice_done, done_at, step_in, steps_in, journal_start}
use Rattle.journals.specs.Outcome.{notice_bytes, Heeded, Says, Outcome}
use Rattle.journals.proofs.StartSteps.{Counted, Along, set_out, ready_goes, steps_along, ends}
use Rattle.journals.proofs.WholeFiles.{whole_ready}
use Rattle.journals.proofs.Cutting as cutting

not_true : (b : Bool) → not b ≡ true → b ≡ false
not_true true e = false_true e
not_true false e = refl

-- what is said of a stage
abbrev Told : ℕ → List ℕ → Bool → List ℕ → Stage Agent → Type 0
Told pool j there s x = Heeded pool j s x × Says j there s x x.start.verdict

module _ (pool : ℕ) (j : List ℕ) (there : Bool) (s : List ℕ) where
  -- ---- a start that ends

  still_heeded : (x : Stage Agent) (v : Verdict) → Heeded pool j s x → Heeded pool j s (stage (ended_with x.start v) x.hearer)
  still_heeded x v w =
      record {
        whole = w.whole;
        place_is = w.place_is;
        cut_is = w.cut_is;
        sums_fit = w.sums_fit;
        agent_is = w.agent_is;
        in_turn = w.in_turn;
        unsummed = w.unsummed;
        few = w.few;
        sums_are = w.sums_are;
      }

  -- ---- a start that goes on

  module _ (x : Stage Agent) (w : Heeded pool j s x) (going : is_going x.start.verdict ≡ true) (n : Notice) (e : ℕ)
      (is : read_at j x.start.place ≡ found.At n e) where
    abbrev g : Agent
    g = x.hearer

    abbrev p : ℕ
    p = x.start.place

    here : read_at j (place_to j (x.start.heard + x.start.behind)) ≡ found.At n e
    here = ap (read_at j) (sym w.place_is) ∙ is

    end_is : p + (e - p) ≡ e
    end_is = omega (arith, (inside j p n e is).ahead)

    next_place : place_to j (suc (x.start.heard + x.start.behind)) ≡ e
    unfolding place_to
    next_place = ap (λ f. place_after f (place_to j (x.start.heard + x.start.behind))) here

    -- one whole notice more
    one_more : (m i : ℕ) → m ≡ suc (x.start.heard + x.start.behind) → i < m → is_notice (read_at j (place_to j i)) ≡ true
    one_more m i size lt =
        by_order i (x.start.heard + x.start.behind) (λ low. w.whole i low)
        (λ high. let at : i ≡ x.start.heard + x.start.behind = omega (arith, size, lt, high) in rw at (ap is_notice here))

    goes_on : (v : Verdict) → is_going v ≡ true → (y : Stage Agent) → Says j there s y v
    goes_on Hearing h y = tt
    goes_on Heard h y = false_true h
    goes_on Torn h y = false_true h
    goes_on NoNotice h y = false_true h
    goes_on SumDiffers h y = false_true h
    goes_on (Refused a) h y = false_true h
    goes_on SumsShort h y = false_true h
    goes_on SumsMissing h y = false_true h

    -- ---- behind the last sum

    passed : x.start.sums ≤ x.start.heard → x.start.behind < block_events
        → Told pool j there s (stage (passed_one x.start (e - p)) g)
    passed none low =
        let count : x.start.heard + (x.start.behind + 1) ≡ suc (x.start.heard + x.start.behind) = omega arith in (
          record {
            whole = λ i lt. one_more (x.start.heard + (x.start.behind + 1)) i count lt;
            place_is = rw (count, end_is, next_place);
            cut_is = w.cut_is;
            sums_fit = w.sums_fit;
            agent_is = w.agent_is;
            in_turn = w.in_turn;
            unsummed = λ _. none;
            few = omega (arith, low);
            sums_are = w.sums_are;
          },
          goes_on x.start.verdict going (stage (passed_one x.start (e - p)) g),
        )

    short : x.start.sums ≤ x.start.heard → block_events ≤ x.start.behind
        → Told pool j there s (stage (ended_with x.start SumsShort) g)
    short none full = (still_heeded x SumsShort w, (none, (omega (arith, full, w.few), ap is_notice is)))

    -- ---- with a sum

    module _ (has : x.start.heard < x.start.sums) where
      -- then none is behind the last sum
      none_behind : x.start.behind ≡ 0
      none_behind = by_order 0 x.start.behind (λ some. absurd (omega (arith, w.unsummed some, has))) (λ none. omega arith)

      all_heard : x.start.heard + x.start.behind ≡ x.start.heard
      all_heard = omega (arith, none_behind)

      bytes_here : notice_bytes j x.start.heard ≡ part_of j p e
      bytes_here =
          let at : place_to j x.start.heard ≡ p = rw all_heard at (sym w.place_is) in
          let to : place_to j (suc x.start.heard) ≡ e = rw all_heard at next_place in
          rw (at, to)

      notices_here : notices_to j (suc x.start.heard) ≡ n ∷ notices_to j x.start.heard
      unfolding notices_to
      notices_here =
          let at : read_at j (place_to j x.start.heard) ≡ found.At n e = rw all_heard at here in
          ap (λ f. with_found f (notices_to j x.start.heard)) at

      taken_turn : notice_answer g (reading.Whole n) ≡ 0 → n.sequence ≡ suc g.sequence
      unfolding notice_answer
      taken_turn taken = go (eqb n.sequence (suc g.sequence)) refl taken
        where
          go : (b : Bool) → eqb n.sequence (suc g.sequence) ≡ b → pick b (answered g.state (event_of n)) out_of_turn ≡ 0
              → n.sequence ≡ suc g.sequence
          go true same taken = eqb-true _ _ same
          go false other taken = absurd (omega (arith, taken))

      played : sum_of (part_of j p e) ≡ sum_at s x.start.heard → notice_answer g (reading.Whole n) ≡ 0
          → Told pool j there s (stage (heard_one x.start (e - p)) (noticed g (reading.Whole n)))
      unfolding agent_told
      played same taken =
          let count : x.start.heard + 1 + x.start.behind ≡ suc (x.start.heard + x.start.behind) = omega arith in
          let to : place_to j (suc x.start.heard) ≡ e = rw all_heard at next_place in (
            record {
              whole = λ i lt. one_more (x.start.heard + 1 + x.start.behind) i count lt;
              place_is = rw (count, end_is, next_place);
              cut_is = rw (end_is, add-one, to);
              sums_fit = λ i lt.
                  by_order i x.start.heard (λ low. w.sums_fit i low)
                  (λ high. let at : i ≡ x.start.heard = omega (arith, lt, high) in rw (at, bytes_here) same);
              agent_is = rw (add-one, notices_here) (ap (λ (k : Agent). noticed k (reading.Whole n)) w.agent_is);
              in_turn = rw (eq-eqb (notice_answer g (reading.Whole n)) 0 taken) (taken_turn taken ∙ (ap suc w.in_turn ∙ sym (add-one x.start.heard)));
              unsummed = λ some. absurd (omega (arith, some, none_behind));
              few = w.few;
              sums_are = w.sums_are;
            },
            goes_on x.start.verdict going (stage (heard_one x.start (e - p)) (noticed g (reading.Whole n))),
          )

      refused : sum_of (part_of j p e) ≡ sum_at s x.start.heard → (notice_answer g (reading.Whole n) ≡ 0 → ⊥)
          → Told pool j there s (stage (ended_with x.start (Refused (notice_answer g (reading.Whole n)))) (noticed g (reading.Whole n)))
      refused same no_zero =
          rw (ne_eqb (notice_answer g (reading.Whole n)) 0 no_zero)
          (still_heeded x (Refused (notice_answer g (reading.Whole n))) w, (has, record { notice = n; end = e; is = is; holds = (same, (refl, no_zero)) }))

      differs : (sum_of (part_of j p e) ≡ sum_at s x.start.heard → ⊥) → Told pool j there s (stage (ended_with x.start SumDiffers) g)
      differs other =
          (still_heeded x SumDiffers w, (has, inl (record { notice = n; end = e; is = is; holds = other })))

    notice_told : Told pool j there s (notice_done agent_hears (e - p) (eqb (sum_of (part_of j p e)) (sum_at s x.start.heard)) x (reading.Whole n))
    unfolding notice_done after_summed after_unsummed
    notice_told =
        by_order x.start.heard x.start.sums
        (λ has. rw (lt-ltb _ _ has) (with_sum has))
        (λ none.
        rw (le-ltb _ _ none)
        (by_order x.start.behind block_events (λ low. rw (lt-ltb _ _ low) (passed none low)) (λ full. rw (le-ltb _ _ full) (short none full))))
      where
        with_sum : x.start.heard < x.start.sums → Told pool j there s
            (stage
            (after_summed x.start (e - p) (eqb (sum_of (part_of j p e)) (sum_at s x.start.heard)) (notice_answer g (reading.Whole n)))
            (pick (eqb (sum_of (part_of j p e)) (sum_at s x.start.heard)) (noticed g (reading.Whole n)) g))
        with_sum has =
            ⊎_elim
            (λ same.
            rw same
            (⊎_elim
            (λ zero. rw zero (rw zero at (played has (eqb-true _ _ same) (eqb-true _ _ zero))))
            (λ some. rw some (rw some at (refused has (eqb-true _ _ same) (eqb-false _ _ some))))
            (decide (eqb (notice_answer g (reading.Whole n)) 0))))
            (λ other. rw other (differs has (eqb-false _ _ other)))
            (decide (eqb (sum_of (part_of j p e)) (sum_at s x.start.heard)))

  -- ---- bytes that are no whole notice

  stop_told : (x : Stage Agent) → Heeded pool j s x → read_at j x.start.place ≡ found.Malformed
      → Told pool j there s (stage (ended_with x.start (at_stop x.start (drop x.start.place j) (sum_at s x.start.heard))) x.hearer)
  unfolding at_stop
  stop_told x w is =
      ⊎_elim
      (λ torn.
      rw torn
      (⊎_elim
      (λ had. rw had
      (still_heeded x SumDiffers w, (ltb-true _ _ (both_l (has_sum x.start) _ had), inr (both_r (has_sum x.start) _ had))))
      (λ none. rw none (still_heeded x Torn w, (is, torn)))
      (decide (both (has_sum x.start) (had_kind (drop x.start.place j) (sum_at s x.start.heard))))))
      (λ whole. rw whole (still_heeded x NoNotice w, (is, whole)))
      (decide (is_torn (drop x.start.place j)))

  -- ---- steps over the whole files

  step_told : (x : Stage Agent) → Heeded pool j s x → is_going x.start.verdict ≡ true
      → Told pool j there s (step_in agent_hears (view j s 0 0 true) x)
  unfolding done_at
  step_told x w going =
      let place : x.start.place - 0 ≡ x.start.place = omega arith in
      let heard : x.start.heard - 0 ≡ x.start.heard = omega arith in
      rw (place, heard) (go (read_at j x.start.place) refl)
    where
      go : (f : Found) → read_at j x.start.place ≡ f
          → Told pool j there s (done_at agent_hears j (sum_at s x.start.heard) x x.start.place f)
      go (found.At n e) is = notice_told x w going n e is
      go found.End is = (still_heeded x Heard w, ended j x.start.place is)
      go found.Malformed is = stop_told x w is

  abbrev pub first : Stage Agent
  first = stage (begun_with (length j) there (length s)) (fresh_agent pool)

  begun_told : Told pool j there s first
  unfolding place_to notices_to agent_told
  begun_told = go (both (ltb 0 (length j)) (not there)) refl
    where
      none : (v : Verdict) → Heeded pool j s (stage (started_with (length s / sum_bytes) v) (fresh_agent pool))
      none v =
          record {
            whole = λ i lt. absurd (omega arith);
            place_is = refl;
            cut_is = refl;
            sums_fit = λ i lt. absurd (omega arith);
            agent_is = refl;
            in_turn = refl;
            unsummed = λ some. absurd (omega arith);
            few = omega arith;
            sums_are = refl;
          }

      go : (b : Bool) → both (ltb 0 (length j)) (not there) ≡ b
          → Told pool j there s
          (stage (pick b (started_with (length s / sum_bytes) SumsMissing) (started_with (length s / sum_bytes) Hearing)) (fresh_agent pool))
      go true missing = (none SumsMissing, (ltb-true _ _ (both_l (ltb 0 (length j)) _ missing), not_true there (both_r (ltb 0 (length j)) _ missing)))
      go false there_is = (none Hearing, tt)

  steps_told : (n : ℕ) → Told pool j there s (steps_in agent_hears (view j s 0 0 true) first n)
  unfolding steps_in
  steps_told zero = begun_told
  steps_told (suc n) = go (steps_in agent_hears (view j s 0 0 true) first n) (steps_told n) (is_ready (view j s 0 0 true) (steps_in agent_hears (view j s 0 0 true) first n).start) refl
    where
      go : (y : Stage Agent) → Told pool j there s y → (b : Bool) → is_ready (view j s 0 0 true) y.start ≡ b
          → Told pool j there s (pick b (step_in agent_hears (view j s 0 0 true) y) y)
      go y before true ready = step_told y before.0 (ready_goes agent_hears (view j s 0 0 true) first y.start ready)
      go y before false over = before

  -- ---- the page

  pub begun_first : (first.start.place ≡ 0) × ((first.start.heard ≡ 0) × ((first.start.sums ≡ length s / sum_bytes) × Counted first.start))
  begun_first = go (both (ltb 0 (length j)) (not there))
    where
      go : (b : Bool) → let t : Start = pick b (started_with (length s / sum_bytes) SumsMissing) (started_with (length s / sum_bytes) Hearing) in
          (t.place ≡ 0) × ((t.heard ≡ 0) × ((t.sums ≡ length s / sum_bytes) × Counted t))
      go true = (refl, (refl, (refl, record { heard_low = omega arith; behind_low = omega arith })))
      go false = (refl, (refl, (refl, record { heard_low = omega arith; behind_low = omega arith })))

  first_along : Along agent_hears (view j s 0 0 true) first first
  first_along = set_out agent_hears (view j s 0 0 true) first (sym begun_first.0) (sym begun_first.1.0) begun_first.1.1.1

  all_over : is_going (journal_start pool j there s).start.verdict ≡ false
  all_over = go (is_going (journal_start pool j there s).start.verdict) refl
    where
      go : (b : Bool) → is_going (journal_start pool j there s).start.verdict ≡ b → b ≡ false
      go true going =
          let along = steps_along agent_hears (view j s 0 0 true) first first_along (suc (length j)) in
          let ready = whole_ready j s (journal_start pool j there s).start (along.sums_stay ∙ begun_first.1.1.0) going in
          false_true (sym (ends agent_hears (view j s 0 0 true) first first_along) ∙ ready)
      go false over = refl

  -- what the start of any journal with any sums finds
  pub outcome : Outcome pool j there s (journal_start pool j there s)
  outcome =
      let told = steps_told (suc (length j)) in
      let w = told.0 in
      let x = journal_start pool j there s in
      let whole : (i : ℕ) → i < x.start.heard → is_notice (read_at j (place_to j i)) ≡ true = λ i lt. w.whole i (omega arith) in
      record {
        ended = all_over;
        heeded = w;
        says = told.1;
        cut_whole = rw w.cut_is (cutting.cut_whole j x.start.heard whole);
        cut_agent = rw (w.cut_is, cutting.cut_notices j x.start.heard whole) w.agent_is;
      }
