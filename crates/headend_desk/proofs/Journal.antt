-- The page of the journal (specs/Journal): each of its statements, for any lines. Rests on the agent's laws of head-ends, on the story of
-- accepted events, on logs read through, and on torn ends.
use Prim.Native.Nat.{ℕ, suc, ◌+◌, ◌*◌, ◌-◌, ◌<◌, ◌≤◌, ◌^◌}
use mathlib.Core.Path.{◌≡◌, refl, sym, ap, ◌∙◌}
use mathlib.Core.Bool.{Bool, true, false, false≢true}
use mathlib.Core.Logic.{⊎_elim}
use mathlib.Core.List.{List, [], ◌∷◌, ◌++◌, reverse, reverse-cons, append-nil, append_assoc}
use native.Mathlib.Omega.{arith}
use borrow.Author.Tests.{eq-eqb, eqb-true, leb-true}
use lib.Dec.{eqb}
use lib.ListN.{length, take, drop, length-append, length-drop, take-append-drop}
use lib.Seq.{take_all, take-append_seam, take-append-le, take-append-add}
use Rattle.rules.specs.Limits.{both}
use Rattle.rules.specs.Refusals.{pick, done}
use Rattle.rules.proofs.Tests.{decide, both_l, both_r}
use Rattle.story.specs.declared.Event.{Event}
use Rattle.story.specs.declared.State.{State}
use Rattle.story.specs.Story.{answer, Accepted, none, more}
use Rattle.story.specs.Runs.{answered, called, state_after, lanes_of}
use Rattle.story.proofs.Runs.{lanes_limit, told_answer}
use Rattle.story.proofs.Reached.{reached, run_told}
use Rattle.sums.specs.Crc.{sum_of, sum_size}
use Rattle.sums.proofs.Small.{sum_small}
use Rattle.notice_fields.specs.Numbers.{number_at}
use Rattle.notice_fields.proofs.Each.{by_order}
use Rattle.notice_fields.proofs.Digits.{length_big}
use Rattle.notice_fields.proofs.Has.{Has, has_middle, number_back}
use Rattle.notice.specs.declared.Notice.{Notice}
use Rattle.notice.specs.Encode.{bytes_of}
use Rattle.notice.specs.Log.{FitsFields, log_of, notices_of, stop_of, is_whole_log}
use Rattle.notice.proofs.Bytes.{bytes_small}
use Rattle.notice.proofs.ReadThrough.{place_within}
use Rattle.notice.proofs.RoundTrip.{log_append}
use Rattle.notice.proofs.Torn.{torn}
use Rattle.agent.specs.declared.Agent.{Agent}
use Rattle.agent.specs.Turns.{fresh_agent}
use Rattle.agent.specs.Series.{notice_for, notices_for, log_kept}
use Rattle.agent.specs.Played.{agent_told, agent_played, events_played}
use Rattle.agent.proofs.HeadEnd.{fits, length_numbered, kept_whole, kept_notices, kept_events, kept_played}
use Rattle.text.specs.Numbers.{four_bytes_most}
use Rattle.console_lines.specs.Lines.{meaning}
use Rattle.console_acts.specs.Events.{event_in}
use Rattle.headend_desk.specs.Desk.{is_event_line, head_answer, head_next, next_bytes, sum_text, event_notice, event_sum}
use Rattle.headend_desk.specs.Desk.{head_after, head_notice, head_sum}
use Rattle.headend_desk.specs.Journal.{head_of, journal_of, journal_sums, is_taken, events_taken, sums_of, UpToNotice, CutAt}
use Rattle.headend_desk.specs.Journal.{JournalKept}
use Rattle.headend_desk.proofs.Taking.{accepts, moves_on}

-- ---- one line

-- an event that is accepted
module _ (g : Agent) (s : List ℕ) (did : is_taken g s ≡ true) where
  said : is_event_line s ≡ true
  said = both_l (is_event_line s) (eqb (head_answer g (event_in (meaning s))) done) did

  taken : head_answer g (event_in (meaning s)) ≡ done
  taken = eqb-true (head_answer g (event_in (meaning s))) done
      (both_r (is_event_line s) (eqb (head_answer g (event_in (meaning s))) done) did)

  after_taken : head_after g s ≡ record { sequence = suc g.sequence; state = called g.state (event_in (meaning s)) }
  unfolding head_after
  after_taken = rw said (moves_on g (event_in (meaning s)) taken)

  notice_taken : head_notice g s ≡ next_bytes g (event_in (meaning s))
  unfolding head_notice event_notice
  notice_taken = rw (said, eq-eqb (head_answer g (event_in (meaning s))) done taken) refl

  sum_taken : head_sum g s ≡ sum_text (next_bytes g (event_in (meaning s)))
  unfolding head_sum event_sum
  sum_taken = rw (said, eq-eqb (head_answer g (event_in (meaning s))) done taken) refl

-- any other line
neither : {A : Type 0} (t u : Bool) (x y : A) → both t u ≡ false → pick t (pick u x y) y ≡ y
neither true true x y e = absurd (false≢true (sym e))
neither true false x y e = refl
neither false u x y e = refl

module _ (g : Agent) (s : List ℕ) (no-event : is_taken g s ≡ false) where
  after_other : head_after g s ≡ g
  unfolding head_after head_next
  after_other = neither (is_event_line s) (eqb (head_answer g (event_in (meaning s))) done) _ g no-event

  notice_other : head_notice g s ≡ []
  unfolding head_notice event_notice
  notice_other = neither (is_event_line s) (eqb (head_answer g (event_in (meaning s))) done) _ [] no-event

  sum_other : head_sum g s ≡ []
  unfolding head_sum event_sum
  sum_other = neither (is_event_line s) (eqb (head_answer g (event_in (meaning s))) done) _ [] no-event

-- ---- any lines

sums_append : (ms ns : List Notice) → sums_of (ms ++ ns) ≡ sums_of ms ++ sums_of ns
unfolding sums_of
sums_append [] ns = refl
sums_append (m ∷ ms) ns = rw (sums_append ms ns) (sym (append_assoc (sum_text (bytes_of m)) (sums_of ms) (sums_of ns)))

-- one event more, in the log and in the sums
log_more : (es : List Event) (e : Event) → log_kept (e ∷ es) ≡ log_kept es ++ bytes_of (notice_for (suc (length es)) e)
unfolding notices_for log_of
log_more es e =
    ap log_of (reverse-cons (notice_for (suc (length es)) e) (notices_for es))
    ∙ log_append (reverse (notices_for es)) (notice_for (suc (length es)) e ∷ [])
    ∙ ap (λ (bs : List ℕ). log_kept es ++ bs) (append-nil (bytes_of (notice_for (suc (length es)) e)))

abbrev sums_kept : List Event → List ℕ
sums_kept es = sums_of (reverse (notices_for es))

sums_more : (es : List Event) (e : Event) → sums_kept (e ∷ es) ≡ sums_kept es ++ sum_text (bytes_of (notice_for (suc (length es)) e))
unfolding notices_for sums_of
sums_more es e =
    ap sums_of (reverse-cons (notice_for (suc (length es)) e) (notices_for es))
    ∙ sums_append (reverse (notices_for es)) (notice_for (suc (length es)) e ∷ [])
    ∙ ap (λ (bs : List ℕ). sums_kept es ++ bs) (append-nil (sum_text (bytes_of (notice_for (suc (length es)) e))))

-- the head-end after events that it accepted, with its log and sums
record Head (pool : ℕ) (g : Agent) (log sums : List ℕ) (es : List Event) : Type 0 where
  accepted : Accepted (lanes_of pool) es
  few : length es < 2 ^ 32
  is : g ≡ record { sequence = length es; state = state_after pool es }
  logged : log ≡ log_kept es
  summed : sums ≡ sums_kept es

-- what it accepts, the story accepts
tells : (pool : ℕ) (es : List Event) (e : Event) → Accepted (lanes_of pool) es → answered (state_after pool es) e ≡ answer (lanes_of pool) es e
tells pool es e acc =
    told_answer (lanes_of pool) (lanes_limit pool) es (state_after pool es)
    (run_told pool es (state_after pool es) (reached pool es acc)) e

module _ (pool : ℕ) (g : Agent) (log sums : List ℕ) (es : List Event) (h : Head pool g log sums es) (s : List ℕ) where
  one_more : is_taken g s ≡ true → Head pool (head_after g s) (log ++ head_notice g s) (sums ++ head_sum g s) (event_in (meaning s) ∷ es)
  unfolding state_after
  one_more did =
      let e : Event = event_in (meaning s) in
      let ok = accepts g e (taken g s did) in
      let state : g.state ≡ state_after pool es = ap (λ (x : Agent). x.state) h.is in
      let sequence : g.sequence ≡ length es = ap (λ (x : Agent). x.sequence) h.is in
      let said : answer (lanes_of pool) es e ≡ 0 =
      sym (tells pool es e h.accepted) ∙ ap (λ (t : State). answered t e) (sym state) ∙ ok.0 in
      let numbered : next_bytes g e ≡ bytes_of (notice_for (suc (length es)) e) =
      ap (λ (q : ℕ). bytes_of (notice_for (suc q) e)) sequence in
      record {
        accepted = more h.accepted said;
        few = omega (arith, ok.1, sequence);
        is = after_taken g s did ∙ ap (λ (x : Agent). record { sequence = suc x.sequence; state = called x.state e }) h.is;
        logged =
            ap (λ (bs : List ℕ). log ++ bs) (notice_taken g s did ∙ numbered)
            ∙ ap (λ (bs : List ℕ). bs ++ bytes_of (notice_for (suc (length es)) e)) h.logged
            ∙ sym (log_more es e);
        summed =
            ap (λ (bs : List ℕ). sums ++ bs) (sum_taken g s did ∙ ap (λ (bs : List ℕ). sum_text bs) numbered)
            ∙ ap (λ (bs : List ℕ). bs ++ sum_text (bytes_of (notice_for (suc (length es)) e))) h.summed
            ∙ sym (sums_more es e);
      }

  none_more : is_taken g s ≡ false → Head pool (head_after g s) (log ++ head_notice g s) (sums ++ head_sum g s) es
  none_more other =
      record {
        accepted = h.accepted;
        few = h.few;
        is = after_other g s other ∙ h.is;
        logged = ap (λ (bs : List ℕ). log ++ bs) (notice_other g s other) ∙ append-nil log ∙ h.logged;
        summed = ap (λ (bs : List ℕ). sums ++ bs) (sum_other g s other) ∙ append-nil sums ∙ h.summed;
      }

head : (pool : ℕ) (ss : List (List ℕ)) → Head pool (head_of pool ss) (journal_of pool ss) (journal_sums pool ss) (events_taken pool ss)
unfolding head_of journal_of journal_sums events_taken state_after notices_for log_of sums_of
head pool [] = record { accepted = none; few = omega arith; is = refl; logged = refl; summed = refl }
head pool (s ∷ ss) =
    let h = head pool ss in
    ⊎_elim
    (λ did. rw did (one_more pool (head_of pool ss) (journal_of pool ss) (journal_sums pool ss) (events_taken pool ss) h s did))
    (λ other. rw other (none_more pool (head_of pool ss) (journal_of pool ss) (journal_sums pool ss) (events_taken pool ss) h s other))
    (decide (is_taken (head_of pool ss) s))

-- ---- the journal whole

module _ (pool : ℕ) (ss : List (List ℕ)) where
  h : Head pool (head_of pool ss) (journal_of pool ss) (journal_sums pool ss) (events_taken pool ss)
  h = head pool ss

  is_whole : is_whole_log (journal_of pool ss) ≡ true
  is_whole = ap (λ (l : List ℕ). is_whole_log l) h.logged ∙ kept_whole (lanes_of pool) (events_taken pool ss) h.accepted h.few

  its_notices : notices_of (journal_of pool ss) ≡ notices_for (events_taken pool ss)
  its_notices =
      ap (λ (l : List ℕ). notices_of l) h.logged ∙ kept_notices (lanes_of pool) (events_taken pool ss) h.accepted h.few

  is_accepted : events_played pool (journal_of pool ss) ≡ events_taken pool ss
  is_accepted = ap (λ (l : List ℕ). events_played pool l) h.logged ∙ kept_events pool (events_taken pool ss) h.accepted h.few

  is_played_lem : agent_played pool (journal_of pool ss) ≡ head_of pool ss
  is_played_lem =
      ap (λ (l : List ℕ). agent_played pool l) h.logged
      ∙ kept_played pool (events_taken pool ss) h.accepted h.few ∙ sym h.is

  stops : stop_of (journal_of pool ss) ≡ length (journal_of pool ss)
  stops =
      let far : length (journal_of pool ss) ≤ stop_of (journal_of pool ss) = leb-true _ _ is_whole in
      omega (arith, far, place_within (journal_of pool ss) (length (journal_of pool ss)))

  many : length (notices_of (journal_of pool ss)) ≡ length (events_taken pool ss)
  many = ap (λ (ns : List Notice). length ns) its_notices ∙ length_numbered (events_taken pool ss)

-- ---- any number of notices from its start

up_to_all : (pool : ℕ) (ss : List (List ℕ)) (n : ℕ) → n ≡ length (events_taken pool ss) → UpToNotice pool ss n
up_to_all pool ss n e =
    record {
      later = [];
      earlier = ss;
      parts = refl;
      count = many pool ss ∙ sym e;
      rest = [];
      begins = sym (append-nil (journal_of pool ss));
      plays = is_played_lem pool ss;
    }

up_to_before : (pool : ℕ) (s : List ℕ) (ss : List (List ℕ)) (n : ℕ) → UpToNotice pool ss n → UpToNotice pool (s ∷ ss) n
unfolding journal_of
up_to_before pool s ss n u =
    record {
      later = s ∷ u.later;
      earlier = u.earlier;
      parts = ap (λ (l : List (List ℕ)). s ∷ l) u.parts;
      count = u.count;
      rest = u.rest ++ head_notice (head_of pool ss) s;
      begins =
          ap (λ (l : List ℕ). l ++ head_notice (head_of pool ss) s) u.begins
          ∙ append_assoc (journal_of pool u.earlier) u.rest (head_notice (head_of pool ss) s);
      plays = u.plays;
    }

-- a line adds one event at most
one_at_most : (t : Bool) (e : Event) (es : List Event) → length (pick t (e ∷ es) es) ≤ suc (length es)
one_at_most true e es = omega arith
one_at_most false e es = omega arith

up_to : (pool : ℕ) (ss : List (List ℕ)) (n : ℕ) → n ≤ length (events_taken pool ss) → UpToNotice pool ss n
unfolding events_taken
up_to pool [] n le = up_to_all pool [] n (omega arith)
up_to pool (s ∷ ss) n le =
    let before : n ≤ length (events_taken pool ss) → UpToNotice pool ss n = up_to pool ss n in
    let most = one_at_most (is_taken (head_of pool ss) s) (event_in (meaning s)) (events_taken pool ss) in
    by_order (length (events_taken pool ss)) n
    (λ far. up_to_all pool (s ∷ ss) n (omega (arith, far, most, le)))
    (λ near. up_to_before pool s ss n (before near))

-- ---- the journal cut at any byte

cut_nothing : (pool : ℕ) (ss : List (List ℕ)) (k : ℕ) → length (journal_of pool ss) ≤ k → CutAt pool ss k
cut_nothing pool ss k far =
    let all : take k (journal_of pool ss) ≡ journal_of pool ss = take_all k (journal_of pool ss) far in
    record {
      later = [];
      earlier = ss;
      parts = refl;
      notices = ap (λ (l : List ℕ). notices_of l) all;
      stop = ap (λ (l : List ℕ). stop_of l) all ∙ stops pool ss;
      kept = ap (λ (l : List ℕ). take (length (journal_of pool ss)) l) all ∙ take_all (length (journal_of pool ss)) (journal_of pool ss) (omega arith);
      plays = ap (λ (l : List ℕ). agent_played pool l) all ∙ is_played_lem pool ss;
    }

-- within the journal before the last line
cut_before : (pool : ℕ) (s : List ℕ) (ss : List (List ℕ)) (k : ℕ) → k ≤ length (journal_of pool ss) → CutAt pool ss k → CutAt pool (s ∷ ss) k
unfolding journal_of
cut_before pool s ss k le c =
    let same : take k (journal_of pool ss ++ head_notice (head_of pool ss) s) ≡ take k (journal_of pool ss) =
    take-append-le k (journal_of pool ss) (head_notice (head_of pool ss) s) le in
    record {
      later = s ∷ c.later;
      earlier = c.earlier;
      parts = ap (λ (l : List (List ℕ)). s ∷ l) c.parts;
      notices = ap (λ (l : List ℕ). notices_of l) same ∙ c.notices;
      stop = ap (λ (l : List ℕ). stop_of l) same ∙ c.stop;
      kept = ap (λ (l : List ℕ). take (length (journal_of pool c.earlier)) l) same ∙ c.kept;
      plays = ap (λ (l : List ℕ). agent_played pool l) same ∙ c.plays;
    }

-- within the notice of the last line, which then was accepted
last_notice : (pool : ℕ) (s : List ℕ) (ss : List (List ℕ)) → 0 < length (head_notice (head_of pool ss) s) →
    is_taken (head_of pool ss) s ≡ true
last_notice pool s ss some =
    ⊎_elim (λ did. did)
    (λ other. absurd (omega (arith, some, ap (λ (l : List ℕ). length l) (notice_other (head_of pool ss) s other))))
    (decide (is_taken (head_of pool ss) s))

last_fits : (pool : ℕ) (s : List ℕ) (ss : List (List ℕ)) → is_taken (head_of pool ss) s ≡ true →
    FitsFields (notice_for (suc (head_of pool ss).sequence) (event_in (meaning s)))
last_fits pool s ss did =
    let g : Agent = head_of pool ss in
    let e : Event = event_in (meaning s) in
    let es : List Event = events_taken pool ss in
    let before = head pool ss in
    let ok = accepts g e (taken g s did) in
    let state : g.state ≡ state_after pool es = ap (λ (x : Agent). x.state) before.is in
    let said : answer (lanes_of pool) es e ≡ 0 =
    sym (tells pool es e before.accepted) ∙ ap (λ (t : State). answered t e) (sym state) ∙ ok.0 in
    let low : g.sequence < four_bytes_most = ok.1 in
    fits (lanes_of pool) es e (suc g.sequence) (omega arith) said

cut_last : (pool : ℕ) (s : List ℕ) (ss : List (List ℕ)) (d : ℕ) → d < length (head_notice (head_of pool ss) s) →
    CutAt pool (s ∷ ss) (length (journal_of pool ss) + d)
unfolding journal_of
cut_last pool s ss d lt =
    let log : List ℕ = journal_of pool ss in
    let bs : List ℕ = head_notice (head_of pool ss) s in
    let did = last_notice pool s ss (omega arith) in
    let n : Notice = notice_for (suc (head_of pool ss).sequence) (event_in (meaning s)) in
    let part : take (length log + d) (log ++ bs) ≡ log ++ take d bs = take-append-add log bs d in
    let bytes : bytes_of n ≡ take d bs ++ drop d bs = sym (notice_taken (head_of pool ss) s did) ∙ sym (take-append-drop d bs) in
    let some : 0 < length (drop d bs) = omega (arith, length-drop d bs) in
    let left = torn log n (take d bs) (drop d bs) (is_whole pool ss) (last_fits pool s ss did) bytes some in
    record {
      later = s ∷ [];
      earlier = ss;
      parts = refl;
      notices = ap (λ (l : List ℕ). notices_of l) part ∙ left.0;
      stop = ap (λ (l : List ℕ). stop_of l) part ∙ left.1;
      kept = ap (λ (l : List ℕ). take (length log) l) part ∙ take-append_seam log (take d bs);
      plays =
          ap (λ (l : List ℕ). agent_played pool l) part
          ∙ ap (agent_told (fresh_agent pool)) left.0 ∙ is_played_lem pool ss;
    }

cut : (pool : ℕ) (ss : List (List ℕ)) (k : ℕ) → CutAt pool ss k
unfolding journal_of
cut pool [] k = cut_nothing pool [] k (omega arith)
cut pool (s ∷ ss) k =
    let before : CutAt pool ss k = cut pool ss k in
    let long : length (journal_of pool ss ++ head_notice (head_of pool ss) s) ≡ length (journal_of pool ss) + length (head_notice (head_of pool ss) s) =
    length-append (journal_of pool ss) (head_notice (head_of pool ss) s) in
    by_order (length (journal_of pool ss)) k
    (λ far.
    let d : ℕ = k - length (journal_of pool ss) in
    let at : length (journal_of pool ss) + d ≡ k = omega arith in
    by_order d (length (head_notice (head_of pool ss) s))
    (λ lt. rw at at (cut_last pool s ss d lt))
    (λ le. cut_nothing pool (s ∷ ss) k (omega (arith, long, le, at))))
    (λ near. cut_before pool s ss k near before)

-- ---- its sums

sums_length_lem : (ns : List Notice) → length (sums_of ns) ≡ sum_size * length ns
unfolding sums_of
sums_length_lem [] = refl
sums_length_lem (n ∷ ns) =
    omega (arith, length-append (sum_text (bytes_of n)) (sums_of ns), length_big sum_size (sum_of (bytes_of n)), sums_length_lem ns)

one_sum : (ms ns : List Notice) (n : Notice) → number_at (sums_of (ms ++ n ∷ ns)) (sum_size * length ms) sum_size ≡ sum_of (bytes_of n)
unfolding sums_of
one_sum ms ns n =
    let parts : sums_of (ms ++ n ∷ ns) ≡ sums_of ms ++ (sum_text (bytes_of n) ++ sums_of ns) = sums_append ms (n ∷ ns) in
    let small : sum_of (bytes_of n) < 256 ^ sum_size = omega (arith, sum_small (bytes_of n) (bytes_small n)) in
    let there : Has (sums_of ms ++ (sum_text (bytes_of n) ++ sums_of ns)) (length (sums_of ms)) (sum_text (bytes_of n)) =
    has_middle (sums_of ms) (sum_text (bytes_of n)) (sums_of ns) in
    let read : number_at (sums_of ms ++ (sum_text (bytes_of n) ++ sums_of ns)) (length (sums_of ms)) sum_size ≡ sum_of (bytes_of n) =
    number_back (sums_of ms ++ (sum_text (bytes_of n) ++ sums_of ns)) (length (sums_of ms)) sum_size (sum_of (bytes_of n)) small there in
    ap (λ (bs : List ℕ). number_at bs (sum_size * length ms) sum_size) parts
    ∙ ap (λ (a : ℕ). number_at (sums_of ms ++ (sum_text (bytes_of n) ++ sums_of ns)) a sum_size) (sym (sums_length_lem ms)) ∙ read

-- ---- the page

pub journal_kept : (pool : ℕ) (ss : List (List ℕ)) → JournalKept pool ss
journal_kept pool ss =
    let now = head pool ss in
    let sums : journal_sums pool ss ≡ sums_of (reverse (notices_of (journal_of pool ss))) =
    now.summed ∙ ap (λ (ns : List Notice). sums_of (reverse ns)) (sym (its_notices pool ss)) in
    record {
      written = now.logged;
      whole = is_whole pool ss;
      accepted = is_accepted pool ss;
      plays = is_played_lem pool ss;
      any_number = λ n le. up_to pool ss n (rw (many pool ss) at le);
      any_cut = cut pool ss;
      torn = λ n t rest fit is some.
          let left = torn (journal_of pool ss) n t rest (is_whole pool ss) fit is some in
          record { notices = left.0; stop = left.1 };
      sums = sums;
      each_sum = λ ms ns n is.
          ap (λ (bs : List ℕ). number_at bs (sum_size * length ms) sum_size) (sums ∙ ap sums_of is) ∙ one_sum ms ns n;
    }
