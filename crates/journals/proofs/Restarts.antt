-- A start after a kill needs no help: of a journal and sums as a head-end keeps them, cut at any byte, it hears what is whole and has its sum,
-- and goes on.
-- Rests on what each verdict says, on a cut log having the notices before the cut, and on every beginning of a notice being torn.
use mathlib.Core.Path.{◌≡◌, refl, sym, ap, ◌∙◌}
use mathlib.Core.Bool.{Bool, true, false}
use mathlib.Core.Logic.{inl, inr, ⊎_elim}
use mathlib.Core.List.{List, [], ◌∷◌, ◌++◌}
use Prim.Native.Nat.{ℕ, zero, suc, ◌+◌, ◌*◌, ◌-◌, ◌/◌, ◌≤◌, ◌<◌}
use native.Mathlib.Nat.{zero-add}
use native.Mathlib.Omega.{arith}
use lib.ListN.{length, take, drop, length-drop, take-append-drop}
use lib.Seq.{take-add, length-take-le, take-nil}
use borrow.Author.Tests.{leb-true}
use Rattle.rules.specs.Refusals.{pick}
use Rattle.sums.specs.Crc.{sum_of}
use Rattle.notice.specs.declared.Notice.{Notice}
use Rattle.notice.specs.declared.Reading.TheVariants as reading
use Rattle.notice.specs.declared.Found.{Found}
use Rattle.notice.specs.declared.Found.TheVariants as found
use Rattle.notice.specs.Decode.{is_alone, read_at, read_of, place_after}
use Rattle.notice.specs.Log.{Bytes, place_to, is_notice, notices_to, stop_of, is_whole_log}
use Rattle.notice.proofs.CaseSplits.{by_order, false_true}
use Rattle.notice.proofs.NoticePlaces.{inside}
use Rattle.notice.proofs.Cases.{at_end}
use Rattle.notice.proofs.Alike.{by_itself}
use Rattle.notice.proofs.Part.{whole_stays}
use Rattle.notice.proofs.ReadThrough.{all_read}
use Rattle.agent.specs.declared.Agent.{Agent}
use Rattle.agent.specs.Turns.{fresh_agent, notice_answer}
use Rattle.agent.specs.Played.{agent_told}
use Rattle.journals.specs.declared.Verdict.{Verdict}
use Rattle.journals.specs.declared.Verdict.TheVariants.{Hearing, Heard, Torn, NoNotice, SumDiffers, Refused, SumsShort, SumsMissing}
use Rattle.journals.specs.Torn.{is_torn}
use Rattle.journals.specs.Start.{sum_bytes, is_going, Stage, sum_at, part_of, journal_start}
use Rattle.journals.specs.Windows.{Part}
use Rattle.journals.specs.Outcome.{notice_bytes, Heeded, Says}
use Rattle.journals.specs.Restart.{KeptWith, LeftOf, GoesOn}
use Rattle.journals.proofs.Cutting.{cut_stays}
use Rattle.journals.proofs.WholeFiles.{part_bytes, sum_part}
use Rattle.journals.proofs.TornEnds.{begins_torn}
use Rattle.journals.proofs.Outcomes.{outcome}
use Rattle.journals.proofs.RowsFollow.{part_small}

-- ---- parts of lists

drop_take : (p c : ℕ) (l : List ℕ) → drop p (take c l) ≡ take (c - p) (drop p l)
drop_take zero c l = let e : c - 0 ≡ c = omega arith in rw e
drop_take (suc p) zero l = let e : 0 - suc p ≡ 0 = omega arith in rw e
drop_take (suc p) (suc c) [] = sym (take-nil (suc c - suc p))
drop_take (suc p) (suc c) (x ∷ xs) = let e : suc c - suc p ≡ c - p = omega arith in rw e (drop_take p c xs)

-- a notice's own bytes are one notice
alone_part : (bs : List ℕ) (p : ℕ) (n : Notice) (e : ℕ) → read_at bs p ≡ found.At n e → is_alone (part_of bs p e) ≡ true
unfolding read_of
alone_part bs p n e is = go (is_alone (part_of bs p e)) _ (by_itself bs p n e is)
  where
    go : (b : Bool) (m : Notice) → pick b (reading.Whole m) reading.Malformed ≡ reading.Whole n → b ≡ true
    go true m r = refl
    go false m r = absurd (let z : ◌≡◌ {A = ℕ} 0 1 = cc in omega arith)

module _ (j : List ℕ) (c : ℕ) (low : c ≤ length j) where
  abbrev pub cut : List ℕ
  cut = take c j

  size : length cut ≡ c
  size = length-take-le c j low

  parts : cut ++ drop c j ≡ j
  parts = take-append-drop c j

  -- a notice of what is left is the journal's
  stays : (p : ℕ) (n : Notice) (e : ℕ) → read_at cut p ≡ found.At n e → read_at j p ≡ found.At n e
  stays p n e is = rw parts at (whole_stays cut (drop c j) p n e is)

  -- and so are the notices before a place, and the place
  pub same_reads : (k : ℕ) → ((i : ℕ) → i < k → is_notice (read_at cut (place_to cut i)) ≡ true)
      → (place_to cut k ≡ place_to j k) × (notices_to cut k ≡ notices_to j k)
  unfolding place_to notices_to
  same_reads zero whole = (refl, refl)
  same_reads (suc k) whole =
      let before = same_reads k (λ i lt. whole i (omega arith)) in
      let same : read_at cut (place_to cut k) ≡ read_at j (place_to j k) = read before.0 (read_at cut (place_to cut k)) refl (whole k (omega arith)) in
      (rw (same, before.0), rw (same, before.1))
    where
      read : place_to cut k ≡ place_to j k → (f : Found) → read_at cut (place_to cut k) ≡ f → is_notice f ≡ true
          → read_at cut (place_to cut k) ≡ read_at j (place_to j k)
      read at (found.At n e) is good = is ∙ sym (ap (read_at j) (sym at) ∙ stays (place_to cut k) n e is)
      read at found.End is good = false_true good
      read at found.Malformed is good = false_true good

  same_part : (p e : ℕ) → e ≤ length cut → part_of j p e ≡ part_of cut p e
  same_part p e within =
      let part = part_bytes [] cut (drop c j) p e within in
      rw (zero-add p, zero-add e, parts) at part

  -- ---- an end that is no whole notice

  -- a whole journal has a notice wherever it does not end
  notice_there : is_whole_log j ≡ true → (k : ℕ) → place_to j k < length j → is_notice (read_at j (place_to j k)) ≡ true
  notice_there whole k before = go (is_notice (read_at j (place_to j k))) refl
    where
      go : (b : Bool) → is_notice (read_at j (place_to j k)) ≡ b → b ≡ true
      go true e = refl
      go false e =
          let far : length j ≤ stop_of j = leb-true _ _ whole in
          absurd (omega (arith, far, before, (all_read j k e).0))

  -- so what is left at the end begins one
  left_torn : Bytes j → is_whole_log j ≡ true → (k p : ℕ) → place_to j k ≡ p → read_at cut p ≡ found.Malformed → is_torn (drop p cut) ≡ true
  left_torn small whole k p at none =
      by_order p (length cut) (λ before. torn before (read_at j p) refl (rw at at (notice_there whole k (rw at (omega (arith, before, size, low))))))
      (λ over. absurd (let z : ◌≡◌ {A = ℕ} 0 1 = cc (at_end cut p over) in omega arith))
    where
      torn : p < length cut → (f : Found) → read_at j p ≡ f → is_notice (read_at j p) ≡ true → is_torn (drop p cut) ≡ true
      torn before (found.At n e) is good =
          by_order c e
          (λ far.
          let l = drop p j in
          let within : e ≤ length j = (inside j p n e is).within in
          let sum : c - p + (e - c) ≡ e - p = omega (arith, before, size, far) in
          let rest : drop p cut ≡ take (c - p) (drop p j) = drop_take p c j in
          let whole_part : drop p cut ++ take (e - c) (drop (c - p) (drop p j)) ≡ part_of j p e =
          rw rest (sym (rw sum at (take-add (c - p) (e - c) (drop p j)))) in
          let some : 0 < length (take (e - c) (drop (c - p) (drop p j))) =
          rw (length-take-le (e - c) (drop (c - p) (drop p j))
          (rw (length-drop (c - p) (drop p j), length-drop p j) (omega (arith, within, before, size)))) (omega arith) in
          begins_torn (drop p cut) (take (e - c) (drop (c - p) (drop p j))) (rw whole_part (part_small j p e small)) some
          (rw whole_part (alone_part j p n e is)))
          (λ near.
          absurd (let z : ◌≡◌ {A = ℕ} 0 1 = cc (cut_stays j c p n e is near low) in omega arith))
      torn before found.End is good = false_true (sym (ap is_notice is) ∙ good)
      torn before found.Malformed is good = false_true (sym (ap is_notice is) ∙ good)

-- ---- the theorem

module _ (pool : ℕ) (j s : List ℕ) (c m : ℕ) (kept : KeptWith pool j s) (left : LeftOf j s c m) where
  abbrev j' : List ℕ
  j' = take c j

  abbrev s' : List ℕ
  s' = take m s

  abbrev x : Stage Agent
  x = journal_start pool j' true s'

  w : Heeded pool j' s' x
  w = (outcome pool j' true s').heeded

  reads : (place_to j' (x.start.heard + x.start.behind) ≡ place_to j (x.start.heard + x.start.behind))
      × (notices_to j' (x.start.heard + x.start.behind) ≡ notices_to j (x.start.heard + x.start.behind))
  reads = same_reads j c left.journal_to (x.start.heard + x.start.behind) w.whole

  -- a sum that is left is the one that was kept
  sum_left : (i : ℕ) → i < length s' / sum_bytes → sum_at s' i ≡ sum_at s i
  sum_left i lt =
      let part : Part s s' (0 * sum_bytes) = record { before = []; later = drop m s; is = sym (take-append-drop m s); there = refl } in
      let same = sum_part s s' 0 i part lt in
      sym (rw (zero-add i) at same)

  module _ (has : x.start.heard < x.start.sums) where
    none_behind : x.start.behind ≡ 0
    none_behind = by_order 0 x.start.behind (λ some. absurd (omega (arith, w.unsummed some, has))) (λ none. omega arith)

    all_heard : x.start.heard + x.start.behind ≡ x.start.heard
    all_heard = omega (arith, none_behind)

    at_heard : x.start.place ≡ place_to j x.start.heard
    at_heard = rw all_heard at (w.place_is ∙ reads.0)

    told_heard : x.hearer ≡ agent_told (fresh_agent pool) (notices_to j x.start.heard)
    told_heard = w.agent_is ∙ ap (agent_told (fresh_agent pool)) (rw all_heard at reads.1)

    module _ (n : Notice) (e : ℕ) (is : read_at j' x.start.place ≡ found.At n e) where
      here : read_at j (place_to j x.start.heard) ≡ found.At n e
      here = ap (read_at j) (sym at_heard) ∙ stays j c left.journal_to x.start.place n e is

      sum_fits : sum_of (part_of j' x.start.place e) ≡ sum_at s' x.start.heard
      unfolding place_to
      sum_fits =
          let to : place_to j (suc x.start.heard) ≡ e = ap (λ f. place_after f (place_to j x.start.heard)) here in
          let bytes : notice_bytes j x.start.heard ≡ part_of j' x.start.place e =
          rw (to, ← at_heard) (same_part j c left.journal_to x.start.place e (inside j' x.start.place n e is).within) in
          ap sum_of (sym bytes)
          ∙ (kept.summed x.start.heard (ap is_notice here) ∙ sym (sum_left x.start.heard (rw w.sums_are at has)))

      is_accepted : notice_answer x.hearer (reading.Whole n) ≡ 0
      is_accepted = rw told_heard (kept.accepted x.start.heard n e here)

  pub goes_on : GoesOn j' s' x
  goes_on = go x.start.verdict refl (outcome pool j' true s').ended (outcome pool j' true s').says
    where
      go : (v : Verdict) → x.start.verdict ≡ v → is_going v ≡ false → Says j' true s' x v → GoesOn j' s' x
      go Hearing is over says = false_true (sym over)
      go Heard is over says = inl (rw is refl)
      go Torn is over says = inl (rw is refl)
      go NoNotice is over says =
          let at : place_to j (x.start.heard + x.start.behind) ≡ x.start.place = sym (w.place_is ∙ reads.0) in
          false_true (sym says.1 ∙ left_torn j c left.journal_to kept.bytes kept.whole (x.start.heard + x.start.behind) x.start.place at says.0)
      go SumDiffers is over says =
          ⊎_elim (λ found. absurd (found.holds (sum_fits says.0 found.notice found.end found.is))) (λ had. inr (is, had)) says.1
      go (Refused a) is over says =
          let found = says.1 in
          absurd (found.holds.1.1 (found.holds.1.0 ∙ is_accepted says.0 found.notice found.end found.is))
      go SumsShort is over says =
          let i = x.start.heard + x.start.behind in
          let none = left.one_block i (omega (arith, says.0, says.1.0, w.sums_are)) in
          false_true (sym none ∙ (ap (λ (p : ℕ). is_notice (read_at j' p)) (sym w.place_is) ∙ says.1.1))
      go SumsMissing is over says = false_true (sym says.1)
