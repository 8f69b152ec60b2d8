-- The lines by marks and results are those of the title's life, and so the report of what the two calls leave is the text that is
-- promised. Rest on the laws of judging: the places of results, and that none is judged behind one that outlasts the record.
use mathlib.Core.Path.{◌≡◌, refl, sym, ap, ◌∙◌}
use mathlib.Core.Bool.{Bool, true, false, false≢true}
use mathlib.Core.Logic.{⊎_elim}
use mathlib.Core.List.{List, [], ◌++◌, append-nil}
use Prim.Native.Nat.{ℕ, zero, suc, ◌+◌, ◌-◌, ◌≤◌, ◌<◌}
use native.Mathlib.Omega.{arith}
use borrow.Author.Tests.{lt-ltb, le-ltb, leb-true, eq-eqb, ne_eqb, eqb-true, eqb-false}
use lib.Dec.{eqb}
use lib.ListN.{length, get_or}
use lib.Pow.{pow_pos}
use Rattle.rules.specs.Limits.{both}
use Rattle.rules.specs.Refusals.{pick, first_hit, done}
use Rattle.rules.specs.Search.{how_many}
use Rattle.rules.proofs.Tests.{decide, both_in, both_l, both_r, fails, pick_true, pick_false}
use Rattle.rules.proofs.Search.{how_many_hit, how_many_mono, how_many_flat, how_many_ext, how_many_wider}
use Rattle.grid.specs.Ticks.{cells}
use Rattle.notice.specs.Log.{is_whole_log}
use Rattle.plans.specs.Row.{written}
use Rattle.plans.proofs.Row.{written_length, written_first}
use Rattle.story.specs.Life.{Life, is_admission}
use Rattle.agent.specs.Played.{life_in}
use Rattle.judging.specs.Record.{ticks_max, ticks_in}
use Rattle.judging.specs.Judged.{is_covered, is_judged, judged_in, result_of, results_in}
use Rattle.judging.proofs.Laws.{place_of, whole_before}
use Rattle.judging.proofs.Lives.{mark_read}
use Rattle.airing.specs.declared.Judgement.{Judgement}
use Rattle.airing.specs.Air.{air_answer, air_gives, air_leaves, refused_judgement, judgement_of, in_limits, is_film_title, ticks_answer, mark_of, ticks_leaves}
use Rattle.airing.proofs.Accepted.{accepted_limits, accepted_few, accepted_whole, accepted_film}
use Rattle.air.specs.Lines.{admission_line, lines_to, total_lines, air_text}
use Rattle.air.specs.inner.Steps.{is_marked, judged_line, marked_lines, air_report}

module _ (L : Life) (r : List ℕ) where
  -- ---- who is judged

  whole_in : (a : ℕ) → is_covered L r a ≡ true → a < ticks_in r
  unfolding is_covered
  whole_in a h = omega (arith, leb-true (a + cells L.film.cap) (ticks_in r) h, pow_pos L.film.cap)

  judged_in_lem : (a : ℕ) → is_judged L r a ≡ true → a < ticks_in r
  unfolding is_judged
  judged_in_lem a h = whole_in a (both_r (is_admission L a) (is_covered L r a) h)

  -- before a tick whose play ticks lie in the record, every admission is
  all_judged : (a : ℕ) → is_covered L r a ≡ true → how_many (is_admission L) a ≡ how_many (is_judged L r) a
  unfolding is_judged
  all_judged a h =
      how_many_ext (is_admission L) (is_judged L r) a
      (λ i l. rw (whole_before L r i a (omega arith) h) (sym (both_true (is_admission L i))))
    where
      both_true : (b : Bool) → both b true ≡ b
      both_true true = refl
      both_true false = refl

  -- from one on whose play ticks do not, none is
  none_judged : (a : ℕ) → is_covered L r a ≡ false → judged_in L r ≤ how_many (is_judged L r) a
  unfolding is_judged
  none_judged a h =
      let none : (i : ℕ) → a ≤ i → is_judged L r i ≡ false =
      λ i l.
      fails (is_judged L r i)
      (λ t. false≢true (sym h ∙ whole_before L r a i l (both_r (is_admission L i) (is_covered L r i) t))) in
      let flat = how_many_flat (is_judged L r) a (ticks_in r) none in
      let more = how_many_mono (is_judged L r) (ticks_in r) (a + ticks_in r) (omega arith) in
      omega (arith, flat, more)

  few_judged : (n : ℕ) → how_many (is_judged L r) n ≤ how_many (is_admission L) n
  unfolding is_judged
  few_judged n = how_many_wider (is_judged L r) (is_admission L) n (λ i l h. both_l (is_admission L i) (is_covered L r i) h)

  -- ---- the lines, from marks of the admissions and the row of results

  module _
      (marks row : List ℕ)
      (marked : (a : ℕ) → a < ticks_max → get_or marks a 0 ≡ mark_of L a)
      (placed : (a : ℕ) → is_judged L r a ≡ true → get_or row (how_many (is_judged L r) a) 0 ≡ result_of L r a)
    where
      is_marked_lem : (a : ℕ) → a < ticks_max → is_marked marks a ≡ is_admission L a
      is_marked_lem a l = rw (marked a l) (mark_read (is_admission L a))

      counted : (n : ℕ) → n ≤ ticks_max → how_many (is_marked marks) n ≡ how_many (is_admission L) n
      counted n l = how_many_ext (is_marked marks) (is_admission L) n (λ i h. is_marked_lem i (omega arith))

      line_in_lem : (a : ℕ) → a < ticks_max → is_judged L r a ≡ true →
          judged_line row (judged_in L r) a (how_many (is_marked marks) a) ≡ admission_line a (result_of L r a)
      unfolding judged_line is_judged
      line_in_lem a l h =
          let whole : is_covered L r a ≡ true = both_r (is_admission L a) (is_covered L r a) h in
          let j : how_many (is_marked marks) a ≡ how_many (is_judged L r) a = counted a (omega arith) ∙ all_judged a whole in
          let one = how_many_hit (is_judged L r) a h in
          let few = how_many_mono (is_judged L r) (suc a) (ticks_in r) (whole_in a whole) in
          let judged : how_many (is_judged L r) a < judged_in L r = omega (arith, one, few) in
          rw (j, lt-ltb (how_many (is_judged L r) a) (judged_in L r) judged, placed a h) refl

      line_out : (a : ℕ) → a < ticks_max → is_covered L r a ≡ false → judged_line row (judged_in L r) a (how_many (is_marked marks) a) ≡ []
      unfolding judged_line
      line_out a l h =
          let over : judged_in L r ≤ how_many (is_marked marks) a =
          omega (arith, none_judged a h, few_judged a, counted a (omega arith)) in
          rw (le-ltb (how_many (is_marked marks) a) (judged_in L r) over) refl

      line_same : (a : ℕ) → a < ticks_max →
          pick (is_marked marks a) (judged_line row (judged_in L r) a (how_many (is_marked marks) a)) []
          ≡ pick (is_judged L r a) (admission_line a (result_of L r a)) []
      unfolding is_judged
      line_same a l =
          ⊎_elim
          (λ (h : is_admission L a ≡ true).
          ⊎_elim
          (λ (w : is_covered L r a ≡ true).
          let judged : both (is_admission L a) (is_covered L r a) ≡ true = both_in (is_admission L a) (is_covered L r a) h w in
          pick_true (is_marked marks a) _ _ (is_marked_lem a l ∙ h)
          ∙ line_in_lem a l judged
          ∙ sym (pick_true (both (is_admission L a) (is_covered L r a)) _ _ judged))
          (λ (w : is_covered L r a ≡ false).
          pick_true (is_marked marks a) _ _ (is_marked_lem a l ∙ h)
          ∙ line_out a l w
          ∙ sym (pick_false (both (is_admission L a) (is_covered L r a)) _ _ (rw (h, w) refl)))
          (decide (is_covered L r a)))
          (λ (h : is_admission L a ≡ false).
          pick_false (is_marked marks a) _ _ (is_marked_lem a l ∙ h)
          ∙ sym (pick_false (both (is_admission L a) (is_covered L r a)) _ _ (rw h refl)))
          (decide (is_admission L a))

      lines_same : (n : ℕ) → n ≤ ticks_max → marked_lines marks row (judged_in L r) n ≡ lines_to L r n
      unfolding marked_lines lines_to
      lines_same zero l = refl
      lines_same (suc n) l = rw (lines_same n (omega arith), line_same n l) refl

      -- behind the record there are none
      lines_end : (k : ℕ) → lines_to L r (ticks_in r + k) ≡ lines_to L r (ticks_in r)
      unfolding lines_to
      lines_end zero = rw (native.Mathlib.Nat.add-zero (ticks_in r)) refl
      lines_end (suc k) =
          let none : is_judged L r (ticks_in r + k) ≡ false =
          fails (is_judged L r (ticks_in r + k)) (λ t. omega (arith, judged_in_lem (ticks_in r + k) t)) in
          rw (native.Mathlib.Nat.add-suc (ticks_in r) k, none) (append-nil (lines_to L r (ticks_in r + k)) ∙ lines_end k)

      pub lines_all : ticks_in r ≤ ticks_max → marked_lines marks row (judged_in L r) ticks_max ≡ lines_to L r (ticks_in r)
      lines_all l =
          let e : ticks_in r + (ticks_max - ticks_in r) ≡ ticks_max = omega arith in
          lines_same ticks_max (omega arith) ∙ ap (lines_to L r) (sym e) ∙ lines_end (ticks_max - ticks_in r)

-- ---- the two calls

module _ (pool : ℕ) (log : List ℕ) (title : ℕ) (r marks row : List ℕ) (size : ticks_max ≡ length row) (many : ticks_max ≡ length marks) where
  abbrev answer : ℕ
  answer = air_answer pool log title r ticks_max

  abbrev L : Life
  L = life_in pool log title

  module _ (ok : answer ≡ done) where
    few : ticks_in r ≤ ticks_max
    few = accepted_few pool log title r ticks_max ok

    marks_done : ticks_answer pool log title ≡ done
    unfolding first_hit ticks_answer
    marks_done =
        let limits : in_limits pool title ≡ true = accepted_limits pool log title r ticks_max ok in
        let whole : is_whole_log log ≡ true = accepted_whole pool log title r ticks_max ok in
        let film : is_film_title L ≡ true = accepted_film pool log title r ticks_max ok in
        rw (limits, whole, film) refl

    marks_left : ticks_leaves pool log title marks ≡ written (mark_of L) marks (length marks)
    unfolding ticks_leaves
    marks_left = pick_true (eqb (ticks_answer pool log title) done) _ _ (eq-eqb _ _ marks_done)

    row_left : air_leaves pool log title r row ≡ results_in L r row
    unfolding air_leaves
    row_left = pick_true (eqb (air_answer pool log title r (length row)) done) _ _ (eq-eqb (air_answer pool log title r (length row)) done (rw (← size) ok))

    given : air_gives pool log title r (length row) ≡ judgement_of L r
    unfolding air_gives
    given = pick_true (eqb (air_answer pool log title r (length row)) done) _ _ (eq-eqb (air_answer pool log title r (length row)) done (rw (← size) ok))

    lines_left : marked_lines (written (mark_of L) marks (length marks)) (results_in L r row) (judged_in L r)
        (length (written (mark_of L) marks (length marks)))
        ≡ lines_to L r (ticks_in r)
    lines_left =
        rw (written_length (mark_of L) marks (length marks), ← many)
        (lines_all L r (written (mark_of L) marks ticks_max) (results_in L r row)
        (λ a l. written_first (mark_of L) marks ticks_max a (omega (arith, many)) l)
        (λ a h. place_of L r row a (omega (arith, few, size)) (judged_in_lem L r a h) h) few)

    pub told_done : air_report (judgement_of L r) (written (mark_of L) marks (length marks)) (results_in L r row) ≡ air_text pool log title r
    unfolding air_report air_text
    told_done =
        ap (λ s. s ++ total_lines (judgement_of L r)) lines_left
        ∙ sym (pick_true (eqb answer done) _ _ (eq-eqb _ _ ok))

  module _ (no : answer ≡ done → ⊥) where
    refused : air_gives pool log title r (length row) ≡ refused_judgement answer
    unfolding air_gives
    refused =
        rw (← size) (pick_false (eqb answer done) (judgement_of L r) (refused_judgement answer) (ne_eqb answer done no))

    pub told_refused : (after left : List ℕ) → air_report (refused_judgement answer) after left ≡ air_text pool log title r
    unfolding air_report air_text
    told_refused after left = rw (ne_eqb answer done no) refl

  pub printed : (g : Judgement) (after left : List ℕ) → g ≡ air_gives pool log title r (length row) →
      left ≡ air_leaves pool log title r row →
      after ≡ ticks_leaves pool log title marks →
      air_report g after left ≡ air_text pool log title r
  printed g after left gives leaves told =
      ⊎_elim
      (λ (t : eqb answer done ≡ true).
      let ok : answer ≡ done = eqb-true answer done t in
      rw (gives ∙ given ok, leaves ∙ row_left ok, told ∙ marks_left ok) (told_done ok))
      (λ (t : eqb answer done ≡ false).
      let no : answer ≡ done → ⊥ = eqb-false answer done t in rw (gives ∙ refused no) (told_refused no after left))
      (decide (eqb answer done))
