-- The two calls, way by way: what their answers are, and what a log that is followed to its end lets them give back. Rests on the
-- laws of listed refusals, on what the log's reading left, and on what judging settles of a life with the marked admissions.
use mathlib.Core.Path.{◌≡◌, refl, sym, ap, ◌∙◌}
use mathlib.Core.Bool.{true, false, not}
use mathlib.Core.List.{List, [], ◌∷◌, ◌++◌}
use Prim.Native.Nat.{ℕ, ◌%◌, ◌≤◌}
use native.Mathlib.Omega.{arith}
use borrow.Author.Tests.{leb-true, eq-eqb, ne_eqb, not-false}
use lib.Dec.{leb, eqb}
use lib.ListN.{length}
use Rattle.rules.specs.Limits.{both, lane_places, count_max}
use Rattle.rules.specs.Refusals.{pick, Rule, refuse, first_hit, done, outside_limits, wrong_rows, malformed, not_there}
use Rattle.rules.proofs.Tests.{both_r, both_l, pick_true, pick_false}
use Rattle.rules.proofs.Refusals.{hits_of, numbered, cleared, hit_append}
use Rattle.notice.specs.Log.{is_whole_log}
use Rattle.plans.proofs.Row.{written_length, written_first}
use Rattle.story.specs.Life.{Life}
use Rattle.agent.specs.Played.{life_in}
use Rattle.judging.specs.declared.Counts.{Counts}
use Rattle.judging.specs.Record.{ticks_max, ticks_in}
use Rattle.judging.specs.Judge.{Judgeable, MarkedBy, Judges}
use Rattle.airing.specs.declared.Judgement.{Judgement}
use Rattle.airing.specs.declared.follow.Ending.{Ending}
use Rattle.airing.specs.Air.{in_limits, has_room_for, is_film_title, all_cells, air_answer, refused_judgement, air_gives, air_leaves, ticks_answer, mark_of, ticks_leaves}
use Rattle.airing.specs.inner.Steps.{SameFilm, log_answer, Follows, rows_answer}

-- ---- the call that tells the admissions

module _ (pool : ℕ) (log : List ℕ) (title : ℕ) (row : List ℕ) where
  -- what it settles: the answer, and the row that it leaves
  abbrev Ticks : ℕ → List ℕ → Type 0
  Ticks a after = (a ≡ ticks_answer pool log title) × (after ≡ ticks_leaves pool log title row)

  refused_ticks : (a : ℕ) → a ≡ ticks_answer pool log title → (a ≡ done → ⊥) → Ticks a row
  unfolding ticks_leaves
  refused_ticks a is not-ok = (is, rw (ne_eqb (ticks_answer pool log title) done (λ h. not-ok (is ∙ h))) refl)

  ticks_first : in_limits pool title ≡ false → outside_limits ≡ ticks_answer pool log title
  unfolding ticks_answer first_hit
  ticks_first out = rw out refl

  pub ticks_outside : in_limits pool title ≡ false → Ticks outside_limits row
  ticks_outside out = refused_ticks outside_limits (ticks_first out) (λ h. omega arith)

  module _ (fits : in_limits pool title ≡ true) (a : ℕ) (is : a ≡ log_answer pool log title) where
    by_log : a ≡ ticks_answer pool log title
    unfolding ticks_answer log_answer first_hit
    by_log = is ∙ rw fits refl

    pub ticks_refused : (a ≡ done → ⊥) → Ticks a row
    ticks_refused not-ok = refused_ticks a by_log not-ok

    pub ticks_done : (r : Ending) (k : List ℕ) → a ≡ done → Follows pool log title row r k → Ticks a k
    unfolding ticks_leaves
    ticks_done r k ok w =
        (by_log, rw (eq-eqb (ticks_answer pool log title) done (sym by_log ∙ ok)) (w.marks_are (w.ends.answer_is ∙ sym is ∙ ok)))

-- ---- the call that judges a record

abbrev counted : Counts → Judgement
counted c = record { answer = done; judged = c.judged; played = c.played; outlast = c.outlast }

module _ (pool : ℕ) (log : List ℕ) (title : ℕ) (r : List ℕ) (row : List ℕ) where
  abbrev first : ℕ
  first = rows_answer pool title r (length row)

  abbrev answer : ℕ
  answer = air_answer pool log title r (length row)

  -- what it settles: what it gives back, and the row that it leaves
  abbrev Airs : Judgement → List ℕ → Type 0
  Airs j after = (j ≡ air_gives pool log title r (length row)) × (after ≡ air_leaves pool log title r row)

  refused_air : (a : ℕ) (j : Judgement) → a ≡ answer → (a ≡ done → ⊥) → j ≡ refused_judgement a → Airs j row
  unfolding air_gives air_leaves
  refused_air a j is not-ok e =
      let off = ne_eqb answer done (λ h. not-ok (is ∙ h)) in (e ∙ rw (off, ← is) refl, rw off refl)

  -- the refusals in three parts: those before the log, those of the log, and that of the record's numbers
  abbrev first_rules : List Rule
  first_rules = refuse outside_limits (not (in_limits pool title)) ∷ refuse wrong_rows (not (has_room_for r (length row))) ∷ []

  abbrev log_rules : List Rule
  log_rules = refuse malformed (not (is_whole_log log)) ∷ refuse not_there (not (is_film_title (life_in pool log title))) ∷ []

  abbrev last_rules : List Rule
  last_rules = refuse outside_limits (not (all_cells (life_in pool log title).film.cap r)) ∷ []

  in_two : answer ≡ pick (eqb first 0) (first_hit (log_rules ++ last_rules)) first
  unfolding air_answer rows_answer numbered
  in_two = hit_append first_rules (log_rules ++ last_rules) refl

  then_log : first_hit (log_rules ++ last_rules) ≡ pick (eqb (log_answer pool log title) 0) (first_hit last_rules) (log_answer pool log title)
  unfolding log_answer numbered
  then_log = hit_append log_rules last_rules refl

  numbers_hit : all_cells (life_in pool log title).film.cap r ≡ false → first_hit last_rules ≡ outside_limits
  unfolding first_hit
  numbers_hit bad = rw bad refl

  numbers_pass : all_cells (life_in pool log title).film.cap r ≡ true → first_hit last_rules ≡ done
  unfolding first_hit
  numbers_pass good = rw good refl

  -- one that does not hang on the log
  pub air_first : (j : Judgement) → (first ≡ done → ⊥) → j ≡ refused_judgement first → Airs j row
  air_first j not-ok e =
      refused_air first j (sym (in_two ∙ pick_false (eqb first 0) _ first (ne_eqb first 0 not-ok))) not-ok e

  module _ (none : first ≡ done) where
    -- what a question that passes those has
    pub fits : in_limits pool title ≡ true
    unfolding rows_answer hits_of numbered
    fits = not-false (in_limits pool title) (cleared first_rules refl none outside_limits)

    room : has_room_for r (length row) ≡ true
    unfolding rows_answer hits_of numbered
    room = not-false (has_room_for r (length row)) (cleared first_rules refl none wrong_rows)

    sized : both (leb (ticks_in r) ticks_max) (leb (ticks_in r) (length row)) ≡ true
    unfolding has_room_for
    sized = both_r (eqb (length r % lane_places) 0) (both (leb (ticks_in r) ticks_max) (leb (ticks_in r) (length row))) room

    few : ticks_in r ≤ ticks_max
    few = leb-true (ticks_in r) ticks_max (both_l (leb (ticks_in r) ticks_max) (leb (ticks_in r) (length row)) sized)

    roomy : ticks_in r ≤ length row
    roomy = leb-true (ticks_in r) (length row) (both_r (leb (ticks_in r) ticks_max) (leb (ticks_in r) (length row)) sized)

    log_first : answer ≡ pick (eqb (log_answer pool log title) 0) (first_hit last_rules) (log_answer pool log title)
    log_first = in_two ∙ pick_true (eqb first 0) _ first (eq-eqb first 0 none) ∙ then_log

    -- the log, followed over a row of marks
    module _ (marks : List ℕ) (f : Ending) (k : List ℕ) (w : Follows pool log title marks f k) where
      -- one that the log decides
      pub air_log : (j : Judgement) → (f.answer ≡ done → ⊥) → j ≡ refused_judgement f.answer → Airs j row
      air_log j not-ok e = refused_air f.answer j is not-ok e
        where
          some : log_answer pool log title ≡ 0 → ⊥
          some h = not-ok (w.ends.answer_is ∙ h)

          is : f.answer ≡ answer
          is = w.ends.answer_is ∙ sym (log_first ∙ pick_false (eqb (log_answer pool log title) 0) _ (log_answer pool log title) (ne_eqb (log_answer pool log title) 0 some))

      module _ (ok : f.answer ≡ done) where
        abbrev L : Life
        L = life_in pool log title

        stood : SameFilm L f.title
        stood = w.ends.standing ok

        pub cap_high : f.title.film.cap ≤ count_max
        cap_high = stood.film.cut.high

        last_one : answer ≡ first_hit last_rules
        last_one =
            log_first
            ∙ pick_true (eqb (log_answer pool log title) 0) _ (log_answer pool log title) (eq-eqb (log_answer pool log title) 0 (sym w.ends.answer_is ∙ ok))

        -- a number that the title can't have
        pub air_number_lem : (j : Judgement) → all_cells f.title.film.cap r ≡ false → j ≡ refused_judgement outside_limits → Airs j row
        air_number_lem j bad e = refused_air outside_limits j (sym last_one') (λ h. omega arith) e
          where
            last_one' : answer ≡ outside_limits
            last_one' = last_one ∙ numbers_hit (rw stood.same_film bad)

        -- what judging builds on, where the row of marks is long enough
        module _ (long : ticks_max ≤ length marks) where
          same_size : length k ≡ length marks
          same_size = rw (w.marks_are ok) (written_length (mark_of L) marks (length marks))

          pub judgeable : Judgeable f.title r k row
          judgeable =
              record {
                sized = stood.film.sized;
                cut = stood.film.cut;
                few = few;
                marked = omega (arith, few, same_size);
                room = roomy;
              }

          marked : MarkedBy f.title k (ticks_in r) L
          marked =
              record {
                padded = stood.padded;
                same_film = stood.same_film;
                mark = λ a lt. rw (w.marks_are ok) (written_first (mark_of L) marks (length marks) a (omega arith) (omega (arith, few)));
              }

          -- the judgement
          pub air_judged : (c : Counts) (after : List ℕ) → all_cells f.title.film.cap r ≡ true → Judges f.title r k row after c →
              Airs (counted c) after
          unfolding air_gives air_leaves
          air_judged c after good j =
              let all : answer ≡ done = last_one ∙ numbers_pass (rw stood.same_film good) in
              rw (eq-eqb answer done all) (
                ap counted (j.counts L marked),
                j.results L marked,
              )
