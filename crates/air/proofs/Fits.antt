-- Every report fits into the room that the program prints through, so that none of it is left out: at most 4,096 lines of at
-- most ten bytes, and three totals, or a refusal's one line. Rests on how long a number is.
use mathlib.Core.Path.{◌≡◌, refl, ap, ◌∙◌}
use mathlib.Core.Bool.{Bool, true, false, not}
use mathlib.Core.Logic.{⊎_elim}
use mathlib.Core.List.{List, [], ◌∷◌, ◌++◌}
use Prim.Native.Nat.{ℕ, zero, suc, ◌+◌, ◌-◌, ◌*◌, ◌/◌, ◌%◌, ◌^◌, ◌≤◌, ◌<◌}
use native.Mathlib.Omega.{arith}
use lib.Dec.{ltb, eqb}
use lib.ListN.{length, take, length-append}
use lib.Pow.{pow_mono}
use borrow.Author.Tests.{lt-ltb, eqb-true, eqb-false}
use Rattle.rules.specs.Limits.{count_max}
use Rattle.rules.specs.Refusals.{pick, first_hit, done, outside_limits, wrong_rows, malformed, not_there}
use Rattle.rules.proofs.Tests.{decide}
use Rattle.text.specs.Texts.{text}
use Rattle.text.specs.Digits.{digits, digits_most, decimal}
use Rattle.text.specs.Output.{Written}
use Rattle.text.proofs.Printing.{decimal_short}
use Rattle.text.proofs.Pages.{stands}
use Rattle.files.specs.Lines.{line_of}
use Rattle.words.specs.Words.{refusal_text, meaning_text, naming_words, refusal_words}
use Rattle.notice.specs.Log.{Bytes, is_whole_log}
use Rattle.story.specs.Life.{Life}
use Rattle.agent.specs.Played.{life_in}
use Rattle.judging.specs.Record.{nothing_seen, ticks_max, ticks_in}
use Rattle.judging.specs.Judged.{is_judged, result_of}
use Rattle.judging.proofs.Plays.{result_missed}
use Rattle.airing.specs.declared.Judgement.{Judgement}
use Rattle.airing.specs.Air.{in_limits, has_room_for, is_film_title, all_cells, air_answer, judgement_of}
use Rattle.airing.proofs.Accepted.{accepted_few, accepted_numbers}
use Rattle.air.specs.Lines.{cell_text, admission_line, report_room, lines_to, total_lines, air_text}

-- ---- how long a number of few digits is

digits_below : (k f n : ℕ) (s : List ℕ) → n < 10 ^ suc k → length (digits f n s) ≤ suc k + length s
unfolding digits
digits_below k zero n s h = omega arith
digits_below zero (suc f) n s h = rw (lt-ltb n 10 (omega arith)) (omega arith)
digits_below (suc k) (suc f) n s h =
    go (ltb n 10) (digits_below k f (n / 10) ((48 + n % 10) ∷ s) (omega arith))
  where
    go : (b : Bool) → length (digits f (n / 10) ((48 + n % 10) ∷ s)) ≤ suc k + suc (length s)
        → length (pick b ((48 + n % 10) ∷ s) (digits f (n / 10) ((48 + n % 10) ∷ s))) ≤ suc (suc k) + length s
    go true few = omega arith
    go false few = omega arith

four_digits : (n : ℕ) → n < 10_000 → length (decimal n) ≤ 4
unfolding decimal
four_digits n h = omega (arith, digits_below 3 digits_most n [] (omega arith))

-- ---- a line

space_length : length (text " ") ≡ 1
unfolding text
space_length = refl

newline_length : length (text "\n") ≡ 1
unfolding text
newline_length = refl

line_length : (name : List ℕ) (n : ℕ) (end : List ℕ) → length (line_of name n end) ≡ (length name + length (decimal n)) + length end
unfolding line_of
line_length name n end =
    length-append (name ++ decimal n) end ∙ ap (λ k. k + length end) (length-append name (decimal n))

cell_length : (cell : ℕ) → ((cell ≡ nothing_seen → ⊥) → cell < 10_000) → length (cell_text cell) ≤ 4
unfolding cell_text text
cell_length cell low =
    ⊎_elim (λ t. rw t (omega arith)) (λ f. rw f (four_digits cell (low (eqb-false cell nothing_seen f))))
    (decide (eqb cell nothing_seen))

admission_length : (tick cell : ℕ) → tick < 10_000 → ((cell ≡ nothing_seen → ⊥) → cell < 10_000) →
    length (admission_line tick cell) ≤ 10
unfolding admission_line
admission_length tick cell soon low =
    let whole : length ((line_of [] tick (text " ") ++ cell_text cell) ++ text "\n") ≡ length (line_of [] tick (text " ") ++ cell_text cell) + length (text "\n") =
    length-append (line_of [] tick (text " ") ++ cell_text cell) (text "\n") in
    let parts : length (line_of [] tick (text " ") ++ cell_text cell) ≡ length (line_of [] tick (text " ")) + length (cell_text cell) =
    length-append (line_of [] tick (text " ")) (cell_text cell) in
    let first : length (line_of [] tick (text " ")) ≡ (0 + length (decimal tick)) + length (text " ") = line_length [] tick (text " ") in
    omega (arith, whole, parts, first, four_digits tick soon, cell_length cell low, space_length, newline_length)

-- ---- the lines

module _ (L : Life) (r : List ℕ) (high : L.film.cap ≤ count_max) where
  result_low : (a : ℕ) → (result_of L r a ≡ nothing_seen → ⊥) → result_of L r a < 10_000
  result_low a some =
      let most : 2 ^ L.film.cap ≤ 2 ^ count_max = pow_mono high in omega (arith, (result_missed L r a some).0)

  lines_length : (n : ℕ) → n ≤ ticks_max → length (lines_to L r n) ≤ n * 10
  unfolding lines_to
  lines_length zero few = omega arith
  lines_length (suc a) few =
      let line : List ℕ = pick (is_judged L r a) (admission_line a (result_of L r a)) [] in
      omega (
        arith,
        length-append (lines_to L r a) line,
        lines_length a (omega arith),
        go (is_judged L r a) (admission_length a (result_of L r a) (omega arith) (result_low a)),
      )
    where
      go : (b : Bool) → length (admission_line a (result_of L r a)) ≤ 10 → length (pick b (admission_line a (result_of L r a)) []) ≤ 10
      go true h = h
      go false h = omega arith

-- ---- the totals

module _ (g : Judgement) where
  played_length : length (line_of (text "played through ") g.played (text "\n")) ≤ 40
  unfolding text
  played_length = omega (arith, line_length (text "played through ") g.played (text "\n"), decimal_short g.played)

  starved_length : length (line_of (text "starved ") (g.judged - g.played) (text "\n")) ≤ 40
  unfolding text
  starved_length =
      omega (arith, line_length (text "starved ") (g.judged - g.played) (text "\n"), decimal_short (g.judged - g.played))

  outlast_length : length (line_of (text "outlast the record ") g.outlast (text "\n")) ≤ 40
  unfolding text
  outlast_length = omega (arith, line_length (text "outlast the record ") g.outlast (text "\n"), decimal_short g.outlast)

  totals_length : length (total_lines g) ≤ 120
  unfolding total_lines
  totals_length =
      let a : List ℕ = line_of (text "played through ") g.played (text "\n") in
      let b : List ℕ = line_of (text "starved ") (g.judged - g.played) (text "\n") in
      let c : List ℕ = line_of (text "outlast the record ") g.outlast (text "\n") in
      omega (arith, length-append (a ++ b) c, length-append a b, played_length, starved_length, outlast_length)

-- ---- the report

module _ (pool : ℕ) (log : List ℕ) (title : ℕ) (r : List ℕ) where
  abbrev answer : ℕ
  answer = air_answer pool log title r ticks_max

  refusal_length : length (refusal_text answer 0 ++ text "\n") ≤ 120
  unfolding air_answer first_hit refusal_text meaning_text naming_words refusal_words decimal digits text
  refusal_length =
      go (not (in_limits pool title)) (not (has_room_for r ticks_max)) (not (is_whole_log log)) (not (is_film_title (life_in pool log title)))
      (not (all_cells (life_in pool log title).film.cap r))
    where
      go : (a b c d e : Bool) →
          length (refusal_text (pick a outside_limits (pick b wrong_rows (pick c malformed (pick d not_there (pick e outside_limits done))))) 0 ++ text "\n") ≤ 120
      go true b c d e = omega arith
      go false true c d e = omega arith
      go false false true d e = omega arith
      go false false false true e = omega arith
      go false false false false true = omega arith
      go false false false false false = omega arith

  told_length : answer ≡ done → Bytes log →
      length (lines_to (life_in pool log title) r (ticks_in r) ++ total_lines (judgement_of (life_in pool log title) r)) ≤ report_room
  told_length ok small =
      let L : Life = life_in pool log title in
      let few : ticks_in r ≤ ticks_max = accepted_few pool log title r ticks_max ok in
      let z = accepted_numbers pool log title r ticks_max ok small in
      omega (
        arith,
        length-append (lines_to L r (ticks_in r)) (total_lines (judgement_of L r)),
        lines_length L r z.cap_high (ticks_in r) few,
        totals_length (judgement_of L r),
      )

  pub report_fits : Bytes log → length (air_text pool log title r) ≤ report_room
  unfolding air_text
  report_fits small =
      ⊎_elim
      (λ t. rw t (told_length (eqb-true answer done t) small))
      (λ f. rw f (omega (arith, refusal_length)))
      (decide (eqb answer done))

  -- so what is written of the room is the whole report
  pub report_whole : Bytes log → (out after : List ℕ) (size : ℕ) → length out ≡ report_room →
      Written out 0 (air_text pool log title r) after size → take size after ≡ air_text pool log title r
  report_whole small out after size room is =
      (stands (air_text pool log title r) out after size is (omega (arith, report_fits small))).whole
