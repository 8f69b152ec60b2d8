-- Numbers that are printed twelve to a line read back as a record: no word and no line of the text is wrong, and its numbers go into the
-- row in their order. Rests on the definition of a record's text as far as it was read, byte by byte.
use mathlib.Core.Path.{◌≡◌, refl, sym, ap, ◌∙◌}
use mathlib.Core.Bool.{Bool, true, false}
use mathlib.Core.Logic.{⊎_elim}
use mathlib.Core.List.{List, [], ◌∷◌, ◌++◌}
use Prim.Native.Nat.{ℕ, zero, suc, ◌+◌, ◌*◌, ◌/◌, ◌%◌, ◌^◌, ◌≤◌, ◌<◌, min}
use native.Mathlib.Omega.{arith}
use native.Mathlib.Nat.{pow-suc}
use native.Mathlib.Numerals.{add-one}
use borrow.Author.Tests.{lt-ltb, le-ltb, le-leb, ltb-true, ltb-false, ne_eqb, eqb-true, eqb-false}
use lib.Dec.{ltb, eqb}
use lib.ListN.{length, drop, set, drop_of_length-le}
use lib.Seq.{drop-cons}
use Rattle.rules.specs.Limits.{lane_max, lane_places}
use Rattle.rules.specs.Refusals.{pick}
use Rattle.rules.proofs.Tests.{decide}
use Rattle.text.specs.Texts.{text}
use Rattle.text.specs.Bytes.{newline, separator, digit, digit_of}
use Rattle.text.specs.Numbers.{top}
use Rattle.text.specs.Digits.{digits, decimal}
use Rattle.text.specs.Output.{put}
use Rattle.plans.specs.Row.{written}
use Rattle.plans.proofs.Row.{written_length}
use Rattle.judging.specs.Record.{nothing_seen}
use Rattle.air_record.specs.declared.record.Scan.{Scan}
use Rattle.air_record.specs.Record.{cell_spelt, sound, one_more_of, SoFar, so_far, nothing_read, ending_cell, closing, longer, dashed, spelling, taking_byte, taken_to, all_taken}
use Rattle.playouts.specs.Lines.{carried_text, behind_place, place_line, number_lines}

-- ---- bytes one behind the other

unfoldable taking : SoFar → List ℕ → SoFar
taking s [] = s
taking s (b ∷ bs) = taking (taking_byte s b) bs

taking_append : (s : SoFar) (xs ys : List ℕ) → taking s (xs ++ ys) ≡ taking (taking s xs) ys
unfolding taking
taking_append s [] ys = refl
taking_append s (b ∷ xs) ys = taking_append (taking_byte s b) xs ys

module _ (bs row : List ℕ) where
  -- so many bytes taken, and the others behind them
  taken_then : (n : ℕ) → n ≤ length bs → taking (taken_to bs row n) (drop n bs) ≡ taking (so_far row nothing_read) bs
  unfolding taken_to taking
  taken_then zero le = refl
  taken_then (suc n) le =
      ap (taking (taken_to bs row n)) (sym (drop-cons bs n 0 (omega arith))) ∙ taken_then n (omega arith)

  taken_all : taken_to bs row (length bs) ≡ taking (so_far row nothing_read) bs
  unfolding taking
  taken_all =
      let end : length bs ≤ length bs = omega arith in
      sym (ap (taking (taken_to bs row (length bs))) (drop_of_length-le bs end)) ∙ taken_then (length bs) end

-- ---- a word

-- where no word has begun, and one of so many lines and words has
abbrev between_words : ℕ → ℕ → ℕ → Scan
between_words count words line = record { count = count; value = 0; inside = false; dash = false; words = words; line = line; fault = sound }

abbrev in_word : ℕ → ℕ → ℕ → ℕ → Bool → Scan
in_word count words line v d = record { count = count; value = v; inside = true; dash = d; words = words; line = line; fault = sound }

module _ (row : List ℕ) (count words line : ℕ) where
  -- a digit, the first of a word or behind others
  is_digit : (n : ℕ) → digit (48 + n % 10) ≡ true
  is_digit n = rw (le-leb 48 (48 + n % 10) (omega arith), le-leb (48 + n % 10) 57 (omega arith)) refl

  no_newline : (n : ℕ) → eqb (48 + n % 10) newline ≡ false
  no_newline n = ne_eqb (48 + n % 10) newline (λ e. omega arith)

  no_gap : (n : ℕ) → separator (48 + n % 10) ≡ false
  no_gap n =
      rw (
        ne_eqb (48 + n % 10) 32 (λ e. omega arith),
        ne_eqb (48 + n % 10) 9 (λ e. omega arith),
        ne_eqb (48 + n % 10) 13 (λ e. omega arith),
      )
      refl

  first_digit : (n : ℕ) → n < 10 →
      taking_byte (so_far row (between_words count words line)) (48 + n % 10) ≡ so_far row (in_word count words line n false)
  unfolding taking_byte spelling longer
  first_digit n low =
      let v : min (10 * 0 + digit_of (48 + n % 10)) top ≡ n = omega arith in
      rw (no_newline n, no_gap n, is_digit n, v) refl

  next_digit : (n : ℕ) → n ≤ nothing_seen →
      taking_byte (so_far row (in_word count words line (n / 10) false)) (48 + n % 10) ≡ so_far row (in_word count words line n false)
  unfolding taking_byte spelling longer
  next_digit n low =
      let v : min (10 * (n / 10) + digit_of (48 + n % 10)) top ≡ n = omega arith in
      rw (no_newline n, no_gap n, is_digit n, v) refl

  -- the digits of a number, by its size
  by_size : (f n : ℕ) (s : List ℕ) (t : Bool) → ltb n 10 ≡ t → n ≤ nothing_seen →
      (10 ≤ n → taking (so_far row (between_words count words line)) (digits f (n / 10) ((48 + n % 10) ∷ s)) ≡ taking (so_far row (in_word count words line (n / 10) false)) ((48 + n % 10) ∷ s))
      → taking (so_far row (between_words count words line)) (pick t ((48 + n % 10) ∷ s) (digits f (n / 10) ((48 + n % 10) ∷ s))) ≡ taking (so_far row (in_word count words line n false)) s
  unfolding taking
  by_size f n s true e low more = ap (λ (o : SoFar). taking o s) (first_digit n (ltb-true n 10 e))
  by_size f n s false e low more = more (ltb-false n 10 e) ∙ ap (λ (o : SoFar). taking o s) (next_digit n low)

  digits_taken : (f n : ℕ) (s : List ℕ) → n < 10 ^ suc f → n ≤ nothing_seen →
      taking (so_far row (between_words count words line)) (digits (suc f) n s) ≡ taking (so_far row (in_word count words line n false)) s
  unfolding digits
  digits_taken zero n s h low = by_size zero n s (ltb n 10) refl low (λ big. absurd (omega arith))
  digits_taken (suc f) n s h low =
      let p : n < 10 * 10 ^ suc f = omega (arith, pow-suc 10 (suc f)) in
      by_size (suc f) n s (ltb n 10) refl low (λ big. digits_taken f (n / 10) ((48 + n % 10) ∷ s) (omega arith) (omega arith))

  decimal_taken : (n : ℕ) → n ≤ nothing_seen →
      taking (so_far row (between_words count words line)) (decimal n) ≡ so_far row (in_word count words line n false)
  unfolding decimal taking
  decimal_taken n low = digits_taken 19 n [] (omega arith) low

  dash_taken : taking (so_far row (between_words count words line)) (text "-") ≡ so_far row (in_word count words line nothing_seen true)
  unfolding taking taking_byte spelling dashed text
  dash_taken = refl

  -- a number or a dash begins a word with its value
  carried_taken : (n : ℕ) → n ≤ nothing_seen →
      (d : Bool) × (taking (so_far row (between_words count words line)) (carried_text n) ≡ so_far row (in_word count words line n d))
  unfolding carried_text
  carried_taken n low =
      ⊎_elim
      (λ x. (true, rw x (dash_taken ∙ ap (λ v. so_far row (in_word count words line v true)) (sym (eqb-true n nothing_seen x)))))
      (λ x. (false, rw x (decimal_taken n low)))
      (decide (eqb n nothing_seen))

  -- ---- the end of a word

  module _ (v : ℕ) (d : Bool) (low : v ≤ nothing_seen) (room : count < length row) (few : words < lane_places) where
    ended : ending_cell (so_far row (in_word count words line v d)) ≡ so_far (set row count v) (between_words (count + 1) (words + 1) line)
    unfolding ending_cell cell_spelt one_more_of put
    ended =
        let more : min (words + 1) top ≡ words + 1 = omega arith in
        rw (le-ltb nothing_seen v low, lt-ltb count (length row) room, more) refl

    space_taken : taking (so_far row (in_word count words line v d)) (text " ") ≡ so_far (set row count v) (between_words (count + 1) (words + 1) line)
    unfolding taking taking_byte text
    space_taken = ended

    newline_taken : words ≡ lane_max →
        taking (so_far row (in_word count words line v d)) (text "\n") ≡ so_far (set row count v) (between_words (count + 1) 0 (one_more_of line))
    unfolding taking taking_byte text closing
    newline_taken last = rw (ended, last) refl

-- ---- all places

-- the line of the words behind so many lines
unfoldable line_behind : ℕ → ℕ
line_behind zero = 1
line_behind (suc n) = one_more_of (line_behind n)

module _ (f : ℕ → ℕ) (row : List ℕ) (low : (j : ℕ) → j < length row → f j ≤ nothing_seen) where
  -- a text of so many numbers, as far as it was read
  abbrev read_to : ℕ → SoFar
  read_to j = so_far (written f row j) (between_words j (j % lane_places) (line_behind (j / lane_places)))

  place_taken : (j : ℕ) → j < length row → taking (read_to j) (place_line f j) ≡ read_to (suc j)
  unfolding place_line behind_place line_behind written
  place_taken j room =
      let words : ℕ = j % lane_places in
      let line : ℕ = line_behind (j / lane_places) in
      let fits : j < length (written f row j) = omega (arith, written_length f row j) in
      let few : words < lane_places = omega arith in
      let word = carried_taken (written f row j) j words line (f j) (low j room) in
      taking_append (read_to j) (carried_text (f j)) (behind_place j)
      ∙ ap (λ (o : SoFar). taking o (behind_place j)) word.1
      ∙ ⊎_elim
      (λ x.
      let last : words ≡ lane_max = eqb-true words lane_max x in
      let none : suc j % lane_places ≡ 0 = omega arith in
      let next : suc j / lane_places ≡ suc (j / lane_places) = omega arith in
      rw (x, none, next, ← add-one j) (newline_taken (written f row j) j words line (f j) word.0 (low j room) fits few last))
      (λ x.
      let inner : words ≡ lane_max → ⊥ = eqb-false words lane_max x in
      let more : suc j % lane_places ≡ words + 1 = next_word j inner in
      let same : suc j / lane_places ≡ j / lane_places = same_line j inner in
      rw (x, more, same, ← add-one j) (space_taken (written f row j) j words line (f j) word.0 (low j room) fits few))
      (decide (eqb words lane_max))
    where
      next_word : (j : ℕ) → (j % lane_places ≡ lane_max → ⊥) → suc j % lane_places ≡ j % lane_places + 1
      next_word j inner =
          ⊎_elim (λ x. omega (arith, ltb-true (j % lane_places) lane_max x)) (λ x. absurd (inner (omega (arith, ltb-false (j % lane_places) lane_max x))))
          (decide (ltb (j % lane_places) lane_max))

      same_line : (j : ℕ) → (j % lane_places ≡ lane_max → ⊥) → suc j / lane_places ≡ j / lane_places
      same_line j inner =
          ⊎_elim (λ x. omega (arith, ltb-true (j % lane_places) lane_max x)) (λ x. absurd (inner (omega (arith, ltb-false (j % lane_places) lane_max x))))
          (decide (ltb (j % lane_places) lane_max))

  places_taken : (n : ℕ) → n ≤ length row → taking (so_far row nothing_read) (number_lines f n) ≡ read_to n
  unfolding number_lines taking line_behind written
  places_taken zero le = refl
  places_taken (suc j) le =
      taking_append (so_far row nothing_read) (number_lines f j) (place_line f j)
      ∙ ap (λ (o : SoFar). taking o (place_line f j)) (places_taken j (omega arith))
      ∙ place_taken j (omega arith)

  -- whole lines, and the text's end
  lines_read : (n : ℕ) → n * lane_places ≤ length row →
      all_taken (number_lines f (n * lane_places)) row ≡ so_far (written f row (n * lane_places)) (between_words (n * lane_places) 0 (one_more_of (line_behind n)))
  unfolding taking_byte ending_cell closing
  lines_read n le =
      let none : n * lane_places % lane_places ≡ 0 = omega arith in
      let all : n * lane_places / lane_places ≡ n = omega arith in
      let so_far_holds : taken_to (number_lines f (n * lane_places)) row (length (number_lines f (n * lane_places))) ≡ so_far (written f row (n * lane_places)) (between_words (n * lane_places) 0 (line_behind n)) =
      taken_all (number_lines f (n * lane_places)) row ∙ places_taken (n * lane_places) le ∙ rw (none, all) refl in
      rw so_far_holds refl

  pub read_fault : (n : ℕ) → n * lane_places ≤ length row → (all_taken (number_lines f (n * lane_places)) row).scan.fault ≡ sound
  read_fault n le = ap (λ (o : SoFar). o.scan.fault) (lines_read n le)

  pub read_count : (n : ℕ) → n * lane_places ≤ length row → (all_taken (number_lines f (n * lane_places)) row).scan.count ≡ n * lane_places
  read_count n le = ap (λ (o : SoFar). o.scan.count) (lines_read n le)

  pub read_row : (n : ℕ) → n * lane_places ≤ length row → (all_taken (number_lines f (n * lane_places)) row).row ≡ written f row (n * lane_places)
  read_row n le = ap (λ (o : SoFar). o.row) (lines_read n le)
