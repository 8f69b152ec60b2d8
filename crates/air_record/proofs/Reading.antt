-- Laws of one byte of a record's text, as the code meets its cases. Rest on the definition of a text as far as it was read.
use mathlib.Core.Path.{◌≡◌, refl, sym, ap, ◌∙◌}
use mathlib.Core.Bool.{Bool, true, false}
use mathlib.Core.Logic.{⊎_elim}
use mathlib.Core.List.{List}
use Prim.Native.Nat.{ℕ, zero, suc, ◌<◌, ◌≤◌}
use native.Mathlib.Omega.{arith}
use borrow.Author.Tests.{lt-ltb, le-ltb, eq-eqb, ne_eqb}
use lib.ListN.{length, get_or}
use lib.Dec.{eqb}
use Rattle.rules.specs.Limits.{either, lane_places}
use Rattle.rules.specs.Refusals.{pick}
use Rattle.rules.proofs.Tests.{decide, pick_true, pick_false}
use Rattle.text.specs.declared.numbers.Number.{Number}
use Rattle.text.specs.Bytes.{newline, separator, digit}
use Rattle.text.specs.Numbers.{grow}
use Rattle.text.specs.Output.{Page, page, put}
use Rattle.text.proofs.Pages.{put_length, put_within}
use Rattle.judging.specs.Record.{nothing_seen}
use Rattle.air_record.specs.declared.record.Scan.{Scan}
use Rattle.air_record.specs.Record.{no_cell, cell_spelt, no_number, not_twelve, dash, sound, one_more_of, SoFar, so_far, ending_cell, closing, failing, longer, dashed, spelling, taking_byte, taken_to, all_taken}

-- ---- a number as the record has it

pub cell_large : (v : ℕ) → nothing_seen < v → no_cell ≡ cell_spelt v
unfolding cell_spelt
cell_large v h = rw (lt-ltb nothing_seen v h)

pub cell_small : (v : ℕ) → v ≤ nothing_seen → v ≡ cell_spelt v
unfolding cell_spelt
cell_small v h = rw (le-ltb nothing_seen v h)

-- ---- the end of a word

module _ (row : List ℕ) (s : Scan) where
  pub ends_in : (after : List ℕ) (n cell words : ℕ) → s.inside ≡ true → cell ≡ cell_spelt s.value → page after n ≡ put (page row s.count) cell
      → words ≡ one_more_of s.words
      → so_far after (record { count = n; value = 0; inside = false; dash = false; words = words; line = s.line; fault = s.fault })
      ≡ ending_cell (so_far row s)
  unfolding ending_cell
  ends_in after n cell words h is e m =
      rw (h, ← is, m)
      (ap
      (λ (p : Page).
      so_far p.row
      (record { count = p.at; value = 0; inside = false; dash = false; words = one_more_of s.words; line = s.line; fault = s.fault }))
      e)

  pub ends_out : s.inside ≡ false → so_far row s ≡ ending_cell (so_far row s)
  unfolding ending_cell
  ends_out h = rw h

-- ---- the end of a line

module _ (s : Scan) where
  pub closes_none : (line : ℕ) → s.words ≡ 0 → line ≡ one_more_of s.line
      → record { count = s.count; value = s.value; inside = s.inside; dash = s.dash; words = s.words; line = line; fault = s.fault }
      ≡ closing s
  unfolding closing
  closes_none line h e = rw (h, e)

  pub closes_all : (line : ℕ) → (s.words ≡ 0 → ⊥) → s.words ≡ lane_places → line ≡ one_more_of s.line
      → record { count = s.count; value = s.value; inside = s.inside; dash = s.dash; words = 0; line = line; fault = s.fault } ≡ closing s
  unfolding closing
  closes_all line none h e = rw (ne_eqb _ _ none, eq-eqb _ _ h, e)

  pub closes_other : (s.words ≡ 0 → ⊥) → (s.words ≡ lane_places → ⊥)
      → record { count = s.count; value = s.value; inside = s.inside; dash = s.dash; words = s.words; line = s.line; fault = not_twelve }
      ≡ closing s
  unfolding closing
  closes_other none h = rw (ne_eqb _ _ none, ne_eqb _ _ h)

  pub fails : (words : ℕ) → words ≡ one_more_of s.words
      → record { count = s.count; value = s.value; inside = s.inside; dash = s.dash; words = words; line = s.line; fault = no_number }
      ≡ failing s
  unfolding failing
  fails words e = rw e

  -- ---- a byte of a word

  module _ (b : ℕ) where
    module _ (d : digit b ≡ true) where
      pub spells_behind_dash : (r : Scan) → s.dash ≡ true → r ≡ failing s → r ≡ spelling s b
      unfolding spelling
      spells_behind_dash r h e = e ∙ sym (pick_true (digit b) _ _ d ∙ pick_true s.dash _ _ h)

      pub spells_digit : (n : Number) → s.dash ≡ false → n ≡ grow (record { value = s.value; over = false }) b
          → record { count = s.count; value = n.value; inside = true; dash = s.dash; words = s.words; line = s.line; fault = s.fault }
          ≡ spelling s b
      unfolding spelling longer grow
      spells_digit n h e = rw (d, h, e)

    module _ (d : digit b ≡ false) where
      module _ (is : b ≡ dash) where
        pub spells_dash_inside : (r : Scan) → s.inside ≡ true → r ≡ failing s → r ≡ spelling s b
        unfolding spelling
        spells_dash_inside r h e =
            e ∙ sym (pick_false (digit b) _ _ d ∙ pick_true (eqb b dash) _ _ (eq-eqb b dash is) ∙ pick_true s.inside _ _ h)

        pub spells_dash : s.inside ≡ false
            → record { count = s.count; value = nothing_seen; inside = true; dash = true; words = s.words; line = s.line; fault = s.fault }
            ≡ spelling s b
        unfolding spelling dashed
        spells_dash h =
            sym (pick_false (digit b) _ _ d ∙ pick_true (eqb b dash) _ _ (eq-eqb b dash is) ∙ pick_false s.inside _ _ h)

      pub spells_other : (r : Scan) → (b ≡ dash → ⊥) → r ≡ failing s → r ≡ spelling s b
      unfolding spelling
      spells_other r h e = e ∙ sym (pick_false (digit b) _ _ d ∙ pick_false (eqb b dash) _ _ (ne_eqb b dash h))

-- ---- a byte of the text

module _ (row : List ℕ) (s : Scan) (b : ℕ) where
  pub takes_none : (s.fault ≡ sound → ⊥) → so_far row s ≡ taking_byte (so_far row s) b
  unfolding taking_byte
  takes_none h = sym (pick_false (eqb s.fault sound) _ _ (ne_eqb _ _ h))

  module _ (ok : s.fault ≡ sound) where
    pub takes_newline : (after : List ℕ) (q r : Scan) → b ≡ newline → so_far after q ≡ ending_cell (so_far row s) → r ≡ closing q
        → so_far after r ≡ taking_byte (so_far row s) b
    unfolding taking_byte
    takes_newline after q r h e f =
        ap (so_far after) f
        ∙ ap (λ (o : SoFar). so_far o.row (closing o.scan)) e
        ∙ sym (pick_true (eqb s.fault sound) _ _ (eq-eqb _ _ ok) ∙ pick_true (eqb b newline) _ _ (eq-eqb _ _ h))

    module _ (other : b ≡ newline → ⊥) where
      pub takes_separator : (after : List ℕ) (q : Scan) → separator b ≡ true → so_far after q ≡ ending_cell (so_far row s)
          → so_far after q ≡ taking_byte (so_far row s) b
      unfolding taking_byte
      takes_separator after q h e =
          e
          ∙ sym
          (pick_true (eqb s.fault sound) _ _ (eq-eqb _ _ ok)
          ∙ pick_false (eqb b newline) _ _ (ne_eqb _ _ other)
          ∙ pick_true (separator b) _ _ h)

      pub takes_other : (q : Scan) → separator b ≡ false → q ≡ spelling s b → so_far row q ≡ taking_byte (so_far row s) b
      unfolding taking_byte
      takes_other q h e =
          ap (so_far row) e
          ∙ sym
          (pick_true (eqb s.fault sound) _ _ (eq-eqb _ _ ok)
          ∙ pick_false (eqb b newline) _ _ (ne_eqb _ _ other)
          ∙ pick_false (separator b) _ _ h)

-- ---- the row keeps its length

pub ending_length : (s : SoFar) → length (ending_cell s).row ≡ length s.row
unfolding ending_cell
ending_length s =
    ⊎_elim (λ h. rw h (put_length (page s.row s.scan.count) (cell_spelt s.scan.value))) (λ h. rw h) (decide s.scan.inside)

pub taking_length : (s : SoFar) (b : ℕ) → length (taking_byte s b).row ≡ length s.row
unfolding taking_byte
taking_length s b = go (eqb s.scan.fault sound) (eqb b newline) (separator b)
  where
    go : (ok n g : Bool) →
        length
        (pick ok (pick n (so_far (ending_cell s).row (closing (ending_cell s).scan)) (pick g (ending_cell s) (so_far s.row (spelling s.scan b)))) s).row
        ≡ length s.row
    go true true g = ending_length s
    go true false true = ending_length s
    go true false false = refl
    go false n g = refl

-- ---- no more numbers are counted than the row holds

abbrev Within : SoFar → Type 0
Within s = s.scan.count ≤ length s.row

ending_within : (s : SoFar) → Within s → Within (ending_cell s)
unfolding ending_cell
ending_within s h =
    ⊎_elim (λ t. rw t (put_within (page s.row s.scan.count) (cell_spelt s.scan.value) h)) (λ t. rw t h) (decide s.scan.inside)

closing_count : (s : Scan) → (closing s).count ≡ s.count
unfolding closing
closing_count s = ⊎_elim (λ t. rw t) (λ t. rw t) (decide (either (eqb s.words 0) (eqb s.words lane_places)))

spelling_count : (s : Scan) (b : ℕ) → (spelling s b).count ≡ s.count
unfolding spelling failing longer dashed
spelling_count s b = go (digit b) (eqb b dash) s.dash s.inside
  where
    go : (d h k i : Bool) → (pick d (pick k (failing s) (longer s b)) (pick h (pick i (failing s) (dashed s)) (failing s))).count ≡ s.count
    go true h true i = refl
    go true h false i = refl
    go false true k true = refl
    go false true k false = refl
    go false false k i = refl

taking_within : (s : SoFar) (b : ℕ) → Within s → Within (taking_byte s b)
unfolding taking_byte
taking_within s b h = go (eqb s.scan.fault sound) (eqb b newline) (separator b)
  where
    go : (ok n g : Bool) →
        Within
        (pick ok (pick n (so_far (ending_cell s).row (closing (ending_cell s).scan)) (pick g (ending_cell s) (so_far s.row (spelling s.scan b)))) s)
    go true true g = rw (closing_count (ending_cell s).scan) (ending_within s h)
    go true false true = ending_within s h
    go true false false = rw (spelling_count s.scan b) h
    go false n g = h

to_within : (text row : List ℕ) (n : ℕ) → Within (taken_to text row n)
unfolding taken_to
to_within text row zero = omega arith
to_within text row (suc n) = taking_within (taken_to text row n) (get_or text n 0) (to_within text row n)

pub taken_within : (text row after : List ℕ) (r : Scan) → so_far after r ≡ all_taken text row → r.count ≤ length after
taken_within text row after r e =
    rw (← e) at (taking_within (taken_to text row (length text)) newline (to_within text row (length text)))
