-- One byte of a text passed, as the code meets its cases. Rests on the definition of a byte that is passed.
use mathlib.Core.Path.{◌≡◌, refl, ap}
use mathlib.Core.Bool.{Bool, true, false}
use Prim.Native.Nat.{ℕ}
use borrow.Author.Tests.{eq-eqb, ne_eqb}
use Rattle.text.specs.Bytes.{newline, separator}
use Rattle.air.specs.declared.places.Passed.{Passed}
use Rattle.air_record.specs.Record.{one_more_of}
use Rattle.air.specs.Places.{passing}

abbrev passed_of : ℕ → Bool → ℕ → Passed
passed_of words inside line = record { words = words; inside = inside; line = line }

module _ (p : Passed) (b : ℕ) where
  pub passes_line : b ≡ newline → (n : ℕ) → n ≡ one_more_of p.line → passed_of p.words false n ≡ passing p b
  unfolding passing
  passes_line h n e = rw (eq-eqb b newline h) (ap (passed_of p.words false) e)

  module _ (h : b ≡ newline → ⊥) where
    pub passes_gap : separator b ≡ true → passed_of p.words false p.line ≡ passing p b
    unfolding passing
    passes_gap s = rw (ne_eqb b newline h, s) refl

    module _ (s : separator b ≡ false) where
      pub passes_inside : p.inside ≡ true → passed_of p.words true p.line ≡ passing p b
      unfolding passing
      passes_inside i = rw (ne_eqb b newline h, s, i) refl

      pub passes_word : p.inside ≡ false → (n : ℕ) → n ≡ one_more_of p.words → passed_of n true p.line ≡ passing p b
      unfolding passing
      passes_word i n e = rw (ne_eqb b newline h, s, i) (ap (λ x. passed_of x true p.line) e)
