-- Laws of words in either case: a word is compared with a name byte by byte, and is another where their lengths differ.
use Prim.Native.Nat.{ℕ, zero, suc, ◌<◌}
use mathlib.Core.Path.{◌≡◌, refl, sym, ap, ◌∙◌}
use mathlib.Core.Bool.{Bool, true, false}
use mathlib.Core.List.{List, [], ◌∷◌}
use native.Mathlib.Omega.{arith}
use lib.ListN.{length, get_or}
use Rattle.std.specs.Char.{to_ascii_lowercase}
use Rattle.std.proofs.lemmas.Bool.Decides.{nat_tests}
use Rattle.text.specs.Texts.{same}
use Rattle.text.proofs.Tables.{same_eq}
use Rattle.console_commands.specs.Letters.{lower_of, lowered}
use Rattle.console_commands.specs.Commands.{command_table, seek, verb_of}

-- the library's small letter
pub small_letter : (b : ℕ) → to_ascii_lowercase b ≡ lower_of b
unfolding lower_of
small_letter b = grind (arith, nat_tests)

lowered_length : (w : List ℕ) → length (lowered w) ≡ length w
unfolding lowered
lowered_length [] = refl
lowered_length (b ∷ w) = ap suc (lowered_length w)

pub other_length : (w n : List ℕ) → (length w ≡ length n → ⊥) → false ≡ same (lowered w) n
other_length w n h = go (same (lowered w) n) refl where
  go : (t : Bool) → same (lowered w) n ≡ t → false ≡ same (lowered w) n
  go true e = absurd (h (sym (lowered_length w) ∙ ap (λ (r : List ℕ). length r) (same_eq (lowered w) n e)))
  go false e = sym e

-- of words of one length: the same byte by byte, and what the same words have at each place
pub alike_bytes : (w n : List ℕ) → length w ≡ length n → ((k : ℕ) → k < length w → lower_of (get_or w k 0) ≡ get_or n k 0)
    → lowered w ≡ n
unfolding lowered
alike_bytes [] [] h each = refl
alike_bytes [] (a ∷ n) h each = cc
alike_bytes (b ∷ w) [] h each = cc
alike_bytes (b ∷ w) (a ∷ n) h each =
    let first : lower_of b ≡ a = each 0 (omega arith) in
    let rest : lowered w ≡ n = alike_bytes w n (omega arith) (λ k lt. each (suc k) (omega arith)) in
    cc

lowered_at : (w : List ℕ) (k : ℕ) → k < length w → get_or (lowered w) k 0 ≡ lower_of (get_or w k 0)
unfolding lowered
lowered_at [] k h = absurd (omega arith)
lowered_at (b ∷ w) zero h = refl
lowered_at (b ∷ w) (suc k) h = lowered_at w k (omega arith)

pub bytes_alike : (w n : List ℕ) → lowered w ≡ n → (k : ℕ) → k < length w → lower_of (get_or w k 0) ≡ get_or n k 0
bytes_alike w n e k h = sym (lowered_at w k h) ∙ ap (λ (r : List ℕ). get_or r k 0) e

-- words that are the same but for their case name the same command
pub either_case : (w v : List ℕ) → lowered w ≡ lowered v → verb_of w ≡ verb_of v
unfolding verb_of
either_case w v e = ap (λ (n : List ℕ). seek n 0 command_table) e
