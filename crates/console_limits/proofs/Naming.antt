-- What 1 says is so where the numbers of a line are what was asked: the number that is named is out of its limits, and none before it;
-- where none is named, the state is out of its own. Rests on the laws of `first`.
use Prim.Native.Nat.{ℕ, ◌<◌, ◌≤◌}
use mathlib.Core.Path.{◌≡◌, refl, sym, ◌∙◌}
use mathlib.Core.Bool.{Bool, true, false, not, false≢true}
use mathlib.Core.List.{List}
use native.Mathlib.Omega.{arith}
use borrow.Author.Tests.{not-true}
use lib.ListN.{length, get_or}
use Rattle.rules.specs.Limits.{both, within}
use Rattle.rules.proofs.Tests.{both_in, fails}
use Rattle.rules.proofs.Search.{first_hit_lem, first_before}
use Rattle.console_limits.specs.Quantities.{bounds_of, quantity_at, is_out}
use Rattle.console_limits.specs.Outside.{is_out_at, first_out, SaysOut}

-- a number that is not out of its limits is within them
pub not_out : (b : Bool) → not b ≡ false → b ≡ true
not_out true h = refl
not_out false h = sym h

module _ (c : ℕ) (ns : List ℕ) where
  -- where no number is named each is within its limits
  pub within_all : length ns ≤ first_out c ns → (p : ℕ) → p < length ns
      → within (bounds_of (quantity_at c p)).low (bounds_of (quantity_at c p)).high (get_or ns p 0) ≡ true
  unfolding first_out is_out
  within_all none p l = not_out _ (first_before (is_out_at c ns) (length ns) p (omega arith))

  -- a question that asks whether the state is within its limits and the rest of its numbers are
  pub by_limits : (ok rest : Bool) → not (both ok rest) ≡ true → (length ns ≤ first_out c ns → rest ≡ true) → SaysOut ok c ns
  unfolding first_out
  by_limits ok rest hit inside =
      record {
        named = λ l. first_hit_lem (is_out_at c ns) (length ns) l;
        earlier = λ p l. first_before (is_out_at c ns) (length ns) p l;
        state = λ none. fails ok (λ t. false≢true (sym (not-true (both ok rest) hit) ∙ both_in ok rest t (inside none)));
      }
