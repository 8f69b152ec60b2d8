-- Laws of the tables of quantities and of the first number that is out of its limits. Rest on the definitions.
use Prim.Native.Nat.{ℕ, ◌<◌}
use mathlib.Core.Path.{◌≡◌, sym, ◌∙◌}
use mathlib.Core.Bool.{Bool, true, false}
use native.Mathlib.Omega.{arith}
use native.Mathlib.Nat.{le_antisymm}
use Rattle.std.proofs.lemmas.Bool.{cases_lt}
use Rattle.std.specs.Option.{MatchOption, unwrap_or, option_copied}
use Rattle.std.specs.Slice.{IsItemAt}
use Rattle.std.proofs.Common.{Option, Some, None, Bor, rules, inl, inr}
use Rattle.rules.specs.Search.{first}
use Rattle.rules.proofs.Search.{first_le, first_least, first_hit_lem}
use Rattle.text.specs.Numbers.{top}
use Rattle.console_limits.specs.declared.quantities.Bounds.{Bounds}
use Rattle.console_limits.specs.declared.quantities.Row.{Row}
use Rattle.console_limits.specs.Quantities.{bounds, bounds_table, bounds_of, quantity_table, row_of, no_quantities}

-- what a lent entry of a table, or else that of no number, is
pub bounds_lent : (q : ℕ) (r : Option (Bor Bounds)) → IsItemAt bounds_table q r
    → unwrap_or (option_copied r) (bounds 0 top) ≡ bounds_of q
unfolding bounds_of
bounds_lent q r h = search rules

pub row_lent : (c : ℕ) (r : Option (Bor Row)) → IsItemAt quantity_table c r
    → unwrap_or (option_copied r) no_quantities ≡ row_of c
unfolding row_of
row_lent c r h = search rules

-- a place that passes and has none before it that does is the first, and where none passes there is none
module _ (p : ℕ → Bool) (n : ℕ) where
  first_here : (i : ℕ) → i < n → p i ≡ true → ((k : ℕ) → k < i → p k ≡ false) → i ≡ first p n
  first_here i l h b = elim (cases_lt (first p n) i) [ inl x ↦ let e : false ≡ true = sym (b (first p n) x) ∙ first_hit_lem p n (omega arith) in cc | inr x ↦ le_antisymm x (first_least p n i h) ]

  first_nowhere : ((k : ℕ) → k < n → p k ≡ false) → first p n ≡ n
  first_nowhere b = elim (cases_lt (first p n) n) [ inl x ↦ let e : false ≡ true = sym (b (first p n) x) ∙ first_hit_lem p n x in cc | inr x ↦ le_antisymm (first_le p n) x ]

  pub first_told : (r : Option ℕ)
      → MatchOption r ((k : ℕ) → k < n → p k ≡ false) (λ i. (i < n) × ((p i ≡ true) × ((k : ℕ) → k < i → p k ≡ false)))
      → MatchOption r (first p n ≡ n) (λ i. (i < n) × (i ≡ first p n))
  first_told None h = first_nowhere h
  first_told (Some i) h = (h.0, first_here i h.0 h.1.0 h.1.1)
