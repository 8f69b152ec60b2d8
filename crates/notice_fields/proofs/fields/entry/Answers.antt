-- `fields::entry` meets its contract: the code's rows are those of the definitions' table, each at its number.
use Prim.Native.Nat.{ℕ, ◌≤◌, ◌<◌}
use mathlib.Core.Path.{◌≡◌}
use native.Mathlib.Omega.{arith}
use Rattle.notice_fields.specs.Fields.{table, rows}
use Rattle.notice_fields.proofs.fields.entry.Goals as goal

pub returns-in-0 : goal.returns-in-0
unfolding table
returns-in-0 c = rw c.in-0.is

pub returns-in-1 : goal.returns-in-1
unfolding table
returns-in-1 c = rw c.in-1.is

pub returns-in-2 : goal.returns-in-2
unfolding table
returns-in-2 c = rw c.in-2.is

pub returns-in-3 : goal.returns-in-3
unfolding table
returns-in-3 c = rw c.in-3.is

pub returns-in-4 : goal.returns-in-4
unfolding table
returns-in-4 c = rw c.in-4.is

pub returns-in-5 : goal.returns-in-5
unfolding table
returns-in-5 c = rw c.in-5.is

pub returns-in-6 : goal.returns-in-6
unfolding table
returns-in-6 c = rw c.in-6.is

-- what is none of the first three rows comes after them
after_three : (i : ℕ) → (i ≡ 0 → ⊥) → (i ≡ 1 → ⊥) → (i ≡ 2 → ⊥) → 3 ≤ i
after_three i a b c = omega arith

-- and the last row is left of the others
left : (i : ℕ) → 3 ≤ i → i < rows → (i ≡ 3 → ⊥) → (i ≡ 4 → ⊥) → (i ≡ 5 → ⊥) → (i ≡ 6 → ⊥) → i ≡ 7
left i h below a b c d = omega arith

pub returns-in_default : goal.returns-in_default
unfolding table
returns-in_default c =
    let none = c.in_default.in_default-own.rest in
    let first = none.0.0.0.0 in
    rw (left _ (after_three _ first.0.0.1 first.0.1 first.1) c.requires none.0.0.0.1 none.0.0.1 none.0.1 none.1)
