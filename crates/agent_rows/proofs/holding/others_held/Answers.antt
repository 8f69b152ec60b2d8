-- `others_held` meets its contract: the loop's number is the sum over the ids passed.
use Prim.Native.Nat.{ℕ, ◌+◌}
use mathlib.Core.Path.{◌≡◌, ap, ap₂, ◌∙◌}
use native.Mathlib.Omega.{arith}
use native.Mathlib.Numerals.{add-one}
use native.Mathlib.Nat.{le_antisymm}
use Rattle.rules.specs.Limits.{titles_max}
use Rattle.rules.specs.Search.{total}
use Rattle.agent_rows.specs.Others.{others_held}
use borrow.Author.Rules.{rules}
use Rattle.agent_rows.proofs.holding.others_held.Goals as goal

pub loop-id-init : goal.loop-id-init
unfolding total
loop-id-init c = search rules

pub held_unless-n-requires : goal.held_unless-n-requires
held_unless-n-requires c = let s = c in
    record { row_len = (s.requires.row_len, c.loop-id-test.true); row_value = s.requires.row_value }

pub overflow_add-n : goal.overflow_add-n
overflow_add-n c = omega arith

pub loop-id-preserved : goal.loop-id-preserved
unfolding total
loop-id-preserved c =
    let l = c.loop-id in
    (rw (add-one l.id) (ap₂ (λ (x y : ℕ). x + y) l.invariant.0 c.held_unless-n.ensures.is), omega arith)

pub returns : goal.returns
unfolding others_held
returns c =
    let l = c.loop-id in
    let done : l.id ≡ titles_max = le_antisymm l.auto.id-end c.loop-id-test.false in
    record { is = l.invariant.0 ∙ ap (total _) done; low = omega arith; high = omega (arith, done) }
