-- `with_zero` meets its contract: a byte of zeros shifts by eight bits.
use Prim.Native.Nat.{ℕ, ◌*◌, ◌<◌}
use mathlib.Core.Path.{◌≡◌, refl, ap, ◌∙◌}
use native.Mathlib.Omega.{arith}
use lib.Bits.{xor_zero_r}
use Rattle.sums.specs.Crc.{shifted_by}
use Rattle.sums.proofs.moves.with_zero.Goals as goal

none : (b r : ℕ) → b < 2 → (b ≡ 1 → ⊥) → r ≡ shifted_by (8 * b) r
unfolding shifted_by
none b r l f = let e : b ≡ 0 = omega arith in rw e refl

pub returns-then-bit-eq1 : goal.returns-then-bit-eq1
returns-then-bit-eq1 c =
    let s = c.before.before in
    rw c.if-bit-eq1.true (c.with_byte.ensures ∙ ap (shifted_by 8) (xor_zero_r s.args.r))

pub returns-else-bit-eq1 : goal.returns-else-bit-eq1
returns-else-bit-eq1 c = none c.args.bit c.args.r c.requires c.if-bit-eq1.false
