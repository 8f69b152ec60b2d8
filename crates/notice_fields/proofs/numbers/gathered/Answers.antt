-- `numbers::gathered` meets its contract: the bytes passed spell what is gathered, which stays below a power of 256.
-- Rests on the bound of eight bytes.
use Prim.Native.Nat.{◌+◌}
use mathlib.Core.Path.{◌≡◌}
use native.Mathlib.Nat.{pow-suc}
use native.Mathlib.Numerals.{add-one}
use native.Mathlib.Omega.{arith}
use borrow.Author.Rules.{rules}
use Rattle.notice_fields.specs.Numbers.{number_at}
use Rattle.notice_fields.proofs.Digits.{fits_64}
use Rattle.notice_fields.proofs.numbers.gathered.Goals as goal

pub loop-i-init : goal.loop-i-init
unfolding number_at
loop-i-init c = search rules

pub overflow_mul-v : goal.overflow_mul-v
overflow_mul-v c = omega (arith, fits_64 c.loop-i.i (omega arith))

pub overflow_add-v : goal.overflow_add-v
overflow_add-v c = omega (arith, fits_64 c.loop-i.i (omega arith), c.from-byte.ensures, c.type_inv.bytes (c.args.at + c.loop-i.i))

pub loop-i-preserved : goal.loop-i-preserved
unfolding number_at
loop-i-preserved c = (rw add-one (omega (arith, c.from-byte.ensures)), rw (add-one, pow-suc) (omega (arith, c.from-byte.ensures, c.type_inv.bytes (c.args.at + c.loop-i.i))))

pub returns : goal.returns
returns c =
    let e : c.loop-i.i ≡ c.args.width = omega arith in
    (cc, rw e at c.loop-i.invariant.1)
