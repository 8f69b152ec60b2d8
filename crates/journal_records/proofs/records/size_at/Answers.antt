-- `size_at` meets its contract: the two bytes behind number and kind.
use mathlib.Core.Path.{◌≡◌, ap, ◌∙◌}
use Prim.Native.Nat.{ℕ, ◌+◌}
use native.Mathlib.Omega.{arith}
use Rattle.notice_fields.specs.Numbers.{number_at}
use Rattle.journal_records.proofs.records.size_at.Goals as goal

pub returns : goal.returns
returns c =
    let a = c.args in
    let e : a.at + 8 + 1 ≡ a.at + 9 = omega arith in
    (c.get.ensures.0 ∙ ap (λ (q : ℕ). number_at a.bytes.now q 2) e, omega (arith, c.get.ensures.1))
