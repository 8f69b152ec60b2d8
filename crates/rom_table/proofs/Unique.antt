-- The contract of `fill` settles answer and row: two outcomes that it admits are equal. Rests on its equations.
use mathlib.Core.Path.{◌≡◌, sym, ◌∙◌}
use Rattle.rules.specs.OneOutcome.{OneEnd}
use Rattle.rom_table.proofs.fill.Kinds as fill-kinds
use Rattle.rom_table.proofs.fill.Reads as fill-call

pub fill_one_outcome : OneEnd 1 fill-kinds.ps fill-kinds.r (λ κs e f. e.0.now ≡ f.0.now) fill-call.Learnt
fill_one_outcome κs a x y e f p q = (p.answer ∙ sym q.answer, p.left ∙ sym q.left)
