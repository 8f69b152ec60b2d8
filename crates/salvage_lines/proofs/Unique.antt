-- The contract of what is told settles the whole row that it is written into, and the place behind it: two outcomes that it admits for
-- the same arguments are equal. Rests on the contracts being equations of pages.
use mathlib.Core.Path.{◌≡◌, refl}
use Rattle.rules.specs.OneOutcome.{OneEnd}
use Rattle.text.proofs.Unique.{page_one_outcome}
use Rattle.salvage_lines.proofs.put_stretch.Kinds as stretch-kinds
use Rattle.salvage_lines.proofs.put_stretch.Reads as stretch
use Rattle.salvage_lines.proofs.put_said.Kinds as said-kinds
use Rattle.salvage_lines.proofs.put_said.Reads as said
use Rattle.salvage_lines.proofs.put_end.Kinds as end-kinds
use Rattle.salvage_lines.proofs.put_end.Reads as end

-- the page, or the row, is parameter 0
pub stretch_one_outcome : OneEnd 2 stretch-kinds.ps stretch-kinds.r (λ κs e f. (e.0.now.row.now ≡ f.0.now.row.now) × (e.0.now.at ≡ f.0.now.at)) stretch.Learnt
stretch_one_outcome κs a x y e f p q = (refl, page_one_outcome _ _ _ _ _ p.written q.written)

pub said_one_outcome : OneEnd 2 said-kinds.ps said-kinds.r (λ κs e f. (e.0.now.row.now ≡ f.0.now.row.now) × (e.0.now.at ≡ f.0.now.at)) said.Learnt
said_one_outcome κs a x y e f p q = (refl, page_one_outcome _ _ _ _ _ p.written q.written)

pub end_one_outcome : OneEnd 1 end-kinds.ps end-kinds.r (λ κs e f. e.0.now ≡ f.0.now) end.Learnt
end_one_outcome κs a x y e f p q = let same = page_one_outcome _ _ _ _ _ p q in (same.1, same.0)
