-- Each public call's contract settles it: two outcomes that it admits for the same arguments are equal, in the answer and in every
-- number or byte of the row or room that was lent. Rests on the contracts being equations to definitions.
use mathlib.Core.Path.{◌≡◌, sym, ◌∙◌}
use Rattle.rules.specs.OneOutcome.{OneEnd}
use Rattle.row_snapshots.proofs.save.Kinds as save-kinds
use Rattle.row_snapshots.proofs.save.Reads as save-call
use Rattle.row_snapshots.proofs.load.Kinds as load-kinds
use Rattle.row_snapshots.proofs.load.Reads as load-call

pub save_one_outcome : OneEnd 2 save-kinds.ps save-kinds.r (λ κs e f. e.1.0.now ≡ f.1.0.now) save-call.Learnt
save_one_outcome κs a x y e f p q =
    let answer : x ≡ y = p.answers ∙ sym q.answers in
    (answer, p.leaves ∙ rw answer (sym q.leaves))

pub load_one_outcome : OneEnd 2 load-kinds.ps load-kinds.r (λ κs e f. e.0.now ≡ f.0.now) load-call.Learnt
load_one_outcome κs a x y e f p q =
    let answer : x ≡ y = p.answers ∙ sym q.answers in
    (answer, p.leaves ∙ rw answer (sym q.leaves))
