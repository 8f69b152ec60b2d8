-- Each public call's contract settles it: two outcomes that it admits for the same arguments are equal, in what is given back and in
-- every number or byte of the row or room that was lent. Rests on the contracts being equations to definitions.
use Prim.Native.Nat.{ℕ}
use mathlib.Core.Path.{◌≡◌, sym, ap₂, ◌∙◌}
use Rattle.rules.specs.OneOutcome.{OneEnd}
use Rattle.notice_rows.proofs.write.Kinds as write-kinds
use Rattle.notice_rows.proofs.write.Reads as write-call
use Rattle.notice_rows.proofs.read.Kinds as read-kinds
use Rattle.notice_rows.proofs.read.Reads as read-call
use Rattle.notice_rows.proofs.next.Kinds as next-kinds
use Rattle.notice_rows.proofs.next.Reads as next-call

pub write_one_outcome : OneEnd 2 write-kinds.ps write-kinds.r (λ κs e f. e.1.0.now ≡ f.1.0.now) write-call.Learnt
write_one_outcome κs a x y e f p q =
    let answer : x.answer ≡ y.answer = p.answers ∙ sym q.answers in
    let bytes : x.bytes ≡ y.bytes = p.counts ∙ (rw answer (sym q.counts)) in
    (ap₂ (λ (n b : ℕ). record { answer = n; bytes = b }) answer bytes, p.leaves ∙ (rw answer (sym q.leaves)))

pub read_one_outcome : OneEnd 2 read-kinds.ps read-kinds.r (λ κs e f. e.1.0.now ≡ f.1.0.now) read-call.Learnt
read_one_outcome κs a x y e f p q = (p.answers ∙ sym q.answers, p.leaves ∙ sym q.leaves)

pub next_one_outcome : OneEnd 2 next-kinds.ps next-kinds.r (λ κs e f. e.1.1.0.now ≡ f.1.1.0.now) next-call.Learnt
next_one_outcome κs a x y e f p q = (
  ap₂ (λ (n b : ℕ). record { answer = n; place = b }) (p.answers ∙ sym q.answers) (p.moves ∙ sym q.moves),
  p.leaves ∙ sym q.leaves,
)
