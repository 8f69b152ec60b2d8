-- Each public call's contract settles it: two outcomes that it admits for the same arguments are equal, in the answer and in every
-- row that was lent. The contracts are not stated again: `Learnt` is all that the checker lets a caller learn of a call.
-- Rests on the contracts being equations to definitions.
use mathlib.Core.Path.{◌≡◌, sym, ap, ◌∙◌}
use Rattle.rules.specs.OneOutcome.{OneEnd, OneOutcome}
use Rattle.notice.specs.declared.Found.{Found}
use Rattle.notice.specs.declared.Log.{Log}
use Rattle.notice.specs.Decode.{place_after, Steps}
use Rattle.notice.proofs.write.Kinds as write-kinds
use Rattle.notice.proofs.write.Reads as write
use Rattle.notice.proofs.size.Kinds as size-kinds
use Rattle.notice.proofs.size.Reads as size
use Rattle.notice.proofs.kind_number.Kinds as kind-number-kinds
use Rattle.notice.proofs.kind_number.Reads as kind-number
use Rattle.notice.proofs.encode.values.Kinds as values-kinds
use Rattle.notice.proofs.encode.values.Reads as values
use Rattle.notice.proofs.read.Kinds as read-kinds
use Rattle.notice.proofs.read.Reads as read
use Rattle.notice.proofs.read_at.Kinds as read-at-kinds
use Rattle.notice.proofs.read_at.Reads as read_at
use Rattle.notice.proofs.next_in.Kinds as next-in-kinds
use Rattle.notice.proofs.next_in.Reads as next_in_lem
use Rattle.notice_bytes.proofs.window.decided.Kinds as decided-kinds
use Rattle.notice_bytes.proofs.window.decided.Reads as decided
use Rattle.notice.proofs.next.Kinds as next-kinds
use Rattle.notice.proofs.next.Reads as next

pub size_one_outcome : OneOutcome 0 size-kinds.ps size-kinds.r size.Learnt
size_one_outcome κs a x y e f p q = p ∙ sym q

pub kind_number_one_outcome : OneOutcome 0 kind-number-kinds.ps kind-number-kinds.r kind-number.Learnt
kind_number_one_outcome κs a x y e f p q = p ∙ sym q

pub values_one_outcome : OneOutcome 0 values-kinds.ps values-kinds.r values.Learnt
values_one_outcome κs a x y e f p q = p ∙ sym q

pub read_one_outcome : OneOutcome 1 read-kinds.ps read-kinds.r read.Learnt
read_one_outcome κs a x y e f p q = p.is ∙ sym q.is

pub read_at_one_outcome : OneOutcome 1 read-at-kinds.ps read-at-kinds.r read_at.Learnt
read_at_one_outcome κs a x y e f p q = p.is ∙ sym q.is

pub next_in_one_outcome : OneOutcome 1 next-in-kinds.ps next-in-kinds.r next_in_lem.Learnt
next_in_one_outcome κs a x y e f p q = p.is ∙ sym q.is

-- the answer, and every byte of the room
pub write_one_outcome :
    OneEnd 1 write-kinds.ps write-kinds.r (λ κs e f. e.1.0.now ≡ f.1.0.now) write.Learnt
write_one_outcome κs a x y e f p q = (p.answers ∙ sym q.answers, p.leaves ∙ sym q.leaves)

-- the answer, and the reader with its log and its place
same_reader : (h d e : Log) (r s : Found) → Steps h.bytes.now h.place r d.place × (d.bytes ≡ h.bytes)
    → Steps h.bytes.now h.place s e.place × (e.bytes ≡ h.bytes) → (r ≡ s) × (d ≡ e)
same_reader h d e r s p q =
    let answer : r ≡ s = p.0.finds.is ∙ sym q.0.finds.is in
    let place : d.place ≡ e.place =
    p.0.moves ∙ ap (λ (f : Found). place_after f h.place) answer ∙ sym q.0.moves in
    let bytes : d.bytes ≡ e.bytes = p.1 ∙ sym q.1 in
    (answer, λ i. record { bytes = bytes i; place = place i })

pub next_one_outcome : OneEnd 2 next-kinds.ps next-kinds.r (λ κs e f. e.0.now ≡ f.0.now) next.Learnt
next_one_outcome κs a x y e f p q = same_reader a.0.now e.0.now f.0.now x y p q

pub decided_one_outcome : OneOutcome 1 decided-kinds.ps decided-kinds.r decided.Learnt
decided_one_outcome κs a x y e f p q = p ∙ sym q
