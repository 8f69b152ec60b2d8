-- Each public call's contract settles what it gives back and the room that it leaves: two outcomes that it admits are equal.
-- Rests on the contracts being equations to definitions, and on one place being the first.
use mathlib.Core.Path.{◌≡◌, sym, ◌∙◌}
use mathlib.Core.List.{List}
use Prim.Native.Nat.{ℕ, ◌≤◌}
use native.Mathlib.Nat.{le_antisymm}
use native.Mathlib.Omega.{arith}
use lib.ListN.{length}
use Rattle.rules.specs.OneOutcome.{OneEnd, OneOutcome}
use Rattle.notice_fields.proofs.Each.{by_order, false_true}
use Rattle.journal_records.specs.Search.{NextRecord}
use Rattle.journal_records.proofs.records.verifies.Kinds as verifies-kinds
use Rattle.journal_records.proofs.records.verifies.Reads as verifies-call
use Rattle.journal_records.proofs.records.record_at.Kinds as record-at-kinds
use Rattle.journal_records.proofs.records.record_at.Reads as record-at-call
use Rattle.journal_records.proofs.records.put_record.Kinds as put-record-kinds
use Rattle.journal_records.proofs.records.put_record.Reads as put-record-call
use Rattle.journal_records.proofs.search.next_record.Kinds as next-record-kinds
use Rattle.journal_records.proofs.search.next_record.Reads as next-record-call
use Rattle.journal_records.proofs.headers.put_header.Kinds as put-header-kinds
use Rattle.journal_records.proofs.headers.put_header.Reads as put-header-call
use Rattle.journal_records.proofs.headers.read_header.Kinds as read-header-kinds
use Rattle.journal_records.proofs.headers.read_header.Reads as read-header-call

pub verifies_one_outcome : OneOutcome 2 verifies-kinds.ps verifies-kinds.r verifies-call.Learnt
verifies_one_outcome κs a x y e f p q = p ∙ sym q

pub record_at_one_outcome : OneOutcome 2 record-at-kinds.ps record-at-kinds.r record-at-call.Learnt
record_at_one_outcome κs a x y e f p q = p ∙ sym q

-- the room is the fifth parameter
pub put_record_one_outcome : OneEnd 3 put-record-kinds.ps put-record-kinds.r (λ κs e f. e.1.1.1.1.0.now ≡ f.1.1.1.1.0.now) put-record-call.Learnt
put_record_one_outcome κs a x y e f p q = (p.answers ∙ sym q.answers, p.leaves ∙ sym q.leaves)

-- no first place is behind another
no_later : (identity bs : List ℕ) (from r s : ℕ) → NextRecord identity bs from r → NextRecord identity bs from s → s ≤ r
no_later identity bs from r s p q =
    by_order r s
    (λ later.
    by_order r (length bs) (λ there. false_true (sym (q.none_before r p.low later) ∙ p.stands there))
    (λ end. absurd (omega (arith, q.high, p.low))))
    (λ low. low)

pub next_once : (identity bs : List ℕ) (from r s : ℕ) → NextRecord identity bs from r → NextRecord identity bs from s → r ≡ s
next_once identity bs from r s p q = le_antisymm (no_later identity bs from s r q p) (no_later identity bs from r s p q)

pub next_record_one_outcome : OneOutcome 2 next-record-kinds.ps next-record-kinds.r next-record-call.Learnt
next_record_one_outcome κs a x y e f p q = next_once _ _ _ _ _ p q

-- the room is the third parameter
pub put_header_one_outcome : OneEnd 2 put-header-kinds.ps put-header-kinds.r (λ κs e f. e.1.1.0.now ≡ f.1.1.0.now) put-header-call.Learnt
put_header_one_outcome κs a x y e f p q =
    let answer : x ≡ y = p.answers ∙ sym q.answers in
    (answer, p.leaves ∙ rw answer (sym q.leaves))

pub read_header_one_outcome : OneOutcome 1 read-header-kinds.ps read-header-kinds.r read-header-call.Learnt
read_header_one_outcome κs a x y e f p q = p ∙ sym q
