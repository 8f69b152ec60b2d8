-- `decode::notice_in` meets its contract: each value from its row, those that every kind carries as from a close.
-- Rests on the law of the common fields.
use borrow.Author.Rules.{rules}
use mathlib.Core.Path.{refl}
use native.Mathlib.Omega.{arith}
use Rattle.notice_fields.specs.Fields.{table}
use Rattle.notice.specs.Decode.{notice_in}
use Rattle.notice.proofs.Common.{no_shorter, as_close}
use Rattle.notice.proofs.decode.notice_in.Goals as goal

pub value-sequence-requires : goal.value-sequence-requires
unfolding table
value-sequence-requires c =
    let from = c in
    (omega arith, (omega (arith, no_shorter from.args.kind from.requires.1, from.requires.0), refl))

pub overflow_cast-sequence : goal.overflow_cast-sequence
unfolding table
overflow_cast-sequence c = record { fits = c.value-sequence.ensures.1 }

pub value-title-requires : goal.value-title-requires
unfolding table
value-title-requires c =
    let from = c in
    (omega arith, (omega (arith, no_shorter from.args.kind from.requires.1, from.requires.0), refl))

pub overflow_cast-title : goal.overflow_cast-title
unfolding table
overflow_cast-title c = record { fits = c.value-title.ensures.1 }

pub value-time-requires : goal.value-time-requires
unfolding table
value-time-requires c =
    let from = c in
    (omega arith, (omega (arith, no_shorter from.args.kind from.requires.1, from.requires.0), refl))

pub returns : goal.returns
unfolding notice_in
returns c =
    let titled = c in
    let numbered = titled in
    let from = numbered in
    let close = as_close from.args.bytes.now from.args.place from.args.kind in
    simp (
      numbered.kind_in-data.ensures,
      numbered.value-sequence.ensures.0,
      titled.value-title.ensures.0,
      c.value-time.ensures.0,
      close 1 from.requires.1 (omega arith),
      close 2 from.requires.1 (omega arith),
      close 3 from.requires.1 (omega arith),
    )
