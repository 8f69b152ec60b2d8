-- `window::head_begins` meets its contract: the three bytes of a head are the definition's.
use borrow.Author.Rules.{rules}
use mathlib.Core.Path.{refl}
use native.Mathlib.Omega.{arith}
use Rattle.notice_fields.specs.Fields.{table, start_of, span_of}
use Rattle.notice_fields.proofs.Table.{sound}
use Rattle.notice_bytes.proofs.Decided.{three_bytes, and_three}
use Rattle.notice_bytes.proofs.window.head_begins.Goals as goal

pub overflow_cast-size : goal.overflow_cast-size
overflow_cast-size c =
    let small = (sound _ c.requires.0).small in
    record { fits = rw c.entry-f.ensures (omega (arith, small)) }

pub overflow_add-far : goal.overflow_add-far
unfolding table start_of span_of
overflow_add-far c = search rules

pub overflow_add-far-2 : goal.overflow_add-far-2
unfolding table start_of span_of
overflow_add-far-2 c = search rules

pub returns : goal.returns
returns c =
    three_bytes _ _ _ _ _ _ _ _ _ _ c.entry-f.ensures c.can_be-tag_can.ensures
    c.can_be-zero_can.ensures c.can_be-size_can.ensures refl (and_three c.can_be-tag_can.result c.can_be-zero_can.result c.can_be-size_can.result)
