-- `air_record::record::take_text` meets its contract: byte by byte, and the last line's end.
use mathlib.Core.Path.{refl, ap, ◌∙◌}
use native.Mathlib.Nat.{le_antisymm}
use native.Mathlib.Numerals.{add-one}
use native.Mathlib.Omega.{arith}
use lib.ListN.{length, get_or}
use Rattle.text.specs.Bytes.{newline}
use Rattle.air_record.specs.Record.{SoFar, so_far, taking_byte, taken_to}
use Rattle.air_record.proofs.Reading.{taking_length}
use Rattle.air_record.proofs.record.take_text.Goals as goal

pub loop-b-init : goal.loop-b-init
unfolding taken_to
loop-b-init c = (refl, refl)

pub loop-b-preserved : goal.loop-b-preserved
unfolding taken_to
loop-b-preserved c =
    let at_byte = c in
    let at-loop = at_byte in
    let x = at-loop.args in
    let l = at-loop.loop-b in
    let e = at_byte.take_byte-scan.ensures in
    let b = get_or x.text.now l.b-index 0 in (
      e ∙ rw add-one (ap (λ s. taking_byte s b) l.invariant.0),
      ap (λ (s : SoFar). length s.row) e ∙ taking_length (so_far l.row l.scan) b ∙ l.invariant.1,
    )

pub shape_of-row : goal.shape_of-row
shape_of-row c =
    let at_byte = c in
    let l = at_byte.loop-b in
    ap (λ (s : SoFar). length s.row) at_byte.take_byte.ensures
    ∙ taking_length (so_far l.row l.scan) newline
    ∙ l.invariant.1

pub returns : goal.returns
returns c =
    let at_byte = c in
    let at-loop-test = at_byte in
    let at-loop = at-loop-test in
    let l = at-loop.loop-b in
    let all = le_antisymm (omega arith) at-loop-test.loop-b-test.false in
    let x = at-loop.args in
    at_byte.take_byte.ensures ∙ ap (λ s. taking_byte s newline) (l.invariant.0 ∙ ap (taken_to x.text.now x.row.now) all)
