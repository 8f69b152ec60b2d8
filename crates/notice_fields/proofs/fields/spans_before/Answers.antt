-- `fields::spans_before` meets its contract: the spans of the rows before one, summed.
-- Rests on the table's law of that sum.
use Rattle.notice_fields.proofs.Table.{start_sum}
use Rattle.notice_fields.proofs.fields.spans_before.Goals as goal

pub returns : goal.returns
returns c =
    let seven = c.before in
    let six = seven.before in
    let five = six.before in
    let four = five.before in
    let three = four.before in
    let two = three.before in
    let one = two.before in
    let from = one.before in
    rw (
      one.span_before-a.ensures.0,
      two.span_before-b.ensures.0,
      three.span_before-c.ensures.0,
      four.span_before-d.ensures.0,
      five.span_before-e.ensures.0,
      six.span_before-f.ensures.0,
      seven.span_before-g.ensures.0,
      c.span_before-h.ensures.0,
    ) (start_sum from.args.kind from.args.row from.requires)
