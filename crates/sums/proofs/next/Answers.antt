-- `next` meets its contract: the byte at the place goes in.
use mathlib.Core.Path.{ap, ◌∙◌}
use Rattle.sums.specs.Crc.{with_byte}
use Rattle.sums.proofs.next.Goals as goal

pub returns : goal.returns
returns c =
    let s = c.before.before.before.before in
    c.with_byte.ensures ∙ ap (with_byte s.args.r) c.from.ensures
