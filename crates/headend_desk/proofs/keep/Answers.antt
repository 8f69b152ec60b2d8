-- `headend_desk::keep` meets its contract: the notice's bytes stand first in the room, and their sum behind the sums.
use mathlib.Core.Path.{sym}
use native.Mathlib.Omega.{arith}
use Rattle.notice.proofs.Worked.{open_length, none_longer}
use Rattle.console_notices.proofs.Written.{first, counted}
use Rattle.headend_desk.proofs.keep.Goals as goal

pub slice_bounds-room-end : goal.slice_bounds-room-end
slice_bounds-room-end c = omega (arith, none_longer c.args.n, open_length, c.size-size.ensures)

pub slice_bounds-put-end : goal.slice_bounds-put-end
slice_bounds-put-end c = counted c.args.n _ _ _ _ c.write.ensures (sym open_length) c.size-size.ensures

pub slice_bounds-room-end-2 : goal.slice_bounds-room-end-2
slice_bounds-room-end-2 c = omega (arith, none_longer c.args.n, open_length, c.size-size.ensures)

pub slice_bounds-put_sum-end : goal.slice_bounds-put_sum-end
slice_bounds-put_sum-end c = counted c.args.n _ _ _ _ c.write.ensures (sym open_length) c.size-size.ensures

pub returns : goal.returns
returns c =
    let is = first c.args.n _ _ _ _ c.write.ensures (sym open_length) c.size-size.ensures in
    record { noticed = rw is at c.put.ensures; summed = rw is at c.put_sum.ensures }
