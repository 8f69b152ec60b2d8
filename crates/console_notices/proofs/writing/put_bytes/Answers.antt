-- `console_notices::writing::put_bytes` meets its contract: the notice's bytes stand first in the room.
use mathlib.Core.Path.{sym}
use native.Mathlib.Omega.{arith}
use Rattle.notice.proofs.Worked.{open_length, none_longer}
use Rattle.console_notices.proofs.Written.{first, counted}
use Rattle.console_notices.proofs.writing.put_bytes.Goals as goal

pub slice_bounds-room-end : goal.slice_bounds-room-end
slice_bounds-room-end c =
    omega (arith, none_longer c.args.n, open_length, c.size-size.ensures)

pub slice_bounds-put_hex-end : goal.slice_bounds-put_hex-end
slice_bounds-put_hex-end c =
    counted c.args.n _ _ _ _
    c.write.ensures (sym open_length) c.size-size.ensures

pub returns : goal.returns
returns c =
    let same = first c.args.n _ _ _ _ c.write.ensures (sym open_length) c.size-size.ensures in
    rw same at c.put_hex.ensures
