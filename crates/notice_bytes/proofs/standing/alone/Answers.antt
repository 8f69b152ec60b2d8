-- `standing::alone` meets its contract: a whole notice at the start, as long as the bytes are.
use mathlib.Core.Path.{sym, ◌∙◌}
use native.Mathlib.Omega.{arith}
use Rattle.notice_bytes.proofs.Whole.{stood}
use Rattle.notice_bytes.proofs.standing.alone.Goals as goal

pub bounds-bytes-3 : goal.bounds-bytes-3
bounds-bytes-3 c =
    let tested = c in
    let s = stood tested.args.bytes.now 0 (sym tested.whole_at.ensures ∙ tested.if-whole_at.true) in
    omega (arith, s.fits, s.headed)
