-- `standing::whole_at` meets its contract: each way out has decided its test of the definition.
use mathlib.Core.Path.{sym}
use native.Mathlib.Omega.{arith}
use Rattle.notice_bytes.proofs.Whole.{no_kind}
use Rattle.notice_bytes.proofs.standing.whole_at.Goals as goal

pub returns-then-bytes-place : goal.returns-then-bytes-place
returns-then-bytes-place c =
    let a = c.args in
    sym (no_kind a.bytes.now a.place (omega arith))

pub returns-then-left-le-HEAD : goal.returns-then-left-le-HEAD
returns-then-left-le-HEAD c =
    let a = c.args in
    sym (no_kind a.bytes.now a.place (omega arith))
