-- What the loop keeps.
use mathlib.Core.Path.{◌≡◌}
use mathlib.Core.Bool.{true}
use Rattle.rules.specs.Search.{every}
use Rattle.notice_bytes.specs.Window.{row_begins}
use Rattle.notice_bytes.proofs.window.rows_begin.Given as goal

abbrev pub invariant-loop-i : goal.invariant-loop-i
invariant-loop-i l = every (row_begins l.bytes l.place l.kind) l.i ≡ true
