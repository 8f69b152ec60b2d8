-- `window::beginning` meets its contract: each way out has decided its case of the definition.
use mathlib.Core.Path.{sym, ap, ◌∙◌}
use native.Mathlib.Nat.{add-zero}
use native.Mathlib.Omega.{arith}
use Rattle.notice_bytes.specs.Window.{head_begins}
use Rattle.notice_bytes.proofs.Decided.{none_there, before_kind, no_such_kind, all_there, so_far_holds}
use Rattle.notice_bytes.proofs.window.beginning.Goals as goal

pub returns-then-bytes-place : goal.returns-then-bytes-place
returns-then-bytes-place c = none_there _ _ c.if-bytes-place.true

pub returns-then-left-le-HEAD : goal.returns-then-left-le-HEAD
returns-then-left-le-HEAD c =
    let a = c.args in
    c.head_begins.ensures
    ∙ ap (λ at. head_begins a.bytes.now at 0) (add-zero a.place)
    ∙ before_kind a.bytes.now a.place (omega arith)

pub returns-then-left-start : goal.returns-then-left-start
returns-then-left-start c =
    let sized = c in
    let a = sized.args in
    let known = sym sized.carried.ensures ∙ sized.if-carried.true in
    c.rows_begin.ensures
    ∙ so_far_holds a.bytes.now a.place (omega arith) (omega (arith, sized.start.ensures)) known

pub returns-else-left-start : goal.returns-else-left-start
returns-else-left-start c =
    let sized = c in
    let a = sized.args in
    let known = sym sized.carried.ensures ∙ sized.if-carried.true in
    all_there a.bytes.now a.place (omega arith) (omega (arith, sized.start.ensures)) known

pub returns-else-carried : goal.returns-else-carried
returns-else-carried c =
    let a = c.args in
    no_such_kind a.bytes.now a.place (omega arith) (sym c.carried.ensures ∙ c.if-carried.false)
