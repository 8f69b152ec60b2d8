-- `lay_title` meets its contract: its own numbers and its three rows, laid one after another.
use mathlib.Core.Path.{ap, ◌∙◌}
use mathlib.Core.List.{List}
use Prim.Native.Nat.{ℕ, ◌+◌}
use native.Mathlib.Omega.{arith}
use Rattle.agent_rows.specs.Layout.{ends_at, drops_at, owed_at}
use Rattle.agent_rows.specs.inner.Laid.{laid}
use Rattle.agent_rows.specs.Packed.{WholeTitle}
use Rattle.agent_rows.proofs.Laid.{title_laid}
use borrow.Author.Rules.{rules}
use Rattle.agent_rows.proofs.laying.lay_title.Goals as goal

pub lay-requires-2 : goal.lay-requires-2
lay-requires-2 c =
    let w : WholeTitle c.args.t = record { ends = search rules; dropped = search rules; owed = search rules } in
    omega arith

pub lay-requires-3 : goal.lay-requires-3
lay-requires-3 c =
    let w : WholeTitle c.args.t = record { ends = search rules; dropped = search rules; owed = search rules } in
    omega arith

pub slice_bounds-lay-end-4 : goal.slice_bounds-lay-end-4
slice_bounds-lay-end-4 c =
    let w : WholeTitle c.args.t = record { ends = search rules; dropped = search rules; owed = search rules } in
    omega arith

pub lay-requires-4 : goal.lay-requires-4
lay-requires-4 c =
    let w : WholeTitle c.args.t = record { ends = search rules; dropped = search rules; owed = search rules } in
    omega arith

pub returns : goal.returns
returns c =
    let w : WholeTitle c.args.t = record { ends = search rules; dropped = search rules; owed = search rules } in
    let owed-lent = c in
    let dropped-lent = owed-lent in
    let ends-lent = dropped-lent in
    let s = ends-lent in
    let at = s.args.at in
    let t = s.args.t in
    c.lay-4.ensures
    ∙ ap (λ (r : List ℕ). laid r (at + owed_at) t.owed)
    (owed-lent.lay-3.ensures
    ∙ ap (λ (r : List ℕ). laid r (at + drops_at) t.dropped)
    (dropped-lent.lay-2.ensures
    ∙ ap (λ (r : List ℕ). laid r (at + ends_at) t.ends) ends-lent.lay.ensures))
    ∙ title_laid s.args.row.now at t w s.requires
