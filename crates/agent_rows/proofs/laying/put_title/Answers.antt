-- `put_title` meets its contract: the time, and the title in its places.
use mathlib.Core.Path.{ap, ◌∙◌}
use Prim.Native.Nat.{ℕ}
use native.Mathlib.Omega.{arith}
use lib.ListN.{set, length-set}
use Rattle.agent_rows.specs.Layout.{last_at}
use Rattle.agent_rows.specs.Packed.{packed_title, WholeTitle}
use Rattle.agent_rows.specs.inner.Laid.{laid}
use Rattle.agent_rows.proofs.Laid.{title_put}
use borrow.Author.Rules.{rules}
use Rattle.agent_rows.proofs.laying.put_title.Tie as tie
use Rattle.agent_rows.proofs.laying.put_title.Lts as lts
use Rattle.agent_rows.proofs.laying.put_title.Reads as reads
use Rattle.agent_rows.proofs.laying.put_title.Goals as goal

pub lay_title-requires : goal.lay_title-requires
lay_title-requires c =
    let a = c.args in
    omega (arith, length-set a.row.now last_at a.time)

pub shape_of-row : goal.shape_of-row
shape_of-row c =
    let a = c.args in
    c.lay_title.auto.row ∙ length-set a.row.now last_at a.time

-- its title's rows have their lengths
whole : (c : lts.Start tie.the-claims reads.Pre reads.Post) → WholeTitle c.args.t
whole c = record { ends = search rules; dropped = search rules; owed = search rules }

pub returns : goal.returns
returns c =
    let s = c in
    let a = s.args in
    c.lay_title.ensures
    ∙ ap (λ (n : ℕ). laid (set a.row.now last_at a.time) n (packed_title a.t)) c.title_place.ensures
    ∙ title_put a.row.now a.id a.t a.time s.requires.0 s.requires.1.0 (omega arith) (whole s.before.before.before.before.before.before.before)
