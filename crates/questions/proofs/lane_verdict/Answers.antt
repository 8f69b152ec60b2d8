-- `lane_verdict` meets its contract: a state within its limits has a readable title.
use Rattle.std.proofs.Common.{◌≡◌, sym, ◌∙◌, ◌≤◌, true, arith}
use borrow.Author.Tests.{leb-true}
use Rattle.rules.specs.Limits.{id_max}
use Rattle.rules.proofs.Tests.{both_l, both_r}
use Rattle.story.specs.Kept.{state_ok}
use Rattle.measures.proofs.Within.{all_readable}
use Rattle.questions.proofs.lane_verdict.Goals as goal

pub lane_held-requires : goal.lane_held-requires
lane_held-requires c =
    let a = c.args in
    let ok = sym c.lane_ok.ensures ∙ c.if-not-lane_ok.false in
    let s : state_ok a.s ≡ true = both_l _ _ ok in
    let i : a.id ≤ id_max = search (both_l, both_r, leb-true) depth 12 in
    rw c.title_of-t.ensures (all_readable a.s s a.id (omega arith))
