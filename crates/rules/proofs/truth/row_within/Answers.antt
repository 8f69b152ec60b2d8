-- `row_within` meets its contract: every number passed where none of the first n fails.
use Rattle.std.proofs.Common.{rules, ◌≤◌, ◌<◌, length, get_or, ℕ, take, IsTrue, ◌↔◌}
use Rattle.rules.proofs.truth.row_within.Goals as goal
use Rattle.rules.proofs.Search.{all_at_most}

pub returns : goal.returns
returns c =
    let a = c.args in
    let h : IsTrue c.all.result ↔ ((k : ℕ) → k < length (take a.n a.row.now) → get_or (take a.n a.row.now) k 0 ≤ a.most) = search rules in
    all_at_most a.row.now a.n a.most c.all.result c.requires h
