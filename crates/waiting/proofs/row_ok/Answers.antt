-- `waiting::row_ok` meets its contract: each arrival is tested.
use Rattle.std.proofs.Common.{rules, ◌≤◌, ◌<◌, length, get_or, ℕ, IsTrue, ◌↔◌}
use Rattle.rules.specs.Limits.{asked_max}
use Rattle.waiting.proofs.Answers.{row_told}
use Rattle.waiting.proofs.row_ok.Goals as goal

pub returns : goal.returns
returns c =
    let xs = c.args.arrivals.now in
    let h : IsTrue c.all.result ↔ ((k : ℕ) → k < length xs → get_or xs k 0 ≤ asked_max) = search rules in
    row_told xs c.all.result h
