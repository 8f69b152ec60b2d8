-- `console_limits::outside::first_out` meets its contract: the first of the places passed.
use Rattle.std.proofs.Common.{◌≡◌, ℕ, ◌<◌, length, true, false, rules}
use Rattle.std.specs.Option.{MatchOption}
use Rattle.console_limits.specs.Outside.{is_out_at, first_out}
use Rattle.console_limits.proofs.Tables.{first_told}
use Rattle.console_limits.proofs.outside.first_out.Goals as goal

pub returns : goal.returns
unfolding first_out
returns c =
    let p = is_out_at c.args.command c.args.numbers.now in
    let n = length c.args.numbers.now in
    let told : MatchOption c.position.result ((k : ℕ) → k < n → p k ≡ false) (λ i. (i < n) × ((p i ≡ true) × ((k : ℕ) → k < i → p k ≡ false))) = search rules in
    first_told p n _ told
