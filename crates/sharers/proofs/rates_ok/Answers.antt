-- `rates_ok` meets its contract: the test of each rate is the definition's at its place.
use Rattle.std.proofs.Common.{◌∙◌, rules}
use Rattle.std.proofs.lemmas.Iterator.Search.{all_from_yields_List}
use Rattle.std.proofs.lemmas.Iterator.{YieldsList-from_slice}
use Rattle.rules.specs.Limits.{within, rate_min, rate_max}
use Rattle.sharers.specs.Sharers.{rates_ok}
use Rattle.sharers.proofs.All.{all_every}
use Rattle.sharers.proofs.rates_ok.Goals as goal

pub returns : goal.returns
unfolding rates_ok
returns c =
    let rates = c.args.rates.now in
    all_from_yields_List (λ x. within rate_min rate_max x) _ _ c.all.result c.all.ensures.ran (YieldsList-from_slice rates cc) (λ x b q k. search rules)
    ∙ all_every (λ x. within rate_min rate_max x) rates
