-- `charts::whole::put_fresh` meets its contract: written into what was cleared.
use mathlib.Core.Path.{ap, ◌∙◌}
use mathlib.Core.List.{List}
use Prim.Native.Nat.{ℕ}
use Rattle.text.specs.Output.{page, puts}
use Rattle.charts.specs.Charts.{chart_text}
use Rattle.charts.proofs.Ended.{ended}
use Rattle.charts.proofs.whole.put_fresh.Goals as goal

pub returns : goal.returns
returns c =
    let x = c.args in
    let row = ended c.new-page.ensures c.put_picture.ensures c.end.ensures.place c.end.ensures.row search in
    row ∙ ap (λ (row : List ℕ). puts (page row 0) (chart_text x.pool x.log.now x.columns x.grain)) (c.fill.ensures.after (λ y e. e))
