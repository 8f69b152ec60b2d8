-- `charts::put_chart` meets its contract: the picture, or the refusal in words.
use mathlib.Core.Path.{sym, ap, ◌∙◌}
use mathlib.Core.List.{List}
use Prim.Native.Nat.{ℕ}
use Rattle.text.specs.Output.{page, puts}
use Rattle.words.specs.Words.{refusal_text}
use Rattle.rules.specs.Refusals.{outside_limits}
use Rattle.charts.specs.Charts.{picture_text}
use Rattle.charts.proofs.Ended.{ended}
use Rattle.charts.proofs.put_chart.Goals as goal

pub returns-then-within : goal.returns-then-within
unfolding picture_text
returns-then-within c = rw (sym c.within.ensures ∙ c.if-within.true) c.put_finest.ensures

pub returns : goal.returns
unfolding picture_text
returns c =
    let row = ended c.new-page.ensures c.put_refusal.ensures c.end.ensures.place c.end.ensures.row search in
    rw (sym c.within.ensures ∙ c.if-within.false)
    (row ∙ ap (λ (row : List ℕ). puts (page row 0) (refusal_text outside_limits 0)) (c.fill.ensures.after (λ y e. e)))
