-- `sharing::share` meets its contract: where nothing is refused the first places get the shared counts, otherwise the
-- row stays.
use mathlib.Core.Path.{sym, ◌∙◌}
use lib.Seq.{length-take-le}
use Rattle.sharing.proofs.verdict.Laws.{Ready, ready, row_done, row_refused}
use Rattle.sharing.proofs.share.Tie as tie
use Rattle.sharing.proofs.share.Lts as lts
use Rattle.sharing.proofs.share.Reads as reads
use Rattle.sharing.proofs.share.Goals as goal

-- where nothing was refused, the counts can be worked out
go_ahead : (c : lts.Then1 tie.the-claims reads.Pre reads.Post) →
    let a = c.args in
    Ready a.pool a.rates.now a.lengths.now a.floors.now a.caps.now a.counts.now
go_ahead c = ready _ _ _ _ _ _ (sym c.verdict-answer.ensures ∙ c.if-answer-eq-DONE.true)

pub slice_bounds-fill-end : goal.slice_bounds-fill-end
slice_bounds-fill-end c = (go_ahead c.before).roomy

pub slice_bounds-fill-end-then-answer-eq-DONE : goal.slice_bounds-fill-end-then-answer-eq-DONE
slice_bounds-fill-end-then-answer-eq-DONE c = sym (length-take-le _ _ (go_ahead c.before.before).roomy)

pub fill-requires : goal.fill-requires
fill-requires c =
    let g = go_ahead c.before.before in
    record { sound = g.sound; few = g.few; room = g.room; places = length-take-le _ _ g.roomy }

pub returns-then-answer-eq-DONE : goal.returns-then-answer-eq-DONE
returns-then-answer-eq-DONE c =
    let v = c in
    record {
      answer = v.verdict-answer.ensures;
      counts =
          row_done _ _ _ _ _ _ (sym v.verdict-answer.ensures ∙ v.if-answer-eq-DONE.true) c.fill.ensures;
    }

pub returns-else-answer-eq-DONE : goal.returns-else-answer-eq-DONE
returns-else-answer-eq-DONE c =
    record {
      answer = c.verdict-answer.ensures;
      counts = row_refused _ _ _ _ _ _ (λ e. c.if-answer-eq-DONE.false (c.verdict-answer.ensures ∙ e));
    }
