-- `settle` meets its contract: the lanes of the others and of the next title are those of the next state.
use Rattle.story.specs.Next.{with_title}
use Rattle.agent_rows.specs.Packed.{unpacked}
use Rattle.row_calls.proofs.Rows.{too_few_lem, enough, asks_none}
use Rattle.row_calls.proofs.events.settle.Goals.{else-asks-via-then-asks+else-row-others_held, else-asks-via-else-asks}
use Rattle.row_calls.proofs.events.settle.Goals as goal

pub returns-then-row-others_held-clause-value : goal.returns-then-row-others_held-clause-value
returns-then-row-others_held-clause-value c =
    let a = c.args in
    rw c.if-asks.true
    (too_few_lem a.row.now a.id a.time a.next c.title_held.result c.requires.id_le_id_max.0 c.title_held.ensures.is
    (rw c.others_held.ensures.is at c.if-row-others_held.true))

pub returns-clause-value : goal.returns-clause-value
returns-clause-value c =
    let a = c.args in
    elim c.else-asks.branch [
      | else-asks-via-then-asks+else-row-others_held w ↦
          rw w.if-asks.true (enough a.row.now a.id a.time a.next w.title_held.result c.requires.id_le_id_max.0
          w.title_held.ensures.is (rw w.others_held.ensures.is at w.if-row-others_held.false))
      | else-asks-via-else-asks w ↦
          rw w.if-asks.false (asks_none (with_title (unpacked a.row.now).state a.id a.next a.time) a.time)
    ]
