-- `owed_tick` meets its contract: whether the lane still sends, and then the tick whose turn it is.
use mathlib.Core.Path.{refl, sym, ap, ◌∙◌}
use borrow.Author.Tests.{le-ltb}
use Rattle.story.specs.declared.Title.{Title}
use Rattle.story.specs.Kept.{sending_tick}
use Rattle.owed.proofs.Shown.{tick_sending}
use Rattle.agent_rows.specs.Packed.{title_from}
use Rattle.row_calls.proofs.lanes.owed_tick.Goals as goal

pub sending_tick-requires : goal.sending_tick-requires
sending_tick-requires c = let s = c in
    rw c.title_from.ensures record { sending = s.requires.above.sending; lane_lt_cap = s.requires.above.capped }

pub returns-then-is_sending : goal.returns-then-is_sending
returns-then-is_sending c =
    let at-if = c in
    let s = at-if in
    let t = title_from s.args.row.now s.args.at in
    let u = c.sending_tick.ensures in
    let above = le-ltb _ _ s.requires.above.above in
    simp (← at-if.is_sending.ensures, at-if.if-is_sending.true) (
      refl,
      record {
        is =
            u.is
            ∙ ap (λ (q : Title). sending_tick q s.args.lane s.args.tick) c.title_from.ensures
            ∙ sym (tick_sending t s.args.lane s.args.tick above);
        high = u.high;
      },
    )

pub returns : goal.returns
returns c = simp (← c.is_sending.ensures, c.if-is_sending.false) c.refused.ensures
