-- `rom_verdict` meets its contract: each way out decides the rule in front.
-- Rests on the laws of that rule.
use mathlib.Core.Bool.{true, false}
use mathlib.Core.Path.{sym, ap, ◌∙◌}
use Rattle.rom.specs.Lanes.{is_foreign}
use Rattle.rom.proofs.Answered.{rule_hits, rule_passed, far_id, foreign_id}
use Rattle.rom.proofs.lanes.rom_verdict.Goals.{else-id-le-ID_MAX-via-then-id-le-ID_MAX+else-is_foreign, else-id-le-ID_MAX-via-else-id-le-ID_MAX}
use Rattle.rom.proofs.lanes.rom_verdict.Goals as goal

pub returns-then-is_foreign : goal.returns-then-is_foreign
returns-then-is_foreign c =
    let a = c.args in
    let t = c.title_of in
    sym (rule_hits a.s a.id a.lane a.time
    (foreign_id a.s a.id a.lane a.time c.if-id-le-ID_MAX.true true
    (ap is_foreign (sym t.ensures) ∙ sym c.is_foreign.ensures ∙ c.if-is_foreign.true)))

pub returns : goal.returns
returns c =
    let a = c.args in
    c.lane_verdict.ensures
    ∙ sym (rule_passed a.s a.id a.lane a.time
    (elim c.else-id-le-ID_MAX.branch [
      | else-id-le-ID_MAX-via-then-id-le-ID_MAX+else-is_foreign w ↦
          foreign_id a.s a.id a.lane a.time w.if-id-le-ID_MAX.true false
          (ap is_foreign (sym w.title_of.ensures) ∙ sym w.is_foreign.ensures ∙ w.if-is_foreign.false)
      | else-id-le-ID_MAX-via-else-id-le-ID_MAX w ↦ far_id a.s a.id a.lane a.time w.if-id-le-ID_MAX.false
    ]))
