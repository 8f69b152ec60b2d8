-- `rom_tick` meets its contract: each way out decides the rule in front.
-- Rests on the laws of that rule.
use mathlib.Core.Bool.{true, false}
use mathlib.Core.List.{List}
use mathlib.Core.Path.{◌≡◌, sym, ap, ◌∙◌}
use Prim.Native.Nat.{ℕ, ◌≤◌}
use native.Mathlib.Omega.{arith}
use Rattle.rules.specs.Limits.{id_max}
use Rattle.story.specs.Kept.{title_at}
use Rattle.rom.specs.Lanes.{is_foreign}
use Rattle.rom.proofs.Answered.{far_id, foreign_id}
use Rattle.agent_rows.specs.Layout.{title_place}
use Rattle.agent_rows.specs.Packed.{title_from, unpacked}
use Rattle.agent_rows.proofs.Inverse.{title_at_lem}
use Rattle.row_calls.proofs.Cells.{lane_tick}
use Rattle.row_questions.proofs.Asking.{rule_told, passed_told}
use Rattle.row_questions.proofs.small.rom_tick.Goals.{else-id-le-ID_MAX-via-then-id-le-ID_MAX+else-is_foreign, else-id-le-ID_MAX-via-else-id-le-ID_MAX}
use Rattle.row_questions.proofs.small.rom_tick.Goals as goal

-- the title of an id is the one at its place
same : (r : List ℕ) (i at : ℕ) → i ≤ id_max → at ≡ title_place i → is_foreign (title_at (unpacked r).state i) ≡ is_foreign (title_from r at)
same r i at low place = ap is_foreign (title_at_lem r i (omega arith) ∙ ap (title_from r) (sym place))

pub is_foreign-requires : goal.is_foreign-requires
is_foreign-requires c = omega (arith, c.title_place.ensures, c.if-id-le-ID_MAX.true, c.requires)

pub returns-then-is_foreign : goal.returns-then-is_foreign
returns-then-is_foreign c =
    let at_place = c in
    let low = at_place.if-id-le-ID_MAX.true in
    let a = at_place.args in
    let r = a.row.now in (
      rule_told r a.id a.lane a.time
          (foreign_id (unpacked r).state a.id a.lane a.time low true
          (same r a.id at_place.title_place.result low at_place.title_place.ensures ∙ sym c.is_foreign.ensures ∙ c.if-is_foreign.true)),
      λ e. absurd (omega (arith, e)),
    )

pub returns : goal.returns
returns c =
    let s = c in
    let a = s.args in
    let r = a.row.now in
    let told = c.shown_tick.ensures in (
      told.0
          ∙ passed_told r a.id a.lane a.time s.requires
          (elim c.else-id-le-ID_MAX.branch [
            | else-id-le-ID_MAX-via-then-id-le-ID_MAX+else-is_foreign w ↦
                foreign_id (unpacked r).state a.id a.lane a.time w.if-id-le-ID_MAX.true false
                (same r a.id w.title_place.result w.if-id-le-ID_MAX.true w.title_place.ensures ∙ sym w.is_foreign.ensures ∙ w.if-is_foreign.false)
            | else-id-le-ID_MAX-via-else-id-le-ID_MAX w ↦ far_id (unpacked r).state a.id a.lane a.time w.if-id-le-ID_MAX.false
          ]),
      λ e. told.1.is ∙ lane_tick r a.id a.lane a.time (sym told.0 ∙ e),
    )
