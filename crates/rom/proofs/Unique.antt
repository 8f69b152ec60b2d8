-- The contracts settle what the calls give back: two outcomes that one admits are equal. And where floor and cap are
-- the box's and the lent table is one that was filled, an outcome of the small box's call and one of the computing call, asked the
-- same, are equal too, answer, cell and row. Rests on the contracts being equations to definitions, and on the laws of the rule in front.
use mathlib.Core.Path.{◌≡◌, sym, ap₂, ◌∙◌}
use Prim.Native.Nat.{ℕ}
use contract.Lifetimes.{Lfts}
use borrow.Fn.Kinds.{Dens, res_t, ended_of}
use denote.Triple.Clauses.{AtExit}
use Rattle.rules.specs.OneOutcome.{OneEnd, OneOutcome}
use Rattle.story.specs.Kept.{title_at}
use Rattle.plans.proofs.plan.Kinds as computed-plan-kinds
use Rattle.plans.proofs.plan.Reads as computed-plan
use Rattle.scheduler.proofs.lane.Kinds as computed-kinds
use Rattle.scheduler.proofs.lane.Reads as computed-lane
use Rattle.rom_table.specs.Table.{rom_floor, rom_cap, IsTable}
use Rattle.rom.specs.Lanes.{Own}
use Rattle.rom.proofs.Planned.{same_plan, table_plan}
use Rattle.rom.proofs.Answered.{same_answer, same_cell, table_lane}
use Rattle.rom.proofs.lanes.lane.Kinds as lane-kinds
use Rattle.rom.proofs.lanes.lane.Reads as lane-call
use Rattle.rom.proofs.plan.plan.Kinds as plan-kinds
use Rattle.rom.proofs.plan.plan.Reads as plan-call

pub lane_one_outcome : OneOutcome 1 lane-kinds.ps lane-kinds.r lane-call.Learnt
lane_one_outcome κs a x y e f p q =
    ap₂ (λ (n m : ℕ). record { answer = n; cell = m }) (p.0 ∙ sym q.0) (p.1 ∙ sym q.1)

-- the row is parameter 5, from 0
pub plan_one_outcome : OneEnd 2 plan-kinds.ps plan-kinds.r (λ κs e f. e.1.1.1.1.1.0.now ≡ f.1.1.1.1.1.0.now)
    plan-call.Learnt
plan_one_outcome κs a x y e f p q = (p.answer ∙ sym q.answer, p.left ∙ sym q.left)

-- ---- the two boxes

-- for every state, id, lane and time, sending lanes included: behind the table the parameters are the computing call's
pub lanes_agree : (κs : Lfts 1) (λs : Lfts 0) (a : Dens κs lane-kinds.ps) (x : (res_t lane-kinds.r κs).Denot) (y : (res_t computed-kinds.r λs).Denot)
    (e : AtExit (ended_of 1 lane-kinds.ps lane-kinds.r) κs) (f : AtExit (ended_of 0 computed-kinds.ps computed-kinds.r) λs)
    → IsTable a.0.now → Own (title_at a.1.0 a.1.1.0) → lane-call.Learnt κs a x e → computed-lane.Learnt λs a.1 y f → x ≡ y
lanes_agree κs λs a x y e f table own p q =
    let by = table_lane a.0.now a.1.0 a.1.1.0 a.1.1.1.0 a.1.1.1.1.0 table in
    ap₂ (λ (n m : ℕ). record { answer = n; cell = m })
    (p.0 ∙ by.0 ∙ same_answer a.1.0 a.1.1.0 a.1.1.1.0 a.1.1.1.1.0 own ∙ sym q.0)
    (p.1 ∙ by.1 ∙ same_cell a.1.0 a.1.1.0 a.1.1.1.0 a.1.1.1.1.0 own ∙ sym q.1)

-- for every count, arrival and row: behind the table the parameters are the computing call's
pub plans_agree : (κs : Lfts 2) (λs : Lfts 1) (a : Dens κs plan-kinds.ps) (x : (res_t plan-kinds.r κs).Denot)
    (y : (res_t computed-plan-kinds.r λs).Denot) (e : AtExit (ended_of 2 plan-kinds.ps plan-kinds.r) κs)
    (f : AtExit (ended_of 1 computed-plan-kinds.ps computed-plan-kinds.r) λs) → IsTable a.0.now → a.1.0 ≡ rom_floor → a.1.1.0 ≡ rom_cap
    → plan-call.Learnt κs a x e → computed-plan.Learnt λs a.1 y f
    → (x ≡ y) × (e.1.1.1.1.1.0.now ≡ f.1.1.1.1.0.now)
plans_agree κs λs a x y e f table floor cap p q =
    let own = table_plan a.0.now table a.1.0 a.1.1.0 a.1.1.1.0 a.1.1.1.1.0 a.1.1.1.1.1.0.now x e.1.1.1.1.1.0.now p in
    let s = same_plan a.1.0 a.1.1.0 a.1.1.1.0 a.1.1.1.1.0 a.1.1.1.1.1.0.now x e.1.1.1.1.1.0.now floor cap own in
    (s.answer ∙ sym q.answer, s.left ∙ sym q.left)
