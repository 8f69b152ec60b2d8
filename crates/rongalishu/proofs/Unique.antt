-- The contracts of the library's calls settle answer and every lent row: two outcomes that one admits are equal. Rests on their
-- equations, and for the waits on `told_once`.
use Prim.Native.Nat.{ℕ}
use mathlib.Core.Path.{◌≡◌, sym, ap, ap₂, ◌∙◌}
use mathlib.Core.Logic.{⊎_elim}
use mathlib.Core.List.{List, [], ◌∷◌}
use lib.Dec.{ltb}
use lib.ListN.{length}
use Rattle.rules.specs.OneOutcome.{OneEnd}
use Rattle.rules.proofs.Tests.{decide}
use Rattle.waiting.specs.declared.Report.{Report}
use Rattle.waiting.proofs.Telling.{told_once}
use Rattle.rongalishu.specs.Results.{resulting, OneGiven}
use Rattle.rongalishu.specs.Reports.{WaitsTold, WaitsGiven, wait_numbers, waits_places}
use Rattle.row_questions.proofs.Unique.{listed_alike}
use Rattle.rongalishu.specs.Notices.{WrittenTold, NextTold}
use Rattle.rongalishu.specs.Pools.{PlannerTold}
use Rattle.rongalishu.proofs.events.rl_fresh_row.Kinds as fresh-kinds
use Rattle.rongalishu.proofs.events.rl_fresh_row.Reads as fresh-call
use Rattle.rongalishu.proofs.events.rl_open_row.Kinds as open-kinds
use Rattle.rongalishu.proofs.events.rl_open_row.Reads as open-call
use Rattle.rongalishu.proofs.events.rl_skip_row.Kinds as skip-kinds
use Rattle.rongalishu.proofs.events.rl_skip_row.Reads as skip-call
use Rattle.rongalishu.proofs.events.rl_change_row.Kinds as change-kinds
use Rattle.rongalishu.proofs.events.rl_change_row.Reads as change-call
use Rattle.rongalishu.proofs.events.rl_close_row.Kinds as close-kinds
use Rattle.rongalishu.proofs.events.rl_close_row.Reads as close-call
use Rattle.rongalishu.proofs.events.rl_hold_row.Kinds as hold-kinds
use Rattle.rongalishu.proofs.events.rl_hold_row.Reads as hold-call
use Rattle.rongalishu.proofs.events.rl_lift_row.Kinds as lift-kinds
use Rattle.rongalishu.proofs.events.rl_lift_row.Reads as lift-call
use Rattle.rongalishu.proofs.events.rl_take_row.Kinds as take-kinds
use Rattle.rongalishu.proofs.events.rl_take_row.Reads as take-call
use Rattle.rongalishu.proofs.lanes.rl_lane_row.Kinds as lane-kinds
use Rattle.rongalishu.proofs.lanes.rl_lane_row.Reads as lane-call
use Rattle.rongalishu.proofs.lanes.rl_rom_lane_row.Kinds as rom-lane-kinds
use Rattle.rongalishu.proofs.lanes.rl_rom_lane_row.Reads as rom-lane-call
use Rattle.rongalishu.proofs.lanes.rl_held_row.Kinds as held-kinds
use Rattle.rongalishu.proofs.lanes.rl_held_row.Reads as held-call
use Rattle.rongalishu.proofs.pools.rl_status_row.Kinds as status-kinds
use Rattle.rongalishu.proofs.pools.rl_status_row.Reads as status-call
use Rattle.rongalishu.proofs.pools.rl_planner_row.Kinds as planner-kinds
use Rattle.rongalishu.proofs.pools.rl_planner_row.Reads as planner-call
use Rattle.rongalishu.proofs.notices.rl_write_row.Kinds as write-kinds
use Rattle.rongalishu.proofs.notices.rl_write_row.Reads as write-call
use Rattle.rongalishu.proofs.notices.rl_read_row.Kinds as read-kinds
use Rattle.rongalishu.proofs.notices.rl_read_row.Reads as read-call
use Rattle.rongalishu.proofs.notices.rl_next_row.Kinds as next-kinds
use Rattle.rongalishu.proofs.notices.rl_next_row.Reads as next-call
use Rattle.rongalishu.proofs.saving.rl_save_row.Kinds as save-kinds
use Rattle.rongalishu.proofs.saving.rl_save_row.Reads as save-call
use Rattle.rongalishu.proofs.saving.rl_load_row.Kinds as load-kinds
use Rattle.rongalishu.proofs.saving.rl_load_row.Reads as load-call
use Rattle.rongalishu.proofs.boxes.rl_plan_row.Kinds as plan-kinds
use Rattle.rongalishu.proofs.boxes.rl_plan_row.Reads as plan-call
use Rattle.rongalishu.proofs.boxes.rl_rom_fill_row.Kinds as rom-fill-kinds
use Rattle.rongalishu.proofs.boxes.rl_rom_fill_row.Reads as rom-fill-call
use Rattle.rongalishu.proofs.boxes.rl_rom_plan_row.Kinds as rom-plan-kinds
use Rattle.rongalishu.proofs.boxes.rl_rom_plan_row.Reads as rom-plan-call
use Rattle.rongalishu.proofs.boxes.rl_skip_plan_row.Kinds as skip-plan-kinds
use Rattle.rongalishu.proofs.boxes.rl_skip_plan_row.Reads as skip-plan-call
use Rattle.rongalishu.proofs.pools.rl_share_row.Kinds as share-kinds
use Rattle.rongalishu.proofs.pools.rl_share_row.Reads as share-call
use Rattle.rongalishu.proofs.reports.rl_waits_row.Kinds as waits-kinds
use Rattle.rongalishu.proofs.reports.rl_waits_row.Reads as waits-call
use Rattle.rongalishu.proofs.reports.rl_air_row.Kinds as air-kinds
use Rattle.rongalishu.proofs.reports.rl_air_row.Reads as air-call
use Rattle.rongalishu.proofs.reports.rl_admissions_row.Kinds as admissions-kinds
use Rattle.rongalishu.proofs.reports.rl_admissions_row.Reads as admissions-call
use Rattle.rongalishu.proofs.reports.rl_salvage_row.Kinds as salvage-kinds
use Rattle.rongalishu.proofs.reports.rl_salvage_row.Reads as salvage-call

-- ---- the agent's row, which is the first parameter

pub fresh_one_outcome : OneEnd 1 fresh-kinds.ps fresh-kinds.r (λ κs e f. e.0.now ≡ f.0.now) fresh-call.Learnt
fresh_one_outcome κs a x y e f p q = (p.0 ∙ sym q.0, p.1 ∙ sym q.1)

pub open_one_outcome : OneEnd 1 open-kinds.ps open-kinds.r (λ κs e f. e.0.now ≡ f.0.now) open-call.Learnt
open_one_outcome κs a x y e f p q = (p.0 ∙ sym q.0, p.1 ∙ sym q.1)

pub skip_one_outcome : OneEnd 1 skip-kinds.ps skip-kinds.r (λ κs e f. e.0.now ≡ f.0.now) skip-call.Learnt
skip_one_outcome κs a x y e f p q = (p.0 ∙ sym q.0, p.1 ∙ sym q.1)

pub change_one_outcome : OneEnd 1 change-kinds.ps change-kinds.r (λ κs e f. e.0.now ≡ f.0.now) change-call.Learnt
change_one_outcome κs a x y e f p q = (p.0 ∙ sym q.0, p.1 ∙ sym q.1)

pub close_one_outcome : OneEnd 1 close-kinds.ps close-kinds.r (λ κs e f. e.0.now ≡ f.0.now) close-call.Learnt
close_one_outcome κs a x y e f p q = (p.0 ∙ sym q.0, p.1 ∙ sym q.1)

pub hold_one_outcome : OneEnd 1 hold-kinds.ps hold-kinds.r (λ κs e f. e.0.now ≡ f.0.now) hold-call.Learnt
hold_one_outcome κs a x y e f p q = (p.0 ∙ sym q.0, p.1 ∙ sym q.1)

pub lift_one_outcome : OneEnd 1 lift-kinds.ps lift-kinds.r (λ κs e f. e.0.now ≡ f.0.now) lift-call.Learnt
lift_one_outcome κs a x y e f p q = (p.0 ∙ sym q.0, p.1 ∙ sym q.1)

pub take_one_outcome : OneEnd 2 take-kinds.ps take-kinds.r (λ κs e f. e.0.now ≡ f.0.now) take-call.Learnt
take_one_outcome κs a x y e f p q = (p.0 ∙ sym q.0, p.1 ∙ sym q.1)

-- ---- one number besides the answer

one_alike : (row : List ℕ) (a x r q : ℕ) (after left : List ℕ) → OneGiven row a x r after → OneGiven row a x q left →
    (r ≡ q) × (after ≡ left)
one_alike row a x r q after left s t =
    let same : r ≡ q = s.answers ∙ sym t.answers in
    (same, s.leaves ∙ ap (λ (n : ℕ). resulting n (x ∷ []) row) same ∙ sym t.leaves)

-- the result row is parameter 4, from 0
pub lane_one_outcome : OneEnd 2 lane-kinds.ps lane-kinds.r (λ κs e f. e.1.1.1.1.0.now ≡ f.1.1.1.1.0.now) lane-call.Learnt
lane_one_outcome κs a x y e f p q = one_alike _ _ _ x y _ _ p q

pub rom_lane_one_outcome :
    OneEnd 3 rom-lane-kinds.ps rom-lane-kinds.r (λ κs e f. e.1.1.1.1.1.0.now ≡ f.1.1.1.1.1.0.now) rom-lane-call.Learnt
rom_lane_one_outcome κs a x y e f p q = one_alike _ _ _ x y _ _ p q

-- and parameter 2
pub held_one_outcome : OneEnd 2 held-kinds.ps held-kinds.r (λ κs e f. e.1.1.0.now ≡ f.1.1.0.now) held-call.Learnt
held_one_outcome κs a x y e f p q = one_alike _ _ _ x y _ _ p q

-- ---- plans and sharing; the row is the last parameter

pub plan_one_outcome : OneEnd 1 plan-kinds.ps plan-kinds.r (λ κs e f. e.1.1.1.1.0.now ≡ f.1.1.1.1.0.now) plan-call.Learnt
plan_one_outcome κs a x y e f p q = (p.answer ∙ sym q.answer, p.left ∙ sym q.left)

pub rom_plan_one_outcome :
    OneEnd 2 rom-plan-kinds.ps rom-plan-kinds.r (λ κs e f. e.1.1.1.1.1.0.now ≡ f.1.1.1.1.1.0.now) rom-plan-call.Learnt
rom_plan_one_outcome κs a x y e f p q = (p.answer ∙ sym q.answer, p.left ∙ sym q.left)

pub rom_fill_one_outcome : OneEnd 1 rom-fill-kinds.ps rom-fill-kinds.r (λ κs e f. e.0.now ≡ f.0.now) rom-fill-call.Learnt
rom_fill_one_outcome κs a x y e f p q = (p.answer ∙ sym q.answer, p.left ∙ sym q.left)

pub skip_plan_one_outcome :
    OneEnd 1 skip-plan-kinds.ps skip-plan-kinds.r (λ κs e f. e.1.1.0.now ≡ f.1.1.0.now) skip-plan-call.Learnt
skip_plan_one_outcome κs a x y e f p q = (p.answer ∙ sym q.answer, p.left ∙ sym q.left)

pub share_one_outcome :
    OneEnd 5 share-kinds.ps share-kinds.r (λ κs e f. e.1.1.1.1.1.0.now ≡ f.1.1.1.1.1.0.now) share-call.Learnt
share_one_outcome κs a x y e f p q = (p.answer ∙ sym q.answer, p.counts ∙ sym q.counts)

-- ---- reports

-- equal answers leave the same in a result row
alike : (a b : ℕ) (xs row : List ℕ) → a ≡ b → resulting a xs row ≡ resulting b xs row
alike a b xs row e = ap (λ (n : ℕ). resulting n xs row) e

told_alike : (pool : ℕ) (log : List ℕ) (title : ℕ) (xs row : List ℕ) (r q : ℕ) (a b : List ℕ) →
    WaitsTold pool log title xs row r a → WaitsTold pool log title xs row q b → (r ≡ q) × (a ≡ b)
told_alike pool log title xs row r q a b s t =
    let one : s.told ≡ t.told = told_once pool log title xs s.told t.told s.reports t.reports in
    let same : r ≡ q = s.answers ∙ ap (λ (z : Report). z.answer) one ∙ sym t.answers in
    (same, s.leaves ∙ ap₂ (λ n (z : Report). resulting n (wait_numbers z) row) same one ∙ sym t.leaves)

waits_alike : (pool : ℕ) (log : List ℕ) (title : ℕ) (xs row : List ℕ) (r q : ℕ) (a b : List ℕ) →
    WaitsGiven pool log title xs row r a → WaitsGiven pool log title xs row q b → (r ≡ q) × (a ≡ b)
waits_alike pool log title xs row r q a b s t =
    ⊎_elim
    (λ e. ((s.too_short e).0 ∙ sym (t.too_short e).0, (s.too_short e).1 ∙ sym (t.too_short e).1))
    (λ e. told_alike pool log title xs row r q a b (s.tells e) (t.tells e))
    (decide (ltb (length row) waits_places))

-- the report's row is parameter 4, from 0
pub waits_one_outcome :
    OneEnd 3 waits-kinds.ps waits-kinds.r (λ κs e f. e.1.1.1.1.0.now ≡ f.1.1.1.1.0.now) waits-call.Learnt
waits_one_outcome κs a x y e f p q = waits_alike _ _ _ _ _ x y _ _ p q

-- the row of results and the report's are parameters 4 and 5
pub air_one_outcome :
    OneEnd 4 air-kinds.ps air-kinds.r
    (λ κs e f. (e.1.1.1.1.0.now ≡ f.1.1.1.1.0.now) × (e.1.1.1.1.1.0.now ≡ f.1.1.1.1.1.0.now))
    air-call.Learnt
air_one_outcome κs a x y e f p q =
    let same : x ≡ y = p.answers ∙ sym q.answers in (
      same,
      (
        p.row_is ∙ sym q.row_is,
        p.report_is ∙ alike x y _ _ same ∙ sym q.report_is,
      ),
    )

-- the marks are parameter 3
pub admissions_one_outcome :
    OneEnd 2 admissions-kinds.ps admissions-kinds.r (λ κs e f. e.1.1.1.0.now ≡ f.1.1.1.0.now) admissions-call.Learnt
admissions_one_outcome κs a x y e f p q = (p.0 ∙ sym q.0, p.1 ∙ sym q.1)

-- the area, the stretches and the report's row are parameters 1 to 3
pub salvage_one_outcome :
    OneEnd 4 salvage-kinds.ps salvage-kinds.r
    (λ κs e f.
    (e.1.0.now ≡ f.1.0.now) × ((e.1.1.0.now ≡ f.1.1.0.now) × (e.1.1.1.0.now ≡ f.1.1.1.0.now)))
    salvage-call.Learnt
salvage_one_outcome κs a x y e f p q =
    let same : x ≡ y = p.answers ∙ sym q.answers in (
      same,
      (
        p.area_is ∙ alike x y _ _ same ∙ sym q.area_is,
        (
          p.row_is ∙ alike x y _ _ same ∙ sym q.row_is,
          p.report_is ∙ alike x y _ _ same ∙ sym q.report_is,
        ),
      ),
    )

-- ---- notices

pub read_one_outcome : OneEnd 2 read-kinds.ps read-kinds.r (λ κs e f. e.1.0.now ≡ f.1.0.now) read-call.Learnt
read_one_outcome κs a x y e f p q = (p.answers ∙ sym q.answers, p.leaves ∙ sym q.leaves)

written_alike : (fields room row : List ℕ) (r q : ℕ) (a b c d : List ℕ) →
    WrittenTold fields room row r a c → WrittenTold fields room row q b d → (r ≡ q) × ((a ≡ b) × (c ≡ d))
written_alike fields room row r q a b c d s t =
    let answer : s.told.answer ≡ t.told.answer = s.writes.answers ∙ sym t.writes.answers in
    let bytes : s.told.bytes ≡ t.told.bytes = s.writes.counts ∙ (rw answer (sym t.writes.counts)) in
    let same : r ≡ q = s.answers ∙ answer ∙ sym t.answers in (
      same,
      (
        s.writes.leaves ∙ (rw answer (sym t.writes.leaves)),
        s.row_is ∙ ap₂ (λ (n m : ℕ). resulting n (m ∷ []) row) same bytes ∙ sym t.row_is,
      ),
    )

-- the room and the result row are parameters 1 and 2, from 0
pub write_one_outcome :
    OneEnd 3 write-kinds.ps write-kinds.r
    (λ κs e f. (e.1.0.now ≡ f.1.0.now) × (e.1.1.0.now ≡ f.1.1.0.now)) write-call.Learnt
write_one_outcome κs a x y e f p q =
    ⊎_elim
    (λ h.
    let s = p.too_short h in
    let t = q.too_short h in
    (s.0 ∙ sym t.0, (s.1.0 ∙ sym t.1.0, s.1.1 ∙ sym t.1.1)))
    (λ h. written_alike _ _ _ x y _ _ _ _ (p.tells h) (q.tells h))
    (decide (ltb (length a.1.1.0.now) 1))

next_alike : (log row fields : List ℕ) (r q : ℕ) (a b c d : List ℕ) →
    NextTold log row fields r a c → NextTold log row fields q b d → (r ≡ q) × ((a ≡ b) × (c ≡ d))
next_alike log row fields r q a b c d s t =
    let same : r ≡ q = s.answers ∙ s.steps.answers ∙ sym t.steps.answers ∙ sym t.answers in
    let place : s.told.place ≡ t.told.place = s.steps.moves ∙ sym t.steps.moves in (
      same,
      (
        s.row_is ∙ ap₂ (λ (n m : ℕ). resulting n (m ∷ []) row) same place ∙ sym t.row_is,
        s.steps.leaves ∙ sym t.steps.leaves,
      ),
    )

-- the place and the fields are parameters 1 and 2
pub next_one_outcome :
    OneEnd 3 next-kinds.ps next-kinds.r
    (λ κs e f. (e.1.0.now ≡ f.1.0.now) × (e.1.1.0.now ≡ f.1.1.0.now)) next-call.Learnt
next_one_outcome κs a x y e f p q =
    ⊎_elim
    (λ h.
    let s = p.too_short h in
    let t = q.too_short h in
    (s.0 ∙ sym t.0, (s.1.0 ∙ sym t.1.0, s.1.1 ∙ sym t.1.1)))
    (λ h. next_alike _ _ _ x y _ _ _ _ (p.tells h) (q.tells h))
    (decide (ltb (length a.1.0.now) 1))

-- ---- status and the planner

-- the rows of counts, lanes held and marks are parameters 3 to 5, from 0
pub status_one_outcome :
    OneEnd 5 status-kinds.ps status-kinds.r
    (λ κs e f.
    (e.1.1.1.0.now ≡ f.1.1.1.0.now)
    × ((e.1.1.1.1.0.now ≡ f.1.1.1.1.0.now) × (e.1.1.1.1.1.0.now ≡ f.1.1.1.1.1.0.now)))
    status-call.Learnt
status_one_outcome κs a x y e f p q =
    let same : x ≡ y = p.0 ∙ sym q.0 in (
      same,
      (
        rw same at p.1.0 ∙ sym q.1.0,
        (rw same at p.1.1.0 ∙ sym q.1.1.0, rw same at p.1.1.1 ∙ sym q.1.1.1),
      ),
    )

planner_alike : (agent : List ℕ) (τ : ℕ) (rates is ts ks row : List ℕ) (r q : ℕ) (a b c d a₂ b₂ c₂ d₂ : List ℕ) →
    PlannerTold agent τ rates is ts ks row r a b c d → PlannerTold agent τ rates is ts ks row q a₂ b₂ c₂ d₂ →
    (r ≡ q) × ((a ≡ a₂) × ((b ≡ b₂) × ((c ≡ c₂) × (d ≡ d₂))))
planner_alike agent τ rates is ts ks row r q a b c d a₂ b₂ c₂ d₂ s t =
    let one = listed_alike agent τ rates is ts ks r s.many q t.many a b c a₂ b₂ c₂ s.lists t.lists in (
      one.0,
      (
        one.1.1.0,
        (
          one.1.1.1.0,
          (one.1.1.1.1, s.row_is ∙ ap₂ (λ (n m : ℕ). resulting n (m ∷ []) row) one.0 one.1.0 ∙ sym t.row_is),
        ),
      ),
    )

-- the rows of ids, times and counts and the result row are parameters 3 to 6
pub planner_one_outcome :
    OneEnd 6 planner-kinds.ps planner-kinds.r
    (λ κs e f.
    (e.1.1.1.0.now ≡ f.1.1.1.0.now)
    × ((e.1.1.1.1.0.now ≡ f.1.1.1.1.0.now)
    × ((e.1.1.1.1.1.0.now ≡ f.1.1.1.1.1.0.now) × (e.1.1.1.1.1.1.0.now ≡ f.1.1.1.1.1.1.0.now))))
    planner-call.Learnt
planner_one_outcome κs a x y e f p q =
    ⊎_elim
    (λ h.
    let s = p.too_short h in
    let t = q.too_short h in (
      s.0 ∙ sym t.0,
      (
        s.1.0 ∙ sym t.1.0,
        (s.1.1.0 ∙ sym t.1.1.0, (s.1.1.1.0 ∙ sym t.1.1.1.0, s.1.1.1.1 ∙ sym t.1.1.1.1)),
      ),
    ))
    (λ h. planner_alike _ _ _ _ _ _ _ x y _ _ _ _ _ _ _ _ (p.tells h) (q.tells h))
    (decide (ltb (length a.1.1.1.1.1.1.0.now) 1))

-- ---- snapshots

pub save_one_outcome : OneEnd 2 save-kinds.ps save-kinds.r (λ κs e f. e.1.0.now ≡ f.1.0.now) save-call.Learnt
save_one_outcome κs a x y e f p q =
    let answer : x ≡ y = p.answers ∙ sym q.answers in
    (answer, p.leaves ∙ (rw answer (sym q.leaves)))

pub load_one_outcome : OneEnd 2 load-kinds.ps load-kinds.r (λ κs e f. e.0.now ≡ f.0.now) load-call.Learnt
load_one_outcome κs a x y e f p q =
    let answer : x ≡ y = p.answers ∙ sym q.answers in
    (answer, p.leaves ∙ (rw answer (sym q.leaves)))
