-- What a call with a result row gives: 10 where the result row is too short, else what the call beneath told, with its numbers in the
-- row where it is done.
use Prim.Native.Nat.{ℕ, ◌≤◌, ◌<◌}
use mathlib.Core.Path.{◌≡◌, refl, sym, ap, ◌∙◌}
use mathlib.Core.Bool.{Bool, true, false}
use mathlib.Core.List.{List, [], ◌∷◌}
use native.Mathlib.Omega.{arith}
use lib.ListN.{length, get_or}
use borrow.Author.Tests.{lt-ltb, le-ltb, ltb-true, ltb-false, eq-eqb, ne_eqb}
use Rattle.rules.specs.Refusals.{pick, done, wrong_rows}
use Rattle.waiting.specs.declared.Report.{Report}
use Rattle.waiting.specs.Report.{Reports}
use Rattle.airing.specs.declared.Judgement.{Judgement}
use Rattle.airing.specs.Air.{air_gives, air_leaves}
use Rattle.salvaging.specs.declared.Salvaged.{Salvaged}
use Rattle.scanning.specs.Scan.{scan_of}
use Rattle.salvaging.specs.Rows.{Salvages, lacks_room, salvaged, no_room, flat, filled}
use Rattle.rongalishu.specs.Results.{needing, resulting, OneGiven}
use Rattle.rongalishu.specs.Reports.{WaitsGiven, wait_numbers, waits_places}
use Rattle.notice_rows.specs.declared.Written.{Written}
use Rattle.notice_rows.specs.declared.Step.{Step}
use Rattle.notice_rows.specs.Calls.{WritesRow, StepsRow}
use Rattle.row_questions.specs.Questions.{RowListed}
use Rattle.rongalishu.specs.Notices.{WrittenGiven, NextGiven}
use Rattle.rongalishu.specs.Pools.{PlannerGiven}
use Rattle.rongalishu.specs.Reports.{AirGiven, air_numbers, air_places, SalvageGiven, salvage_gives, salvage_numbers, salvage_places}

-- a row with its numbers, and one that stayed
pub with_numbers : (a : ℕ) (xs row : List ℕ) → a ≡ done → filled xs row ≡ resulting a xs row
unfolding resulting
with_numbers a xs row e = sym (ap (λ b. pick b (filled xs row) row) (eq-eqb a done e))

pub as_it_was : (a : ℕ) (xs row : List ℕ) → (a ≡ done → ⊥) → row ≡ resulting a xs row
unfolding resulting
as_it_was a xs row n = sym (ap (λ b. pick b (filled xs row) row) (ne_eqb a done n))

-- ---- one number

pub one_short : (row : List ℕ) (a x : ℕ) → length row < 1 → OneGiven row a x wrong_rows row
unfolding needing resulting
one_short row a x h = record { answers = sym (ap (λ b. pick b wrong_rows a) (lt-ltb (length row) 1 h)); leaves = refl }

pub one_told : (row : List ℕ) (a x t n : ℕ) (after : List ℕ) → 1 ≤ length row → t ≡ a → n ≡ x → after ≡ resulting t (n ∷ []) row →
    OneGiven row a x t after
unfolding needing
one_told row a x t n after h e f g =
    record {
      answers = e ∙ sym (ap (λ b. pick b wrong_rows a) (le-ltb (length row) 1 h));
      leaves = g ∙ ap (λ (m : ℕ). resulting t (m ∷ []) row) f;
    }

-- ---- waits

pub waits_short : (pool : ℕ) (log : List ℕ) (title : ℕ) (xs row : List ℕ) → length row < waits_places →
    WaitsGiven pool log title xs row wrong_rows row
waits_short pool log title xs row h =
    record { too_short = λ e. (refl, refl); tells = λ e. absurd (omega (arith, h, ltb-false (length row) waits_places e)) }

pub waits_told : (pool : ℕ) (log : List ℕ) (title : ℕ) (xs row : List ℕ) (t : Report) (after : List ℕ) →
    waits_places ≤ length row → Reports pool log title xs t → after ≡ resulting t.answer (wait_numbers t) row →
    WaitsGiven pool log title xs row t.answer after
waits_told pool log title xs row t after h p e =
    record {
      too_short = λ f. absurd (omega (arith, h, ltb-true (length row) waits_places f));
      tells = λ f. record { told = t; reports = p; answers = refl; leaves = e };
    }

-- ---- the air

pub air_short : (pool : ℕ) (log : List ℕ) (title : ℕ) (seen row report : List ℕ) → length report < air_places →
    AirGiven pool log title seen row report wrong_rows row report
unfolding needing resulting
air_short pool log title seen row report h =
    let e = lt-ltb (length report) air_places h in
    record {
      answers = sym (ap (λ b. pick b wrong_rows (air_gives pool log title seen (length row)).answer) e);
      row_is = sym (ap (λ b. pick b row (air_leaves pool log title seen row)) e);
      report_is = refl;
    }

pub air_told : (pool : ℕ) (log : List ℕ) (title : ℕ) (seen row report : List ℕ) (j : Judgement) (after told : List ℕ) →
    air_places ≤ length report → j ≡ air_gives pool log title seen (length row) → after ≡ air_leaves pool log title seen row →
    told ≡ resulting j.answer (air_numbers j) report →
    AirGiven pool log title seen row report j.answer after told
unfolding needing
air_told pool log title seen row report j after told h e f g =
    let l = le-ltb (length report) air_places h in
    record {
      answers =
          ap (λ (q : Judgement). q.answer) e
          ∙ sym (ap (λ b. pick b wrong_rows (air_gives pool log title seen (length row)).answer) l);
      row_is = f ∙ sym (ap (λ b. pick b row (air_leaves pool log title seen row)) l);
      report_is = g ∙ ap (λ (q : Judgement). resulting j.answer (air_numbers q) report) e;
    }

-- ---- salvage

pub salvage_short : (log area row report : List ℕ) → length report < salvage_places →
    SalvageGiven log area row report wrong_rows area row report
unfolding needing resulting
salvage_short log area row report h =
    record {
      answers = sym (ap (λ b. pick b wrong_rows (salvage_gives log area row).answer) (lt-ltb (length report) salvage_places h));
      area_is = refl;
      row_is = refl;
      report_is = refl;
    }

-- a room stays where either lacks room, and is filled where neither does
by_room : (b : Bool) (s : Salvaged) (xs room : List ℕ) → s.answer ≡ done →
    pick b room (filled xs room) ≡ resulting (pick b no_room s).answer xs room
unfolding resulting
by_room true s xs room e = refl
by_room false s xs room e = with_numbers s.answer xs room e

pub salvage_told : (log area row report : List ℕ) (s : Salvaged) (area-after row_after_lem told : List ℕ) →
    salvage_places ≤ length report → Salvages log area row s area-after row_after_lem →
    told ≡ resulting s.answer (salvage_numbers s) report →
    SalvageGiven log area row report s.answer area-after row_after_lem told
unfolding needing
salvage_told log area row report s area-after row_after_lem told h p g =
    let b = lacks_room (scan_of log) area row in
    let t = salvaged (scan_of log) in
    let as-given : (xs room : List ℕ) → resulting (salvage_gives log area row).answer xs room ≡ resulting s.answer xs room =
    λ xs room. ap (λ (q : Salvaged). resulting q.answer xs room) (sym p.gives) in
    record {
      answers =
          ap (λ (q : Salvaged). q.answer) p.gives
          ∙ sym (ap (λ c. pick c wrong_rows (salvage_gives log area row).answer) (le-ltb (length report) salvage_places h));
      area_is = p.area_is ∙ by_room b t (scan_of log).kept area refl ∙ as-given (scan_of log).kept area;
      row_is = p.row_is ∙ by_room b t (flat (scan_of log).skipped) row refl ∙ as-given (flat (scan_of log).skipped) row;
      report_is = g ∙ ap (λ (q : Salvaged). resulting s.answer (salvage_numbers q) report) p.gives;
    }

-- ---- notices

pub written_short : (fields room row : List ℕ) → length row < 1 → WrittenGiven fields room row wrong_rows room row
written_short fields room row h =
    record { too_short = λ e. (refl, (refl, refl)); tells = λ e. absurd (omega (arith, h, ltb-false (length row) 1 e)) }

pub written_told : (fields room row : List ℕ) (t : Written) (Room-after row_after_lem : List ℕ) → 1 ≤ length row →
    WritesRow fields room t Room-after → row_after_lem ≡ resulting t.answer (t.bytes ∷ []) row →
    WrittenGiven fields room row t.answer Room-after row_after_lem
written_told fields room row t Room-after row_after_lem h p e =
    record {
      too_short = λ f. absurd (omega (arith, h, ltb-true (length row) 1 f));
      tells = λ f. record { told = t; writes = p; answers = refl; row_is = e };
    }

pub next_short : (log row fields : List ℕ) → length row < 1 → NextGiven log row fields wrong_rows row fields
next_short log row fields h =
    record { too_short = λ e. (refl, (refl, refl)); tells = λ e. absurd (omega (arith, h, ltb-false (length row) 1 e)) }

pub next_told : (log row fields : List ℕ) (t : Step) (row_after_lem fields-after : List ℕ) → 1 ≤ length row →
    StepsRow log (get_or row 0 0) fields t fields-after → row_after_lem ≡ resulting t.answer (t.place ∷ []) row →
    NextGiven log row fields t.answer row_after_lem fields-after
next_told log row fields t row_after_lem fields-after h p e =
    record {
      too_short = λ f. absurd (omega (arith, h, ltb-true (length row) 1 f));
      tells = λ f. record { told = t; steps = p; answers = refl; row_is = e };
    }

-- ---- the planner

pub planner_short : (agent : List ℕ) (τ : ℕ) (rates is ts ks row : List ℕ) → length row < 1 →
    PlannerGiven agent τ rates is ts ks row wrong_rows is ts ks row
planner_short agent τ rates is ts ks row h =
    record {
      too_short = λ e. (refl, (refl, (refl, (refl, refl))));
      tells = λ e. absurd (omega (arith, h, ltb-false (length row) 1 e));
    }

pub planner_told : (agent : List ℕ) (τ : ℕ) (rates is ts ks row : List ℕ) (r n : ℕ) (is' ts' ks' row' : List ℕ) → 1 ≤ length row →
    RowListed agent τ rates is ts ks r n is' ts' ks' → row' ≡ resulting r (n ∷ []) row →
    PlannerGiven agent τ rates is ts ks row r is' ts' ks' row'
planner_told agent τ rates is ts ks row r n is' ts' ks' row' h p e =
    record {
      too_short = λ f. absurd (omega (arith, h, ltb-true (length row) 1 f));
      tells = λ f. record { many = n; lists = p; row_is = e };
    }
