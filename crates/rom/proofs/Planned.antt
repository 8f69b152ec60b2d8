-- The plan call by its two ways: where floor and cap are the box's, answer and row are the computing call's; where one is
-- not, 1. And what holds where it is not refused. By a lent table: what it leaves, and that by one that was filled it is the small box's
-- plan. Rests on the plan crate's laws of refusals and of the row, and on the plan as a first showing.
use mathlib.Core.Path.{◌≡◌, refl, sym, ◌∙◌}
use mathlib.Core.Bool.{true, false}
use mathlib.Core.List.{List}
use mathlib.Core.Logic.{⊎_elim}
use Prim.Native.Nat.{ℕ, ◌^◌, ◌≤◌}
use native.Mathlib.Omega.{arith}
use lib.Dec.{eqb}
use lib.ListN.{length}
use borrow.Author.Tests.{eq-eqb, eqb-true, eqb-false}
use Rattle.rules.specs.Limits.{asked_max}
use Rattle.rules.specs.Refusals.{done, first_hit, outside_limits}
use Rattle.rules.proofs.Tests.{decide}
use Rattle.plans.specs.Padded.{plan_at, plan_answer}
use Rattle.plans.specs.Row.{written, Planned}
use Rattle.plans.proofs.Row.{filled_done, filled_refused, left_done, left_refused}
use Rattle.grid.specs.Lanes.{lane_cell}
use Rattle.plans.proofs.padded.Refusals.{Accepted, accepted_only}
use Rattle.plans.proofs.padded.Row.{row_done, row_refused}
use Rattle.rom_table.specs.Table.{rom_floor, rom_cap, rom_period, rom_entries, is_other, IsTable, table_cell}
use Rattle.rom_table.proofs.OwnNumbers.{own, own_numbers_lem}
use Rattle.rom_table.proofs.Entries.{table_cell_lem}
use Rattle.rom.specs.Showing.{seen_within}
use Rattle.rom.specs.Plan.{rom_plan_answer, rom_plan_row, RomPlanned, places_beside, table_plan_answer, table_plan_row, TablePlanned}
use Rattle.rom.proofs.Showing.{seen_plan, seen_ext}
use Rattle.rom.proofs.Noted.{written_ext}

module _ (A K k a n : ℕ) where
  pub plan_own : is_other A K ≡ false → rom_plan_answer A K k a n ≡ plan_answer A K k a n
  unfolding rom_plan_answer plan_answer first_hit
  plan_own h = rw h refl

  pub plan_other : is_other A K ≡ true → rom_plan_answer A K k a n ≡ outside_limits
  unfolding rom_plan_answer first_hit
  plan_other h = rw h refl

-- a call that is not refused
pub record RomAccepted (A K k a n : ℕ) : Type 0 where
  pub floor : A ≡ rom_floor
  pub cap : K ≡ rom_cap
  pub accepted : Accepted rom_floor rom_cap k a n

pub rom_accepted : (A K k a n : ℕ) → rom_plan_answer A K k a n ≡ done → RomAccepted A K k a n
rom_accepted A K k a n e =
    ⊎_elim (λ h. absurd (omega (arith, plan_other A K k a n h)))
    (λ h. let w = own_numbers_lem A K h in
    let x : Accepted A K k a n = accepted_only A K k a n (sym (plan_own A K k a n h) ∙ e) in
    record { floor = w.0; cap = w.1; accepted = rw (w.0, w.1) at x })
    (decide (is_other A K))

module _ (A K k a : ℕ) (row : List ℕ) (r : ℕ) (after : List ℕ) (e : r ≡ rom_plan_answer A K k a (length row)) where
  pub rom_done : r ≡ done → after ≡ written (plan_at rom_floor rom_cap k a) row (2 ^ rom_cap)
      → RomPlanned A K k a row r after
  unfolding rom_plan_row
  rom_done d w =
      let o = rom_accepted A K k a (length row) (sym e ∙ d) in
      let q : plan_answer rom_floor rom_cap k a (length row) ≡ done =
      sym (plan_own rom_floor rom_cap k a (length row) refl) ∙ rw (o.floor, o.cap) at (sym e ∙ d) in
      record { answer = e; left = rw (o.floor, o.cap) (w ∙ sym (row_done rom_floor rom_cap k a row q)) }

  pub rom_refused : (r ≡ done → ⊥) → after ≡ row → RomPlanned A K k a row r after
  unfolding rom_plan_row
  rom_refused n w =
      record {
        answer = e;
        left =
            ⊎_elim (λ h. rw h w)
            (λ h. rw h
            (w ∙ sym (row_refused A K k a row (λ d. n (e ∙ plan_own A K k a (length row) h ∙ d)))))
            (decide (is_other A K));
      }

-- of its own floor and cap the small box's plan is the computing call's, answer and row
pub same_plan : (A K k a : ℕ) (row : List ℕ) (r : ℕ) (after : List ℕ) → A ≡ rom_floor → K ≡ rom_cap
    → RomPlanned A K k a row r after → Planned A K k a row r after
unfolding rom_plan_row
same_plan A K k a row r after e f p =
    let h : is_other A K ≡ false = own A K e f in
    record { answer = p.answer ∙ plan_own A K k a (length row) h; left = rw h at p.left }

-- ---- by a lent table

module _ (T : List ℕ) (A K k a n : ℕ) where
  beside : length T ≡ rom_entries → places_beside T n ≡ n
  unfolding places_beside
  beside e = rw (eq-eqb (length T) rom_entries e) refl

  -- a call that is not refused has a table of the right length
  pub record TableAccepted : Type 0 where
    pub long : length T ≡ rom_entries
    pub count : k ≤ rom_cap
    pub room : 2 ^ rom_cap ≤ n
    pub arrival : a ≤ asked_max

  pub table_accepted : table_plan_answer T A K k a n ≡ done → TableAccepted
  unfolding table_plan_answer places_beside
  table_accepted e =
      ⊎_elim
      (λ h. let o = (rom_accepted A K k a n (rw h at e)).accepted in
      record { long = eqb-true (length T) rom_entries h; count = o.count.fit; room = o.room; arrival = o.arrival })
      (λ h. let o = (rom_accepted A K k a 0 (rw h at e)).accepted in absurd (omega (arith, o.room)))
      (decide (eqb (length T) rom_entries))

-- what the call leaves, by its two ways
module _ (T : List ℕ) (A K k a : ℕ) (row : List ℕ) (r : ℕ) (after : List ℕ) (e : r ≡ table_plan_answer T A K k a (length row)) where
  pub table_done : r ≡ done → after ≡ written (seen_within (table_cell T) k a rom_period) row (2 ^ rom_cap) → TablePlanned T A K k a row r after
  unfolding table_plan_row
  table_done d w = record { answer = e; left = left_done _ _ _ _ _ _ e d w }

  pub table_refused : (r ≡ done → ⊥) → after ≡ row → TablePlanned T A K k a row r after
  unfolding table_plan_row
  table_refused d w = record { answer = e; left = left_refused _ _ _ _ _ _ e d w }

-- by the table itself, the plan is the small box's
module _ (T : List ℕ) (h : IsTable T) (A K k a : ℕ) (row : List ℕ) (r : ℕ) (after : List ℕ) where
  answer_same : table_plan_answer T A K k a (length row) ≡ rom_plan_answer A K k a (length row)
  unfolding table_plan_answer
  answer_same = rw (beside T A K k a (length row) h.long) refl

  pub table_plan : TablePlanned T A K k a row r after → RomPlanned A K k a row r after
  unfolding table_plan_row
  table_plan p =
      let e : r ≡ rom_plan_answer A K k a (length row) = p.answer ∙ answer_same in
      ⊎_elim
      (λ d. let z = eqb-true r done d in
      let o = (rom_accepted A K k a (length row) (sym e ∙ z)).accepted in
      rom_done A K k a row r after e z
      (p.left
      ∙ filled_done _ _ _ _ (sym p.answer ∙ z)
      ∙ written_ext (seen_within (table_cell T) k a rom_period) (plan_at rom_floor rom_cap k a) row (2 ^ rom_cap)
      (λ c _. seen_ext (table_cell T) (lane_cell rom_floor rom_cap) k a rom_period c (λ l t b. table_cell_lem T h l t (omega (arith, b, o.count.fit)))
      ∙ seen_plan rom_floor rom_cap k o.count.floor o.count.fit a c (omega arith) o.start)))
      (λ d. let z = eqb-false r done d in
      rom_refused A K k a row r after e z (p.left ∙ filled_refused _ _ _ _ (λ q. z (p.answer ∙ q))))
      (decide (eqb r done))
