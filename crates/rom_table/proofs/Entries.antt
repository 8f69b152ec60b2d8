-- A test over a whole table holds at each of its entries; a row that passes is the table, and so is one that was filled; and the
-- table's number for a lane and a tick is the lane's cell, also at ticks that lie whole periods away. Rests on the period of a
-- lawful scheme's lanes, and on the law by which low zeros number the added channel.
use mathlib.Core.Path.{◌≡◌, refl, sym, ap, ap₂, ◌∙◌}
use mathlib.Core.Bool.{Bool, true}
use mathlib.Core.List.{List, [], ◌∷◌}
use Prim.Native.Nat.{ℕ, zero, suc, ◌+◌, ◌*◌, ◌/◌, ◌%◌, ◌≤◌, ◌<◌}
use native.Mathlib.Nat.{le_of_suc-le-suc, not-suc-le-zero, add-suc, suc-add, add-zero, zero-add, mod-lt, div-lt_iff_lt-mul}
use native.Mathlib.Omega.{arith}
use lib.Arith.{digits_div, digits_mod}
use lib.ListN.{length, get_or}
use borrow.Author.Tests.{eqb-true, eq-eqb, ltb-true, ltb-false}
use mathlib.Core.Logic.{⊎_elim}
use lib.Count.{count_trailing_zeros}
use lib.Dec.{eqb, ltb}
use Rattle.rules.specs.Refusals.{pick, done}
use Rattle.rules.proofs.Tests.{both_l, both_r, decide}
use Rattle.grid.specs.Channels.{channel_cell}
use Rattle.grid.specs.Lanes.{lane_cell}
use Rattle.grid.specs.Lifted.{shifted_sum}
use Rattle.grid.proofs.Lanes.{lane_channel, lane_added}
use Rattle.grid.proofs.Zeros.{zeros_added}
use Rattle.scheme.proofs.Padded.{padded_lawful}
use Rattle.scheme.proofs.Lawful.{lane_looked_up}
use Rattle.plans.proofs.Row.{filled_length, filled_first}
use Rattle.rom_table.specs.Table.{rom_floor, rom_cap, rom_period, rom_entries, rom_entry, IsTable, fill_answer, Filled, table_cell, passes}

-- ---- a test over a table

passes_from : (f : ℕ → ℕ → Bool) (xs : List ℕ) (i : ℕ) → passes f i xs ≡ true → (k : ℕ) → k < length xs
    → f (i + k) (get_or xs k 0) ≡ true
unfolding passes
passes_from f [] i e k h = absurd (not-suc-le-zero h)
passes_from f (x ∷ xs) i e zero h = rw (add-zero i) (both_l (f i x) (passes f (suc i) xs) e)
passes_from f (x ∷ xs) i e (suc k) h =
    rw (add-suc i k, ← suc-add i k)
    (passes_from f xs (suc i) (both_r (f i x) (passes f (suc i) xs) e) k (le_of_suc-le-suc h))

pub passes_at : (f : ℕ → ℕ → Bool) (xs : List ℕ) → passes f 0 xs ≡ true → (k : ℕ) → k < length xs
    → f k (get_or xs k 0) ≡ true
passes_at f xs e k h = rw (zero-add k) at (passes_from f xs 0 e k h)

-- ---- the table of the grid

-- what stands at a place, by the law that low zeros number the channel that is added: quick to compute at every place
unfoldable pub lane_cell_quick : ℕ → ℕ → ℕ
lane_cell_quick l t =
    pick (ltb l rom_floor) (channel_cell rom_floor rom_cap rom_floor l t)
    (channel_cell rom_floor rom_cap (suc l) (count_trailing_zeros l (shifted_sum rom_floor rom_cap l t)) t)

quick_is : (l t : ℕ) → l < rom_cap → lane_cell_quick l t ≡ lane_cell rom_floor rom_cap l t
unfolding lane_cell_quick
quick_is l t b =
    ⊎_elim
    (λ h. rw h (sym (lane_channel rom_floor rom_cap l t (ltb-true l rom_floor h))))
    (λ h. let low : rom_floor ≤ l = ltb-false l rom_floor h in
    rw h
    (ap (λ d. channel_cell rom_floor rom_cap (suc l) d t) (zeros_added rom_floor rom_cap l t low b)
    ∙ sym (lane_added rom_floor rom_cap l t low)))
    (decide (ltb l rom_floor))

-- number x may stand at place i
unfoldable pub is_entry : ℕ → ℕ → Bool
is_entry i x = eqb x (lane_cell_quick (i / rom_period) (i % rom_period))

-- numbers that all pass are the table
pub table_of : (xs : List ℕ) → length xs ≡ rom_entries → passes is_entry 0 xs ≡ true → IsTable xs
unfolding is_entry rom_entry
table_of xs l e =
    record {
      long = l;
      each = λ i b.
          let lane : i / rom_period < rom_cap = (div-lt_iff_lt-mul {k = rom_period} {x = i} {y = rom_cap} (omega arith)).1 b in
          eqb-true (get_or xs i 0) _ (passes_at is_entry xs e i (omega (arith, l, b))) ∙ quick_is _ _ lane;
    }

-- a row that was filled is the table
pub filled_table : (row : List ℕ) (r : ℕ) (after : List ℕ) → Filled row r after → length row ≡ rom_entries → IsTable after
unfolding fill_answer
filled_table row r after f l =
    let e : fill_answer row ≡ done = rw (eq-eqb (length row) rom_entries l) refl in
    record {
      long = ap length f.left ∙ filled_length (fill_answer row) rom_entry rom_entries row ∙ l;
      each = λ i b. ap (λ xs. get_or xs i 0) f.left ∙ filled_first (fill_answer row) rom_entry rom_entries row e i (omega (arith, l)) b;
    }

-- the entry at the lane's place for a tick is its cell then, at any tick
looked_up : (l t : ℕ) → l < rom_cap → rom_entry (l * rom_period + t % rom_period) ≡ lane_cell rom_floor rom_cap l t
unfolding rom_entry
looked_up l t b =
    let r : t % rom_period < rom_period = mod-lt t (omega arith) in
    ap₂ (lane_cell rom_floor rom_cap) (digits_div l r) (digits_mod l r)
    ∙ sym (lane_looked_up (padded_lawful 0 rom_floor rom_cap (omega arith) (omega arith)) l t b)

pub table_cell_lem : (T : List ℕ) → IsTable T → (l t : ℕ) → l < rom_cap → table_cell T l t ≡ lane_cell rom_floor rom_cap l t
table_cell_lem T h l t b =
    let r : t % rom_period < rom_period = mod-lt t (omega arith) in
    h.each (l * rom_period + t % rom_period) (omega (arith, r, b)) ∙ looked_up l t b
