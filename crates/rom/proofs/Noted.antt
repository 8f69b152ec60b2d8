-- Noting ticks in a row from a lent table: lengths stay, and over a row that holds g in its first places, noting one tick's lanes or all
-- ticks, the last first, leaves a row that holds another function there; after a period of ticks that function is the first showing.
-- Rests on the laws of stores into a list, and of the first of a search.
use mathlib.Core.Path.{◌≡◌, refl, sym, ap, ap₂, ◌∙◌}
use mathlib.Core.Bool.{Bool, true, false}
use mathlib.Core.List.{List, [], ◌∷◌, ◌++◌}
use mathlib.Core.Logic.{⊎_elim}
use Prim.Native.Nat.{ℕ, zero, suc, ◌+◌, ◌-◌, ◌^◌, ◌≤◌, ◌<◌}
use native.Mathlib.Omega.{arith}
use native.Mathlib.Numerals.{add-one}
use lib.Dec.{ltb, eqb}
use lib.ListN.{length, set, length-set, replicate, take, drop}
use lib.Seq.{set-set, set_comm, length-take-le}
use borrow.Author.Tests.{eq-eqb, ne_eqb, eqb-true, eqb-false, ltb-true, ltb-false}
use Rattle.rules.specs.Refusals.{pick}
use Rattle.rules.specs.Search.{some, first}
use Rattle.rules.proofs.Tests.{decide}
use Rattle.rules.proofs.Search.{below_suc, first_hit_lem, first_before}
use Rattle.plans.specs.Padded.{never}
use Rattle.plans.specs.Row.{written}
use Rattle.rom_table.specs.Table.{rom_cap, rom_period, table_cell}
use Rattle.rom.specs.Plan.{noted_once, noted_lanes, noted_ticks}
use Rattle.rom.specs.Showing.{is_on_lanes, shown_after, seen_within}

-- ---- lengths, and one step more

pub noted_length : (row : List ℕ) (c o : ℕ) → length (noted_once row c o) ≡ length row
unfolding noted_once
noted_length row c o =
    elim (ltb c (2 ^ rom_cap)) as (λ b. length (pick b (set row c o) row) ≡ length row)
    [ true ↦ length-set row c o | false ↦ refl ]

pub lanes_length : (T row : List ℕ) (t o l : ℕ) → length (noted_lanes T row t o l) ≡ length row
unfolding noted_lanes
lanes_length T row t o zero = refl
lanes_length T row t o (suc l) =
    noted_length (noted_lanes T row t o l) (table_cell T l t) o ∙ lanes_length T row t o l

pub lanes_more : (T row r q : List ℕ) (t o l x : ℕ) → r ≡ noted_lanes T row t o l → x ≡ table_cell T l t
    → q ≡ noted_once r x o → q ≡ noted_lanes T row t o (l + 1)
unfolding noted_lanes
lanes_more T row r q t o l x e f g = g ∙ rw (add-one l, e, f) refl

pub ticks_more : (T row r q : List ℕ) (k a n : ℕ) → r ≡ noted_ticks T row k a n
    → q ≡ noted_lanes T r (a + (rom_period - (n + 1))) (rom_period - (n + 1)) k → q ≡ noted_ticks T row k a (n + 1)
unfolding noted_ticks
ticks_more T row r q k a n e g = g ∙ rw (add-one n, e) refl

-- ---- one value in the first places

never_more : (row : List ℕ) (n : ℕ) → n < length row → set (replicate n never ++ drop n row) n never ≡ replicate (suc n) never ++ drop (suc n) row
never_more [] n l = absurd (omega arith)
never_more (x ∷ xs) zero l = refl
never_more (x ∷ xs) (suc n) l = ap (λ (r : List ℕ). never ∷ r) (never_more xs n (omega arith))

never_first : (row : List ℕ) (n : ℕ) → n ≤ length row → replicate n never ++ drop n row ≡ written (λ c. never) row n
unfolding written
never_first row zero l = refl
never_first row (suc n) l =
    sym (never_more row n (omega arith)) ∙ ap (λ (r : List ℕ). set r n never) (never_first row n (omega arith))

pub never_filled : (row xs : List ℕ) (n : ℕ) → n ≤ length row → xs ≡ replicate (length (take n row)) never →
    xs ++ drop n row ≡ written (λ c. never) row n
never_filled row xs n l e = rw (e, length-take-le n row l) (never_first row n l)

-- ---- stores

pub written_ext : (f g : ℕ → ℕ) (row : List ℕ) (n : ℕ) → ((i : ℕ) → i < n → f i ≡ g i)
    → written f row n ≡ written g row n
unfolding written
written_ext f g row zero e = refl
written_ext f g row (suc n) e = rw (e n (omega arith), written_ext f g row n (λ i l. e i (omega arith))) refl

-- f with v for c
abbrev pub but : (ℕ → ℕ) → ℕ → ℕ → ℕ → ℕ
but f c v i = pick (eqb i c) v (f i)

but_there : (f : ℕ → ℕ) (c v i : ℕ) → (i ≡ c → ⊥) → but f c v i ≡ f i
but_there f c v i n = rw (ne_eqb i c n) refl

but_here : (f : ℕ → ℕ) (c v : ℕ) → but f c v c ≡ v
but_here f c v = rw (eq-eqb c c refl) refl

written_set : (f : ℕ → ℕ) (row : List ℕ) (n c v : ℕ) → c < n → set (written f row n) c v ≡ written (but f c v) row n
unfolding written
written_set f row zero c v l = absurd (omega arith)
written_set f row (suc n) c v l =
    ⊎_elim
    (λ b. set_comm (written f row n) n c (f n) v (λ e. omega arith)
    ∙ ap₂ (λ r x. set r n x) (written_set f row n c v b) (sym (but_there f c v n (λ e. omega arith))))
    last (below_suc c n l)
  where
    last : c ≡ n → set (set (written f row n) n (f n)) c v ≡ set (written (but f c v) row n) n (but f c v n)
    last e =
        rw e
        (set-set (written f row n) n (f n) v
        ∙ ap₂ (λ r x. set r n x)
        (written_ext f (but f n v) row n (λ i b. sym (but_there f n v i (λ q. omega arith))))
        (sym (but_here f n v)))

-- ---- one tick's lanes

module _ (T row : List ℕ) (t o : ℕ) where
  -- the number of a cell's place once lanes 0 to l - 1 were noted
  shown_over : (ℕ → ℕ) → ℕ → ℕ → ℕ
  shown_over g l c = pick (is_on_lanes (table_cell T) l t c) o (g c)

  over_none : (g : ℕ → ℕ) (c : ℕ) → g c ≡ shown_over g 0 c
  unfolding shown_over is_on_lanes some
  over_none g c = refl

  over_here : (g : ℕ → ℕ) (l c : ℕ) → table_cell T l t ≡ c → shown_over g (suc l) c ≡ o
  unfolding shown_over is_on_lanes some
  over_here g l c e = rw (eq-eqb (table_cell T l t) c e) refl

  over_there : (g : ℕ → ℕ) (l c : ℕ) → (table_cell T l t ≡ c → ⊥) → shown_over g (suc l) c ≡ shown_over g l c
  unfolding shown_over is_on_lanes some
  over_there g l c e = rw (ne_eqb (table_cell T l t) c e) refl

  over_more : (g : ℕ → ℕ) (l c : ℕ) → but (shown_over g l) (table_cell T l t) o c ≡ shown_over g (suc l) c
  over_more g l c =
      let x : ℕ = table_cell T l t in
      ⊎_elim
      (λ e. let q : c ≡ x = eqb-true c x e in rw e (sym (over_here g l c (sym q))))
      (λ e. let q = eqb-false c x e in rw e (sym (over_there g l c (λ d. q (sym d)))))
      (decide (eqb c x))

  lanes_written : (g : ℕ → ℕ) (l : ℕ) → noted_lanes T (written g row (2 ^ rom_cap)) t o l ≡ written (shown_over g l) row (2 ^ rom_cap)
  unfolding noted_lanes noted_once
  lanes_written g zero = written_ext g (shown_over g 0) row (2 ^ rom_cap) (λ c _. over_none g c)
  lanes_written g (suc l) =
      let x : ℕ = table_cell T l t in
      ap (λ r. pick (ltb x (2 ^ rom_cap)) (set r x o) r) (lanes_written g l)
      ∙ ⊎_elim
      (λ h. rw h
      (written_set (shown_over g l) row (2 ^ rom_cap) x o (ltb-true x (2 ^ rom_cap) h)
      ∙ written_ext (but (shown_over g l) x o) (shown_over g (suc l)) row (2 ^ rom_cap) (λ c _. over_more g l c)))
      (λ h. rw h
      (written_ext (shown_over g l) (shown_over g (suc l)) row (2 ^ rom_cap)
      (λ c b. sym (over_there g l c (λ e. let far = ltb-false x (2 ^ rom_cap) h in omega (arith, e, b, far))))))
      (decide (ltb x (2 ^ rom_cap)))

-- ---- all ticks of a period

-- the first of the last j numbers below n at which a test holds, met from behind
back : (ℕ → Bool) → ℕ → ℕ → ℕ
back p n zero = never
back p n (suc j) = pick (p (n - suc j)) (n - suc j) (back p n j)

module _ (p : ℕ → Bool) (n : ℕ) where
  back_hit : (j i : ℕ) → j ≤ n → n - j ≤ i → i < n → p i ≡ true → ((m : ℕ) → m < i → p m ≡ false) → back p n j ≡ i
  unfolding back
  back_hit zero i room low high hit before = absurd (omega arith)
  back_hit (suc j) i room low high hit before =
      ⊎_elim
      (λ e. let q : i ≡ n - suc j = eqb-true i (n - suc j) e in rw (← q, hit) refl)
      (λ e. let q = eqb-false i (n - suc j) e in
      let past : n - suc j < i = later i (n - suc j) low q in
      rw (before (n - suc j) past) (back_hit j i (omega arith) (omega arith) high hit before))
      (decide (eqb i (n - suc j)))
    where
      later : (x y : ℕ) → y ≤ x → (x ≡ y → ⊥) → y < x
      later x y l ne = ⊎_elim (λ t. ltb-true y x t) (λ t. absurd (ne (native.Mathlib.Nat.le_antisymm (ltb-false y x t) l))) (decide (ltb y x))

  back_none : (j : ℕ) → j ≤ n → ((m : ℕ) → m < n → p m ≡ false) → back p n j ≡ never
  unfolding back
  back_none zero room none = refl
  back_none (suc j) room none = rw (none (n - suc j) (omega arith)) (back_none j (omega arith) none)

  -- met from behind, the last one to be met is the first
  back_first : back p n n ≡ pick (ltb (first p n) n) (first p n) never
  back_first =
      ⊎_elim
      (λ h. let low : first p n < n = ltb-true (first p n) n h in
      rw h (back_hit n (first p n) (omega arith) (omega arith) low (first_hit_lem p n low) (λ m b. first_before p n m b)))
      (λ h. let far : n ≤ first p n = ltb-false (first p n) n h in
      rw h (back_none n (omega arith) (λ m b. first_before p n m (omega arith))))
      (decide (ltb (first p n) n))

module _ (T : List ℕ) (k a : ℕ) (row : List ℕ) where
  -- a cell is shown so many ticks after a
  shown_at_lem : ℕ → ℕ → Bool
  shown_at_lem c o = is_on_lanes (table_cell T) k (a + o) c

  over_back : (n c : ℕ) →
      shown_over T row (a + (rom_period - suc n)) (rom_period - suc n) (λ c. back (shown_at_lem c) rom_period n) k c
      ≡ back (shown_at_lem c) rom_period (suc n)
  unfolding shown_over back shown_at_lem
  over_back n c = refl

  none_back : (c : ℕ) → never ≡ back (shown_at_lem c) rom_period 0
  unfolding back
  none_back c = refl

  ticks_written : (n : ℕ) →
      noted_ticks T (written (λ c. never) row (2 ^ rom_cap)) k a n ≡ written (λ c. back (shown_at_lem c) rom_period n) row (2 ^ rom_cap)
  unfolding noted_ticks
  ticks_written zero = written_ext (λ c. never) (λ c. back (shown_at_lem c) rom_period 0) row (2 ^ rom_cap) (λ c _. none_back c)
  ticks_written (suc n) =
      ap (λ r. noted_lanes T r (a + (rom_period - suc n)) (rom_period - suc n) k) (ticks_written n)
      ∙ lanes_written T row (a + (rom_period - suc n)) (rom_period - suc n) (λ c. back (shown_at_lem c) rom_period n) k
      ∙ written_ext _ (λ c. back (shown_at_lem c) rom_period (suc n)) row (2 ^ rom_cap) (λ c _. over_back n c)

  seen_back : (c : ℕ) → back (shown_at_lem c) rom_period rom_period ≡ seen_within (table_cell T) k a rom_period c
  unfolding seen_within shown_after shown_at_lem
  seen_back c = back_first (λ o. is_on_lanes (table_cell T) k (a + o) c) rom_period

  -- one period leaves the first showings
  pub ticks_seen : noted_ticks T (written (λ c. never) row (2 ^ rom_cap)) k a rom_period
      ≡ written (seen_within (table_cell T) k a rom_period) row (2 ^ rom_cap)
  ticks_seen =
      ticks_written rom_period
      ∙ written_ext _ (seen_within (table_cell T) k a rom_period) row (2 ^ rom_cap) (λ c _. seen_back c)
