-- The walk forwards: what one tick adds, how far the counts get, and that the row has room for it. Rests on the definitions.
use mathlib.Core.Path.{◌≡◌, refl, sym, ap, ◌∙◌}
use mathlib.Core.Bool.{Bool, true, false, not, false≢true}
use mathlib.Core.List.{List}
use Prim.Native.Nat.{ℕ, zero, suc, ◌+◌, ◌≤◌, ◌<◌}
use native.Mathlib.Omega.{arith}
use native.Mathlib.Nat.{add-zero}
use native.Mathlib.Numerals.{add-one}
use lib.Dec.{leb, eqb}
use lib.ListN.{length, get_or, set, length-set}
use Rattle.rules.specs.Limits.{both}
use Rattle.rules.specs.Refusals.{pick}
use Rattle.judging.specs.declared.Counts.{Counts}
use Rattle.judging.specs.Record.{nothing_seen, ticks_max}
use Rattle.judging.specs.inner.Walk.{OneMore, FewCounts, result_put, counts_after, row_to, counts_to}

pub counts_same : {a b c x y z : ℕ} → a ≡ x → b ≡ y → c ≡ z →
    ◌≡◌ {A = Counts} (record { judged = a; played = b; outlast = c }) (record { judged = x; played = y; outlast = z })
counts_same p q s = rw (p, q, s) refl

-- ---- one tick

module _ (x : ℕ) (w : Counts) (row : List ℕ) (one : ℕ) where
  pub one_judged : (admission whole : Bool) → both admission whole ≡ true → one ≡ pick (eqb x nothing_seen) 1 0 →
      OneMore x admission whole w row (set row w.judged x)
      (record { judged = w.judged + 1; played = w.played + one; outlast = w.outlast })
  unfolding result_put counts_after
  one_judged true true h e =
      record { left = refl; counts = counts_same refl (ap (λ n. w.played + n) e) (sym (add-zero w.outlast)) }
  one_judged true false h e = absurd (false≢true h)
  one_judged false whole h e = absurd (false≢true h)

  pub none_judged : (admission whole : Bool) → both admission whole ≡ false → one ≡ pick admission 1 0 →
      OneMore x admission whole w row row (record { judged = w.judged; played = w.played; outlast = w.outlast + one })
  unfolding result_put counts_after
  none_judged true true h e = absurd (false≢true (sym h))
  none_judged true false h e =
      record { left = refl; counts = counts_same (sym (add-zero w.judged)) (sym (add-zero w.played)) (ap (λ n. w.outlast + n) e) }
  none_judged false whole h e =
      record { left = refl; counts = counts_same (sym (add-zero w.judged)) (sym (add-zero w.played)) (ap (λ n. w.outlast + n) e) }

-- ---- all ticks

-- a test adds at most one
one_if_le : (b : Bool) → pick b 1 0 ≤ 1
one_if_le true = omega arith
one_if_le false = omega arith

module _ (found marks : List ℕ) (m n : ℕ) where
  counts_few : (a : ℕ) →
      ((counts_to found marks m n a).judged ≤ a) × (((counts_to found marks m n a).played ≤ a) × ((counts_to found marks m n a).outlast ≤ a))
  unfolding counts_to counts_after
  counts_few zero = (omega arith, (omega arith, omega arith))
  counts_few (suc a) =
      let ih = counts_few a in
      let x : ℕ = get_or found a 0 in
      let adm : Bool = eqb (get_or marks a 0) 1 in
      let whole : Bool = leb (a + m) n in (
        omega (arith, ih.0, one_if_le (both adm whole)),
        (
          omega (arith, ih.1.0, one_if_le (both (both adm whole) (eqb x nothing_seen))),
          omega (arith, ih.1.1, one_if_le (both adm (not whole))),
        ),
      )

  module _ (row : List ℕ) where
    pub row_length_lem : (a : ℕ) → length (row_to found marks m n row a) ≡ length row
    unfolding row_to result_put
    row_length_lem zero = refl
    row_length_lem (suc a) =
        elim (both (eqb (get_or marks a 0) 1) (leb (a + m) n)) as (λ b. length (pick b (set (row_to found marks m n row a) (counts_to found marks m n a).judged (get_or found a 0)) (row_to found marks m n row a)) ≡ length row)
        [ true ↦ length-set (row_to found marks m n row a) (counts_to found marks m n a).judged (get_or found a 0) ∙ row_length_lem a | false ↦ row_length_lem a ]

    -- there is room for one more
    pub room_left_lem : (a : ℕ) (now : List ℕ) (w : Counts) → now ≡ row_to found marks m n row a → w ≡ counts_to found marks m n a →
        a < n → n ≤ length row → n ≤ ticks_max → FewCounts w (length now)
    room_left_lem a now w e f l room few =
        let c = counts_few a in
        let size : length now ≡ length row = ap length e ∙ row_length_lem a in
        let j : w.judged ≡ (counts_to found marks m n a).judged = ap (λ (v : Counts). v.judged) f in
        let p : w.played ≡ (counts_to found marks m n a).played = ap (λ (v : Counts). v.played) f in
        let o : w.outlast ≡ (counts_to found marks m n a).outlast = ap (λ (v : Counts). v.outlast) f in
        record {
          judged_few = (omega (arith, c.0), omega (arith, c.0));
          played_few = omega (arith, c.1.0);
          outlast_few = omega (arith, c.1.1);
        }

    -- one tick further
    pub told_next : (a : ℕ) (now after : List ℕ) (w v : Counts) (whole : Bool) → now ≡ row_to found marks m n row a →
        w ≡ counts_to found marks m n a → whole ≡ leb (a + m) n →
        OneMore (get_or found a 0) (eqb (get_or marks a 0) 1) whole w now after v →
        (after ≡ row_to found marks m n row (a + 1)) × (v ≡ counts_to found marks m n (a + 1))
    unfolding row_to counts_to
    told_next a now after w v whole e f h one = rw (add-one a, ← e, ← f, ← h) (one.left, one.counts)
