-- A walk over the channels of a lane finds all that is owed: of each channel one slot at most, in the order of the channels. Rests on the low
-- zeros of slot numbers, and on the laws of counts over stretches.
use mathlib.Core.Path.{◌≡◌, refl, sym, ap, ◌∙◌}
use mathlib.Core.Bool.{Bool, true, false, false≢true}
use mathlib.Core.Logic.{⊎_elim}
use Prim.Native.Nat.{ℕ, zero, suc, ◌+◌, ◌-◌, ◌*◌, ◌/◌, ◌%◌, ◌^◌, ◌≤◌, ◌<◌, min}
use native.Mathlib.Omega.{arith}
use native.Mathlib.Nat.{mod-lt, mod-eq_of_lt, div-add-mod, lt_of_mul-lt-mul_left, pow-succ', mul-le-mul_right, mul-mod_right, zero-mul}
use lib.Count.{count_trailing_zeros}
use lib.Dec.{ltb, eqb}
use lib.Pow.{pow_pos, pow_mono}
use borrow.Author.Tests.{ltb-true, ltb-false, lt-ltb, eqb-true, eqb-false}
use Rattle.rules.specs.Limits.{both}
use Rattle.rules.specs.Search.{first, how_many, total}
use Rattle.rules.proofs.Tests.{decide, both_l, both_r, both_in, both_none, same, fails}
use Rattle.rules.proofs.Search.{below_suc}
use Rattle.grid.proofs.Numbers.{mod_unique, divides_lower}
use Rattle.grid.proofs.Zeros.{LowZeros, zeros_are, zeros_only}
use Rattle.stretches.specs.declared.upper.Walk.{Walk}
use Rattle.stretches.specs.inner.Walk.{rest_on, from_on, awaited_on, behind_on, ticks_on, ticks_to}
use Rattle.stretches.proofs.Counted.{prefix, skipped, nth_is, nth_none}

-- ---- the slots of a channel

-- slot i from the drop on is one of channel d
abbrev pub On : Walk → ℕ → ℕ → Type 0
On s i d = LowZeros s.lane (s.turn + i + 1) d

-- a number that P divides and 2P doesn't
once : (P n : ℕ) → n % P ≡ 0 → (n % (2 * P) ≡ 0 → ⊥) → (c : ℕ) × (n ≡ 2 * P * c + P)
once P n z not-twice =
    let q : ℕ = n / P in
    let e : P * q + n % P ≡ n = div-add-mod n P in
    ⊎_elim
    (λ t. absurd (not-twice (ap (λ x. x % (2 * P)) (omega (arith, even P q (q / 2) (omega (arith, eqb-true (q % 2) 0 t)))) ∙ mul-mod_right (2 * P) (q / 2))))
    (λ t. (q / 2, omega (arith, odd P q (q / 2) (omega (arith, eqb-false (q % 2) 0 t)))))
    (decide (eqb (q % 2) 0))
  where
    even : (P q c : ℕ) → q ≡ 2 * c → P * q ≡ 2 * P * c
    even P q c e = rw e (omega arith)

    odd : (P q c : ℕ) → q ≡ 2 * c + 1 → P * q ≡ 2 * P * c + P
    odd P q c e = rw e (omega arith)

module _ (s : Walk) where
  -- the first slots of a channel, up to its span: there is one, where its place says
  slot_of : (i d : ℕ) → On s i d → i < 2 ^ d → rest_on s d + i + 1 ≡ 2 ^ d
  unfolding rest_on
  slot_of i d on near = ⊎_elim below top (decide (ltb d s.lane))
    where
      below : ltb d s.lane ≡ true → s.turn % 2 ^ min (d + 1) s.lane + i + 1 ≡ 2 ^ d
      below t =
          let l : d < s.lane = ltb-true d s.lane t in
          let e : min (d + 1) s.lane ≡ suc d = omega arith in
          let h = once (2 ^ d) (s.turn + i + 1) on.zeros (λ z. on.one l (rw (pow-succ' 2 d) z)) in
          let p : 2 ^ suc d * h.0 ≡ 2 * 2 ^ d * h.0 = ap (λ x. x * h.0) (pow-succ' 2 d) in
          let r : s.turn % 2 ^ suc d ≡ 2 ^ d - 1 - i =
          mod_unique (2 ^ suc d) (2 ^ d - 1 - i) s.turn 0 h.0 (omega arith) (omega (arith, h.1)) in
          rw (e, r) (omega arith)

      top : ltb d s.lane ≡ false → s.turn % 2 ^ min (d + 1) s.lane + i + 1 ≡ 2 ^ d
      top t =
          let l : s.lane ≤ d = ltb-false d s.lane t in
          let e : min (d + 1) s.lane ≡ d = omega (arith, on.most) in
          let q : ℕ = (s.turn + i + 1) / 2 ^ d in
          let b : 2 ^ d * q + (s.turn + i + 1) % 2 ^ d ≡ s.turn + i + 1 = div-add-mod (s.turn + i + 1) (2 ^ d) in
          let z : (s.turn + i + 1) % 2 ^ d ≡ 0 = on.zeros in
          let r : s.turn % 2 ^ d ≡ 2 ^ d - 1 - i = mod_unique (2 ^ d) (2 ^ d - 1 - i) s.turn 1 q (omega arith) (omega arith) in
          rw (e, r) (omega arith)

  -- and where its place is one before the last, the slot is the channel's
  on_slot : (d : ℕ) → d ≤ s.lane → rest_on s d < 2 ^ d → On s (2 ^ d - 1 - rest_on s d) d
  unfolding rest_on
  on_slot d high low = ⊎_elim below top (decide (ltb d s.lane))
    where
      below : ltb d s.lane ≡ true → On s (2 ^ d - 1 - s.turn % 2 ^ min (d + 1) s.lane) d
      below t =
          let l : d < s.lane = ltb-true d s.lane t in
          let e : min (d + 1) s.lane ≡ suc d = omega arith in
          let a : s.turn % 2 ^ suc d < 2 ^ d = rw e at low in
          let q : ℕ = s.turn / 2 ^ suc d in
          let b : 2 ^ suc d * q + s.turn % 2 ^ suc d ≡ s.turn = div-add-mod s.turn (2 ^ suc d) in
          let g : 2 ^ suc d * q ≡ 2 * 2 ^ d * q = ap (λ x. x * q) (pow-succ' 2 d) in
          let n : ℕ = s.turn + (2 ^ d - 1 - s.turn % 2 ^ suc d) + 1 in
          let f : n ≡ 2 ^ suc d * q + 2 ^ d = omega arith in
          rw e
          (record {
            most = high;
            zeros = mod_unique (2 ^ d) 0 n 0 (2 * q + 1) (pow_pos d) (omega arith);
            one = λ b z. omega (arith, pow_pos d, mod_unique (2 ^ suc d) (2 ^ d) n 0 q (omega (arith, pow_pos d)) (omega arith));
          })

      top : ltb d s.lane ≡ false → On s (2 ^ d - 1 - s.turn % 2 ^ min (d + 1) s.lane) d
      top t =
          let l : s.lane ≤ d = ltb-false d s.lane t in
          let e : min (d + 1) s.lane ≡ d = omega arith in
          let a : s.turn % 2 ^ d < 2 ^ d = mod-lt s.turn (pow_pos d) in
          let q : ℕ = s.turn / 2 ^ d in
          let b : 2 ^ d * q + s.turn % 2 ^ d ≡ s.turn = div-add-mod s.turn (2 ^ d) in
          rw e
          (record {
            most = high;
            zeros = mod_unique (2 ^ d) 0 (s.turn + (2 ^ d - 1 - s.turn % 2 ^ d) + 1) 0 (q + 1) (pow_pos d) (omega arith);
            one = λ b. absurd (omega arith);
          })

  -- two slots within a span whose numbers 2^d divides are one
  alone : (i j d : ℕ) → i ≤ j → j < 2 ^ d → (s.turn + i + 1) % 2 ^ d ≡ 0 → (s.turn + j + 1) % 2 ^ d ≡ 0 → i ≡ j
  alone i j d l near a b =
      let e : 2 ^ d * ((s.turn + i + 1) / 2 ^ d) + (s.turn + i + 1) % 2 ^ d ≡ s.turn + i + 1 = div-add-mod (s.turn + i + 1) (2 ^ d) in
      let f : 2 ^ d * ((s.turn + j + 1) / 2 ^ d) + (s.turn + j + 1) % 2 ^ d ≡ s.turn + j + 1 = div-add-mod (s.turn + j + 1) (2 ^ d) in
      let m : (j - i) % 2 ^ d ≡ 0 = mod_unique (2 ^ d) 0 (j - i) ((s.turn + i + 1) / 2 ^ d) ((s.turn + j + 1) / 2 ^ d) (pow_pos d) (omega arith) in
      let z : j - i ≡ 0 = sym (mod-eq_of_lt {n = j - i} {m = 2 ^ d} (omega arith)) ∙ m in
      omega arith

-- ---- the walk

-- in slot i, on channel d, the r-th tick is owed: its cell holds film, and a box that began latest takes it
abbrev pub owed_on : Walk → ℕ → ℕ → ℕ → Bool
owed_on s i r d =
    both (ltb (behind_on s d + r) s.film)
    (both (ltb 0 d) (ltb (s.at + (i * s.width + r) + s.width) (s.until + s.width * 2 ^ d)))

-- what is known once the channels up to d are done, which reach into the first n slots
record Walked (s : Walk) (p : ℕ → Bool) (d n : ℕ) : Type 0 where
  count : how_many p (n * s.width) ≡ ticks_to s d
  low : n ≤ 2 ^ d
  rest : (i r e : ℕ) → n ≤ i → r < s.width → e ≤ d → On s i e → p (i * s.width + r) ≡ false
  ahead : (i e : ℕ) → d < e → On s i e → n ≤ i

-- a channel whose slot is awaited
record Due (s : Walk) (d : ℕ) : Type 0 where
  low : rest_on s d < 2 ^ d
  late : s.at < s.until + rest_on s d * s.width

due : (s : Walk) (d : ℕ) → awaited_on s d ≡ true → Due s d
unfolding awaited_on
due s d h =
    record {
      low = ltb-true (rest_on s d) (2 ^ d) (both_l (ltb (rest_on s d) (2 ^ d)) (ltb s.at (s.until + rest_on s d * s.width)) h);
      late = ltb-true s.at (s.until + rest_on s d * s.width) (both_r (ltb (rest_on s d) (2 ^ d)) (ltb s.at (s.until + rest_on s d * s.width)) h);
    }

due_in : (s : Walk) (d : ℕ) → Due s d → awaited_on s d ≡ true
unfolding awaited_on
due_in s d h = both_in (ltb (rest_on s d) (2 ^ d)) (ltb s.at (s.until + rest_on s d * s.width)) (lt-ltb (rest_on s d) (2 ^ d) h.low) (lt-ltb s.at (s.until + rest_on s d * s.width) h.late)

-- how many of the slot's first ticks are owed, were it long enough
abbrev due_ticks : Walk → ℕ → ℕ
due_ticks s d = min (s.until + rest_on s d * s.width - s.at) (s.film - behind_on s d)

ticks_due : (s : Walk) (d : ℕ) → awaited_on s d ≡ true → ticks_on s d ≡ min s.width (due_ticks s d)
unfolding ticks_on
ticks_due s d h = rw h refl

ticks_none : (s : Walk) (d : ℕ) → awaited_on s d ≡ false → ticks_on s d ≡ 0
unfolding ticks_on
ticks_none s d h = rw h refl

ticks_next : (s : Walk) (d : ℕ) → ticks_to s (suc d) ≡ ticks_to s d + ticks_on s (suc d)
unfolding ticks_to total
ticks_next s d = refl

from_next : (s : Walk) (d i : ℕ) → 2 ^ d - 1 - rest_on s d ≡ i → suc i * s.width ≡ from_on s d + s.width
unfolding from_on
from_next s d i e = rw e (omega arith)

module _
    (s : Walk) (p : ℕ → Bool) (pos : 0 < s.width) (near : s.until ≤ s.at + s.width)
    (is : (i r : ℕ) → r < s.width → (d : ℕ) → On s i d → p (i * s.width + r) ≡ owed_on s i r d)
  where
    -- a slot in which a tick is owed is the one of its channel
    only : (i r d : ℕ) → r < s.width → On s i d → p (i * s.width + r) ≡ true → (i < 2 ^ d) × (rest_on s d + i + 1 ≡ 2 ^ d) × Due s d
    only i r d b on h =
        let w : ℕ = s.width in
        let film : Bool = ltb (behind_on s d + r) s.film in
        let some : Bool = ltb 0 d in
        let late : Bool = ltb (s.at + (i * w + r) + w) (s.until + w * 2 ^ d) in
        let t : s.at + (i * w + r) + w < s.until + w * 2 ^ d =
        ltb-true (s.at + (i * w + r) + w) (s.until + w * 2 ^ d)
        (both_r some late (both_r film (both some late) (sym (is i r b d on) ∙ h))) in
        let l : i < 2 ^ d = lt_of_mul-lt-mul_left w (omega arith) in
        let e : rest_on s d + i + 1 ≡ 2 ^ d = slot_of s i d on l in
        let f : w * (rest_on s d + i + 1) ≡ w * 2 ^ d = ap (λ x. w * x) e in
        (l, e, record { low = omega arith; late = omega arith })

    -- of the slot of a channel that is awaited the first ticks are owed
    stretch : (d r : ℕ) → 0 < d → d ≤ s.lane → awaited_on s d ≡ true → r < s.width → p (from_on s d + r) ≡ ltb r (due_ticks s d)
    unfolding from_on
    stretch d r some high h b =
        let w : ℕ = s.width in
        let u : Due s d = due s d h in
        let i : ℕ = 2 ^ d - 1 - rest_on s d in
        let e : i + rest_on s d + 1 ≡ 2 ^ d = omega (arith, u.low) in
        let f : w * (i + rest_on s d + 1) ≡ w * 2 ^ d = ap (λ x. w * x) e in
        let film : Bool = ltb (behind_on s d + r) s.film in
        let late : Bool = ltb (s.at + (i * w + r) + w) (s.until + w * 2 ^ d) in
        is i r b d (on_slot s d high u.low)
        ∙ rw (lt-ltb 0 d some)
        (same (both film late) (ltb r (due_ticks s d))
        (λ t.
        let a : behind_on s d + r < s.film = ltb-true (behind_on s d + r) s.film (both_l film late t) in
        let c : s.at + (i * w + r) + w < s.until + w * 2 ^ d = ltb-true (s.at + (i * w + r) + w) (s.until + w * 2 ^ d) (both_r film late t) in
        lt-ltb r (due_ticks s d) (omega arith))
        (λ t.
        let a : r < due_ticks s d = ltb-true r (due_ticks s d) t in
        both_in film late (lt-ltb (behind_on s d + r) s.film (omega arith)) (lt-ltb (s.at + (i * w + r) + w) (s.until + w * 2 ^ d) (omega arith))))

    -- before that slot nothing is owed that the channels below do not owe
    before : (d n : ℕ) → suc d ≤ s.lane → awaited_on s (suc d) ≡ true → Walked s p d n →
        (n ≤ 2 ^ suc d - 1 - rest_on s (suc d)) × (how_many p (from_on s (suc d)) ≡ ticks_to s d)
    unfolding from_on
    before d n high h v =
        let u : Due s (suc d) = due s (suc d) h in
        let i : ℕ = 2 ^ suc d - 1 - rest_on s (suc d) in
        let on : On s i (suc d) = on_slot s (suc d) high u.low in
        let l : n ≤ i = v.ahead i (suc d) (omega arith) on in
        (l, skipped p s.width n i pos l (none i on (omega (arith, u.low, pow_pos (suc d)))) ∙ v.count)
      where
        none : (i : ℕ) → On s i (suc d) → i < 2 ^ suc d → (j r : ℕ) → n ≤ j → j < i → r < s.width → p (j * s.width + r) ≡ false
        none i on b j r from to t =
            let z = zeros_are s.lane (s.turn + j + 1) in
            let e : ℕ = count_trailing_zeros s.lane (s.turn + j + 1) in
            ⊎_elim
            (λ x. v.rest j r e from t (ltb_below (ltb-true e (suc d) x)) z)
            (λ x.
            let c : suc d ≤ e = ltb-false e (suc d) x in
            let same-slot : j ≡ i = alone s j i (suc d) (omega arith) b (divides_lower (suc d) e (s.turn + j + 1) c z.zeros) on.zeros in
            absurd (omega arith))
            (decide (ltb e (suc d)))
          where
            ltb_below : {a b : ℕ} → a < suc b → a ≤ b
            ltb_below h = omega arith

    -- a channel more
    walk_due : (d n : ℕ) → suc d ≤ s.lane → awaited_on s (suc d) ≡ true → Walked s p d n → (m : ℕ) × Walked s p (suc d) m
    walk_due d n high h v =
        let u : Due s (suc d) = due s (suc d) h in
        let i : ℕ = 2 ^ suc d - 1 - rest_on s (suc d) in
        let on : On s i (suc d) = on_slot s (suc d) high u.low in
        let b = before d n high h v in
        let near-slot : i < 2 ^ suc d = omega (arith, u.low, pow_pos (suc d)) in (
          suc i,
          record {
            count = counted i refl b.1;
            low = near-slot;
            rest = λ j r e from t c z.
                ⊎_elim
                (λ (x : e < suc d). v.rest j r e (omega (arith, b.0)) t (omega arith) z)
                (λ x. fails (p (j * s.width + r)) (λ y. omega (arith, (only j r (suc d) t (rw x at z) y).1, u.low)))
                (below_suc e (suc d) (omega arith));
            ahead = λ j e c z.
                ⊎_elim
                (λ x.
                let same-slot : j ≡ i = alone s j i (suc d) (omega (arith, ltb-true j (suc i) x)) near-slot (divides_lower (suc d) e (s.turn + j + 1) (omega arith) z.zeros) on.zeros in
                let f : suc d ≡ e = zeros_only s.lane (s.turn + i + 1) (suc d) e on (rw same-slot at z) in
                absurd (omega arith))
                (λ x. ltb-false j (suc i) x)
                (decide (ltb j (suc i)));
          },
        )
      where
        counted : (i : ℕ) → 2 ^ suc d - 1 - rest_on s (suc d) ≡ i → how_many p (from_on s (suc d)) ≡ ticks_to s d → how_many p (suc i * s.width) ≡ ticks_to s (suc d)
        counted i e c =
            let f : suc i * s.width ≡ from_on s (suc d) + s.width = from_next s (suc d) i e in
            rw f (prefix p (from_on s (suc d)) s.width (due_ticks s (suc d)) (λ r t. stretch (suc d) r (omega arith) high h t)
            ∙ omega (arith, c, ticks_next s d, ticks_due s (suc d) h))

    walk_none : (d n : ℕ) → awaited_on s (suc d) ≡ false → Walked s p d n → Walked s p (suc d) n
    walk_none d n h v =
        record {
          count = v.count ∙ omega (arith, ticks_next s d, ticks_none s (suc d) h);
          low = omega (arith, v.low);
          rest = λ j r e from t c z.
              ⊎_elim
              (λ (x : e < suc d). v.rest j r e from t (omega arith) z)
              (λ x.
              fails (p (j * s.width + r))
              (λ y. false≢true (sym h ∙ due_in s (suc d) (only j r (suc d) t (rw x at z) y).2)))
              (below_suc e (suc d) (omega arith));
          ahead = λ j e c z. v.ahead j e (omega arith) z;
        }

    -- on channel 0 nothing is owed
    walk_start : Walked s p 0 0
    unfolding ticks_to total how_many
    walk_start =
        record {
          count = ap (how_many p) (zero-mul s.width);
          low = omega arith;
          rest = λ j r e from t c z.
              let o : e ≡ 0 = omega arith in
              is j r t e z ∙ rw o (both_none (ltb (behind_on s 0 + r) s.film));
          ahead = λ j e c z. omega arith;
        }

    walk : (d : ℕ) → d ≤ s.lane → (n : ℕ) × Walked s p d n
    walk zero l = (0, walk_start)
    walk (suc d) l =
        let v = walk d (omega arith) in
        ⊎_elim
        (λ h. walk_due d v.0 l h v.1)
        (λ h. (v.0, walk_none d v.0 h v.1))
        (decide (awaited_on s (suc d)))

    -- over all channels all is counted that is owed within 2^lane slots
    pub all_owed : how_many p (2 ^ s.lane * s.width) ≡ ticks_to s s.lane
    all_owed =
        let v = walk s.lane (omega arith) in
        skipped p s.width v.0 (2 ^ s.lane) pos v.1.low
        (λ i r from to t.
        let z = zeros_are s.lane (s.turn + i + 1) in
        v.1.rest i r (count_trailing_zeros s.lane (s.turn + i + 1)) from t z.most z)
        ∙ v.1.count

    -- and an owed tick that has so many before it stands on the channel whose stretch is reached by then
    pub nth_owed_lem : (d n : ℕ) → suc d ≤ s.lane → ticks_to s d ≤ n → n < ticks_to s (suc d) →
        first (λ o. both (p o) (eqb (how_many p o) n)) (2 ^ s.lane * s.width) ≡ from_on s (suc d) + (n - ticks_to s d)
    nth_owed_lem d n high low more =
        ⊎_elim there (λ h. absurd (omega (arith, ticks_next s d, ticks_none s (suc d) h)))
        (decide (awaited_on s (suc d)))
      where
        there : awaited_on s (suc d) ≡ true →
            first (λ o. both (p o) (eqb (how_many p o) n)) (2 ^ s.lane * s.width) ≡ from_on s (suc d) + (n - ticks_to s d)
        there h =
            let v = walk d (omega arith) in
            let b = before d v.0 high h v.1 in
            let o : ℕ = n - ticks_to s d in
            let short : o < min s.width (due_ticks s (suc d)) = omega (arith, ticks_next s d, ticks_due s (suc d) h) in
            let c = prefix p (from_on s (suc d)) o (due_ticks s (suc d)) (λ r t. stretch (suc d) r (omega arith) high h (omega arith)) in
            let f : suc (2 ^ suc d - 1 - rest_on s (suc d)) * s.width ≡ from_on s (suc d) + s.width = from_next s (suc d) (2 ^ suc d - 1 - rest_on s (suc d)) refl in
            let g : suc (2 ^ suc d - 1 - rest_on s (suc d)) * s.width ≤ 2 ^ s.lane * s.width =
            mul-le-mul_right s.width (omega (arith, pow_pos (suc d), pow_mono {i = suc d} {j = s.lane} high)) in
            nth_is p (2 ^ s.lane * s.width) n (from_on s (suc d) + o) (omega arith)
            (stretch (suc d) o (omega arith) high h (omega arith) ∙ lt-ltb o (due_ticks s (suc d)) (omega arith))
            (omega (arith, c, b.1))

    pub nth_past : (n : ℕ) → ticks_to s s.lane ≤ n →
        first (λ o. both (p o) (eqb (how_many p o) n)) (2 ^ s.lane * s.width) ≡ 2 ^ s.lane * s.width
    nth_past n few = nth_none p (2 ^ s.lane * s.width) n (omega (arith, all_owed))
