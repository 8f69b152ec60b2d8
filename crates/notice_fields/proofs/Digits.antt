-- Big-endian numbers: how long they are, one more byte written or read, and the bounds that code asks.
-- Rests on the laws of division alone.
use mathlib.Core.Path.{◌≡◌, refl, ap, ◌∙◌}
use mathlib.Core.List.{List, [], ◌∷◌}
use Prim.Native.Nat.{ℕ, zero, suc, ◌+◌, ◌*◌, ◌-◌, ◌≤◌, ◌<◌, ◌^◌, ◌/◌, ◌%◌}
use native.Mathlib.Nat.{add-suc, add_assoc, pow-suc, pow-le-pow_right, div-div-eq-div-mul}
use native.Mathlib.Omega.{arith}
use lib.ListN.{length, set}
use lib.Seq.{sets, set_comm}
use Rattle.notice_fields.specs.Numbers.{big_endian, number_at}

pub length_big : (n v : ℕ) → length (big_endian n v) ≡ n
unfolding big_endian
length_big zero v = refl
length_big (suc n) v = ap suc (length_big n v)

-- a width up to eight bytes fits 64 bits, with one byte more while it is below eight
pub fits_64 : (i : ℕ) → i < 8 → 256 ^ i * 256 ≤ 2 ^ 64
fits_64 i h =
    let top : 256 ^ suc i ≤ 256 ^ 8 = pow-le-pow_right (omega arith) h in
    omega (arith, pow-suc 256 i)

-- the first bytes of a number count past all that the later ones hold
pub number_split : (bs : List ℕ) (at m n : ℕ) → number_at bs at m * 256 ^ n + number_at bs (at + m) n ≡ number_at bs at (m + n)
unfolding number_at
number_split bs at m zero =
    let e : m + 0 ≡ m = omega arith in
    rw e (omega arith)
number_split bs at m (suc n) = rw (add-suc, add_assoc, pow-suc, ← number_split bs at m n) (omega arith)

-- a store before a run of stores can be made first
first_store : (vs l : List ℕ) (a b x : ℕ) → a < b → set (sets l b vs) a x ≡ sets (set l a x) b vs
first_store [] l a b x h = refl
first_store (v ∷ vs) l a b x h =
    first_store vs (set l b v) a (suc b) x (omega arith)
    ∙ ap (λ (m : List ℕ). sets m (suc b) vs) (set_comm l b a v x (λ e. omega arith))

-- what stands from place i on after the store at i, where the bytes after it stood before
pub put_more : (l : List ℕ) (at w v i : ℕ) → 0 < i → i ≤ w
    → set (sets l (at + i) (big_endian (w - i) v)) (at + (i - 1)) (v / 256 ^ (w - i) % 256)
    ≡ sets l (at + (i - 1)) (big_endian (w - (i - 1)) v)
unfolding big_endian
put_more l at w v zero pos h = absurd (omega arith)
put_more l at w v (suc i) pos h =
    let e : suc i - 1 ≡ i = omega arith in
    let f : w - i ≡ suc (w - suc i) = omega arith in
    let g : at + suc i ≡ suc (at + i) = omega arith in
    rw (e, f, g) (first_store (big_endian (w - suc i) v) l (at + i) (suc (at + i)) _ (omega arith))

pub left_more : (w v i : ℕ) → 0 < i → i ≤ w → v / 256 ^ (w - i) / 256 ≡ v / 256 ^ (w - (i - 1))
left_more w v i pos h =
    let f : w - (i - 1) ≡ suc (w - i) = omega arith in
    rw (f, pow-suc) (div-div-eq-div-mul v (256 ^ (w - i)) 256)
