-- That some bytes stand at a place of a list, element by element, how numbers come back from their bytes, and that these are bytes.
-- Rests on the laws of lists and of division. The round trips in both directions go by these.
use mathlib.Core.Path.{◌≡◌, sym, ap, ◌∙◌}
use mathlib.Core.List.{List, ◌++◌}
use Prim.Native.Nat.{ℕ, zero, suc, ◌+◌, ◌-◌, ◌≤◌, ◌<◌, ◌^◌, ◌/◌, ◌%◌}
use native.Mathlib.Nat.{add-zero, add_assoc, add-suc, pow-suc, pow-succ', div-one, div-eq_of_lt, div-add-mod'}
use native.Mathlib.Nat.{div-div-eq-div-mul, mod-lt}
use native.Mathlib.Omega.{arith}
use lib.Arith.{digits_div, digits_mod}
use lib.ListN.{length, get_or, take, drop, length-append, length-take, length-drop, get_or-append}
use lib.Seq.{get_or-append-add, get_or-take, get_or-drop, ext_get_or}
use Rattle.notice_fields.specs.Numbers.{Bytes, big_endian, number_at}
use Rattle.notice_fields.proofs.Each.{by_order}
use Rattle.notice_fields.proofs.Digits.{length_big}

-- w stands in bs from place a on
abbrev pub Has : List ℕ → ℕ → List ℕ → Type 0
Has bs a w = (j : ℕ) → j < length w → get_or bs (a + j) 0 ≡ get_or w j 0

module _ (bs : List ℕ) (a : ℕ) (xs ys : List ℕ) where
  pub has_left : Has bs a (xs ++ ys) → Has bs a xs
  has_left h j lt = h j (omega (arith, length-append xs ys)) ∙ get_or-append xs ys 0 j lt

  pub has_right : Has bs a (xs ++ ys) → Has bs (a + length xs) ys
  has_right h j lt =
      rw add_assoc (h (length xs + j) (omega (arith, length-append xs ys)) ∙ get_or-append-add xs ys j 0)

  pub has_both : Has bs a xs → Has bs (a + length xs) ys → Has bs a (xs ++ ys)
  has_both f g j lt =
      by_order j (length xs)
      (λ inl. f j inl ∙ sym (get_or-append xs ys 0 j inl))
      (λ out.
      let k = j - length xs in
      let e : length xs + k ≡ j = omega arith in
      let there : get_or bs (a + (length xs + k)) 0 ≡ get_or (xs ++ ys) (length xs + k) 0 =
      rw (← add_assoc) (g k (omega (arith, length-append xs ys)) ∙ sym (get_or-append-add xs ys k 0)) in
      rw e at there)

-- what stands between two lists stands where the first ends
pub has_middle : (pre w post : List ℕ) → Has (pre ++ (w ++ post)) (length pre) w
has_middle pre w post j lt = get_or-append-add pre (w ++ post) j 0 ∙ get_or-append w post 0 j lt

-- what stands within a list is the part of it
pub has_part : (bs : List ℕ) (a : ℕ) (w : List ℕ) → a + length w ≤ length bs → Has bs a w
    → take (length w) (drop a bs) ≡ w
has_part bs a w fits h =
    ext_get_or 0 (take (length w) (drop a bs)) w
    (length-take (length w) (drop a bs) ∙ rw length-drop (omega arith))
    (λ i lt.
    let below : i < length w = omega (arith, lt, length-take (length w) (drop a bs)) in
    get_or-take (length w) (drop a bs) i 0 below ∙ (get_or-drop a bs i 0 ∙ h i below))

-- byte j of a number, from the front
pub big_at : (n v j : ℕ) → j < n → get_or (big_endian n v) j 0 ≡ v / 256 ^ (n - suc j) % 256
unfolding big_endian
big_at zero v j h = absurd (omega arith)
big_at (suc n) v zero h =
    let e : suc n - 1 ≡ n = omega arith in
    rw e
big_at (suc n) v (suc j) h =
    let e : suc n - suc (suc j) ≡ n - suc j = omega arith in
    rw e (big_at n v j (omega arith))

-- the first m bytes of a number of n bytes spell what is left after taking the others off
gather : (bs : List ℕ) (a n v : ℕ) → v < 256 ^ n → Has bs a (big_endian n v) → (m : ℕ) → m ≤ n
    → number_at bs a m ≡ v / 256 ^ (n - m)
unfolding number_at
gather bs a n v small h zero le =
    let e : n - 0 ≡ n = omega arith in
    rw e (sym (div-eq_of_lt small))
gather bs a n v small h (suc m) le =
    let e : n - m ≡ suc (n - suc m) = omega arith in
    let q = v / 256 ^ (n - suc m) in
    let up : v / 256 ^ (n - m) ≡ q / 256 = rw (e, pow-suc) (sym (div-div-eq-div-mul v (256 ^ (n - suc m)) 256)) in
    let byte : get_or bs (a + m) 0 ≡ q % 256 = h m (omega (arith, length_big n v)) ∙ big_at n v m le in
    rw (gather bs a n v small h m (omega arith), up, byte) (div-add-mod' q 256)

-- a number comes back from its bytes
pub number_back : (bs : List ℕ) (a n v : ℕ) → v < 256 ^ n → Has bs a (big_endian n v) → number_at bs a n ≡ v
number_back bs a n v small h =
    let e : n - n ≡ 0 = omega arith in
    gather bs a n v small h n (omega arith) ∙ rw e (div-one v)

-- and bytes come back from their number
shorter : (bs : List ℕ) → Bytes bs → (a m d : ℕ) → number_at bs a (m + d) / 256 ^ d ≡ number_at bs a m
unfolding number_at
shorter bs small a m zero = rw add-zero (div-one (number_at bs a m))
shorter bs small a m (suc d) =
    rw (add-suc, pow-succ', ← div-div-eq-div-mul, digits_div (number_at bs a (m + d)) (small (a + (m + d)))) (shorter bs small a m d)

pub bytes_back : (bs : List ℕ) → Bytes bs → (a n : ℕ) → Has bs a (big_endian n (number_at bs a n))
unfolding number_at
bytes_back bs small a n j lt =
    let below : j < n = omega (arith, lt, length_big n (number_at bs a n)) in
    let e : n ≡ suc j + (n - suc j) = omega arith in
    let whole : number_at bs a n / 256 ^ (n - suc j) ≡ number_at bs a (suc j) =
    ap (λ (m : ℕ). number_at bs a m / 256 ^ (n - suc j)) e ∙ shorter bs small a (suc j) (n - suc j) in
    sym (big_at n (number_at bs a n) j below ∙ (ap (λ (q : ℕ). q % 256) whole ∙ digits_mod (number_at bs a j) (small (a + j))))

-- ---- rows of bytes

pub bytes_append : (xs ys : List ℕ) → Bytes xs → Bytes ys → Bytes (xs ++ ys)
bytes_append xs ys f g j =
    by_order j (length xs)
    (λ lt. rw (get_or-append xs ys 0 j lt) (f j))
    (λ le.
    let k = j - length xs in
    let e : length xs + k ≡ j = omega arith in
    rw (← e, get_or-append-add xs ys k 0) (g k))

pub bytes_big : (n v : ℕ) → Bytes (big_endian n v)
unfolding big_endian
bytes_big zero v j = omega arith
bytes_big (suc n) v zero = mod-lt _ (omega arith)
bytes_big (suc n) v (suc j) = bytes_big n v j
