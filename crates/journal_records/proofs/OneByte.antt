-- A record of which one byte was changed, in its payload or its sum, in its number or its kind, never verifies where it stood.
-- Rests on one byte changing a sum, and on numbers that come back from their bytes.
use mathlib.Core.Path.{◌≡◌, sym, ap, ◌∙◌}
use mathlib.Core.Bool.{false}
use mathlib.Core.Logic.{◌⊎◌, ⊎_elim}
use mathlib.Core.List.{List, [], ◌∷◌, ◌++◌}
use Prim.Native.Nat.{ℕ, zero, suc, ◌+◌, ◌-◌, ◌≤◌, ◌<◌}
use native.Mathlib.Nat.{add_assoc}
use native.Mathlib.Omega.{arith}
use lib.ListN.{length, get_or, take, drop, set, length-set, length-append, length-drop, get_or-append, get_or-eq_default}
use lib.Seq.{ext_get_or, length-take-le, get_or-take, get_or-drop, get_or-append-add, get_or-set_same, get_or-set_other}
use Rattle.rules.proofs.Tests.{fails}
use Rattle.sums.specs.Crc.{sum_of, sum_size}
use Rattle.sums.proofs.OneByte.{sum_one_byte}
use Rattle.notice_fields.specs.Numbers.{Bytes, big_endian, number_at}
use Rattle.notice_fields.proofs.Digits.{length_big}
use Rattle.notice_fields.proofs.Each.{by_order}
use Rattle.notice_fields.proofs.Has.{Has, number_back, bytes_back, bytes_append}
use Rattle.journal_records.specs.Records.{record_head, record_least, body_of, record_of, payload_size, verifies_at}
use Rattle.journal_records.proofs.Standing.{verified}
use Rattle.journal_records.proofs.Laid.{length_body, length_record}
use Rattle.journal_records.proofs.RoundTrip.{Recordable, bytes_body, sum_fits}

-- the bytes of a part are bytes
take_small : (n : ℕ) (bs : List ℕ) → Bytes bs → Bytes (take n bs)
take_small zero bs small i = omega arith
take_small (suc n) [] small i = small i
take_small (suc n) (b ∷ bs) small zero = small zero
take_small (suc n) (b ∷ bs) small (suc i) = take_small n bs (λ k. small (suc k)) i

pub part_small : (bs : List ℕ) (n p : ℕ) → Bytes bs → Bytes (take n (drop p bs))
part_small bs n p small = take_small n (drop p bs) (λ i. rw (get_or-drop p bs i 0) (small (p + i)))

module _ (identity : List ℕ) (small : Bytes identity) (n kind : ℕ) (payload : List ℕ) (r : Recordable n kind payload)
    (bs : List ℕ) (bytes : Bytes bs) (p i v : ℕ)
    (has : Has bs p (set (record_of identity n kind payload) i v))
    (within : i < record_least + length payload) (other : get_or (record_of identity n kind payload) i 0 ≡ v → ⊥)
    (place : (i < 9) ⊎ (record_head ≤ i)) where
  abbrev written : List ℕ
  written = record_of identity n kind payload

  abbrev body : List ℕ
  body = body_of n kind payload

  abbrev sum : ℕ
  sum = sum_of (identity ++ body)

  abbrev size : ℕ
  size = record_head + length payload

  long : length written ≡ record_least + length payload
  long = length_record identity n kind payload

  -- every other byte is as it was written
  kept : (j : ℕ) → j < record_least + length payload → (j ≡ i → ⊥) → get_or bs (p + j) 0 ≡ get_or written j 0
  kept j lt ne = has j (omega (arith, length-set written i v, long)) ∙ get_or-set_other written i j v 0 ne

  changed : get_or bs (p + i) 0 ≡ v
  changed = has i (omega (arith, length-set written i v, long)) ∙ get_or-set_same written i v 0 (omega (arith, long))

  in_body : (j : ℕ) → j < size → get_or written j 0 ≡ get_or body j 0
  unfolding record_of
  in_body j lt = get_or-append body (big_endian sum_size sum) 0 j (omega (arith, length_body n kind payload))

  in_sum : (j : ℕ) → get_or written (size + j) 0 ≡ get_or (big_endian sum_size sum) j 0
  unfolding record_of
  in_sum j =
      let e : size + j ≡ length body + j = omega (arith, length_body n kind payload) in
      rw e (get_or-append-add body (big_endian sum_size sum) j 0)

  -- the length is not touched
  in_length : (j : ℕ) → j < 2 → get_or body (9 + j) 0 ≡ get_or (big_endian 2 (length payload)) j 0
  unfolding body_of
  in_length j lt =
      let a = big_endian 8 n in
      let b = big_endian 1 kind in
      let c = big_endian 2 (length payload) in
      let e : 9 + j ≡ length a + (length b + j) = omega (arith, length_big 8 n, length_big 1 kind) in
      rw e
      (get_or-append-add a (b ++ (c ++ payload)) (length b + j) 0
      ∙ (get_or-append-add b (c ++ payload) j 0 ∙ get_or-append c payload 0 j (omega (arith, length_big 2 (length payload)))))

  not_length : (j : ℕ) → j < 2 → 9 + j ≡ i → ⊥
  not_length j lt e = ⊎_elim (λ low. omega arith) (λ high. omega arith) place

  size_is : payload_size bs p ≡ length payload
  size_is =
      number_back bs (p + 9) 2 (length payload) (omega (arith, r.short))
      (λ j lt.
      let low : j < 2 = omega (arith, lt, length_big 2 (length payload)) in
      rw (add_assoc p 9 j) (kept (9 + j) (omega arith) (not_length j low) ∙ (in_body (9 + j) (omega arith) ∙ in_length j low)))

  -- ---- a byte before the sum

  abbrev now : List ℕ
  now = take size (drop p bs)

  module _ (fits : p + (record_least + length payload) ≤ length bs) where
    now_long : length now ≡ size
    now_long = length-take-le size (drop p bs) (rw (length-drop p bs) (omega arith))

    now_at : (k : ℕ) → k < size → get_or now k 0 ≡ get_or bs (p + k) 0
    now_at k lt = get_or-take size (drop p bs) k 0 lt ∙ get_or-drop p bs k 0

    now_kept : (k : ℕ) → (k ≡ i → ⊥) → get_or now k 0 ≡ get_or body k 0
    now_kept k ne =
        by_order k size (λ lt. now_at k lt ∙ (kept k (omega arith) ne ∙ in_body k lt))
        (λ le. get_or-eq_default now 0 (omega (arith, now_long)) ∙ sym (get_or-eq_default body 0 (omega (arith, length_body n kind payload))))

    both_kept : (k : ℕ) → (k ≡ length identity + i → ⊥) → get_or (identity ++ now) k 0 ≡ get_or (identity ++ body) k 0
    both_kept k ne =
        by_order k (length identity) (λ lt. get_or-append identity now 0 k lt ∙ sym (get_or-append identity body 0 k lt))
        (λ le.
        let e : k ≡ length identity + (k - length identity) = omega arith in
        rw e
        (get_or-append-add identity now (k - length identity) 0
        ∙ (now_kept (k - length identity) (λ same. ne (omega arith)) ∙ sym (get_or-append-add identity body (k - length identity) 0))))

    body_differs : i < size → sum_of (identity ++ now) ≡ sum → ⊥
    body_differs lt =
        sum_one_byte (identity ++ now) (identity ++ body) (bytes_append identity now small (part_small bs size p bytes))
        (bytes_append identity body small (bytes_body n kind payload r.bytes)) (length identity + i) both_kept
        (λ same. other (in_body i lt ∙ (same_here same ∙ (now_at i lt ∙ changed))))
        (omega (arith, length-append identity now, length-append identity body, now_long, length_body n kind payload))
        (omega (arith, length-append identity now, now_long))
      where
        same_here : get_or (identity ++ now) (length identity + i) 0 ≡ get_or (identity ++ body) (length identity + i) 0 → get_or body i 0 ≡ get_or now i 0
        same_here same = sym (get_or-append-add identity body i 0) ∙ (sym same ∙ get_or-append-add identity now i 0)

    -- the sum stands as it was
    sum_kept : i < size → number_at bs (p + size) sum_size ≡ sum
    sum_kept lt =
        number_back bs (p + size) 4 sum (sum_fits identity small n kind payload r)
        (λ j low. rw (add_assoc p size j) (kept (size + j) (omega (arith, low, length_big 4 sum)) (λ e. omega arith) ∙ in_sum j))

    -- ---- a byte of the sum

    now_is : size ≤ i → now ≡ body
    now_is le =
        ext_get_or 0 now body (omega (arith, now_long, length_body n kind payload)) (λ k lt. now_kept k (λ e. omega (arith, lt, now_long)))

    sum_differs : size ≤ i → number_at bs (p + size) sum_size ≡ sum → ⊥
    sum_differs le same =
        let j = i - size in
        let e : size + j ≡ i = omega arith in
        let f : p + size + j ≡ p + i = omega arith in
        let here : get_or bs (p + size + j) 0 ≡ get_or (big_endian 4 sum) j 0 =
        rw same at (bytes_back bs bytes (p + size) 4 j (omega (arith, length_big 4 (number_at bs (p + size) 4)))) in
        other (sym (ap (λ (k : ℕ). get_or written k 0) e) ∙ (in_sum j ∙ (sym here ∙ (ap (λ (k : ℕ). get_or bs k 0) f ∙ changed))))

  pub changed_never_verifies : verifies_at identity bs p ≡ false
  changed_never_verifies =
      fails (verifies_at identity bs p)
      (λ t.
      let w = verified identity bs p t in
      let fits : p + (record_least + length payload) ≤ length bs = omega (arith, w.ends, size_is) in
      let summed : number_at bs (p + size) sum_size ≡ sum_of (identity ++ now) = rw size_is at w.summed in
      by_order i size (λ lt. body_differs fits lt (sym summed ∙ sum_kept fits lt))
      (λ le. sum_differs fits le (summed ∙ ap (λ (l : List ℕ). sum_of (identity ++ l)) (now_is fits le))))
