-- What the calls that write have laid: bytes one by one, the parts of a record one behind the other, and its sum behind them.
-- Rests on runs of stores.
use mathlib.Core.Path.{◌≡◌, sym, ap, ◌∙◌}
use mathlib.Core.Bool.{true, false}
use mathlib.Core.List.{List, [], ◌∷◌, ◌++◌, append_assoc}
use Prim.Native.Nat.{ℕ, ◌+◌, ◌≤◌, ◌<◌}
use native.Mathlib.Numerals.{add-one}
use native.Mathlib.Omega.{arith}
use lib.Dec.{leb}
use lib.ListN.{length, get_or, take, drop, set, length-append}
use lib.Seq.{sets, take-suc, take_at, drop_at, sets-eq, length-take-le}
use borrow.Author.Tests.{le-leb, lt-leb}
use Rattle.sums.specs.Crc.{sum_of, sum_size}
use Rattle.notice_fields.specs.Numbers.{big_endian}
use Rattle.notice_fields.proofs.Digits.{length_big}
use Rattle.notice_fields.proofs.Stores.{sets_append}
use Rattle.journal_records.specs.Records.{record_head, record_least, payload_max, body_of, record_of}
use Rattle.journal_records.specs.Laying.{LaysRecord}

-- one byte more
pub one_laid : (bs l : List ℕ) (at i : ℕ) → i < length bs
    → set (sets l at (take i bs)) (at + i) (get_or bs i 0) ≡ sets l at (take (i + 1) bs)
one_laid bs l at i h =
    let e : at + length (take i bs) ≡ at + i = omega (arith, length-take-le i bs (omega arith)) in
    sym (rw (add-one, take-suc bs i 0 h) (sets_append (take i bs) l (get_or bs i 0 ∷ []) at ∙ rw e))

pub length_body : (n kind : ℕ) (payload : List ℕ) → length (body_of n kind payload) ≡ record_head + length payload
unfolding body_of
length_body n kind payload =
    let c = big_endian 2 (length payload) in
    omega (
      arith,
      length-append (big_endian 8 n) (big_endian 1 kind ++ (c ++ payload)),
      length-append (big_endian 1 kind) (c ++ payload),
      length-append c payload,
      length_big 8 n,
      length_big 1 kind,
      length_big 2 (length payload),
    )

pub length_record : (identity : List ℕ) (n kind : ℕ) (payload : List ℕ)
    → length (record_of identity n kind payload) ≡ record_least + length payload
unfolding record_of
length_record identity n kind payload =
    omega (
      arith,
      length-append (body_of n kind payload) (big_endian sum_size (sum_of (identity ++ body_of n kind payload))),
      length_body n kind payload,
      length_big sum_size (sum_of (identity ++ body_of n kind payload)),
    )

-- the parts before the sum
pub body_laid : (l : List ℕ) (at n kind : ℕ) (payload : List ℕ)
    → sets (sets (sets (sets l at (big_endian 8 n)) (at + 8) (big_endian 1 kind)) (at + 8 + 1) (big_endian 2 (length payload))) (at + 11) payload
    ≡ sets l at (body_of n kind payload)
unfolding body_of
body_laid l at n kind payload =
    let a = big_endian 8 n in
    let b = big_endian 1 kind in
    let c = big_endian 2 (length payload) in
    let ea : at + length a ≡ at + 8 = omega (arith, length_big 8 n) in
    let eb : at + 8 + length b ≡ at + 8 + 1 = omega (arith, length_big 1 kind) in
    let ec : at + 8 + 1 + length c ≡ at + 11 = omega (arith, length_big 2 (length payload)) in
    sym
    (sets_append a l (b ++ (c ++ payload)) at
    ∙ rw (ea, sets_append b (sets l at a) (c ++ payload) (at + 8), eb, sets_append c (sets (sets l at a) (at + 8) b) payload (at + 8 + 1), ec))

-- what stands there then is the body, and with the sum behind it the record
module _ (identity : List ℕ) (l : List ℕ) (at n kind : ℕ) (payload : List ℕ) (fits : at + (record_least + length payload) ≤ length l) where
  abbrev body : List ℕ
  body = body_of n kind payload

  pub body_there : take (record_head + length payload) (drop at (sets l at body)) ≡ body
  body_there =
      let size = length_body n kind payload in
      let is = sets-eq body l at (omega (arith, size)) ∙ append_assoc (take at l) body (drop (at + length body) l) in
      ap (λ x. take (record_head + length payload) (drop at x)) is
      ∙ (ap (take (record_head + length payload)) (drop_at (take at l) (body ++ drop (at + length body) l) at (length-take-le at l (omega arith)))
      ∙ take_at body (drop (at + length body) l) (record_head + length payload) size)

  pub record_laid : sets (sets l at body) (at + (record_head + length payload)) (big_endian sum_size (sum_of (identity ++ body)))
      ≡ sets l at (record_of identity n kind payload)
  unfolding record_of
  record_laid =
      let e : at + length body ≡ at + (record_head + length payload) = omega (arith, length_body n kind payload) in
      sym (sets_append body l (big_endian sum_size (sum_of (identity ++ body))) at ∙ rw e)

-- ---- the ways out of `put_record`

module _ (identity : List ℕ) (n kind : ℕ) (payload room : List ℕ) (at : ℕ) where
  pub too_long_lem : payload_max < length payload → LaysRecord identity n kind payload room at at room
  too_long_lem long = record { answers = rw (lt-leb _ _ long); leaves = rw (lt-leb _ _ long) }

  module _ (short : length payload ≤ payload_max) where
    pub no_room_lem : leb (at + (record_least + length payload)) (length room) ≡ false → LaysRecord identity n kind payload room at at room
    no_room_lem none = record { answers = rw (le-leb _ _ short, none); leaves = rw (le-leb _ _ short, none) }

    pub record_put : leb (at + (record_least + length payload)) (length room) ≡ true → (answer : ℕ)
        → answer ≡ at + (record_least + length payload)
        → LaysRecord identity n kind payload room at answer (sets room at (record_of identity n kind payload))
    record_put fits answer is = record { answers = rw (le-leb _ _ short, fits) is; leaves = rw (le-leb _ _ short, fits) }
