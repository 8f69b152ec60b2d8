-- A notice's fields as runs of stores: how long each row is, and that a row's stores follow those before it.
-- Rests on the field table's definitions and on runs of stores.
use mathlib.Core.Path.{◌≡◌, refl, sym, ◌∙◌}
use mathlib.Core.Bool.{Bool, true, false}
use mathlib.Core.List.{List, []}
use Prim.Native.Nat.{ℕ, zero, suc, ◌+◌}
use native.Mathlib.Omega.{arith}
use lib.ListN.{length, set, get_or, length-append}
use lib.Seq.{sets}
use Rattle.rules.specs.Refusals.{pick}
use Rattle.notice_fields.specs.Fields.{tag_of, size_of, is_carried, span_of, start_of}
use Rattle.notice_fields.specs.Numbers.{big_endian}
use Rattle.notice_fields.proofs.Digits.{length_big}
pub use Rattle.notice_fields.proofs.Stores.{sets_append, laid}
use Rattle.notice_bytes.specs.Laying.{field_bytes, row_bytes, bytes_to}

pub length_field : (i v : ℕ) → length (field_bytes i v) ≡ 3 + size_of i
unfolding field_bytes
length_field i v =
    omega (arith, length-append (big_endian 2 (size_of i)) (big_endian (size_of i) v), length_big 2 (size_of i), length_big (size_of i) v)

pub length_row_lem : (k i v : ℕ) → length (row_bytes k i v) ≡ span_of k i
unfolding row_bytes span_of
length_row_lem k i v = go (is_carried k i)
  where
    go : (b : Bool) → length (pick b (field_bytes i v) []) ≡ pick b (3 + size_of i) 0
    go true = length_field i v
    go false = refl

pub length_bytes : (k : ℕ) (vs : List ℕ) (i : ℕ) → length (bytes_to k vs i) ≡ start_of k i
unfolding bytes_to start_of
length_bytes k vs zero = refl
length_bytes k vs (suc i) =
    omega (arith, length-append (bytes_to k vs i) (row_bytes k i (get_or vs i 0)), length_bytes k vs i, length_row_lem k i (get_or vs i 0))

-- tag, length and value stored one after the other are the field
pub field_laid : (l : List ℕ) (at i v : ℕ)
    → sets (sets (set l at (tag_of i)) (at + 1) (big_endian 2 (size_of i))) (at + 3) (big_endian (size_of i) v)
    ≡ sets l at (field_bytes i v)
unfolding field_bytes
field_laid l at i v =
    let e : suc at + length (big_endian 2 (size_of i)) ≡ at + 3 = omega (arith, length_big 2 (size_of i)) in
    let f : suc at ≡ at + 1 = omega arith in
    sym (sets_append (big_endian 2 (size_of i)) (set l at (tag_of i)) (big_endian (size_of i) v) (suc at) ∙ rw (e, f))

-- a row stored after the rows before it is one row more
pub row_laid : (l : List ℕ) (k : ℕ) (vs : List ℕ) (i : ℕ)
    → sets (sets l 0 (bytes_to k vs i)) (start_of k i) (row_bytes k i (get_or vs i 0)) ≡ sets l 0 (bytes_to k vs (suc i))
unfolding bytes_to
row_laid l k vs i =
    let e : 0 + length (bytes_to k vs i) ≡ start_of k i = omega (arith, length_bytes k vs i) in
    sym (sets_append (bytes_to k vs i) l (row_bytes k i (get_or vs i 0)) 0 ∙ rw e)
