-- Whether a record stands at a place, from the tests that decide it, and what it means that one does.
-- Rests on the laws of tests.
use mathlib.Core.Path.{◌≡◌}
use mathlib.Core.Bool.{Bool, true, false}
use mathlib.Core.List.{List, ◌++◌}
use Prim.Native.Nat.{ℕ, ◌+◌, ◌≤◌}
use lib.Dec.{leb}
use lib.ListN.{length, take, drop}
use borrow.Author.Tests.{leb-true, le-leb, eqb-true, eq-eqb}
use Rattle.rules.specs.Limits.{within}
use Rattle.rules.proofs.Tests.{both_l, both_r}
use Rattle.sums.specs.Crc.{sum_of, sum_size}
use Rattle.notice_fields.specs.Numbers.{number_at}
use Rattle.journal_records.specs.Records.{record_head, record_least, records_max, record_number, record_kind, payload_size, record_end}
use Rattle.journal_records.specs.Records.{is_headed, is_summed, verifies_at}

module _ (identity bs : List ℕ) (p : ℕ) where
  -- ---- from the tests

  pub none_short : leb (p + record_least) (length bs) ≡ false → false ≡ verifies_at identity bs p
  unfolding verifies_at
  none_short short = rw short

  module _ (there : leb (p + record_least) (length bs) ≡ true) where
    pub none_headed : is_headed bs p ≡ false → false ≡ verifies_at identity bs p
    unfolding verifies_at
    none_headed other = rw (there, other)

    module _ (headed : is_headed bs p ≡ true) (n : ℕ) (size : n ≡ payload_size bs p) where
      pub none_whole : leb (p + (record_least + n)) (length bs) ≡ false → false ≡ verifies_at identity bs p
      unfolding verifies_at
      none_whole cut = rw (there, headed, ← size, cut)

      pub by_sum : leb (p + (record_least + n)) (length bs) ≡ true → (b : Bool) → b ≡ is_summed identity bs p (record_head + n)
          → b ≡ verifies_at identity bs p
      unfolding verifies_at
      by_sum whole b is = rw (there, headed, ← size, whole) is

  -- ---- what stands

  pub record Verified : Type 0 where
    pub there : p + record_least ≤ length bs
    pub numbered : 1 ≤ record_number bs p
    pub low : record_number bs p ≤ records_max
    pub kinded : 1 ≤ record_kind bs p
    pub ends : record_end bs p ≤ length bs
    pub summed : number_at bs (p + (record_head + payload_size bs p)) sum_size ≡ sum_of (identity ++ take (record_head + payload_size bs p) (drop p bs))

  pub verified : verifies_at identity bs p ≡ true → Verified
  unfolding verifies_at is_headed
  verified t =
      let t1 = both_r (leb (p + record_least) (length bs)) _ t in
      let head = both_l (is_headed bs p) _ t1 in
      let t2 = both_r (is_headed bs p) _ t1 in
      let number = both_l (within 1 records_max (record_number bs p)) _ head in
      record {
        there = leb-true _ _ (both_l (leb (p + record_least) (length bs)) _ t);
        numbered = leb-true _ _ (both_l (leb 1 (record_number bs p)) _ number);
        low = leb-true _ _ (both_r (leb 1 (record_number bs p)) _ number);
        kinded = leb-true _ _ (both_r (within 1 records_max (record_number bs p)) _ head);
        ends = leb-true _ _ (both_l (leb (record_end bs p) (length bs)) _ t2);
        summed = eqb-true _ _ (both_r (leb (record_end bs p) (length bs)) _ t2);
      }

  pub verifies : Verified → verifies_at identity bs p ≡ true
  unfolding verifies_at is_headed
  verifies v =
      rw (le-leb _ _ v.there, le-leb _ _ v.numbered, le-leb _ _ v.low, le-leb _ _ v.kinded, le-leb _ _ v.ends, eq-eqb _ _ v.summed)
