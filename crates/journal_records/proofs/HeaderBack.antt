-- A header that was written reads as what was written, and its identity stands where it is looked for.
-- Rests on numbers that come back from their bytes, and on a sum fitting four.
use mathlib.Core.Path.{◌≡◌, sym, ap, ◌∙◌}
use mathlib.Core.Bool.{true}
use mathlib.Core.List.{List, ◌++◌}
use Prim.Native.Nat.{ℕ, ◌+◌, ◌≤◌, ◌<◌, ◌^◌}
use native.Mathlib.Omega.{arith}
use lib.ListN.{length, take, drop}
use borrow.Author.Tests.{le-ltb, eq-eqb}
use Rattle.rules.specs.Limits.{within, pool_min, pool_max}
use Rattle.sums.specs.Crc.{sum_of, sum_size}
use Rattle.sums.proofs.Small.{sum_small}
use Rattle.notice_fields.specs.Numbers.{Bytes, big_endian, number_at}
use Rattle.notice_fields.proofs.Digits.{length_big}
use Rattle.notice_fields.proofs.Has.{Has, has_left, has_right, has_part, number_back, bytes_append, bytes_big}
use Rattle.journal_records.specs.declared.headers.Origin.{Origin}
use Rattle.std.specs.Prelude.{Ok}
use Rattle.journal_records.specs.Header.{header_summed, header_size, identity_size, header_word, origin_bytes, summed_bytes, header_of, identity_in, header_found}
use Rattle.journal_records.proofs.HeaderLaid.{length_summed}

-- the numbers fit their eight bytes, and the pool its limits
pub record Originates (o : Origin) : Type 0 where
  pub zero_fits : o.zero < 2 ^ 64
  pub pool_fits : o.pool < 2 ^ 64
  pub lead_fits : o.lead < 2 ^ 64
  pub least_fits : o.least < 2 ^ 64
  pub pooled : within pool_min pool_max o.pool ≡ true

bytes_origin : (o : Origin) → Bytes (origin_bytes o)
unfolding origin_bytes
bytes_origin o =
    let b = big_endian 8 o.pool in
    let c = big_endian 8 o.lead in
    let d = big_endian 8 o.least in
    let e = big_endian 4 0 in
    bytes_append (big_endian 8 o.zero) (b ++ (c ++ (d ++ e))) (bytes_big 8 o.zero)
    (bytes_append b (c ++ (d ++ e)) (bytes_big 8 o.pool)
    (bytes_append c (d ++ e) (bytes_big 8 o.lead) (bytes_append d e (bytes_big 8 o.least) (bytes_big 4 0))))

bytes_summed : (identity : List ℕ) (o : Origin) → Bytes identity → Bytes (summed_bytes identity o)
unfolding summed_bytes
bytes_summed identity o small =
    bytes_append (big_endian 8 header_word) (identity ++ origin_bytes o) (bytes_big 8 header_word) (bytes_append identity (origin_bytes o) small (bytes_origin o))

module _ (identity : List ℕ) (small : Bytes identity) (sized : length identity ≡ identity_size) (o : Origin) (fits : Originates o)
    (bs : List ℕ) (has : Has bs 0 (header_of identity o)) (long : header_size ≤ length bs) where
  abbrev summed : List ℕ
  summed = summed_bytes identity o

  summed_has : Has bs 0 summed
  unfolding header_of
  summed_has = has_left bs 0 summed (big_endian sum_size (sum_of summed)) has

  sum_has : Has bs header_summed (big_endian sum_size (sum_of summed))
  unfolding header_of
  sum_has =
      let e : 0 + length summed ≡ header_summed = omega (arith, length_summed identity o sized) in
      rw e at (has_right bs 0 summed (big_endian sum_size (sum_of summed)) has)

  behind_word : Has bs 8 (identity ++ origin_bytes o)
  unfolding summed_bytes
  behind_word =
      let e : 0 + length (big_endian 8 header_word) ≡ 8 = omega (arith, length_big 8 header_word) in
      rw e at (has_right bs 0 (big_endian 8 header_word) (identity ++ origin_bytes o) summed_has)

  origin_has : Has bs 24 (origin_bytes o)
  origin_has =
      let e : 8 + length identity ≡ 24 = omega arith in
      rw e at (has_right bs 8 identity (origin_bytes o) behind_word)

  -- one number, and what stands behind it
  behind : (a v b : ℕ) (ys : List ℕ) → Has bs a (big_endian 8 v ++ ys) → a + 8 ≡ b → Has bs b ys
  behind a v b ys h e =
      let f : a + length (big_endian 8 v) ≡ b = omega (arith, length_big 8 v) in
      rw f at (has_right bs a (big_endian 8 v) ys h)

  reads : (a v : ℕ) (ys : List ℕ) → v < 2 ^ 64 → Has bs a (big_endian 8 v ++ ys) → number_at bs a 8 ≡ v
  reads a v ys low h = number_back bs a 8 v low (has_left bs a (big_endian 8 v) ys h)

  pub identity_is : identity_in bs ≡ identity
  identity_is = ap (λ (m : ℕ). take m (drop 8 bs)) (sym sized) ∙ has_part bs 8 identity (omega arith) (has_left bs 8 identity (origin_bytes o) behind_word)

  summed_part : take header_summed bs ≡ summed
  summed_part =
      let all = length_summed identity o sized in
      ap (λ (m : ℕ). take m bs) (sym all) ∙ has_part bs 0 summed (omega (arith, all)) summed_has

  pub header_reads : header_found bs ≡ Ok o
  unfolding header_found origin_bytes summed_bytes
  header_reads =
      let b = big_endian 8 o.pool in
      let c = big_endian 8 o.lead in
      let d = big_endian 8 o.least in
      let e = big_endian 4 0 in
      let h32 = behind 24 o.zero 32 (b ++ (c ++ (d ++ e))) origin_has (omega arith) in
      let h40 = behind 32 o.pool 40 (c ++ (d ++ e)) h32 (omega arith) in
      let h48 = behind 40 o.lead 48 (d ++ e) h40 (omega arith) in
      rw (
        le-ltb _ _ long,
        eq-eqb _ _ (reads 0 header_word (identity ++ origin_bytes o) (omega arith) summed_has),
        eq-eqb _ _ (number_back bs header_summed 4 (sum_of summed) (omega (arith, sum_small summed (bytes_summed identity o small))) sum_has ∙ ap sum_of (sym summed_part)),
        reads 24 o.zero (b ++ (c ++ (d ++ e))) fits.zero_fits origin_has,
        reads 32 o.pool (c ++ (d ++ e)) fits.pool_fits h32,
        reads 40 o.lead (d ++ e) fits.lead_fits h40,
        reads 48 o.least e fits.least_fits h48,
        fits.pooled,
      )
