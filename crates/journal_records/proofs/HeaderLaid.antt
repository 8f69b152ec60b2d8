-- What `put_header` has laid, part by part, and the ways out of it and of `read_header`.
-- Rests on runs of stores.
use mathlib.Core.Path.{◌≡◌, refl, sym, ◌∙◌}
use mathlib.Core.List.{List, ◌++◌}
use Prim.Native.Nat.{ℕ, ◌+◌, ◌≤◌, ◌<◌}
use native.Mathlib.Omega.{arith}
use lib.ListN.{length, take, drop, length-append}
use lib.Seq.{sets, take_at}
use borrow.Author.Tests.{eq-eqb, ne_eqb, lt-ltb, le-ltb}
use Rattle.rules.specs.Refusals.{first_hit}
use Rattle.sums.specs.Crc.{sum_of, sum_size}
use Rattle.notice_fields.specs.Numbers.{big_endian}
use Rattle.notice_fields.proofs.Digits.{length_big}
use Rattle.notice_fields.proofs.Stores.{sets_append, laid}
use Rattle.journal_records.specs.declared.headers.Origin.{Origin}
use Rattle.journal_records.specs.Header.{header_summed, header_size, identity_size, header_word, origin_bytes, summed_bytes, header_of}
use Rattle.journal_records.specs.Laying.{LaysHeader}

pub length_origin : (o : Origin) → length (origin_bytes o) ≡ 36
unfolding origin_bytes
length_origin o =
    let a = big_endian 8 o.zero in
    let b = big_endian 8 o.pool in
    let c = big_endian 8 o.lead in
    let d = big_endian 8 o.least in
    let e = big_endian 4 0 in
    omega (
      arith,
      length-append a (b ++ (c ++ (d ++ e))),
      length-append b (c ++ (d ++ e)),
      length-append c (d ++ e),
      length-append d e,
      length_big 8 o.zero,
      length_big 8 o.pool,
      length_big 8 o.lead,
      length_big 8 o.least,
      length_big 4 0,
    )

-- a run of stores behind another, by how many bytes the first has
behind : (xs l ys : List ℕ) (a b : ℕ) → a + length xs ≡ b → sets (sets l a xs) b ys ≡ sets l a (xs ++ ys)
behind xs l ys a b e = sym (sets_append xs l ys a ∙ rw e)

pub origin_laid : (l : List ℕ) (o : Origin)
    → sets (sets (sets (sets (sets l 24 (big_endian 8 o.zero)) 32 (big_endian 8 o.pool)) 40 (big_endian 8 o.lead)) 48 (big_endian 8 o.least)) 56 (big_endian 4 0)
    ≡ sets l 24 (origin_bytes o)
unfolding origin_bytes
origin_laid l o =
    let a = big_endian 8 o.zero in
    let b = big_endian 8 o.pool in
    let c = big_endian 8 o.lead in
    let d = big_endian 8 o.least in
    let e = big_endian 4 0 in
    let l1 = sets l 24 a in
    let l2 = sets l1 32 b in
    let l3 = sets l2 40 c in
    behind d l3 e 48 56 (omega (arith, length_big 8 o.least))
    ∙ (behind c l2 (d ++ e) 40 48 (omega (arith, length_big 8 o.lead))
    ∙ (behind b l1 (c ++ (d ++ e)) 32 40 (omega (arith, length_big 8 o.pool))
    ∙ behind a l (b ++ (c ++ (d ++ e))) 24 32 (omega (arith, length_big 8 o.zero))))

module _ (identity : List ℕ) (o : Origin) (sized : length identity ≡ identity_size) where
  pub length_summed : length (summed_bytes identity o) ≡ header_summed
  unfolding summed_bytes
  length_summed =
      omega (
        arith,
        length-append (big_endian 8 header_word) (identity ++ origin_bytes o),
        length-append identity (origin_bytes o),
        length_big 8 header_word,
        length_origin o,
      )

  pub length_header : length (header_of identity o) ≡ header_size
  unfolding header_of
  length_header =
      omega (
        arith,
        length-append (summed_bytes identity o) (big_endian sum_size (sum_of (summed_bytes identity o))),
        length_summed,
        length_big sum_size (sum_of (summed_bytes identity o)),
      )

  -- what is summed, and with the sum the header
  module _ (room : List ℕ) (long : header_size ≤ length room) where
    pub summed_laid : sets (sets (sets room 0 (big_endian 8 header_word)) 8 identity) 24 (origin_bytes o) ≡ sets room 0 (summed_bytes identity o)
    unfolding summed_bytes
    summed_laid =
        behind identity (sets room 0 (big_endian 8 header_word)) (origin_bytes o) 8 24 (omega arith)
        ∙ behind (big_endian 8 header_word) room (identity ++ origin_bytes o) 0 8 (omega (arith, length_big 8 header_word))

    pub summed_there : take header_summed (sets room 0 (summed_bytes identity o)) ≡ summed_bytes identity o
    summed_there =
        rw (laid (summed_bytes identity o) room (omega (arith, length_summed)))
        (take_at (summed_bytes identity o) (drop (length (summed_bytes identity o)) room) header_summed length_summed)

    pub header_laid : sets (sets room 0 (summed_bytes identity o)) header_summed (big_endian sum_size (sum_of (summed_bytes identity o)))
        ≡ header_of identity o ++ drop header_size room
    unfolding header_of
    header_laid =
        let all = length_header in
        behind (summed_bytes identity o) room (big_endian sum_size (sum_of (summed_bytes identity o))) 0 header_summed (omega (arith, length_summed))
        ∙ (laid (header_of identity o) room (omega arith) ∙ rw all)

-- ---- the ways out

module _ (identity : List ℕ) (o : Origin) (room : List ℕ) where
  pub odd_identity : (length identity ≡ identity_size → ⊥) → LaysHeader identity o room 10 room
  unfolding first_hit
  odd_identity other = record { answers = rw (ne_eqb _ _ other); leaves = refl }

  module _ (sized : length identity ≡ identity_size) where
    pub short_room : length room < header_size → LaysHeader identity o room 10 room
    unfolding first_hit
    short_room short = record { answers = rw (eq-eqb _ _ sized, lt-ltb _ _ short); leaves = refl }

    pub header_put : header_size ≤ length room → LaysHeader identity o room 0 (header_of identity o ++ drop header_size room)
    unfolding first_hit
    header_put long = record { answers = rw (eq-eqb _ _ sized, le-ltb _ _ long); leaves = refl }
