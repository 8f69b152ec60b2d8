-- A torn end is the beginning of a notice, and every beginning of a notice is one: bytes are torn just where some bytes behind them would make
-- them a whole notice. So what is left of a notice whose writing broke off is cut, and is never taken for damage.
-- Rests on the heads of a kind's fields being the same bytes in every notice of it, and on the field table.
use mathlib.Core.Path.{◌≡◌, refl, sym, ◌∙◌}
use mathlib.Core.Bool.{Bool, true, false}
use mathlib.Core.List.{List, [], ◌∷◌, ◌++◌}
use Prim.Native.Nat.{ℕ, zero, suc, ◌+◌, ◌*◌, ◌-◌, ◌≤◌, ◌<◌}
use native.Mathlib.Omega.{arith}
use lib.Dec.{eqb, leb, ltb}
use lib.ListN.{length, get_or, drop, length-append, length-drop, get_or-append}
use lib.Seq.{get_or-append-add, get_or-drop}
use borrow.Author.Tests.{lt-ltb, le-ltb, le-leb, eq-eqb, eqb-true, ltb-true}
use Rattle.rules.specs.Limits.{both}
use Rattle.rules.specs.Refusals.{pick}
use Rattle.rules.proofs.Tests.{both_l, both_r, both_in}
use Rattle.notice_fields.specs.Fields.{table, span_of, start_of, tag_of, size_of, is_carried, is_known, length_of, rows, open_kind}
use Rattle.notice_fields.specs.Numbers.{Bytes, big_endian, number_at}
use Rattle.notice_fields.proofs.Each.{by_order, each}
use Rattle.notice_fields.proofs.Table.{sound, by_kind}
use Rattle.notice_bytes.specs.Standing.{head_stands, row_stands, stands_to, kind_at, is_whole, is_alone}
use Rattle.notice_bytes.specs.Laying.{field_bytes, row_bytes, bytes_to}
use Rattle.journals.specs.Torn.{kind_begun, blank_bytes, is_torn, NoticeBegun}
use Rattle.journals.proofs.Endings.{length_blank}

-- ---- the heads of fields

record HeadIs (bs : List ℕ) (a i : ℕ) : Type 0 where
  pub tag : get_or bs a 0 ≡ tag_of i
  pub high : get_or bs (a + 1) 0 ≡ 0
  pub low : get_or bs (a + 2) 0 ≡ size_of i

head_is : (bs : List ℕ) → Bytes bs → (a i : ℕ) → i < rows → head_stands bs a i ≡ true → HeadIs bs a i
unfolding head_stands number_at
head_is bs small a i row stands =
    let first : a + 1 + 0 ≡ a + 1 = omega arith in
    let second : a + 1 + 1 ≡ a + 2 = omega arith in
    let spelt : (0 * 256 + get_or bs (a + 1 + 0) 0) * 256 + get_or bs (a + 1 + 1) 0 ≡ size_of i =
    eqb-true ((0 * 256 + get_or bs (a + 1 + 0) 0) * 256 + get_or bs (a + 1 + 1) 0) (size_of i) (both_r (eqb (get_or bs a 0) (tag_of i)) _ stands) in
    let size : (0 * 256 + get_or bs (a + 1) 0) * 256 + get_or bs (a + 2) 0 ≡ size_of i = rw (first, second) at spelt in
    record {
      tag = eqb-true _ _ (both_l _ _ stands);
      high = omega (arith, size, (sound i row).small, small (a + 1), small (a + 2));
      low = omega (arith, size, (sound i row).small, small (a + 1), small (a + 2));
    }

head_stands_lem : (bs : List ℕ) (a i : ℕ) → HeadIs bs a i → head_stands bs a i ≡ true
unfolding head_stands number_at
head_stands_lem bs a i h =
    let first : a + 1 + 0 ≡ a + 1 = omega arith in
    let second : a + 1 + 1 ≡ a + 2 = omega arith in
    let spelt : (0 * 256 + get_or bs (a + 1) 0) * 256 + get_or bs (a + 2) 0 ≡ size_of i = omega (arith, h.high, h.low) in
    let size : eqb (number_at bs (a + 1) 2) (size_of i) ≡ true = rw (first, second) (eq-eqb _ _ spelt) in
    both_in _ _ (eq-eqb _ _ h.tag) size

-- all heads of a kind
abbrev Heads : List ℕ → ℕ → Type 0
Heads bs k = (i : ℕ) → i < rows → is_carried k i ≡ true → HeadIs bs (0 + start_of k i) i

heads_to : (bs : List ℕ) (k n : ℕ) → stands_to bs 0 k n ≡ true → (i : ℕ) → i < n → is_carried k i ≡ true
    → head_stands bs (0 + start_of k i) i ≡ true
unfolding stands_to row_stands
heads_to bs k zero stands i lt has = absurd (omega arith)
heads_to bs k (suc n) stands i lt has =
    by_order i n (λ low. heads_to bs k n (both_l _ _ stands) i low has)
    (λ high.
    let at : n ≡ i = omega arith in
    let last : pick (is_carried k i) (head_stands bs (0 + start_of k i) i) true ≡ true = rw at at (both_r (stands_to bs 0 k n) _ stands) in
    rw has at last)

heads_of : (bs : List ℕ) → Bytes bs → (k : ℕ) → stands_to bs 0 k rows ≡ true → Heads bs k
heads_of bs small k stands i row has = head_is bs small (0 + start_of k i) i row (heads_to bs k rows stands i row has)

stand_heads : (bs : List ℕ) (k : ℕ) → Heads bs k → (n : ℕ) → n ≤ rows → stands_to bs 0 k n ≡ true
unfolding stands_to row_stands
stand_heads bs k h zero low = refl
stand_heads bs k h (suc n) low = both_in _ _ (stand_heads bs k h n (omega arith)) (go (is_carried k n) refl)
  where
    go : (b : Bool) → is_carried k n ≡ b → pick b (head_stands bs (0 + start_of k n) n) true ≡ true
    go true has = head_stands_lem bs (0 + start_of k n) n (h n (omega arith) has)
    go false none = refl

-- ---- a blank notice

all_small : List ℕ → Bool
all_small [] = true
all_small (b ∷ bs) = both (ltb b 256) (all_small bs)

small_list : (bs : List ℕ) → all_small bs ≡ true → Bytes bs
unfolding all_small
small_list [] e j = omega arith
small_list (b ∷ bs) e zero = ltb-true _ _ (both_l _ _ e)
small_list (b ∷ bs) e (suc j) = small_list bs (both_r (ltb b 256) _ e) j

record Blank (k : ℕ) : Type 0 where
  pub alone : is_alone (blank_bytes k) ≡ true
  pub kind : kind_at (blank_bytes k) 0 ≡ k
  pub small : all_small (blank_bytes k) ≡ true

blank : (k : ℕ) → is_known k ≡ true → Blank k
unfolding table span_of start_of bytes_to row_bytes field_bytes big_endian stands_to row_stands head_stands number_at all_small
blank k known =
    by_kind Blank (
      record { alone = refl; kind = refl; small = refl },
      (
        record { alone = refl; kind = refl; small = refl },
        (
          record { alone = refl; kind = refl; small = refl },
          (
            record { alone = refl; kind = refl; small = refl },
            (record { alone = refl; kind = refl; small = refl }, record { alone = refl; kind = refl; small = refl }),
          ),
        ),
      ),
    )
    k known

blank_heads : (k : ℕ) → is_known k ≡ true → Heads (blank_bytes k) k
blank_heads k known =
    let b = blank k known in
    let stands = both_r (leb (0 + length_of (kind_at (blank_bytes k) 0)) (length (blank_bytes k))) _
    (both_r (is_known (kind_at (blank_bytes k) 0)) _ (both_l (is_whole (blank_bytes k) 0) _ b.alone)) in
    heads_of (blank_bytes k) (small_list (blank_bytes k) b.small) k (rw b.kind at stands)

-- ---- bytes filled up

-- as long as its kind's notices, with that kind and its heads: one notice
made_alone : (bs : List ℕ) (k : ℕ) → is_known k ≡ true → kind_at bs 0 ≡ k → length bs ≡ length_of k → Heads bs k → is_alone bs ≡ true
made_alone bs k known kind long h =
    rw (kind, known, long, le-leb (0 + length_of k) (length_of k) (omega arith), stand_heads bs k h rows (omega arith), eq-eqb (length_of k) (length_of k) refl)

module _ (rest t : List ℕ) (low : length rest ≤ length t) where
  filled_front : (x : ℕ) → x < length rest → get_or (rest ++ drop (length rest) t) x 0 ≡ get_or rest x 0
  filled_front x lt = get_or-append rest (drop (length rest) t) 0 x lt

  filled_back : (x : ℕ) → length rest ≤ x → get_or (rest ++ drop (length rest) t) x 0 ≡ get_or t x 0
  filled_back x le =
      let at : length rest + (x - length rest) ≡ x = omega arith in
      let behind = get_or-append-add rest (drop (length rest) t) (x - length rest) 0 ∙ get_or-drop (length rest) t (x - length rest) 0 in
      rw at at behind

  -- a byte that both have
  both_have : (x v : ℕ) → (x < length rest → get_or rest x 0 ≡ v) → get_or t x 0 ≡ v → get_or (rest ++ drop (length rest) t) x 0 ≡ v
  both_have x v front back =
      by_order x (length rest) (λ lt. filled_front x lt ∙ front lt) (λ le. filled_back x le ∙ back)

  filled_size : length (rest ++ drop (length rest) t) ≡ length t
  filled_size = omega (arith, length-append rest (drop (length rest) t), length-drop (length rest) t, low)

-- ---- the theorems

pub torn_begins : (rest : List ℕ) → is_torn rest ≡ true → NoticeBegun rest
unfolding is_torn
torn_begins rest torn =
    let k = kind_begun rest in
    let less : length rest < length_of k = ltb-true _ _ (both_l _ _ torn) in
    record {
      more = drop (length rest) (blank_bytes k);
      some = rw (length-drop (length rest) (blank_bytes k), length_blank k) (omega arith);
      whole = both_r (ltb (length rest) (length_of k)) _ torn;
    }

module _ (rest more : List ℕ) (small : Bytes (rest ++ more)) (some : 0 < length more) (alone : is_alone (rest ++ more) ≡ true) where
  abbrev bs : List ℕ
  bs = rest ++ more

  abbrev k : ℕ
  k = kind_at bs 0

  known : is_known k ≡ true
  known = both_l _ _ (both_l (is_whole bs 0) _ alone)

  less : length rest < length_of k
  less =
      let size : length_of k ≡ length bs = eqb-true (length_of k) (length bs) (both_r (is_whole bs 0) _ alone) in
      omega (arith, size, length-append rest more, some)

  heads : Heads bs k
  heads =
      heads_of bs small k
      (both_r (leb (0 + length_of k) (length bs)) _ (both_r (is_known k) _ (both_l (is_whole bs 0) _ alone)))

  front : (x : ℕ) → x < length rest → get_or rest x 0 ≡ get_or bs x 0
  front x lt = sym (get_or-append rest more 0 x lt)

  -- filled up by a kind's blank notice they have its kind and its heads
  torn_with : (kind : ℕ) → kind_begun rest ≡ kind → is_known kind ≡ true → length rest < length_of kind
      → kind_at (rest ++ drop (length rest) (blank_bytes kind)) 0 ≡ kind → Heads (rest ++ drop (length rest) (blank_bytes kind)) kind
      → is_torn rest ≡ true
  unfolding is_torn
  torn_with kind is is_Known low kind_is h =
      let size : length (rest ++ drop (length rest) (blank_bytes kind)) ≡ length_of kind =
      filled_size rest (blank_bytes kind) (omega (arith, low, length_blank kind)) ∙ length_blank kind in
      rw is
      (both_in _ _ (lt-ltb (length rest) (length_of kind) low)
      (made_alone (rest ++ drop (length rest) (blank_bytes kind)) kind is_Known kind_is size h))

  -- with the kind's byte among them they are filled up by a notice of that kind
  with_kind_lem : 3 < length rest → is_torn rest ≡ true
  with_kind_lem long =
      let low : length rest ≤ length (blank_bytes k) = omega (arith, less, length_blank k) in
      let fill : (x v : ℕ) → get_or bs x 0 ≡ v → get_or (blank_bytes k) x 0 ≡ v → get_or (rest ++ drop (length rest) (blank_bytes k)) x 0 ≡ v =
      λ x v own blank-has. both_have rest (blank_bytes k) low x v (λ lt. front x lt ∙ own) blank-has in
      torn_with k (rw (lt-ltb 3 (length rest) long) (front 3 long)) known less (fill 3 k refl (blank k known).kind)
      (λ i row has.
      let own = heads i row has in
      let other = blank_heads k known i row has in
      record {
        tag = fill _ _ own.tag other.tag;
        high = fill _ _ own.high other.high;
        low = fill _ _ own.low other.low;
      })

  -- before it any kind's notice begins alike
  first_three : (x : ℕ) → x < 3 → get_or bs x 0 ≡ get_or (blank_bytes open_kind) x 0
  unfolding table start_of
  first_three x lt =
      let own = heads 0 (omega arith) known in
      let other = blank_heads open_kind refl 0 (omega arith) refl in
      each (λ (x : ℕ). get_or bs x 0 ≡ get_or (blank_bytes open_kind) x 0) 3
      (((tt, own.tag ∙ sym other.tag), own.high ∙ sym other.high), own.low ∙ sym other.low) x lt

  open_long : 3 < length_of open_kind
  unfolding table start_of span_of
  open_long = omega arith

  open_known : is_known open_kind ≡ true
  unfolding table
  open_known = refl

  without_kind : length rest ≤ 3 → is_torn rest ≡ true
  without_kind short =
      let low : length rest ≤ length (blank_bytes open_kind) = omega (arith, open_long, length_blank open_kind) in
      let fill : (x : ℕ) → get_or (rest ++ drop (length rest) (blank_bytes open_kind)) x 0 ≡ get_or (blank_bytes open_kind) x 0 =
      λ x. both_have rest (blank_bytes open_kind) low x _ (λ lt. front x lt ∙ first_three x (omega arith)) refl in
      torn_with open_kind (rw (le-ltb 3 (length rest) short)) open_known (omega (arith, open_long)) (fill 3 ∙ (blank open_kind open_known).kind)
      (λ i row has.
      let other = blank_heads open_kind open_known i row has in
      record { tag = fill _ ∙ other.tag; high = fill _ ∙ other.high; low = fill _ ∙ other.low })

  pub begins_torn : is_torn rest ≡ true
  begins_torn = by_order 3 (length rest) with_kind_lem without_kind
