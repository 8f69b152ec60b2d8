-- Sums made anew, turn by turn: each turn lays the sum of one notice more behind those before it, or finds that none is there.
-- Rests on runs of stores, and on a notice lying before its end.
use mathlib.Core.Path.{◌≡◌, refl, sym, ap, ◌∙◌}
use mathlib.Core.Bool.{Bool, true, false}
use mathlib.Core.Logic.{◌⊎◌, inl, inr, ⊎_elim}
use mathlib.Core.List.{List}
use Rattle.std.proofs.Common.{Option, Some, None}
use Prim.Native.Nat.{ℕ, zero, suc, ◌+◌, ◌*◌, ◌-◌, ◌≤◌, ◌<◌}
use native.Mathlib.Omega.{arith}
use lib.ListN.{length, length-append}
use lib.Seq.{sets, length-sets}
use Rattle.sums.specs.Crc.{sum_of}
use Rattle.notice_fields.specs.Numbers.{big_endian}
use Rattle.notice_fields.proofs.Digits.{length_big}
use Rattle.notice_bytes.proofs.Laid.{sets_append}
use Rattle.notice.specs.declared.Notice.{Notice}
use Rattle.notice.specs.declared.Found.{Found}
use Rattle.notice.specs.declared.Found.TheVariants as found
use Rattle.notice.specs.Decode.{read_at, place_after}
use Rattle.notice.specs.Log.{place_to, is_notice}
use Rattle.notice.proofs.CaseSplits.{by_order}
use Rattle.notice.proofs.NoticePlaces.{inside}
use Rattle.journals.specs.Start.{sum_bytes, part_of, is_far}
use Rattle.journals.specs.Outcome.{notice_bytes}
use Rattle.journals.specs.Summing.{sums_to, SumsLaid}
use Rattle.journals.specs.inner.Turns.{end_found, laid_next}

-- ---- one turn

-- what a turn promises
abbrev pub Turns : List ℕ → List ℕ → ℕ → ℕ → Option ℕ → List ℕ → Type 0
Turns bs room place at r after =
    (r ≡ end_found (read_at bs place)) × (after ≡ laid_next bs place at room (read_at bs place))

module _ (bs room : List ℕ) (place at : ℕ) (after : List ℕ) where
  pub sum_laid : (n : Notice) (e : ℕ) → read_at bs place ≡ found.At n e
      → after ≡ sets room at (big_endian sum_bytes (sum_of (part_of bs place e))) → Turns bs room place at (Some e) after
  unfolding end_found laid_next
  sum_laid n e is laid = rw is (refl, laid)

  pub no_sum : (f : Found) → read_at bs place ≡ f → ((n : Notice) (e : ℕ) → f ≡ found.At n e → ⊥) → after ≡ room
      → Turns bs room place at None after
  unfolding end_found laid_next
  no_sum (found.At n e) is none same = absurd (none n e refl)
  no_sum found.End is none same = rw is (refl, same)
  no_sum found.Malformed is none same = rw is (refl, same)

-- ---- many

pub length_sums : (bs : List ℕ) (n : ℕ) → length (sums_to bs n) ≡ n * 4
unfolding sums_to
length_sums bs zero = refl
length_sums bs (suc n) =
    omega (arith, length-append (sums_to bs n) (big_endian 4 (sum_of (notice_bytes bs n))), length_sums bs n, length_big 4 (sum_of (notice_bytes bs n)))

pub record Making (bs : List ℕ) (over : Bool) (room : List ℕ) (place at : ℕ) (out : List ℕ) : Type 0 where
  pub count : ℕ
  pub place_is : place ≡ place_to bs count
  pub at_is : at ≡ count * 4
  pub fits : at ≤ length room
  pub whole : (i : ℕ) → i < count → is_notice (read_at bs (place_to bs i)) ≡ true
  pub far : (i : ℕ) → i < count → is_far (length bs) (place_to bs i) over ≡ true
  pub laid : out ≡ sets room 0 (sums_to bs count)

module _ (bs : List ℕ) (over : Bool) (room : List ℕ) where
  pub not_begun : Making bs over room 0 0 room
  unfolding place_to sums_to
  not_begun =
      record {
        count = 0;
        place_is = refl;
        at_is = refl;
        fits = omega arith;
        whole = λ i lt. absurd (omega arith);
        far = λ i lt. absurd (omega arith);
        laid = refl;
      }

  module _ (place at : ℕ) (out : List ℕ) (w : Making bs over room place at out) where
    pub same_size : length out ≡ length room
    same_size = ap length w.laid ∙ length-sets room 0 (sums_to bs w.count)

    last_or_before : (P : ℕ → Type 0) → ((i : ℕ) → i < w.count → P i) → P w.count → (i : ℕ) → i < suc w.count → P i
    last_or_before P before last i lt =
        by_order i w.count (λ low. before i low) (λ high. let at : i ≡ w.count = omega (arith, lt, high) in rw at last)

    pub one_more : (e : ℕ) (after : List ℕ) → is_far (length bs) place over ≡ true → at + 4 ≤ length out
        → Turns bs out place at (Some e) after → Making bs over room e (at + 4) after
    unfolding end_found laid_next place_to sums_to
    one_more e after ready enough turn = go (read_at bs place) refl turn.0 turn.1
      where
        go : (f : Found) → read_at bs place ≡ f → Some e ≡ end_found f → after ≡ laid_next bs place at out f
            → Making bs over room e (at + 4) after
        go (found.At n d) is same made =
            let ends : e ≡ d = cc in
            let here : read_at bs (place_to bs w.count) ≡ found.At n d = ap (read_at bs) (sym w.place_is) ∙ is in
            let to : place_to bs (suc w.count) ≡ d = ap (λ f. place_after f (place_to bs w.count)) here in
            let bytes : notice_bytes bs w.count ≡ part_of bs place d = rw (to, ← w.place_is) in
            let far_on : is_far (length bs) (place_to bs w.count) over ≡ true = rw w.place_is at ready in
            let laid_to : 0 + length (sums_to bs w.count) ≡ at = omega (arith, length_sums bs w.count, w.at_is) in
            record {
              count = suc w.count;
              place_is = ends ∙ sym to;
              at_is = omega (arith, w.at_is);
              fits = omega (arith, enough, same_size);
              whole = last_or_before (λ i. is_notice (read_at bs (place_to bs i)) ≡ true) w.whole (ap is_notice here);
              far = last_or_before (λ i. is_far (length bs) (place_to bs i) over ≡ true) w.far far_on;
              laid = made ∙ rw (bytes, w.laid, sets_append (sums_to bs w.count) room (big_endian 4 (sum_of (part_of bs place d))) 0, laid_to);
            }
        go found.End is same made = cc
        go found.Malformed is same made = cc

    pub falls : (e : ℕ) → Some e ≡ end_found (read_at bs place) → length bs - e < length bs - place
    unfolding end_found
    falls e turn = go (read_at bs place) refl turn
      where
        go : (f : Found) → read_at bs place ≡ f → Some e ≡ end_found f → length bs - e < length bs - place
        go (found.At n d) is same = let ends : e ≡ d = cc in let i = inside bs place n d is in omega (arith, ends, i.ahead, i.within)
        go found.End is same = cc
        go found.Malformed is same = cc

    -- the ways in which it ends: no notice there, one too near the end, no room
    pub made : (is_notice (read_at bs place) ≡ false) ⊎ ((is_far (length bs) place over ≡ false) ⊎ (length out < at + 4))
        → SumsLaid bs over room at out
    made way =
        record {
          count = w.count;
          size = w.at_is;
          fits = w.fits;
          whole = w.whole;
          far = w.far;
          laid = w.laid;
          stops =
              ⊎_elim (λ a. inl (rw w.place_is at a))
              (λ b. inr (⊎_elim (λ d. inl (rw w.place_is at d)) (λ d. inr (omega (arith, d, same_size))) b))
              way;
        }

    pub none_made : (after : List ℕ) → Turns bs out place at None after → SumsLaid bs over room at after
    unfolding end_found laid_next
    none_made after turn = go (read_at bs place) refl turn.0 turn.1
      where
        go : (f : Found) → read_at bs place ≡ f → None ≡ end_found f → after ≡ laid_next bs place at out f → SumsLaid bs over room at after
        go (found.At n d) is same kept = cc
        go found.End is same kept = rw kept (made (inl (ap is_notice is)))
        go found.Malformed is same kept = rw kept (made (inl (ap is_notice is)))
