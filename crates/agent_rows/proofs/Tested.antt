-- The limits of a row's numbers, as they are tested: those of its titles in two parts, and the limit of times where no number is above it.
-- Rests on the laws of tests, searches and lists.
use mathlib.Core.Path.{◌≡◌, refl, sym, ap, ap₂, ◌∙◌}
use mathlib.Core.Bool.{Bool, true, false, false≢true}
use mathlib.Core.Logic.{⊎_elim}
use mathlib.Core.List.{List}
use Prim.Native.Nat.{ℕ, zero, suc, ◌+◌, ◌≤◌, ◌<◌}
use native.Mathlib.Omega.{arith}
use lib.Bits.{bit_or, or_add_and, and_le_l, and_le_r}
use lib.Dec.{leb, eqb}
use lib.ListN.{get_or, take, drop}
use lib.Seq.{get_or-take, get_or-drop}
use borrow.Author.Tests.{le-leb}
use Rattle.rules.specs.Limits.{both, either, pool_min, pool_max, floor_max, steady_max, count_max, length_max, asked_max, titles_max}
use Rattle.rules.specs.Limits.{count_places, lane_places}
use Rattle.rules.specs.Refusals.{pick}
use Rattle.rules.specs.Search.{every}
use Rattle.rules.proofs.Tests.{both_none, decide}
use Rattle.rules.proofs.Search.{every_in, every_out}
use Rattle.scheme.specs.Scheme.{steady_kind}
use Rattle.story.specs.declared.Title.{Title}
use Rattle.story.specs.Kept.{absent_mode, closing_mode, held_mark, is_steady_title, row_ok, numbers_ok, order_ok, title_ok, slot_ok, state_ok}
use Rattle.agent_rows.specs.Layout.{pool_at, last_at, ends_at, drops_at, owed_at, opened_at, title_last_at, tuned_at, title_places}
use Rattle.agent_rows.specs.Layout.{title_place}
use Rattle.agent_rows.specs.Packed.{title_from, unpacked}
use Rattle.agent_rows.specs.inner.Tested.{small_numbers, small_ok, times_ok}
use Rattle.agent_rows.proofs.Inverse.{title_at_lem}

-- ---- laws of `every`

pub every_ext : (p q : ℕ → Bool) (n : ℕ) → ((i : ℕ) → i < n → p i ≡ q i) → every p n ≡ every q n
unfolding every
every_ext p q zero same = refl
every_ext p q (suc n) same = ap₂ both (same n (omega arith)) (every_ext p q n (λ i l. same i (omega arith)))

crossed : (a b c d : Bool) → both (both a b) (both c d) ≡ both (both a c) (both b d)
crossed true true c d = refl
crossed true false c d = sym (both_none c)
crossed false b c d = refl

every_both : (p q : ℕ → Bool) (n : ℕ) → every (λ i. both (p i) (q i)) n ≡ both (every p n) (every q n)
unfolding every
every_both p q zero = refl
every_both p q (suc n) = ap (both (both (p n) (q n))) (every_both p q n) ∙ crossed (p n) (q n) (every p n) (every q n)

pub every_fails : (p : ℕ → Bool) (n i : ℕ) → i < n → p i ≡ false → every p n ≡ false
every_fails p n i l h = ⊎_elim (λ t. absurd (false≢true (sym h ∙ every_out p n i t l))) (λ f. f) (decide (every p n))

-- ---- a title's limits in two parts

last_none : (a b c : Bool) → both a (both b (both c false)) ≡ false
last_none true true c = both_none c
last_none true false c = refl
last_none false b c = refl

-- the tests of a title in the order in which they stand in the definition, and in the order in which they are made
reordered : (m k o d f c n h l u e r q there order pool : Bool) →
    both (both (both m (both k (both o (both d (both f (both c (both n (both h (both l (both u (both e (both r q)))))))))))) (either there order))
    (either pool there)
    ≡ both (both (both m (both k (both d (both c (both n (both h f)))))) (either there (both pool order)))
    (both o (both l (both u (both e (both r q)))))
reordered false k o d f c n h l u e r q t x p = refl
reordered true false o d f c n h l u e r q t x p = refl
reordered true true false d f c n h l u e r q t x p =
    sym (both_none (both (both d (both c (both n (both h f)))) (either t (both p x))))
reordered true true true false f c n h l u e r q t x p = refl
reordered true true true true false c n h l u e r q t x p =
    ap (λ b. both (both b (either t (both p x))) (both l (both u (both e (both r q))))) (sym (last_none c n h))
reordered true true true true true false n h l u e r q t x p = refl
reordered true true true true true true false h l u e r q t x p = refl
reordered true true true true true true true false l u e r q t x p = refl
reordered true true true true true true true true false u e r q t x p = sym (both_none (either t (both p x)))
reordered true true true true true true true true true false e r q t x p = sym (both_none (either t (both p x)))
reordered true true true true true true true true true true false r q t x p = sym (both_none (either t (both p x)))
reordered true true true true true true true true true true true false q t x p = sym (both_none (either t (both p x)))
reordered true true true true true true true true true true true true false t x p = sym (both_none (either t (both p x)))
reordered true true true true true true true true true true true true true true x true = refl
reordered true true true true true true true true true true true true true true x false = refl
reordered true true true true true true true true true true true true true false x true = refl
reordered true true true true true true true true true true true true true false x false = both_none x

slot_in_two : (pool : ℕ) (t : Title) →
    both (title_ok t) (either (leb pool_min pool) (eqb t.mode absent_mode)) ≡ both (small_ok pool t) (times_ok t)
unfolding title_ok numbers_ok small_ok small_numbers times_ok
slot_in_two pool t =
    reordered (leb t.mode closing_mode) (leb t.film.kind steady_kind) (leb t.opened asked_max) (leb t.film.length length_max)
    (leb t.film.floor (pick (is_steady_title t) steady_max floor_max)) (leb t.film.cap count_max) (leb t.count count_max)
    (leb t.mark held_mark) (leb t.last asked_max) (leb t.tuned asked_max) (row_ok t.ends count_places) (row_ok t.dropped lane_places)
    (row_ok t.owed lane_places) (eqb t.mode absent_mode) (order_ok t) (leb pool_min pool)

-- ---- the state of a row

-- the tests of every title of a row
abbrev pub smalls : List ℕ → Bool
smalls r = every (λ i. small_ok (get_or r pool_at 0) (title_from r (title_place i))) titles_max

abbrev pub times : List ℕ → Bool
times r = every (λ i. times_ok (title_from r (title_place i))) titles_max

pub state_in_parts : (r : List ℕ) →
    state_ok (unpacked r).state ≡ both (leb (get_or r pool_at 0) pool_max) (both (leb (get_or r last_at 0) asked_max) (both (smalls r) (times r)))
unfolding state_ok
state_in_parts r =
    ap (λ b. both (leb (get_or r pool_at 0) pool_max) (both (leb (get_or r last_at 0) asked_max) b))
    (every_ext (slot_ok (unpacked r).state) (λ i. both (small_ok (get_or r pool_at 0) (title_from r (title_place i))) (times_ok (title_from r (title_place i)))) titles_max each
    ∙ every_both (λ i. small_ok (get_or r pool_at 0) (title_from r (title_place i))) (λ i. times_ok (title_from r (title_place i))) titles_max)
  where
    each : (i : ℕ) → i < titles_max →
        slot_ok (unpacked r).state i ≡ both (small_ok (get_or r pool_at 0) (title_from r (title_place i))) (times_ok (title_from r (title_place i)))
    each i l = rw (title_at_lem r i l) (slot_in_two (get_or r pool_at 0) (title_from r (title_place i)))

-- the head of a row that is within its limits, and of one that is not
pub head_in : (sound pool last s t : Bool) → both sound (both pool last) ≡ true → both s t ≡ both sound (both pool (both last (both s t)))
head_in true true true s t h = refl
head_in true true false s t h = absurd (mathlib.Core.Bool.false≢true h)
head_in true false last s t h = absurd (mathlib.Core.Bool.false≢true h)
head_in false pool last s t h = absurd (mathlib.Core.Bool.false≢true h)

pub head_out : (sound pool last b : Bool) → both sound (both pool last) ≡ false → false ≡ both sound (both pool (both last b))
head_out true true true b h = absurd (mathlib.Core.Bool.false≢true (sym h))
head_out true true false b h = refl
head_out true false last b h = refl
head_out false pool last b h = refl

-- ---- the limit of times

part_within : (r : List ℕ) (from n : ℕ) → every (λ j. leb (get_or (drop from r) j 0) asked_max) n ≡ row_ok (take n (drop from r)) n
part_within r from n =
    every_ext (λ j. leb (get_or (drop from r) j 0) asked_max) (λ j. leb (get_or (take n (drop from r)) j 0) asked_max) n
    (λ j l. ap (λ (x : ℕ). leb x asked_max) (sym (get_or-take n (drop from r) j 0 l)))

-- where no number of the title at a place is above the limit, none of its times is
module _ (r : List ℕ) (at : ℕ) (low : (j : ℕ) → j < title_places → get_or r (at + j) 0 ≤ asked_max) where
  low_part : (from n : ℕ) → from + n ≤ title_places → row_ok (take n (drop (at + from) r)) n ≡ true
  low_part from n l =
      sym (part_within r (at + from) n)
      ∙ every_in (λ j. leb (get_or (drop (at + from) r) j 0) asked_max) n
      (λ j b.
      le-leb (get_or (drop (at + from) r) j 0) asked_max
      (rw (get_or-drop (at + from) r j 0, native.Mathlib.Nat.add_assoc at from j) (low (from + j) (omega arith))))

  pub low_times : times_ok (title_from r at) ≡ true
  unfolding times_ok
  low_times =
      rw (
        le-leb (get_or r (at + opened_at) 0) asked_max (low opened_at (omega arith)),
        le-leb (get_or r (at + title_last_at) 0) asked_max (low title_last_at (omega arith)),
        le-leb (get_or r (at + tuned_at) 0) asked_max (low tuned_at (omega arith)),
        low_part ends_at count_places (omega arith),
        low_part drops_at lane_places (omega arith),
        low_part owed_at lane_places (omega arith),
      )
      refl

-- the same of every title of a row
pub all_low : (r : List ℕ) → ((i : ℕ) → i < titles_max → (j : ℕ) → j < title_places → get_or r (title_place i + j) 0 ≤ asked_max) → times r ≡ true
all_low r low = every_in (λ i. times_ok (title_from r (title_place i))) titles_max (λ i b. low_times r (title_place i) (low i b))

-- neither of two numbers is above them or-ed
pub or_above : (a b : ℕ) → (a ≤ bit_or a b) × (b ≤ bit_or a b)
or_above a b =
    (omega (arith, or_add_and a b, and_le_r a b), omega (arith, or_add_and a b, and_le_l a b))
