-- What a start does at a notice and at its end, from the tests that decide it.
-- Rests on the definitions alone; the functions of `steps` go by these.
use Prim.Native.Nat.{ℕ, ◌-◌, ◌≤◌, ◌<◌}
use mathlib.Core.Path.{◌≡◌, ap, ◌∙◌}
use mathlib.Core.Bool.{Bool, true, false}
use mathlib.Core.List.{List}
use lib.Dec.{eqb}
use lib.ListN.{length, take, drop, length-drop}
use lib.Seq.{take_all, length-take-le}
use native.Mathlib.Omega.{arith}
use borrow.Author.Tests.{lt-ltb, le-ltb, eq-eqb, ne_eqb}
use Rattle.rules.specs.Limits.{both}
use Rattle.rules.specs.Refusals.{pick}
use Rattle.sums.specs.Crc.{sum_of}
use Rattle.notice.specs.declared.Reading.{Reading}
use Rattle.notice.specs.declared.Notice.{Notice}
use Rattle.notice.specs.declared.Found.TheVariants as found
use Rattle.notice.specs.Decode.{read_at, read_of}
use Rattle.notice.proofs.Alike.{by_itself}
use Rattle.journals.specs.declared.Start.{Start}
use Rattle.journals.specs.declared.Verdict.TheVariants.{Heard, Torn, NoNotice, SumDiffers, Refused, SumsShort}
use Rattle.journals.specs.Torn.{is_torn, had_kind}
use Rattle.journals.specs.Start.{block_events, ended_with, heard_one, passed_one, has_sum, after_summed, after_unsummed, at_stop}
use Rattle.journals.specs.Start.{Hearer, stage, part_of, notice_done, done_at, step_at}

-- ---- a notice without a sum

pub block_holds : (s : Start) (n : ℕ) → s.behind < block_events → passed_one s n ≡ after_unsummed s n
unfolding after_unsummed
block_holds s n h = rw (lt-ltb s.behind block_events h)

pub block_full : (s : Start) (n : ℕ) (r : Start) → block_events ≤ s.behind → r ≡ ended_with s SumsShort → r ≡ after_unsummed s n
unfolding after_unsummed
block_full s n r h is = rw (le-ltb s.behind block_events h) is

-- ---- a notice with a sum

-- what is left of a start and of who hears, where the notice has the bytes' sum `total` beside `sum`
abbrev pub Sums : (s r : Start) (n total sum a : ℕ) (row next after : List ℕ) → Type 0
Sums s r n total sum a row next after = (r ≡ after_summed s n (eqb total sum) a) × (after ≡ pick (eqb total sum) next row)

module _ (s r : Start) (n total sum a : ℕ) (row next after : List ℕ) where
  pub played : total ≡ sum → a ≡ 0 → r ≡ heard_one s n → after ≡ next → Sums s r n total sum a row next after
  unfolding after_summed
  played same none is left = rw (eq-eqb total sum same, eq-eqb a 0 none) (is, left)

  pub refused : total ≡ sum → (a ≡ 0 → ⊥) → r ≡ ended_with s (Refused a) → after ≡ next → Sums s r n total sum a row next after
  unfolding after_summed
  refused same some is left = rw (eq-eqb total sum same, ne_eqb a 0 some) (is, left)

  pub differs : (total ≡ sum → ⊥) → r ≡ ended_with s SumDiffers → after ≡ row → Sums s r n total sum a row next after
  unfolding after_summed
  differs other is left = rw (ne_eqb total sum other) (is, left)

-- ---- a notice

pub part_size : (bs : List ℕ) (p e : ℕ) → e ≤ length bs → length (part_of bs p e) ≡ e - p
part_size bs p e low = length-take-le (e - p) (drop p bs) (rw (length-drop p bs) (omega arith))

module _ {A : Type 0} (h : Hearer A) (s r : Start) (n : ℕ) (same : Bool) (g after : A) (q : Reading) where
  pub with_sum : s.heard < s.sums → r ≡ after_summed s n same (h.answer g q) → after ≡ pick same (h.after g q) g
      → stage r after ≡ notice_done h n same (stage s g) q
  unfolding notice_done
  with_sum has is left = rw (lt-ltb s.heard s.sums has, is, left)

  pub without_sum : s.sums ≤ s.heard → r ≡ after_unsummed s n → after ≡ g → stage r after ≡ notice_done h n same (stage s g) q
  unfolding notice_done
  without_sum none is left = rw (le-ltb s.heard s.sums none, is, left)

-- ---- the end

module _ (s r : Start) (rest : List ℕ) (sum : ℕ) where
  pub kind_was : is_torn rest ≡ true → both (has_sum s) (had_kind rest sum) ≡ true → r ≡ ended_with s SumDiffers
      → r ≡ ended_with s (at_stop s rest sum)
  unfolding at_stop
  kind_was torn had is = rw (torn, had) is

  pub is_torn_lem : is_torn rest ≡ true → both (has_sum s) (had_kind rest sum) ≡ false → r ≡ ended_with s Torn
      → r ≡ ended_with s (at_stop s rest sum)
  unfolding at_stop
  is_torn_lem torn had is = rw (torn, had) is

  pub no_notice : is_torn rest ≡ false → r ≡ ended_with s NoNotice → r ≡ ended_with s (at_stop s rest sum)
  unfolding at_stop
  no_notice whole is = rw whole is

-- ---- what is found at a place

module _ {A : Type 0} (h : Hearer A) (bs : List ℕ) (sum p : ℕ) (s r : Start) (g after : A) where
  pub found_notice : (n : Notice) (e : ℕ) → read_at bs p ≡ found.At n e
      → stage r after ≡ notice_done h (e - p) (eqb (sum_of (part_of bs p e)) sum) (stage s g) (read_of (part_of bs p e))
      → stage r after ≡ step_at h bs sum (stage s g) p
  unfolding done_at
  found_notice n e is left =
      rw is (left ∙ ap (notice_done h (e - p) (eqb (sum_of (part_of bs p e)) sum) (stage s g)) (by_itself bs p n e is))

  pub found_end : read_at bs p ≡ found.End → r ≡ ended_with s Heard → after ≡ g → stage r after ≡ step_at h bs sum (stage s g) p
  unfolding done_at
  found_end is left same = rw (is, left, same)

  -- the part up to the window's end is all of it from the place on
  pub found_none : read_at bs p ≡ found.Malformed → p ≤ length bs
      → r ≡ ended_with s (at_stop s (take (length bs - p) (drop p bs)) sum) → after ≡ g → stage r after ≡ step_at h bs sum (stage s g) p
  unfolding done_at
  found_none is low left same =
      rw (is, left, same, take_all (length bs - p) (drop p bs) (rw (length-drop p bs) (omega arith)))
