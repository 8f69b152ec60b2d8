-- Laws of the call's answer: which refusal each test gives, and what holds where none does.
-- Rest on the laws of tests and of the refusals' order.
use mathlib.Core.Path.{◌≡◌, refl}
use mathlib.Core.Bool.{Bool, true, false}
use Prim.Native.Nat.{ℕ, ◌^◌, ◌≤◌, ◌<◌}
use native.Mathlib.Nat.{le_trans}
use lib.Dec.{leb}
use borrow.Author.Tests.{leb-true, ltb-false, lt-ltb, le-ltb, not-false}
use Rattle.rules.specs.Limits.{both, within, floor_min, floor_max, count_min, count_max, asked_max}
use Rattle.rules.specs.Refusals.{first_hit, done, outside_limits, floor_above_cap, below_floor, above_cap}
use Rattle.rules.specs.Refusals.{not_at_slot, wrong_rows}
use Rattle.rules.proofs.Tests.{both_l, both_r}
use Rattle.rules.proofs.Refusals.{hits_of, numbered, cleared}
use Rattle.grid.specs.Bounds.{Counted}
use Rattle.scheme.specs.Scheme.{padded, starts}
use Rattle.plans.specs.Padded.{plan_limits, plan_rules, plan_answer}

module _ (A K k a n : ℕ) where
  pub refused_limits : plan_limits A K k a ≡ false → plan_answer A K k a n ≡ outside_limits
  unfolding plan_answer first_hit
  refused_limits h = rw h refl

  module _ (h : plan_limits A K k a ≡ true) where
    pub refused_cap : K < A → plan_answer A K k a n ≡ floor_above_cap
    unfolding plan_answer first_hit
    refused_cap l = rw (h, lt-ltb K A l) refl

    module _ (fit : A ≤ K) where
      pub refused_below : k < A → plan_answer A K k a n ≡ below_floor
      unfolding plan_answer first_hit
      refused_below l = rw (h, le-ltb K A fit, lt-ltb k A l) refl

      module _ (low : A ≤ k) where
        pub refused_above : K < k → plan_answer A K k a n ≡ above_cap
        unfolding plan_answer first_hit
        refused_above l = rw (h, le-ltb K A fit, le-ltb k A low, lt-ltb K k l) refl

    -- past the tests of the count, which is the title's
    module _ (c : Counted A K k) where
      fit : A ≤ K
      fit = le_trans c.floor c.fit

      pub refused_slot : starts (padded A K) k a ≡ false → plan_answer A K k a n ≡ not_at_slot
      unfolding plan_answer first_hit
      refused_slot s = rw (h, le-ltb K A fit, le-ltb k A c.floor, le-ltb K k c.fit, s) refl

      module _ (s : starts (padded A K) k a ≡ true) where
        pub refused_rows : n < 2 ^ K → plan_answer A K k a n ≡ wrong_rows
        unfolding plan_answer first_hit
        refused_rows r =
            rw (h, le-ltb K A fit, le-ltb k A c.floor, le-ltb K k c.fit, s, lt-ltb n (2 ^ K) r) refl

        pub accepted : 2 ^ K ≤ n → plan_answer A K k a n ≡ done
        unfolding plan_answer first_hit
        accepted r =
            rw (h, le-ltb K A fit, le-ltb k A c.floor, le-ltb K k c.fit, s, le-ltb n (2 ^ K) r) refl

  -- what the tests say, where they pass
  pub cap_high : plan_limits A K k a ≡ true → K ≤ count_max
  cap_high h =
      let rest : Bool = both (within count_min count_max k) (leb a asked_max) in
      let caps : within count_min count_max K ≡ true =
      both_l (within count_min count_max K) rest (both_r (within floor_min floor_max A) (both (within count_min count_max K) rest) h) in
      leb-true K count_max (both_r (leb count_min K) (leb K count_max) caps)

  pub arrival_high : plan_limits A K k a ≡ true → a ≤ asked_max
  arrival_high h =
      let rest : Bool = both (within count_min count_max k) (leb a asked_max) in
      let last : rest ≡ true =
      both_r (within count_min count_max K) rest (both_r (within floor_min floor_max A) (both (within count_min count_max K) rest) h) in
      leb-true a asked_max (both_r (within count_min count_max k) (leb a asked_max) last)

  pub counted : plan_limits A K k a ≡ true → A ≤ k → k ≤ K → Counted A K k
  counted h low high = record { floor = low; fit = high; high = cap_high h }

-- a call that is not refused
pub record Accepted (A K k a n : ℕ) : Type 0 where
  pub count : Counted A K k
  pub start : starts (padded A K) k a ≡ true
  pub arrival : a ≤ asked_max
  pub room : 2 ^ K ≤ n

-- done is answered to no other: it clears every rule
pub accepted_only : (A K k a n : ℕ) → plan_answer A K k a n ≡ done → Accepted A K k a n
unfolding plan_answer hits_of numbered
accepted_only A K k a n e =
    let clear = cleared (plan_rules A K k a n) refl e in
    let h : plan_limits A K k a ≡ true = not-false (plan_limits A K k a) (clear outside_limits) in
    record {
      count = counted A K k a n h (ltb-false k A (clear below_floor)) (ltb-false K k (clear above_cap));
      start = not-false (starts (padded A K) k a) (clear not_at_slot);
      arrival = arrival_high A K k a n h;
      room = ltb-false n (2 ^ K) (clear wrong_rows);
    }
