-- Laws of the call's answer: which refusal each test gives, and what holds where none does.
-- Rest on the laws of tests and of the refusals' order.
use mathlib.Core.Path.{◌≡◌, refl}
use mathlib.Core.Bool.{true, false}
use Prim.Native.Nat.{ℕ, ◌-◌, ◌^◌, ◌≤◌, ◌<◌}
use lib.Dec.{leb}
use borrow.Author.Tests.{leb-true, ltb-false, lt-ltb, le-ltb, not-false}
use Rattle.rules.specs.Limits.{within, count_min, steady_max, asked_max}
use Rattle.rules.specs.Refusals.{first_hit, done, outside_limits, wrong_rows}
use Rattle.rules.proofs.Tests.{both_l, both_r}
use Rattle.rules.proofs.Refusals.{hits_of, numbered, cleared}
use Rattle.plans.specs.Forward.{skip_plan_limits, skip_rules, skip_answer}

module _ (k a n : ℕ) where
  pub refused_limits : skip_plan_limits k a ≡ false → skip_answer k a n ≡ outside_limits
  unfolding skip_answer first_hit
  refused_limits h = rw h refl

  module _ (h : skip_plan_limits k a ≡ true) where
    pub refused_rows : n < 2 ^ (k - 1) → skip_answer k a n ≡ wrong_rows
    unfolding skip_answer first_hit
    refused_rows r = rw (h, lt-ltb n (2 ^ (k - 1)) r) refl

    pub accepted : 2 ^ (k - 1) ≤ n → skip_answer k a n ≡ done
    unfolding skip_answer first_hit
    accepted r = rw (h, le-ltb n (2 ^ (k - 1)) r) refl

-- what the tests say, where they pass
pub record Limits (k a : ℕ) : Type 0 where
  pub low : count_min ≤ k
  pub high : k ≤ steady_max
  pub arrival : a ≤ asked_max

pub limits : (k a : ℕ) → skip_plan_limits k a ≡ true → Limits k a
limits k a h =
    let count : within count_min steady_max k ≡ true = both_l (within count_min steady_max k) (leb a asked_max) h in
    record {
      low = leb-true count_min k (both_l (leb count_min k) (leb k steady_max) count);
      high = leb-true k steady_max (both_r (leb count_min k) (leb k steady_max) count);
      arrival = leb-true a asked_max (both_r (within count_min steady_max k) (leb a asked_max) h);
    }

-- a call that is not refused
pub record Accepted (k a n : ℕ) : Type 0 where
  pub within : Limits k a
  pub room : 2 ^ (k - 1) ≤ n

-- done is answered to no other: it clears every rule
pub accepted_only : (k a n : ℕ) → skip_answer k a n ≡ done → Accepted k a n
unfolding skip_answer hits_of numbered
accepted_only k a n e =
    let clear = cleared (skip_rules k a n) refl e in
    record {
      within = limits k a (not-false (skip_plan_limits k a) (clear outside_limits));
      room = ltb-false n (2 ^ (k - 1)) (clear wrong_rows);
    }
