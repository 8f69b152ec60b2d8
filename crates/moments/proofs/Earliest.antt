-- What the earliest time that passes a test is, and that what is so is it. Rests on the laws of searches.
use mathlib.Core.Path.{◌≡◌, sym, ap, ◌∙◌}
use mathlib.Core.Bool.{Bool, true, false, not, false≢true}
use mathlib.Core.Logic.{⊎_elim}
use Prim.Native.Nat.{ℕ, suc, ◌+◌, ◌-◌, ◌≤◌, ◌<◌, min}
use native.Mathlib.Omega.{arith}
use native.Mathlib.Nat.{le_antisymm}
use lib.Dec.{ltb}
use borrow.Author.Tests.{ltb-true, ltb-false, lt-ltb, le-ltb, not-true}
use Rattle.rules.specs.Limits.{event_time_max}
use Rattle.rules.specs.Search.{first, every}
use Rattle.rules.proofs.Tests.{decide}
use Rattle.rules.proofs.Search
use Rattle.moments.specs.Moments.{earliest}
use Rattle.moments.specs.Searched.{Found, Lessens}

-- r is the first time from τ on that passes a test, among those up to the clock's last, or is the one after them
pub record Hits (p : ℕ → Bool) (τ r : ℕ) : Type 0 where
  pub after : τ ≤ r
  pub high : r ≤ suc event_time_max
  pub hit : r ≤ event_time_max → p r ≡ true
  pub none : (υ : ℕ) → τ ≤ υ → υ < r → υ ≤ event_time_max → p υ ≡ false

pub earliest_hits : (p : ℕ → Bool) (τ : ℕ) → τ ≤ suc event_time_max → Hits p τ (earliest p τ)
unfolding earliest
earliest_hits p τ within =
    let q : ℕ → Bool = λ o. p (τ + o) in
    let n : ℕ = suc event_time_max - τ in
    let le : first q n ≤ n = Search.first_le q n in
    record {
      after = omega arith;
      high = omega arith;
      hit = λ early. Search.first_hit_lem q n (omega arith);
      none = λ υ from until early.
          let e : τ + (υ - τ) ≡ υ = omega arith in
          rw e at (Search.first_before q n (υ - τ) (omega arith));
    }

-- of two such times neither comes before the other
no_later : (p : ℕ → Bool) (τ a b : ℕ) → Hits p τ a → Hits p τ b → a ≤ b
no_later p τ a b x y =
    ⊎_elim
    (λ t.
    let l : b < a = ltb-true b a t in
    let early : b ≤ event_time_max = omega (arith, x.high) in
    absurd (false≢true (sym (x.none b y.after l early) ∙ y.hit early)))
    (λ t. ltb-false b a t)
    (decide (ltb b a))

pub found : (p : ℕ → Bool) (τ r : ℕ) → Hits p τ r → r ≡ earliest p τ
found p τ r h =
    let e : Hits p τ (earliest p τ) = earliest_hits p τ (omega (arith, h.after, h.high)) in
    le_antisymm (no_later p τ r (earliest p τ) h e) (no_later p τ (earliest p τ) r e h)

-- so it is with a time at which the test holds, where it holds at none of the n before
pub found_after : (p : ℕ → Bool) (τ n : ℕ) → τ + n ≤ event_time_max → every (λ o. not (p (τ + o))) n ≡ true → p (τ + n) ≡ true
    → τ + n ≡ earliest p τ
found_after p τ n early none hit =
    found p τ (τ + n)
    (record {
      after = omega arith;
      high = omega arith;
      hit = λ _. hit;
      none = λ υ from until _.
          let e : τ + (υ - τ) ≡ υ = omega arith in
          rw e at (not-true (p (τ + (υ - τ))) (Search.every_out (λ o. not (p (τ + o))) n (υ - τ) none (omega arith)));
    })

-- ---- by what a search has found

-- the first time that passes a test, wherever it lies, and another test that says the same
pub found_first : (p q : ℕ → Bool) → ((υ : ℕ) → q υ ≡ p υ) → {τ hi r : ℕ} → τ ≤ suc event_time_max → Found p τ hi r →
    min r (suc event_time_max) ≡ earliest q τ
found_first p q same {τ} {hi} {r} within f =
    found q τ (min r (suc event_time_max))
    (record {
      after = omega (arith, f.after);
      high = omega arith;
      hit = λ early. let e : min r (suc event_time_max) ≡ r = omega arith in rw e (same r ∙ f.hit);
      none = λ υ lo until early. same υ ∙ f.none υ lo (omega arith);
    })

-- the first time at which no more than m lanes are held
pub lessens_first : (held : ℕ → ℕ) (m : ℕ) (q : ℕ → Bool) → ((υ : ℕ) → q υ ≡ not (ltb m (held υ))) → {τ r : ℕ} →
    Lessens held m τ r → r ≡ earliest q τ
lessens_first held m q same {τ} {r} f =
    found q τ r
    (record {
      after = f.after;
      high = f.high;
      hit = λ early. same r ∙ ap not (le-ltb m (held r) (f.free early));
      none = λ υ lo until early. same υ ∙ ap not (lt-ltb m (held υ) (f.full υ lo until));
    })

-- a test that passes at once, and one that never does
pub first_now : (q : ℕ → Bool) (τ : ℕ) → τ ≤ suc event_time_max → q τ ≡ true → τ ≡ earliest q τ
first_now q τ within hit =
    found q τ τ (record { after = omega arith; high = within; hit = λ _. hit; none = λ υ lo until _. absurd (omega arith) })

pub first_never : (q : ℕ → Bool) (τ : ℕ) → τ ≤ suc event_time_max → ((υ : ℕ) → q υ ≡ false) → suc event_time_max ≡ earliest q τ
first_never q τ within none =
    found q τ (suc event_time_max)
    (record { after = within; high = omega arith; hit = λ early. absurd (omega arith); none = λ υ lo until _. none υ })

-- from a time past the clock on nothing is looked for
pub earliest_past : (q : ℕ → Bool) (τ : ℕ) → event_time_max < τ → earliest q τ ≡ τ
unfolding earliest first
earliest_past q τ late =
    let e : suc event_time_max - τ ≡ 0 = omega arith in
    rw e (omega arith)
