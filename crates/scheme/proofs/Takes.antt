-- What a box takes, as facts: taken apart and put together; where slots start; and what the plan's number is. Rests on the laws
-- of searches.
use mathlib.Core.Path.{◌≡◌}
use mathlib.Core.Bool.{true}
use Prim.Native.Nat.{ℕ, ◌+◌, ◌-◌, ◌*◌, ◌/◌, ◌%◌, ◌^◌, ◌≤◌, ◌<◌}
use native.Mathlib.Omega.{arith}
use native.Mathlib.Nat.{div-add-mod'}
use lib.Dec.{leb, ltb, eqb}
use borrow.Author.Tests.{leb-true, ltb-true, le-leb, lt-ltb, eqb-true, eq-eqb}
use Rattle.rules.specs.Limits.{both}
use Rattle.rules.proofs.Tests.{both_l, both_r, both_in}
use Rattle.rules.proofs.Search.{some_in, some_out, first_hit_lem, first_least}
use Rattle.scheme.specs.Scheme.{Scheme, starts, takes_from, takes, taken_after}

-- a box that starts at tick a takes cell c from channel d at tick t
pub record Taken (S : Scheme) (k a c t d : ℕ) : Type 0 where
  pub channel : d < k
  pub from : a ≤ t
  pub before : t < a + S.span k d
  pub carries : S.on_channel k d t ≡ c

pub taken_in_lem : (S : Scheme) (k a c t d : ℕ) → Taken S k a c t d → takes S k a c t ≡ true
unfolding takes takes_from
taken_in_lem S k a c t d h =
    some_in (takes_from S k a c t) k d h.channel
    (both_in (leb a t) (both (ltb t (a + S.span k d)) (eqb (S.on_channel k d t) c)) (le-leb a t h.from)
    (both_in (ltb t (a + S.span k d)) (eqb (S.on_channel k d t) c) (lt-ltb t (a + S.span k d) h.before)
    (eq-eqb (S.on_channel k d t) c h.carries)))

pub taken_out : (S : Scheme) (k a c t : ℕ) → takes S k a c t ≡ true → (d : ℕ) × Taken S k a c t d
unfolding takes takes_from
taken_out S k a c t h =
    let r = some_out (takes_from S k a c t) k h in
    let d : ℕ = r.0 in
    let late = both_r (leb a t) (both (ltb t (a + S.span k d)) (eqb (S.on_channel k d t) c)) r.2 in (
      d,
      record {
        channel = r.1;
        from = leb-true a t (both_l (leb a t) (both (ltb t (a + S.span k d)) (eqb (S.on_channel k d t) c)) r.2);
        before = ltb-true t (a + S.span k d) (both_l (ltb t (a + S.span k d)) (eqb (S.on_channel k d t) c) late);
        carries = eqb-true (S.on_channel k d t) c (both_r (ltb t (a + S.span k d)) (eqb (S.on_channel k d t) c) late);
      },
    )

-- a slot start is a whole number of slots
pub whole_slots : (S : Scheme) (k a : ℕ) → starts S k a ≡ true → a / S.slot_of k * S.slot_of k ≡ a
unfolding starts
whole_slots S k a h =
    let w : ℕ = S.slot_of k in
    let e : a % w ≡ 0 = eqb-true (a % w) 0 h in
    let d : a / w * w + a % w ≡ a = div-add-mod' a w in
    omega arith

-- ---- the plan's number

-- where no channel is taken for longer than 2^(K-1) ticks, a box takes nothing from then on
pub window_end : (S : Scheme) (K k a c t : ℕ) → ((d : ℕ) → d < k → S.span k d ≤ 2 ^ (K - 1)) → takes S k a c t ≡ true →
    t < a + 2 ^ (K - 1)
window_end S K k a c t fits h =
    let r = taken_out S k a c t h in
    omega (arith, r.1.before, fits r.0 r.1.channel)

-- a number below 2^(K-1) is that of a tick at which the cell is taken
pub taken_there : (S : Scheme) (K k a c : ℕ) → taken_after S K k a c < 2 ^ (K - 1) →
    takes S k a c (a + taken_after S K k a c) ≡ true
unfolding taken_after
taken_there S K k a c b = first_hit_lem (λ o. takes S k a c (a + o)) (2 ^ (K - 1)) b

-- a cell that a box takes at tick t it takes after as many ticks as the plan gives, which are no more
pub taken_first : (S : Scheme) (K k a c t : ℕ) → t < a + 2 ^ (K - 1) → takes S k a c t ≡ true →
    (takes S k a c (a + taken_after S K k a c) ≡ true) × (a + taken_after S K k a c ≤ t)
unfolding taken_after
taken_first S K k a c t b h =
    let from : a ≤ t = (taken_out S k a c t h).1.from in
    let e : a + (t - a) ≡ t = omega arith in
    let l : taken_after S K k a c ≤ t - a = first_least (λ o. takes S k a c (a + o)) (2 ^ (K - 1)) (t - a) (rw e h) in
    (taken_there S K k a c (omega arith), omega arith)

-- where it takes it at one tick alone, those are the ticks up to that one
pub taken_at : (S : Scheme) (K k a c o : ℕ) → o < 2 ^ (K - 1) → takes S k a c (a + o) ≡ true →
    ((t : ℕ) → takes S k a c t ≡ true → t ≡ a + o) → taken_after S K k a c ≡ o
taken_at S K k a c o b h only =
    let r = taken_first S K k a c (a + o) (omega arith) h in
    omega (arith, only (a + taken_after S K k a c) r.0)
