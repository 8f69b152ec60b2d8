-- The walk backwards: what noting a tick makes of the next ticks, and that a cell is in time just where its next tick is no
-- later than its turn. Rests on the laws of stores into a list and of searches.
use mathlib.Core.Path.{◌≡◌, refl, sym, ap, ◌∙◌}
use mathlib.Core.Bool.{Bool, true, false, not, false≢true}
use mathlib.Core.List.{List, [], ◌∷◌}
use mathlib.Core.Logic.{◌⊎◌, inl, inr, ⊎_elim}
use Prim.Native.Nat.{ℕ, zero, suc, ◌+◌, ◌-◌, ◌≤◌, ◌<◌}
use native.Mathlib.Omega.{arith}
use native.Mathlib.Numerals.{add-one}
use native.Mathlib.Nat.{le_antisymm}
use lib.Dec.{ltb, eqb}
use lib.ListN.{length, get_or, set, length-set}
use lib.Seq.{get_or-set_same, get_or-set_other}
use borrow.Author.Tests.{ltb-true, ltb-false, lt-ltb, eqb-true, eqb-false}
use Rattle.rules.specs.Limits.{both, either, lane_places, plan_places}
use Rattle.rules.specs.Refusals.{pick}
use Rattle.rules.specs.Search.{some, first}
use Rattle.scheme.specs.Scheme.{film_in}
use Rattle.rules.proofs.Tests.{decide, fails, pick_true, pick_false}
use Rattle.rules.proofs.Search.{some_in, some_none, first_hit_lem, first_least, first_ext}
use Rattle.judging.specs.Record.{nothing_seen, lowest, ticks_in, seen, is_shown, is_in_time}
use Rattle.judging.specs.inner.Walk.{noted, Nexts, is_late, is_unseen}

-- from a on: a itself, or after it
pub next_or : (a u : ℕ) → a ≤ u → (a ≡ u) ⊎ (suc a ≤ u)
next_or a u l = ⊎_elim (λ b. inr (ltb-true a u b)) (λ b. inl (le_antisymm l (ltb-false a u b))) (decide (ltb a u))

-- where a list has a place, it does not matter what stands for a missing one
pub get_d_any : (s : List ℕ) (i d e : ℕ) → i < length s → get_or s i d ≡ get_or s i e
get_d_any [] i d e l = absurd (omega arith)
get_d_any (x ∷ xs) zero d e l = refl
get_d_any (x ∷ xs) (suc i) d e l = get_d_any xs i d e (omega arith)

-- ---- one tick is noted

module _ (r : List ℕ) (t : ℕ) (next : List ℕ) where
  pub noted_next : (now : List ℕ) (l x : ℕ) → now ≡ noted r t next l → x ≡ seen r t l → set now x t ≡ noted r t next (l + 1)
  unfolding noted
  noted_next now l x e s = rw (add-one l, e, s) refl

  pub noted_length : (n : ℕ) → length (noted r t next n) ≡ length next
  unfolding noted
  noted_length zero = refl
  noted_length (suc l) = length-set (noted r t next l) (seen r t l) t ∙ noted_length l

  -- a cell that some lane shows is next shown then
  noted_at : (c n : ℕ) → c < length next →
      get_or (noted r t next n) c 0 ≡ pick (some (λ l. eqb (seen r t l) c) n) t (get_or next c 0)
  unfolding noted some
  noted_at c zero h = refl
  noted_at c (suc l) h =
      one (seen r t l) (noted r t next l) (some (λ l. eqb (seen r t l) c) l) (omega (arith, noted_length l)) (noted_at c l h)
    where
      one : (x : ℕ) (now : List ℕ) (b : Bool) → c < length now → get_or now c 0 ≡ pick b t (get_or next c 0) →
          get_or (set now x t) c 0 ≡ pick (either (eqb x c) b) t (get_or next c 0)
      one x now b room e =
          ⊎_elim
          (λ y. rw y (ap (λ i. get_or (set now i t) c 0) (eqb-true x c y) ∙ get_or-set_same now c t 0 room))
          (λ n. rw n (get_or-set_other now x c t 0 (λ q. eqb-false x c n (sym q)) ∙ e))
          (decide (eqb x c))

-- ---- the next ticks

module _ (r : List ℕ) (a : ℕ) (next : List ℕ) where
  -- no cell is shown past the record's end
  pub nexts_end : ticks_in r ≤ a → length next ≡ plan_places → ((c : ℕ) → c < plan_places → get_or next c 0 ≡ nothing_seen) → Nexts r a next
  nexts_end end size none =
      record {
        size = size;
        none_before = λ c u l from in-record soon. absurd (omega arith);
        shown = λ c l soon. absurd (omega (arith, none c l));
      }

  -- and one tick back
  pub nexts_step : (b : ℕ) → b ≡ suc a → Nexts r b next → Nexts r a (noted r a next lane_places)
  unfolding is_shown
  nexts_step b back N =
      record {
        size = noted_length r a next lane_places ∙ N.size;
        none_before = λ c u l from in-record soon. none c u l from in-record (noted_at r a next c lane_places (omega (arith, N.size))) soon;
        shown = λ c l soon. met c l (noted_at r a next c lane_places (omega (arith, N.size))) soon;
      }
    where
      none : (c u : ℕ) {x : ℕ} → c < plan_places → a ≤ u → u < ticks_in r → x ≡ pick (is_shown r c a) a (get_or next c 0) → u < x →
          is_shown r c u ≡ false
      none c u {x = x} l from in-record e soon =
          ⊎_elim (λ y. absurd (omega (arith, e ∙ pick_true (is_shown r c a) a (get_or next c 0) y)))
          (λ n. ⊎_elim (λ q. ap (is_shown r c) (sym q) ∙ n)
          (λ more. N.none_before c u l (omega arith) in-record (omega (arith, e ∙ pick_false (is_shown r c a) a (get_or next c 0) n)))
          (next_or a u from))
          (decide (is_shown r c a))

      met : (c : ℕ) {x : ℕ} → c < plan_places → x ≡ pick (is_shown r c a) a (get_or next c 0) → x < nothing_seen →
          (a ≤ x) × (is_shown r c x ≡ true)
      met c {x = x} l e soon =
          ⊎_elim
          (λ y. let q : x ≡ a = e ∙ pick_true (is_shown r c a) a (get_or next c 0) y in (omega arith, ap (is_shown r c) q ∙ y))
          (λ n.
          let q : x ≡ get_or next c 0 = e ∙ pick_false (is_shown r c a) a (get_or next c 0) n in
          let later = N.shown c l (omega arith) in (omega (arith, later.0), ap (is_shown r c) q ∙ later.1))
          (decide (is_shown r c a))

  -- a cell is late just where no lane shows it in time
  module _ (N : Nexts r a next) (c : ℕ) (l : c < plan_places) (in-record : a + c < ticks_in r) (few : a + c < nothing_seen) where
    late_unseen_at : ltb (a + c) (get_or next c 0) ≡ not (is_in_time r a c)
    unfolding is_in_time
    late_unseen_at =
        ⊎_elim
        (λ late.
        let after : a + c < get_or next c 0 = ltb-true (a + c) (get_or next c 0) late in
        late
        ∙ sym (ap not (some_none (λ j. is_shown r c (a + j)) (suc c)
        (λ j b. N.none_before c (a + j) l (omega arith) (omega arith) (omega arith)))))
        (λ soon.
        let before : get_or next c 0 ≤ a + c = ltb-false (a + c) (get_or next c 0) soon in
        let met = N.shown c l (omega arith) in
        let back : a + (get_or next c 0 - a) ≡ get_or next c 0 = omega (arith, met.0) in
        soon
        ∙ sym (ap not (some_in (λ j. is_shown r c (a + j)) (suc c) (get_or next c 0 - a) (omega arith) (ap (is_shown r c) back ∙ met.1))))
        (decide (ltb (a + c) (get_or next c 0)))

    pub late_unseen : (D τ : ℕ) → is_late D τ next a c ≡ is_unseen D τ r a c
    unfolding is_late is_unseen
    late_unseen D τ = ap (both (film_in D τ c)) late_unseen_at

-- ---- the lowest

module _ (p : ℕ → Bool) where
  -- a number that passes with none before it
  pub lowest_hit : (n c : ℕ) → c < n → p c ≡ true → ((i : ℕ) → i < c → p i ≡ false) → lowest p n ≡ c
  unfolding lowest
  lowest_hit n c l hit none =
      let least : first p n ≤ c = first_least p n c hit in
      let is : first p n ≡ c = le_antisymm least (not_before (decide (ltb (first p n) c))) in
      pick_true (ltb (first p n) n) (first p n) nothing_seen (lt-ltb (first p n) n (omega arith)) ∙ is
    where
      not_before : (ltb (first p n) c ≡ true) ⊎ (ltb (first p n) c ≡ false) → c ≤ first p n
      not_before =
          ⊎_elim
          (λ b. absurd (false≢true (sym (none (first p n) (ltb-true (first p n) c b)) ∙ first_hit_lem p n (omega (arith, ltb-true (first p n) c b)))))
          (λ b. ltb-false (first p n) c b)

  -- none passes
  pub lowest_none : (n : ℕ) → ((i : ℕ) → i < n → p i ≡ false) → lowest p n ≡ nothing_seen
  unfolding lowest
  lowest_none n none =
      pick_false (ltb (first p n) n) (first p n) nothing_seen
      (fails (ltb (first p n) n) (λ b. false≢true (sym (none (first p n) (ltb-true (first p n) n b)) ∙ first_hit_lem p n (ltb-true (first p n) n b))))

pub lowest_ext : (p q : ℕ → Bool) (n : ℕ) → ((i : ℕ) → i < n → p i ≡ q i) → lowest p n ≡ lowest q n
unfolding lowest
lowest_ext p q n e = rw (first_ext p q n e) refl
