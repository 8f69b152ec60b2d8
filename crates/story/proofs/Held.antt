-- A lane is held while it is active and, once dropped, for exactly as many ticks as it owes cells; and what a lane
-- shows at a tick depends on the course up to that tick alone. Rests on the laws of owed ticks.
use mathlib.Core.Path.{◌≡◌, refl, sym, ap, ◌∙◌}
use mathlib.Core.Bool.{Bool, true, false, false≢true}
use mathlib.Core.Logic.{⊎_elim}
use Prim.Native.Nat.{ℕ, zero, suc, ◌+◌, ◌-◌, ◌≤◌, ◌<◌}
use native.Mathlib.Omega.{arith}
use native.Mathlib.Nat.{le_antisymm}
use lib.Dec.{ltb}
use borrow.Author.Tests.{ltb-true, ltb-false, lt-ltb, le-ltb}
use Rattle.rules.specs.Limits.{both}
use Rattle.rules.specs.Search.{how_many, after}
use Rattle.rules.proofs.Tests.{decide, same}
use Rattle.rules.proofs.Search
use Rattle.story.specs.Life.{Life, Course, on_course, is_film, usual_cell, is_planned, is_admission, is_active}
use Rattle.story.specs.Life.{dropped_at}
use Rattle.story.specs.Life.{is_awaited, is_owed, reach, owed_within, owes, is_nth, nth_owed, sends, on_air, is_cell}
use Rattle.story.specs.Life.{is_held}
use Rattle.story.proofs.Admissions.{SameAt}
use Rattle.story.proofs.Owed.{after_between, sends_while, sends_until, air_sends, air_active}

-- the numbers below k, all below m
count_all : (m k : ℕ) → k ≤ m → how_many (λ i. ltb i m) k ≡ k
unfolding how_many
count_all m zero l = refl
count_all m (suc k) l = rw (lt-ltb k m (omega arith), count_all m k (omega arith)) (omega arith)

-- how many numbers below n are below m
pub count_below : (m n : ℕ) → m ≤ n → how_many (λ i. ltb i m) n ≡ m
count_below m n h =
    let e : n ≡ m + (n - m) = omega arith in
    rw e (Search.how_many_flat (λ i. ltb i m) m (n - m) (λ i lo. le-ltb i m lo) ∙ count_all m m (omega arith))

pub dropped_le : (L : Life) (l t : ℕ) → dropped_at L l t ≤ t
unfolding dropped_at
dropped_le L l t = Search.after_le (is_active L l) t

module _ (L : Life) (l : ℕ) where
  pub held_active : (t : ℕ) → is_active L l t ≡ true → is_held L l t ≡ true
  unfolding is_held
  held_active t on = rw (air_active L l t on) refl

  -- a lane that is not active is held while fewer ticks have passed since its drop than it owes cells
  pub held_sending : (t : ℕ) → is_active L l t ≡ false →
      is_held L l t ≡ ltb (t - dropped_at L l t) (owes L l (dropped_at L l t))
  unfolding is_held
  held_sending t off =
      let T = dropped_at L l t in
      rw (air_sends L l t off)
      (same (is_cell (sends L l T (t - T))) (ltb (t - T) (owes L l T))
      (λ h. lt-ltb (t - T) (owes L l T) (sends_until L l T (t - T) h))
      (λ h. sends_while L l T (t - T) (ltb-true (t - T) (owes L l T) h)))

  -- seen from a tick up to which it was not raised again, a lane was dropped right after it was last active
  pub dropped_since : (s n : ℕ) → is_active L l s ≡ true → ((i : ℕ) → i < n → is_active L l (suc s + i) ≡ false) →
      dropped_at L l (suc s + n) ≡ suc s
  unfolding dropped_at
  dropped_since s n on off =
      let p : ℕ → Bool = is_active L l in
      le_antisymm
      (⊎_elim
      (λ t.
      let m : ℕ = after p (suc s + n) - 1 in
      let e : after p (suc s + n) ≡ suc m = omega (arith, ltb-true (suc s) (after p (suc s + n)) t) in
      let hit : p m ≡ true = Search.after_last p (suc s + n) m e in
      let i : ℕ = m - suc s in
      let q : suc s + i ≡ m = omega (arith, ltb-true (suc s) (after p (suc s + n)) t) in
      absurd (false≢true (sym (off i (omega (arith, Search.after_le p (suc s + n)))) ∙ rw q hit)))
      (λ t. ltb-false (suc s) (after p (suc s + n)) t)
      (decide (ltb (suc s) (after p (suc s + n)))))
      (Search.after_above p (suc s + n) s (omega arith) on)

  -- dropped at T = s + 1 and not raised up to tick T + i, it is held there while i is less than what it owes
  pub held_after_lem : (s i : ℕ) → is_active L l s ≡ true → ((j : ℕ) → j < suc i → is_active L l (suc s + j) ≡ false) →
      is_held L l (suc s + i) ≡ ltb i (owes L l (suc s))
  held_after_lem s i on off =
      let d : dropped_at L l (suc s + i) ≡ suc s = dropped_since s i on (λ j c. off j (omega arith)) in
      let gap : suc s + i - suc s ≡ i = omega arith in
      held_sending (suc s + i) (off i (omega arith)) ∙ rw (d, gap) refl

  -- demand 3: dropped at T and not raised in the n ticks from then, it is held in just as many of them as it owes cells
  pub held_exactly : (s n : ℕ) → is_active L l s ≡ true → ((j : ℕ) → j < n → is_active L l (suc s + j) ≡ false) →
      owes L l (suc s) ≤ n → how_many (λ i. is_held L l (suc s + i)) n ≡ owes L l (suc s)
  held_exactly s n on off enough =
      Search.how_many_ext (λ i. is_held L l (suc s + i)) (λ i. ltb i (owes L l (suc s))) n
      (λ i b. held_after_lem s i on (λ j c. off j (omega arith)))
      ∙ count_below (owes L l (suc s)) n enough

  -- raised again at T + n while it still sends, it is held throughout
  pub held_throughout : (s n i : ℕ) → is_active L l s ≡ true → ((j : ℕ) → j < n → is_active L l (suc s + j) ≡ false) →
      is_active L l (suc s + n) ≡ true → n ≤ owes L l (suc s) → i ≤ n → is_held L l (suc s + i) ≡ true
  held_throughout s n i on off again sending within =
      ⊎_elim (λ b. held_after_lem s i on (λ j c. off j (omega arith)) ∙ lt-ltb i (owes L l (suc s)) (omega arith))
      (λ e. rw e (held_active (suc s + n) again))
      (Search.below_suc i n (omega arith))

  -- while the lane is not raised it can only be released
  pub held_falls : (t u : ℕ) → t ≤ u → ((v : ℕ) → t ≤ v → v ≤ u → is_active L l v ≡ false) → is_held L l u ≡ true →
      is_held L l t ≡ true
  unfolding dropped_at
  held_falls t u le off h =
      let p : ℕ → Bool = is_active L l in
      let T : ℕ = after p u in
      let early : T ≤ t =
      ⊎_elim
      (λ x.
      let m : ℕ = T - 1 in
      let lt : t < T = ltb-true t T x in
      let e : after p u ≡ suc m = omega arith in
      absurd (false≢true (sym (off m (omega arith) (omega (arith, Search.after_le p u))) ∙ Search.after_last p u m e)))
      (λ x. ltb-false t T x)
      (decide (ltb t T)) in
      let d : after p t ≡ T = after_between p u t early le in
      let sending : u - T < owes L l T =
      ltb-true (u - T) (owes L l T) (sym (held_sending u (off u le (omega arith))) ∙ h) in
      held_sending t (off t (omega arith) le) ∙ rw d (lt-ltb (t - T) (owes L l T) (omega arith))

-- what the same title has in common on a course that agrees with its own on every tick below a bound
module _ (L : Life) (r : Course) (l : ℕ) where
  pub awaited_local : (T c t : ℕ) → ((a : ℕ) → a < T → SameAt L r a) →
      is_awaited (on_course L r) T c t ≡ is_awaited L T c t
  unfolding is_awaited is_admission
  awaited_local T c t agree =
      Search.some_ext (λ a. both (is_admission (on_course L r) a) (is_planned (on_course L r) a c t))
      (λ a. both (is_admission L a) (is_planned L a c t)) T (λ a b. rw ((agree a b).rule, (agree a b).shut) refl)

  pub owed_local : (T t : ℕ) → ((a : ℕ) → a < T → SameAt L r a) → is_owed (on_course L r) l T t ≡ is_owed L l T t
  unfolding is_owed
  owed_local T t agree = ap (both (is_film L (usual_cell L l t))) (awaited_local T (usual_cell L l t) t agree)

  pub within_local : (T n : ℕ) → ((a : ℕ) → a < T → SameAt L r a) →
      owed_within (on_course L r) l T n ≡ owed_within L l T n
  unfolding owed_within
  within_local T n agree =
      Search.how_many_ext (λ o. is_owed (on_course L r) l T (T + o)) (λ o. is_owed L l T (T + o)) n
      (λ o b. owed_local T (T + o) agree)

  pub owes_local : (T : ℕ) → ((a : ℕ) → a < T → SameAt L r a) → owes (on_course L r) l T ≡ owes L l T
  unfolding owes
  owes_local T agree = within_local T (reach L.film.cap) agree

  pub sends_local : (T i : ℕ) → ((a : ℕ) → a < T → SameAt L r a) → sends (on_course L r) l T i ≡ sends L l T i
  unfolding sends nth_owed is_nth
  sends_local T i agree =
      let e : nth_owed (on_course L r) l T i ≡ nth_owed L l T i =
      Search.first_ext (is_nth (on_course L r) l T i) (is_nth L l T i) (reach L.film.cap)
      (λ o b. rw (owed_local T (T + o) agree, within_local T o agree) refl) in
      rw e refl

  pub dropped_local : (t : ℕ) → ((a : ℕ) → a < t → SameAt L r a) → dropped_at (on_course L r) l t ≡ dropped_at L l t
  unfolding dropped_at is_active
  dropped_local t agree = Search.after_ext (is_active (on_course L r) l) (is_active L l) t (λ a b. rw (agree a b).rule refl)

  -- what is on air at a tick depends on the course up to that tick alone
  pub air_local : (t : ℕ) → ((a : ℕ) → a ≤ t → SameAt L r a) → on_air (on_course L r) l t ≡ on_air L l t
  unfolding on_air is_active
  air_local t agree =
      let T : ℕ = dropped_at L l t in
      let d : dropped_at (on_course L r) l t ≡ T = dropped_local t (λ a b. agree a (omega arith)) in
      let le : T ≤ t = dropped_le L l t in
      rw (d, (agree t (omega arith)).rule, sends_local T (t - T) (λ a b. agree a (omega arith))) refl
