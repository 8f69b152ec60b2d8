-- A change is due at some time: once every list has gone only active lanes are held, which the shares of all titles have
-- room for. Rests on the clock's laws, on a state's limits, and on permitted times that come again and again (`due_comes`).
use mathlib.Core.Path.{◌≡◌, refl, sym, subst, ◌∙◌}
use mathlib.Core.Bool.{Bool, true, false, not}
use mathlib.Core.Logic.{◌⊎◌, ⊎_elim}
use Prim.Native.Nat.{ℕ, zero, suc, ◌+◌, ◌*◌, ◌≤◌, ◌<◌}
use native.Mathlib.Omega.{arith}
use native.Mathlib.Nat.{mul-le-mul}
use lib.Dec.{leb, ltb, eqb}
use lib.ListN.{get_or}
use lib.Seq.{get_or-set_other}
use borrow.Author.Tests.{le-leb, le-ltb, leb-true, ltb-true, ltb-false, eqb-true, eqb-false}
use Rattle.rules.specs.Limits.{length_max, asked_max, lane_places, titles_max}
use Rattle.rules.specs.Search.{how_many, total}
use Rattle.rules.proofs.Tests.{decide, both_l, both_r, either_l, either_r}
use Rattle.rules.proofs.Search.{how_many_le, how_many_miss, total_le}
use Rattle.scheme.proofs.Clock.{tick_pos, tick_high}
use Rattle.story.specs.declared.Title.{Title}
use Rattle.story.specs.declared.State.{State}
use Rattle.story.specs.Kept.{absent_mode, open_mode, no_title, title_tick, title_at, title_ok, tick_at}
use Rattle.story.specs.Kept.{ruling, kept_held, title_held, lanes_held, numbers_ok}
use Rattle.story.specs.Next.{ended, turned, changed_title, change_next}
use Rattle.story.specs.declared.Act.TheVariants.{Changes}
use Rattle.story.specs.Calls.{tests_in}
use Rattle.story.proofs.Clock.{begins}
use Rattle.measures.proofs.Within.{title_ok_lem, numbers, readable, in_row}
use Rattle.owed.proofs.Fixed.{stored}
use Rattle.moments.specs.Moments.{has_lanes, FirstDue}
use Rattle.moments.proofs.Falling.{raised}
use Rattle.moments.proofs.Coming.{due_comes}
use Rattle.planner.specs.Carried.{Ready, all_gone}

-- only the active lanes are held from then on
gone : (t : Title) → title_ok t ≡ true → (t.mode ≡ absent_mode → ⊥) → (l υ : ℕ) → l < lane_places → all_gone ≤ υ →
    get_or t.dropped l 0 + get_or t.owed l 0 ≤ tick_at t υ
unfolding tick_at numbers_ok
gone t ok there l υ below late =
    let n = numbers t ok in
    let film = readable t ok there in
    let from : get_or t.dropped l 0 ≤ asked_max = in_row t.dropped lane_places l (search (both_l, both_r) depth 12) below in
    let many : get_or t.owed l 0 ≤ asked_max = in_row t.owed lane_places l (search (both_l, both_r) depth 12) below in
    let opened : t.opened ≤ asked_max = search (both_l, both_r, borrow.Author.Tests.leb-true) depth 12 in
    let p : ℕ = title_tick t in
    let long : 0 < t.film.length = omega (arith, film.sized.low) in
    let short : p ≤ t.film.length = tick_high t.film.kind t.film.length t.film.floor t.film.cap long film.cut.low film.cut.fit in
    let far : (get_or t.dropped l 0 + get_or t.owed l 0) * p ≤ (asked_max + asked_max) * length_max =
    mul-le-mul {n₁ = get_or t.dropped l 0 + get_or t.owed l 0} {m₁ = p} {n₂ = asked_max + asked_max} {m₂ = length_max} (omega arith) (omega (arith, film.sized.high)) in
    begins t.opened p (tick_pos t.film.kind t.film.length t.film.floor t.film.cap long film.cut.low film.cut.fit) υ
    (get_or t.dropped l 0 + get_or t.owed l 0) (omega arith)

-- a test that fails from r on passes at most r times
few : (p : ℕ → Bool) (r n : ℕ) → ((l : ℕ) → l < n → r ≤ l → p l ≡ false) → how_many p n ≤ r
few p r zero f = omega (arith, how_many_le p zero)
few p r (suc n) f =
    ⊎_elim
    (λ x. omega (arith, ltb-true n r x, how_many_le p (suc n)))
    (λ x. omega (arith, how_many_miss p n (f n (omega arith) (ltb-false n r x)), few p r n (λ l b. f l (omega arith))))
    (decide (ltb n r))

-- a lane that is not active is not held then
unheld : (t : Title) (l n : ℕ) → ruling t ≤ l → get_or t.dropped l 0 + get_or t.owed l 0 ≤ n → kept_held t l n ≡ false
unfolding kept_held
unheld t l n above late = rw (le-ltb l (ruling t) above, le-ltb n (get_or t.dropped l 0 + get_or t.owed l 0) late) refl

module _ (t : Title) (ok : title_ok t ≡ true) (υ : ℕ) (late : all_gone ≤ υ) where
  held_few : title_held t υ ≤ ruling t
  unfolding title_held
  held_few =
      ⊎_elim (λ x. rw x (omega arith))
      (λ x.
      let there : t.mode ≡ absent_mode → ⊥ = eqb-false t.mode absent_mode x in
      rw x
      (few (λ l. kept_held t l (tick_at t υ)) (ruling t) t.film.cap
      (λ l b above. unheld t l (tick_at t υ) above (gone t ok there l υ (omega (arith, (readable t ok there).cut.high)) late))))
      (decide (eqb t.mode absent_mode))

  -- and of a raised title no more than its new count
  turned_few : (t.mode ≡ absent_mode → ⊥) → (k : ℕ) →
      title_held (turned (ended t (tick_at t υ)) open_mode k t.mark υ υ) υ ≤ k
  unfolding title_held tick_at ruling
  turned_few there k =
      let q : Title = turned (ended t (tick_at t υ)) open_mode k t.mark υ υ in
      few (λ l. kept_held q l (tick_at t υ)) k t.film.cap
      (λ l b above. unheld q l (tick_at t υ) above (gone t ok there l υ (omega (arith, (readable t ok there).cut.high)) late))

  raised_few : (t.mode ≡ absent_mode → ⊥) → (k : ℕ) → t.count ≤ k → title_held (changed_title t υ k) υ ≤ k
  raised_few there k up =
      subst (λ q. title_held q υ ≤ k) (sym (raised t υ k up)) (turned_few there k)

-- as many lanes as all titles are to have, once every list has gone
module _ (s : State) (i k : ℕ) (r : Ready s i k) (goal : ℕ → ℕ) (at_most : (j : ℕ) → j < titles_max → ruling (title_at s j) ≤ goal j)
    (own : k ≤ goal i) (fits : total goal titles_max ≤ s.pool) (up : (title_at s i).count ≤ k) where
  there : (title_at s i).mode ≡ absent_mode → ⊥
  there e = let z : open_mode ≡ absent_mode = sym r.is_open ∙ e in omega arith

  held_goal : (υ : ℕ) → all_gone ≤ υ → (j : ℕ) → j < titles_max → title_held (title_at (change_next s i υ k) j) υ ≤ goal j
  held_goal υ late j b =
      let t : Title = changed_title (title_at s i) υ k in
      let before : title_held (title_at s j) υ ≤ goal j = omega (arith, held_few (title_at s j) (title_ok_lem s r.ok j b) υ late, at_most j b) in
      ⊎_elim
      (λ x.
      let e : j ≡ i = eqb-true j i x in
      stored (λ q. title_held q υ ≤ goal j) s.titles i j t no_title
      (rw e (omega (arith, raised_few (title_at s i) (title_ok_lem s r.ok i r.an_id) υ late there k up, own))) before)
      (λ x. rw (get_or-set_other s.titles i j t no_title (eqb-false j i x)) before)
      (decide (eqb j i))

  pub enough : (υ : ℕ) → all_gone ≤ υ → (tests_in s i υ (Changes k)).full ≡ false
  unfolding lanes_held
  enough υ late =
      le-ltb s.pool (lanes_held (change_next s i υ k) υ)
      (omega (arith, total_le (λ j. title_held (title_at (change_next s i υ k) j) υ) goal titles_max (held_goal υ late)))

-- so a raise finds its lanes then, and a drop always does
pub finds_sometime : (s : State) (i k : ℕ) →
    (k ≤ (title_at s i).count) ⊎ ((υ : ℕ) → all_gone ≤ υ → (tests_in s i υ (Changes k)).full ≡ false) → has_lanes s i k all_gone ≡ true
unfolding has_lanes
finds_sometime s i k lanes =
    let t : Title = title_at s i in
    let full = (tests_in s i all_gone (Changes k)).full in
    ⊎_elim (λ d. either_l (leb k t.count) (not full) (le-leb k t.count d))
    (λ f. either_r (leb k t.count) (not full) (rw (f all_gone (omega arith)) refl))
    lanes

-- and a change that only its time and the lanes may refuse is due at a first time, over all times
pub due_sometime : (s : State) (i k : ℕ) → Ready s i k → (τ : ℕ) →
    (k ≤ (title_at s i).count) ⊎ ((υ : ℕ) → all_gone ≤ υ → (tests_in s i υ (Changes k)).full ≡ false) →
    (υ : ℕ) × FirstDue s i k τ υ
due_sometime s i k r τ lanes =
    due_comes s i k
    (readable (title_at s i) (title_ok_lem s r.ok i r.an_id)
    (λ e. let z : open_mode ≡ absent_mode = sym r.is_open ∙ e in omega arith))
    τ all_gone (finds_sometime s i k lanes)
