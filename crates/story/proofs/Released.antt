-- A lane that is dropped, over any accepted sequence: as the events up to each moment say, it is held from its drop on for exactly
-- as many ticks as it owed then, whatever events follow, as long as none makes it active again. While the opening stands this is
-- `held_after_lem`, since what a life says of a tick is what stood then; and the id opens again only once the lane is released.
-- Rests on `stood` and on what accepted sequences keep true of lives.
use mathlib.Core.Path.{◌≡◌, refl, sym, ap, ◌∙◌}
use mathlib.Core.Bool.{true, false, false≢true}
use mathlib.Core.Logic.{⊎_elim}
use mathlib.Core.List.{List, [], ◌∷◌}
use Prim.Native.Nat.{ℕ, suc, ◌+◌, ◌-◌, ◌*◌, ◌≤◌, ◌<◌}
use native.Mathlib.Omega.{arith}
use native.Mathlib.Nat.{mul-le-mul_right}
use lib.Dec.{ltb, leb, eqb}
use borrow.Author.Tests.{ltb-true, ltb-false, lt-ltb, le-ltb, leb-true, leb-false, lt-leb, eqb-true, eq-eqb}
use Rattle.rules.specs.Limits.{pool_max, titles_max}
use Rattle.rules.specs.Search.{how_many}
use Rattle.rules.proofs.Tests.{decide, either_false_l, either_false_r}
use Rattle.rules.proofs.Search
use Rattle.story.specs.Life.{Life, Course, on_course, is_active, owes, is_held}
use Rattle.story.specs.declared.Act.{Act}
use Rattle.story.specs.declared.Act.TheVariants.{Opens, Changes, Closes, Doors}
use Rattle.story.specs.declared.Event.{Event}
use Rattle.story.specs.Story.{event, tick_length, tick_in, moment_of}
use Rattle.story.specs.Story.{life_after, life_of, latest_of, last_time, up_to, count_in, is_active_in, is_held_in, held_in, is_there_in}
use Rattle.story.specs.Story.{answer_to, answer, Accepted, none, more, life_at, InTick, release_of, DropsAt}
use Rattle.story.proofs.Admissions.{SameAt}
use Rattle.story.proofs.Clock.{in_tick, begun, begins, ended, before_tick, on_its_tick, later_tick}
use Rattle.story.proofs.Held.{count_below, held_active, held_after_lem, owes_local}
use Rattle.story.proofs.Passed.{Turned, opening, changing, closing, doored}
use Rattle.story.proofs.Lives.{Lively, lively, newest}
use Rattle.story.proofs.Questions.{no_lane}
use Rattle.story.proofs.Pool.{up_to_all_lem}
use Rattle.story.proofs.Reached.{up_to_accepted, up_to_late}
use Rattle.story.proofs.Boxes.{Stood, stood, turned_lively, course_after, same_before, up_to_skip}

-- ---- what stood at a moment

-- the events up to a moment, seen from a later one
up_to_up_to : (τ υ : ℕ) (es : List Event) → τ ≤ υ → up_to τ (up_to υ es) ≡ up_to τ es
unfolding up_to
up_to_up_to τ υ [] le = refl
up_to_up_to τ υ (e ∷ es) le =
    ⊎_elim (λ x. rw x refl)
    (λ x. rw (x, lt-leb e.time τ (omega (arith, leb-false e.time υ x))) (up_to_up_to τ υ es le))
    (decide (leb e.time υ))

-- a life was opened no later than the last event
opened_by : (lanes : ℕ) (es : List Event) → lanes ≤ pool_max → Accepted lanes es → (i : ℕ) → i < titles_max →
    (life_of es i).opened ≤ last_time es
opened_by lanes es high acc i id =
    ⊎_elim (λ e. rw e (omega arith)) (λ w. omega (arith, w.since, newest lanes es high acc i)) (lively lanes es high acc i id)

-- the life of an event's own id
own_life : (es : List Event) (i τ : ℕ) (a : Act) → life_of (event i τ a ∷ es) i ≡ life_after (life_of es i) τ a
unfolding life_of
own_life es i τ a = rw (eq-eqb i i refl) refl

-- what the life says of a lane at a tick is what stood at the moment at which the tick begins
active_then : (lanes : ℕ) (es : List Event) → lanes ≤ pool_max → Accepted lanes es → (i l t : ℕ) →
    0 < tick_length (life_of es i) →
    is_active_in (life_at es i (moment_of (life_of es i) t)) l (moment_of (life_of es i) t) ≡ is_active (life_of es i) l t
unfolding tick_in is_active
active_then lanes es high acc i l t pos =
    let L : Life = life_of es i in
    let w = stood lanes es high acc i (moment_of L t) (omega arith) in
    rw (w.life, in_tick L.opened (tick_length L) pos (moment_of L t) t (omega arith) (omega arith))
    (ap (λ k. ltb l k) (w.agree t (omega arith)).rule)

-- ---- the opening that dropped the lane

-- the life L dropped lane l at the moment τ, the start of tick s + 1
record Drop (L : Life) (l s τ : ℕ) : Type 0 where
  start : τ ≡ moment_of L (suc s)
  on : is_active L l s ≡ true

module _ (X L : Life) (l s τ : ℕ) (w : Stood X L τ) (d : Drop L l s τ) where
  start_seen : τ ≡ moment_of X (suc s)
  start_seen = rw w.life at d.start

  agree_before : (a : ℕ) → a < suc s → SameAt X w.course a
  agree_before a b =
      w.agree a
      (let m : a * tick_length X ≤ suc s * tick_length X = mul-le-mul_right (tick_length X) (omega arith) in omega (arith, start_seen))

  active_seen : is_active X l s ≡ true
  unfolding is_active
  active_seen =
      let on-course : ltb l (w.course.rule s) ≡ true = rw w.life at d.on in
      ap (λ k. ltb l k) (sym (agree_before s (omega arith)).rule) ∙ on-course

  owes_seen : owes L l (suc s) ≡ owes X l (suc s)
  owes_seen = rw w.life (owes_local X w.course l (suc s) agree_before)

  -- seen later, while the opening stands and the lane is not raised, it is held up to its release
  standing : 0 < tick_length X → (υ : ℕ) → τ ≤ υ → ((t : ℕ) → suc s ≤ t → t ≤ tick_in X υ → is_active X l t ≡ false) →
      is_held_in X l υ ≡ ltb υ (release_of L l (suc s))
  unfolding tick_in
  standing pos υ le off =
      let p : ℕ = tick_length X in
      let n : ℕ = tick_in X υ in
      let since : X.opened ≤ υ = omega (arith, start_seen) in
      let low : suc s ≤ n = begins X.opened p pos υ (suc s) (omega (arith, start_seen)) in
      let j : ℕ = n - suc s in
      let e : suc s + j ≡ n = omega arith in
      let from : X.opened + (suc s + j) * p ≤ υ = rw e (begun X.opened p pos υ n since (omega arith)) in
      let until : υ < X.opened + suc (suc s + j) * p = rw e (ended X.opened p pos υ) in
      let held : is_held X l n ≡ ltb j (owes X l (suc s)) =
      rw e at (held_after_lem X l s j active_seen (λ k b. off (suc s + k) (omega arith) (omega arith))) in
      held ∙ sym (before_tick X.opened p pos υ (suc s) j (owes X l (suc s)) from until)
      ∙ ap (λ m. ltb υ m) (sym (rw w.life (ap (λ o. moment_of X (suc s + o)) (rw w.life at owes_seen))))

-- ---- the id opens again only once the lane is released

-- a lane is not active at any moment from τ up to, not including, ω
abbrev Off : List Event → ℕ → ℕ → ℕ → ℕ → Type 0
Off es i l τ ω = (υ : ℕ) → τ ≤ υ → υ < ω → is_active_in (life_at es i υ) l υ ≡ false

-- nor by the life at a tick that begins then
off_tick : (lanes : ℕ) (es : List Event) → lanes ≤ pool_max → Accepted lanes es → (i l τ ω : ℕ) → Off es i l τ ω →
    0 < tick_length (life_of es i) → (t : ℕ) → τ ≤ moment_of (life_of es i) t → moment_of (life_of es i) t < ω →
    is_active (life_of es i) l t ≡ false
off_tick lanes es high acc i l τ ω off pos t lo hi =
    sym (active_then lanes es high acc i l t pos) ∙ off (moment_of (life_of es i) t) lo hi

-- a title with a lane that was active is lively
active_lively : (lanes : ℕ) (es : List Event) → lanes ≤ pool_max → Accepted lanes es → (i l s : ℕ) → i < titles_max →
    is_active (life_of es i) l s ≡ true → Lively (life_of es i) (latest_of es i)
unfolding is_active
active_lively lanes es high acc i l s id on =
    ⊎_elim (λ e. absurd (false≢true (sym (le-ltb l 0 (omega arith)) ∙ rw e at on))) (λ w. w) (lively lanes es high acc i id)

-- where the id may open again at a moment B, the lane has been released
away_released : (lanes : ℕ) (es : List Event) → lanes ≤ pool_max → Accepted lanes es → (i : ℕ) → i < titles_max →
    (L : Life) (l s τ B : ℕ) → Drop L l s τ → Stood (life_of es i) L τ → τ < B → Off es i l τ B →
    is_there_in (life_of es i) B ≡ false → release_of L l (suc s) ≤ B
unfolding tick_in held_in is_active
away_released lanes es high acc i id L l s τ B d w lt off away =
    let X : Life = life_of es i in
    let p : ℕ = tick_length X in
    let was : is_active X l s ≡ true = active_seen X L l s τ w d in
    let alive = active_lively lanes es high acc i l s id was in
    let n : ℕ = tick_in X B in
    let at : τ ≡ moment_of X (suc s) = start_seen X L l s τ w d in
    let now : X.opened + n * p ≤ B = begun X.opened p alive.tick_some B n (omega arith) (omega arith) in
    let none-rules : X.rule n ≤ 0 = ltb-false 0 (X.rule n) (either_false_l (ltb 0 (X.rule n)) (ltb 0 (held_in X B)) away) in
    let none_held : held_in X B ≤ 0 = ltb-false 0 (held_in X B) (either_false_r (ltb 0 (X.rule n)) (ltb 0 (held_in X B)) away) in
    let idle : (t : ℕ) → suc s ≤ t → t ≤ n → is_active X l t ≡ false =
    λ t lo hi.
    let since : suc s * p ≤ t * p = mul-le-mul_right p lo in
    ⊎_elim
    (λ y.
    let before : suc t * p ≤ n * p = mul-le-mul_right p (ltb-true t n y) in
    let pos : 0 < p = alive.tick_some in
    off_tick lanes es high acc i l τ B off alive.tick_some t (omega arith) (omega arith))
    (λ y. let e : t ≡ n = omega (arith, ltb-false t n y) in rw e (le-ltb l (X.rule n) (omega arith)))
    (decide (ltb t n)) in
    let held : is_held_in X l B ≡ ltb B (release_of L l (suc s)) = standing X L l s τ w d alive.tick_some B (omega arith) idle in
    let lane : l < X.film.cap = omega (arith, ltb-true l (X.rule s) was, alive.ruled.high s) in
    ⊎_elim (λ x. absurd (omega (arith, Search.how_many_some (λ l. is_held_in X l B) X.film.cap l lane (held ∙ x))))
    (λ x. ltb-false B (release_of L l (suc s)) x)
    (decide (ltb B (release_of L l (suc s))))

-- one event of the title itself
released_own : (lanes : ℕ) (es : List Event) → lanes ≤ pool_max → Accepted lanes es → (i : ℕ) → i < titles_max →
    (L : Life) (l s τ : ℕ) → Drop L l s τ → life_at es i τ ≡ L → (B : ℕ) (a : Act) →
    answer_to lanes es (event i B a) (life_of es i) a ≡ 0 → τ < (life_after (life_of es i) B a).opened →
    Off es i l τ (life_after (life_of es i) B a).opened →
    (τ < (life_of es i).opened → Off es i l τ (life_of es i).opened → release_of L l (suc s) ≤ (life_of es i).opened) →
    release_of L l (suc s) ≤ (life_after (life_of es i) B a).opened
released_own lanes es high acc i id L l s τ d is B (Opens f k) h lt off before =
    let o = opening lanes es i B f k h in
    let by : (life_of es i).opened ≤ B = omega (arith, opened_by lanes es high acc i id, o.timely.late) in
    ⊎_elim
    (λ x.
    let w : Stood (life_of es i) L τ = rw is at (stood lanes es high acc i τ (leb-true (life_of es i).opened τ x)) in
    away_released lanes es high acc i id L l s τ B d w lt off o.away)
    (λ x.
    let later : τ < (life_of es i).opened = leb-false (life_of es i).opened τ x in
    omega (arith, before later (λ υ lo hi. off υ lo (omega arith))))
    (decide (leb (life_of es i).opened τ))
released_own lanes es high acc i id L l s τ d is B (Changes k) h lt off before = before lt off
released_own lanes es high acc i id L l s τ d is B Closes h lt off before = before lt off
released_own lanes es high acc i id L l s τ d is B (Doors b) h lt off before = before lt off

-- one event of any title
released_more : (lanes : ℕ) (e : Event) (es : List Event) → lanes ≤ pool_max → Accepted lanes es → answer lanes es e ≡ 0 →
    (i : ℕ) → i < titles_max → (L : Life) (l s τ : ℕ) → Drop L l s τ → life_at es i τ ≡ L →
    τ < (life_of (e ∷ es) i).opened → Off es i l τ (life_of (e ∷ es) i).opened →
    (τ < (life_of es i).opened → Off es i l τ (life_of es i).opened → release_of L l (suc s) ≤ (life_of es i).opened) →
    release_of L l (suc s) ≤ (life_of (e ∷ es) i).opened
unfolding life_of
released_more lanes e es high acc h i id L l s τ d is lt off before =
    ⊎_elim
    (λ y.
    let q : e.title ≡ i = eqb-true e.title i y in
    rw y
    (released_own lanes es high acc i id L l s τ d is e.time e.act (rw q at h) (rw y at lt) (rw y at off) before))
    (λ y. rw y (before (rw y at lt) (rw y at off)))
    (decide (eqb e.title i))

-- so whenever the id has another opening since
released_by : (lanes : ℕ) (es : List Event) → lanes ≤ pool_max → Accepted lanes es → (i : ℕ) → i < titles_max →
    (L : Life) (l s τ : ℕ) → Drop L l s τ → life_at es i τ ≡ L → τ < (life_of es i).opened →
    Off es i l τ (life_of es i).opened → release_of L l (suc s) ≤ (life_of es i).opened
unfolding life_of
released_by lanes es high none i id L l s τ d is lt off = absurd (omega arith)
released_by lanes es high (more {e = e} {es = es'} acc h) i id L l s τ d is lt off =
    let by : (life_of (e ∷ es') i).opened ≤ e.time = opened_by lanes (e ∷ es') high (more acc h) i id in
    let is-before : life_at es' i τ ≡ L = rw (up_to_skip τ e es' (omega arith)) at is in
    released_more lanes e es' high acc h i id L l s τ d is-before lt
    (λ υ lo hi. rw (up_to_skip υ e es' (omega arith)) at (off υ lo hi))
    (released_by lanes es' high acc i id L l s τ d is-before)

-- ---- the demand

module _ (lanes : ℕ) (es : List Event) (high : lanes ≤ pool_max) (acc : Accepted lanes es) (i l s τ υ : ℕ) (id : i < titles_max)
    (d : Drop (life_at es i τ) l s τ) (le : τ ≤ υ) (off : Off es i l τ (suc υ)) where
  -- the events up to υ are a sequence of their own, which says of earlier moments what the whole says
  then_accepted : Accepted lanes (up_to υ es)
  then_accepted = up_to_accepted lanes υ es acc

  earlier_life : (τ : ℕ) → τ ≤ υ → life_at (up_to υ es) i τ ≡ life_at es i τ
  earlier_life τ le = ap (λ fs. life_of fs i) (up_to_up_to τ υ es le)

  off_then : (ω : ℕ) → ω ≤ suc υ → Off (up_to υ es) i l τ ω
  off_then ω within x lo hi =
      ap (λ X. is_active_in X l x) (earlier_life x (omega arith)) ∙ off x lo (omega arith)

  opened_then : (life_at es i υ).opened ≤ υ
  opened_then = omega (arith, opened_by lanes (up_to υ es) high then_accepted i id, up_to_late υ es)

  -- under the same opening
  held_standing : (life_at es i υ).opened ≤ τ → is_held_in (life_at es i υ) l υ ≡ ltb υ (release_of (life_at es i τ) l (suc s))
  unfolding tick_in
  held_standing since =
      let X : Life = life_at es i υ in
      let L : Life = life_at es i τ in
      let p : ℕ = tick_length X in
      let w : Stood X L τ = rw (earlier_life τ le) at (stood lanes (up_to υ es) high then_accepted i τ since) in
      let alive = active_lively lanes (up_to υ es) high then_accepted i l s id (active_seen X L l s τ w d) in
      let at : τ ≡ moment_of X (suc s) = start_seen X L l s τ w d in
      standing X L l s τ w d alive.tick_some υ le
      (λ t lo hi.
      let from : suc s * p ≤ t * p = mul-le-mul_right p lo in
      let by : X.opened + t * p ≤ υ = begun X.opened p alive.tick_some υ t opened_then hi in
      off_tick lanes (up_to υ es) high then_accepted i l τ (suc υ) (off_then (suc υ) (omega arith)) alive.tick_some t
      (omega arith) (omega arith))

  -- under a later one no lane is held that was not active since
  held_anew : τ < (life_at es i υ).opened → is_held_in (life_at es i υ) l υ ≡ ltb υ (release_of (life_at es i τ) l (suc s))
  unfolding tick_in is_active
  held_anew later =
      let X : Life = life_at es i υ in
      let L : Life = life_at es i τ in
      let p : ℕ = tick_length X in
      let gone : release_of L l (suc s) ≤ X.opened =
      released_by lanes (up_to υ es) high then_accepted i id L l s τ d (earlier_life τ le) later
      (off_then X.opened (omega (arith, opened_then))) in
      let alive : Lively X (latest_of (up_to υ es) i) =
      ⊎_elim (λ e. let z : X.opened ≡ 0 = ap (λ (Y : Life). Y.opened) e in absurd (omega arith)) (λ w. w)
      (lively lanes (up_to υ es) high then_accepted i id) in
      no_lane X l (tick_in X υ)
      (λ u hi.
      let by : X.opened + u * p ≤ υ = begun X.opened p alive.tick_some υ u opened_then hi in
      ltb-false l (X.rule u)
      (off_tick lanes (up_to υ es) high then_accepted i l τ (suc υ) (off_then (suc υ) (omega arith)) alive.tick_some u
      (omega arith) (omega arith)))
      ∙ sym (le-ltb υ (release_of L l (suc s)) (omega (arith, opened_then)))

  -- held up to its release, and no longer
  held_then : is_held_in (life_at es i υ) l υ ≡ ltb υ (release_of (life_at es i τ) l (suc s))
  held_then =
      ⊎_elim (λ x. held_standing (leb-true (life_at es i υ).opened τ x)) (λ x. held_anew (leb-false (life_at es i υ).opened τ x))
      (decide (leb (life_at es i υ).opened τ))

module _ (lanes : ℕ) (es : List Event) (high : lanes ≤ pool_max) (acc : Accepted lanes es) (i l s τ ω : ℕ) (id : i < titles_max)
    (d : DropsAt es i l s τ ω) where
  pub until_released : (υ : ℕ) → τ ≤ υ → υ < ω → is_held_in (life_at es i υ) l υ ≡ ltb υ (release_of (life_at es i τ) l (suc s))
  until_released υ le lt =
      held_then lanes es high acc i l s τ υ id (record { start = d.at_start; on = d.active_before }) le
      (λ x lo hi. d.not_raised x lo (omega arith))

  -- the first of its ticks, as many as it owes
  pub in_its_ticks : 0 < tick_length (life_at es i τ) → (j υ : ℕ) → InTick (life_at es i τ) (suc s + j) υ → υ < ω →
      is_held_in (life_at es i υ) l υ ≡ ltb j (owes (life_at es i τ) l (suc s))
  in_its_ticks pos j υ h lt =
      let L : Life = life_at es i τ in
      let p : ℕ = tick_length L in
      let from : suc s * p ≤ (suc s + j) * p = mul-le-mul_right p (omega arith) in
      until_released υ (omega (arith, d.at_start, h.from)) lt
      ∙ before_tick L.opened p pos υ (suc s) j (owes L l (suc s)) h.from h.until

  -- raised before its release it is held throughout
  pub raised_held : is_active_in (life_at es i ω) l ω ≡ true → ω ≤ release_of (life_at es i τ) l (suc s) → (υ : ℕ) → τ ≤ υ →
      υ ≤ ω → is_held_in (life_at es i υ) l υ ≡ true
  raised_held again sending υ le within =
      ⊎_elim (λ lt. until_released υ le lt ∙ lt-ltb υ (release_of (life_at es i τ) l (suc s)) (omega arith))
      (λ e. rw e (held_active (life_at es i ω) l (tick_in (life_at es i ω) ω) again))
      (Search.below_suc υ ω (omega arith))

pub as_many_ticks : (lanes : ℕ) (es : List Event) → lanes ≤ pool_max → Accepted lanes es → (i l s τ n : ℕ) → i < titles_max →
    DropsAt es i l s τ (moment_of (life_at es i τ) (suc s + n)) → owes (life_at es i τ) l (suc s) ≤ n →
    (seen : ℕ → ℕ) → ((j : ℕ) → j < n → InTick (life_at es i τ) (suc s + j) (seen j)) →
    how_many (λ j. is_held_in (life_at es i (seen j)) l (seen j)) n ≡ owes (life_at es i τ) l (suc s)
as_many_ticks lanes es high acc i l s τ n id d enough seen within =
    let L : Life = life_at es i τ in
    let alive = active_lively lanes (up_to τ es) high (up_to_accepted lanes τ es acc) i l s id d.active_before in
    Search.how_many_ext (λ j. is_held_in (life_at es i (seen j)) l (seen j)) (λ j. ltb j (owes L l (suc s))) n
    (λ j b.
    let far : suc (suc s + j) * tick_length L ≤ (suc s + n) * tick_length L = mul-le-mul_right (tick_length L) (omega arith) in
    in_its_ticks lanes es high acc i l s τ (moment_of L (suc s + n)) id d alive.tick_some j (seen j) (within j b)
    (omega (arith, (within j b).until)))
    ∙ count_below (owes L l (suc s)) n enough

-- ---- every drop is one of these

-- an event other than an opening comes a tick after the latest one at least: a lane that it takes away was active in the tick before
turned_drops : (lanes : ℕ) (es : List Event) → lanes ≤ pool_max → Accepted lanes es → (i τ : ℕ) → Turned es i τ → (a : Act) →
    ((X : Life) → life_after X τ a ≡ on_course X (course_after X (tick_in X τ) a)) → (l : ℕ) →
    is_active_in (life_of es i) l τ ≡ true → is_active_in (life_of (event i τ a ∷ es) i) l τ ≡ false →
    (s : ℕ) × DropsAt (event i τ a ∷ es) i l s τ (suc τ)
unfolding tick_in is_active
turned_drops lanes es high acc i τ w a turns l on off =
    let X : Life = life_of es i in
    let p : ℕ = tick_length X in
    let n : ℕ = tick_in X τ in
    let alive = turned_lively lanes es high acc i τ w in
    let by : latest_of es i ≤ τ = omega (arith, newest lanes es high acc i, w.timely.late) in
    let before : latest_of es i < τ =
    ⊎_elim (λ x. x) (λ x. absurd (w.fresh (sym x))) (Search.below_suc (latest_of es i) τ (omega arith)) in
    let later : tick_in X (latest_of es i) < n =
    later_tick X.opened p alive.tick_some (latest_of es i) τ alive.since before w.on_tick in
    let s : ℕ = n - 1 in
    let e : suc s ≡ n = omega arith in
    let r : Course = course_after X n a in
    let now : life_at (event i τ a ∷ es) i τ ≡ on_course X r =
    ap (λ fs. life_of fs i) (up_to_all_lem τ (event i τ a ∷ es) (omega arith)) ∙ own_life es i τ a ∙ turns X in
    let rules : r.rule s ≡ X.rule n = (same_before X n a s (omega arith)).rule ∙ alive.steady s n (omega arith) (omega arith) in
    let start : τ ≡ X.opened + n * p = on_its_tick X.opened p alive.tick_some τ (omega (arith, alive.since)) w.on_tick in (
      s,
      record {
        at_start = rw (now, e) start;
        active_before = rw now (ap (λ k. ltb l k) rules ∙ on);
        not_raised = λ υ lo hi.
            let q : υ ≡ τ = omega arith in
            rw (q, up_to_all_lem τ (event i τ a ∷ es) (omega arith)) off;
      },
    )

pub event_drops : (lanes : ℕ) (es : List Event) → lanes ≤ pool_max → Accepted lanes es → (i τ : ℕ) (a : Act) →
    answer_to lanes es (event i τ a) (life_of es i) a ≡ 0 → (l : ℕ) → is_active_in (life_of es i) l τ ≡ true →
    is_active_in (life_of (event i τ a ∷ es) i) l τ ≡ false → (s : ℕ) × DropsAt (event i τ a ∷ es) i l s τ (suc τ)
unfolding is_active
event_drops lanes es high acc i τ (Opens f k) h l on off =
    let X : Life = life_of es i in
    let none-rules : count_in X τ ≤ 0 =
    ltb-false 0 (count_in X τ) (either_false_l (ltb 0 (count_in X τ)) (ltb 0 (held_in X τ)) (opening lanes es i τ f k h).away) in
    absurd (omega (arith, ltb-true l (count_in X τ) on))
event_drops lanes es high acc i τ (Changes k) h l on off =
    turned_drops lanes es high acc i τ (changing lanes es i τ k h).0 (Changes k) (λ X. refl) l on off
event_drops lanes es high acc i τ Closes h l on off =
    turned_drops lanes es high acc i τ (closing lanes es i τ h) Closes (λ X. refl) l on off
event_drops lanes es high acc i τ (Doors b) h l on off =
    turned_drops lanes es high acc i τ (doored lanes es i τ b h) (Doors b) (λ X. refl) l on off
