-- The pool is never exceeded: at every moment, not only at events, the lanes held as counted from the sequence are at most
-- the pool. An opening or a change is accepted only so; an event that takes no lanes (a drop, a close, a hold, a lift) holds no
-- lane more; between events lanes are only released.
-- Rests on the laws of held lanes and on what accepted sequences keep true of a life.
use mathlib.Core.Path.{◌≡◌, refl, sym, ap, subst, ◌∙◌}
use mathlib.Core.Bool.{Bool, true, false, false≢true}
use mathlib.Core.Logic.{⊎_elim}
use mathlib.Core.List.{List, [], ◌∷◌}
use Prim.Native.Nat.{ℕ, ◌≤◌, ◌<◌}
use native.Mathlib.Omega.{arith}
use lib.Dec.{lit<, ltb, leb, eqb}
use borrow.Author.Tests.{le-ltb, ltb-true, ltb-false, leb-true, le-leb, eqb-true, eq-eqb}
use Rattle.rules.specs.Limits.{pool_max, titles_max}
use Rattle.rules.specs.Refusals.{first_hit, no_lanes}
use Rattle.rules.specs.Search.{how_many, total}
use Rattle.rules.proofs.Refusals.{hits_of, distinct, is_listed, first_hit_lem}
use Rattle.rules.proofs.Tests.{decide}
use Rattle.rules.proofs.Search
use Rattle.story.specs.Life.{Life, Course, on_course, is_active, dropped_at, owes, is_held}
use Rattle.story.specs.declared.Act.{Act}
use Rattle.story.specs.declared.Act.TheVariants.{Opens, Changes, Closes, Doors}
use Rattle.story.specs.declared.Event.{Event}
use Rattle.story.specs.Story.{event, unopened, tick_length, tick_in}
use Rattle.story.specs.Story.{turn, ruled_from, doors_from}
use Rattle.story.specs.Story.{life_after, life_of, latest_of, last_time, up_to, count_in, is_held_in, held_in, held_over}
use Rattle.story.specs.Orders.{Tests, open_order, change_order, close_order, doors_order}
use Rattle.story.specs.Story.{takes_lanes, tests_to, order_of, answer_to, answer}
use Rattle.story.specs.Story.{Accepted, none, more}
use Rattle.story.proofs.Admissions.{SameAt}
use Rattle.story.proofs.Clock.{tick_mono}
use Rattle.story.proofs.Held.{dropped_le, held_active, held_sending, held_falls, owes_local, dropped_local}
use Rattle.story.proofs.Turn.{turn_before, turn_from}
use Rattle.story.proofs.Passed.{opening, changing, in_order}
use Rattle.story.proofs.Lives.{Lively, lively, newest}

-- from its latest event on a title only releases lanes
falls : (L : Life) (m τ υ : ℕ) → Lively L m → m ≤ τ → τ ≤ υ → held_in L υ ≤ held_in L τ
unfolding held_in tick_in is_active
falls L m τ υ w from le =
    let n : ℕ = tick_in L τ in
    let now : tick_in L m ≤ n = tick_mono L.opened (tick_length L) w.tick_some m τ from in
    let on : n ≤ tick_in L υ = tick_mono L.opened (tick_length L) w.tick_some τ υ le in
    Search.how_many_wider (λ l. is_held_in L l υ) (λ l. is_held_in L l τ) L.film.cap
    (λ l b held.
    ⊎_elim (λ x. held_active L l n x)
    (λ x.
    held_falls L l n (tick_in L υ) on
    (λ v lo hi. ap (λ k. ltb l k) (w.steady v n (omega arith) now) ∙ x) held)
    (decide (is_active L l n)))

none_held : (τ υ : ℕ) → held_in unopened υ ≤ held_in unopened τ
unfolding held_in how_many
none_held τ υ = omega arith

-- no event, no lane
empty_none : (τ : ℕ) → held_over [] τ ≡ 0
unfolding held_over life_of held_in how_many total
empty_none τ = refl

pub over_falls : (lanes : ℕ) (es : List Event) → lanes ≤ pool_max → Accepted lanes es → (τ υ : ℕ) → last_time es ≤ τ →
    τ ≤ υ → held_over es υ ≤ held_over es τ
unfolding held_over
over_falls lanes es high acc τ υ from le =
    Search.total_le (λ i. held_in (life_of es i) υ) (λ i. held_in (life_of es i) τ) titles_max
    (λ i b.
    ⊎_elim (λ e. rw e (none_held τ υ))
    (λ w. falls (life_of es i) (latest_of es i) τ υ w (omega (arith, newest lanes es high acc i)) le)
    (lively lanes es high acc i b))

-- a lane that is active neither before nor after a turn to k lanes is held as before: what it owes is settled
idle_lane : (L : Life) (l n k : ℕ) → is_active L l n ≡ false → k ≤ l → is_held (ruled_from L n k) l n ≡ is_held L l n
unfolding is_active
idle_lane L l n k off idle =
    let r : Course = record { rule = turn L.rule n k; shut = L.shut } in
    let T : ℕ = dropped_at L l n in
    let below : (a : ℕ) → a < n → SameAt L r a = λ a b. record { rule = turn_before L.rule n k a b; shut = refl } in
    let d : dropped_at (on_course L r) l n ≡ T = dropped_local L r l n below in
    let same : owes (on_course L r) l T ≡ owes L l T =
    owes_local L r l T (λ a b. below a (omega (arith, dropped_le L l n))) in
    let quiet : is_active (on_course L r) l n ≡ false =
    ap (λ c. ltb l c) (turn_from L.rule n k n (omega arith)) ∙ le-ltb l k idle in
    held_sending (on_course L r) l n quiet ∙ rw (d, same) (sym (held_sending L l n off))

-- a lane that a turn to no more lanes leaves held was held before
fewer_lane : (L : Life) (l n k : ℕ) → k ≤ L.rule n → is_held (ruled_from L n k) l n ≡ true → is_held L l n ≡ true
unfolding is_active
fewer_lane L l n k fewer held =
    ⊎_elim (λ x. held_active L l n x)
    (λ x. sym (idle_lane L l n k x (omega (arith, ltb-false l (L.rule n) x))) ∙ held)
    (decide (ltb l (L.rule n)))

-- and a turn to no fewer lanes leaves every lane held
more_lane : (L : Life) (l n k : ℕ) → L.rule n ≤ k → is_held L l n ≡ true → is_held (ruled_from L n k) l n ≡ true
unfolding is_active
more_lane L l n k larger held =
    ⊎_elim
    (λ x. held_active (ruled_from L n k) l n (ap (λ c. ltb l c) (turn_from L.rule n k n (omega arith)) ∙ x))
    (λ x.
    let idle : k ≤ l = ltb-false l k x in
    idle_lane L l n k (le-ltb l (L.rule n) (omega arith)) idle ∙ held)
    (decide (ltb l k))

-- a lane that a hold or a lift leaves held was held before: what a lane owes is settled when it is dropped
doors_lane : (L : Life) (b : Bool) (l n : ℕ) → is_held (doors_from L n b) l n ≡ true → is_held L l n ≡ true
unfolding is_active
doors_lane L b l n held =
    let r : Course = record { rule = L.rule; shut = turn L.shut n b } in
    let T : ℕ = dropped_at L l n in
    let below : (a : ℕ) → a < n → SameAt L r a = λ a c. record { rule = refl; shut = turn_before L.shut n b a c } in
    let d : dropped_at (on_course L r) l n ≡ T = dropped_local L r l n below in
    let same : owes (on_course L r) l T ≡ owes L l T =
    owes_local L r l T (λ a c. below a (omega (arith, dropped_le L l n))) in
    ⊎_elim (λ x. held_active L l n x)
    (λ x. held_sending L l n x ∙ rw (d, same) at (sym (held_sending (on_course L r) l n x) ∙ held))
    (decide (is_active L l n))

-- so a title holds no lane more after a turn to no more lanes, nor after a hold or a lift,
fewer_held : (L : Life) (τ k : ℕ) → k ≤ count_in L τ → held_in (ruled_from L (tick_in L τ) k) τ ≤ held_in L τ
unfolding held_in tick_in
fewer_held L τ k fewer =
    Search.how_many_wider (λ l. is_held_in (ruled_from L (tick_in L τ) k) l τ) (λ l. is_held_in L l τ) L.film.cap
    (λ l b. fewer_lane L l (tick_in L τ) k fewer)

doors_held : (L : Life) (τ : ℕ) (b : Bool) → held_in (doors_from L (tick_in L τ) b) τ ≤ held_in L τ
unfolding held_in tick_in
doors_held L τ b =
    Search.how_many_wider (λ l. is_held_in (doors_from L (tick_in L τ) b) l τ) (λ l. is_held_in L l τ) L.film.cap
    (λ l c. doors_lane L b l (tick_in L τ))

-- and no lane less after a turn to no fewer
pub more_held : (L : Life) (τ k : ℕ) → count_in L τ ≤ k → held_in L τ ≤ held_in (ruled_from L (tick_in L τ) k) τ
unfolding held_in tick_in
more_held L τ k larger =
    Search.how_many_wider (λ l. is_held_in L l τ) (λ l. is_held_in (ruled_from L (tick_in L τ) k) l τ) L.film.cap
    (λ l b. more_lane L l (tick_in L τ) k larger)

-- where two counts over all titles differ at one id alone, they compare as they do there
one_moves : (x y : ℕ → ℕ) (i : ℕ) → ((j : ℕ) → eqb i j ≡ false → x j ≡ y j) → x i ≤ y i → total x titles_max ≤ total y titles_max
one_moves x y i same own =
    Search.total_le x y titles_max
    (λ j b. ⊎_elim (λ e. subst (λ k. x k ≤ y k) (eqb-true i j e) own) (λ e. omega (arith, same j e)) (decide (eqb i j)))

-- so an event moves the lanes of its own title alone
lowers : (es : List Event) (i τ : ℕ) (a : Act) → held_in (life_after (life_of es i) τ a) τ ≤ held_in (life_of es i) τ →
    held_over (event i τ a ∷ es) τ ≤ held_over es τ
unfolding held_over life_of
lowers es i τ a own =
    one_moves (λ j. held_in (life_of (event i τ a ∷ es) j) τ) (λ j. held_in (life_of es j) τ) i (λ j e. rw e refl)
    (rw (eq-eqb i i refl) own)

pub raises : (es : List Event) (i τ : ℕ) (a : Act) → held_in (life_of es i) τ ≤ held_in (life_after (life_of es i) τ a) τ →
    held_over es τ ≤ held_over (event i τ a ∷ es) τ
unfolding held_over life_of
raises es i τ a own =
    one_moves (λ j. held_in (life_of es j) τ) (λ j. held_in (life_of (event i τ a ∷ es) j) τ) i (λ j e. rw e refl)
    (rw (eq-eqb i i refl) own)

-- an event that takes no lanes holds no lane more
pub takes_none : (es : List Event) (i τ : ℕ) (a : Act) → takes_lanes a (count_in (life_of es i) τ) ≡ false →
    held_over (event i τ a ∷ es) τ ≤ held_over es τ
takes_none es i τ (Opens f k) h = absurd (false≢true (sym h))
takes_none es i τ (Changes k) h =
    lowers es i τ (Changes k) (fewer_held (life_of es i) τ k (ltb-false (count_in (life_of es i) τ) k h))
takes_none es i τ Closes h = lowers es i τ Closes (fewer_held (life_of es i) τ 0 (omega arith))
takes_none es i τ (Doors b) h = lowers es i τ (Doors b) (doors_held (life_of es i) τ b)

-- all events are up to the moment of the last one
pub up_to_all_lem : (τ : ℕ) (es : List Event) → last_time es ≤ τ → up_to τ es ≡ es
unfolding up_to
up_to_all_lem τ [] le = refl
up_to_all_lem τ (e ∷ es) le = rw (le-leb e.time τ le) refl

-- at the moment of an accepted event the pool is large enough, if it was before
at_event : (lanes : ℕ) (es : List Event) (i τ : ℕ) (a : Act) → answer_to lanes es (event i τ a) (life_of es i) a ≡ 0 →
    held_over es τ ≤ lanes → held_over (event i τ a ∷ es) τ ≤ lanes
at_event lanes es i τ (Opens f k) h before = (opening lanes es i τ f k h).room
at_event lanes es i τ (Changes k) h before = (changing lanes es i τ k h).1
at_event lanes es i τ Closes h before = omega (arith, takes_none es i τ Closes refl)
at_event lanes es i τ (Doors b) h before = omega (arith, takes_none es i τ (Doors b) refl)

-- demand 3: at every moment the lanes held, counted from the sequence, are at most the pool
pub never_exceeded : (lanes : ℕ) (es : List Event) → lanes ≤ pool_max → Accepted lanes es → (τ : ℕ) →
    held_over (up_to τ es) τ ≤ lanes
unfolding up_to
never_exceeded lanes es high none τ = rw (empty_none τ) (omega arith)
never_exceeded lanes es high (more {e = e} {es = es'} acc h) τ =
    let late : last_time es' ≤ e.time = (in_order lanes es' e.title e.time e.act h).late in
    ⊎_elim
    (λ x.
    let before : held_over es' e.time ≤ lanes = rw (up_to_all_lem e.time es' late) at (never_exceeded lanes es' high acc e.time) in
    let then : held_over (e ∷ es') e.time ≤ lanes = at_event lanes es' e.title e.time e.act h before in
    let since : held_over (e ∷ es') τ ≤ held_over (e ∷ es') e.time =
    over_falls lanes (e ∷ es') high (more acc h) e.time τ (omega arith) (leb-true e.time τ x) in
    rw x (omega arith))
    (λ x. rw x (never_exceeded lanes es' high acc τ))
    (decide (leb e.time τ))

-- so an accepted event finds its lanes
pub accepted_fits : (lanes : ℕ) (es : List Event) → lanes ≤ pool_max → Accepted lanes es → (e : Event) →
    answer lanes es e ≡ 0 → held_over (e ∷ es) e.time ≤ lanes
accepted_fits lanes es high acc e h =
    rw (up_to_all_lem e.time (e ∷ es) (omega arith)) at (never_exceeded lanes (e ∷ es) high (more acc h) e.time)

-- and one that gets 9 does not: that refusal's test is that more than the pool would be held
full_asked : (a : Act) (t : Tests) → first_hit (order_of a t) ≡ no_lanes → t.full ≡ true
unfolding distinct is_listed hits_of
full_asked (Opens f k) t h = (first_hit_lem (open_order t) refl no_lanes (lit< tt) h).0
full_asked (Changes k) t h = (first_hit_lem (change_order t) refl no_lanes (lit< tt) h).0
full_asked Closes t h = absurd (false≢true (first_hit_lem (close_order t) refl no_lanes (lit< tt) h).0)
full_asked (Doors b) t h = absurd (false≢true (first_hit_lem (doors_order t) refl no_lanes (lit< tt) h).0)

pub nine_exceeds : (lanes : ℕ) (es : List Event) (e : Event) → answer lanes es e ≡ no_lanes →
    lanes < held_over (e ∷ es) e.time
unfolding answer_to
nine_exceeds lanes es e h =
    ltb-true lanes (held_over (e ∷ es) e.time) (full_asked e.act (tests_to lanes es e (life_of es e.title) e.act) h)
