-- The story of events: what a sequence of accepted events means, for every title and every moment (01, "Events" and
-- "Numbers that calls give back"). Events stand newest first, with times in ms. Nothing here reads what is stored.
use Rattle.std.specs.Prelude.{ℕ, suc, ◌+◌, ◌-◌, ◌*◌, ◌/◌, ◌%◌, ◌≤◌, ◌<◌, min, ◌≡◌, Bool, true, false, not, List, [], ◌∷◌, leb, ltb, eqb, get_or, length}
use Rattle.rules.specs.Limits.{both, either, within, id_max, floor_min, floor_max, count_min, count_max, length_min, steady_max}
use Rattle.rules.specs.Limits.{length_max, event_time_max, asked_max, lane_max, titles_max}
use Rattle.rules.specs.Refusals.{pick, Rule, first_hit, no_lanes}
use Rattle.rules.specs.Search.{every, how_many, total}
use Rattle.scheme.specs.Scheme.{padded_kind, steady_kind, starts}
use Rattle.story.specs.declared.Film.{Film}
use Rattle.story.specs.declared.Act.{Act}
use Rattle.story.specs.declared.Act.TheVariants.{Opens, Changes, Closes, Doors}
use Rattle.story.specs.declared.Event.{Event}
use Rattle.story.specs.Life.{Life, on_course, tick_by, scheme, floor_slot, is_admission, is_active, owes, Air, cell, on_air, is_held}
use Rattle.story.specs.Orders.{Tests, open_order, change_order, close_order, doors_order}
use Rattle.story.specs.Orders.{lane_order, status_order}

-- a film of some kind, with length, floor and cap
abbrev pub film_of : ℕ → ℕ → ℕ → ℕ → Film
film_of m D A K = record { kind = m; length = D; floor = A; cap = K }

-- 01, "Events": open a title on the padded grid with length, floor, cap and count
abbrev pub opens : ℕ → ℕ → ℕ → ℕ → Act
opens D A K k = Opens (film_of padded_kind D A K) k

-- 02, 12: open a skip-forward title with length and count, which is its floor and its cap
abbrev pub skips : ℕ → ℕ → Act
skips D k = Opens (film_of steady_kind D k k) k

-- 02, 7: hold the doors, or lift them

abbrev pub holds : Act
holds = Doors true

abbrev pub lifts : Act
lifts = Doors false

-- an event of title i at τ
abbrev pub event : ℕ → ℕ → Act → Event
event i τ a = record { title = i; time = τ; act = a }

-- an id that was never opened: no cells, no lanes
abbrev pub unopened : Life
unopened = record { film = film_of padded_kind 0 0 0; opened = 0; rule = λ t. 0; shut = λ t. false }

-- the title's tick in ms
abbrev pub tick_length : Life → ℕ
tick_length L = tick_by L.film

-- 02, 9: how long its card settles after an opening or a change, in ms
abbrev pub settling : Life → ℕ
settling L = floor_slot L.film

-- the tick that holds a moment: tick t begins at the opening plus t ticks
unfoldable pub tick_in : Life → ℕ → ℕ
tick_in L τ = (τ - L.opened) / tick_length L

-- the moment at which tick t begins
abbrev pub moment_of : Life → ℕ → ℕ
moment_of L t = L.opened + t * tick_length L

-- from tick n on it is k; an event's own tick belongs to what it brings
abbrev pub turn : {A : Type 0} → (ℕ → A) → ℕ → A → ℕ → A
turn r n k t = pick (leb n t) k (r t)

-- from tick n on count k rules, or the doors are held or not
abbrev pub ruled_from : Life → ℕ → ℕ → Life
ruled_from L n k = on_course L (record { rule = turn L.rule n k; shut = L.shut })

abbrev pub doors_from : Life → ℕ → Bool → Life
doors_from L n b = on_course L (record { rule = L.rule; shut = turn L.shut n b })

-- the title after an event of its own
abbrev pub life_after : Life → ℕ → Act → Life
life_after L τ (Opens f k) = record { film = f; opened = τ; rule = λ t. k; shut = λ t. false }
life_after L τ (Changes k) = ruled_from L (tick_in L τ) k
life_after L τ Closes = ruled_from L (tick_in L τ) 0
life_after L τ (Doors b) = doors_from L (tick_in L τ) b

-- the life of an id after a sequence of events
unfoldable pub life_of : List Event → ℕ → Life
life_of [] i = unopened
life_of (e ∷ es) i = pick (eqb e.title i) (life_after (life_of es i) e.time e.act) (life_of es i)

-- the time of the latest event of an id, 0 where there is none
unfoldable pub latest_of : List Event → ℕ → ℕ
latest_of [] i = 0
latest_of (e ∷ es) i = pick (eqb e.title i) e.time (latest_of es i)

-- an opening and a change set the count: they may want lanes (01, "Events"), and a card retunes after them (02, 9)
abbrev pub sets_count : Act → Bool
sets_count (Opens f k) = true
sets_count (Changes k) = true
sets_count Closes = false
sets_count (Doors b) = false

-- the time of the last opening or change of an id, 0 where there is none
unfoldable pub tuned_of : List Event → ℕ → ℕ
tuned_of [] i = 0
tuned_of (e ∷ es) i = pick (both (eqb e.title i) (sets_count e.act)) e.time (tuned_of es i)

-- the time of the last event of any title
abbrev pub last_time : List Event → ℕ
last_time [] = 0
last_time (e ∷ es) = e.time

-- the events up to a moment, those of that very moment counted
unfoldable pub up_to : ℕ → List Event → List Event
up_to τ [] = []
up_to τ (e ∷ es) = pick (leb e.time τ) (e ∷ es) (up_to τ es)

-- the ruling count of a title at a moment, 0 once it is closing
abbrev pub count_in : Life → ℕ → ℕ
count_in L τ = L.rule (tick_in L τ)

-- its doors are held at a moment
abbrev pub is_shut_in : Life → ℕ → Bool
is_shut_in L τ = L.shut (tick_in L τ)

-- 02, 7: status marks a title that is open, not closing, and held
abbrev pub is_marked_in : Life → ℕ → Bool
is_marked_in L τ = both (ltb 0 (count_in L τ)) (is_shut_in L τ)

-- what is on air on lane l of a title at a moment
abbrev pub air_in : Life → ℕ → ℕ → Air
air_in L l τ = on_air L l (tick_in L τ)

-- lane l of a title is active at a moment
abbrev pub is_active_in : Life → ℕ → ℕ → Bool
is_active_in L l τ = is_active L l (tick_in L τ)

-- lane l of a title is held at a moment
abbrev pub is_held_in : Life → ℕ → ℕ → Bool
is_held_in L l τ = is_held L l (tick_in L τ)

-- 01, "Events": the lanes of a title held at a moment, active ones and those still sending
unfoldable pub held_in : Life → ℕ → ℕ
held_in L τ = how_many (λ l. is_held_in L l τ) L.film.cap

-- the lanes held over all titles
unfoldable pub held_over : List Event → ℕ → ℕ
held_over es τ = total (λ i. held_in (life_of es i) τ) titles_max

-- 01, "Events": open, or closing with a lane not yet released
abbrev pub is_there_in : Life → ℕ → Bool
is_there_in L τ = either (ltb 0 (count_in L τ)) (ltb 0 (held_in L τ))

-- a moment that is a slot start of count k
abbrev pub is_slot_in : Life → ℕ → ℕ → Bool
is_slot_in L k τ = both (eqb ((τ - L.opened) % tick_length L) 0) (starts (scheme L) k (tick_in L τ))

-- the numbers of any event within their limits, and those of an opening besides
abbrev pub within_limits : Event → Bool
within_limits e = both (leb e.title id_max) (leb e.time event_time_max)

-- of a film on the padded grid and the count it opens with,
abbrev pub padded_limits : Film → ℕ → Bool
padded_limits f k =
    both (within length_min length_max f.length)
    (both (within floor_min floor_max f.floor) (both (within count_min count_max f.cap) (within count_min count_max k)))

-- of one that is sent as a skip-forward title, whose floor and cap are its count,
abbrev pub steady_limits : Film → ℕ → Bool
steady_limits f k =
    both (within length_min length_max f.length)
    (both (within count_min steady_max k) (both (eqb f.floor k) (eqb f.cap k)))

-- and of one of either kind
abbrev pub film_limits : Film → ℕ → Bool
film_limits f k =
    both (leb f.kind steady_kind) (pick (eqb f.kind steady_kind) (steady_limits f k) (padded_limits f k))

-- all numbers of an event within their limits, where the test b says so of those that every event has
abbrev pub act_limits : Act → Bool → Bool
act_limits (Opens f k) b = both b (film_limits f k)
act_limits (Changes k) b = both b (within count_min count_max k)
act_limits Closes b = b
act_limits (Doors d) b = b

-- which way the count of an event is wrong, for a title with floor A, cap K and count k: an opening has its own floor
-- and cap, whose order is asked besides
abbrev pub is_crossed : Act → Bool
is_crossed (Opens f n) = ltb f.cap f.floor
is_crossed (Changes n) = false
is_crossed Closes = false
is_crossed (Doors b) = false

abbrev pub is_below : Act → ℕ → Bool
is_below (Opens f n) _ = ltb n f.floor
is_below (Changes n) A = ltb n A
is_below Closes A = false
is_below (Doors b) A = false

abbrev pub is_above : Act → ℕ → Bool
is_above (Opens f n) _ = ltb f.cap n
is_above (Changes n) K = ltb K n
is_above Closes K = false
is_above (Doors b) K = false

abbrev pub is_same : Act → ℕ → Bool
is_same (Opens f n) k = false
is_same (Changes n) k = eqb n k
is_same Closes k = false
is_same (Doors b) k = false

-- the doors of a title are held as the event wants them, or not
abbrev pub is_same_doors : Act → Bool → Bool
is_same_doors (Opens f n) s = false
is_same_doors (Changes n) s = false
is_same_doors Closes s = false
is_same_doors (Doors b) s = pick b s (not s)

-- the count at whose slot starts an event is permitted, for a title with floor A and count k: the smaller count of a
-- change, the floor of a close, the ruling count of a hold and a lift; an opening may come at any time
abbrev pub permitted : Act → ℕ → ℕ → ℕ
permitted (Opens f n) _ k = n
permitted (Changes n) A k = min k n
permitted Closes A k = A
permitted (Doors b) A k = k

-- more than the pool is held after a sequence, at a moment
abbrev pub overfull : ℕ → List Event → ℕ → Bool
overfull pool es τ = ltb pool (held_over es τ)

-- what the refusals ask of an event after the accepted events es, told from es alone; L is the life of its title
abbrev pub tests_to : ℕ → List Event → Event → Life → Act → Tests
tests_to pool es e L a =
    record {
      outside = not (act_limits a (within_limits e));
      early = ltb e.time (last_time es);
      there = is_there_in L e.time;
      closing = eqb (count_in L e.time) 0;
      steady = eqb L.film.kind steady_kind;
      crossed = is_crossed a;
      below = is_below a L.film.floor;
      above = is_above a L.film.cap;
      same = is_same a (count_in L e.time);
      same_doors = is_same_doors a (is_shut_in L e.time);
      second = eqb e.time (latest_of es e.title);
      soon = ltb e.time (tuned_of es e.title + settling L);
      off = not (is_slot_in L (permitted a L.film.floor (count_in L e.time)) e.time);
      full = overfull pool (e ∷ es) e.time;
    }

-- the order of refusals by what the event does
abbrev pub order_of : Act → Tests → List Rule
order_of (Opens f k) = open_order
order_of (Changes k) = change_order
order_of Closes = close_order
order_of (Doors b) = doors_order

-- what an event is answered after the accepted events es
unfoldable pub answer_to : ℕ → List Event → Event → Life → Act → ℕ
answer_to pool es e L a = first_hit (order_of a (tests_to pool es e L a))

abbrev pub answer : ℕ → List Event → Event → ℕ
answer pool es e = answer_to pool es e (life_of es e.title) e.act

-- the accepted events after one more call: a refused one changes nothing
abbrev pub taking : ℕ → List Event → Event → List Event
taking pool es c = pick (eqb (answer pool es c) 0) (c ∷ es) es

-- of a sequence of calls, those that are accepted
unfoldable pub accepted : ℕ → List Event → List Event
accepted pool [] = []
accepted pool (c ∷ cs) = taking pool (accepted pool cs) c

-- every event of a sequence is answered 0 after those before it
pub data Accepted (pool : ℕ) : List Event → Type 0 where
  none : Accepted pool []
  more : {e : Event} {es : List Event} → Accepted pool es → answer pool es e ≡ 0 → Accepted pool (e ∷ es)

-- 01, "Numbers that calls give back": what a lane question is answered after es; the id's own latest event counts
abbrev pub lane_rules_to : List Event → ℕ → ℕ → ℕ → List Rule
lane_rules_to es i l τ =
    lane_order (not (both (leb i id_max) (both (leb l lane_max) (leb τ asked_max))))
    (ltb τ (latest_of es i))
    (not (is_held_in (life_of es i) l τ))

unfoldable pub lane_answer_to : List Event → ℕ → ℕ → ℕ → ℕ
lane_answer_to es i l τ = first_hit (lane_rules_to es i l τ)

-- what status is answered after es, over a row of ids beside rows of m, h and d places
unfoldable pub status_answer_to : List Event → ℕ → List ℕ → ℕ → ℕ → ℕ → ℕ
status_answer_to es τ ids m h d =
    first_hit
    (status_order (not (both (eqb m (length ids)) (both (eqb h (length ids)) (eqb d (length ids)))))
    (not (both (leb τ asked_max) (every (λ j. leb (get_or ids j 0) id_max) (length ids))))
    (ltb τ (last_time es)))

-- the life of an id as it stands at a moment, the events of that very moment counted
abbrev pub life_at : List Event → ℕ → ℕ → Life
life_at es i τ = life_of (up_to τ es) i

-- what is really on air on lane l of an id at a moment
abbrev pub air_at : List Event → ℕ → ℕ → ℕ → Air
air_at es i l τ = air_in (life_at es i τ) l τ

-- a moment lies in tick t of a life: from the tick's start up to, not including, the next
pub record InTick (L : Life) (t τ : ℕ) : Type 0 where
  pub from : moment_of L t ≤ τ
  pub until : τ < moment_of L (suc t)

-- a box that begins at tick a of the life L receives cell c by tick n: a lane of that title has it on air, at every moment
-- of a tick from the box's start on and no later than n, and still under the same opening
pub record ReceivedBy (es : List Event) (i : ℕ) (L : Life) (a c n : ℕ) : Type 0 where
  pub lane : ℕ
  pub tick : ℕ
  pub lane_low : lane < L.film.cap
  pub from_start : a ≤ tick
  pub by_then : tick ≤ n
  pub same_opening : (τ : ℕ) → InTick L tick τ → (life_at es i τ).opened ≡ L.opened
  pub carries : (τ : ℕ) → InTick L tick τ → air_at es i lane τ ≡ cell c

-- demand 3: by the cell's turn
abbrev pub Received : List Event → ℕ → Life → ℕ → ℕ → Type 0
Received es i L a c = ReceivedBy es i L a c (a + c)

-- a box may begin at a moment: the start of a tick that is an admission, of the life as it stands then
pub record Begins (es : List Event) (i τ a : ℕ) : Type 0 where
  pub at_start : τ ≡ moment_of (life_at es i τ) a
  pub admission : is_admission (life_at es i τ) a ≡ true

-- lane l of a life is dropped at tick s + 1, and not raised in the n ticks from then on
pub record Dropped (L : Life) (l s n : ℕ) : Type 0 where
  pub active_before : is_active L l s ≡ true
  pub not_raised : (j : ℕ) → j < n → is_active L l (suc s + j) ≡ false

-- lane l of an id is dropped at the moment τ, the start of tick s + 1, and not raised before the moment ω: each time as the
-- events up to that very moment say
pub record DropsAt (es : List Event) (i l s τ ω : ℕ) : Type 0 where
  pub at_start : τ ≡ moment_of (life_at es i τ) (suc s)
  pub active_before : is_active (life_at es i τ) l s ≡ true
  pub not_raised : (υ : ℕ) → τ ≤ υ → υ < ω → is_active_in (life_at es i υ) l υ ≡ false

-- the moment at which a lane that is dropped at tick T has sent all that it owes
abbrev pub release_of : Life → ℕ → ℕ → ℕ
release_of L l T = moment_of L (T + owes L l T)

-- none of these events opens or changes title i
pub data Untuned (i : ℕ) : List Event → Type 0 where
  none_tunes : Untuned i []
  goes_by : {e : Event} {es : List Event} → (e.title ≡ i → sets_count e.act ≡ false) → Untuned i es → Untuned i (e ∷ es)

-- none of these events is of title i at or before τ
pub data Quiet (i τ : ℕ) : List Event → Type 0 where
  nothing_new : Quiet i τ []
  elsewhere : {e : Event} {es : List Event} → (e.title ≡ i → τ < e.time) → Quiet i τ es → Quiet i τ (e ∷ es)

-- 02, 14: an event takes lanes, of a title with count k: an opening of either kind, and a change to a larger count
abbrev pub takes_lanes : Act → ℕ → Bool
takes_lanes (Opens f n) k = true
takes_lanes (Changes n) k = ltb k n
takes_lanes Closes k = false
takes_lanes (Doors b) k = false

-- two events at one moment on titles of different ids
pub record OneMoment (e f : Event) : Type 0 where
  pub same_time : e.time ≡ f.time
  pub other_title : e.title ≡ f.title → ⊥

-- e is accepted after es, and f after it
pub record BothAccepted (pool : ℕ) (es : List Event) (e f : Event) : Type 0 where
  pub first : answer pool es e ≡ 0
  pub second : answer pool (e ∷ es) f ≡ 0

-- f gets 9 after es, e is accepted all the same, and of the two f alone takes lanes
pub record WantsLanes (pool : ℕ) (es : List Event) (e f : Event) : Type 0 where
  pub nine : answer pool es f ≡ no_lanes
  pub other : answer pool es e ≡ 0
  pub takes : takes_lanes f.act (count_in (life_of es f.title) f.time) ≡ true
  pub takes_none : takes_lanes e.act (count_in (life_of es e.title) e.time) ≡ false

-- e is accepted after es, and f, which takes lanes, gets 9 after it
pub record NineAfter (pool : ℕ) (es : List Event) (e f : Event) : Type 0 where
  pub first : answer pool es e ≡ 0
  pub nine : answer pool (e ∷ es) f ≡ no_lanes
  pub takes : takes_lanes f.act (count_in (life_of es f.title) f.time) ≡ true
