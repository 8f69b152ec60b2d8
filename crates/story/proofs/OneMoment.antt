-- Two events at one moment on titles of different ids (02, 14). Either order tells every title alike, and leaves the same state:
-- each event reads and writes its own slot. Whatever else is asked of an event, the other changes the lanes held alone; so where
-- one order accepts both, the other can refuse only an event that takes lanes, and with 9. Rests on what accepted events have
-- passed and on the pool.
use mathlib.Core.Path.{◌≡◌, refl, sym, ap, ◌∙◌}
use mathlib.Core.Bool.{Bool, true, false, false≢true}
use mathlib.Core.Logic.{◌⊎◌, inl, inr, ⊎_elim}
use mathlib.Core.List.{List, [], ◌∷◌, ◌++◌}
use Prim.Native.Nat.{ℕ, ◌≤◌, ◌<◌}
use native.Mathlib.Omega.{arith}
use lib.Dec.{leb, ltb, eqb}
use lib.ListN.{set}
use lib.Seq.{get_or-set_other, set_comm}
use borrow.Author.Tests.{le-ltb, ltb-true, ltb-false, eqb-true, eq-eqb, ne_eqb}
use Rattle.rules.specs.Limits.{titles_max, pool_max}
use Rattle.rules.specs.Refusals.{pick, Rule, refuse, first_hit, before, no_lanes}
use Rattle.rules.proofs.Tests.{decide, either_false_r, fails, pick_true}
use Rattle.rules.proofs.Refusals.{numbered, hit_append, none_first}
use Rattle.rules.proofs.Search
use Rattle.story.specs.declared.Title.{Title}
use Rattle.story.specs.declared.State.{State}
use Rattle.story.specs.Life.{Life}
use Rattle.story.specs.Orders.{Tests, open_order, change_order}
use Rattle.story.specs.Kept.{no_title, title_at}
use Rattle.story.specs.Next.{next_title, with_title, call_next}
use Rattle.story.specs.declared.Act.{Act}
use Rattle.story.specs.declared.Act.TheVariants.{Opens, Changes, Closes, Doors}
use Rattle.story.specs.declared.Event.{Event}
use Rattle.story.specs.Story.{event, life_after, life_of, latest_of, tuned_of}
use Rattle.story.specs.Story.{last_time, up_to, count_in, held_in, held_over, overfull, tests_to, order_of, answer_to, answer}
use Rattle.story.specs.Story.{takes_lanes, Accepted, more, lane_answer_to, status_answer_to, air_in}
use Rattle.story.specs.Story.{OneMoment, BothAccepted, WantsLanes, NineAfter}
use Rattle.story.specs.Runs.{answered, called, BothCalled}
use Rattle.story.specs.Demands.{EitherOrder}
use Rattle.story.proofs.Passed.{opening, in_order}
use Rattle.story.proofs.Pool.{more_held, raises, takes_none, up_to_all_lem, never_exceeded}

-- two sequences that say the same of every id and have the same last time
pub record Alike (es fs : List Event) : Type 0 where
  pub life : (i : ℕ) → life_of es i ≡ life_of fs i
  pub latest : (i : ℕ) → latest_of es i ≡ latest_of fs i
  pub tuned : (i : ℕ) → tuned_of es i ≡ tuned_of fs i
  pub last : last_time es ≡ last_time fs

alike_same : (es : List Event) → Alike es es
alike_same es = record { life = λ i. refl; latest = λ i. refl; tuned = λ i. refl; last = refl }

-- and do so after one more event
alike_more : (d : Event) (es fs : List Event) → Alike es fs → Alike (d ∷ es) (d ∷ fs)
unfolding life_of latest_of tuned_of
alike_more d es fs w =
    record {
      life = λ i. rw (w.life i) refl;
      latest = λ i. rw (w.latest i) refl;
      tuned = λ i. rw (w.tuned i) refl;
      last = refl;
    }

alike_after : (new es fs : List Event) → Alike es fs → Alike (new ++ es) (new ++ fs)
alike_after [] es fs w = w
alike_after (d ∷ new) es fs w = alike_more d (new ++ es) (new ++ fs) (alike_after new es fs w)

-- so are the events up to a moment, if they are so of what came before
alike_up_to : (τ : ℕ) (new es fs : List Event) → Alike es fs → Alike (up_to τ es) (up_to τ fs) →
    Alike (up_to τ (new ++ es)) (up_to τ (new ++ fs))
unfolding up_to
alike_up_to τ [] es fs w v = v
alike_up_to τ (d ∷ new) es fs w v =
    ⊎_elim (λ x. rw x (alike_after (d ∷ new) es fs w)) (λ x. rw x (alike_up_to τ new es fs w v)) (decide (leb d.time τ))

-- what is told of two such sequences is the same
module _ (es fs : List Event) (w : Alike es fs) where
  alike_held : (τ : ℕ) → held_over es τ ≡ held_over fs τ
  unfolding held_over
  alike_held τ =
      Search.total_ext (λ i. held_in (life_of es i) τ) (λ i. held_in (life_of fs i) τ) titles_max
      (λ i b. ap (λ L. held_in L τ) (w.life i))

  alike_lane : (i l τ : ℕ) → lane_answer_to es i l τ ≡ lane_answer_to fs i l τ
  unfolding lane_answer_to
  alike_lane i l τ = rw (w.life i, w.latest i) refl

  alike_status : (τ : ℕ) (ids : List ℕ) (m h d : ℕ) → status_answer_to es τ ids m h d ≡ status_answer_to fs τ ids m h d
  unfolding status_answer_to
  alike_status τ ids m h d = rw w.last refl

alike_answer : (lanes : ℕ) (es fs : List Event) → Alike es fs → (d : Event) → answer lanes es d ≡ answer lanes fs d
unfolding answer_to
alike_answer lanes es fs w d =
    let held = alike_held (d ∷ es) (d ∷ fs) (alike_more d es fs w) d.time in
    rw (w.life d.title, w.latest d.title, w.tuned d.title, w.last, held) refl

pub alike_accepted : (lanes : ℕ) (new es fs : List Event) → Alike es fs → Accepted lanes fs → Accepted lanes (new ++ es) →
    Accepted lanes (new ++ fs)
alike_accepted lanes [] es fs w acc before = acc
alike_accepted lanes (d ∷ new) es fs w acc (more before h) =
    more (alike_accepted lanes new es fs w acc before)
    (sym (alike_answer lanes (new ++ es) (new ++ fs) (alike_after new es fs w) d) ∙ h)

-- an event of another id leaves what is told of an id
module _ (d : Event) (es : List Event) (i : ℕ) (other : d.title ≡ i → ⊥) where
  other_life : life_of (d ∷ es) i ≡ life_of es i
  unfolding life_of
  other_life = rw (ne_eqb d.title i other) refl

  other_latest : latest_of (d ∷ es) i ≡ latest_of es i
  unfolding latest_of
  other_latest = rw (ne_eqb d.title i other) refl

  other_tuned : tuned_of (d ∷ es) i ≡ tuned_of es i
  unfolding tuned_of
  other_tuned = rw (ne_eqb d.title i other) refl

module _ (e f : Event) (es : List Event) (at : OneMoment e f) where
  -- at most one of the two is of an id
  one_of : (i : ℕ) → ((eqb f.title i ≡ true) × (eqb e.title i ≡ false)) ⊎ (eqb f.title i ≡ false)
  one_of i =
      ⊎_elim (λ x. inl (x, ne_eqb e.title i (λ y. at.other_title (y ∙ sym (eqb-true f.title i x))))) inr
      (decide (eqb f.title i))

  -- so the two orders tell every id alike
  pub either_way : Alike (f ∷ e ∷ es) (e ∷ f ∷ es)
  unfolding life_of latest_of tuned_of
  either_way =
      record {
        life = λ i. ⊎_elim (λ x. rw (x.0, x.1) refl) (λ x. rw x refl) (one_of i);
        latest = λ i. ⊎_elim (λ x. rw (x.0, x.1) refl) (λ x. rw x refl) (one_of i);
        tuned = λ i. ⊎_elim (λ x. rw (x.0, x.1) refl) (λ x. rw x refl) (one_of i);
        last = sym at.same_time;
      }

  -- and the events up to a moment have both or neither
  either_up_to : (τ : ℕ) → Alike (up_to τ (f ∷ e ∷ es)) (up_to τ (e ∷ f ∷ es))
  unfolding up_to
  either_up_to τ =
      ⊎_elim (λ x. rw (x, rw at.same_time at x) either_way)
      (λ x. rw (x, rw at.same_time at x) (alike_same (up_to τ es)))
      (decide (leb e.time τ))

  -- whatever follows, as a whole and up to a moment
  pub either_after : (new : List Event) → Alike (new ++ f ∷ e ∷ es) (new ++ e ∷ f ∷ es)
  either_after new = alike_after new (f ∷ e ∷ es) (e ∷ f ∷ es) either_way

  pub either_then : (new : List Event) (τ : ℕ) → Alike (up_to τ (new ++ f ∷ e ∷ es)) (up_to τ (new ++ e ∷ f ∷ es))
  either_then new τ = alike_up_to τ new (f ∷ e ∷ es) (e ∷ f ∷ es) either_way (either_up_to τ)

-- so every question of the sequence is answered alike, whatever follows the two
pub told_alike : EitherOrder
told_alike es e f at new =
    let one : List Event = new ++ f ∷ e ∷ es in
    let other : List Event = new ++ e ∷ f ∷ es in
    let after : Alike one other = either_after e f es at new in
    record {
      later_answer = λ lanes. alike_answer lanes one other after;
      later_lane = alike_lane one other after;
      later_status = alike_status one other after;
      later_held = λ τ. alike_held (up_to τ one) (up_to τ other) (either_then e f es at new τ) τ;
      later_life = λ i τ. (either_then e f es at new τ).life i;
      later_air = λ i l τ. ap (λ L. air_in L l τ) ((either_then e f es at new τ).life i);
    }

-- what the refusals ask, with another word on the lanes
abbrev with_lanes : Tests → Bool → Tests
with_lanes t b =
    record {
      outside = t.outside;
      early = t.early;
      there = t.there;
      closing = t.closing;
      steady = t.steady;
      crossed = t.crossed;
      below = t.below;
      above = t.above;
      same = t.same;
      same_doors = t.same_doors;
      second = t.second;
      soon = t.soon;
      off = t.off;
      full = b;
    }

-- 9 is asked last
lastly : (xs : List Rule) (b c : Bool) → numbered xs ≡ true → first_hit (xs ++ refuse no_lanes c ∷ []) ≡ 0 →
    first_hit (xs ++ refuse no_lanes b ∷ []) ≡ pick b no_lanes 0
unfolding first_hit
lastly xs b c some h =
    hit_append xs (refuse no_lanes b ∷ []) some ∙ rw (none_first xs (refuse no_lanes c ∷ []) some h) refl

asked_last : (xs : List Rule) (b c : Bool) → numbered xs ≡ true → first_hit (xs ++ refuse no_lanes c ∷ []) ≡ 0 →
    (first_hit (xs ++ refuse no_lanes b ∷ []) ≡ 0) ⊎ ((first_hit (xs ++ refuse no_lanes b ∷ []) ≡ no_lanes) × (b ≡ true))
asked_last xs true c some h = inr (lastly xs true c some h, refl)
asked_last xs false c some h = inl (lastly xs false c some h)

-- so an event that passes is answered 0 or 9 where nothing but the lanes differs, and 9 only where they are short
lanes_alone : (a : Act) (t : Tests) (b : Bool) → first_hit (order_of a t) ≡ 0 →
    (first_hit (order_of a (with_lanes t b)) ≡ 0) ⊎ ((first_hit (order_of a (with_lanes t b)) ≡ no_lanes) × (b ≡ true))
unfolding numbered
lanes_alone (Opens f k) t b h = asked_last (before no_lanes (open_order t)) b t.full refl h
lanes_alone (Changes k) t b h = asked_last (before no_lanes (change_order t)) b t.full refl h
lanes_alone Closes t b h = inl h
lanes_alone (Doors d) t b h = inl h

-- an event accepted after fs, asked after es that say the same of its id, and no later than it
module _ (lanes : ℕ) (es fs : List Event) (d : Event) (life : life_of es d.title ≡ life_of fs d.title)
    (latest : latest_of es d.title ≡ latest_of fs d.title) (tuned : tuned_of es d.title ≡ tuned_of fs d.title)
    (late : last_time es ≤ d.time) (was : answer lanes fs d ≡ 0) where
  tests_alone : tests_to lanes es d (life_of es d.title) d.act
      ≡ with_lanes (tests_to lanes fs d (life_of fs d.title) d.act) (overfull lanes (d ∷ es) d.time)
  tests_alone =
      rw (
        life,
        latest,
        tuned,
        le-ltb d.time (last_time es) late,
        le-ltb d.time (last_time fs) (in_order lanes fs d.title d.time d.act was).late,
      ) refl

  fits_or_nine : (answer lanes es d ≡ 0) ⊎ ((answer lanes es d ≡ no_lanes) × (lanes < held_over (d ∷ es) d.time))
  unfolding answer_to
  fits_or_nine =
      let t : Tests = tests_to lanes fs d (life_of fs d.title) d.act in
      let told = ap (λ u. first_hit (order_of d.act u)) tests_alone in
      ⊎_elim (λ x. inl (told ∙ x))
      (λ x. inr (told ∙ x.0, ltb-true lanes (held_over (d ∷ es) d.time) x.1))
      (lanes_alone d.act t (overfull lanes (d ∷ es) d.time) was)

-- an accepted event that takes lanes leaves its title with no fewer
taken_held : (lanes : ℕ) (es : List Event) (i τ : ℕ) (a : Act) → answer_to lanes es (event i τ a) (life_of es i) a ≡ 0 →
    takes_lanes a (count_in (life_of es i) τ) ≡ true → held_in (life_of es i) τ ≤ held_in (life_after (life_of es i) τ a) τ
taken_held lanes es i τ (Opens f k) h x =
    let L : Life = life_of es i in
    let away : ltb 0 (held_in L τ) ≡ false = either_false_r (ltb 0 (count_in L τ)) (ltb 0 (held_in L τ)) (opening lanes es i τ f k h).away in
    omega (arith, ltb-false 0 (held_in L τ) away)
taken_held lanes es i τ (Changes k) h x =
    more_held (life_of es i) τ k (omega (arith, ltb-true (count_in (life_of es i) τ) k x))
taken_held lanes es i τ Closes h x = absurd (false≢true x)
taken_held lanes es i τ (Doors b) h x = absurd (false≢true x)

-- e and then f are accepted: what the other order does
module _ (lanes : ℕ) (high : lanes ≤ pool_max) (es : List Event) (acc : Accepted lanes es) (e f : Event) (at : OneMoment e f)
    (both : BothAccepted lanes es e f) where
  late : last_time es ≤ e.time
  late = (in_order lanes es e.title e.time e.act both.first).late

  before_fit : held_over es f.time ≤ lanes
  before_fit =
      rw (up_to_all_lem f.time es (omega (arith, at.same_time, late))) at
      (never_exceeded lanes es high acc f.time)

  both_fit : held_over (e ∷ f ∷ es) e.time ≤ lanes
  both_fit =
      let then : Accepted lanes (f ∷ e ∷ es) = more (more acc both.first) both.second in
      let fit : held_over (f ∷ e ∷ es) e.time ≤ lanes =
      rw (up_to_all_lem e.time (f ∷ e ∷ es) (omega (arith, at.same_time))) at (never_exceeded lanes (f ∷ e ∷ es) high then e.time) in
      omega (arith, alike_held (f ∷ e ∷ es) (e ∷ f ∷ es) (either_way e f es at) e.time)

  -- the first of it is accepted, or gets 9
  first_asked : (answer lanes es f ≡ 0) ⊎ ((answer lanes es f ≡ no_lanes) × (lanes < held_over (f ∷ es) f.time))
  first_asked =
      let other = at.other_title in
      fits_or_nine lanes es (e ∷ es) f (sym (other_life e es f.title other)) (sym (other_latest e es f.title other))
      (sym (other_tuned e es f.title other)) (omega (arith, at.same_time, late)) both.second

  -- the second fits: with both as many lanes are held in either order
  second_fits : answer lanes (f ∷ es) e ≡ 0
  second_fits =
      let other : f.title ≡ e.title → ⊥ = λ x. at.other_title (sym x) in
      ⊎_elim (λ x. x)
      (λ x. absurd (omega (arith, both_fit, x.1)))
      (fits_or_nine lanes (f ∷ es) es e (other_life f es e.title other) (other_latest f es e.title other)
      (other_tuned f es e.title other) (omega (arith, at.same_time)) both.first)

  -- one that gets 9 takes lanes,
  wants : lanes < held_over (f ∷ es) f.time → takes_lanes f.act (count_in (life_of es f.title) f.time) ≡ true
  wants short =
      ⊎_elim (λ x. x) (λ x. absurd (omega (arith, takes_none es f.title f.time f.act x, before_fit)))
      (decide (takes_lanes f.act (count_in (life_of es f.title) f.time)))

  -- and the other doesn't: else the two would not fit in either order
  frees : lanes < held_over (f ∷ es) f.time → takes_lanes e.act (count_in (life_of es e.title) e.time) ≡ false
  frees short =
      fails (takes_lanes e.act (count_in (life_of es e.title) e.time))
      (λ x.
      let own = taken_held lanes es e.title e.time e.act both.first x in
      let same = other_life f es e.title (λ y. at.other_title (sym y)) in
      let rise : held_over (f ∷ es) e.time ≤ held_over (e ∷ f ∷ es) e.time =
      raises (f ∷ es) e.title e.time e.act (rw same own) in
      omega (arith, rise, both_fit, ap (held_over (f ∷ es)) at.same_time))

  -- 02, 14: so the other order accepts both too, or it refuses only the event that takes lanes, and with 9
  pub other_order : BothAccepted lanes es f e ⊎ WantsLanes lanes es e f
  other_order =
      ⊎_elim (λ x. inl (record { first = x; second = second_fits }))
      (λ x. inr (record { nine = x.0; other = both.first; takes = wants x.1; takes_none = frees x.1 }))
      first_asked

-- either is accepted alone, and not f after e: f gets 9, and takes lanes
module _ (lanes : ℕ) (high : lanes ≤ pool_max) (es : List Event) (acc : Accepted lanes es) (e f : Event) (at : OneMoment e f)
    (one : answer lanes es e ≡ 0) (other : answer lanes es f ≡ 0) (not_both : BothAccepted lanes es e f → ⊥) where
  one_fits : held_over (e ∷ es) f.time ≤ lanes
  one_fits =
      rw (up_to_all_lem f.time (e ∷ es) (omega (arith, at.same_time))) at
      (never_exceeded lanes (e ∷ es) high (more acc one) f.time)

  nine_after : NineAfter lanes es e f
  nine_after =
      let same = other_life e es f.title at.other_title in
      ⊎_elim (λ x. absurd (not_both (record { first = one; second = x })))
      (λ x.
      let count : takes_lanes f.act (count_in (life_of (e ∷ es) f.title) f.time) ≡ true =
      ⊎_elim (λ y. y) (λ y. absurd (omega (arith, takes_none (e ∷ es) f.title f.time f.act y, one_fits, x.1)))
      (decide (takes_lanes f.act (count_in (life_of (e ∷ es) f.title) f.time))) in
      record { first = one; nine = x.0; takes = rw same at count })
      (fits_or_nine lanes (e ∷ es) es f same (other_latest e es f.title at.other_title)
      (other_tuned e es f.title at.other_title) (omega (arith, at.same_time)) other)

-- so it is in either order: else the two would fit
pub room_for_one_of_two : (lanes : ℕ) → lanes ≤ pool_max → (es : List Event) → Accepted lanes es → (e f : Event) →
    OneMoment e f → answer lanes es e ≡ 0 → answer lanes es f ≡ 0 → (BothAccepted lanes es e f → ⊥) →
    NineAfter lanes es e f × NineAfter lanes es f e
room_for_one_of_two lanes high es acc e f at one other not_both =
    let round : OneMoment f e = record { same_time = sym at.same_time; other_title = λ x. at.other_title (sym x) } in (
      nine_after lanes high es acc e f at one other not_both,
      nine_after lanes high es acc f e round other one
          (λ both. ⊎_elim not_both (λ w. absurd (omega (arith, w.nine, one))) (other_order lanes high es acc f e round both)),
    )

-- each event reads and writes its own slot
abbrev after_in : State → Event → Title
after_in s e = next_title (title_at s e.title) e.time e.act

in_turn : (s : State) (e f : Event) → (f.title ≡ e.title → ⊥) →
    call_next (call_next s e.title e.time e.act) f.title f.time f.act
    ≡ record {
      pool = s.pool;
      last = f.time;
      titles = set (set s.titles e.title (after_in s e)) f.title (after_in s f);
    }
in_turn s e f other =
    let t : Title = after_in s e in
    let u : State = with_title s e.title t e.time in
    ap (λ x. with_title u f.title (next_title x f.time f.act) f.time)
    (get_or-set_other s.titles e.title f.title t no_title other)

-- so the two orders leave the same state
pub one_state : (s : State) (e f : Event) → OneMoment e f →
    call_next (call_next s e.title e.time e.act) f.title f.time f.act
    ≡ call_next (call_next s f.title f.time f.act) e.title e.time e.act
one_state s e f at =
    let swapped = set_comm s.titles e.title f.title (after_in s e) (after_in s f) at.other_title in
    in_turn s e f (λ x. at.other_title (sym x))
    ∙ (λ j. record { pool = s.pool; last = sym at.same_time j; titles = swapped j })
    ∙ sym (in_turn s f e at.other_title)

-- the state that two accepted calls leave
taken : (s : State) (e : Event) → answered s e ≡ 0 → called s e ≡ call_next s e.title e.time e.act
taken s e h =
    pick_true (eqb (answered s e) 0) (call_next s e.title e.time e.act) s (eq-eqb (answered s e) 0 h)

pub both_called : (s : State) (e f : Event) → BothCalled s e f →
    called (called s e) f ≡ call_next (call_next s e.title e.time e.act) f.title f.time f.act
both_called s e f both =
    taken (called s e) f both.second
    ∙ ap (λ u. call_next u f.title f.time f.act) (taken s e both.first)
