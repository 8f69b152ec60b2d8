-- Part of a list has come, nobody else acting: what holds then of the state and of the wishes that are left, and that the
-- next event keeps it. Rests on reached states and on changes that are due.
use mathlib.Core.Path.{◌≡◌, refl, sym, ap, ◌∙◌}
use mathlib.Core.Bool.{true, false, not}
use mathlib.Core.Logic.{◌⊎◌, inl, inr, ⊎_elim}
use mathlib.Core.List.{List, [], ◌∷◌}
use Prim.Native.Nat.{ℕ, ◌≤◌, ◌<◌}
use native.Mathlib.Omega.{arith}
use lib.Dec.{leb, eqb}
use lib.Seq.{get_or-set_same, get_or-set_other}
use borrow.Author.Tests.{leb-true, le-ltb, not-true, eqb-true, eqb-false}
use Rattle.rules.specs.Limits.{event_time_max, titles_max}
use Rattle.rules.specs.Refusals.{no_lanes}
use Rattle.rules.proofs.Tests.{decide, both_l, both_r, either_out, fails, pick_true}
use Rattle.story.specs.declared.Title.{Title}
use Rattle.story.specs.declared.State.{State}
use Rattle.story.specs.Kept.{no_title, title_at, ruling, lanes_held}
use Rattle.story.specs.Next.{changed_title, change_next}
use Rattle.story.specs.declared.Act.TheVariants.{Changes}
use Rattle.story.specs.declared.Event.{Event}
use Rattle.story.specs.Story.{event, life_of, last_time, count_in, held_over, answer}
use Rattle.story.specs.Calls.{tests_in, status_count}
use Rattle.story.specs.Runs.{answered, lanes_of, Reached}
use Rattle.story.proofs.Pool.{takes_none, up_to_all_lem}
use Rattle.story.proofs.Reached.{run_told, run_more}
use Rattle.story.proofs.Demands.{tells_the_story, the_pool, nine_is_exact}
use Rattle.wishes.specs.Wishes.{Wish}
use Rattle.wishes.proofs.Wished.{Each, each_none, each_more, Without, Apart, apart_more, DropsFirst, raises_only, drop_next}
use Rattle.moments.specs.Moments.{is_permitted, has_lanes, is_due}
use Rattle.planner.specs.Carried.{Ready}
use Rattle.planner.proofs.Accepted.{by_lanes, accepted_when}

-- a wish that is left: a change that only its time and the lanes may refuse, to the count that its title is to have
pub record Left (goal : ℕ → ℕ) (s : State) (w : Wish) : Type 0 where
  pub ready : Ready s w.title w.count
  pub meant : w.count ≡ goal w.title

-- after the events es the state s is reached, and ws are left; every other title has the count it is to have
pub record Underway (pool : ℕ) (goal : ℕ → ℕ) (es : List Event) (s : State) (ws : List Wish) : Type 0 where
  pub run : Reached pool es s
  pub left : Each (Left goal s) ws
  pub apart : Apart ws
  pub in_order : DropsFirst (λ i. (title_at s i).count) ws
  pub brought : (i : ℕ) → i < titles_max → Without i ws → ruling (title_at s i) ≡ goal i

-- ---- of lists of wishes

-- what holds of each wish that is not of title i is carried over
each_without : {P Q : Wish → Type 0} (i : ℕ) (ws : List Wish) → Without i ws → ((w : Wish) → (w.title ≡ i → ⊥) → P w → Q w) →
    Each P ws → Each Q ws
each_without i [] each_none f each_none = each_none
each_without i (w ∷ ws) (each_more away rest) f (each_more p ps) = each_more (f w away p) (each_without i ws rest f ps)

order_without : {c d : ℕ → ℕ} (i : ℕ) (ws : List Wish) → Without i ws → ((j : ℕ) → (j ≡ i → ⊥) → d j ≡ c j) →
    DropsFirst c ws → DropsFirst d ws
order_without {c} {d} i ws away same (raises_only up) =
    raises_only (each_without i ws away (λ w other h. rw (same w.title other) h) up)
order_without {c} {d} i (w ∷ ws) (each_more other away) same (drop_next down rest) =
    drop_next {w = w} (rw (same w.title other) down) (order_without i ws away same rest)

-- a title is none of a list's, or has what each of them has
pub without_or : (P : ℕ → Type 0) (ws : List Wish) → Each (λ w. P w.title) ws → (i : ℕ) → Without i ws ⊎ P i
without_or P [] each_none i = inl each_none
without_or P (w ∷ ws) (each_more p ps) i =
    ⊎_elim (λ x. inr (rw (← eqb-true w.title i x) p))
    (λ x. ⊎_elim (λ a. inl (each_more (eqb-false w.title i x) a)) (λ q. inr q) (without_or P ws ps i))
    (decide (eqb w.title i))

-- ---- of reached states

module _ (pool : ℕ) (es : List Event) (s : State) (run : Reached pool es s) where
  pub pool_is : s.pool ≡ lanes_of pool
  pool_is = (run_told pool es s run).tells.pool

  -- no more than the pool is held from the last event on
  pub held_fits : (τ : ℕ) → s.last ≤ τ → lanes_held s τ ≤ s.pool
  held_fits τ late =
      let told = (run_told pool es s run).tells in
      let after : last_time es ≤ τ = omega (arith, told.last) in
      omega (arith, pool_is, (tells_the_story pool es s run).all_held τ after, rw (up_to_all_lem τ es after) at (the_pool pool es s run τ))

  -- a drop needs no lanes: one that got 9 would hold more than the pool, and it holds no lane more than is held before it
  drop_fits : (i k τ : ℕ) → Ready s i k → s.last ≤ τ → τ ≤ event_time_max → is_permitted s i k τ ≡ true → k ≤ (title_at s i).count →
      (tests_in s i τ (Changes k)).full ≡ false
  unfolding ruling
  drop_fits i k τ r late clock p down =
      let e : Event = event i τ (Changes k) in
      let after : last_time es ≤ τ = omega (arith, (run_told pool es s run).tells.last) in
      let count : status_count s i ≡ count_in (life_of es i) τ = (tells_the_story pool es s run).every_count i τ r.an_id after in
      let rules : ruling (title_at s i) ≡ (title_at s i).count = rw r.is_open refl in
      let no_more : held_over (e ∷ es) τ ≤ held_over es τ =
      takes_none es i τ (Changes k) (le-ltb (count_in (life_of es i) τ) k (omega arith)) in
      fails (tests_in s i τ (Changes k)).full
      (λ x.
      let got : answered s e ≡ no_lanes = by_lanes s i k r τ late clock p ∙ pick_true (tests_in s i τ (Changes k)).full no_lanes 0 x in
      let answers : answered s e ≡ answer (lanes_of pool) es e = (tells_the_story pool es s run).every_answer e in
      let short : lanes_of pool < held_over (e ∷ es) τ = (nine_is_exact pool es s run).nine e (sym answers ∙ got) in
      omega (arith, held_fits τ late, pool_is, (tells_the_story pool es s run).all_held τ after))

  -- a change that is due in the clock is accepted
  pub due_accepted : (i k τ : ℕ) → Ready s i k → s.last ≤ τ → τ ≤ event_time_max → is_due s i k τ ≡ true →
      answered s (event i τ (Changes k)) ≡ 0
  unfolding is_due has_lanes
  due_accepted i k τ r late clock due =
      let p = both_l (is_permitted s i k τ) (has_lanes s i k τ) due in
      let lanes = both_r (is_permitted s i k τ) (has_lanes s i k τ) due in
      accepted_when s i k r τ late clock p
      (⊎_elim (λ x. drop_fits i k τ r late clock p (leb-true k (title_at s i).count x))
      (λ x. not-true (tests_in s i τ (Changes k)).full x)
      (either_out (leb k (title_at s i).count) (not (tests_in s i τ (Changes k)).full) lanes))

  -- the titles after a change
  pub own_title : (i k τ : ℕ) → i < titles_max → title_at (change_next s i τ k) i ≡ changed_title (title_at s i) τ k
  own_title i k τ b =
      get_or-set_same s.titles i (changed_title (title_at s i) τ k) no_title (omega (arith, (run_told pool es s run).tells.slots))

pub other_title : (s : State) (i j k τ : ℕ) → (j ≡ i → ⊥) → title_at (change_next s i τ k) j ≡ title_at s j
other_title s i j k τ ne = get_or-set_other s.titles i j (changed_title (title_at s i) τ k) no_title ne

changed_rules : (t : Title) (τ k : ℕ) → ruling (changed_title t τ k) ≡ k
unfolding ruling changed_title
changed_rules t τ k = refl

-- ---- the next event of a list

-- a wish as an event, and the state that it leaves
abbrev pub wish_event : Wish → ℕ → Event
wish_event w τ = event w.title τ (Changes w.count)

abbrev pub wish_next : State → Wish → ℕ → State
wish_next s w τ = change_next s w.title τ w.count

module _ (pool : ℕ) (goal : ℕ → ℕ) (es : List Event) (s : State) (w : Wish) (ws : List Wish) (τ : ℕ)
    (comes : answered s (wish_event w τ) ≡ 0) where
  next_run : Reached pool es s → Reached pool (wish_event w τ ∷ es) (wish_next s w τ)
  next_run run = run_more pool es s run (wish_event w τ) (sym ((tells_the_story pool es s run).every_answer (wish_event w τ)) ∙ comes)

  -- a wish of another title is left as it was
  next_left : Reached pool es s → (v : Wish) → (v.title ≡ w.title → ⊥) → Left goal s v → Left goal (wish_next s w τ) v
  next_left run v ne l =
      let same = other_title s w.title v.title w.count τ ne in
      let r = l.ready in
      record {
        ready = record {
          ok = (tells_the_story pool (wish_event w τ ∷ es) (wish_next s w τ) (next_run run)).sound;
          an_id = r.an_id;
          is_open = rw same r.is_open;
          padded = rw same r.padded;
          low = rw same r.low;
          high = rw same r.high;
          other = rw same r.other;
        };
        meant = l.meant;
      }

  next_brought : Underway pool goal es s (w ∷ ws) → w.count ≡ goal w.title → (i : ℕ) → i < titles_max → Without i ws →
      ruling (title_at (wish_next s w τ) i) ≡ goal i
  next_brought u meant i b away =
      ⊎_elim
      (λ x.
      let e : w.title ≡ i = eqb-true w.title i x in
      ap (λ j. ruling (title_at (wish_next s w τ) j)) (sym e)
      ∙ ap ruling (own_title pool es s u.run w.title w.count τ (rw e b))
      ∙ changed_rules (title_at s w.title) τ w.count
      ∙ meant
      ∙ ap goal e)
      (λ x.
      let ne : w.title ≡ i → ⊥ = eqb-false w.title i x in
      ap ruling (other_title s w.title i w.count τ (λ q. ne (sym q))) ∙ u.brought i b (each_more ne away))
      (decide (eqb w.title i))

  -- what is left of a list in its order is in its order
  rest_order : (c : ℕ → ℕ) → DropsFirst c (w ∷ ws) → DropsFirst c ws
  rest_order c (raises_only (each_more up rest)) = raises_only rest
  rest_order c (drop_next down rest) = rest

  pub onward : Underway pool goal es s (w ∷ ws) → Underway pool goal (wish_event w τ ∷ es) (wish_next s w τ) ws
  onward u = go u.left u.apart
    where
      go : Each (Left goal s) (w ∷ ws) → Apart (w ∷ ws) → Underway pool goal (wish_event w τ ∷ es) (wish_next s w τ) ws
      go (each_more l ls) (apart_more away rest) =
          record {
            run = next_run u.run;
            left = each_without w.title ws away (next_left u.run) ls;
            apart = rest;
            in_order = order_without w.title ws away
                (λ j ne. ap (λ (t : Title). t.count) (other_title s w.title j w.count τ ne))
                (rest_order (λ i. (title_at s i).count) u.in_order);
            brought = next_brought u l.meant;
          }
