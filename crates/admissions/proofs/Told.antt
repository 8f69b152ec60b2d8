-- What the code counts is what the events say: a title's tally, from an opening over each event that ends a stretch to the end of
-- the log, counts just the arrivals that the admissions of its life let in. Rests on the state telling the life of each title
-- (story's `Present`) and on the even spacing of a stretch.
use mathlib.Core.Path.{◌≡◌, refl, sym, ap, ◌∙◌}
use mathlib.Core.Bool.{Bool, true, false, not}
use mathlib.Core.Logic.{⊎_elim}
use mathlib.Core.List.{List}
use Prim.Native.Nat.{ℕ, zero, suc, ◌+◌, ◌-◌, ◌*◌, ◌%◌, ◌≤◌, ◌<◌}
use native.Mathlib.Omega.{arith}
use native.Mathlib.Nat.{mul-le-mul_right}
use borrow.Author.Tests.{ltb-true, ltb-false, eq-eqb, not-true, not-false}
use lib.Dec.{leb, ltb, eqb}
use lib.ListN.{get_or, length}
use Rattle.rules.specs.Limits.{both, asked_max}
use Rattle.rules.specs.Search.{first}
use Rattle.rules.proofs.Tests.{decide, both_r}
use Rattle.rules.proofs.Search
use Rattle.story.specs.declared.Title.{Title}
use Rattle.story.specs.Life.{Life, Course, on_course, is_admission}
use Rattle.story.specs.Kept.{is_shut, title_tick, tick_at, ruling}
use Rattle.story.specs.Story.{unopened, tick_length, tick_in, moment_of}
use Rattle.story.proofs.Admissions.{SameAt}
use Rattle.story.proofs.Clock.{on_its_tick}
use Rattle.story.specs.Calls.{blank_title}
use Rattle.story.proofs.Stored.{life_in}
use Rattle.story.proofs.Kept.{Present, tick_some, later}
use Rattle.story.proofs.Turn.{open_ruling}
use Rattle.story.proofs.Tells.{TellsTitle, absent, present, closed_none, open_some}
use Rattle.admissions.specs.declared.Tally.{Tally}
use Rattle.admissions.specs.Waits.{lets_in, TurnedAway, nobody, waited, row_max, wait_max, Tallied}
use Rattle.admissions.specs.Stretches.{Few, Playing, next_in, gathered, stretch_of, fresh_tally, ended_in, settled}
use Rattle.admissions.specs.Stretches.{all_settled, admitting}
use Rattle.admissions.proofs.Slots.{not_endless, admitting_open}
use Rattle.admissions.specs.Even.{Settled, Admits, Even}
use Rattle.admissions.proofs.LetInBelow.{plus, gathered_plus, due_below, one_below, tallied_below, one_out}
use Rattle.admissions.proofs.LetInBelow.{NoneIn, still_settled, tally_adds, tally_stays, tally_goes_on, tally_ends}
use Rattle.admissions.proofs.Even.{reached, reached_next, none_within, lets_within, none_later}
use Rattle.admissions.proofs.Even.{settled_within}

-- the tally counts the arrivals of a row that the admissions of a life below tick n let in
pub record Counted (L : Life) (n : ℕ) (xs : List ℕ) (y : Tally) : Type 0 where
  pub settles : Settled L n y.from
  pub waits : y.waits ≡ tallied_below L n xs (length xs)

-- ---- an opening, and an id that was never opened

nobody_in : (L : Life) (n : ℕ) (xs : List ℕ) → ((x a : ℕ) → a < n → lets_in L x a ≡ false) → (j : ℕ) →
    tallied_below L n xs j ≡ nobody
unfolding tallied_below
nobody_in L n xs f zero = refl
nobody_in L n xs f (suc j) =
    one_out L n (get_or xs j 0) (tallied_below L n xs j) (f (get_or xs j 0)) ∙ nobody_in L n xs f j

pub opened_counted : (L : Life) (xs : List ℕ) → Counted L 0 xs (fresh_tally L.opened)
opened_counted L xs =
    record {
      settles = record { low = omega arith; before = λ x lo h. absurd (omega arith); after = λ x late a lt. absurd (omega arith) };
      waits = sym (nobody_in L 0 xs (λ x a lt. absurd (omega arith)) (length xs));
    }

never_lets : (x : ℕ) → TurnedAway unopened x
unfolding lets_in is_admission
never_lets x a = ⊎_elim (λ t. rw t) (λ t. rw t) (decide (leb 0 x))

-- ---- another course from tick n on changes nothing below it

module _ (L : Life) (n : ℕ) (r : Course) (before : (u : ℕ) → u < n → SameAt L r u) where
  abbrev turned_life : Life
  turned_life = on_course L r

  lets_same : (x a : ℕ) → a < n → lets_in turned_life x a ≡ lets_in L x a
  unfolding lets_in is_admission
  lets_same x a lt = rw ((before a lt).rule, (before a lt).shut)

  tally_same : (xs : List ℕ) (j : ℕ) → tallied_below turned_life n xs j ≡ tallied_below L n xs j
  unfolding tallied_below one_below due_below
  tally_same xs zero = refl
  tally_same xs (suc j) =
      rw (tally_same xs j, Search.first_ext (lets_in turned_life (get_or xs j 0)) (lets_in L (get_or xs j 0)) n (lets_same (get_or xs j 0)))

  turned_counted : (xs : List ℕ) (y : Tally) → Counted L n xs y → Counted turned_life n xs y
  turned_counted xs y c =
      record {
        settles =
            record {
              low = c.settles.low;
              before = λ x lo h.
                  let got = c.settles.before x lo h in (
                    got.0,
                    got.1,
                    record {
                      lets_in_holds = lets_same x got.0 got.1 ∙ got.2.lets_in_holds;
                      none_before = λ b lt. lets_same x b (omega (arith, got.1)) ∙ got.2.none_before b lt;
                    },
                  );
              after = λ x late a lt. lets_same x a lt ∙ c.settles.after x late a lt;
            };
        waits = c.waits ∙ sym (tally_same xs (length xs));
      }

-- ---- the totals are small

-- each arrival adds one at most, and no wait beyond the last of those admissions
below_few : (L : Life) (n : ℕ) (xs : List ℕ) → ((a : ℕ) → a < n → moment_of L a ≤ wait_max) → (j : ℕ)
    → ((tallied_below L n xs j).admitted ≤ j) × ((tallied_below L n xs j).sum ≤ j * wait_max)
unfolding tallied_below one_below due_below waited
below_few L n xs f zero = (omega arith, omega arith)
below_few L n xs f (suc j) =
    let x = get_or xs j 0 in
    let a : ℕ = first (lets_in L x) n in
    let before = below_few L n xs f j in
    ⊎_elim (λ t. rw t (omega arith, omega (arith, f a (ltb-true a n t)))) (λ t. rw t (omega arith, omega arith)) (decide (ltb a n))

-- ---- a title that is there

module _ (t : Title) (r : Course) (here : Present t r) where
  abbrev since : ℕ
  since = tick_in (life_in t r) t.last

  -- the tick of a moment at the start of a tick
  starts : (τ : ℕ) → t.opened ≤ τ → (τ - t.opened) % title_tick t ≡ 0 →
      τ ≡ moment_of (life_in t r) (tick_in (life_in t r) τ)
  unfolding tick_in
  starts τ lo on = on_its_tick t.opened (title_tick t) (tick_some t r here) τ lo on

  ticks : (τ : ℕ) → t.last ≤ τ → since ≤ tick_in (life_in t r) τ
  unfolding tick_in tick_at
  ticks τ le = later t r here τ le

  rules : (u : ℕ) → since ≤ u → r.rule u ≡ ruling t
  unfolding tick_in tick_at
  rules u le = here.steady u le

  pub playing : t.mode ≡ 1 → Playing t
  playing e =
      let z = here.sized in
      record {
        sized = record { low = z.length_low; high = z.length_high };
        cut =
            record {
              low = omega (arith, z.floor_low);
              fit = omega (arith, z.count_low, z.count_high);
              high = z.cap_high;
            };
        fit = z.count_high;
        since = here.since;
        early = z.last_high;
      }

  -- an open title's stretch
  even : t.mode ≡ 1 → Even (life_in t r) (stretch_of t) since t.count
  unfolding stretch_of
  even e =
      record {
        tick_some = tick_some t r here;
        slot_some = here.ruled.laws.slot_pos t.count;
        count_some = omega (arith, open_some t r here e, open_ruling t e);
        from_opening = refl;
        slot_is = refl;
        start_is = starts t.last here.since here.on_tick;
      }

  doors : t.mode ≡ 1 → (u : ℕ) → since ≤ u → r.shut u ≡ is_shut t
  unfolding tick_in tick_at
  doors e u le = here.doors e u le

  -- a title that is closing, or held, admits nobody
  nobody_begins : admitting t ≡ false → (m : ℕ) → NoneIn (life_in t r) since m
  unfolding is_admission admitting
  nobody_begins off m b lo lt =
      ⊎_elim
      (λ e.
      let held : not (is_shut t) ≡ false = rw (eq-eqb t.mode 1 e) at off in
      rw (rules b lo, doors e b lo, not-false (is_shut t) held) (nothing (ltb 0 (ruling t))))
      (λ e. rw (rules b lo, closed_none t e))
      here.mode
    where
      nothing : (x : Bool) → both x false ≡ false
      nothing true = refl
      nothing false = refl

  -- one that admits boxes is open, and its doors are not held
  admits : admitting t ≡ true → (b : ℕ) → since ≤ b → Admits (life_in t r) t.count b
  unfolding admitting
  admits on b lo =
      let e : t.mode ≡ 1 = admitting_open t on in
      record {
        rule = rules b lo ∙ open_ruling t e;
        unheld = doors e b lo ∙ not-true (is_shut t) (both_r (eqb t.mode 1) (not (is_shut t)) on);
      }

  module _ (xs : List ℕ) (y : Tally) (c : Counted (life_in t r) since xs y) where
    -- ---- an event ends its stretch

    module _ (τ : ℕ) (late : t.last ≤ τ) (on : (τ - t.opened) % title_tick t ≡ 0) where
      abbrev until : ℕ
      until = tick_in (life_in t r) τ

      quietly : NoneIn (life_in t r) since until → Counted (life_in t r) until xs y
      quietly none =
          let still = still_settled (life_in t r) since until y.from (ticks τ late) c.settles none in
          record {
            settles = still;
            waits = c.waits ∙ sym (tally_stays (life_in t r) since until y.from (ticks τ late) c.settles still xs (length xs));
          }

      open_ends : admitting t ≡ true → Counted (life_in t r) until xs (ended_in (stretch_of t) τ xs y)
      unfolding ended_in
      open_ends on_air_holds =
          ⊎_elim
          (λ h. rw h (quietly (none_within L s since t.count ev f set until τ at up same (ltb-true (next_in s τ) (s.start + s.slot) h))))
          (λ h.
          let whole : s.start + s.slot ≤ next_in s τ = ltb-false (next_in s τ) (s.start + s.slot) h in
          let lets = lets_within L s since t.count ev f set until τ at up same whole in
          let none-on = none_later L s since t.count ev f set until τ at up same whole in
          rw h
          (record {
            settles = settled_within L s since t.count ev f set until τ at up same whole;
            waits =
                gathered_plus s f (next_in s τ - s.slot) xs y.waits (length xs)
                ∙ ap (λ w. plus w (gathered s f (next_in s τ - s.slot) xs nobody (length xs))) c.waits
                ∙ sym (tally_adds L since until f up set s (next_in s τ - s.slot) lets (λ x lo past. none-on x past) xs (length xs));
          }))
          (decide (ltb (next_in s τ) (s.start + s.slot)))
        where
          L : Life
          L = life_in t r

          s : Rattle.admissions.specs.declared.Stretch.Stretch
          s = stretch_of t

          f : ℕ
          f = y.from

          set : Settled L since f
          set = c.settles

          ev : Even L s since t.count
          ev = even (admitting_open t on_air_holds)

          up : since ≤ until
          up = ticks τ late

          at : τ ≡ moment_of L until
          at = starts τ (omega (arith, here.since)) on

          same : (b : ℕ) → since ≤ b → b < until → Admits L t.count b
          same b lo lt = admits on_air_holds b lo

      pub present_ends : Counted (life_in t r) until xs (settled t τ xs y)
      unfolding settled
      present_ends =
          ⊎_elim (λ e. rw e (open_ends e)) (λ e. rw e (quietly (nobody_begins e until))) (decide (admitting t))

    -- ---- no event follows

    pub present_stays : ((j : ℕ) → get_or xs j 0 ≤ asked_max) → Tallied (life_in t r) xs (length xs) (all_settled t xs y)
    unfolding all_settled
    present_stays low =
        ⊎_elim
        (λ e.
        let ev = even (admitting_open t e) in
        rw (e, gathered_plus (stretch_of t) y.from asked_max xs y.waits (length xs), c.waits)
        (tally_goes_on (life_in t r) since y.from c.settles xs (stretch_of t) asked_max
        (λ x late in_time.
        let got = reached (life_in t r) (stretch_of t) since t.count ev x in (
          got.tick,
          reached_next (life_in t r) (stretch_of t) since t.count ev y.from c.settles x got late (λ b lo hi. admits e b lo),
          got.moment,
        ))
        low (length xs)))
        (λ e.
        let counted : y.waits ≡ all_settled t xs y = not_endless t xs y e in
        rw (← counted, c.waits)
        (tally_ends (life_in t r) since y.from c.settles xs
        (λ x late a.
        let m : ℕ = suc (a + since) in
        (still_settled (life_in t r) since m y.from (omega arith) c.settles (nobody_begins e m)).after x late a (omega arith))
        (length xs)))
        (decide (admitting t))

    -- ---- the totals are small

    pub present_few : length xs ≤ row_max → Few (length xs) y.waits
    present_few short =
        let low = below_few (life_in t r) since xs begun (length xs) in
        record {
          row_short = short;
          admitted_few = rw c.waits (omega (arith, low.0));
          sum_low = rw c.waits (omega (arith, low.1));
        }
      where
        begun : (a : ℕ) → a < since → moment_of (life_in t r) a ≤ wait_max
        begun a lt =
            let up : a * tick_length (life_in t r) ≤ since * tick_length (life_in t r) = mul-le-mul_right (tick_length (life_in t r)) (omega arith) in
            omega (arith, starts t.last here.since here.on_tick, here.sized.last_high)

-- ---- whether it is there or not

-- an id that no event has named admits nobody
blank_admits : (t : Title) → t ≡ blank_title → admitting t ≡ false
unfolding admitting
blank_admits t g = rw g refl

module _ (L : Life) (m : ℕ) (t : Title) (told : TellsTitle L m t) where
  pub told_playing : t.mode ≡ 1 → Playing t
  told_playing = go told
    where
      go : TellsTitle L m t → t.mode ≡ 1 → Playing t
      go (absent e f g) is = absurd (omega (arith, ap (λ (z : Title). z.mode) g))
      go (present r e f p) is = playing t r p is

  module _ (xs : List ℕ) (y : Tally) (c : Counted L (tick_in L m) xs y) where
    pub told_few : length xs ≤ row_max → Few (length xs) y.waits
    told_few short = go told
      where
        go : TellsTitle L m t → Few (length xs) y.waits
        go (absent e f g) =
            let all : y.waits ≡ nobody = rw e at c.waits ∙ nobody_in unopened (tick_in unopened m) xs (λ x a lt. never_lets x a) (length xs) in
            rw all (record { row_short = short; admitted_few = omega arith; sum_low = omega arith })
        go (present r e f p) = present_few t r p xs y (rw (e, f) at c) short

    -- a turn to another count, to none, or of the doors ends a stretch
    pub told_turns : (τ : ℕ) (r : Course) → ((u : ℕ) → u < tick_in L τ → SameAt L r u) → m ≤ τ →
        0 < L.rule (tick_in L τ) → (τ - L.opened) % tick_length L ≡ 0 →
        Counted (on_course L r) (tick_in L τ) xs (settled t τ xs y)
    told_turns τ r before late open-then on =
        turned_counted L (tick_in L τ) r before xs (settled t τ xs y) (go told)
      where
        go : TellsTitle L m t → Counted L (tick_in L τ) xs (settled t τ xs y)
        go (absent e f g) = absurd (let none : 0 < 0 = rw e at open-then in omega arith)
        go (present r e f p) = rw e (present_ends t r p xs y (rw (e, f) at c) τ (omega arith) (rw e at on))

    -- no event follows
    pub told_stays : ((j : ℕ) → get_or xs j 0 ≤ asked_max) → Tallied L xs (length xs) (all_settled t xs y)
    told_stays low = go told
      where
        go : TellsTitle L m t → Tallied L xs (length xs) (all_settled t xs y)
        go (absent e f g) =
            let none : admitting t ≡ false = blank_admits t g in
            let seen : Counted unopened (tick_in unopened m) xs y = rw e at c in
            rw (e, ← not_endless t xs y none, seen.waits)
            (tally_ends unopened (tick_in unopened m) y.from seen.settles xs (λ x late. never_lets x) (length xs))
        go (present r e f p) = rw e (present_stays t r p xs y (rw (e, f) at c) low)
