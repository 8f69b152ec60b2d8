-- What is kept of a title's own events is what its life says: of anything that follows its accepted events, one after the other, that
-- holds of the life that a log's accepted events alone decide. Rests on the agent following those events (`told_follows`), and on the
-- state telling the life of each title (story's `Tells`).
use mathlib.Core.Path.{◌≡◌, sym, ◌∙◌}
use mathlib.Core.Bool.{Bool, true, false}
use mathlib.Core.Logic.{⊎_elim}
use mathlib.Core.List.{List, [], ◌∷◌, map}
use Prim.Native.Nat.{ℕ, suc, ◌-◌, ◌%◌, ◌≤◌, ◌<◌}
use native.Mathlib.Nat.{sub_self, zero-div}
use native.Mathlib.Omega.{arith}
use borrow.Author.Tests.{eqb-true, eq-eqb}
use lib.Dec.{ltb, eqb}
use lib.ListN.{length}
use Rattle.rules.specs.Limits.{both, id_max}
use Rattle.rules.specs.Refusals.{pick, out_of_turn}
use Rattle.rules.proofs.Tests.{decide, either_false_l}
use Rattle.notice.specs.declared.Notice.{Notice}
use Rattle.story.specs.declared.Title.{Title}
use Rattle.story.specs.declared.State.{State}
use Rattle.story.specs.Kept.{open_mode, title_at, title_held, is_there, state_ok}
use Rattle.story.specs.Life.{Life, Course, on_course}
use Rattle.story.specs.declared.Act.{Act}
use Rattle.story.specs.declared.Act.TheVariants.{Opens, Changes, Closes, Doors}
use Rattle.story.specs.declared.Event.{Event}
use Rattle.story.specs.Story.{event, unopened, life_after, life_of, latest_of, last_time, tick_length, tick_in, is_there_in, answer}
use Rattle.story.specs.Runs.{lanes_of}
use Rattle.story.proofs.Admissions.{SameAt}
use Rattle.story.proofs.Passed.{Turned, opening, changing, closing, doored}
use Rattle.story.proofs.Boxes.{course_after, same_before}
use Rattle.story.proofs.Tells.{TellsTitle, absent, present, count_told, closed_none, there_told}
use Rattle.story.proofs.Runs.{Told, lanes_limit, sound_state}
use Rattle.story.proofs.Reached.{run_told}
use Rattle.agent.specs.Turns.{event_of, fresh_agent}
use Rattle.agent.specs.Series.{Hearing}
use Rattle.agent.specs.Played.{agent_told, heard_of, ReadAs, none_read, one_read}
use Rattle.agent.proofs.Played.{told_follows, told_notice}
use Rattle.logs.specs.Reading.{kept_told, heard_own, by_mode}

-- ---- whether an accepted event finds its title open

module _ (L : Life) (m : ℕ) (t : Title) (told : TellsTitle L m t) (τ : ℕ) (late : m ≤ τ) where
  -- a title that some count rules is open,
  is_open : 0 < L.rule (tick_in L τ) → t.mode ≡ open_mode
  is_open some = go told
    where
      go : TellsTitle L m t → t.mode ≡ open_mode
      go (absent e f g) = absurd (let none : 0 < 0 = rw e at some in omega arith)
      go (present r e f p) =
          ⊎_elim (λ x. x) (λ x. absurd (omega (arith, closed_none t x, count_told L m t τ told late))) p.mode

  -- and one whose id can be opened is not
  not_open : is_there_in L τ ≡ false → eqb t.mode open_mode ≡ false
  unfolding is_there
  not_open away = either_false_l (eqb t.mode open_mode) (ltb 0 (title_held t τ)) (sym (there_told L m t τ told late) ∙ away)

-- ---- what follows a title's events

-- P is said of a title's life up to a tick, and of what is kept: it holds from an opening on, and whatever turns the course of an open
-- title keeps it
pub record FollowsLife {A : Type 0} (P : Life → ℕ → A → Type 0) (turns : Title → ℕ → A → A) (opens : ℕ → A → A) : Type 0 where
  pub at_opening : (L : Life) (y : A) → P L 0 (opens L.opened y)
  pub at_turn : (L : Life) (m : ℕ) (t : Title) → TellsTitle L m t → (y : A) → P L (tick_in L m) y → (τ : ℕ) (r : Course) →
      ((u : ℕ) → u < tick_in L τ → SameAt L r u) → m ≤ τ → 0 < L.rule (tick_in L τ) → (τ - L.opened) % tick_length L ≡ 0 →
      P (on_course L r) (tick_in L τ) (turns t τ y)

-- the tick of an opening, and of an id that no event has named
first_tick : (L : Life) → tick_in L L.opened ≡ 0
unfolding tick_in
first_tick L = rw sub_self (zero-div (tick_length L))

module _ {A : Type 0} (P : Life → ℕ → A → Type 0) (turns : Title → ℕ → A → A) (opens : ℕ → A → A) (w : FollowsLife P turns opens) where
  -- said of the title's life up to its latest event
  abbrev KeptIn : List Event → ℕ → A → Type 0
  KeptIn es i y = P (life_of es i) (tick_in (life_of es i) (latest_of es i)) y

  module _ (lanes : ℕ) (es : List Event) (i : ℕ) (t : Title) (y : A) (told : TellsTitle (life_of es i) (latest_of es i) t)
      (newest : latest_of es i ≤ last_time es) (c : KeptIn es i y) where
    turned : (τ : ℕ) (a : Act) → Turned es i τ →
        P (on_course (life_of es i) (course_after (life_of es i) (tick_in (life_of es i) τ) a)) (tick_in (life_of es i) τ) (by_mode turns opens t τ y)
    turned τ a z =
        let L : Life = life_of es i in
        let late : latest_of es i ≤ τ = omega (arith, z.timely.late) in
        rw (eq-eqb t.mode open_mode (is_open L (latest_of es i) t told τ late z.some))
        (w.at_turn L (latest_of es i) t told y c τ (course_after L (tick_in L τ) a) (same_before L (tick_in L τ) a) late z.some z.on_tick)

    -- an accepted event of the title
    own_kept : (τ : ℕ) (a : Act) → answer lanes es (event i τ a) ≡ 0 →
        P (life_after (life_of es i) τ a) (tick_in (life_after (life_of es i) τ a) τ) (by_mode turns opens t τ y)
    unfolding tick_in
    own_kept τ (Opens f k) ok =
        let o = opening lanes es i τ f k ok in
        let L : Life = life_after (life_of es i) τ (Opens f k) in
        rw (not_open (life_of es i) (latest_of es i) t told τ (omega (arith, o.timely.late)) o.away, first_tick L) (w.at_opening L y)
    own_kept τ (Changes k) ok = turned τ (Changes k) (changing lanes es i τ k ok).0
    own_kept τ Closes ok = turned τ Closes (closing lanes es i τ ok)
    own_kept τ (Doors b) ok = turned τ (Doors b) (doored lanes es i τ b ok)

    -- of any title
    any_kept : (e : Event) → answer lanes es e ≡ 0 → KeptIn (e ∷ es) i (pick (eqb e.title i) (by_mode turns opens t e.time y) y)
    unfolding life_of latest_of
    any_kept e ok =
        ⊎_elim
        (λ x.
        let same : e.title ≡ i = eqb-true e.title i x in
        rw x (own_kept e.time e.act (rw same at ok)))
        (λ x. rw x c)
        (decide (eqb e.title i))

  -- ---- all notices of a log

  module _ (pool i : ℕ) (id : i ≤ id_max) (x : A) (start : P unopened 0 x) where
    abbrev lanes : ℕ
    lanes = lanes_of pool

    abbrev kept : List Notice → A
    kept ns = kept_told (heard_own (by_mode turns opens) i) (fresh_agent pool) x ns

    -- one notice more
    module _ (ns : List Notice) (n : Notice) (h : Hearing pool (heard_of lanes ns) (agent_told (fresh_agent pool) ns))
        (c : KeptIn (map event_of (heard_of lanes ns)) i (kept ns)) where
      one_more : KeptIn (map event_of (heard_of lanes (n ∷ ns))) i (kept (n ∷ ns))
      unfolding heard_of kept_told heard_own
      one_more =
          rw (told_notice pool ns h n)
          (go (eqb n.sequence (suc (length hs))) (answer lanes es (event_of n))
          (any_kept lanes es i (title_at s i) (kept ns) (told_of.tells.title i (omega arith)) (told_of.tells.newest i) c (event_of n)))
        where
          hs : List Notice
          hs = heard_of lanes ns

          es : List Event
          es = map event_of hs

          s : State
          s = (agent_told (fresh_agent pool) ns).state

          told_of : Told lanes es s
          told_of = run_told pool es s h.run

          new : A
          new = by_mode turns opens (title_at s i) n.time (kept ns)

          go : (turn : Bool) (m : ℕ) → (m ≡ 0 → KeptIn (event_of n ∷ es) i (pick (eqb n.title i) new (kept ns)))
              → KeptIn (map event_of (pick (both turn (eqb m 0)) (n ∷ hs) hs)) i
              (pick (both (eqb (pick turn m out_of_turn) 0) (eqb n.title i)) new (kept ns))
          go false m f = c
          go true m f = ⊎_elim (λ x. rw x (f (eqb-true m 0 x))) (λ x. rw x c) (decide (eqb m 0))

    pub told_kept : (bss : List (List ℕ)) (ns : List Notice) → ReadAs bss ns →
        KeptIn (map event_of (heard_of lanes ns)) i (kept ns)
    unfolding heard_of kept_told life_of latest_of
    told_kept [] [] none_read = rw (first_tick unopened) start
    told_kept (bs ∷ bss) (n ∷ ns) (one_read is rest) = one_more ns n (told_follows pool bss ns rest) (told_kept bss ns rest)
    told_kept [] (n ∷ ns) r = elim r [ ]
    told_kept (bs ∷ bss) [] r = elim r [ ]

-- the title as it stands tells its life
pub told_title : (pool i : ℕ) → i ≤ id_max → (bss : List (List ℕ)) (ns : List Notice) → ReadAs bss ns →
    TellsTitle (life_of (map event_of (heard_of (lanes_of pool) ns)) i) (latest_of (map event_of (heard_of (lanes_of pool) ns)) i)
    (title_at (agent_told (fresh_agent pool) ns).state i)
told_title pool i id bss ns r =
    (run_told pool (map event_of (heard_of (lanes_of pool) ns)) (agent_told (fresh_agent pool) ns).state (told_follows pool bss ns r).run
    ).tells.title i (omega arith)

-- and the agent's numbers are within their limits
pub told_ok : (pool : ℕ) (bss : List (List ℕ)) (ns : List Notice) → ReadAs bss ns → state_ok (agent_told (fresh_agent pool) ns).state ≡ true
told_ok pool bss ns r =
    let es : List Event = map event_of (heard_of (lanes_of pool) ns) in
    let s : State = (agent_told (fresh_agent pool) ns).state in
    sound_state (lanes_of pool) (lanes_limit pool) es s (run_told pool es s (told_follows pool bss ns r).run)
