-- The numbers are the events': after any notices told to a fresh agent the numbers below the tick of the title's latest event are those
-- of its life, told from the accepted events alone, and once no event follows all are. Rests on the state telling the life of each
-- title (story's `Present`), on no turn of a life changing what was on air before it, and on what follows a title's events (`told_kept`).
use mathlib.Core.Path.{◌≡◌, refl, sym, ap, subst, ◌∙◌}
use mathlib.Core.Bool.{Bool, true, false, false≢true}
use mathlib.Core.Logic.{⊎_elim}
use mathlib.Core.List.{List, [], ◌∷◌, map}
use Prim.Native.Nat.{ℕ, ◌+◌, ◌*◌, ◌/◌, ◌%◌, ◌≤◌, ◌<◌}
use native.Mathlib.Omega.{arith}
use borrow.Author.Tests.{ltb-true, ltb-false, eq-eqb}
use lib.Dec.{ltb, eqb}
use lib.ListN.{get_or, length}
use Rattle.rules.specs.Limits.{both, id_max, lane_places}
use Rattle.rules.specs.Refusals.{pick, done}
use Rattle.rules.proofs.Tests.{decide, both_l, both_r, pick_true, pick_false}
use Rattle.notice.specs.declared.Notice.{Notice}
use Rattle.notice.specs.declared.Reading.TheVariants as reading
use Rattle.story.specs.declared.Title.{Title}
use Rattle.story.specs.Kept.{absent_mode, open_mode, title_at, tick_at, kept_held, shows}
use Rattle.story.specs.Life.{Life, Course, Air, nothing, cell, is_cell, is_held, on_air}
use Rattle.story.specs.declared.Event.{Event}
use Rattle.story.specs.Story.{life_of, latest_of, tick_in}
use Rattle.story.specs.Runs.{lanes_of}
use Rattle.story.proofs.Stored.{life_in}
use Rattle.story.proofs.Held.{air_local}
use Rattle.story.proofs.Kept.{Present, held_kept_lem, shows_kept}
use Rattle.story.proofs.Questions.{no_lane}
use Rattle.story.proofs.Tells.{TellsTitle, absent, present}
use Rattle.measures.specs.Readable.{Sending}
use Rattle.measures.proofs.Within.{title_ok_lem, sending}
use Rattle.agent.specs.declared.Agent.{Agent}
use Rattle.agent.specs.Turns.{event_of, fresh_agent, notice_answer}
use Rattle.agent.specs.Played.{agent_told, heard_of, ReadAs}
use Rattle.logs.specs.Reading.{kept_told, heard_own}
use Rattle.logs.proofs.Lives.{FollowsLife, told_kept, told_title, told_ok}
use Rattle.judging.specs.Record.{nothing_seen, ticks_max}
use Rattle.playouts.specs.inner.Steps.{air_number, standing_number, filled_to, heard_numbers, told_numbers, ReadyToFill, Opened}
use Rattle.playouts.proofs.Laid.{to_length, to_before, to_at}

-- ---- a title as it stands

-- what is no cell is nothing
dark : (a : Air) → is_cell a ≡ false → nothing_seen ≡ air_number a
dark nothing h = refl
dark (cell c) h = absurd (false≢true (sym h))

module _ (t : Title) (r : Course) (here : Present t r) where
  -- a lane that is not held shows nothing
  unheld : (l u : ℕ) → is_held (life_in t r) l u ≡ false → nothing_seen ≡ air_number (on_air (life_in t r) l u)
  unfolding is_held
  unheld l u h = dark (on_air (life_in t r) l u) h

  -- nor is one that the title has not, or that is not kept
  unkept : (l u : ℕ) → tick_at t t.last ≤ u → both (ltb l t.film.cap) (kept_held t l u) ≡ false → is_held (life_in t r) l u ≡ false
  unkept l u le h =
      ⊎_elim
      (λ x. held_kept_lem t r here l u (ltb-true l t.film.cap x) le ∙ sym (ap (λ b. both b (kept_held t l u)) x) ∙ h)
      (λ x. no_lane (life_in t r) l u (λ v b. omega (arith, ltb-false l t.film.cap x, here.ruled.high v)))
      (decide (ltb l t.film.cap))

  -- from its latest event on its numbers are those of its life
  number_stands : (l u : ℕ) → tick_at t t.last ≤ u → standing_number t l u ≡ air_number (on_air (life_in t r) l u)
  unfolding standing_number
  number_stands l u le =
      let kept : Bool = both (ltb l t.film.cap) (kept_held t l u) in
      ⊎_elim
      (λ x.
      let low : l < t.film.cap = ltb-true l t.film.cap (both_l (ltb l t.film.cap) (kept_held t l u) x) in
      let held : is_held (life_in t r) l u ≡ true = held_kept_lem t r here l u low le ∙ both_r (ltb l t.film.cap) (kept_held t l u) x in
      pick_true kept (shows t l u) nothing_seen x ∙ ap air_number (sym (shows_kept t r here l u low le held)))
      (λ x. pick_false kept (shows t l u) nothing_seen x ∙ unheld l u (unkept l u le x))
      (decide kept)

-- of one opening, the numbers of a row below tick n are those of a life
abbrev pub FilledBelow : ℕ → ℕ → Life → ℕ → List ℕ → Type 0
FilledBelow opening from L n row =
    L.opened ≡ opening → length row ≤ ticks_max * lane_places → (j : ℕ) → from + j / lane_places < n → j < length row →
    get_or row j 0 ≡ air_number (on_air L (j % lane_places) (from + j / lane_places))

module _ (opening from : ℕ) where
  -- filled in up to its latest event, then as it stands up to tick v
  present_fills : (t : Title) (r : Course) → Present t r → (row : List ℕ) → FilledBelow opening from (life_in t r) (tick_at t t.last) row →
      (v : ℕ) → FilledBelow opening from (life_in t r) v (filled_to t from v row)
  present_fills t r here row c v same few j lt room =
      let short : length row ≤ ticks_max * lane_places = omega (arith, to_length t from v row) in
      let fits : j < length row = omega (arith, to_length t from v row) in
      ⊎_elim
      (λ x.
      let old : from + j / lane_places < tick_at t t.last = ltb-true (from + j / lane_places) (tick_at t t.last) x in
      to_before t from v row short j fits old ∙ c same short j old fits)
      (λ x.
      let new : tick_at t t.last ≤ from + j / lane_places = ltb-false (from + j / lane_places) (tick_at t t.last) x in
      to_at t from v row short j fits new lt ∙ number_stands t r here (j % lane_places) (from + j / lane_places) new)
      (decide (ltb (from + j / lane_places) (tick_at t t.last)))

  -- what an event of an open title makes of a row
  abbrev turns : Title → ℕ → List ℕ → List ℕ
  turns t τ row = pick (eqb t.opened opening) (filled_to t from (tick_at t τ) row) row

  turns_length : (t : Title) (τ : ℕ) (row : List ℕ) → length (turns t τ row) ≡ length row
  turns_length t τ row = go (eqb t.opened opening)
    where
      go : (b : Bool) → length (pick b (filled_to t from (tick_at t τ) row) row) ≡ length row
      go true = to_length t from (tick_at t τ) row
      go false = refl

  present_at : (L : Life) (m : ℕ) (t : Title) (r : Course) → L ≡ life_in t r → m ≡ t.last → Present t r → (row : List ℕ) →
      FilledBelow opening from L (tick_in L m) row → (τ : ℕ) → FilledBelow opening from L (tick_in L τ) (turns t τ row)
  unfolding tick_in tick_at
  present_at L m t r e f p row c τ same =
      let own : t.opened ≡ opening = sym (ap (λ (M : Life). M.opened) e) ∙ same in
      rw (eq-eqb t.opened opening own)
      (subst
      (λ (M : Life). FilledBelow opening from M (tick_in M τ) (filled_to t from (tick_at t τ) row))
      (sym e)
      (present_fills t r p row (rw (e, f) at c) (tick_at t τ)) same)

  -- ---- the numbers follow a title's events

  settles : (L : Life) (m : ℕ) (t : Title) → TellsTitle L m t → (row : List ℕ) → FilledBelow opening from L (tick_in L m) row → (τ : ℕ) →
      0 < L.rule (tick_in L τ) → FilledBelow opening from L (tick_in L τ) (turns t τ row)
  settles L m t (absent e f g) row c τ some = absurd (let none : 0 < 0 = rw e at some in omega arith)
  settles L m t (present r e f p) row c τ some = present_at L m t r e f p row c τ

  -- up to an event the ticks have the numbers of the life as it was; with an opening all ticks begin anew
  follows : FollowsLife (FilledBelow opening from) turns (λ τ row. row)
  follows =
      record {
        at_opening = λ L row same few j lt room. absurd (omega arith);
        at_turn = λ L m t told row c τ r before late some on same few j lt room.
            settles L m t told row c τ some same few j lt room
            ∙ ap air_number (sym (air_local L r (j % lane_places) (from + j / lane_places) (λ a le. before a (omega arith))));
      }

  -- ---- all notices of a log

  heard_length : (i : ℕ) (g : Agent) (n : Notice) (row : List ℕ) → length (heard_numbers i opening from g n row) ≡ length row
  unfolding heard_own
  heard_length i g n row =
      go (both (eqb (notice_answer g (reading.Whole n)) done) (eqb n.title i)) (eqb (title_at g.state i).mode open_mode)
    where
      go : (b c : Bool) → length (pick b (pick c (turns (title_at g.state i) n.time row) row) row) ≡ length row
      go true true = turns_length (title_at g.state i) n.time row
      go true false = refl
      go false c = refl

  pub told_length : (pool i : ℕ) (row : List ℕ) (ns : List Notice) → length (told_numbers pool i opening from row ns) ≡ length row
  unfolding kept_told
  told_length pool i row [] = refl
  told_length pool i row (n ∷ ns) =
      heard_length i (agent_told (fresh_agent pool) ns) n (told_numbers pool i opening from row ns) ∙ told_length pool i row ns

  module _ (pool i : ℕ) (id : i ≤ id_max) (row : List ℕ) (bss : List (List ℕ)) (ns : List Notice) (r : ReadAs bss ns) where
    abbrev events : List Event
    events = map event_of (heard_of (lanes_of pool) ns)

    abbrev standing : Title
    standing = title_at (agent_told (fresh_agent pool) ns).state i

    told_filled : FilledBelow opening from (life_of events i) (tick_in (life_of events i) (latest_of events i)) (told_numbers pool i opening from row ns)
    told_filled =
        told_kept (FilledBelow opening from) turns (λ τ row. row) follows pool i id row (λ same few j lt room. absurd (omega arith)) bss ns r

    -- once no event follows, up to any tick
    pub told_all : 0 < standing.film.cap → (v : ℕ) →
        FilledBelow opening from (life_of events i) v (filled_to standing from v (told_numbers pool i opening from row ns))
    unfolding tick_in tick_at
    told_all some v = go (told_title pool i id bss ns r)
      where
        go : TellsTitle (life_of events i) (latest_of events i) standing
            → FilledBelow opening from (life_of events i) v (filled_to standing from v (told_numbers pool i opening from row ns))
        go (absent e f g) =
            absurd (let none : 0 < 0 = subst (λ (z : Title). 0 < z.film.cap) g some in omega arith)
        go (present q e f p) =
            subst (λ (M : Life). FilledBelow opening from M v (filled_to standing from v (told_numbers pool i opening from row ns))) (sym e)
            (present_fills standing q p (told_numbers pool i opening from row ns) (rw (e, f) at told_filled) v)

-- ---- what the code builds on

module _ (pool i : ℕ) (id : i ≤ id_max) (bss : List (List ℕ)) (ns : List Notice) (r : ReadAs bss ns) where
  abbrev stands : Title
  stands = title_at (agent_told (fresh_agent pool) ns).state i

  told_sending : (stands.mode ≡ absent_mode → ⊥) → Sending stands
  told_sending there =
      sending stands (title_ok_lem (agent_told (fresh_agent pool) ns).state (told_ok pool bss ns r) i (omega arith)) there

  pub told_ready : ReadyToFill (agent_told (fresh_agent pool) ns) i
  told_ready = record { id = id; sending = λ on. told_sending (λ off. omega arith) }

  -- a title that was opened is there
  pub told_opened : Opened stands
  told_opened some = go (told_title pool i id bss ns r)
    where
      go : TellsTitle (life_of (map event_of (heard_of (lanes_of pool) ns)) i) (latest_of (map event_of (heard_of (lanes_of pool) ns)) i) stands
          → Sending stands
      go (absent e f g) = absurd (let none : 0 < 0 = subst (λ (z : Title). 0 < z.film.cap) g some in omega arith)
      go (present q e f p) = told_sending (λ off. ⊎_elim (λ x. omega arith) (λ x. omega arith) p.mode)
