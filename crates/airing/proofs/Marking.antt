-- The marks are the events': after any notices told to a fresh agent the marks below the tick of the title's latest event are those
-- of its life, told from the accepted events alone, and once no event follows all are. Rests on the state telling the life of
-- each title (story's `Present`), and on what follows a title's events (`told_kept`).
use mathlib.Core.Path.{◌≡◌, refl, sym, ap, subst, ◌∙◌}
use mathlib.Core.Bool.{Bool, true, not}
use mathlib.Core.Logic.{⊎_elim}
use mathlib.Core.List.{List, [], ◌∷◌, map}
use Prim.Native.Nat.{ℕ, ◌≤◌, ◌<◌}
use native.Mathlib.Omega.{arith}
use borrow.Author.Tests.{lt-ltb, ltb-true, ltb-false, eqb-true, eq-eqb}
use lib.Dec.{ltb, eqb}
use lib.ListN.{get_or, length}
use lib.Seq.{ext_get_or}
use Rattle.rules.specs.Limits.{both, id_max}
use Rattle.rules.specs.Refusals.{pick}
use Rattle.rules.proofs.Tests.{decide, both_l, both_r}
use Rattle.notice.specs.declared.Notice.{Notice}
use Rattle.scheme.specs.Scheme.{padded_kind, steady_kind, starts}
use Rattle.plans.specs.Row.{written}
use Rattle.plans.proofs.Row.{written_length, written_first}
use Rattle.story.specs.declared.Title.{Title}
use Rattle.story.specs.Calls.{blank_title}
use Rattle.story.specs.Kept.{open_mode, title_at, is_shut, scheme_in, tick_at}
use Rattle.story.specs.Life.{Life, Course, on_course, is_admission}
use Rattle.story.specs.declared.Event.{Event}
use Rattle.story.specs.Story.{life_of, latest_of, tick_in}
use Rattle.story.specs.Runs.{lanes_of}
use Rattle.story.proofs.Admissions.{SameAt}
use Rattle.story.proofs.Stored.{life_in}
use Rattle.story.proofs.Kept.{Present}
use Rattle.story.proofs.Turn.{open_ruling}
use Rattle.story.proofs.Tells.{TellsTitle, absent, present, closed_none, open_some}
use Rattle.measures.specs.Readable.{Filmed}
use Rattle.admissions.specs.Stretches.{admitting}
use Rattle.agent.specs.Turns.{event_of, fresh_agent}
use Rattle.agent.specs.Played.{agent_told, heard_of, ReadAs}
use Rattle.airing.specs.Air.{is_film_title, mark_of}
use Rattle.airing.specs.Reasons.{is_steady_life}
use Rattle.logs.specs.Reading.{kept_told}
use Rattle.logs.proofs.Lives.{FollowsLife, told_kept, told_title}
use Rattle.airing.specs.inner.Steps.{mark_in, marked_to, Markable, told_marks, ReadyToMark, SameFilm, is_film_slot, is_steady_slot}
use Rattle.airing.proofs.Ticks.{to_length, to_before, to_at}
use Rattle.airing.proofs.Hearing.{heard_length}

-- ---- a title as it stands

module _ (t : Title) (r : Course) (here : Present t r) where
  present_film : Filmed t.film
  present_film =
      let z = here.sized in
      record {
        sized = record { low = z.length_low; high = z.length_high };
        cut = record { low = omega (arith, z.floor_low); fit = omega (arith, z.count_low, z.count_high); high = z.cap_high };
        flat = z.flat;
      }

  present_markable : Markable t
  present_markable = record { film = present_film; fit = here.sized.count_high }

  -- from its latest event on its marks are those of its life
  mark_stands : (u : ℕ) → tick_at t t.last ≤ u → mark_in t u ≡ mark_of (life_in t r) u
  unfolding mark_in is_admission admitting
  mark_stands u le =
      ⊎_elim
      (λ e.
      rw (here.steady u le, here.doors e u le, open_ruling t e, eq-eqb t.mode open_mode e, lt-ltb 0 t.count (omega (arith, open_some t r here e, open_ruling t e))) (go (not (is_shut t)) (starts (scheme_in t) t.count u)))
      (λ e. rw (here.steady u le, closed_none t e, e) refl)
      here.mode
    where
      go : (a b : Bool) → ◌≡◌ {A = ℕ} (pick (both (both true a) b) 1 0) (pick (both true (both a b)) 1 0)
      go a b = refl

-- the marks of a row below tick n are those of a life
abbrev pub MarkedBelow : Life → ℕ → List ℕ → Type 0
MarkedBelow L n row = (u : ℕ) → u < n → u < length row → get_or row u 0 ≡ mark_of L u

-- ticks marked up to its latest event, then as it stands up to tick v, are marked up to v
present_settles : (t : Title) (r : Course) → Present t r → (row : List ℕ) → MarkedBelow (life_in t r) (tick_at t t.last) row →
    (v : ℕ) → MarkedBelow (life_in t r) v (marked_to t v row)
present_settles t r here row c v u lt room =
    let fits : u < length row = omega (arith, to_length t v row) in
    ⊎_elim
    (λ x.
    let old : u < tick_at t t.last = ltb-true u (tick_at t t.last) x in
    to_before t v row u old ∙ c u old fits)
    (λ x.
    let new : tick_at t t.last ≤ u = ltb-false u (tick_at t t.last) x in
    to_at t v row u new lt fits ∙ mark_stands t r here u new)
    (decide (ltb u (tick_at t t.last)))

-- the same, of its life told up to its latest event
present_at : (L : Life) (m : ℕ) (t : Title) (r : Course) → L ≡ life_in t r → m ≡ t.last → Present t r → (row : List ℕ) →
    MarkedBelow L (tick_in L m) row → (τ : ℕ) → MarkedBelow L (tick_in L τ) (marked_to t (tick_at t τ) row)
unfolding tick_in tick_at
present_at L m t r e f p row c τ = rw e (present_settles t r p row (rw (e, f) at c) (tick_at t τ))

-- another course that is the same at a tick has the same mark there
mark_same : (L : Life) (r : Course) (u : ℕ) → SameAt L r u → mark_of (on_course L r) u ≡ mark_of L u
unfolding is_admission
mark_same L r u s = rw (s.rule, s.shut) refl

-- ---- the marks follow a title's events

-- up to an event the ticks have the marks of the life as it was; with an opening all ticks begin anew
follows : FollowsLife MarkedBelow (λ t τ row. marked_to t (tick_at t τ) row) (λ τ row. row)
follows =
    record {
      at_opening = λ L row u lt room. absurd (omega arith);
      at_turn = λ L m t told row c τ r before late some on u lt room.
          settles L m t told row c τ some u lt room ∙ sym (mark_same L r u (before u lt));
    }
  where
    settles : (L : Life) (m : ℕ) (t : Title) → TellsTitle L m t → (row : List ℕ) → MarkedBelow L (tick_in L m) row → (τ : ℕ) →
        0 < L.rule (tick_in L τ) → MarkedBelow L (tick_in L τ) (marked_to t (tick_at t τ) row)
    settles L m t (absent e f g) row c τ some = absurd (let none : 0 < 0 = rw e at some in omega arith)
    settles L m t (present r e f p) row c τ some = present_at L m t r e f p row c τ

-- ---- a title that was opened, and last as a film with floor and cap

module _ (L : Life) (m : ℕ) (t : Title) (told : TellsTitle L m t) (film : is_film_slot t ≡ true) where
  never_blank : t ≡ blank_title → ⊥
  never_blank g = let none : 0 < 0 = subst (λ (z : Title). 0 < z.film.cap) g (ltb-true 0 t.film.cap (both_l _ _ film)) in omega arith

  film_markable : Markable t
  film_markable = go told
    where
      go : TellsTitle L m t → Markable t
      go (absent e f g) = absurd (never_blank g)
      go (present r e f p) = present_markable t r p

  film_standing : SameFilm L t
  film_standing = go told
    where
      go : TellsTitle L m t → SameFilm L t
      go (absent e f g) = absurd (never_blank g)
      go (present r e f p) =
          rw e
          (record {
            film = present_film t r p;
            padded = eqb-true t.film.kind padded_kind (both_r (ltb 0 t.film.cap) (eqb t.film.kind padded_kind) film);
            same_film = refl;
          })

  film_settles : (row : List ℕ) → MarkedBelow L (tick_in L m) row → (v : ℕ) → MarkedBelow L v (marked_to t v row)
  unfolding tick_in tick_at
  film_settles row c v = go told
    where
      go : TellsTitle L m t → MarkedBelow L v (marked_to t v row)
      go (absent e f g) = absurd (never_blank g)
      go (present r e f p) = rw e (present_settles t r p row (rw (e, f) at c) v)

-- ---- all notices of a log

pub told_length : (pool i : ℕ) (row : List ℕ) (ns : List Notice) → length (told_marks pool i row ns) ≡ length row
unfolding kept_told
told_length pool i row [] = refl
told_length pool i row (n ∷ ns) =
    heard_length (agent_told (fresh_agent pool) ns) i n (told_marks pool i row ns) ∙ told_length pool i row ns

module _ (pool i : ℕ) (id : i ≤ id_max) (row : List ℕ) (bss : List (List ℕ)) (ns : List Notice) (r : ReadAs bss ns) where
  abbrev events : List Event
  events = map event_of (heard_of (lanes_of pool) ns)

  abbrev standing : Title
  standing = title_at (agent_told (fresh_agent pool) ns).state i

  told : TellsTitle (life_of events i) (latest_of events i) standing
  told = told_title pool i id bss ns r

  told_marked : MarkedBelow (life_of events i) (tick_in (life_of events i) (latest_of events i)) (told_marks pool i row ns)
  told_marked =
      told_kept MarkedBelow (λ t τ row. marked_to t (tick_at t τ) row) (λ τ row. row) follows pool i id row (λ u lt room. absurd (omega arith)) bss ns r

  -- ---- what the code builds on, and what it comes to

  pub told_ready : ReadyToMark (agent_told (fresh_agent pool) ns) i
  told_ready = record { id = id; markable = go told }
    where
      go : TellsTitle (life_of events i) (latest_of events i) standing → standing.mode ≡ open_mode → Markable standing
      go (absent e f g) on = absurd (omega (arith, on, ap (λ (z : Title). z.mode) g))
      go (present q e f p) on = present_markable standing q p

  -- whether the title was opened, and last by a kind
  told_kind : (m : ℕ) → both (ltb 0 (life_of events i).film.cap) (eqb (life_of events i).film.kind m)
      ≡ both (ltb 0 standing.film.cap) (eqb standing.film.kind m)
  told_kind m = go told
    where
      go : TellsTitle (life_of events i) (latest_of events i) standing
          → both (ltb 0 (life_of events i).film.cap) (eqb (life_of events i).film.kind m)
          ≡ both (ltb 0 standing.film.cap) (eqb standing.film.kind m)
      go (absent e f g) = rw (e, g) refl
      go (present q e f p) = rw e refl

  -- as a film with floor and cap, or as a skip-forward title
  pub told_film : is_film_title (life_of events i) ≡ is_film_slot standing
  unfolding is_film_title
  told_film = told_kind padded_kind

  pub told_steady : is_steady_life (life_of events i) ≡ is_steady_slot standing
  unfolding is_steady_life
  told_steady = told_kind steady_kind

  -- no event follows
  module _ (film : is_film_slot standing ≡ true) where
    pub told_markable : Markable standing
    told_markable = film_markable (life_of events i) (latest_of events i) standing told film

    pub told_standing : SameFilm (life_of events i) standing
    told_standing = film_standing (life_of events i) (latest_of events i) standing told film

    pub told_all : marked_to standing (length row) (told_marks pool i row ns) ≡ written (mark_of (life_of events i)) row (length row)
    told_all =
        let y = told_marks pool i row ns in
        let same : length y ≡ length row = told_length pool i row ns in
        let new : length (marked_to standing (length row) y) ≡ length row = to_length standing (length row) y ∙ same in
        let marked = film_settles (life_of events i) (latest_of events i) standing told film y told_marked (length row) in
        ext_get_or 0 (marked_to standing (length row) y) (written (mark_of (life_of events i)) row (length row))
        (new ∙ sym (written_length (mark_of (life_of events i)) row (length row)))
        (λ u lt. marked u (omega arith) lt ∙ sym (written_first (mark_of (life_of events i)) row (length row) u (omega arith) (omega arith)))
