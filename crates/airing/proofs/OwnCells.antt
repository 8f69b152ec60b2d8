-- Every number of a record of our own lane answers is a cell of the title, or nothing: the call takes such a record.
-- Rests on what a held lane shows being one of the title's cells, and on a slot keeping the numbers of its title's life.
use mathlib.Core.Path.{◌≡◌, refl, sym, ap, subst, ◌∙◌}
use mathlib.Core.Bool.{Bool, true, not}
use mathlib.Core.Logic.{⊎_elim}
use mathlib.Core.List.{List}
use Prim.Native.Nat.{ℕ, ◌+◌, ◌*◌, ◌/◌, ◌%◌, ◌≤◌, ◌<◌}
use native.Mathlib.Omega.{arith}
use lib.Dec.{ltb, eqb}
use lib.ListN.{get_or, length}
use borrow.Author.Tests.{eqb-true, ltb-true, eq-eqb, lt-ltb, not-false}
use Rattle.rules.specs.Limits.{both, either, titles_max, lane_places}
use Rattle.rules.specs.Refusals.{pick, not_there}
use Rattle.rules.proofs.Tests.{decide, both_l, both_r, either_l, either_r}
use Rattle.rules.proofs.Refusals.{hits_of, numbered, cleared}
use Rattle.grid.specs.Ticks.{cells}
use Rattle.grid.specs.Lanes.{lane_cell}
use Rattle.grid.proofs.Channels.{cell_within}
use Rattle.grid.proofs.Lanes.{cell_of_lane}
use Rattle.scheme.specs.Scheme.{Scheme, padded_kind}
use Rattle.scheme.proofs.ByKind.{padded_scheme}
use Rattle.story.specs.declared.State.{State}
use Rattle.story.specs.declared.Title.{Title}
use Rattle.story.specs.Life.{Life}
use Rattle.story.specs.Kept.{absent_mode, title_at, tick_at, kept_held, ruling, sending_tick, shows}
use Rattle.story.specs.Calls.{lane_held, lane_rules, lane_answer, lane_shows}
use Rattle.story.specs.declared.Event.{Event}
use Rattle.story.specs.Story.{life_of, life_at, latest_of, up_to}
use Rattle.story.specs.Runs.{state_after, lanes_of, Reached}
use Rattle.story.proofs.Tells.{TellsTitle, absent, present}
use Rattle.story.proofs.Runs.{lanes_limit}
use Rattle.story.proofs.Boxes.{stood}
use Rattle.story.proofs.Reached.{run_accepted as in_sequence}
use Rattle.story.proofs.Reached.{up_to_accepted, reached, run_told}
use Rattle.judging.specs.Record.{nothing_seen, ticks_in}
use Rattle.judging.proofs.Walked.{get_d_any}
use Rattle.airing.specs.Own.{answer_seen, OwnAnswers}

-- a lane of the padded grid carries one of the film's cells
lane_within : (A K l t : ℕ) → A ≤ K → l < K → lane_cell A K l t < cells K
lane_within A K l t low l-low =
    let m = cell_of_lane A K K l t low (omega arith) l-low in
    subst (λ c. c < cells K) m.2 (cell_within A K K m.0 t (omega arith) m.1)

-- so what a slot shows is a cell of its title
shows_within : (t : Title) (l n : ℕ) → t.film.kind ≡ padded_kind → t.film.floor ≤ t.film.cap → l < t.film.cap → shows t l n < cells t.film.cap
unfolding shows
shows_within t l n kind low l-low =
    subst (λ (S : Scheme). S.on_lane l (pick (ltb l (ruling t)) n (sending_tick t l n)) < cells t.film.cap)
    (sym (padded_scheme t.film.kind t.film.floor t.film.cap (λ e. absurd (omega (arith, kind, e)))))
    (lane_within t.film.floor t.film.cap l (pick (ltb l (ruling t)) n (sending_tick t l n)) low l-low)

-- a lane that is answered 0 is below the cap
lane_below : (s : State) (i l τ : ℕ) → lane_answer s i l τ ≡ 0 → l < (title_at s i).film.cap
unfolding lane_answer hits_of numbered
lane_below s i l τ h =
    let t : Title = title_at s i in
    let held : lane_held t l τ ≡ true = not-false (lane_held t l τ) (cleared (lane_rules s i l τ) refl h not_there) in
    let rest : Bool = both (ltb l t.film.cap) (kept_held t l (tick_at t τ)) in
    ltb-true l t.film.cap (both_l (ltb l t.film.cap) (kept_held t l (tick_at t τ)) (both_r (not (eqb t.mode absent_mode)) rest held))

-- the slot of a title that was opened as a film shows cells of its life
told_within : (L : Life) (m : ℕ) (t : Title) (l n : ℕ) → TellsTitle L m t → L.film.kind ≡ padded_kind → l < t.film.cap →
    shows t l n < cells L.film.cap
told_within L m t l n (absent e f g) kind low = absurd (let z : t.film.cap ≡ 0 = ap (λ (t : Title). t.film.cap) g in omega arith)
told_within L m t l n (present r e f p) kind low =
    let same : L.film.cap ≡ t.film.cap = ap (λ (L : Life). L.film.cap) e in
    let film : t.film.kind ≡ padded_kind = sym (ap (λ (L : Life). L.film.kind) e) ∙ kind in
    rw same (shows_within t l n film (omega (arith, p.sized.count_low, p.sized.count_high)) low)

-- a number of the record is a cell of a film with cap K, or nothing
abbrev pub is_number : ℕ → ℕ → Bool
is_number K n = either (eqb n nothing_seen) (ltb n (cells K))

module _ (pool : ℕ) (es : List Event) (s : State) (run : Reached pool es s) (i : ℕ) (id : i < titles_max) where
  -- what a lane question is answered at a moment, asked after that moment's events
  pub answer_number_lem : (l τ : ℕ) → (life_of es i).film.kind ≡ padded_kind → (life_of es i).opened ≤ τ →
      is_number (life_of es i).film.cap (answer_seen (state_after pool (up_to τ es)) i l τ) ≡ true
  unfolding lane_shows
  answer_number_lem l τ kind since =
      let L : Life = life_of es i in
      let u : State = state_after pool (up_to τ es) in
      let then = reached pool (up_to τ es) (up_to_accepted (lanes_of pool) τ es (in_sequence pool es s run)) in
      let w = stood (lanes_of pool) es (lanes_limit pool) (in_sequence pool es s run) i τ since in
      let told = (run_told pool (up_to τ es) u then).tells.title i id in
      ⊎_elim
      (λ x.
      let ok : lane_answer u i l τ ≡ 0 = eqb-true (lane_answer u i l τ) 0 x in
      let film : (life_at es i τ).film.kind ≡ padded_kind = ap (λ (M : Life). M.film.kind) w.life ∙ kind in
      let same : (life_at es i τ).film.cap ≡ L.film.cap = ap (λ (M : Life). M.film.cap) w.life in
      let n : ℕ = shows (title_at u i) l (tick_at (title_at u i) τ) in
      let b : n < cells (life_at es i τ).film.cap = told_within (life_at es i τ) (latest_of (up_to τ es) i) (title_at u i) l (tick_at (title_at u i) τ) told film (lane_below u i l τ ok) in
      let c : n < cells L.film.cap = subst (λ K. n < cells K) same b in
      rw x (either_r (eqb n nothing_seen) (ltb n (cells L.film.cap)) (lt-ltb n (cells L.film.cap) c)))
      (λ x. rw x (either_l (eqb nothing_seen nothing_seen) (ltb nothing_seen (cells L.film.cap)) (eq-eqb nothing_seen nothing_seen refl)))
      (decide (eqb (lane_answer u i l τ) 0))

  -- every number of a record of whole ticks
  pub own_number_lem : (r : List ℕ) → OwnAnswers pool es i r → (life_of es i).film.kind ≡ padded_kind → length r % lane_places ≡ 0 → (j : ℕ) →
      j < length r → is_number (life_of es i).film.cap (get_or r j 0) ≡ true
  own_number_lem r own kind whole j b =
      let L : Life = life_of es i in
      let t : ℕ = j / lane_places in
      let l : ℕ = j % lane_places in
      let place : t * lane_places + l ≡ j = omega arith in
      let low : l < lane_places = omega arith in
      let in-record : t < ticks_in r = omega arith in
      let e : get_or r j 0 ≡ answer_seen (state_after pool (up_to (own.moment t l) es)) i l (own.moment t l) =
      get_d_any r j 0 nothing_seen b ∙ ap (λ p. get_or r p nothing_seen) (sym place) ∙ own.answers t l in-record low in
      rw e (answer_number_lem l (own.moment t l) kind (omega (arith, (own.within_tick t l in-record).from)))
