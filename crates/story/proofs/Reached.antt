-- What a run of calls leaves: the accepted events are an accepted sequence, the state is the one that they alone leave, and
-- one accepted event more is reached too; the events up to a moment were reached then. What is on air at a moment is what
-- the lane question answers then, and what was answered for a later time stays. Rests on `told` and on accepted sequences.
use mathlib.Core.Path.{◌≡◌, refl, sym, ap, ◌∙◌}
use mathlib.Core.Bool.{true, false}
use mathlib.Core.Logic.{⊎_elim}
use mathlib.Core.List.{List, [], ◌∷◌, ◌++◌}
use Prim.Native.Nat.{ℕ, ◌≤◌, ◌<◌}
use native.Mathlib.Omega.{arith}
use lib.Dec.{leb, eqb}
use borrow.Author.Tests.{leb-true, leb-false, le-leb, le-ltb, eqb-true, eq-eqb}
use Rattle.rules.specs.Limits.{titles_max, id_max, lane_max, asked_max, pool_max}
use Rattle.rules.specs.Refusals.{pick, first_hit}
use Rattle.rules.proofs.Tests.{decide, pick_false}
use Rattle.story.specs.declared.State.{State}
use Rattle.story.specs.Life.{Life, cell, is_held}
use Rattle.story.specs.Next.{call_next}
use Rattle.story.specs.Calls.{lane_answer, lane_shows, AnswersCell}
use Rattle.story.specs.declared.Event.{Event}
use Rattle.story.specs.Story.{life_of, latest_of, last_time, up_to, answer, taking, accepted, Accepted, none}
use Rattle.story.specs.Story.{more, lane_answer_to, life_at, air_in, air_at, InTick, Received, Quiet, elsewhere}
use Rattle.story.specs.Runs.{answered, called, state_after, lanes_of, Reached}
use Rattle.story.proofs.Runs.{Told, lanes_limit, told, told_answer}
use Rattle.story.proofs.Questions.{lane_answer_told, lane_late, lane_cell_told}
use Rattle.story.proofs.Passed.{in_order}
use Rattle.story.proofs.Lives.{lively, newest}
use Rattle.story.proofs.Pool.{up_to_all_lem}

-- what is accepted of a sequence of calls is an accepted sequence
taking_is : (lanes : ℕ) (e : Event) (es : List Event) → Accepted lanes es → Accepted lanes (taking lanes es e)
taking_is lanes e es acc = go (answer lanes es e) refl
  where
    go : (n : ℕ) → answer lanes es e ≡ n → Accepted lanes (pick (eqb n 0) (e ∷ es) es)
    go n h = ⊎_elim (λ x. rw x (more acc (h ∙ eqb-true n 0 x))) (λ x. rw x acc) (decide (eqb n 0))

pub accepted_is : (lanes : ℕ) (cs : List Event) → Accepted lanes (accepted lanes cs)
unfolding accepted
accepted_is lanes [] = none
accepted_is lanes (c ∷ cs) = taking_is lanes c (accepted lanes cs) (accepted_is lanes cs)

-- and all of an accepted sequence is accepted
pub accepted_all : (lanes : ℕ) (es : List Event) → Accepted lanes es → accepted lanes es ≡ es
unfolding accepted
accepted_all lanes es none = refl
accepted_all lanes es (more {e = e} {es = es'} acc h) =
    rw (accepted_all lanes es' acc, eq-eqb (answer lanes es' e) 0 h) refl

-- the events up to a moment are an accepted sequence, none of them later
pub up_to_accepted : (lanes τ : ℕ) (es : List Event) → Accepted lanes es → Accepted lanes (up_to τ es)
unfolding up_to
up_to_accepted lanes τ es none = none
up_to_accepted lanes τ es (more {e = e} {es = es'} acc h) =
    ⊎_elim (λ x. rw x (more acc h)) (λ x. rw x (up_to_accepted lanes τ es' acc)) (decide (leb e.time τ))

pub up_to_late : (τ : ℕ) (es : List Event) → last_time (up_to τ es) ≤ τ
unfolding up_to
up_to_late τ [] = omega arith
up_to_late τ (e ∷ es) =
    ⊎_elim (λ x. rw x (leb-true e.time τ x)) (λ x. rw x (up_to_late τ es)) (decide (leb e.time τ))

-- a refused call leaves the state, so the accepted events alone leave the same
called_kept : (lanes : ℕ) (es : List Event) (e : Event) (s t : State) (pool : ℕ) → t ≡ state_after pool es → s ≡ t →
    answered s e ≡ answer lanes es e → called s e ≡ state_after pool (taking lanes es e)
unfolding state_after
called_kept lanes es e s t pool is same told =
    ⊎_elim
    (λ x.
    let z : eqb (answer lanes es e) 0 ≡ true = rw told at x in
    rw z (ap (λ u. called u e) (same ∙ is)))
    (λ x.
    let z : eqb (answer lanes es e) 0 ≡ false = rw told at x in
    rw z (pick_false (eqb (answered s e) 0) (call_next s e.title e.time e.act) s x ∙ same ∙ is))
    (decide (eqb (answered s e) 0))

pub kept_alone : (pool : ℕ) (cs : List Event) → state_after pool cs ≡ state_after pool (accepted (lanes_of pool) cs)
unfolding state_after accepted
kept_alone pool [] = refl
kept_alone pool (c ∷ cs) =
    let es : List Event = accepted (lanes_of pool) cs in
    called_kept (lanes_of pool) es c (state_after pool cs) (state_after pool cs) pool (kept_alone pool cs) refl
    (told_answer (lanes_of pool) (lanes_limit pool) es (state_after pool cs) (told pool cs) c)

-- an accepted sequence is reached, with the state that it leaves
pub reached : (pool : ℕ) (es : List Event) → Accepted (lanes_of pool) es → Reached pool es (state_after pool es)
reached pool es acc = record { calls = es; events = sym (accepted_all (lanes_of pool) es acc); state = refl }

module _ (pool : ℕ) (es : List Event) (s : State) (run : Reached pool es s) where
  pub run_accepted : Accepted (lanes_of pool) es
  run_accepted = rw run.events (accepted_is (lanes_of pool) run.calls)

  pub run_told : Told (lanes_of pool) es s
  run_told = rw (run.events, run.state) (told pool run.calls)

  pub run_state : s ≡ state_after pool es
  run_state = run.state ∙ kept_alone pool run.calls ∙ ap (state_after pool) (sym run.events)

  -- one accepted event more
  pub run_more : (e : Event) → answer (lanes_of pool) es e ≡ 0 →
      Reached pool (e ∷ es) (call_next s e.title e.time e.act)
  unfolding accepted state_after
  run_more e h =
      let says : answered s e ≡ 0 = told_answer (lanes_of pool) (lanes_limit pool) es s run_told e ∙ h in
      record {
        calls = e ∷ es;
        events = sym (accepted_all (lanes_of pool) (e ∷ es) (more run_accepted h));
        state = sym (ap (λ u. called u e) (sym run_state) ∙ rw (eq-eqb (answered s e) 0 says) refl);
      }

same_cell : (a b : ℕ) → cell a ≡ cell b → a ≡ b
same_cell a b e = cc

-- what is on air at a moment is what a lane question asked then is answered
module _ (pool : ℕ) (es : List Event) (acc : Accepted (lanes_of pool) es) (i l τ c : ℕ) (id : i ≤ id_max)
    (lane : l ≤ lane_max) (time : τ ≤ asked_max) (air : air_at es i l τ ≡ cell c) where
  then_accepted : Accepted (lanes_of pool) (up_to τ es)
  then_accepted = up_to_accepted (lanes_of pool) τ es acc

  then_told : Told (lanes_of pool) (up_to τ es) (state_after pool (up_to τ es))
  then_told = run_told pool (up_to τ es) (state_after pool (up_to τ es)) (reached pool (up_to τ es) then_accepted)

  in_order_then : latest_of (up_to τ es) i ≤ τ
  in_order_then = omega (arith, newest (lanes_of pool) (up_to τ es) (lanes_limit pool) then_accepted i, up_to_late τ es)

  asked_done : lane_answer (state_after pool (up_to τ es)) i l τ ≡ 0
  unfolding lane_answer_to first_hit is_held
  asked_done =
      lane_answer_told (lanes_of pool) (lanes_limit pool) (up_to τ es) (state_after pool (up_to τ es)) then_told i l τ
      ∙ rw (
        le-leb i id_max id,
        le-leb l lane_max lane,
        le-leb τ asked_max time,
        le-ltb τ (latest_of (up_to τ es) i) in_order_then,
        air,
      )
      refl

  asked_cell : lane_shows (state_after pool (up_to τ es)) i l τ ≡ c
  asked_cell =
      same_cell (lane_shows (state_after pool (up_to τ es)) i l τ) c
      (sym (lane_cell_told (lanes_of pool) (lanes_limit pool) (up_to τ es) (state_after pool (up_to τ es)) then_told i l τ asked_done) ∙ air)

  pub asked_then : AnswersCell (state_after pool (up_to τ es)) i l τ c
  asked_then = (asked_done, asked_cell)

-- a lane below the cap of an accepted life is one that may be asked for
lane_limit : (lanes : ℕ) (es : List Event) → lanes ≤ pool_max → Accepted lanes es → (i l : ℕ) → i < titles_max →
    l < (life_of es i).film.cap → l ≤ lane_max
lane_limit lanes es high acc i l id b =
    ⊎_elim (λ e. let z : (life_of es i).film.cap ≡ 0 = ap (λ (L : Life). L.film.cap) e in absurd (omega arith))
    (λ w. omega (arith, w.cap_high))
    (lively lanes es high acc i id)

-- so a box receives its cells by what the calls say
pub received_asked : (pool : ℕ) (es : List Event) → Accepted (lanes_of pool) es → (i τ a c : ℕ) → i < titles_max →
    (r : Received es i (life_at es i τ) a c) → (υ : ℕ) → InTick (life_at es i τ) r.tick υ → υ ≤ asked_max →
    AnswersCell (state_after pool (up_to υ es)) i r.lane υ c
received_asked pool es acc i τ a c id r υ h time =
    let then = up_to_accepted (lanes_of pool) τ es acc in
    let lane = lane_limit (lanes_of pool) (up_to τ es) (lanes_limit pool) then i r.lane id r.lane_low in
    asked_then pool es acc i r.lane υ c (omega arith) lane time (r.carries υ h)

-- from the latest event of an id on its life stands as the whole sequence tells it: later events are of other ids
pub as_it_stands : (es : List Event) (i τ : ℕ) → latest_of es i ≤ τ → life_at es i τ ≡ life_of es i
unfolding up_to life_of latest_of
as_it_stands [] i τ le = refl
as_it_stands (e ∷ es) i τ le =
    let before : latest_of es i ≤ τ → life_at es i τ ≡ life_of es i = as_it_stands es i τ in
    ⊎_elim (λ x. rw x refl)
    (λ x.
    let later : τ < e.time = leb-false e.time τ x in
    rw x
    (⊎_elim (λ y. absurd (omega (arith, rw y at le))) (λ y. rw y (before (rw y at le))) (decide (eqb e.title i))))
    (decide (leb e.time τ))

-- so what a lane question answers is on air, for any time that it takes
pub answered_on_air : (pool : ℕ) (es : List Event) (s : State) → Reached pool es s → (i l τ : ℕ) → lane_answer s i l τ ≡ 0 →
    air_at es i l τ ≡ cell (lane_shows s i l τ)
answered_on_air pool es s run i l τ h =
    let told = run_told pool es s run in
    let late = lane_late (lanes_of pool) (lanes_limit pool) es s told i l τ h in
    ap (λ L. air_in L l τ) (as_it_stands es i τ late)
    ∙ lane_cell_told (lanes_of pool) (lanes_limit pool) es s told i l τ h

-- one more event that is not of the title, or later
stays_more : (lanes : ℕ) (e : Event) (es : List Event) → answer lanes es e ≡ 0 → (i τ : ℕ) →
    (e.title ≡ i → τ < e.time) → {L : Life} → life_at es i τ ≡ L → life_at (e ∷ es) i τ ≡ L
unfolding up_to life_of
stays_more lanes e es h i τ f {L} before =
    ⊎_elim
    (λ x.
    let late : last_time es ≤ τ = omega (arith, (in_order lanes es e.title e.time e.act h).late, leb-true e.time τ x) in
    rw x
    (⊎_elim (λ y. absurd (omega (arith, f (eqb-true e.title i y), leb-true e.time τ x)))
    (λ y. rw y (rw (up_to_all_lem τ es late) at before))
    (decide (eqb e.title i))))
    (λ x. rw x before)
    (decide (leb e.time τ))

pub life_stays : (lanes : ℕ) (new es : List Event) → Accepted lanes (new ++ es) → (i τ : ℕ) → Quiet i τ new →
    life_at (new ++ es) i τ ≡ life_at es i τ
life_stays lanes [] es acc i τ q = refl
life_stays lanes (e ∷ new) es (more acc h) i τ (elsewhere f q) =
    stays_more lanes e (new ++ es) h i τ f (life_stays lanes new es acc i τ q)
