-- The state tells the story of any run: after every sequence of calls on a fresh pool, whatever each was answered, the
-- state keeps what the accepted ones among them say. Rests on `answer_told` and `next_told`, once for each call.
use mathlib.Core.Path.{◌≡◌, refl, sym, ap, ◌∙◌}
use mathlib.Core.Bool.{true, false, false≢true}
use mathlib.Core.Logic.{inl, inr, ⊎_elim}
use mathlib.Core.List.{List, [], ◌∷◌}
use Prim.Native.Nat.{ℕ, ◌≤◌, ◌<◌}
use native.Mathlib.Omega.{arith}
use lib.Dec.{leb, eqb}
use lib.ListN.{get_or-replicate}
use borrow.Author.Tests.{lt-ltb, leb-true, eqb-true, eq-eqb}
use Rattle.rules.specs.Limits.{within, pool_min, pool_max, titles_max}
use Rattle.rules.specs.Refusals.{pick}
use Rattle.rules.specs.Search.{how_many}
use Rattle.rules.proofs.Tests.{decide, both_r}
use Rattle.rules.proofs.Search
use Rattle.story.specs.declared.Film.{Film}
use Rattle.story.specs.declared.Title.{Title}
use Rattle.story.specs.declared.State.{State}
use Rattle.story.specs.Life.{Life, is_active}
use Rattle.story.specs.Kept.{no_title, state_ok}
use Rattle.story.specs.Calls.{blank_title, empty_pool}
use Rattle.story.specs.declared.Act.{Act}
use Rattle.story.specs.declared.Act.TheVariants.{Opens, Changes, Closes, Doors}
use Rattle.story.specs.declared.Event.{Event}
use Rattle.story.specs.Story.{event, unopened, tick_in, life_of, latest_of, is_held_in}
use Rattle.story.specs.Story.{tuned_of, held_in, held_over, is_there_in, answer_to, answer, taking, accepted}
use Rattle.story.specs.Next.{call_next}
use Rattle.story.specs.Runs.{answered, called, state_after, lanes_of}
use Rattle.story.proofs.Held.{held_active}
use Rattle.story.proofs.Tells.{absent, Tells}
use Rattle.story.proofs.Limits.{Funded, state_ok_lem}
use Rattle.story.proofs.Answers.{answer_told, next_told}
use Rattle.story.proofs.Passed.{opening, changing, closing, doored}

pub lanes_limit : (pool : ℕ) → lanes_of pool ≤ pool_max
lanes_limit pool =
    ⊎_elim (λ x. rw x (leb-true pool pool_max (both_r (leb pool_min pool) (leb pool pool_max) x))) (λ x. rw x (omega arith))
    (decide (within pool_min pool_max pool))

-- a fresh pool tells of no event
pub fresh_tells : (lanes : ℕ) → Tells lanes [] (empty_pool lanes)
unfolding life_of latest_of tuned_of
fresh_tells lanes =
    record {
      pool = refl;
      last = refl;
      slots = refl;
      newest = λ i. omega arith;
      limit = omega arith;
      title = λ i b. absent refl refl (get_or-replicate titles_max i blank_title no_title b);
      tuned = λ i b. ap (λ (t : Title). t.tuned) (get_or-replicate titles_max i blank_title no_title b);
    }

-- an id that was never opened holds no lane
away : (τ : ℕ) → is_there_in unopened τ ≡ false
unfolding held_in how_many
away τ = refl

-- an opening holds a lane at its moment
opened_holds : (es : List Event) (i τ : ℕ) (f : Film) (k : ℕ) → i < titles_max → 0 < k → k ≤ f.cap →
    0 < held_over (event i τ (Opens f k) ∷ es) τ
unfolding held_over life_of held_in is_active
opened_holds es i τ f k id pos high =
    let e : Event = event i τ (Opens f k) in
    let L : Life = record { film = f; opened = τ; rule = λ t. k; shut = λ t. false } in
    let same : life_of (e ∷ es) i ≡ L = rw (eq-eqb i i refl) refl in
    let one : 0 < held_in L τ =
    Search.how_many_some (λ l. is_held_in L l τ) f.cap 0 (omega arith) (held_active L 0 (tick_in L τ) (lt-ltb 0 k pos)) in
    let part : held_in (life_of (e ∷ es) i) τ ≤ held_over (e ∷ es) τ =
    Search.total_at (λ j. held_in (life_of (e ∷ es) j) τ) titles_max i id in
    omega (arith, ap (λ x. held_in x τ) same)

nobody_there : (es : List Event) (i τ : ℕ) → es ≡ [] → is_there_in (life_of es i) τ ≡ true → ⊥
unfolding life_of
nobody_there es i τ e h = false≢true (sym (away τ) ∙ sym (ap (λ x. is_there_in (life_of x i) τ) e) ∙ h)

-- who accepts an event has a lane
funded_next : (lanes : ℕ) (es : List Event) (i τ : ℕ) (a : Act) → Funded lanes es →
    answer_to lanes es (event i τ a) (life_of es i) a ≡ 0 → 0 < lanes
funded_next lanes es i τ a (inl p) h = p
funded_next lanes es i τ (Opens f k) (inr e) h =
    let o = opening lanes es i τ f k h in
    omega (arith, opened_holds es i τ f k (omega (arith, o.timely.id)) o.some o.high, o.room)
funded_next lanes es i τ (Changes k) (inr e) h = absurd (nobody_there es i τ e (changing lanes es i τ k h).0.there)
funded_next lanes es i τ Closes (inr e) h = absurd (nobody_there es i τ e (closing lanes es i τ h).there)
funded_next lanes es i τ (Doors b) (inr e) h = absurd (nobody_there es i τ e (doored lanes es i τ b h).there)

-- one more call: its answer is the sequence's, and what it leaves tells what is accepted then
pub record Told (lanes : ℕ) (es : List Event) (s : State) : Type 0 where
  pub tells : Tells lanes es s
  pub funded : Funded lanes es

-- where both answers are the same number, both choices go the same way
chosen : (lanes : ℕ) (es₁ es₀ : List Event) (s₁ s₀ : State) (n m : ℕ) → n ≡ m → (m ≡ 0 → Told lanes es₁ s₁) →
    Told lanes es₀ s₀ → Told lanes (pick (eqb m 0) es₁ es₀) (pick (eqb n 0) s₁ s₀)
chosen lanes es₁ es₀ s₁ s₀ n m e taken left =
    rw e (⊎_elim (λ x. rw x (taken (eqb-true m 0 x))) (λ x. rw x left) (decide (eqb m 0)))

module _ (lanes : ℕ) (high : lanes ≤ pool_max) (es : List Event) (s : State) (w : Told lanes es s) where
  pub sound_state : state_ok s ≡ true
  sound_state = state_ok_lem lanes es s w.tells high w.funded

  pub told_answer : (e : Event) → answered s e ≡ answer lanes es e
  told_answer e = answer_told lanes es s w.tells sound_state e.title e.time e.act

  pub told_more : (e : Event) → answer lanes es e ≡ 0 → Told lanes (e ∷ es) (call_next s e.title e.time e.act)
  told_more e h =
      record {
        tells = next_told lanes es s w.tells sound_state e.title e.time e.act (told_answer e ∙ h);
        funded = inl (funded_next lanes es e.title e.time e.act w.funded h);
      }

  pub told_call : (e : Event) → Told lanes (taking lanes es e) (called s e)
  told_call e =
      chosen lanes (e ∷ es) es (call_next s e.title e.time e.act) s (answered s e) (answer lanes es e)
      (told_answer e) (told_more e) w

-- after any sequence of calls on a fresh pool the state tells the accepted ones
pub told : (pool : ℕ) (cs : List Event) → Told (lanes_of pool) (accepted (lanes_of pool) cs) (state_after pool cs)
unfolding accepted state_after
told pool [] = record { tells = fresh_tells (lanes_of pool); funded = inr refl }
told pool (c ∷ cs) =
    told_call (lanes_of pool) (lanes_limit pool) (accepted (lanes_of pool) cs) (state_after pool cs) (told pool cs) c
