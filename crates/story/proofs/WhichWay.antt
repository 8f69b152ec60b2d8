-- Which way a count is wrong is said by four numbers where one stood: the orders of the release before, with their one
-- test, answer what today's answer but for those numbers, so the same calls are accepted and leave the same states.
-- Rests on the laws of former answers.
use mathlib.Core.Path.{◌≡◌, refl, sym, ap, ◌∙◌}
use mathlib.Core.Bool.{Bool}
use mathlib.Core.List.{List, [], ◌∷◌}
use Prim.Native.Nat.{ℕ}
use lib.Dec.{ltb, eqb}
use Rattle.rules.specs.Limits.{either}
use Rattle.rules.specs.Refusals.{pick, Rule, refuse, first_hit, done, outside_limits, too_early, not_there, id_taken}
use Rattle.rules.specs.Refusals.{is_closing, is_steady, second_event, too_soon, not_at_slot, no_lanes}
use Rattle.rules.proofs.Refusals.{hit_same}
use Rattle.rules.proofs.Former.{formerly, formerly_done, renumbered, former_hit, joined, outside}
use Rattle.story.specs.declared.State.{State}
use Rattle.story.specs.Orders.{Tests, open_order, change_order, close_order, doors_order}
use Rattle.story.specs.declared.Act.{Act}
use Rattle.story.specs.declared.Act.TheVariants.{Opens, Changes, Closes, Doors}
use Rattle.story.specs.declared.Event.{Event}
use Rattle.story.specs.Kept.{title_at}
use Rattle.story.specs.Next.{call_next}
use Rattle.story.specs.Calls.{tests_in, call_answer}
use Rattle.story.specs.Runs.{called, state_after}
use Rattle.story.specs.Former.{wrong_count, former_open, former_change, former_answer, former_called, former_state}

-- no other place of an order moved
open_place : (t : Tests) (wrong : Bool) → wrong ≡ either t.crossed (either t.below t.above)
    → formerly (first_hit (open_order t)) ≡ first_hit (former_open t wrong)
unfolding renumbered
open_place t wrong e =
    let rest : List Rule = refuse no_lanes t.full ∷ [] in
    rw e
    (former_hit (open_order t)
    ∙ hit_same outside_limits _ _ _ _ refl
    (λ x.
    hit_same too_early _ _ _ _ refl
    (λ y.
    hit_same id_taken _ _ _ _ refl
    (λ z.
    hit_same wrong_count _ _ _ _ refl (λ w. joined wrong_count t.below t.above rest)
    ∙ joined wrong_count t.crossed (either t.below t.above) rest))))

change_place : (t : Tests) (wrong : Bool) → wrong ≡ either (either t.below t.above) t.same
    → formerly (first_hit (change_order t)) ≡ first_hit (former_change t wrong)
unfolding renumbered
change_place t wrong e =
    let rest : List Rule =
    refuse second_event t.second ∷ refuse too_soon t.soon ∷ refuse not_at_slot t.off ∷ refuse no_lanes t.full ∷ [] in
    rw e
    (former_hit (change_order t)
    ∙ hit_same outside_limits _ _ _ _ refl
    (λ x.
    hit_same too_early _ _ _ _ refl
    (λ y.
    hit_same not_there _ _ _ _ refl
    (λ z.
    hit_same is_closing _ _ _ _ refl
    (λ w.
    hit_same is_steady _ _ _ _ refl
    (λ v.
    joined wrong_count t.below t.above (refuse wrong_count t.same ∷ rest)
    ∙ joined wrong_count (either t.below t.above) t.same rest))))))

pub same_place : (s : State) (i τ : ℕ) (a : Act) → formerly (call_answer s i τ a) ≡ former_answer s i τ a
unfolding call_answer former_answer renumbered
same_place s i τ (Opens f k) =
    open_place (tests_in s i τ (Opens f k)) _ (ap (either (ltb f.cap f.floor)) (outside f.floor f.cap k))
same_place s i τ (Changes k) =
    let t = title_at s i in
    change_place (tests_in s i τ (Changes k)) _ (ap (λ b. either b (eqb k t.count)) (outside t.film.floor t.film.cap k))
same_place s i τ Closes = former_hit (close_order (tests_in s i τ Closes))
same_place s i τ (Doors b) = former_hit (doors_order (tests_in s i τ (Doors b)))

-- what was accepted is accepted, what was refused is refused
pub same_calls : (s : State) (i τ : ℕ) (a : Act) → eqb (former_answer s i τ a) done ≡ eqb (call_answer s i τ a) done
same_calls s i τ a = sym (ap (λ n. eqb n done) (same_place s i τ a)) ∙ formerly_done (call_answer s i τ a)

-- and leaves the same state, call by call and over any run
pub same_outcome : (s : State) (e : Event) → former_called s e ≡ called s e
same_outcome s e =
    ap (λ b. pick b (call_next s e.title e.time e.act) s) (same_calls s e.title e.time e.act)

pub same_state : (pool : ℕ) (cs : List Event) → former_state pool cs ≡ state_after pool cs
unfolding former_state state_after
same_state pool [] = refl
same_state pool (c ∷ cs) = ap (λ s. former_called s c) (same_state pool cs) ∙ same_outcome (state_after pool cs) c
