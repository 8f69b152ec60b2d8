-- Cards have time to retune (02, 9): of any accepted sequence, two neighbouring ones among a title's opening and its
-- changes lie at least one floor slot apart, whatever else comes between. Refusal 16 is exact: a change that gets it comes
-- sooner, one that is accepted does not, and no other event gets it. Rests on the laws of listed refusals.
use mathlib.Core.Path.{◌≡◌, refl, sym, ◌∙◌}
use mathlib.Core.Bool.{true, false, false≢true}
use mathlib.Core.Logic.{⊎_elim}
use mathlib.Core.List.{List, [], ◌∷◌, ◌++◌}
use Prim.Native.Nat.{ℕ, ◌+◌, ◌≤◌, ◌<◌}
use native.Mathlib.Omega.{arith}
use lib.Dec.{lit<, eqb}
use borrow.Author.Tests.{ltb-true, ltb-false, eqb-true, eq-eqb}
use Rattle.rules.specs.Refusals.{first_hit, too_soon}
use Rattle.rules.proofs.Tests.{decide}
use Rattle.rules.proofs.Refusals.{hits_of, numbered, distinct, is_listed, cleared, first_hit_lem}
use Rattle.story.specs.Life.{Life}
use Rattle.story.specs.Orders.{Tests, open_order, change_order, close_order, doors_order}
use Rattle.story.specs.declared.Act.{Act}
use Rattle.story.specs.declared.Act.TheVariants.{Opens, Changes, Closes, Doors}
use Rattle.story.specs.declared.Event.{Event}
use Rattle.story.specs.Story.{event, settling, life_after, life_of}
use Rattle.story.specs.Story.{sets_count, tuned_of, tests_to, order_of, answer_to, answer, Accepted, more, Untuned}
use Rattle.story.specs.Story.{goes_by}

-- an accepted change comes a floor slot after the last opening or change of its title, or later
pub settled : (lanes : ℕ) (es : List Event) (i τ k : ℕ) → answer lanes es (event i τ (Changes k)) ≡ 0 →
    tuned_of es i + settling (life_of es i) ≤ τ
unfolding answer_to numbered hits_of
settled lanes es i τ k h =
    let e : Event = event i τ (Changes k) in
    ltb-false τ (tuned_of es i + settling (life_of es i))
    (cleared (order_of (Changes k) (tests_to lanes es e (life_of es i) (Changes k))) refl h too_soon)

-- what gets 16 is a change that comes sooner
soon_asked : (a : Act) (t : Tests) → first_hit (order_of a t) ≡ too_soon → (t.soon ≡ true) × (sets_count a ≡ true)
unfolding distinct is_listed hits_of
soon_asked (Opens f k) t h = absurd (false≢true (first_hit_lem (open_order t) refl too_soon (lit< tt) h).0)
soon_asked (Changes k) t h = ((first_hit_lem (change_order t) refl too_soon (lit< tt) h).0, refl)
soon_asked Closes t h = absurd (false≢true (first_hit_lem (close_order t) refl too_soon (lit< tt) h).0)
soon_asked (Doors b) t h = absurd (false≢true (first_hit_lem (doors_order t) refl too_soon (lit< tt) h).0)

pub sixteen : (lanes : ℕ) (es : List Event) (e : Event) → answer lanes es e ≡ too_soon →
    (e.time < tuned_of es e.title + settling (life_of es e.title)) × (sets_count e.act ≡ true)
unfolding answer_to
sixteen lanes es e h =
    let L : Life = life_of es e.title in
    let x = soon_asked e.act (tests_to lanes es e L e.act) h in
    (ltb-true e.time (tuned_of es e.title + settling L) x.0, x.1)

-- events that neither open nor change a title leave it as long a time to settle, from the same moment on
as_long : (L : Life) (τ : ℕ) (a : Act) → sets_count a ≡ false → settling (life_after L τ a) ≡ settling L
as_long L τ (Opens f k) h = absurd (false≢true (sym h))
as_long L τ (Changes k) h = absurd (false≢true (sym h))
as_long L τ Closes h = refl
as_long L τ (Doors b) h = refl

since : (i : ℕ) (between es : List Event) → Untuned i between →
    (tuned_of (between ++ es) i ≡ tuned_of es i) × (settling (life_of (between ++ es) i) ≡ settling (life_of es i))
unfolding tuned_of life_of
since i [] es u = (refl, refl)
since i (e ∷ between) es (goes_by f u) =
    let rest = since i between es u in
    ⊎_elim
    (λ x.
    let quiet : sets_count e.act ≡ false = f (eqb-true e.title i x) in
    rw (x, quiet) (rest.0, as_long (life_of (between ++ es) i) e.time e.act quiet ∙ rest.1))
    (λ x. rw x rest)
    (decide (eqb e.title i))

-- the last opening or change is the event itself
own : (i τ : ℕ) (a : Act) (es : List Event) → sets_count a ≡ true → tuned_of (event i τ a ∷ es) i ≡ τ
unfolding tuned_of
own i τ a es h = rw (eq-eqb i i refl, h) refl

-- the older part of an accepted sequence is accepted
older : (lanes : ℕ) (new es : List Event) → Accepted lanes (new ++ es) → Accepted lanes es
older lanes [] es acc = acc
older lanes (e ∷ new) es (more acc h) = older lanes new es acc

latest : (lanes : ℕ) (e : Event) (es : List Event) → Accepted lanes (e ∷ es) → answer lanes es e ≡ 0
latest lanes e es (more acc h) = h

pub far_apart : (lanes : ℕ) (new between es : List Event) (i τ υ k : ℕ) (a : Act) → sets_count a ≡ true →
    Untuned i between → Accepted lanes (new ++ (event i υ (Changes k) ∷ (between ++ (event i τ a ∷ es)))) →
    τ + settling (life_of (event i τ a ∷ es) i) ≤ υ
far_apart lanes new between es i τ υ k a h u acc =
    let old : List Event = event i τ a ∷ es in
    let taken = latest lanes (event i υ (Changes k)) (between ++ old) (older lanes new (event i υ (Changes k) ∷ (between ++ old)) acc) in
    let same = since i between old u in
    omega (arith, same.0, own i τ a es h, same.1, settled lanes (between ++ old) i υ k taken)
