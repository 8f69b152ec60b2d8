-- The calls' contracts settle what they give back: two outcomes that one of them admits are equal. Rests on an arrival having one next
-- admission at most.
use mathlib.Core.Path.{◌≡◌, refl, sym, ap, subst, ◌∙◌}
use mathlib.Core.Bool.{Bool, true, false}
use mathlib.Core.Logic.{⊎_elim}
use mathlib.Core.List.{List}
use Prim.Native.Nat.{ℕ, ◌+◌}
use native.Mathlib.Omega.{arith}
use lib.Dec.{eqb}
use borrow.Author.Tests.{eqb-true, eqb-false}
use Rattle.rules.specs.OneOutcome.{OneOutcome}
use Rattle.rules.specs.Refusals.{done}
use Rattle.rules.proofs.Tests.{decide}
use Rattle.story.specs.Life.{Life}
use Rattle.story.specs.Story.{moment_of}
use Rattle.agent.specs.Played.{life_in}
use Rattle.admissions.specs.Waits.{Next, TurnedAway}
use Rattle.admissions.proofs.GetsIn.{next_one, lets_none}
use Rattle.log_boxes.specs.declared.Beginning.{Beginning}
use Rattle.log_boxes.specs.Box.{BeginsAt, refused_beginning}
use Rattle.log_boxes.proofs.beginning_of.Kinds as beginning-kinds
use Rattle.log_boxes.proofs.beginning_of.Reads as beginning-call

-- of a beginning where nothing is refused: whether an admission follows, and how long until then
abbrev beginning_of : ℕ → Bool → ℕ → ℕ → Beginning
beginning_of answer follows from wait = record { answer = answer; follows = follows; from = from; wait = wait }

module _ (L : Life) (from : ℕ) where
  -- what is told of the admissions from a moment on
  record Follows (follows : Bool) (wait : ℕ) : Type 0 where
    lets : follows ≡ true → (a : ℕ) × Next L from a × (moment_of L a ≡ from + wait)
    turned : follows ≡ false → TurnedAway L from × (wait ≡ 0)

  same_follows : (f g : Bool) (v w : ℕ) → Follows f v → Follows g w → (f ≡ g) × (v ≡ w)
  same_follows true true v w s t =
      let p = s.lets refl in
      let q = t.lets refl in
      let one : moment_of L p.0 ≡ moment_of L q.0 = ap (moment_of L) (next_one L from p.0 q.0 p.1 q.1) in
      (refl, omega (arith, one, p.2, q.2))
  same_follows true false v w s t = absurd (lets_none L from (s.lets refl).0 (s.lets refl).1 (t.turned refl).0)
  same_follows false true v w s t = absurd (lets_none L from (t.lets refl).0 (t.lets refl).1 (s.turned refl).0)
  same_follows false false v w s t = (refl, (s.turned refl).1 ∙ sym (t.turned refl).1)

pub begins_once : (pool : ℕ) (log : List ℕ) (title x : ℕ) (r q : Beginning) → BeginsAt pool log title x r → BeginsAt pool log title x q → r ≡ q
begins_once pool log title x r q s t =
    let same : r.answer ≡ q.answer = s.answers ∙ sym t.answers in
    ⊎_elim
    (λ b.
    let ok : q.answer ≡ done = eqb-true q.answer done b in
    let ok' : r.answer ≡ done = same ∙ ok in
    let since : r.from ≡ q.from = s.waits_from ok' ∙ sym (t.waits_from ok) in
    let two = same_follows (life_in pool log title) q.from r.follows q.follows r.wait q.wait (subst (λ m. Follows (life_in pool log title) m r.follows r.wait) since (record { lets = s.lets_in_holds ok'; turned = s.turned_away ok' })) (record { lets = t.lets_in_holds ok; turned = t.turned_away ok }) in
    λ i. beginning_of (same i) (two.0 i) (since i) (two.1 i))
    (λ b.
    let not-ok : q.answer ≡ done → ⊥ = eqb-false q.answer done b in
    s.refuses (λ h. not-ok (sym same ∙ h)) ∙ ap refused_beginning same ∙ sym (t.refuses not-ok))
    (decide (eqb q.answer done))

pub beginning_one_outcome : OneOutcome 1 beginning-kinds.ps beginning-kinds.r beginning-call.Learnt
beginning_one_outcome κs a x y e f p q = begins_once _ _ _ _ x y p q
