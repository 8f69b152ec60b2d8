-- `giving::give` meets its contract. The loop's invariant: the counts are those after `counter` lanes
-- (proofs/giving/Laws), which after the last one are the shared counts.
use mathlib.Core.Path.{◌≡◌, sym, ap, ap₂, subst, ◌∙◌}
use mathlib.Core.List.{List}
use mathlib.Core.Logic.{inl, inr}
use Prim.Native.Nat.{ℕ, ◌+◌, ◌<◌}
use native.Mathlib.Omega.{arith}
use lib.ListN.{length}
use Rattle.sharing_titles.specs.Titles.{titles, row_total}
use Rattle.sharing_choice.specs.Choice.{shared}
use Rattle.sharing_titles.proofs.titles.Laws.{titles_length, titles_floors}
use Rattle.sharing_choice.proofs.giving.Laws.{Progress, begins, goes_on, ends}
use Rattle.sharing_choice.proofs.giving.give.Tie as tie
use Rattle.sharing_choice.proofs.giving.give.Lts as lts
use Rattle.sharing_choice.proofs.giving.give.Reads as reads
use Rattle.sharing_choice.proofs.giving.give.Goals.{then-at-rates, else-at-rates}
use Rattle.sharing_choice.proofs.giving.give.Goals as goal

pub loop-init : goal.loop-init
loop-init c =
    let s = c in
    let ts = titles s.args.rates.now s.args.lengths.now s.args.floors.now s.args.caps.now in
    let e = titles_floors _ _ _ _ s.requires.sound.even ∙ sym s.requires.counts_value in
    subst (λ (l : List ℕ). Progress ts 0 l) e (begins ts s.requires.sound.weighable)

pub next_title-at-requires : goal.next_title-at-requires
next_title-at-requires c =
    let at-loop = c in
    record { sound = at-loop.requires.sound; way = at-loop.loop.invariant.way }

-- where a lane is given, the place is a title's, and has a count
inside : (c : lts.Then1 tie.the-claims reads.Pre reads.Post goal.the-invariant-loop goal.the-decreases-loop tie.handed_clauses) →
    let at-loop = c in
    let s = at-loop in
    let ts = titles s.args.rates.now s.args.lengths.now s.args.floors.now s.args.caps.now in
    (c.next_title-at.result < length ts) × (length at-loop.loop.counts ≡ length ts)
inside c =
    let at-loop = c in
    let n = titles_length _ _ _ _ at-loop.requires.sound.even in
    (omega (arith, c.if-at-rates.true, n), at-loop.loop.invariant.way.places)

pub bounds-counts-at : goal.bounds-counts-at
bounds-counts-at c = omega (arith, inside c.before.before)

pub overflow_add-counts : goal.overflow_add-counts
overflow_add-counts c =
    let at-loop = c in
    let at = c.next_title-at.result in
    let l = (inside c.before.before).0 in
    omega (
      arith,
      at-loop.loop.invariant.way.high at l,
      (at-loop.requires.sound.weighable.each at l).cap_high,
    )

pub bounds-counts-at-then-at-rates : goal.bounds-counts-at-then-at-rates
bounds-counts-at-then-at-rates c = omega (arith, inside c.before.before)

pub loop-preserved : goal.loop-preserved
loop-preserved c =
    let at-loop = c in
    let s = at-loop in
    let n = titles_length _ _ _ _ s.requires.sound.even in
    let next = goes_on _ s.requires.sound.weighable at-loop.loop.invariant c.next_title-at.ensures in
    elim c.if-at-rates.branch [
      | then-at-rates w ↦ next (inl (omega (arith, w.if-at-rates.true, n), w.counts-is))
      | else-at-rates w ↦ next (inr (omega (arith, w.if-at-rates.false, n), w.counts-is))
    ]

pub shape_of-counts : goal.shape_of-counts
shape_of-counts c =
    let s = c in
    let even = s.requires.sound.even in
    omega (
      arith,
      c.loop.invariant.way.places,
      titles_length _ _ _ _ even,
      even.third,
      ap length s.requires.counts_value,
    )

pub returns : goal.returns
returns c =
    let s = c in
    let ts = titles s.args.rates.now s.args.lengths.now s.args.floors.now s.args.caps.now in
    let e : c.loop.counter ≡ s.args.spare = omega (arith, c.loop-test.false) in
    ends ts s.requires.sound.weighable c.loop.counter c.loop.counts c.loop.invariant
    ∙ ap₂ (λ (f : List ℕ) (n : ℕ). shared (row_total f + n) ts) (titles_floors _ _ _ _ s.requires.sound.even) e
