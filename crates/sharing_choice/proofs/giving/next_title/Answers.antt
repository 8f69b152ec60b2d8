-- `giving::next_title` meets its contract. The loop's invariant: `best` leads among the titles passed
-- (proofs/giving/Laws).
use mathlib.Core.Path.{◌≡◌, subst, subst⁻¹, ◌∙◌, ap}
use mathlib.Core.Logic.{inl, inr}
use Prim.Native.Nat.{ℕ, ◌<◌}
use native.Mathlib.Omega.{arith}
use lib.ListN.{length, get_or}
use Rattle.sharing_titles.specs.declared.titles.Rated.{Rated}
use Rattle.sharing_titles.specs.Titles.{titles, rated_title}
use Rattle.sharing_titles.specs.inner.Weighing.{Weighable}
use Rattle.sharing_titles.specs.Term.{worth}
use Rattle.sharing_titles.proofs.titles.Laws.{titles_length}
use Rattle.sharing_choice.proofs.giving.Laws.{Leading, leads_none, leads_next, leads_all}
use Rattle.sharing_choice.proofs.giving.next_title.Tie as tie
use Rattle.sharing_choice.proofs.giving.next_title.Lts as lts
use Rattle.sharing_choice.proofs.giving.next_title.Reads as reads
use Rattle.sharing_choice.proofs.giving.next_title.Goals.{then-most-worth, else-most-worth}
use Rattle.sharing_choice.proofs.giving.next_title.Goals as goal

pub loop-i-init : goal.loop-i-init
loop-i-init c =
    let s = c in
    let ts = titles s.args.rates.now s.args.lengths.now s.args.floors.now s.args.caps.now in
    let ks = s.args.counts.now in
    subst (λ (n : ℕ). Leading ts ks 0 n 0) (titles_length _ _ _ _ s.requires.sound.even) (leads_none ts ks)

pub title_at-t-requires : goal.title_at-t-requires
title_at-t-requires c =
    let s = c in
    record { same_lengths = s.requires.sound.even; i_in_bounds = c.loop-i-test.true }

-- in the loop, i is a title's place
inside : (c : lts.In-loop tie.the-claims reads.Pre reads.Post goal.the-invariant-loop-i goal.the-decreases-loop-i tie.handed_clauses) →
    let s = c in
    let ts = titles s.args.rates.now s.args.lengths.now s.args.floors.now s.args.caps.now in
    c.loop-i.i < length ts
inside c =
    let s = c in
    omega (arith, c.loop-i-test.true, titles_length _ _ _ _ s.requires.sound.even)

pub bounds-counts-i : goal.bounds-counts-i
bounds-counts-i c =
    let s = c in
    omega (arith, inside c.before.before.before, s.requires.way.places)

pub gain-worth-requires : goal.gain-worth-requires
gain-worth-requires c =
    let at-loop = c in
    let i = at-loop.loop-i.i in
    let l = inside c.before.before.before in
    let w = at-loop.requires.sound.weighable.each i l in
    subst⁻¹ Weighable c.title_at-t.ensures w

pub loop-i-preserved : goal.loop-i-preserved
loop-i-preserved c =
    let at-loop = c in
    let s = at-loop in
    let ts = titles s.args.rates.now s.args.lengths.now s.args.floors.now s.args.caps.now in
    let ks = s.args.counts.now in
    let l = at-loop.loop-i in
    let e : c.gain-worth.result ≡ worth (rated_title ts l.i) (get_or ks l.i 0) =
    c.gain-worth.ensures
    ∙ ap (λ (t : Rated). worth t (get_or ks l.i 0)) c.title_at-t.ensures in
    let next = leads_next ts ks l.invariant (inside c.before.before.before.before.before) e in
    elim c.if-most-worth.branch [
      | then-most-worth w ↦ next (inl (omega (arith, w.if-most-worth.true), w.best-is, w.most-is))
      | else-most-worth w ↦ next (inr (omega (arith, w.if-most-worth.false), w.best-is, w.most-is))
    ]

pub returns : goal.returns
returns c =
    let s = c in
    leads_all _ _ (omega (arith, c.loop-i-test.false, titles_length _ _ _ _ s.requires.sound.even)) c.loop-i.invariant
