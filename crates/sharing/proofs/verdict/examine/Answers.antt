-- `sharing::verdict::examine` meets its contract. The loop's invariant: each flag, with what the titles ahead will add,
-- is the test of all.
use mathlib.Core.Path.{refl, ap, ◌∙◌}
use Prim.Native.Nat.{◌<◌}
use native.Mathlib.Omega.{arith}
use lib.ListN.{length}
use Rattle.rules.specs.Limits.{both}
use Rattle.rules.proofs.Tests.{and_both}
use Rattle.sharing_titles.specs.declared.titles.Rated.{Rated}
use Rattle.sharing_titles.specs.Titles.{titles}
use Rattle.sharing.specs.Verdict.{allowed, ordered}
use Rattle.sharing_titles.proofs.titles.Laws.{titles_length}
use Rattle.sharing.proofs.verdict.Laws.{passed_next, passed_all}
use Rattle.sharing.proofs.verdict.examine.Goals as goal

pub loop-i-init : goal.loop-i-init
loop-i-init c = (refl, refl)

pub title_at-t-requires : goal.title_at-t-requires
title_at-t-requires c = record { same_lengths = c.requires; i_in_bounds = c.loop-i-test.true }

pub loop-i-preserved : goal.loop-i-preserved
unfolding ordered
loop-i-preserved c =
    let at-loop-test = c in
    let at-loop = at-loop-test in
    let s = at-loop in
    let ts = titles s.args.rates.now s.args.lengths.now s.args.floors.now s.args.caps.now in
    let l = at-loop.loop-i in
    let h : l.i < length ts =
    omega (arith, at-loop-test.loop-i-test.true, titles_length _ _ _ _ s.requires) in
    let t = c.title_at-t.ensures in (
      passed_next allowed ts l.good _ l.i h
          (and_both l.good c.allowed-good.result ∙ ap (both l.good) (c.allowed-good.ensures ∙ ap allowed t)) l.invariant.0,
      passed_next ordered ts l.kept _ l.i h (and_both l.kept (ordered c.title_at-t.result) ∙ ap (λ (x : Rated). both l.kept (ordered x)) t)
          l.invariant.1,
    )

pub returns : goal.returns
returns c =
    let s = c in
    let n = titles_length _ _ _ _ s.requires in
    record {
      limits =
          passed_all allowed _ c.loop-i.good c.loop-i.i (omega (arith, c.loop-i-test.false, n))
          c.loop-i.invariant.0;
      order =
          passed_all ordered _ c.loop-i.kept c.loop-i.i (omega (arith, c.loop-i-test.false, n))
          c.loop-i.invariant.1;
    }
