-- `fill` meets its contract: the places passed have the counts, the lanes held and the marks of their ids.
use Prim.Native.Nat.{◌+◌, ◌≤◌, ◌<◌}
use mathlib.Core.Path.{◌≡◌, sym, ap, ◌∙◌}
use native.Mathlib.Omega.{arith}
use native.Mathlib.Numerals.{add-one}
use native.Mathlib.Nat.{le_antisymm}
use lib.Dec.{eqb}
use lib.ListN.{length, get_or, length-set}
use Rattle.rules.specs.Limits.{id_max, titles_max}
use Rattle.rules.specs.Refusals.{pick}
use Rattle.story.specs.declared.Title.{Title}
use Rattle.story.specs.Kept.{clear_mark, ruling, title_held, title_at}
use Rattle.story.specs.Calls.{status_count, status_held, status_mark}
use Rattle.measures.proofs.Within.{title_ok_lem}
use Rattle.status.proofs.Filled.{filled_more, filled_all, id_below}
use Rattle.agent_rows.specs.Layout.{title_places}
use Rattle.agent_rows.specs.Packed.{title_from, unpacked}
use Rattle.agent_rows.proofs.Inverse.{title_at_lem}
use Rattle.row_calls.proofs.titles.fill.Tie as tie
use Rattle.row_calls.proofs.titles.fill.Lts as lts
use Rattle.row_calls.proofs.titles.fill.Reads as reads
use Rattle.row_calls.proofs.titles.fill.Goals as goal

-- the turn's id is an id,
id_fits : (c : lts.In-loop tie.the-claims reads.Pre reads.Post goal.the-invariant-loop-i goal.the-decreases-loop-i tie.handed_clauses) → get_or c.args.ids.now c.loop-i.i 0 ≤ id_max
id_fits c = id_below c.args.ids.now c.loop-i.i c.requires.tested.1 c.loop-i-test.true

id_below_all : (c : lts.In-loop tie.the-claims reads.Pre reads.Post goal.the-invariant-loop-i goal.the-decreases-loop-i tie.handed_clauses) → get_or c.args.ids.now c.loop-i.i 0 < titles_max
id_below_all c = let f = id_fits c in omega arith

-- its title has all its places in the row,
placed : (c : lts.After-title_place tie.the-claims reads.Pre reads.Post goal.the-invariant-loop-i goal.the-decreases-loop-i tie.handed_clauses) → c.title_place-at.result + title_places ≤ length c.args.row.now
placed c = let f = id_fits c.before.before in omega (arith, c.title_place-at.ensures, c.requires.tested.0.long)

-- and is the one that stands there
own : (c : lts.After-title_place tie.the-claims reads.Pre reads.Post goal.the-invariant-loop-i goal.the-decreases-loop-i tie.handed_clauses) →
    let a = c.args in
    title_from a.row.now c.title_place-at.result ≡ title_at (unpacked a.row.now).state (get_or a.ids.now c.loop-i.i 0)
own c =
    let turn = c in
    let a = turn.args in
    ap (title_from a.row.now) c.title_place-at.ensures ∙ sym (title_at_lem a.row.now (get_or a.ids.now turn.loop-i.i 0) (id_below_all turn.before.before))

pub loop-i-init : goal.loop-i-init
loop-i-init c =
    let s = c in (
      s.requires.counts_len.0,
      s.requires.counts_len.1.0,
      s.requires.counts_len.1.1,
      (λ k l. absurd (omega arith)),
      (λ k l. absurd (omega arith)),
      (λ k l. absurd (omega arith)),
    )

pub title_place-at-requires : goal.title_place-at-requires
title_place-at-requires c = id_fits c.before.before

pub ruling-requires : goal.ruling-requires
ruling-requires c = placed c.before

pub bounds-counts-i : goal.bounds-counts-i
bounds-counts-i c = let l = c.loop-i in omega (arith, l.invariant.0, c.loop-i-test.true)

pub title_held-requires : goal.title_held-requires
title_held-requires c = let turn = c in
    let s = turn in
    let r = s.args.row.now in
    let id = get_or s.args.ids.now turn.loop-i.i 0 in
    record { title_places_in_bounds = placed c.before.before; at_value = rw (own c.before.before) (title_ok_lem (unpacked r).state s.requires.tested.0.ok id (id_below_all turn.before.before.before.before)) }

pub bounds-held-i : goal.bounds-held-i
bounds-held-i c = let l = c.loop-i in omega (arith, l.invariant.1, c.loop-i-test.true)

pub shown_mark-requires : goal.shown_mark-requires
shown_mark-requires c = placed c.before.before.before

pub bounds-marks-i : goal.bounds-marks-i
bounds-marks-i c = let l = c.loop-i in omega (arith, l.invariant.2, c.loop-i-test.true)

pub loop-i-preserved : goal.loop-i-preserved
loop-i-preserved c =
    let at_held = c in
    let at_count = at_held in
    let at_place = at_count in
    let turn = at_place in
    let l = turn.loop-i in
    let a = turn.args in
    let g = unpacked a.row.now in
    let title = own at_place.before.before.before.before in
    let count = at_count.ruling.ensures ∙ ap (λ (t : Title). ruling t) title in
    let lanes = at_held.title_held.ensures.is ∙ ap (λ (t : Title). title_held t a.time) title in
    let mark = c.shown_mark.ensures ∙ ap (λ (t : Title). pick (eqb (ruling t) 0) clear_mark t.mark) title in (
      simp length-set l.invariant.0,
      simp length-set l.invariant.1,
      simp length-set l.invariant.2,
      rw (add-one l.i) (filled_more (λ j. status_count g.state j) a.ids.now l.counts l.i at_count.ruling.result (omega (arith, l.invariant.0)) l.invariant.3 count),
      rw (add-one l.i) (filled_more (λ j. status_held g.state j a.time) a.ids.now l.held l.i at_held.title_held.result (omega (arith, l.invariant.1)) l.invariant.4 lanes),
      rw (add-one l.i) (filled_more (λ j. status_mark g.state j) a.ids.now l.marks l.i c.shown_mark.result (omega (arith, l.invariant.2)) l.invariant.5 mark),
    )

pub returns : goal.returns
returns c = let l = c.loop-i in
    let a = c.args in
    let g = unpacked a.row.now in
    let all = le_antisymm l.auto.i-end c.loop-i-test.false in record { counts_after = filled_all (λ j. status_count g.state j) a.ids.now l.counts l.invariant.0 (rw (← all) l.invariant.3); held_after = filled_all (λ j. status_held g.state j a.time) a.ids.now l.held l.invariant.1 (rw (← all) l.invariant.4); marks_after = filled_all (λ j. status_mark g.state j) a.ids.now l.marks l.invariant.2 (rw (← all) l.invariant.5) }
