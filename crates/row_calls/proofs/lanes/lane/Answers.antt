-- `lane` meets its contract: the cell of the tick that was found. Rests on the laws of answered questions.
use mathlib.Core.Path.{◌≡◌, sym, ap, subst, ◌∙◌}
use Prim.Native.Nat.{ℕ, ◌<◌}
use native.Mathlib.Omega.{arith}
use Rattle.rules.specs.Limits.{titles_max}
use Rattle.story.specs.declared.Title.{Title}
use Rattle.story.specs.Kept.{title_at, scheme_in}
use Rattle.measures.specs.Readable.{Filmed}
use Rattle.questions.proofs.Lane.{lane_id, lane_film, lane_capped}
use Rattle.agent_rows.specs.Packed.{title_from, unpacked}
use Rattle.agent_rows.proofs.Inverse.{title_at_lem}
use Rattle.row_calls.specs.Answers.{row_lane}
use Rattle.row_calls.proofs.Cells.{lane_long, lane_answered, lane_cell_shown, lane_not_shown}
use Rattle.row_calls.proofs.lanes.lane.Tie as tie
use Rattle.row_calls.proofs.lanes.lane.Lts as lts
use Rattle.row_calls.proofs.lanes.lane.Reads as reads
use Rattle.row_calls.proofs.lanes.lane.Goals as goal

-- past the test the question is answered
none : (c : lts.Then1 tie.the-claims reads.Pre reads.Post tie.handed_clauses) →
    let a = c.args in
    row_lane a.row.now a.id a.lane a.time ≡ 0
none c = sym c.shown_tick-shown.ensures.0 ∙ c.if-answer-eq-DONE.true

below : (c : lts.Then1 tie.the-claims reads.Pre reads.Post tie.handed_clauses) → c.args.id < titles_max
below c =
    let a = c.args in
    let low = lane_id (unpacked a.row.now).state a.id a.lane a.time (lane_answered _ _ _ _ (none c)) in
    omega (arith, low)

pub title_place-requires : goal.title_place-requires
title_place-requires c =
    let a = c.args in
    lane_id (unpacked a.row.now).state a.id a.lane a.time (lane_answered _ _ _ _ (none c.before))

pub cell_of-requires : goal.cell_of-requires
cell_of-requires c = let a = c.args in
    let r = a.row.now in
    let asked = lane_answered r a.id a.lane a.time (none c.before.before) in
    let long = lane_long r a.id a.lane a.time (none c.before.before) in
    let low = below c.before.before in
    let place = c.title_place.ensures in
    let same = title_at_lem r a.id low ∙ ap (title_from r) (sym place) in record {
      title_places_in_bounds = omega (arith, place, long, low);
      filmed = subst (λ (t : Title). Filmed t.film) same (lane_film (unpacked r).state a.id a.lane a.time asked);
      lane_bound = (
        subst (λ (t : Title). a.lane < t.film.cap) same (lane_capped (unpacked r).state a.id a.lane a.time asked),
        c.shown_tick-shown.ensures.1.high,
      );
    }

pub returns-then-answer-eq-DONE : goal.returns-then-answer-eq-DONE
returns-then-answer-eq-DONE c =
    let e = c in
    let a = e.args in
    let r = a.row.now in
    let place = c.title_place.ensures in (
      sym (none e.before.before.before),
      c.cell_of.ensures
          ∙ ap (λ (n : ℕ). (scheme_in (title_from r n)).on_lane a.lane e.shown_tick-shown.result.tick) place
          ∙ ap (λ (t : Title). (scheme_in t).on_lane a.lane e.shown_tick-shown.result.tick) (sym (title_at_lem r a.id (below e.before.before.before)))
          ∙ ap ((scheme_in (title_at (unpacked r).state a.id)).on_lane a.lane) e.shown_tick-shown.ensures.1.is
          ∙ lane_cell_shown r a.id a.lane a.time (none e.before.before.before),
    )

pub returns : goal.returns
returns c =
    let a = c.args in
    let v = c.shown_tick-shown.ensures.0 in
    (v, lane_not_shown a.row.now a.id a.lane a.time (λ e. c.if-answer-eq-DONE.false (v ∙ e)))
