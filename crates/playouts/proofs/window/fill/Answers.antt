-- `playouts::window::fill` meets its contract: the answer, and the numbers as the log and the title at its end give them.
use native.Mathlib.Omega.{arith}
use Rattle.playouts.proofs.Answers.{fills_fillable, stands_sending, carries_done, carries_refused}
use Rattle.playouts.proofs.window.fill.Goals as goal

pub fill_to-requires : goal.fill_to-requires
fill_to-requires c = let at-follow = c in
    let at_done = at-follow in
    let at-standing = at_done in
    let at_end = at-standing in
    let known = at_end in
    let start = known in record { sending = stands_sending _ _ start.requires.title_value _ (λ j. omega (arith, known.shared_slice_known-1.given j)) _ _ _ start.requires.whole_ticks _ at_end.end_of-end.ensures _ at-standing.standing_answer-answer.ensures start.requires.row_to_fill at_done.if-answer-eq-DONE.true; row_to_fill = fills_fillable _ _ _ _ _ _ _ _ at-follow.follow.ensures start.requires.row_to_fill }

pub returns-then-answer-eq-DONE : goal.returns-then-answer-eq-DONE
returns-then-answer-eq-DONE c =
    let at-follow = c in
    let at_done = at-follow in
    let at-standing = at_done in
    let at_end = at-standing in
    let known = at_end in
    let start = known in
    carries_done _ _ start.requires.title_value _ (λ j. omega (arith, known.shared_slice_known-1.given j)) _ _ _ start.requires.whole_ticks _ at_end.end_of-end.ensures _ at-standing.standing_answer-answer.ensures start.requires.row_to_fill at_done.if-answer-eq-DONE.true _ _ _ at-follow.follow.ensures c.fill_to.ensures

pub returns-else-answer-eq-DONE : goal.returns-else-answer-eq-DONE
returns-else-answer-eq-DONE c =
    let at-standing = c in
    let at_end = at-standing in
    let known = at_end in
    let start = known in
    carries_refused _ _ start.requires.title_value _ (λ j. omega (arith, known.shared_slice_known-1.given j)) _ _ _ start.requires.whole_ticks _ at_end.end_of-end.ensures _ at-standing.standing_answer-answer.ensures c.if-answer-eq-DONE.false
