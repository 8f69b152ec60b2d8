-- `playouts::window::window_answer` meets its contract: the log played to its end, and the answer of the title as it stands.
use native.Mathlib.Omega.{arith}
use Rattle.playouts.proofs.Answers.{answers}
use Rattle.playouts.proofs.window.window_answer.Goals as goal

pub returns : goal.returns
returns c =
    let at_end = c in
    let known = at_end in
    answers _ _ known.requires _ (λ j. omega (arith, known.shared_slice_known-1.given j)) _ at_end.end_of-end.ensures _ _ c.standing_answer.ensures
