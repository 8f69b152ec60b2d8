-- `playouts::follow::follow` meets its contract: the log played to its end, and the title as it stands then.
use native.Mathlib.Omega.{arith}
use Rattle.playouts.proofs.Answers.{id_low, stood}
use borrow.Author.Rules.{rules}
use Rattle.playouts.proofs.follow.follow.Goals as goal

pub title_at-requires : goal.title_at-requires
title_at-requires c =
    let start = c in
    (search rules, id_low start.args.pool start.args.title start.requires.title_value)

pub returns : goal.returns
returns c =
    let at-play = c in
    let known = at-play in
    stood _ _ known.requires.title_value _ (λ j. omega (arith, known.shared_slice_known-1.given j)) _ _ _ _ _ _ at-play.play-played.ensures _ c.title_at.ensures
