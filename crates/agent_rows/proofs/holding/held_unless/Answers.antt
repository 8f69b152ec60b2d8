-- `held_unless` meets its contract: the id's title stands at its place.
use mathlib.Core.Path.{sym, ap, ◌∙◌}
use Prim.Native.Nat.{ℕ}
use native.Mathlib.Omega.{arith}
use borrow.Author.Tests.{eq-eqb, ne_eqb}
use Rattle.story.specs.declared.Title.{Title}
use Rattle.story.specs.Kept.{title_held}
use Rattle.measures.proofs.Within.{title_ok_lem}
use Rattle.agent_rows.specs.Packed.{title_from, unpacked}
use Rattle.agent_rows.proofs.Inverse.{title_at_lem}
use Rattle.agent_rows.proofs.holding.held_unless.Goals as goal

pub returns-then-id-but : goal.returns-then-id-but
returns-then-id-but c = record { is = simp (eq-eqb _ _ c.if-id-but.true); low = omega arith; high = omega arith }

pub title_held-requires : goal.title_held-requires
title_held-requires c = let s = c in
    let r = s.args.row.now in
    record { title_places_in_bounds = omega arith; at_value = rw (c.title_place.ensures, ← title_at_lem r s.args.id s.requires.row_len.1) (title_ok_lem (unpacked r).state s.requires.row_value s.args.id s.requires.row_len.1) }

pub returns : goal.returns
returns c =
    let s = c in
    let r = s.args.row.now in
    record {
      is = simp (ne_eqb _ _ c.if-id-but.false)
          (c.title_held.ensures.is
          ∙ ap (λ (n : ℕ). title_held (title_from r n) s.args.time) c.title_place.ensures
          ∙ ap (λ (t : Title). title_held t s.args.time) (sym (title_at_lem r s.args.id s.requires.row_len.1)));
      low = omega arith;
      high = omega arith;
    }
