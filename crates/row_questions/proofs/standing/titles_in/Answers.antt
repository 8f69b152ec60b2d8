-- `titles_in` meets its contract. The loop's invariant: the ids passed have their titles.
use mathlib.Core.Path.{refl, ◌∙◌}
use mathlib.Core.List.{List}
use Prim.Native.Nat.{ℕ}
use native.Mathlib.Omega.{arith}
use native.Mathlib.Numerals.{add-one}
use lib.ListN.{length-set}
use Rattle.rules.specs.Limits.{titles_max}
use Rattle.story.specs.declared.Title.{Title}
use Rattle.story.specs.Kept.{no_title}
use Rattle.agent_rows.specs.Layout.{titles_at}
use Rattle.agent_rows.specs.Packed.{titles_from}
use Rattle.agent_rows.proofs.Inverse.{titles_length}
use Rattle.row_questions.proofs.Filling.{put_more, put_all}
use Rattle.row_questions.proofs.standing.titles_in.Goals as goal

abbrev all : List ℕ → List Title
all row = titles_from row titles_at titles_max

pub loop-i-init : goal.loop-i-init
loop-i-init c = (refl, refl)

pub loop-i-preserved : goal.loop-i-preserved
loop-i-preserved c =
    let a = c.args in
    let l = c.loop-i in
    let n = titles_length a.row.now titles_at titles_max in (
      rw (add-one, l.invariant.0, c.title_at.ensures)
          (put_more (all a.row.now) _ no_title l.i (omega (arith, n, c.loop-i-test.true)) (omega (arith, c.loop-i-test.true))),
      length-set l.title-items l.i c.title_at.result ∙ l.invariant.1,
    )

pub returns : goal.returns
returns c =
    let a = c.args in
    let l = c.loop-i in
    let n = titles_length a.row.now titles_at titles_max in
    l.invariant.0 ∙ put_all (all a.row.now) _ titles_max l.i n refl c.loop-i-test.false
