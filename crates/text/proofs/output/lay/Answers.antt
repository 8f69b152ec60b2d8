-- `text::output::lay` meets its contract: the rows agree in the places passed, and at the end in all.
use mathlib.Core.Path.{◌≡◌, refl, sym, ap, ◌∙◌}
use mathlib.Core.List.{List, [], ◌∷◌, ◌++◌}
use Prim.Native.Nat.{ℕ}
use native.Mathlib.Omega.{arith}
use native.Mathlib.Numerals.{add-one}
use lib.ListN.{length, get_or, take, length-set}
use lib.Seq.{take-suc, take-suc-set, take_all}
use Rattle.text.proofs.output.lay.Goals as goal

pub loop-i-init : goal.loop-i-init
loop-i-init c = (c.requires, refl)

pub loop-i-preserved : goal.loop-i-preserved
loop-i-preserved c =
    let l = c.loop-i in
    let f = c.args.bytes.now in (
      length-set l.row l.i _ ∙ l.invariant.0,
      rw (add-one)
          (take-suc-set l.row l.i _ (omega arith)
          ∙ ap (λ (x : List ℕ). x ++ (get_or f l.i 0 ∷ [])) l.invariant.1
          ∙ sym (take-suc f l.i 0 (omega arith))),
    )

pub returns : goal.returns
returns c =
    let l = c.loop-i in
    let f = c.args.bytes.now in
    sym (take_all l.i l.row (omega arith)) ∙ l.invariant.1 ∙ take_all l.i f (omega arith)
