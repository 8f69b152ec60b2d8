-- `console_pools::titles::put_status` meets its contract: the status of the ids behind the time.
use Prim.Native.Nat.{ℕ, zero, suc}
use mathlib.Core.Path.{◌≡◌, refl}
use mathlib.Core.List.{List, [], ◌∷◌}
use native.Mathlib.Omega.{arith}
use native.Mathlib.Numerals.{add-one}
use lib.ListN.{get_or, take, drop, length-take, length-drop}
use Rattle.console_pools.specs.Titles.{ids_in}
use Rattle.console_pools.proofs.titles.put_status.Goals as goal

-- what stands behind the first of some numbers are the numbers behind the first
rest : (n : ℕ) (l : List ℕ) → drop 1 (take (suc n) l) ≡ take n (drop 1 l)
rest zero [] = refl
rest (suc n) [] = refl
rest n (x ∷ l) = refl

head : (n : ℕ) (l : List ℕ) → get_or (take (suc n) l) 0 0 ≡ get_or l 0 0
head n [] = refl
head n (x ∷ l) = refl

pub slice_bounds-put_rows-end : goal.slice_bounds-put_rows-end
slice_bounds-put_rows-end c = rw length-take (omega (arith, c.ids_of-n.ensures.1))

pub slice_bounds-put_rows-end-2 : goal.slice_bounds-put_rows-end-2
slice_bounds-put_rows-end-2 c = rw length-take (omega (arith, c.ids_of-n.ensures.1))

pub slice_bounds-put_rows-end-3 : goal.slice_bounds-put_rows-end-3
slice_bounds-put_rows-end-3 c = rw length-take (omega (arith, c.ids_of-n.ensures.1))

pub slice_bounds-put_rows-end-4 : goal.slice_bounds-put_rows-end-4
slice_bounds-put_rows-end-4 c = rw length-take (omega (arith, c.ids_of-n.ensures.1))

pub put_rows-requires : goal.put_rows-requires
put_rows-requires c =
    let few = c.ids_of-n.ensures.1 in (
      simp (length-take, length-drop) (omega (arith, few)),
      (
        simp (length-take, length-drop) (omega (arith, few)),
        (simp (length-take, length-drop) (omega (arith, few)), simp (length-take, length-drop) (omega (arith, few))),
      ),
    )

pub returns : goal.returns
unfolding ids_in
returns c = rw (← c.ids_of-n.ensures.0) (rw (add-one, head, rest) at c.put_rows.ensures)
