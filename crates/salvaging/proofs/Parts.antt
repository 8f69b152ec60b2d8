-- Parts of a list: one that ends a byte later, one with what follows it, and one cut at either end first.
-- Rest on the laws of lists.
use mathlib.Core.Path.{◌≡◌, sym, ap, ◌∙◌}
use mathlib.Core.List.{List, [], ◌∷◌, ◌++◌}
use Prim.Native.Nat.{ℕ, suc, ◌+◌, ◌-◌, ◌≤◌, ◌<◌}
use native.Mathlib.Omega.{arith}
use lib.ListN.{length, get_or, take, drop, take-append-drop}
use lib.Seq.{take-suc, take-add, drop_at, drop-append-le, length-take-le, slice}

pub slice_suc : (p e : ℕ) (bs : List ℕ) → p ≤ e → e < length bs → slice p (suc e) bs ≡ slice p e bs ++ get_or bs e 0 ∷ []
slice_suc p e bs le lt =
    let size : length (take e bs) ≡ e = length-take-le e bs (omega arith) in
    rw (take-suc bs e 0 lt) (drop-append-le p (take e bs) (get_or bs e 0 ∷ []) (rw size le))

pub part_rest : (p e : ℕ) (bs : List ℕ) → p ≤ e → e ≤ length bs → slice p e bs ++ drop e bs ≡ drop p bs
part_rest p e bs le lt =
    let size : length (take e bs) ≡ e = length-take-le e bs lt in
    sym (drop-append-le p (take e bs) (drop e bs) (rw size le)) ∙ ap (drop p) (take-append-drop e bs)

pub part_is : (p e : ℕ) (bs : List ℕ) → p ≤ e → e ≤ length bs → slice p e bs ≡ take (e - p) (drop p bs)
part_is p e bs le within =
    let at : p + (e - p) ≡ e = omega arith in
    let cut = take-add p (e - p) bs in
    let size : length (take p bs) ≡ p = length-take-le p bs (omega arith) in
    ap (drop p) (rw at at cut) ∙ drop_at (take p bs) (take (e - p) (drop p bs)) p size
