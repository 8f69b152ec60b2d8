-- Laws of runs: a run goes on past a byte of its sort, and stops at another and at the line's end.
use Prim.Native.Nat.{ℕ, suc, ◌+◌, ◌-◌, ◌≤◌, ◌<◌}
use mathlib.Core.Path.{◌≡◌}
use mathlib.Core.Bool.{Bool, true, false}
use mathlib.Core.List.{List, [], ◌∷◌}
use native.Mathlib.Omega.{arith}
use native.Mathlib.Numerals.{add-one}
use lib.ListN.{length, get_or, drop, drop_of_length-le, length-drop}
use lib.Seq.{drop-cons}
use Rattle.rules.specs.Refusals.{pick}
use Rattle.text.specs.declared.bytes.Sort.{Sort}
use Rattle.text.specs.Bytes.{is_sort, run, run_end}

pub run_end_on : (k : Sort) (s : List ℕ) (i : ℕ) → i < length s → is_sort k (get_or s i 0) ≡ true
    → run_end k s (i + 1) ≡ run_end k s i
unfolding run_end run
run_end_on k s i h e = rw (drop-cons s i 0 h, e, add-one i) (omega arith)

pub run_end_stop : (k : Sort) (s : List ℕ) (i : ℕ) → i < length s → is_sort k (get_or s i 0) ≡ false → i ≡ run_end k s i
unfolding run_end run
run_end_stop k s i h e = rw (drop-cons s i 0 h, e) (omega arith)

pub run_end_end : (k : Sort) (s : List ℕ) (i : ℕ) → length s ≤ i → i ≡ run_end k s i
unfolding run_end run
run_end_end k s i h = rw (drop_of_length-le s h) (omega arith)

run_short : (k : Sort) (s : List ℕ) → run k s ≤ length s
unfolding run
run_short k [] = omega arith
run_short k (b ∷ s) = shorter (is_sort k b) (run_short k s) where
  shorter : (t : Bool) → run k s ≤ length s → pick t (suc (run k s)) 0 ≤ suc (length s)
  shorter true h = omega arith
  shorter false h = omega arith

pub run_end_low : (k : Sort) (s : List ℕ) (i : ℕ) → i ≤ run_end k s i
unfolding run_end
run_end_low k s i = omega arith

pub run_end_high : (k : Sort) (s : List ℕ) (i : ℕ) → i ≤ length s → run_end k s i ≤ length s
unfolding run_end
run_end_high k s i h =
    let r : run k (drop i s) ≤ length s - i = rw length-drop at (run_short k (drop i s)) in
    omega arith
