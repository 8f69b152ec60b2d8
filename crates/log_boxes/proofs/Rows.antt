-- What the rows hold: the places taken from the numbers that were filled in are those of the box, and the picture over a row is the picture
-- over its places. Rests on the laws of written rows and of searches and counts over the same tests.
use mathlib.Core.Path.{◌≡◌, refl, ap}
use mathlib.Core.List.{List}
use Prim.Native.Nat.{ℕ, zero, suc, ◌/◌, ◌≤◌, ◌<◌}
use native.Mathlib.Omega.{arith}
use lib.Dec.{leb, ltb, eqb}
use lib.ListN.{length, get_or}
use Rattle.rules.specs.Limits.{both, lane_places}
use Rattle.rules.specs.Refusals.{pick}
use Rattle.rules.proofs.Search.{first_ext, how_many_ext}
use Rattle.scheme.specs.Scheme.{film_in}
use Rattle.plans.specs.Row.{written}
use Rattle.plans.proofs.Row.{written_first, written_length}
use Rattle.takings.specs.Takings.{taking_place, is_kept, kept_at, peak_to}
use Rattle.box_charts.specs.declared.Begun.{Begun}
use Rattle.box_charts.specs.Marks.{marks_to}
use Rattle.box_charts.specs.Curve.{curve_to, kept_curve}
use Rattle.box_charts.specs.Picture.{drawn_text, box_drawing}

-- ---- places from numbers

place_alike : (D tick : ℕ) (f g : ℕ → ℕ) (m : ℕ) → ((j : ℕ) → j < m → f j ≡ g j) → (c : ℕ) → taking_place D tick f m c ≡ taking_place D tick g m c
unfolding taking_place
place_alike D tick f g m e c =
    ap (λ n. pick (film_in D tick c) n m) (first_ext (λ j. eqb (f j) c) (λ j. eqb (g j) c) m (λ j lt. ap (λ n. eqb n c) (e j lt)))

written_ext : (f g : ℕ → ℕ) (row : List ℕ) → ((c : ℕ) → f c ≡ g c) → (n : ℕ) → written f row n ≡ written g row n
unfolding written
written_ext f g row e zero = refl
written_ext f g row e (suc n) = rw (written_ext f g row e n, e n) refl

-- the places over numbers that were written are those over the numbers
pub taken_from_lem : (D tick : ℕ) (f : ℕ → ℕ) (numbers row : List ℕ) (n : ℕ) →
    written (taking_place D tick (λ j. get_or (written f numbers (length numbers)) j 0) (length (written f numbers (length numbers)))) row n
    ≡ written (taking_place D tick f (length numbers)) row n
taken_from_lem D tick f numbers row n =
    rw (written_length f numbers (length numbers))
    (written_ext _ _ row (place_alike D tick _ f (length numbers) (λ j lt. written_first f numbers (length numbers) j (omega arith) lt)) n)

-- ---- the picture over a row

module _ (place other : ℕ → ℕ) (n : ℕ) (alike : (c : ℕ) → c < n → other c ≡ place c) where
  kept_alike : (t : ℕ) → kept_at other n t ≡ kept_at place n t
  unfolding kept_at is_kept
  kept_alike t = how_many_ext _ _ n (λ c lt. ap (λ p. both (leb (p / lane_places) t) (ltb t c)) (alike c lt))

  marks_alike : (m : ℕ) → m ≤ n → marks_to n other m ≡ marks_to n place m
  unfolding marks_to
  marks_alike zero h = refl
  marks_alike (suc m) h = rw (marks_alike m (omega arith), alike m (omega arith)) refl

  peak_alike : (m : ℕ) → peak_to (kept_at other n) m ≡ peak_to (kept_at place n) m
  unfolding peak_to
  peak_alike zero = refl
  peak_alike (suc m) = rw (peak_alike m, kept_alike m) refl

  curve_alike : (most m : ℕ) → curve_to n most (kept_at other n) m ≡ curve_to n most (kept_at place n) m
  unfolding curve_to
  curve_alike most zero = refl
  curve_alike most (suc m) = rw (curve_alike most m, kept_alike m) refl

  pub picture_alike : (b : Begun) → box_drawing b other n ≡ box_drawing b place n
  unfolding box_drawing drawn_text kept_curve
  picture_alike b = rw (marks_alike n (omega arith), peak_alike n, curve_alike (peak_to (kept_at place n) n).many n) refl
