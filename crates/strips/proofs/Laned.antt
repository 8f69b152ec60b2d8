-- One lane more of a title's lanes. Rests on what is written in turn being written as one.
use Prim.Native.Nat.{ℕ, ◌+◌}
use mathlib.Core.Path.{◌≡◌}
use mathlib.Core.Bool.{Bool}
use mathlib.Core.List.{List}
use native.Mathlib.Numerals.{add-one}
use Rattle.story.specs.declared.Title.{Title}
use Rattle.text.specs.declared.page.Page.{Page}
use Rattle.text.specs.Pages.{Puts}
use Rattle.text.proofs.Pages.{then}
use Rattle.strips.specs.declared.scale.Band.{Band}
use Rattle.strips.specs.Lanes.{lane_mark, lane_kept, lanes_marks, lanes_kept}

pub lanes_next : {p q r : Page} (b : Band) (kept : List ℕ) (t : Title) (k : ℕ) (over : Bool) (τ l : ℕ) (K K' : List ℕ) →
    Puts p (lanes_marks b kept t k over τ l) q → K ≡ lanes_kept b kept t k over τ l → Puts q (lane_mark b K t k over τ l) r →
    K' ≡ lane_kept b K t k over τ l →
    (Puts p (lanes_marks b kept t k over τ (l + 1)) r) × (K' ≡ lanes_kept b kept t k over τ (l + 1))
unfolding lanes_marks lanes_kept
lanes_next b kept t k over τ l K K' e same w e' = rw (add-one l) (then e (rw same at w), rw same at e')
