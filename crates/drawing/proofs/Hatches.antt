-- Laws of the hatchings, one behind the other.
use Prim.Native.Nat.{ℕ, ◌+◌}
use native.Mathlib.Numerals.{add-one}
use Rattle.text.specs.declared.page.Page.{Page}
use Rattle.text.specs.Pages.{Puts}
use Rattle.text.proofs.Pages.{then, nothing}
use Rattle.drawing.specs.Document.{hatch_text, hatches_text}

pub hatches_none : {p : Page} → Puts p (hatches_text 0) p
unfolding hatches_text
hatches_none = nothing

pub hatches_next : {p q r : Page} (id : ℕ) → Puts p (hatches_text id) q → Puts q (hatch_text id) r → Puts p (hatches_text (id + 1)) r
unfolding hatches_text
hatches_next id e f = rw add-one (then e f)
