-- Marks that are drawn one behind the other, while a row is kept beside them. Rest on what is written in turn being written as one.
use Prim.Native.Nat.{ℕ, ◌+◌}
use mathlib.Core.Path.{◌≡◌, ap, ◌∙◌}
use mathlib.Core.List.{List, ◌++◌}
use native.Mathlib.Numerals.{add-one}
use Rattle.story.specs.declared.Title.{Title}
use Rattle.story.specs.declared.State.{State}
use Rattle.story.specs.Kept.{title_at}
use Rattle.text.specs.declared.page.Page.{Page}
use Rattle.text.specs.Pages.{Puts}
use Rattle.text.proofs.Pages.{then, told_as}
use Rattle.strips.specs.declared.scale.Band.{Band}
use Rattle.frames.specs.declared.bands.View.{View}
use Rattle.frames.specs.Bands.{band_of}
use Rattle.log_marks.specs.Ending.{left_marks, left_kept, all_marks, all_kept}

pub then_text : (T : List ℕ → List ℕ) {p q r : Page} {s k k' : List ℕ} → Puts p s q → k ≡ k' → Puts q (T k) r → Puts p (s ++ T k') r
then_text T e f w = then e (told_as (ap T f) w)

pub then_kept : (K : List ℕ → List ℕ) {k k' r : List ℕ} → k ≡ k' → r ≡ K k → r ≡ K k'
then_kept K e f = f ∙ ap K e

-- one title more at a log's end
pub all_next : {p q r : Page} (v : View) (s : State) (kept : List ℕ) (end i : ℕ) (K K' : List ℕ) (b : Band) (t : Title) →
    Puts p (all_marks v s kept end i) q → K ≡ all_kept v s kept end i → b ≡ band_of v i → t ≡ title_at s i → Puts q (left_marks b K t end) r →
    K' ≡ left_kept b K t end → (Puts p (all_marks v s kept end (i + 1)) r) × (K' ≡ all_kept v s kept end (i + 1))
unfolding all_marks all_kept
all_next v s kept end i K K' b t e same own is w e' = rw (add-one i) (then e (rw (same, own, is) at w), rw (same, own, is) at e')
