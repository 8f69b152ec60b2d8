-- Laws of a mark that is drawn only where it is new in its row.
use Prim.Native.Nat.{ℕ}
use mathlib.Core.Path.{◌≡◌, sym, ◌∙◌}
use mathlib.Core.Bool.{Bool, true, false}
use mathlib.Core.List.{List, []}
use Rattle.rules.specs.Refusals.{pick}
use Rattle.text.specs.declared.page.Page.{Page}
use Rattle.text.specs.Pages.{Puts}
use Rattle.text.proofs.Pages.{nothing}

-- it is written where it is new, and nothing where it is not
pub new_mark : {p q : Page} (new b : Bool) (T : List ℕ) → b ≡ new → b ≡ true → Puts p T q → Puts p (pick new T []) q
new_mark new b T e h w = rw (sym e ∙ h) w

pub old_mark : {p : Page} (new b : Bool) (T : List ℕ) → b ≡ new → b ≡ false → Puts p (pick new T []) p
old_mark new b T e h = rw (sym e ∙ h) nothing

-- a text that is one or another by a test
module _ {p q : Page} (test : Bool) (X Y : List ℕ) where
  pub taken_text_lem : test ≡ true → Puts p X q → Puts p (pick test X Y) q
  taken_text_lem h w = rw h w

  pub left_text : test ≡ false → Puts p Y q → Puts p (pick test X Y) q
  left_text h w = rw h w
