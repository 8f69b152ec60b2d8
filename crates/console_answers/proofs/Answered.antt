-- What a call gave, put behind a place, is what the definitions say: its row behind a 0, or the refusal alone, and the reason that a
-- refusal has behind it.
use Prim.Native.Nat.{ℕ}
use mathlib.Core.Path.{◌≡◌}
use mathlib.Core.List.{List, [], ◌++◌, append-nil}
use borrow.Author.Tests.{eq-eqb, ne_eqb}
use Rattle.rules.specs.Refusals.{done}
use Rattle.text.specs.declared.page.Page.{Page}
use Rattle.text.specs.Pages.{Puts}
use Rattle.text.proofs.Pages.{then}
use Rattle.console_answers.specs.Outcomes.{done_text, with_text}

-- what is told stands behind the 0
pub told : {p q r : Page} {a : ℕ} (x : ℕ) (more : List ℕ) → Puts p (done_text a x) q → a ≡ done → Puts q more r → Puts p (with_text a x more) r
unfolding with_text
told x more e z f = rw (eq-eqb _ _ z) (then e f)

-- nothing stands behind a refusal
pub refused : {p q : Page} {a : ℕ} (x : ℕ) (more : List ℕ) → Puts p (done_text a x) q → (a ≡ done → ⊥) → Puts p (with_text a x more) q
unfolding with_text
refused x more e z = rw (ne_eqb _ _ z, append-nil) e

-- a reason stands behind a refusal, and none behind what is told
pub told_plain : {p q r : Page} {a : ℕ} (x : ℕ) (more why : List ℕ) → Puts p (done_text a x) q → a ≡ done → Puts q more r → why ≡ []
    → Puts p (with_text a x more ++ why) r
told_plain x more why e z f none = rw (none, append-nil) (told x more e z f)

pub refused_for : {p q r : Page} {a : ℕ} (x : ℕ) (more why : List ℕ) → Puts p (done_text a x) q → (a ≡ done → ⊥) → Puts q why r
    → Puts p (with_text a x more ++ why) r
refused_for x more why e z f = then (refused x more e z) f
