-- Whether the line is said, as the code meets its cases. Rests on the definition of the line.
use mathlib.Core.Path.{◌≡◌, sym, ap, ◌∙◌}
use mathlib.Core.List.{List}
use Prim.Native.Nat.{ℕ, ◌≤◌, ◌<◌}
use native.Mathlib.Omega.{arith}
use borrow.Author.Tests.{eq-eqb, ne_eqb}
use Rattle.text.specs.declared.page.Page.{Page}
use Rattle.text.specs.Pages.{Puts}
use Rattle.text.proofs.Pages.{nothing, told_as}
use Rattle.unheard.specs.declared.Unheard.{Unheard}
use Rattle.unheard.specs.Unheard.{unheard_in}
use Rattle.unheard_io.specs.Line.{missed_line, unheard_line}

module _ (pool : ℕ) (log : List ℕ) (u : Unheard) (is : u ≡ unheard_in pool log) (g : Page) where
  abbrev missed : Unheard → ℕ
  missed x = x.tally.missed

  pub says_nothing : missed u ≤ 0 → Puts g (unheard_line pool log) g
  unfolding unheard_line
  says_nothing none = rw (eq-eqb (missed (unheard_in pool log)) 0 (ap missed (sym is) ∙ omega (arith, none))) nothing

  pub says_line : (h : Page) → 0 < missed u → Puts g (missed_line u.tally) h → Puts g (unheard_line pool log) h
  unfolding unheard_line
  says_line h some said =
      rw (ne_eqb (missed (unheard_in pool log)) 0 (λ z. omega (arith, some, ap missed is ∙ z)))
      (told_as (ap (λ (x : Unheard). missed_line x.tally) is) said)
