-- Laws of the lines of a record's admissions, tick by tick, as the loop meets them. Rest on the laws of a page and of a count.
use mathlib.Core.Path.{◌≡◌, sym}
use mathlib.Core.List.{List}
use Prim.Native.Nat.{ℕ, zero, ◌+◌}
use native.Mathlib.Numerals.{add-one}
use borrow.Author.Tests.{eq-eqb, ne_eqb}
use lib.ListN.{get_or}
use Rattle.rules.specs.Search.{how_many}
use Rattle.rules.proofs.Search.{how_many_hit, how_many_miss}
use Rattle.text.specs.declared.page.Page.{Page}
use Rattle.text.specs.Pages.{Puts}
use Rattle.text.proofs.Pages.{then, nothing}
use Rattle.air.specs.inner.Steps.{is_marked, judged_line, marked_lines}

module _ (marks : List ℕ) (n : ℕ) where
  pub counts_marked : get_or marks n 0 ≡ 1 → how_many (is_marked marks) n + 1 ≡ how_many (is_marked marks) (n + 1)
  counts_marked h = rw (add-one n, add-one (how_many (is_marked marks) n)) (sym (how_many_hit (is_marked marks) n (eq-eqb _ _ h)))

  pub counts_unmarked : (get_or marks n 0 ≡ 1 → ⊥) → how_many (is_marked marks) n ≡ how_many (is_marked marks) (n + 1)
  counts_unmarked h = rw (add-one n) (sym (how_many_miss (is_marked marks) n (ne_eqb _ _ h)))

module _ (marks row : List ℕ) (judged : ℕ) (p : Page) where
  pub lines_none : Puts p (marked_lines marks row judged zero) p
  unfolding marked_lines
  lines_none = nothing

  module _ (n : ℕ) (q : Page) (e : Puts p (marked_lines marks row judged n) q) where
    pub lines_marked : (r : Page) → get_or marks n 0 ≡ 1 → Puts q (judged_line row judged n (how_many (is_marked marks) n)) r
        → Puts p (marked_lines marks row judged (n + 1)) r
    unfolding marked_lines
    lines_marked r h f = rw (add-one n, eq-eqb _ _ h) (then e f)

    pub lines_unmarked : (get_or marks n 0 ≡ 1 → ⊥) → Puts p (marked_lines marks row judged (n + 1)) q
    unfolding marked_lines
    lines_unmarked h = rw (add-one n, ne_eqb _ _ h) (then e nothing)
