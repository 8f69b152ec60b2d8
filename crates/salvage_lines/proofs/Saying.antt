-- What is said, as the code meets its cases. Rests on the definitions of the lines.
use mathlib.Core.Path.{◌≡◌}
use mathlib.Core.Bool.{true, false}
use mathlib.Core.List.{List, ◌++◌}
use Prim.Native.Nat.{ℕ, ◌+◌, ◌≤◌, ◌<◌}
use native.Mathlib.Omega.{arith}
use borrow.Author.Tests.{lt-ltb, le-ltb, eq-eqb, ne_eqb}
use lib.ListN.{length}
use Rattle.text.specs.Texts.{text}
use Rattle.text.specs.Output.{page, puts}
use Rattle.text.specs.declared.page.Page.{Page}
use Rattle.text.specs.Pages.{Puts}
use Rattle.text.proofs.Pages.{stands, nothing}
use Rattle.std.specs.Prelude.{Option}
use Rattle.std.specs.Prelude.{Some, None}
use Rattle.scanning.specs.declared.steps.Progress.{Progress}
use Rattle.scanning.specs.inner.Steps.{is_open_at}
use Rattle.salvage_lines.specs.Lines.{two_numbers, stretch_line, follows_line, gap_line, open_line, end_text, end_room}
use Rattle.salvage_lines.specs.Report.{seam_text, said_in}
use Rattle.salvage_lines.proofs.LinesFit.{end_short}

module _ (g : Page) where
  -- ---- a gap

  pub next_follows : (s l : ℕ) → s ≡ l + 1 → Puts g (follows_line s l) g
  unfolding follows_line
  next_follows s l e = rw (eq-eqb s (l + 1) e) nothing

  pub other_follows : (s l : ℕ) (h : Page) → (s ≡ l + 1 → ⊥)
      → Puts g (two_numbers (text "sequence ") s (text " follows ") l (text "\n")) h → Puts g (follows_line s l) h
  unfolding follows_line
  other_follows s l h e said = rw (ne_eqb s (l + 1) e) said

  module _ (before behind : Option ℕ) where
    pub none_before : before ≡ None → Puts g (gap_line before behind) g
    unfolding gap_line
    none_before e = rw e nothing

    module _ (l : ℕ) (e : before ≡ Some l) where
      pub none_behind : behind ≡ None → Puts g (gap_line before behind) g
      unfolding gap_line
      none_behind f = rw (e, f) nothing

      pub two_taken : (s : ℕ) (h : Page) → behind ≡ Some s → Puts g (follows_line s l) h → Puts g (gap_line before behind) h
      unfolding gap_line
      two_taken s h f said = rw (e, f) said

  -- ---- a step

  module _ (p q : Progress) where
    pub says_none : q.notices ≤ p.notices → Puts g (said_in p q) g
    unfolding said_in
    says_none same = rw (le-ltb p.notices q.notices same) nothing

    module _ (more : p.notices < q.notices) where
      pub says_shut : is_open_at p ≡ false → Puts g (said_in p q) g
      unfolding said_in
      says_shut shut = rw (lt-ltb p.notices q.notices more, shut) nothing

      pub says_seam : (h : Page) → is_open_at p ≡ true → Puts g (stretch_line p.start p.size ++ gap_line p.last q.last) h
          → Puts g (said_in p q) h
      unfolding said_in seam_text
      says_seam h ends said = rw (lt-ltb p.notices q.notices more, ends) said

  -- ---- the end

  module _ (p : Progress) where
    pub open_none : is_open_at p ≡ false → Puts g (open_line p) g
    unfolding open_line
    open_none shut = rw shut nothing

    pub open_some : (h : Page) → is_open_at p ≡ true → Puts g (stretch_line p.start p.size) h → Puts g (open_line p) h
    unfolding open_line
    open_some h ends said = rw ends said

-- the end stands whole in a row of its room
pub end_within : (p : Progress) (room after : List ℕ) (n : ℕ) → end_room ≤ length room → page after n ≡ puts (page room 0) (end_text p)
    → n ≤ length after
end_within p room after n wide is = (stands (end_text p) room after n is (omega (arith, end_short p))).within
