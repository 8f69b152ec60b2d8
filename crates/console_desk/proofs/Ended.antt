-- A page that was opened in a row, written and ended leaves the row written from there on.
use Prim.Native.Nat.{ℕ}
use mathlib.Core.Path.{◌≡◌, sym, ap, ◌∙◌}
use mathlib.Core.List.{List}
use Rattle.std.specs.Borrow.{MutBor}
use Rattle.text.specs.Output.{Page, page, puts, Written}
use Rattle.text.specs.declared.page.Page.{Page as Sheet}
use Rattle.text.specs.Pages.{Puts, Opens}

pub ended : {row : MutBor (List ℕ)} {at : ℕ} {p q : Sheet} {text last after : List ℕ} {behind : ℕ} → Opens row at p → Puts p text q
    → behind ≡ q.at → last ≡ q.row.now → (row.ghost_name ≡ q.row.ghost_name → after ≡ last) → Written row.now at text after behind
ended {text = text} o w place left same =
    let row = same (sym (w.same_row ∙ o.same_row)) ∙ left in
    (λ i. page (row i) (place i)) ∙ w.written ∙ ap (λ (p : Page). puts p text) o.opened
