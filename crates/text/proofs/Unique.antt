-- Two outcomes that a contract of this crate admits are equal. A call answers a value of its arguments, `r ≡ f ..`,
-- leaves a page, row and place, or moves what is left of a block.
use Prim.Native.Nat.{ℕ}
use mathlib.Core.Path.{◌≡◌, sym, ◌∙◌, ap}
use mathlib.Core.List.{List}
use Rattle.text.specs.Output.{Page, page}
use Rattle.text.specs.declared.page.Page.{Page as Sheet}
use Rattle.text.specs.Pages.{Puts}
use Rattle.text.specs.Feed.{Moved}

pub one_outcome : {A : Type 0} {r q x : A} → r ≡ x → q ≡ x → r ≡ q
one_outcome e f = e ∙ sym f

pub page_one_outcome : (x : Page) (a b : List ℕ) (m n : ℕ) → page a m ≡ x → page b n ≡ x → (a ≡ b) × (m ≡ n)
page_one_outcome x a b m n e f =
    (ap (λ (p : Page). p.row) (one_outcome e f), ap (λ (p : Page). p.at) (one_outcome e f))

-- what stands in the row of a page, and up to where
pub puts_one_outcome : {p q r : Sheet} {t : List ℕ} → Puts p t q → Puts p t r → (q.row.now ≡ r.row.now) × (q.at ≡ r.at)
puts_one_outcome e f = page_one_outcome _ _ _ _ _ e.written f.written

-- of `feed::compact`
pub compact_one_outcome : (l : List ℕ) (from to : ℕ) (a b : List ℕ) (m n : ℕ) → Moved l from to a m
    → Moved l from to b n → (a ≡ b) × (m ≡ n)
compact_one_outcome l from to a b m n e f = (one_outcome e.row f.row, one_outcome e.many f.many)
