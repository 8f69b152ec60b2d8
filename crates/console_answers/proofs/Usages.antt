-- Laws of help: what is left to list, from each command passed, is written behind what stands.
use Prim.Native.Nat.{ℕ, suc, ◌+◌, ◌<◌, ◌≤◌}
use mathlib.Core.Path.{◌≡◌, sym, ap, ◌∙◌}
use mathlib.Core.List.{List, [], ◌∷◌}
use native.Mathlib.Numerals.{add-one}
use lib.ListN.{length, get_or, drop, drop_of_length-le}
use lib.Seq.{drop-cons}
use Rattle.text.specs.Bytes.{newline}
use Rattle.text.specs.Output.{Page, puts}
use Rattle.text.proofs.Pages.{puts_then, puts_append}
use Rattle.console_answers.specs.Faults.{usage_of, usage_lines, parted}

-- commands listed one by one: o is the page before the first of them, p the page behind the i-th
module _ (cs : List ℕ) (o : Page) (i : ℕ) (p : Page) (so : puts p (usage_lines (drop i cs)) ≡ puts o (usage_lines cs)) where
  pub listing_on : (q r : Page) → i < length cs → q ≡ puts p (newline ∷ []) → r ≡ puts q (usage_of (get_or cs i 0))
      → puts r (usage_lines (drop (i + 1) cs)) ≡ puts o (usage_lines cs)
  unfolding usage_lines
  listing_on q r h e f =
      let line : r ≡ puts p (newline ∷ usage_of (get_or cs i 0)) = puts_then p (newline ∷ []) (usage_of (get_or cs i 0)) e f in
      let rest : puts r (usage_lines (drop (i + 1) cs)) ≡ puts p (usage_lines (drop i cs)) =
      rw (drop-cons cs i 0 h, add-one) (ap (λ (t : Page). puts t (usage_lines (drop (suc i) cs))) line
      ∙ sym (puts_append (newline ∷ usage_of (get_or cs i 0)) (usage_lines (drop (suc i) cs)) p)) in
      rest ∙ so

  -- all are listed, behind the page b before the usage of a first command
  pub listed_all : (c : ℕ) (b : Page) → length cs ≤ i → o ≡ puts b (usage_of c) → p ≡ puts b (parted (c ∷ cs))
  unfolding parted usage_lines puts
  listed_all c b h e = puts_then b (usage_of c) (usage_lines cs) e (rw (drop_of_length-le cs h) at so)
