-- Each call's contract settles what it gives back and the row that it leaves: two outcomes that it admits are equal. Rests on the contracts
-- being equations to definitions, and on sums that are laid up to one place.
use Prim.Native.Nat.{ℕ, ◌≤◌}
use mathlib.Core.Path.{◌≡◌, sym, ap, ◌∙◌}
use mathlib.Core.Bool.{Bool}
use mathlib.Core.Logic.{⊎_elim}
use mathlib.Core.List.{List}
use native.Mathlib.Omega.{arith}
use lib.Seq.{sets}
use Rattle.rules.specs.OneOutcome.{OneOutcome, OneEnd}
use Rattle.notice.proofs.CaseSplits.{by_order, false_true}
use Rattle.journals.specs.Start.{Stage}
use Rattle.journals.specs.Summing.{sums_to, SumsLaid}
use Rattle.journals.proofs.begun.Kinds as begun-kinds
use Rattle.journals.proofs.begun.Reads as begun-call
use Rattle.journals.proofs.going.Kinds as going-kinds
use Rattle.journals.proofs.going.Reads as going-call
use Rattle.journals.proofs.is_good.Kinds as is-good-kinds
use Rattle.journals.proofs.is_good.Reads as is-good-call
use Rattle.journals.proofs.sums_length.Kinds as sums-length-kinds
use Rattle.journals.proofs.sums_length.Reads as sums-length-call
use Rattle.journals.proofs.hear.Kinds as hear-kinds
use Rattle.journals.proofs.hear.Reads as hear-call
use Rattle.journals.proofs.summing.sums_in.Kinds as sums-in-kinds
use Rattle.journals.proofs.summing.sums_in.Reads as sums-in-call

pub begun_one_outcome : OneOutcome 0 begun-kinds.ps begun-kinds.r begun-call.Learnt
begun_one_outcome κs a x y e f p q = p ∙ sym q

pub going_one_outcome : OneOutcome 0 going-kinds.ps going-kinds.r going-call.Learnt
going_one_outcome κs a x y e f p q = p ∙ sym q

pub is_good_one_outcome : OneOutcome 0 is-good-kinds.ps is-good-kinds.r is-good-call.Learnt
is_good_one_outcome κs a x y e f p q = p ∙ sym q

pub sums_length_one_outcome : OneOutcome 0 sums-length-kinds.ps sums-length-kinds.r sums-length-call.Learnt
sums_length_one_outcome κs a x y e f p q = p ∙ sym q

-- the row is the second parameter
pub hear_one_outcome : OneEnd 3 hear-kinds.ps hear-kinds.r (λ κs e f. e.1.0.now ≡ f.1.0.now) hear-call.Learnt
hear_one_outcome κs a x y e f p q =
    (ap (λ (z : Stage (List ℕ)). z.start) (p ∙ sym q), ap (λ (z : Stage (List ℕ)). z.hearer) (p ∙ sym q))

-- no notice more is summed than where it stops
no_further : (bs : List ℕ) (over : Bool) (room : List ℕ) (r : ℕ) (after : List ℕ) (q : ℕ) (left : List ℕ)
    (x : SumsLaid bs over room r after) (y : SumsLaid bs over room q left) → y.count ≤ x.count
no_further bs over room r after q left x y =
    by_order x.count y.count
    (λ more.
    ⊎_elim (λ none. false_true (sym none ∙ y.whole x.count more))
    (λ rest.
    ⊎_elim (λ none. false_true (sym none ∙ y.far x.count more)) (λ full. absurd (omega (arith, full, more, x.size, y.size, y.fits))) rest)
    x.stops)
    (λ low. low)

pub laid_once : (bs : List ℕ) (over : Bool) (room : List ℕ) (r : ℕ) (after : List ℕ) (q : ℕ) (left : List ℕ)
    → SumsLaid bs over room r after → SumsLaid bs over room q left → (r ≡ q) × (after ≡ left)
laid_once bs over room r after q left x y =
    let same : x.count ≡ y.count = omega (arith, no_further bs over room r after q left x y, no_further bs over room q left r after y x) in
    (omega (arith, same, x.size, y.size), x.laid ∙ (ap (λ (n : ℕ). sets room 0 (sums_to bs n)) same ∙ sym y.laid))

-- the row is the third parameter
pub sums_in_one_outcome : OneEnd 2 sums-in-kinds.ps sums-in-kinds.r (λ κs e f. e.1.1.0.now ≡ f.1.1.0.now) sums-in-call.Learnt
sums_in_one_outcome κs a x y e f p q = laid_once _ _ _ _ _ _ _ p q
