-- `next_record` meets its contract: at the places passed no record stands.
use Prim.Native.Nat.{ℕ, suc, ◌≤◌, ◌<◌}
use mathlib.Core.Path.{◌≡◌, sym, ◌∙◌}
use mathlib.Core.Bool.{false}
use mathlib.Core.List.{List}
use native.Mathlib.Omega.{arith}
use Rattle.notice_fields.proofs.Each.{by_order}
use Rattle.journal_records.specs.Records.{verifies_at}
use Rattle.journal_records.proofs.search.next_record.Goals as goal

pub loop-at-init : goal.loop-at-init
loop-at-init c = λ q le lt. absurd (omega arith)

pub returns-then-verifies : goal.returns-then-verifies
returns-then-verifies c =
    let l = c.loop-at in
    record { low = omega arith; high = omega arith; none_before = l.invariant; stands = λ _. sym c.verifies.ensures ∙ c.if-verifies.true }

-- one place more
one_more : (identity bs : List ℕ) (from at : ℕ) → ((q : ℕ) → from ≤ q → q < at → verifies_at identity bs q ≡ false)
    → verifies_at identity bs at ≡ false → (at' : ℕ) → at' ≡ suc at → (q : ℕ) → from ≤ q → q < at' → verifies_at identity bs q ≡ false
one_more identity bs from at before here at' is q le lt =
    by_order q at (λ low. before q le low) (λ high. let e : q ≡ at = omega arith in rw e here)

pub loop-at-preserved : goal.loop-at-preserved
loop-at-preserved c =
    let l = c.loop-at in
    one_more _ _ _ l.at l.invariant (sym c.verifies.ensures ∙ c.if-verifies.false) _ (omega arith)

pub returns : goal.returns
returns c =
    let l = c.loop-at in
    record {
      low = omega (arith, c.max.ensures);
      high = omega (arith, c.max.ensures);
      none_before = λ q le lt. l.invariant q le (omega (arith, c.max.ensures));
      stands = λ lt. absurd (omega (arith, c.max.ensures));
    }
