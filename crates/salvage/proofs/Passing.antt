-- What a read leaves: the counts hold on, and what is kept for the next read is shorter than the longest notice.
-- Rests on what a block promises.
use mathlib.Core.Path.{◌≡◌, sym, ap, ◌∙◌}
use mathlib.Core.Bool.{Bool, true, false}
use mathlib.Core.List.{List}
use Prim.Native.Nat.{ℕ, ◌-◌, ◌≤◌, ◌<◌}
use native.Mathlib.Omega.{arith}
use lib.ListN.{length}
use Rattle.notice.specs.Fields.{table, start_of, span_of, longest_notice}
use Rattle.notice.proofs.CaseSplits.{false_true}
use Rattle.text.specs.Feed.{count}
use Rattle.text.proofs.Moving.{count_low}
use Rattle.scanning.specs.declared.steps.Progress.{Progress}
use Rattle.scanning.specs.inner.Steps.{Counts}
use Rattle.salvage.specs.declared.input.Fed.{Fed}
use Rattle.salvage.specs.Blocks.{Passes}

-- the end of a block
pub block_counts : (window : List ℕ) (over : Bool) (p r : Progress) → Passes window over p r → Counts r
block_counts window over p r w = rw w.is w.blocks.counts

pub block_ahead : (window : List ℕ) (over : Bool) (p r : Progress) → Passes window over p r → p.place ≤ r.place
block_ahead window over p r w = rw w.is w.blocks.ahead

-- what it does not decide is kept
pub kept_few : (window l : List ℕ) (over : Bool) (p r : Progress) (to n : ℕ) → Passes window over p r
    → to ≡ length window → n ≡ count l (r.place - p.place) to → n < longest_notice
unfolding table start_of span_of
kept_few window l over p r to n w size many =
    let here : r.place ≡ w.block.progress.place = ap (λ (q : Progress). q.place) w.is in
    let b = w.blocks in
    omega (arith, b.few, b.ahead, b.within, count_low l (r.place - p.place) to)

-- where nothing more is read nothing is kept
pub over_counts : (p : Progress) (r : Fed) → (r.more ≡ false) × (r.progress ≡ p) → Counts p → Counts r.progress
over_counts p r e c = rw e.1 c

pub over_none : (r : Fed) → r.more ≡ false → r.more ≡ true → r.kept < longest_notice
over_none r e q = false_true (sym e ∙ q)
