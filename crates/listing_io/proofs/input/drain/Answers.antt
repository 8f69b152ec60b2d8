-- `listing_io::input::drain` meets its contract and ends: each turn is one read further, and one that goes on moves ahead.
use mathlib.Core.Path.{sym, ◌∙◌}
use Rattle.notice.proofs.CaseSplits.{false_true}
use Rattle.listing_io.proofs.StepPlaces.{onward, falls, begun, low, further_on}
use Rattle.listing_io.proofs.input.drain.Goals as goal

pub loop-written-init : goal.loop-written-init
loop-written-init c = begun _ _

pub decided-requires : goal.decided-requires
decided-requires c = tt

pub show-printed-requires : goal.show-printed-requires
show-printed-requires c = tt

pub loop-written-smaller : goal.loop-written-smaller
loop-written-smaller c =
    let shown = c in
    let more = shown in
    let l = more.loop-written in
    falls _ l.listed shown.show-printed.result.listed more.if-listed.true (low _ _ _ l.invariant)
    (onward _ _ _ _ shown.show-printed.ensures)

pub loop-written-preserved : goal.loop-written-preserved
loop-written-preserved c =
    let shown = c in
    let l = shown.loop-written in
    further_on _ _ l.listed shown.show-printed.result.listed l.invariant shown.show-printed.ensures

pub returns-else-decided : goal.returns-else-decided
returns-else-decided c =
    record {
      up_to = c.loop-written.invariant;
      undecided = λ _ _. sym c.decided.ensures ∙ c.if-decided.false;
    }

pub returns-else-listed : goal.returns-else-listed
returns-else-listed c =
    record { up_to = c.loop-written.invariant; undecided = λ _ q. false_true (sym c.if-listed.false ∙ q) }

pub returns-after-loop-written : goal.returns-after-loop-written
returns-after-loop-written c =
    record { up_to = c.loop-written.invariant; undecided = λ q _. false_true (sym c.loop-written-test.false ∙ q) }
