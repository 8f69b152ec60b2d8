-- `put_event` meets its contract: the numbers, the clock, and then what its title and the lanes decide.
use Rattle.std.proofs.Common.{sym, ◌∙◌, arith}
use borrow.Author.Tests.{lt-ltb, le-ltb}
use Rattle.rules.specs.Refusals.{too_early, outside_limits}
use Rattle.verdicts.proofs.Event.{out_by_numbers, out_by_clock}
use Rattle.agent_rows.specs.Packed.{unpacked}
use Rattle.row_calls.proofs.Rows.{numbers_of_lem, by_first}
use Rattle.row_calls.proofs.events.put_event.Goals as goal

pub returns-then-not-fits-clause-value : goal.returns-then-not-fits-clause-value
returns-then-not-fits-clause-value c =
    let e = c.args.e in
    let s = (unpacked c.args.row.now).state in
    by_first s e.title e.time e.act outside_limits
    (out_by_numbers s e.title e.time e.act
    (sym (c.fits.ensures ∙ numbers_of_lem s e.title e.time e.act c.requires.ok) ∙ c.if-not-fits.true))
    (λ z. omega arith)

pub returns-then-time-row-clause-value : goal.returns-then-time-row-clause-value
returns-then-time-row-clause-value c =
    let e = c.args.e in
    let s = (unpacked c.args.row.now).state in
    let fits = sym (c.fits.ensures ∙ numbers_of_lem s e.title e.time e.act c.requires.ok) ∙ c.if-not-fits.false in
    by_first s e.title e.time e.act too_early (out_by_clock s e.title e.time e.act fits (lt-ltb _ _ c.if-time-row.true)) (λ z. omega arith)

pub turn-requires : goal.turn-requires
turn-requires c =
    let e = c.args.e in
    let s = (unpacked c.args.row.now).state in
    record {
      tested = c.requires;
      timely = record {
        numbers = sym (c.fits.ensures ∙ numbers_of_lem s e.title e.time e.act c.requires.ok) ∙ c.if-not-fits.false;
        late = le-ltb _ _ c.if-time-row.false;
      };
    }
