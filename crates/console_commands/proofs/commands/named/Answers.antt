-- `console_commands::commands::named` meets its contract: the comparison tells the same rows as the definition.
use Prim.Native.Nat.{◌≤◌}
use mathlib.Core.Path.{◌≡◌, sym, ap, ◌∙◌}
use native.Mathlib.Omega.{arith}
use lib.ListN.{length, length-take}
use Rattle.text.specs.Texts.{same}
use Rattle.console_commands.specs.declared.commands.Command.{Command}
use Rattle.console_commands.specs.Letters.{lowered}
use Rattle.console_commands.specs.Commands.{command_of, name_of}
use Rattle.console_commands.proofs.Rows.{word_room, name_is, name_fits}
use borrow.Author.Rules.{rules}
use Rattle.console_commands.proofs.commands.named.Tie as tie
use Rattle.console_commands.proofs.commands.named.Lts as lts
use Rattle.console_commands.proofs.commands.named.Reads as reads
use Rattle.console_commands.proofs.commands.named.Goals as goal

-- the name's end is within the word's room
fits : (c : lts.After-run_end tie.the-claims reads.Pre reads.Post) →
    let r = c.entry-row.result in
    (c.run_end-end.result ≤ length r.word) × (length r.word ≡ 8)
fits c =
    let at_entry_lem = c in (
      name_fits at_entry_lem.entry-row.result _ _ at_entry_lem.entry-row.ensures c.run_end-end.ensures,
      ap (λ (r : Command). length r.word) at_entry_lem.entry-row.ensures ∙ word_room _,
    )

-- what the comparison told
tells : (c : lts.After-alike tie.the-claims reads.Pre reads.Post) →
    let a = c.args in
    c.alike.result ≡ same (lowered a.word.now) (name_of (command_of a.command))
tells c =
    let at-run-end = c in
    let at_entry_lem = at-run-end in
    let a = at_entry_lem.args in
    c.alike.ensures
    ∙ ap (same (lowered a.word.now)) (name_is _ _ _ at_entry_lem.entry-row.ensures at-run-end.run_end-end.ensures)

pub slice_bounds-run_end-end : goal.slice_bounds-run_end-end
slice_bounds-run_end-end c = let e = word_room c.args.command in search rules

pub slice_bounds-name-end : goal.slice_bounds-name-end
slice_bounds-name-end c = omega (arith, (fits c.before).0, (fits c.before).1)

pub slice_bounds-alike-end : goal.slice_bounds-alike-end
slice_bounds-alike-end c = rw length-take (omega (arith, (fits c.before.before).0))

pub returns-then-alike : goal.returns-then-alike
returns-then-alike c = rw (sym (tells c.before.before) ∙ c.if-alike.true)

pub returns : goal.returns
returns c = rw (sym (tells c.before.before) ∙ c.if-alike.false)
