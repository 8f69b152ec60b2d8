-- `console_commands::letters::alike` meets its contract: what is told byte by byte of words of one length is what the definition
-- says, and of words of two lengths it says that they differ.
use Rattle.std.proofs.Common.{◌≡◌, ℕ, ◌<◌, ◌↔◌, length, get_or, IsTrue, rules, ◌∙◌, ne_eqb}
use Rattle.text.proofs.Tables.{told}
use Rattle.console_commands.specs.Letters.{lower_of}
use Rattle.console_commands.proofs.Cases.{other_length, alike_bytes, bytes_alike}
use Rattle.console_commands.proofs.letters.alike.Goals as goal

pub returns-then-word-name : goal.returns-then-word-name
returns-then-word-name c =
    let w = c.args.word.now in
    let n = c.args.name.now in
    let each : IsTrue c.all.result ↔ ((k : ℕ) → k < length w → lower_of (get_or w k 0) ≡ get_or n k 0) = search rules in
    told _ n _ (λ h. alike_bytes w n c.if-word-name.true (each.0 h)) (λ e. each.1 (bytes_alike w n e))

pub returns-else-word-name : goal.returns-else-word-name
returns-else-word-name c =
    ne_eqb _ _ c.if-word-name.false ∙ other_length c.args.word.now c.args.name.now c.if-word-name.false
