-- `clear` meets its contract: "never" takes the place of as many.
use Rattle.rom.proofs.Noted.{never_filled}
use Rattle.rom.proofs.plan.clear.Goals as goal

pub returns : goal.returns
returns c = never_filled c.args.row.now c.fill.new.self 1024 c.requires (c.fill.ensures.after (λ y e. e))
