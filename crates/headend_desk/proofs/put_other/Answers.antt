-- `headend_desk::put_other` meets its contract: a word that is unknown here, or the console's reply.
use Rattle.headend_desk.specs.Desk.{other_text}
use Rattle.headend_desk.proofs.Replying.{starts}
use Rattle.headend_desk.proofs.put_other.Goals as goal

pub returns-then-is_apart : goal.returns-then-is_apart
unfolding other_text
returns-then-is_apart c =
    rw (starts _ _ c.requires c.is_apart.ensures c.if-is_apart.true, ← c.run_end-place.ensures) c.put_fault_line.ensures

pub reply-requires : goal.reply-requires
reply-requires c = c.requires

pub returns-else-is_apart : goal.returns-else-is_apart
unfolding other_text
returns-else-is_apart c = rw (starts _ _ c.requires c.is_apart.ensures c.if-is_apart.false) c.reply.ensures.written
