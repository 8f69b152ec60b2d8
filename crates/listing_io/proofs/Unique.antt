-- Two outcomes that the contract of a public call admits for the same arguments are equal: the answer and the lent row.
-- The contracts are cited as the checker has them: `Learnt` is all that a caller learns of a call.
use mathlib.Core.Path.{◌≡◌, sym, ◌∙◌}
use Rattle.rules.specs.OneOutcome.{OneEnd}
use Rattle.text.proofs.Unique.{page_one_outcome}
use Rattle.listing_io.proofs.steps.list_at.Kinds as list-at-kinds
use Rattle.listing_io.proofs.steps.list_at.Reads as list_at
use Rattle.listing_io.proofs.lines.put_line.Kinds as put-line-kinds
use Rattle.listing_io.proofs.lines.put_line.Reads as put-line
use Rattle.listing_io.proofs.lines.put_last.Kinds as put-last-kinds
use Rattle.listing_io.proofs.lines.put_last.Reads as put_last

pub put_line_one_outcome :
    OneEnd 1 put-line-kinds.ps put-line-kinds.r (λ κs e f. e.0.now ≡ f.0.now) put-line.Learnt
put_line_one_outcome κs a x y e f p q =
    let w = page_one_outcome _ _ _ _ _ p q in
    (w.1, w.0)

pub put_last_one_outcome :
    OneEnd 1 put-last-kinds.ps put-last-kinds.r (λ κs e f. e.0.now ≡ f.0.now) put_last.Learnt
put_last_one_outcome κs a x y e f p q =
    let w = page_one_outcome _ _ _ _ _ p q in
    (w.1, w.0)

-- a step: the agent, the place, the line's size and whether there is more; the row is parameter 3, from 0
pub list_at_one_outcome :
    OneEnd 2 list-at-kinds.ps list-at-kinds.r (λ κs e f. e.1.1.1.0.now ≡ f.1.1.1.0.now) list_at.Learnt
list_at_one_outcome κs a x y e f p q =
    let w = page_one_outcome _ _ _ x.size y.size p.line_is q.line_is in
    let agent : x.agent ≡ y.agent = p.hears.agent_is ∙ sym q.hears.agent_is in
    let place : x.place ≡ y.place = p.hears.place_is ∙ sym q.hears.place_is in
    let more : x.more ≡ y.more = p.hears.more_is ∙ sym q.hears.more_is in
    (λ i. record { agent = agent i; place = place i; size = w.1 i; more = more i }, w.0)
