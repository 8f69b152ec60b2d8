-- Two agents of one pool that follow one log, each with notices lost, repeated, late or damaged on its way, are equal as
-- soon as they have reached the same sequence. Rests on the order of what each heard.
use mathlib.Core.Path.{◌≡◌, refl, sym, ap, ◌∙◌}
use mathlib.Core.Bool.{true, false}
use mathlib.Core.List.{List, [], ◌∷◌, map}
use Prim.Native.Nat.{ℕ, suc}
use native.Mathlib.Omega.{arith}
use lib.Dec.{eqb}
use lib.ListN.{length}
use Rattle.rules.specs.Limits.{both}
use Rattle.rules.specs.Refusals.{pick}
use Rattle.notice.specs.declared.Notice.{Notice}
use Rattle.notice.specs.declared.Reading.{Reading}
use Rattle.notice.specs.declared.Reading.TheVariants as reading
use Rattle.notice.specs.Decode.{read_of}
use Rattle.story.specs.Story.{answer}
use Rattle.story.specs.Runs.{lanes_of}
use Rattle.agent.specs.Turns.{event_of}
use Rattle.agent.specs.Series.{agent_after, hearing, heard, InTurn, next, Of, no_bytes, more_bytes, OneEach}
use Rattle.agent.proofs.Order.{follows, same_heard}

-- every notice of a list stands in the log
data Each (log : Notice → Type 0) : List Notice → Type 0 where
  nobody : Each log []
  also : {n : Notice} {ns : List Notice} → log n → Each log ns → Each log (n ∷ ns)

kept : (log : Notice → Type 0) (lanes : ℕ) (ns : List Notice) (r : Reading) →
    ((n : Notice) → r ≡ reading.Whole n → log n) → Each log ns → Each log (hearing lanes ns r)
kept log lanes ns reading.Malformed f w = w
kept log lanes ns (reading.Whole n) f w =
    elim (both (eqb n.sequence (suc (length ns))) (eqb (answer lanes (map event_of ns) (event_of n)) 0)) as (λ b. Each log (pick b (n ∷ ns) ns))
    [ true ↦ also (f n refl) w | false ↦ w ]

heard_of_lem : (log : Notice → Type 0) (lanes : ℕ) (bss : List (List ℕ)) → Of log bss → Each log (heard lanes bss)
unfolding heard
heard_of_lem log lanes [] no_bytes = nobody
heard_of_lem log lanes (bs ∷ bss) (more_bytes f w) = kept log lanes (heard lanes bss) (read_of bs) f (heard_of_lem log lanes bss w)

-- two runs of notices of one log, each in turn and equally long, are one
one_run : (log : Notice → Type 0) → OneEach log → (ms ns : List Notice) → InTurn ms → InTurn ns → Each log ms →
    Each log ns → length ms ≡ length ns → ms ≡ ns
one_run log one [] [] t u w v e = refl
one_run log one [] (n ∷ ns) t u w v e = absurd (omega arith)
one_run log one (m ∷ ms) [] t u w v e = absurd (omega arith)
one_run log one (m ∷ ms) (n ∷ ns) (next p t) (next q u) (also a w) (also b v) e =
    let shorter : length ms ≡ length ns = omega arith in
    let head : m ≡ n = one m n a b (p ∙ ap suc shorter ∙ sym q) in
    let rest : ms ≡ ns = one_run log one ms ns t u w v shorter in
    λ i. head i ∷ rest i

pub one_log : (log : Notice → Type 0) → OneEach log → (pool : ℕ) (bss css : List (List ℕ)) → Of log bss → Of log css →
    (agent_after pool bss).sequence ≡ (agent_after pool css).sequence → agent_after pool bss ≡ agent_after pool css
one_log log one pool bss css w v e =
    let b = follows pool bss in
    let c = follows pool css in
    same_heard pool bss css
    (one_run log one (heard (lanes_of pool) bss) (heard (lanes_of pool) css) b.turn c.turn
    (heard_of_lem log (lanes_of pool) bss w) (heard_of_lem log (lanes_of pool) css v)
    (sym b.sequence ∙ e ∙ c.sequence))
