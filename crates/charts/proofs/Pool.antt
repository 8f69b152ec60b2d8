-- No step of the curve passes the line of the pool (specs/Pool `UnderTheLine`). Rests on the state telling the accepted events, and on these
-- never holding more lanes than the pool has.
use Prim.Native.Nat.{ℕ, ◌≤◌}
use mathlib.Core.Path.{◌≡◌}
use mathlib.Core.List.{List, map}
use native.Mathlib.Omega.{arith}
use Rattle.notice.specs.declared.Notice.{Notice}
use Rattle.notice.specs.Log.{notices_to}
use Rattle.story.specs.declared.State.{State}
use Rattle.story.specs.declared.Event.{Event}
use Rattle.story.specs.Story.{last_time, held_over}
use Rattle.story.specs.Runs.{lanes_of}
use Rattle.story.specs.Kept.{lanes_held}
use Rattle.story.proofs.Tells.{lanes_told_lem}
use Rattle.story.proofs.Pool.{up_to_all_lem}
use Rattle.story.proofs.Reached.{run_told}
use Rattle.story.proofs.Demands.{the_pool}
use Rattle.agent.specs.Turns.{event_of, fresh_agent}
use Rattle.agent.specs.Played.{agent_told, heard_of, ReadAs}
use Rattle.agent.proofs.Played.{log_series, told_follows}
use Rattle.charts.specs.Pool.{UnderTheLine}

told_low : (pool : ℕ) (bss : List (List ℕ)) (ns : List Notice) → ReadAs bss ns → (τ : ℕ) → (agent_told (fresh_agent pool) ns).state.last ≤ τ →
    lanes_held (agent_told (fresh_agent pool) ns).state τ ≤ lanes_of pool
told_low pool bss ns r τ late =
    let es : List Event = map event_of (heard_of (lanes_of pool) ns) in
    let s : State = (agent_told (fresh_agent pool) ns).state in
    let run = (told_follows pool bss ns r).run in
    let told = run_told pool es s run in
    let from : last_time es ≤ τ = omega (arith, told.tells.last, late) in
    let same : held_over es τ ≡ lanes_held s τ = lanes_told_lem (lanes_of pool) es s τ told.tells from in
    let most : held_over es τ ≤ lanes_of pool = rw (up_to_all_lem τ es from) at (the_pool pool es s run τ) in
    omega (arith, same, most)

pub under_the_line : UnderTheLine
under_the_line pool log k small τ late = told_low pool _ (notices_to log k) (log_series log small k) τ late
