-- In every state that accepted events reach, the j-th entry of a lane's line stands for the j-th tick after the one that the
-- answer names: it is asked j ticks later, and that time lies in that tick.
-- Rests on the laws of the clock, and on what accepted events keep true of a title.
use mathlib.Core.Path.{◌≡◌, ap, ◌∙◌}
use mathlib.Core.List.{List}
use Prim.Native.Nat.{ℕ, ◌+◌, ◌-◌, ◌*◌, ◌/◌, ◌≤◌, ◌<◌}
use native.Mathlib.Omega.{arith}
use native.Mathlib.Nat.{add-mul-div_right, mul-le-mul}
use Rattle.rules.specs.Limits.{length_max}
use Rattle.rules.specs.Refusals.{done}
use Rattle.scheme.proofs.Clock.{tick_pos}
use Rattle.story.specs.declared.Title.{Title}
use Rattle.story.specs.declared.State.{State}
use Rattle.story.specs.declared.Event.{Event}
use Rattle.story.specs.Life.{Life}
use Rattle.story.specs.Kept.{title_tick, title_at, tick_at}
use Rattle.story.specs.Story.{life_of, latest_of}
use Rattle.story.specs.Runs.{Reached}
use Rattle.story.proofs.Tells.{TellsTitle, absent, present}
use Rattle.story.proofs.Reached.{run_told}
use Rattle.console_limits.specs.Quantities.{ticks_most}
use Rattle.console_views.specs.Lanes.{lanes_answer}
use Rattle.console_views.proofs.Answered.{asked_late, asked_id, asked_film}

-- how far the last of some ticks lies from the first, in ms
pub far : (j n p : ℕ) → n ≤ ticks_most → j < n → p ≤ length_max → j * p ≤ ticks_most * length_max
far j n p few below short = mul-le-mul {n₁ = j} {m₁ = p} {n₂ = ticks_most} {m₂ = length_max} (omega arith) short

-- a time j ticks later lies j ticks later, for a title that has been opened by then
later : (t : Title) (τ j : ℕ) → 0 < title_tick t → t.opened ≤ τ → tick_at t (τ + j * title_tick t) ≡ tick_at t τ + j
unfolding tick_at
later t τ j pos since =
    let e : (τ + j * title_tick t) - t.opened ≡ (τ - t.opened) + j * title_tick t = omega arith in
    ap (λ (x : ℕ). x / title_tick t) e ∙ add-mul-div_right (τ - t.opened) j pos

-- a title's latest event comes no earlier than its opening
opened_first : (L : Life) (m : ℕ) (t : Title) → TellsTitle L m t → t.opened ≤ t.last
opened_first L m t (absent e f g) = rw g (omega arith)
opened_first L m t (present r e f p) = p.since

-- the tick that the answer names holds the time, and the j-th entry of each line is the lane question's answer in the j-th tick after it
pub in_tick : (pool : ℕ) (es : List Event) (s : State) → Reached pool es s → (i τ n j : ℕ) → lanes_answer s i τ n ≡ done →
    tick_at (title_at s i) (τ + j * title_tick (title_at s i)) ≡ tick_at (title_at s i) τ + j
in_tick pool es s reached i τ n j none =
    let t : Title = title_at s i in
    let f = asked_film s i τ n none in
    let pos : 0 < title_tick t =
    tick_pos t.film.kind t.film.length t.film.floor t.film.cap (omega (arith, f.sized.low)) f.cut.low f.cut.fit in
    let id = asked_id s i τ n none in
    let opened : t.opened ≤ t.last =
    opened_first (life_of es i) (latest_of es i) t ((run_told pool es s reached).tells.title i (omega arith)) in
    later t τ j pos (omega (arith, asked_late s i τ n none))
