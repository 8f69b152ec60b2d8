-- The sequence of an agent that takes byte strings fits 32 bits: it is one that a notice carried, in four bytes.
-- Rests on the field table and on big-endian numbers.
use mathlib.Core.Path.{◌≡◌}
use mathlib.Core.Bool.{Bool, true, false}
use mathlib.Core.List.{List, [], ◌∷◌}
use Prim.Native.Nat.{ℕ, zero, suc, ◌+◌, ◌*◌, ◌<◌, ◌^◌}
use native.Mathlib.Nat.{pow-suc}
use native.Mathlib.Omega.{arith}
use lib.Dec.{eqb}
use lib.ListN.{get_or}
use Rattle.rules.specs.Refusals.{pick}
use Rattle.notice_fields.specs.Numbers.{Bytes, number_at}
use Rattle.notice_fields.specs.Fields.{table, sequence_row, start_of, head_size}
use Rattle.notice_bytes.specs.Standing.{value_at, kind_at, is_alone}
use Rattle.notice.specs.declared.Reading.{Reading}
use Rattle.notice.specs.declared.Reading.TheVariants as reading
use Rattle.notice.specs.Decode.{notice_in, read_of}
use Rattle.agent.specs.declared.Agent.{Agent}
use Rattle.agent.specs.Turns.{notice_answer, notice_next, noticed}
use Rattle.agent.specs.Series.{agent_after}
use Rattle.agent_rows.specs.Layout.{sequence_end}
use Rattle.row_snapshots.specs.Taken.{AllBytes}

-- n bytes spell a number below 256^n
number_small : (bs : List ℕ) → Bytes bs → (a n : ℕ) → number_at bs a n < 256 ^ n
unfolding number_at
number_small bs b a zero = omega arith
number_small bs b a (suc n) =
    let rest : number_at bs a n < 256 ^ n = number_small bs b a n in
    let last : get_or bs (a + n) 0 < 256 = b (a + n) in
    let top : 256 ^ suc n ≡ 256 ^ n * 256 = pow-suc 256 n in
    omega arith

-- what is read has a sequence of 32 bits
abbrev Fits : Reading → Type 0
Fits (reading.Whole n) = n.sequence < sequence_end
Fits reading.Malformed = Unit {0}

either_fits : (b : Bool) (q r : Reading) → Fits q → Fits r → Fits (pick b q r)
either_fits true q r f g = f
either_fits false q r f g = g

read_fits : (bs : List ℕ) → Bytes bs → Fits (read_of bs)
unfolding read_of notice_in value_at table
read_fits bs b =
    either_fits (is_alone bs) (reading.Whole (notice_in bs 0 (kind_at bs 0))) reading.Malformed
    (number_small bs b (0 + start_of (kind_at bs 0) sequence_row + head_size) 4)
    tt

-- a notice that is taken leaves its own sequence, and another the agent's
next_fits : (g : Agent) (r : Reading) → g.sequence < sequence_end → Fits r → (notice_next g r).sequence < sequence_end
next_fits g (reading.Whole n) h f = f
next_fits g reading.Malformed h f = h

picked_fits : (b : Bool) (g h : Agent) → g.sequence < sequence_end → h.sequence < sequence_end → (pick b g h).sequence < sequence_end
picked_fits true g h v w = v
picked_fits false g h v w = w

pub noticed_fits : (g : Agent) (bs : List ℕ) → Bytes bs → g.sequence < sequence_end → (noticed g (read_of bs)).sequence < sequence_end
noticed_fits g bs b h =
    picked_fits (eqb (notice_answer g (read_of bs)) 0) (notice_next g (read_of bs)) g (next_fits g (read_of bs) h (read_fits bs b)) h

-- after any series of bytes
pub after_fits : (pool : ℕ) (bss : List (List ℕ)) → AllBytes bss → (agent_after pool bss).sequence < sequence_end
unfolding agent_after
after_fits pool [] all = omega arith
after_fits pool (bs ∷ bss) all = noticed_fits (agent_after pool bss) bs (all 0) (after_fits pool bss (λ i. all (suc i)))
