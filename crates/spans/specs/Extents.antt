-- Over which time a log of notices is drawn: from the first accepted event to the last, or to the last release of a lane that still
-- sends; and for how many lanes each id has a row: those of the largest cap that it was opened with.
use Rattle.std.specs.Prelude.{ℕ, zero, suc, min, max, List, Some, None, unwrap_or, leb, eqb, get_or, set, replicate}
use Rattle.rules.specs.Limits.{both, id_max, titles_max}
use Rattle.rules.specs.Refusals.{pick, done}
use Rattle.notice.specs.declared.Notice.{Notice}
use Rattle.notice.specs.declared.Reading.TheVariants as reading
use Rattle.notice.specs.Log.{notices_of, stop_of}
use Rattle.story.specs.declared.Title.{Title}
use Rattle.story.specs.declared.State.{State}
use Rattle.story.specs.Kept.{absent_mode, title_at, ruling}
use Rattle.agent.specs.declared.Agent.{Agent}
use Rattle.agent.specs.Turns.{fresh_agent, notice_answer, noticed}
use Rattle.agent.specs.Played.{agent_played}
use Rattle.moments.specs.Searched.{release_moment}
use Rattle.text.specs.Numbers.{byte_most}
use Rattle.logs.specs.Reading.{kept_told}
use Rattle.spans.specs.declared.Extent.{Extent}
use Rattle.spans.specs.declared.Outline.{Outline}

abbrev pub no_extent : Extent
no_extent = record { first = None; caps = replicate titles_max 0 }

-- one accepted event more, of title i at τ, which has cap K after it
unfoldable pub widened : Extent → ℕ → ℕ → ℕ → Extent
widened x i τ K =
    record { first = Some (unwrap_or x.first τ); caps = set x.caps i (min (max (get_or x.caps i 0) K) byte_most) }

-- a notice that is refused changes nothing
unfoldable pub heard_extent : Agent → Notice → Extent → Extent
heard_extent g n x =
    pick (both (eqb (notice_answer g (reading.Whole n)) done) (leb n.title id_max))
    (widened x n.title n.time (title_at (noticed g (reading.Whole n)).state n.title).film.cap)
    x

-- the later of a moment and the release of lane l, where it is not active
unfoldable pub later_of : Title → ℕ → ℕ → ℕ
later_of t m l = pick (leb (ruling t) l) (max m (release_moment t l)) m

-- the later of a title's latest event and the releases of its first n lanes
unfoldable pub released_to : Title → ℕ → ℕ
released_to t zero = t.last
released_to t (suc l) = later_of t (released_to t l) l

abbrev pub gone_at : Title → ℕ
gone_at t = released_to t t.film.cap

-- 0 where a slot has no title
unfoldable pub title_until : Title → ℕ
title_until t = pick (eqb t.mode absent_mode) 0 (gone_at t)

-- over the first n slots
unfoldable pub latest_over : State → ℕ → ℕ
latest_over s zero = 0
latest_over s (suc i) = max (latest_over s i) (title_until (title_at s i))

unfoldable pub measure_of : ℕ → List ℕ → Outline
measure_of pool log =
    record {
      extent = kept_told heard_extent (fresh_agent pool) no_extent (notices_of log);
      end = latest_over (agent_played pool log).state titles_max;
      stop = stop_of log;
    }
