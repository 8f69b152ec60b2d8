-- An agent as a row of numbers, and the agent of a row: each is the other's inverse (proofs/Inverse).
use Rattle.std.specs.Prelude.{ℕ, zero, suc, ◌+◌, ◌<◌, ◌≡◌, Bool, List, [], ◌∷◌, ◌++◌, ltb, eqb, length, get_or, take, drop}
use Rattle.rules.specs.Limits.{both, count_places, lane_places, titles_max}
use Rattle.story.specs.declared.Title.{Title}
use Rattle.story.specs.declared.State.{State}
use Rattle.story.specs.Kept.{title_at}
use Rattle.agent.specs.declared.Agent.{Agent}
use Rattle.agent_rows.specs.Layout.{row_version, sequence_end, version_at, sequence_at, pool_at, last_at, titles_at, mode_at, film_kind_at}
use Rattle.agent_rows.specs.Layout.{opened_at, length_at, floor_at, cap_at, count_at, mark_at, title_last_at, tuned_at, ends_at}
use Rattle.agent_rows.specs.Layout.{drops_at, owed_at, title_places}

-- a title's numbers, in the order of their places
abbrev pub packed_title : Title → List ℕ
packed_title t =
    t.mode
    ∷ t.film.kind
    ∷ t.opened
    ∷ t.film.length
    ∷ t.film.floor
    ∷ t.film.cap
    ∷ t.count
    ∷ t.mark
    ∷ t.last
    ∷ t.tuned
    ∷ (t.ends ++ (t.dropped ++ t.owed))

-- those of titles, one after another
unfoldable pub packed_titles : List Title → List ℕ
packed_titles [] = []
packed_titles (t ∷ ts) = packed_title t ++ packed_titles ts

-- an agent's row
abbrev pub packed : Agent → List ℕ
packed g = row_version ∷ g.sequence ∷ g.state.pool ∷ g.state.last ∷ packed_titles g.state.titles

-- the title whose numbers begin at a place of a row
abbrev pub title_from : List ℕ → ℕ → Title
title_from r at =
    record {
      mode = get_or r (at + mode_at) 0;
      film = record
          { kind = get_or r (at + film_kind_at) 0; length = get_or r (at + length_at) 0; floor = get_or r (at + floor_at) 0; cap = get_or r (at + cap_at) 0 };
      opened = get_or r (at + opened_at) 0;
      count = get_or r (at + count_at) 0;
      mark = get_or r (at + mark_at) 0;
      last = get_or r (at + title_last_at) 0;
      tuned = get_or r (at + tuned_at) 0;
      ends = take count_places (drop (at + ends_at) r);
      dropped = take lane_places (drop (at + drops_at) r);
      owed = take lane_places (drop (at + owed_at) r);
    }

-- so many titles from there on
unfoldable pub titles_from : List ℕ → ℕ → ℕ → List Title
titles_from r at zero = []
titles_from r at (suc n) = title_from r at ∷ titles_from r (at + title_places) n

-- the agent of a row
abbrev pub unpacked : List ℕ → Agent
unpacked r =
    record {
      sequence = get_or r sequence_at 0;
      state = record
          { pool = get_or r pool_at 0; last = get_or r last_at 0; titles = titles_from r titles_at titles_max };
    }

-- a row of this layout: its version is the layout's, and its sequence fits
abbrev pub row_sound : List ℕ → Bool
row_sound r = both (eqb (get_or r version_at 0) row_version) (ltb (get_or r sequence_at 0) sequence_end)

-- a title whose rows have their lengths, and an agent of such titles, one for each id: what the types of `story::Title` and
-- `agent::Agent` say of every agent
pub record WholeTitle (t : Title) : Type 0 where
  pub ends : length t.ends ≡ count_places
  pub dropped : length t.dropped ≡ lane_places
  pub owed : length t.owed ≡ lane_places

pub record WholeAgent (g : Agent) : Type 0 where
  pub titles : length g.state.titles ≡ titles_max
  pub each : (i : ℕ) → i < titles_max → WholeTitle (title_at g.state i)

-- the agent with another state, its sequence as it was
abbrev pub with_state : Agent → State → Agent
with_state g s = record { sequence = g.sequence; state = s }
