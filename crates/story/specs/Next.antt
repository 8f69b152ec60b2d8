-- What an accepted event makes of the state (01, "Events").
use Rattle.std.specs.Prelude.{ℕ, zero, suc, Bool, List, leb, ltb, set, replicate}
use Rattle.rules.specs.Limits.{both, count_places, lane_places}
use Rattle.rules.specs.Refusals.{pick}
use Rattle.story.specs.declared.Film.{Film}
use Rattle.story.specs.declared.Title.{Title}
use Rattle.story.specs.declared.State.{State}
use Rattle.story.specs.Life.{reach}
use Rattle.story.specs.declared.Act.{Act}
use Rattle.story.specs.declared.Act.TheVariants.{Opens, Changes, Closes, Doors}
use Rattle.story.specs.Kept.{open_mode, closing_mode, clear_mark, held_mark, is_shut, title_at, tick_at}
use Rattle.story.specs.Kept.{kept_within}

-- a film opened as a title at τ: no count has ended and no lane was dropped
abbrev pub opened_title : Film → ℕ → ℕ → Title
opened_title f τ k =
    record {
      mode = open_mode;
      film = f;
      opened = τ;
      count = k;
      mark = clear_mark;
      last = τ;
      tuned = τ;
      ends = replicate count_places 0;
      dropped = replicate lane_places 0;
      owed = replicate lane_places 0;
    }

-- a title with another row of ends,
abbrev pub with_ends : Title → List ℕ → Title
with_ends t e =
    record {
      mode = t.mode;
      film = t.film;
      opened = t.opened;
      count = t.count;
      mark = t.mark;
      last = t.last;
      tuned = t.tuned;
      ends = e;
      dropped = t.dropped;
      owed = t.owed;
    }

-- with other rows for its lanes,
abbrev pub with_rows : Title → List ℕ → List ℕ → Title
with_rows t d o =
    record {
      mode = t.mode;
      film = t.film;
      opened = t.opened;
      count = t.count;
      mark = t.mark;
      last = t.last;
      tuned = t.tuned;
      ends = t.ends;
      dropped = d;
      owed = o;
    }

-- and with another mode, count, mark, latest event and latest opening or change
abbrev pub turned : Title → ℕ → ℕ → ℕ → ℕ → ℕ → Title
turned t mode k mark τ u =
    record {
      mode = mode;
      film = t.film;
      opened = t.opened;
      count = k;
      mark = mark;
      last = τ;
      tuned = u;
      ends = t.ends;
      dropped = t.dropped;
      owed = t.owed;
    }

-- the ruling count ends at tick n, where the slot of its latest admission does; while the doors are held it has ended already
abbrev pub ended : Title → ℕ → Title
ended t n = with_ends t (pick (is_shut t) t.ends (set t.ends t.count n))

-- lane l is dropped at tick n, and how many cells it owes is counted once, then
abbrev pub drop_lane : Title → ℕ → ℕ → Title
drop_lane t n l = with_rows t (set t.dropped l n) (set t.owed l (kept_within t l n (reach t.film.cap)))

-- of the lanes below i, those from k up to the old count are dropped at tick n
unfoldable pub drop_lanes : Title → ℕ → ℕ → ℕ → Title
drop_lanes t n k zero = t
drop_lanes t n k (suc i) =
    pick (both (leb k i) (ltb i t.count)) (drop_lane (drop_lanes t n k i) n i) (drop_lanes t n k i)

-- a turn at τ to q lanes: the ruling count ends, the lanes above are dropped, and mode m, count c, mark d and time u of
-- the latest opening or change are stored
abbrev pub turned_title : Title → ℕ → ℕ → ℕ → ℕ → ℕ → ℕ → Title
turned_title t τ q m c d u = turned (drop_lanes (ended t (tick_at t τ)) (tick_at t τ) q t.count) m c d τ u

-- a title whose count changes to k at τ keeps its mark; the card retunes
unfoldable pub changed_title : Title → ℕ → ℕ → Title
changed_title t τ k = turned_title t τ k open_mode k t.mark τ

-- a title that closes at τ is a turn to no lanes; the count is kept as it was, and the mark is unset
unfoldable pub closed_title : Title → ℕ → Title
closed_title t τ = turned_title t τ 0 closing_mode t.count clear_mark t.tuned

-- a title whose doors are held from τ on, or no longer: the ruling count admits nobody from then on, or again
unfoldable pub doors_title : Title → ℕ → Bool → Title
doors_title t τ b = turned (ended t (tick_at t τ)) open_mode t.count (pick b held_mark clear_mark) τ t.tuned

-- what an event at τ makes of its title
abbrev pub next_title : Title → ℕ → Act → Title
next_title t τ (Opens f k) = opened_title f τ k
next_title t τ (Changes k) = changed_title t τ k
next_title t τ Closes = closed_title t τ
next_title t τ (Doors b) = doors_title t τ b

-- the state with another title at an id, after an event at τ
abbrev pub with_title : State → ℕ → Title → ℕ → State
with_title s i t τ = record { pool = s.pool; last = τ; titles = set s.titles i t }

-- the state that an accepted event gives
abbrev pub call_next : State → ℕ → ℕ → Act → State
call_next s i τ a = with_title s i (next_title (title_at s i) τ a) τ

-- of a change
abbrev pub change_next : State → ℕ → ℕ → ℕ → State
change_next s i τ k = call_next s i τ (Changes k)
