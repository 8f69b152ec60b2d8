-- The layout of an agent's row: where each number stands.
use Rattle.std.specs.Prelude.{ℕ, ◌+◌, ◌*◌, ◌^◌}
use Rattle.rules.specs.Limits.{count_places, lane_places, titles_max}

-- the layout's version, the row's first number
abbrev pub row_version : ℕ
row_version = 1

-- a sequence fits 32 bits
abbrev pub sequence_end : ℕ
sequence_end = 2 ^ 32

-- the places of the version, of the sequence of the last accepted notice, of the pool and of the time of the last
-- accepted event, and where the titles begin
abbrev pub version_at : ℕ
version_at = 0

abbrev pub sequence_at : ℕ
sequence_at = 1

abbrev pub pool_at : ℕ
pool_at = 2

abbrev pub last_at : ℕ
last_at = 3

abbrev pub titles_at : ℕ
titles_at = 4

-- the places of a title's numbers, counted from its first
abbrev pub mode_at : ℕ
mode_at = 0

abbrev pub film_kind_at : ℕ
film_kind_at = 1

abbrev pub opened_at : ℕ
opened_at = 2

abbrev pub length_at : ℕ
length_at = 3

abbrev pub floor_at : ℕ
floor_at = 4

abbrev pub cap_at : ℕ
cap_at = 5

abbrev pub count_at : ℕ
count_at = 6

abbrev pub mark_at : ℕ
mark_at = 7

abbrev pub title_last_at : ℕ
title_last_at = 8

abbrev pub tuned_at : ℕ
tuned_at = 9

abbrev pub ends_at : ℕ
ends_at = 10

abbrev pub drops_at : ℕ
drops_at = ends_at + count_places

abbrev pub owed_at : ℕ
owed_at = drops_at + lane_places

-- how many numbers a title has
abbrev pub title_places : ℕ
title_places = owed_at + lane_places

-- how many numbers an agent has
abbrev pub row_length : ℕ
row_length = titles_at + titles_max * title_places

-- where the title of an id begins
abbrev pub title_place : ℕ → ℕ
title_place i = titles_at + i * title_places
