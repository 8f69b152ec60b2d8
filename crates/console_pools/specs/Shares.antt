-- The sharing of lanes (docs/CONSOLE.md, "Commands": share).
use Rattle.std.specs.Prelude.{ℕ, zero, suc, ◌+◌, ◌-◌, ◌*◌, ◌/◌, min, List, ◌++◌, length, get_or, take, set, replicate}
use Rattle.sharing.specs.Verdict as sharing
use Rattle.text.specs.Numbers.{four_bytes_most}
use Rattle.console_commands.specs.Commands.{titles_most, title_numbers, do_share}
use Rattle.console_answers.specs.Entries.{numbers_text}
use Rattle.console_answers.specs.Outcomes.{with_text}
use Rattle.console_limits.specs.Asked.{limit_reason}

-- the counts of a sharing, over rows that are lent, for a line of the numbers ns; a refusal says why
unfoldable pub share_text : List ℕ → ℕ → List ℕ → List ℕ → List ℕ → List ℕ → List ℕ → List ℕ
share_text ns pool rates lengths floors caps row =
    with_text (sharing.verdict_of pool rates lengths floors caps (length row)) 0
    (numbers_text (sharing.row_after pool rates lengths floors caps row) (length row))
    ++ limit_reason (sharing.verdict_of pool rates lengths floors caps (length row)) do_share ns

-- of the first n titles of a line, the number at the same place of each: from a place on and so many places apart, at most
-- the largest of four bytes
unfoldable pub column : List ℕ → ℕ → ℕ → ℕ → List ℕ
column numbers first apart zero = replicate titles_most 0
column numbers first apart (suc n) =
    set (column numbers first apart n) n (min (get_or numbers (first + apart * n) 0) four_bytes_most)

-- the titles of a line of so many numbers, four for each behind the pool
unfoldable pub titles_in : ℕ → ℕ
titles_in count = min ((count - 1) / title_numbers) titles_most

abbrev pub column_in : List ℕ → ℕ → ℕ → List ℕ
column_in numbers count first = take (titles_in count) (column numbers first title_numbers titles_most)

-- the numbers of the line that count: the pool, and those of whole titles
abbrev pub shared_in : List ℕ → ℕ → List ℕ
shared_in numbers count = take (1 + title_numbers * titles_in count) numbers

-- rates, lengths, floors and caps stand in this order in a line
unfoldable pub share_in : List ℕ → ℕ → List ℕ
share_in numbers count =
    share_text (shared_in numbers count) (get_or numbers 0 0) (column_in numbers count 1) (column_in numbers count 2) (column_in numbers count 3)
    (column_in numbers count 4)
    (take (titles_in count) (replicate titles_most 0))
