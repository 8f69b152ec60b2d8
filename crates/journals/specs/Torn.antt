-- The end of a journal that is no whole notice: a torn one, which has fewer bytes than its notice, and one whose kind was changed since it was
-- summed.
use Rattle.std.specs.Prelude.{ℕ, suc, ◌<◌, ◌≡◌, Bool, true, List, [], ◌∷◌, ◌++◌, eqb, ltb, length, get_or, drop, set}
use Rattle.rules.specs.Limits.{both}
use Rattle.rules.specs.Refusals.{pick}
use Rattle.rules.specs.Search.{some}
use Rattle.sums.specs.Crc.{sum_of}
use Rattle.notice_fields.specs.Fields.{open_kind, last_kind, head_size, length_of, rows}
use Rattle.notice_bytes.specs.Standing.{is_alone}
use Rattle.notice_bytes.specs.Laying.{bytes_to}

-- the kind of the notice that bytes begin: it is their fourth, and up to there notices of every kind begin alike
abbrev pub kind_begun : List ℕ → ℕ
kind_begun rest = pick (ltb head_size (length rest)) (get_or rest head_size 0) open_kind

-- a notice of a kind in which all else is 0
abbrev pub blank_bytes : ℕ → List ℕ
blank_bytes k = bytes_to k (k ∷ 0 ∷ 0 ∷ 0 ∷ 0 ∷ 0 ∷ 0 ∷ 0 ∷ []) rows

-- fewer bytes than their notice has: the rest of a blank one behind them makes a notice
unfoldable pub is_torn : List ℕ → Bool
is_torn rest =
    both (ltb (length rest) (length_of (kind_begun rest)))
    (is_alone (rest ++ drop (length rest) (blank_bytes (kind_begun rest))))

-- bytes that begin a notice: with some bytes behind them they would be one
pub record NoticeBegun (rest : List ℕ) : Type 0 where
  pub more : List ℕ
  pub some : 0 < length more
  pub whole : is_alone (rest ++ more) ≡ true

-- as a notice of kind k the bytes would be whole, and have this sum
unfoldable pub is_kind : List ℕ → ℕ → ℕ → Bool
is_kind rest sum k = both (eqb (length rest) (length_of k)) (eqb (sum_of (set rest head_size k)) sum)

-- they had another kind when they were summed
unfoldable pub had_kind : List ℕ → ℕ → Bool
had_kind rest sum = some (is_kind rest sum) (suc last_kind)
