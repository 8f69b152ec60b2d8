-- The bytes of a notice, field by field (01, "Notices"; hold, lift and skip by 02, requests 7 and 12).
use Rattle.std.specs.Prelude.{ℕ, ◌≡◌, Bool, List, [], ◌∷◌, ◌++◌, ltb, length, drop}
use Rattle.rules.specs.Refusals.{pick, first_hit, refuse, wrong_rows}
use Rattle.notice_fields.specs.Fields.{open_kind, change_kind, close_kind, hold_kind, lift_kind, skip_kind, rows}
unfoldable pub use Rattle.notice_bytes.specs.Laying.{field_bytes, row_bytes, bytes_to}
use Rattle.notice.specs.declared.Notice.{Notice}
use Rattle.notice.specs.declared.Kind.{Kind}
use Rattle.notice.specs.declared.Kind.TheVariants.{Open, Change, Close, Hold, Lift, Skip}

abbrev pub kind_of : Kind → ℕ
kind_of (Open d a k n) = open_kind
kind_of (Change n) = change_kind
kind_of Close = close_kind
kind_of Hold = hold_kind
kind_of Lift = lift_kind
kind_of (Skip d n) = skip_kind

-- length, floor, cap and count, 0 where the kind has none
abbrev pub data_in : Kind → List ℕ
data_in (Open d a k n) = d ∷ a ∷ k ∷ n ∷ []
data_in (Change n) = 0 ∷ 0 ∷ 0 ∷ n ∷ []
data_in Close = 0 ∷ 0 ∷ 0 ∷ 0 ∷ []
data_in Hold = 0 ∷ 0 ∷ 0 ∷ 0 ∷ []
data_in Lift = 0 ∷ 0 ∷ 0 ∷ 0 ∷ []
data_in (Skip d n) = d ∷ 0 ∷ 0 ∷ n ∷ []

-- what goes into each row of the table
abbrev pub values_in : Notice → List ℕ
values_in n = kind_of n.kind ∷ n.sequence ∷ n.title ∷ n.time ∷ data_in n.kind

-- a notice has exactly the fields of its kind, in the table's order
unfoldable pub bytes_of : Notice → List ℕ
bytes_of n = bytes_to (kind_of n.kind) (values_in n) rows

-- the lent room is too short
abbrev pub is_short : Notice → List ℕ → Bool
is_short n room = ltb (length room) (length (bytes_of n))

-- writing gives 10 and leaves the room as it was, or puts the bytes at its start and leaves the later ones
pub record Writes (n : Notice) (room : List ℕ) (answer : ℕ) (after : List ℕ) : Type 0 where
  pub answers : answer ≡ first_hit (refuse wrong_rows (is_short n room) ∷ [])
  pub leaves : after ≡ pick (is_short n room) room (bytes_of n ++ drop (length (bytes_of n)) room)
