-- A log is notices back to back (01, "Notices"), and what it means to read one to its end.
use Rattle.std.specs.Prelude.{ℕ, zero, suc, ◌<◌, ◌^◌, ◌≡◌, Bool, true, false, List, [], ◌∷◌, ◌++◌, leb, length, get_or}
use Rattle.notice.specs.declared.Notice.{Notice}
use Rattle.notice.specs.declared.Kind.{Kind}
use Rattle.notice.specs.declared.Kind.TheVariants.{Open, Change, Close, Hold, Lift, Skip}
use Rattle.notice.specs.declared.Found.{Found}
use Rattle.notice.specs.declared.Found.TheVariants as found
use Rattle.notice_fields.specs.Fields.{size_of, is_carried, rows}
pub use Rattle.notice_fields.specs.Numbers.{Bytes}
use Rattle.notice.specs.Encode.{kind_of, values_in, bytes_of}
use Rattle.notice.specs.Decode.{read_at, place_after}

-- the widths of the code's types
abbrev pub KindTyped : Kind → Type 0
KindTyped (Open d a k n) = (d < 2 ^ 32) × ((a < 2 ^ 8) × ((k < 2 ^ 8) × (n < 2 ^ 8)))
KindTyped (Change n) = n < 2 ^ 8
KindTyped Close = Unit {0}
KindTyped Hold = Unit {0}
KindTyped Lift = Unit {0}
KindTyped (Skip d n) = (d < 2 ^ 32) × (n < 2 ^ 8)

pub record Typed (n : Notice) : Type 0 where
  pub sequence_fits : n.sequence < 2 ^ 32
  pub title_fits : n.title < 2 ^ 8
  pub time_fits : n.time < 2 ^ 64
  pub kind_fits : KindTyped n.kind

-- each value of a notice fits its field, as in every record of those widths
abbrev pub FitsFields : Notice → Type 0
FitsFields n = (i : ℕ) → i < rows → is_carried (kind_of n.kind) i ≡ true → get_or (values_in n) i 0 < 256 ^ size_of i

unfoldable pub log_of : List Notice → List ℕ
log_of [] = []
log_of (n ∷ ns) = bytes_of n ++ log_of ns

-- from a place on, a log gives these notices in order, and then "end"
pub data Gives (bs : List ℕ) : ℕ → List Notice → Type 0 where
  ends : {p : ℕ} → read_at bs p ≡ found.End → Gives bs p []
  next : {p e : ℕ} {n : Notice} {ns : List Notice} → read_at bs p ≡ found.At n e → Gives bs e ns → Gives bs p (n ∷ ns)

-- all of a list of notices fit
pub data AllFit : List Notice → Type 0 where
  none : AllFit []
  more : {n : Notice} {ns : List Notice} → FitsFields n → AllFit ns → AllFit (n ∷ ns)

-- ---- a log read from its start, whatever its bytes

-- the place after n reads
unfoldable pub place_to : List ℕ → ℕ → ℕ
place_to bs zero = 0
place_to bs (suc n) = place_after (read_at bs (place_to bs n)) (place_to bs n)

-- an answer that is a notice, after which reading goes on
abbrev pub is_notice : Found → Bool
is_notice (found.At n e) = true
is_notice found.End = false
is_notice found.Malformed = false

-- what a read adds to the notices before it, newest first
abbrev pub with_found : Found → List Notice → List Notice
with_found (found.At n e) ns = n ∷ ns
with_found found.End ns = ns
with_found found.Malformed ns = ns

-- the notices that the first n reads give, newest first
unfoldable pub notices_to : List ℕ → ℕ → List Notice
notices_to bs zero = []
notices_to bs (suc n) = with_found (read_at bs (place_to bs n)) (notices_to bs n)

-- all notices of a log, newest first, and where its reading stops: no notice is empty, so a read for each byte is enough
abbrev pub notices_of : List ℕ → List Notice
notices_of bs = notices_to bs (length bs)

abbrev pub stop_of : List ℕ → ℕ
stop_of bs = place_to bs (length bs)

-- a log ends in "end" where no byte is left, otherwise in 11
abbrev pub is_whole_log : List ℕ → Bool
is_whole_log bs = leb (length bs) (stop_of bs)
