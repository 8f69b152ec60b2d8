-- At a place that is decided a window has what the log has, with the place after it counted in the log. So what is read in
-- windows is what reading the whole gives.
-- Rests on which bytes matter at a place of a log.
use mathlib.Core.Path.{◌≡◌, refl}
use mathlib.Core.Bool.{Bool, true, false}
use mathlib.Core.List.{List, [], ◌++◌, append-nil}
use Prim.Native.Nat.{ℕ, ◌+◌}
use lib.ListN.{length}
use Rattle.notice.specs.Decode.{read_at, further}
use Rattle.notice_bytes.specs.Window.{is_decided, Seen}
pub use Rattle.notice_bytes.proofs.Decided.{few_left, at_end_decided}
use Rattle.notice.proofs.Part.{amid, at_last}

reads : (before window later : List ℕ) (p : ℕ) (over : Bool) → is_decided window p over ≡ true
    → (over ≡ true → later ≡ [])
    → read_at (before ++ (window ++ later)) (length before + p) ≡ further (length before) (read_at window p)
reads before window later p true d ended = rw (ended refl, append-nil) (at_last before window p)
reads before window later p false d ended = amid before window p later d

pub seen_reads : (log window : List ℕ) (place p : ℕ) (s : Seen log place window p)
    → read_at log place ≡ further (length s.before) (read_at window p)
seen_reads log window place p s =
    rw (s.is, s.there) (reads s.before window s.later p s.over s.decided s.ended)
