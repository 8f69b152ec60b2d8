-- A log that comes in windows, as `notice_bytes` has it, and what a place is that a window does not decide.
use Rattle.std.specs.Prelude.{ℕ, ◌≡◌, true, false, List, ◌++◌}
use Rattle.notice.specs.Decode.{read_at}
use Rattle.notice.specs.Log.{is_notice}
unfoldable pub use Rattle.notice_bytes.specs.Window.{is_decided}
pub use Rattle.notice_bytes.specs.Window.{Seen}

-- a notice is unfinished at a place: none is read there, and with some bytes more one would be
pub record Unfinished (bs : List ℕ) (p : ℕ) : Type 0 where
  pub no_notice : is_notice (read_at bs p) ≡ false
  pub later : List ℕ
  pub notice : is_notice (read_at (bs ++ later) p) ≡ true
