-- How the code goes through a log: what it counts of a scan, and one step over a window. The call's contract cites nothing of this;
-- proofs/ shows what it comes to.
use Rattle.std.specs.Prelude.{ℕ, ◌+◌, ◌-◌, ◌≤◌, ◌<◌, ◌^◌, ◌≡◌, Bool, List, [], ◌∷◌, eqb, ltb, length}
use Rattle.rules.specs.Limits.{both}
use Rattle.rules.specs.Refusals.{pick}
use Rattle.notice.specs.Decode.{read_at}
use Rattle.std.specs.Prelude.{Some, None}
use Rattle.scanning.specs.declared.scan.Move.{Move}
use Rattle.scanning.specs.declared.scan.Move.TheVariants.{Take, Skip, Stop}
use Rattle.scanning.specs.declared.steps.Progress.{Progress}
use Rattle.scanning.specs.Scan.{move_of, Stretch, stretch, Scan, last_of}

abbrev pub latest : List Stretch → Stretch
latest [] = stretch 0 0
latest (s ∷ ss) = s

-- what is counted of a scan
abbrev pub progress_of : Scan → Progress
progress_of s =
    record {
      place = s.place;
      last = last_of s.taken;
      notices = length s.taken;
      bytes = length s.kept;
      stretches = length s.skipped;
      start = (latest s.skipped).start;
      size = (latest s.skipped).size;
    }

abbrev pub fresh_progress : Progress
fresh_progress = record { place = 0; last = None; notices = 0; bytes = 0; stretches = 0; start = 0; size = 0 }

-- the latest stretch ends at the place
unfoldable pub is_open_at : Progress → Bool
is_open_at p = both (ltb 0 p.stretches) (eqb (p.start + p.size) p.place)

-- that stretch, which ends there if the next byte is not skipped
abbrev pub ending_stretch : Progress → List ℕ
ending_stretch p = pick (is_open_at p) (p.start ∷ p.size ∷ []) []

-- a notice is taken
abbrev pub taking_notice : Progress → ℕ → ℕ → Progress
taking_notice p s e =
    record {
      place = e;
      last = Some s;
      notices = p.notices + 1;
      bytes = p.bytes + (e - p.place);
      stretches = p.stretches;
      start = p.start;
      size = p.size;
    }

-- a skipped byte joins the stretch that is open
abbrev pub joining : Progress → Progress
joining p =
    record {
      place = p.place + 1;
      last = p.last;
      notices = p.notices;
      bytes = p.bytes;
      stretches = p.stretches;
      start = p.start;
      size = p.size + 1;
    }

-- or starts one
abbrev pub starting : Progress → Progress
starting p =
    record {
      place = p.place + 1;
      last = p.last;
      notices = p.notices;
      bytes = p.bytes;
      stretches = p.stretches + 1;
      start = p.place;
      size = 1;
    }

unfoldable pub skipping : Progress → Progress
skipping p = pick (is_open_at p) (joining p) (starting p)

-- one move, whose end is counted from place d of the input
abbrev pub progress_moved : ℕ → Progress → Move → Progress
progress_moved d p (Take n e) = taking_notice p n.sequence (d + e)
progress_moved d p Skip = skipping p
progress_moved d p Stop = p

-- no count is larger than the place
pub record Counts (p : Progress) : Type 0 where
  pub notices_low : p.notices ≤ p.place
  pub bytes_low : p.bytes ≤ p.place
  pub stretches_low : p.stretches ≤ p.place
  pub latest_low : p.start + p.size ≤ p.place

-- the place lies in a window of so many bytes that begins at d
pub record Within (size d : ℕ) (p : Progress) : Type 0 where
  pub from : d ≤ p.place
  pub to : p.place ≤ d + size
  pub fits : d + size < 2 ^ 64

-- two places of a window, one not before the other
pub record Between (size d : ℕ) (p q : Progress) : Type 0 where
  pub from : d ≤ p.place
  pub ahead : p.place ≤ q.place
  pub to : q.place ≤ d + size

-- one step over a window: the move at the place, and how far that comes
pub record Advances (window : List ℕ) (d : ℕ) (p r : Progress) : Type 0 where
  pub is : r ≡ progress_moved d p (move_of p.last (read_at window (p.place - d)))
  pub counts : Counts r
  pub ahead : p.place < d + length window → p.place < r.place
  pub within : r.place ≤ d + length window
