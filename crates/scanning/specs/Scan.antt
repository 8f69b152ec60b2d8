-- The scan of a damaged log (02, request 8). It passes over the bytes once: at each place it takes the notice that begins there,
-- if it is whole and its sequence comes after all that were taken, and skips a byte if not.
use Rattle.std.specs.Prelude.{ℕ, zero, suc, ◌+◌, Bool, true, List, [], ◌∷◌, ◌++◌, eqb, ltb, length}
use Rattle.std.proofs.Math.Seq.{slice}
use Rattle.rules.specs.Refusals.{pick}
use Rattle.notice.specs.declared.Notice.{Notice}
use Rattle.notice.specs.declared.Found.{Found}
use Rattle.notice.specs.declared.Found.TheVariants as found
use Rattle.notice.specs.Decode.{read_at}
use Rattle.std.specs.Prelude.{Option}
use Rattle.std.specs.Prelude.{Some, None}
use Rattle.scanning.specs.declared.scan.Move.{Move}
use Rattle.scanning.specs.declared.scan.Move.TheVariants.{Take, Skip, Stop}

-- a sequence that comes after the last taken one
abbrev pub is_later : Option ℕ → ℕ → Bool
is_later None s = true
is_later (Some l) s = ltb l s

-- what is done where a log has this
abbrev pub move_of : Option ℕ → Found → Move
move_of l (found.At n e) = pick (is_later l n.sequence) (Take n e) Skip
move_of l found.End = Stop
move_of l found.Malformed = Skip

-- skipped bytes, one behind the other: where the first stands, and how many they are
pub record Stretch : Type 0 where
  pub start : ℕ
  pub size : ℕ

abbrev pub stretch : ℕ → ℕ → Stretch
stretch p n = record { start = p; size = n }

-- where a stretch ends, and a byte that joins it would stand
abbrev pub end_of : Stretch → ℕ
end_of s = s.start + s.size

-- the stretches, newest first, with one more byte: it joins the stretch that it stands behind
abbrev pub stretch_joined : ℕ → List Stretch → List Stretch
stretch_joined p [] = stretch p 1 ∷ []
stretch_joined p (s ∷ ss) = pick (eqb (end_of s) p) (stretch s.start (suc s.size) ∷ ss) (stretch p 1 ∷ s ∷ ss)

-- how far a scan has come: its place, the taken notices and the skipped stretches, both newest first, and the taken bytes
pub record Scan : Type 0 where
  pub place : ℕ
  pub taken : List Notice
  pub kept : List ℕ
  pub skipped : List Stretch

abbrev pub last_of : List Notice → Option ℕ
last_of [] = None
last_of (n ∷ ns) = Some n.sequence

abbrev pub scan_after : List ℕ → Scan → Move → Scan
scan_after bs s (Take n e) =
    record { place = e; taken = n ∷ s.taken; kept = s.kept ++ slice s.place e bs; skipped = s.skipped }
scan_after bs s Skip =
    record { place = suc s.place; taken = s.taken; kept = s.kept; skipped = stretch_joined s.place s.skipped }
scan_after bs s Stop = s

-- what the scan does next
abbrev pub move_in : List ℕ → Scan → Move
move_in bs s = move_of (last_of s.taken) (read_at bs s.place)

abbrev pub begin : Scan
begin = record { place = 0; taken = []; kept = []; skipped = [] }

-- after n steps
unfoldable pub scan_to : List ℕ → ℕ → Scan
scan_to bs zero = begin
scan_to bs (suc n) = scan_after bs (scan_to bs n) (move_in bs (scan_to bs n))

-- all of a log: each step passes a byte at least, so a step for each is enough
abbrev pub scan_of : List ℕ → Scan
scan_of bs = scan_to bs (length bs)
