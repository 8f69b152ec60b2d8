-- What the call gives back and leaves in the lent area and row (02, request 8).
use Rattle.std.specs.Prelude.{ℕ, ◌≡◌, Bool, List, [], ◌∷◌, ◌++◌, ltb, length, drop}
use Rattle.rules.specs.Limits.{either}
use Rattle.rules.specs.Refusals.{pick, first_hit, refuse, done, wrong_rows}
use Rattle.salvaging.specs.declared.Salvaged.{Salvaged}
use Rattle.scanning.specs.Scan.{Stretch, Scan, scan_of}

-- start and length of each stretch, in order
unfoldable pub flat : List Stretch → List ℕ
flat [] = []
flat (s ∷ ss) = flat ss ++ s.start ∷ s.size ∷ []

-- either room is too short
abbrev pub lacks_room : Scan → List ℕ → List ℕ → Bool
lacks_room s area row = either (ltb (length area) (length s.kept)) (ltb (length row) (length (flat s.skipped)))

-- how many notices, bytes and stretches; nothing but the number beside a refusal
abbrev pub salvaged : Scan → Salvaged
salvaged s =
    record { answer = done; notices = length s.taken; bytes = length s.kept; stretches = length s.skipped }

abbrev pub no_room : Salvaged
no_room = record { answer = wrong_rows; notices = 0; bytes = 0; stretches = 0 }

-- a room with these at its start, and what stood there in the later places
abbrev pub filled : List ℕ → List ℕ → List ℕ
filled xs room = xs ++ drop (length xs) room

-- what the call promises
pub record Salvages (log area row : List ℕ) (r : Salvaged) (area-after row_after_lem : List ℕ) : Type 0 where
  pub answers : r.answer ≡ first_hit (refuse wrong_rows (lacks_room (scan_of log) area row) ∷ [])
  pub gives : r ≡ pick (lacks_room (scan_of log) area row) no_room (salvaged (scan_of log))
  pub area_is : area-after ≡ pick (lacks_room (scan_of log) area row) area (filled (scan_of log).kept area)
  pub row_is : row_after_lem ≡ pick (lacks_room (scan_of log) area row) row (filled (flat (scan_of log).skipped) row)
