-- What is told of a log (02, requests 1, 8 and 13): as the calls beneath define it, with the numbers in a lent row.
use Rattle.std.specs.Prelude.{ℕ, ◌≡◌, true, false, List, [], ◌∷◌, ltb, length}
use Rattle.rules.specs.Refusals.{pick, wrong_rows}
use Rattle.waiting.specs.declared.Report.{Report}
use Rattle.waiting.specs.Report.{Reports}
use Rattle.airing.specs.declared.Judgement.{Judgement}
use Rattle.airing.specs.Air.{air_gives, air_leaves}
use Rattle.salvaging.specs.declared.Salvaged.{Salvaged}
use Rattle.scanning.specs.Scan.{scan_of}
use Rattle.salvaging.specs.Rows.{lacks_room, salvaged, no_room, flat}
use Rattle.rongalishu.specs.Results.{needing, resulting}

-- how many numbers each has
abbrev pub waits_places : ℕ
waits_places = 4

abbrev pub air_places : ℕ
air_places = 3

abbrev pub salvage_places : ℕ
salvage_places = 3

-- arrivals, admitted, longest wait and sum of waits
abbrev pub wait_numbers : Report → List ℕ
wait_numbers t = t.arrivals ∷ t.waits.admitted ∷ t.waits.longest ∷ t.waits.sum ∷ []

-- the report, told in a row that has its places
pub record WaitsTold (pool : ℕ) (log : List ℕ) (title : ℕ) (xs row : List ℕ) (r : ℕ) (after : List ℕ) : Type 0 where
  pub told : Report
  pub reports : Reports pool log title xs told
  pub answers : r ≡ told.answer
  pub leaves : after ≡ resulting r (wait_numbers told) row

pub record WaitsGiven (pool : ℕ) (log : List ℕ) (title : ℕ) (xs row : List ℕ) (r : ℕ) (after : List ℕ) : Type 0 where
  pub too_short : ltb (length row) waits_places ≡ true → (r ≡ wrong_rows) × (after ≡ row)
  pub tells : ltb (length row) waits_places ≡ false → WaitsTold pool log title xs row r after

-- admissions judged, played through, and those that outlast the record
abbrev pub air_numbers : Judgement → List ℕ
air_numbers j = j.judged ∷ j.played ∷ j.outlast ∷ []

pub record AirGiven (pool : ℕ) (log : List ℕ) (title : ℕ) (seen row report : List ℕ) (r : ℕ) (after told : List ℕ) : Type 0 where
  pub answers : r ≡ needing air_places report (air_gives pool log title seen (length row)).answer
  pub row_is : after ≡ pick (ltb (length report) air_places) row (air_leaves pool log title seen row)
  pub report_is : told ≡ resulting r (air_numbers (air_gives pool log title seen (length row))) report

-- what is left of a damaged log: notices taken, their bytes, and stretches skipped
abbrev pub salvage_gives : List ℕ → List ℕ → List ℕ → Salvaged
salvage_gives log area row = pick (lacks_room (scan_of log) area row) no_room (salvaged (scan_of log))

abbrev pub salvage_numbers : Salvaged → List ℕ
salvage_numbers s = s.notices ∷ s.bytes ∷ s.stretches ∷ []

pub record SalvageGiven (log area row report : List ℕ) (r : ℕ) (area-after row_after_lem told : List ℕ) : Type 0 where
  pub answers : r ≡ needing salvage_places report (salvage_gives log area row).answer
  pub area_is : area-after ≡ resulting r (scan_of log).kept area
  pub row_is : row_after_lem ≡ resulting r (flat (scan_of log).skipped) row
  pub report_is : told ≡ resulting r (salvage_numbers (salvage_gives log area row)) report
