-- One turn of the making of sums: the notice at the place, if one is there.
use Rattle.std.specs.Prelude.{ℕ, Option, Some, None, List}
use Rattle.std.proofs.lemmas.List.Edits.{sets}
use Rattle.sums.specs.Crc.{sum_of}
use Rattle.notice_fields.specs.Numbers.{big_endian}
use Rattle.notice.specs.declared.Found.{Found}
use Rattle.notice.specs.declared.Found.TheVariants as found
use Rattle.journals.specs.Start.{sum_bytes, part_of}

-- where it ends
unfoldable pub end_found : Found → Option ℕ
end_found (found.At n e) = Some e
end_found found.End = None
end_found found.Malformed = None

-- its sum in a row, from a place of the row on
unfoldable pub laid_next : List ℕ → ℕ → ℕ → List ℕ → Found → List ℕ
laid_next bs place at room (found.At n e) = sets room at (big_endian sum_bytes (sum_of (part_of bs place e)))
laid_next bs place at room found.End = room
laid_next bs place at room found.Malformed = room
