-- The row that snapshots know, by its length and its first number, is the layout's: both by computation.
use mathlib.Core.Path.{◌≡◌, refl}
use Rattle.snapshots.specs.Bytes.{saved_places, saved_version}
use Rattle.agent_rows.specs.Layout.{row_length, row_version}

pub same_places : saved_places ≡ row_length
same_places = refl

pub same_version : saved_version ≡ row_version
same_version = refl
