-- What one read leaves in a buffer.
use Rattle.std.specs.Prelude.{ℕ, ◌<◌, ◌≤◌}
use Rattle.streams.specs.declared.Filled.{Filled}
use Rattle.streams.specs.declared.Filled.TheVariants.{More, Last}

-- no more bytes at a buffer's start than it has places
abbrev pub Holds : ℕ → Filled → Type 0
Holds size (More n) = n ≤ size
Holds size (Last n) = n ≤ size

-- bytes that were read are one at least
abbrev pub Grows : ℕ → Filled → Type 0
Grows kept (More n) = kept < n
Grows kept (Last n) = Unit {0}
