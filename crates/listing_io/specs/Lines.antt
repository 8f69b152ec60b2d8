-- The lines of the listing (01, "Numbers worked through": sequence, kind, title, answer, lanes held).
use Rattle.std.specs.Prelude.{ℕ, List, [], ◌∷◌, ◌++◌}
use Rattle.rules.specs.Refusals.{malformed}
use Rattle.text.specs.Bytes.{newline}
use Rattle.text.specs.Texts.{text}
use Rattle.text.specs.Digits.{decimal}

abbrev pub space : ℕ
space = 32

-- a number in decimal, and the byte that ends it
unfoldable pub number_then : ℕ → ℕ → List ℕ
number_then n b = decimal n ++ b ∷ []

-- the line of a notice
unfoldable pub listing_line : (sequence kind title answer held : ℕ) → List ℕ
listing_line sequence kind title answer held =
    (((number_then sequence space ++ number_then kind space) ++ number_then title space) ++ number_then answer space) ++ number_then held newline

-- a malformed or cut notice: no sequence, kind and title, 11, and the lanes held
unfoldable pub last_line : ℕ → List ℕ
last_line held = (text "- - - " ++ number_then malformed space) ++ number_then held newline

-- five numbers of 20 digits at most, and the byte that ends each: no line is longer
abbrev pub line_room : ℕ
line_room = 105
