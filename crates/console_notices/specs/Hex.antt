-- The bytes that a line's hexadecimal digits spell (docs/CONSOLE.md, "Commands": read and notice).
use Rattle.std.specs.Prelude.{ℕ, ◌-◌, List, [], ltb, length, take, drop}
use Rattle.rules.specs.Refusals.{pick}
use Rattle.console_lines.specs.declared.lines.Line.{Line}
use Rattle.console_lines.specs.Lines.{number_in}
use Rattle.text.specs.Digits.{hex_bytes}

-- room for the bytes that the longest line spells
abbrev pub hex_room : ℕ
hex_room = 2048

-- the bytes that the digits of a line between two places spell; none where these are no part of the line
unfoldable pub hex_between : List ℕ → ℕ → ℕ → List ℕ
hex_between s from to = pick (ltb (length s) to) [] (hex_bytes (take (to - from) (drop from s)))

-- the bytes of a line's HEX
abbrev pub bytes_in : List ℕ → Line → List ℕ
bytes_in s l = hex_between s (number_in l 0) (number_in l 1)
