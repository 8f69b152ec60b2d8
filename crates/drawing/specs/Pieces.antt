-- Pieces of a picture: numbers in tenths of a pixel, rectangles with a text that hovering shows, labels, and paths step by step.
use Rattle.std.specs.Prelude.{ℕ, ◌/◌, ◌%◌, List, [], ◌∷◌, ◌++◌}
use Rattle.text.specs.Texts.{text}
use Rattle.text.specs.Digits.{decimal}
use Rattle.drawing.specs.declared.pieces.Area.{Area}

-- tenths of a pixel, as pixels
unfoldable pub tenths_text : ℕ → List ℕ
tenths_text n = decimal (n / 10) ++ text "." ++ decimal (n % 10)

-- a number of tenths behind what leads to it
unfoldable pub field_text : List ℕ → ℕ → List ℕ
field_text lead n = lead ++ tenths_text n

-- a rectangle of a class and a number of that class, up to where its hover text begins; and what ends both
unfoldable pub rect_text : List ℕ → ℕ → Area → List ℕ
rect_text class n a =
    text "<rect class='" ++ class ++ decimal n
    ++ field_text (text "' x='") a.x
    ++ field_text (text "' y='") a.y
    ++ field_text (text "' width='") a.width
    ++ field_text (text "' height='") a.height
    ++ text "'><title>"

abbrev pub rect_end : List ℕ
rect_end = text "</title></rect>\n"

-- a label at a place, up to where its text begins; and its end
unfoldable pub label_text : List ℕ → ℕ → ℕ → List ℕ
label_text class x y =
    text "<text class='" ++ class ++ field_text (text "' x='") x ++ field_text (text "' y='") y ++ text "'>"

abbrev pub label_end : List ℕ
label_end = text "</text>\n"

-- a path up to its first step; a step to one number, as H or V; a point, as M or L; and its end
unfoldable pub path_text : List ℕ → List ℕ
path_text class = text "<path class='" ++ class ++ text "' d='"

unfoldable pub step_text : ℕ → ℕ → List ℕ
step_text letter n = field_text (letter ∷ []) n

unfoldable pub point_text : ℕ → ℕ → ℕ → List ℕ
point_text letter x y = step_text letter x ++ field_text (text " ") y

abbrev pub path_end : List ℕ
path_end = text "'/>\n"
