-- The two parts of a kind's text: its word, and the numbers that it has beside id and time.
use Rattle.std.specs.Prelude.{ℕ, List, [], ◌∷◌, get_or}
use Rattle.notice.specs.declared.Kind.{Kind}
use Rattle.notice.specs.declared.Kind.TheVariants.{Open, Change, Close, Hold, Lift, Skip}
use Rattle.notice.specs.Encode.{kind_of}
use Rattle.text.specs.Texts.{text}

-- the words by the kinds' numbers, of which 0 is none
abbrev pub kind_words : List (List ℕ)
kind_words = [] ∷ text " open" ∷ text " change" ∷ text " close" ∷ text " hold" ∷ text " lift" ∷ text " skip" ∷ []

abbrev pub kind_word : Kind → List ℕ
kind_word kind = get_or kind_words (kind_of kind) []

abbrev pub kind_numbers : Kind → List ℕ
kind_numbers (Open d a k n) = d ∷ a ∷ k ∷ n ∷ []
kind_numbers (Change n) = n ∷ []
kind_numbers Close = []
kind_numbers Hold = []
kind_numbers Lift = []
kind_numbers (Skip d n) = d ∷ n ∷ []
