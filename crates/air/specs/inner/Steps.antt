-- How the code prints: a line for each tick with a mark, until as many are printed as were judged, each with the next result. The
-- contract of `put_air` cites nothing of this; proofs/ shows that it comes to what a life says.
use Rattle.std.specs.Prelude.{ℕ, zero, suc, Bool, List, [], ◌++◌, eqb, ltb, length, get_or}
use Rattle.rules.specs.Refusals.{pick, done}
use Rattle.rules.specs.Search.{how_many}
use Rattle.text.specs.Texts.{text}
use Rattle.words.specs.Words.{refusal_text}
use Rattle.airing.specs.declared.Judgement.{Judgement}
use Rattle.air.specs.Lines.{admission_line, total_lines}

-- of the j-th admission, where so many are judged, whose results stand in a row
unfoldable pub judged_line : List ℕ → ℕ → ℕ → ℕ → List ℕ
judged_line row judged tick j = pick (ltb j judged) (admission_line tick (get_or row j 0)) []

-- a tick has a mark where it is an admission
abbrev pub is_marked : List ℕ → ℕ → Bool
is_marked marks tick = eqb (get_or marks tick 0) 1

-- the lines of the first n ticks
unfoldable pub marked_lines : List ℕ → List ℕ → ℕ → ℕ → List ℕ
marked_lines marks row judged zero = []
marked_lines marks row judged (suc n) =
    marked_lines marks row judged n ++ pick (is_marked marks n) (judged_line row judged n (how_many (is_marked marks) n)) []

unfoldable pub air_report : Judgement → List ℕ → List ℕ → List ℕ
air_report g marks row =
    pick (eqb g.answer done) (marked_lines marks row g.judged (length marks) ++ total_lines g) (refusal_text g.answer 0 ++ text "\n")
