-- Each case of an answer has 01's number: what the two reading calls promise follows from the case that the definition gives.
use mathlib.Core.Path.{◌≡◌, refl}
use mathlib.Core.Bool.{Bool, true, false, not}
use mathlib.Core.List.{List, [], ◌∷◌}
use Prim.Native.Nat.{ℕ}
use lib.Dec.{leb}
use lib.ListN.{length}
use Rattle.rules.specs.Refusals.{pick, first_hit, refuse, malformed}
use Rattle.notice.specs.declared.Notice.{Notice}
use Rattle.notice.specs.declared.Reading.{Reading}
use Rattle.notice.specs.declared.Reading.TheVariants as reading
use Rattle.notice.specs.declared.Found.{Found}
use Rattle.notice.specs.declared.Found.TheVariants as found
use Rattle.notice.specs.Decode.{read_at, read_of, is_whole, is_alone, number_of, answer_of, number, end, Reads, Finds}

one_number : (b : Bool) (n : Notice)
    → number_of (pick b (reading.Whole n) reading.Malformed) ≡ first_hit (refuse malformed (not b) ∷ [])
unfolding first_hit
one_number true n = refl
one_number false n = refl

one_answer : (a b : Bool) (n : Notice) (e : ℕ)
    → answer_of (pick a found.End (pick b (found.At n e) found.Malformed))
    ≡ pick a end (number (first_hit (refuse malformed (not b) ∷ [])))
unfolding first_hit
one_answer true b n e = refl
one_answer false true n e = refl
one_answer false false n e = refl

pub reads : {r : Reading} (bs : List ℕ) → r ≡ read_of bs → Reads bs r
unfolding read_of
reads bs is = record { is = is; answers = rw is (one_number (is_alone bs) _) }

pub finds : {r : Found} (bs : List ℕ) (p : ℕ) → r ≡ read_at bs p → Finds bs p r
unfolding read_at
finds bs p is = record { is = is; answers = rw is (one_answer (leb (length bs) p) (is_whole bs p) _ _) }
