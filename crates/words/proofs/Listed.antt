-- Texts without a newline, each with one behind it, make a text whose lines they are; and the two ways from a line to the
-- next. Rests on the laws of runs.
use Prim.Native.Nat.{ℕ, zero, suc, ◌+◌, ◌-◌, ◌<◌, ◌≤◌}
use mathlib.Core.Path.{◌≡◌, refl, sym, ap, ◌∙◌}
use mathlib.Core.Bool.{Bool, true, false}
use mathlib.Core.List.{List, [], ◌∷◌, ◌++◌}
use native.Mathlib.Omega.{arith}
use native.Mathlib.Numerals.{add-one}
use borrow.Author.Tests.{eqb-true}
use lib.ListN.{length, get_or, take, drop, drop_of_length-le}
use lib.Seq.{drop-drop, take-append_seam}
use lib.Dec.{eqb}
use Rattle.rules.specs.Limits.{both}
use Rattle.rules.specs.Refusals.{pick}
use Rattle.rules.proofs.Tests.{both_l, both_r}
use Rattle.text.specs.declared.bytes.Sort.TheVariants.{Line}
use Rattle.text.specs.Bytes.{is_sort, run, run_end}
use Rattle.words.specs.Lines.{line_numbered, after_first}

abbrev pub newline : ℕ
newline = 10

-- the texts, with a newline behind each
unfoldable pub listed : List (List ℕ) → List ℕ
listed [] = []
listed (t ∷ ts) = t ++ newline ∷ listed ts

-- none of them has a newline: a test that is computed
unfoldable pub plain : List (List ℕ) → Bool
plain [] = true
plain (t ∷ ts) = both (eqb (run Line t) (length t)) (plain ts)

first_run : (t rest : List ℕ) → run Line t ≡ length t → run Line (t ++ newline ∷ rest) ≡ length t
unfolding run is_sort
first_run [] rest e = refl
first_run (b ∷ t) rest e = go (is_sort Line b) (first_run t rest) e
  where
    go : (x : Bool) → (run Line t ≡ length t → run Line (t ++ newline ∷ rest) ≡ length t)
        → pick x (suc (run Line t)) 0 ≡ suc (length t)
        → pick x (suc (run Line (t ++ newline ∷ rest))) 0 ≡ suc (length t)
    go true on h = ap suc (on (omega (arith, h)))
    go false on h = absurd (omega (arith, h))

past : (t rest : List ℕ) → drop (suc (length t)) (t ++ newline ∷ rest) ≡ rest
past [] rest = refl
past (b ∷ t) rest = past t rest

no_line : (k : ℕ) → line_numbered [] k ≡ []
unfolding line_numbered after_first run
no_line zero = refl
no_line (suc k) = no_line k

-- so the lines of such a text are the texts
pub lines : (ts : List (List ℕ)) (k : ℕ) → plain ts ≡ true → line_numbered (listed ts) k ≡ get_or ts k []
unfolding line_numbered after_first listed plain
lines [] k e = no_line k
lines (t ∷ ts) zero e =
    rw (first_run t (listed ts) (eqb-true _ _ (both_l (eqb (run Line t) (length t)) (plain ts) e))) (take-append_seam t
    (newline ∷ listed ts))
lines (t ∷ ts) (suc k) e =
    rw (first_run t (listed ts) (eqb-true _ _ (both_l (eqb (run Line t) (length t)) (plain ts) e)), past t (listed ts))
    (lines ts k (both_r (eqb (run Line t) (length t)) (plain ts) e))

-- behind a newline, and at the text's end, stands what follows the first line
module _ (s : List ℕ) (from end : ℕ) (e : end ≡ run_end Line s from) where
  from_first : after_first (drop from s) ≡ drop (suc end) s
  unfolding after_first run_end
  from_first =
      let n : from + suc (run Line (drop from s)) ≡ suc end = omega (arith, e) in
      drop-drop (suc (run Line (drop from s))) from s ∙ ap (λ (m : ℕ). drop m s) n

  pub after_newline : drop (end + 1) s ≡ after_first (drop from s)
  after_newline = rw add-one (sym from_first)

  pub after_all : length s ≤ end → drop (length s) s ≡ after_first (drop from s)
  after_all h =
      let whole : length s ≤ length s = omega arith in
      let most : length s ≤ suc end = omega (arith, h) in
      drop_of_length-le s whole ∙ sym (from_first ∙ drop_of_length-le s most)

  -- the line itself
  pub line_part : take (end - from) (drop from s) ≡ line_numbered (drop from s) 0
  unfolding line_numbered run_end
  line_part =
      let n : end - from ≡ run Line (drop from s) = omega (arith, e) in
      rw n

-- a line that is still some lines away is one line nearer behind the first, and at hand where none is left
module _ (s line : List ℕ) where
  pub nearer : (rest : List ℕ) (left : ℕ) → rest ≡ after_first s → 0 < left → line_numbered s left ≡ line
      → line_numbered rest (left - 1) ≡ line
  unfolding line_numbered
  nearer rest zero e h f = absurd (omega arith)
  nearer rest (suc k) e h f =
      let one : suc k - 1 ≡ k = omega arith in
      rw (one, e) f

  pub at_hand : (left : ℕ) → left ≤ 0 → line_numbered s left ≡ line → line_numbered s 0 ≡ line
  at_hand zero h f = f
  at_hand (suc k) h f = absurd (omega arith)
