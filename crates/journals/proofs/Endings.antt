-- What the code makes of a journal's end, which is no whole notice: bytes laid over a blank notice of their kind are filled up by it, and
-- with another kind laid over theirs they are the bytes of that kind.
-- Rests on the laws of lists, and on how long a notice's fields are.
use mathlib.Core.Path.{◌≡◌, refl, sym, ap, ◌∙◌}
use mathlib.Core.Bool.{Bool, false}
use mathlib.Core.List.{List, ◌++◌, append_assoc}
use Prim.Native.Nat.{ℕ, ◌≤◌, ◌<◌}
use native.Mathlib.Omega.{arith}
use lib.Dec.{eqb}
use lib.ListN.{length, take, drop, set, length-append, length-drop}
use lib.Seq.{sets, take-length, take_at, drop-append-le, take-set-lt, take-set-le, set_out}
use borrow.Author.Tests.{lt-ltb, le-ltb, eq-eqb, ne_eqb}
use Rattle.sums.specs.Crc.{sum_of}
use Rattle.notice_fields.specs.Fields.{table, span_of, start_of, head_size, length_of, rows}
use Rattle.notice_fields.proofs.Each.{by_order}
use Rattle.notice_fields.proofs.Table.{longest_kind}
use Rattle.notice_bytes.specs.Standing.{is_alone}
use Rattle.notice_bytes.proofs.Laid.{length_bytes, laid}
use Rattle.journals.specs.Torn.{kind_begun, blank_bytes, is_torn, is_kind}

pub longest : (k : ℕ) → length_of k ≤ 45
unfolding table start_of span_of
longest k = longest_kind k

-- ---- torn

pub length_blank : (k : ℕ) → length (blank_bytes k) ≡ length_of k
length_blank k = length_bytes k _ rows

-- bytes over a blank notice in a room are the bytes and what is left of it
pub laid_over : (rest zeros : List ℕ) (k : ℕ) → length rest < length_of k → length_of k ≤ length zeros
    → take (length_of k) (take (length rest) rest ++ drop (length rest) (sets zeros 0 (blank_bytes k)))
    ≡ rest ++ drop (length rest) (blank_bytes k)
laid_over rest zeros k short room =
    let m = length rest in
    let long : length (blank_bytes k) ≡ length_of k = length_blank k in
    let fits : length (blank_bytes k) ≤ length zeros = omega (arith, long) in
    let low : m ≤ length (blank_bytes k) = omega (arith, long) in
    let size : length (rest ++ drop m (blank_bytes k)) ≡ length_of k =
    omega (arith, length-append rest (drop m (blank_bytes k)), length-drop m (blank_bytes k), long, short) in
    rw (
      take-length rest,
      laid (blank_bytes k) zeros fits,
      drop-append-le m (blank_bytes k) (drop (length (blank_bytes k)) zeros) low,
      ← append_assoc rest (drop m (blank_bytes k)) (drop (length (blank_bytes k)) zeros),
    )
    (take_at (rest ++ drop m (blank_bytes k)) (drop (length (blank_bytes k)) zeros) (length_of k) size)

-- and the room holds them
pub room_holds : (rest blank room : List ℕ) (n : ℕ) → length rest < n → n ≤ length blank
    → room ≡ take (length rest) rest ++ drop (length rest) blank → n ≤ length room
room_holds rest blank room n short fits is =
    rw (is, take-length rest, length-append rest (drop (length rest) blank), length-drop (length rest) blank) (omega arith)

module _ (rest : List ℕ) (k n : ℕ) (kind : k ≡ kind_begun rest) (whole : n ≡ length_of k) where
  pub torn_is : (zeros blank room : List ℕ) (answer : Bool) → length rest < n → length_of k ≤ length zeros
      → blank ≡ sets zeros 0 (blank_bytes k) → room ≡ take (length rest) rest ++ drop (length rest) blank
      → answer ≡ is_alone (take n room) → answer ≡ is_torn rest
  unfolding is_torn
  torn_is zeros blank room answer short fits is-blank is-room is =
      let low : length rest < length_of k = rw whole at short in
      is
      ∙ rw (is-room, is-blank, whole, laid_over rest zeros k low fits, ← kind, lt-ltb (length rest) (length_of k) low)

  pub not_torn : n ≤ length rest → false ≡ is_torn rest
  unfolding is_torn
  not_torn long = rw (← kind, le-ltb (length rest) (length_of k) (rw whole at long))

-- ---- of another kind

kind_laid : (rest zeros : List ℕ) (i k : ℕ) → take (length rest) (set (rest ++ zeros) i k) ≡ set rest i k
kind_laid rest zeros i k =
    by_order i (length rest)
    (λ lt. take-set-lt (length rest) (rest ++ zeros) i k lt ∙ ap (λ (l : List ℕ). set l i k) (take_at rest zeros (length rest) refl))
    (λ le. take-set-le (length rest) (rest ++ zeros) i k le ∙ (take_at rest zeros (length rest) refl ∙ sym (set_out rest i k le)))

pub kind_room : (rest zeros room : List ℕ) (n : ℕ) → length rest ≡ n → n ≤ length zeros
    → room ≡ take (length rest) rest ++ drop (length rest) zeros → n ≤ length room
kind_room rest zeros room n long fits is =
    rw (is, take-length rest, length-append rest (drop (length rest) zeros), length-drop (length rest) zeros) (omega arith)

module _ (rest : List ℕ) (k n total : ℕ) (whole : n ≡ length_of k) where
  pub kind_sum : (zeros room : List ℕ) (x : ℕ) → length rest ≡ n → room ≡ take (length rest) rest ++ drop (length rest) zeros
      → x ≡ sum_of (take n (set room head_size k)) → eqb x total ≡ is_kind rest total k
  unfolding is_kind
  kind_sum zeros room x long is-room is =
      rw (
        is,
        is-room,
        take-length rest,
        ← long,
        kind_laid rest (drop (length rest) zeros) head_size k,
        eq-eqb (length rest) (length_of k) (long ∙ whole),
      )

  pub other_length : (length rest ≡ n → ⊥) → false ≡ is_kind rest total k
  unfolding is_kind
  other_length other = rw (ne_eqb (length rest) (length_of k) (λ e. other (e ∙ sym whole)))
