-- A damaged log at which the theorem on undamaged tails speaks: a close of sequence 1 that is left, one byte of another notice, and
-- behind it a close of sequence 5. Nothing before the tail runs over its start or has a sequence as large.
-- Computed from the definitions, so that no hypothesis is empty.
use mathlib.Core.Path.{◌≡◌, refl, sym, ap, ◌∙◌}
use mathlib.Core.Bool.{true, not}
use mathlib.Core.List.{List, [], ◌∷◌, ◌++◌}
use Prim.Native.Nat.{ℕ, suc, ◌-◌, ◌<◌}
use native.Mathlib.Omega.{arith}
use Rattle.rules.specs.Search.{every}
use Rattle.rules.proofs.Search.{every_out}
use Rattle.notice.specs.declared.Notice.{Notice}
use Rattle.notice.specs.declared.Kind.TheVariants.{Close}
use Rattle.notice.specs.declared.Found.TheVariants as found
use Rattle.notice.specs.Fields.{table, start_of, span_of}
use Rattle.notice.specs.Numbers.{number_at}
use Rattle.notice.specs.Decode.{head_stands, row_stands, stands_to, value_at, kind_in, notice_in, is_whole, read_at}
use Rattle.notice.specs.Log.{Gives, ends, next}
use Rattle.notice.proofs.CaseSplits.{by_order, false_true}
use Rattle.notice.proofs.NoticePlaces.{there}
use Rattle.scanning.specs.Scan.{last_of, scan_to}
use Rattle.salvaging.specs.Claims.{Clear, ComeOut}
use Rattle.scanning.proofs.ScanThrough.{takes}
use Rattle.salvaging.proofs.Tails.{tail_comes_out}

-- a close of title 3 at time 0
abbrev close_of : ℕ → Notice
close_of s = record { sequence = s; title = 3; time = 0; kind = Close }

abbrev close_bytes : ℕ → List ℕ
close_bytes s =
    1 ∷ 0 ∷ 1 ∷ 3
    ∷ 2 ∷ 0 ∷ 4 ∷ 0 ∷ 0 ∷ 0 ∷ s
    ∷ 3 ∷ 0 ∷ 1 ∷ 3
    ∷ 4 ∷ 0 ∷ 8 ∷ 0 ∷ 0 ∷ 0 ∷ 0 ∷ 0 ∷ 0 ∷ 0 ∷ 0
    ∷ []

-- what is left before the tail
abbrev pre : List ℕ
pre = close_bytes 1 ++ 4 ∷ []

abbrev log : List ℕ
log = pre ++ close_bytes 5

tail_gives : Gives (close_bytes 5) 0 (close_of 5 ∷ [])
unfolding read_at table start_of span_of stands_to row_stands head_stands number_at notice_in value_at kind_in
tail_gives = next {e = 26} refl (ends refl)

first_read : read_at log 0 ≡ found.At (close_of 1) 26
unfolding read_at table start_of span_of stands_to row_stands head_stands number_at notice_in value_at kind_in
first_read = refl

-- from the second byte up to the tail no notice begins
no_others : every (λ p. not (is_whole log (suc p))) 26 ≡ true
unfolding every table start_of span_of stands_to row_stands head_stands number_at
no_others = refl

none_at : (p : ℕ) (n : Notice) (e : ℕ) → 0 < p → p < 27 → read_at log p ≡ found.At n e → ⊥
none_at p n e low high is =
    let at : suc (p - 1) ≡ p = omega arith in
    let none = every_out (λ q. not (is_whole log (suc q))) 26 (p - 1) no_others (omega arith) in
    let here : not (is_whole log p) ≡ true = rw at at none in
    let whole = (there log p n e is).all in
    false_true (rw whole at here)

clear : Clear log 27 (close_of 5 ∷ [])
clear j n e lt is =
    let read = (takes log (last_of (scan_to log j).taken) (scan_to log j).place n e is).found in
    by_order 0 (scan_to log j).place
    (λ low. absurd (none_at (scan_to log j).place n e low lt read))
    (λ start.
    let first : (scan_to log j).place ≡ 0 = omega arith in
    let same : found.At n e ≡ found.At (close_of 1) 26 = sym read ∙ ap (read_at log) first ∙ first_read in
    let end : e ≡ 26 = cc in
    let one : n ≡ close_of 1 = cc in
    (omega arith, rw one (omega arith, tt)))

-- so the tail comes out
pub comes_out : ComeOut log 27 (close_of 5 ∷ [])
comes_out = tail_comes_out pre (close_bytes 5) (close_of 5 ∷ []) tail_gives (tt, tt) clear
