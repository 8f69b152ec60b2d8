-- What a log has where it gives a notice: a whole notice, and a place after it that lies ahead and within the log.
-- Rests on the definition of a reading and on what is there where a whole notice stands.
use mathlib.Core.Path.{◌≡◌, refl}
use mathlib.Core.Bool.{Bool, true, false}
use mathlib.Core.List.{List}
use Prim.Native.Nat.{ℕ, ◌+◌, ◌≤◌, ◌<◌}
use native.Mathlib.Omega.{arith}
use borrow.Author.Tests.{leb-true}
use lib.Dec.{leb}
use lib.ListN.{length}
use Rattle.rules.specs.Refusals.{pick}
use Rattle.notice.specs.declared.Notice.{Notice}
use Rattle.notice.specs.declared.Found.TheVariants as found
use Rattle.notice_fields.specs.Fields.{length_of}
use Rattle.notice.specs.Decode.{notice_in, kind_at, is_whole, read_at}
use Rattle.notice_bytes.proofs.Whole.{stood}

pub record There (bs : List ℕ) (p : ℕ) (n : Notice) (e : ℕ) : Type 0 where
  pub all : is_whole bs p ≡ true
  pub notice : notice_in bs p (kind_at bs p) ≡ n
  pub end : p + length_of (kind_at bs p) ≡ e

pub there : (bs : List ℕ) (p : ℕ) (n : Notice) (e : ℕ) → read_at bs p ≡ found.At n e → There bs p n e
unfolding read_at
there bs p n e is = go (leb (length bs) p) (is_whole bs p) refl is
  where
    go : (a w : Bool) → is_whole bs p ≡ w
        → pick a found.End (pick w (found.At (notice_in bs p (kind_at bs p)) (p + length_of (kind_at bs p))) found.Malformed)
        ≡ found.At n e
        → There bs p n e
    go true w s t = absurd (let z : ◌≡◌ {A = ℕ} 0 1 = cc in omega arith)
    go false true s t = record { all = s; notice = cc; end = cc }
    go false false s t = absurd (let z : ◌≡◌ {A = ℕ} 0 1 = cc in omega arith)

pub record Inside (bs : List ℕ) (p e : ℕ) : Type 0 where
  pub ahead : p + 3 < e
  pub within : e ≤ length bs

pub inside : (bs : List ℕ) (p : ℕ) (n : Notice) (e : ℕ) → read_at bs p ≡ found.At n e → Inside bs p e
inside bs p n e is =
    let t = there bs p n e is in
    let s = stood bs p t.all in
    record { ahead = omega (arith, t.end, s.headed); within = omega (arith, t.end, s.fits) }

-- where a log answers "end", no byte is left
pub ended : (bs : List ℕ) (p : ℕ) → read_at bs p ≡ found.End → length bs ≤ p
unfolding read_at
ended bs p is = go (leb (length bs) p) (is_whole bs p) refl is
  where
    go : (a w : Bool) → leb (length bs) p ≡ a
        → pick a found.End (pick w (found.At (notice_in bs p (kind_at bs p)) (p + length_of (kind_at bs p))) found.Malformed)
        ≡ found.End
        → length bs ≤ p
    go true w s t = leb-true _ _ s
    go false true s t = absurd (let z : ◌≡◌ {A = ℕ} 0 1 = cc in omega arith)
    go false false s t = absurd (let z : ◌≡◌ {A = ℕ} 0 1 = cc in omega arith)
