-- No byte of a log is lost or told twice: what is kept is the log without its stretches, and these follow one another within
-- it with something kept between any two.
-- Rests on how each step adds to the one or the other.
use mathlib.Core.Path.{◌≡◌, refl, sym, ap, ◌∙◌}
use mathlib.Core.Bool.{Bool, true, false}
use mathlib.Core.List.{List, [], ◌∷◌, ◌++◌, append-nil, append_assoc}
use Prim.Native.Nat.{ℕ, zero, suc, ◌+◌, ◌-◌, ◌≤◌, ◌<◌}
use native.Mathlib.Nat.{add-zero, add-suc}
use native.Mathlib.Omega.{arith}
use borrow.Author.Tests.{le-leb, lt-leb, lt-ltb, le-ltb, eqb-true, eqb-false}
use lib.Dec.{eqb, leb, ltb}
use lib.ListN.{length, get_or, length-append}
use lib.Seq.{slice, slice_empty, length-slice}
use Rattle.rules.specs.Limits.{both}
use Rattle.rules.specs.Refusals.{pick}
use Rattle.rules.proofs.Tests.{either_false}
use Rattle.notice.proofs.NoticePlaces.{inside}
use Rattle.scanning.specs.declared.scan.Move.{Move}
use Rattle.scanning.specs.declared.scan.Move.TheVariants.{Take, Skip, Stop}
use Rattle.scanning.specs.Scan.{Stretch, stretch, end_of, stretch_joined, Scan, last_of, scan_after, move_in, scan_to, scan_of}
use Rattle.salvaging.specs.Claims.{is_skipped, outside, skipped_bytes, Apart}
use Rattle.salvaging.proofs.Parts.{slice_suc}
use Rattle.scanning.proofs.ScanThrough.{takes, at_last}

-- ---- which bytes lie in stretches

-- byte i lies in a stretch
abbrev lies : Stretch → ℕ → Bool
lies s i = both (leb s.start i) (ltb i (end_of s))

lies_not_before : (s : Stretch) (i : ℕ) → i < s.start → lies s i ≡ false
lies_not_before s i h = rw (lt-leb s.start i h)

lies_not_past : (s : Stretch) (i : ℕ) → end_of s ≤ i → lies s i ≡ false
lies_not_past s i h = rw (le-ltb i (end_of s) h) (go (leb s.start i))
  where
    go : (b : Bool) → both b false ≡ false
    go true = refl
    go false = refl

lies_in : (s : Stretch) (i : ℕ) → s.start ≤ i → i < end_of s → lies s i ≡ true
lies_in s i h l = rw (le-leb s.start i h, lt-ltb i (end_of s) l)

-- no byte from a place on lies in stretches that end before it
none_past : (q i : ℕ) (ss : List Stretch) → Apart q ss → q ≤ suc i → is_skipped ss i ≡ false
unfolding is_skipped
none_past q i [] a h = refl
none_past q i (s ∷ ss) a h =
    either_false (lies s i) (is_skipped ss i) (lies_not_past s i (omega (arith, a.0)))
    (none_past s.start i ss a.1.1 (omega (arith, a.0)))

-- one more skipped byte is skipped, and the bytes before it are as they were
module _ (p : ℕ) where
  joined_here : (ss : List Stretch) → is_skipped (stretch_joined p ss) p ≡ true
  unfolding is_skipped
  joined_here [] = rw (lies_in (stretch p 1) p (omega arith) (omega arith))
  joined_here (s ∷ ss) = go (eqb (end_of s) p) refl
    where
      go : (b : Bool) → eqb (end_of s) p ≡ b
          → is_skipped (pick b (stretch s.start (suc s.size) ∷ ss) (stretch p 1 ∷ s ∷ ss)) p ≡ true
      go true e =
          let at = eqb-true (end_of s) p e in
          rw (lies_in (stretch s.start (suc s.size)) p (omega arith) (omega arith))
      go false e = rw (lies_in (stretch p 1) p (omega arith) (omega arith))

  joined_before : (ss : List Stretch) (i : ℕ) → i < p → is_skipped (stretch_joined p ss) i ≡ is_skipped ss i
  unfolding is_skipped
  joined_before [] i h = rw (lies_not_before (stretch p 1) i h)
  joined_before (s ∷ ss) i h = go (eqb (end_of s) p) refl
    where
      longer : end_of s ≡ p → lies (stretch s.start (suc s.size)) i ≡ lies s i
      longer at =
          let in-s : i < end_of s = omega arith in
          let in-t : i < end_of (stretch s.start (suc s.size)) = omega arith in
          rw (lt-ltb _ _ in-s, lt-ltb _ _ in-t)

      go : (b : Bool) → eqb (end_of s) p ≡ b
          → is_skipped (pick b (stretch s.start (suc s.size) ∷ ss) (stretch p 1 ∷ s ∷ ss)) i ≡ is_skipped (s ∷ ss) i
      go true e = rw (longer (eqb-true (end_of s) p e))
      go false e = rw (lies_not_before (stretch p 1) i h)

  -- stretches stay apart
  joined_apart : (ss : List Stretch) → Apart (suc p) ss → Apart (suc (suc p)) (stretch_joined p ss)
  joined_apart [] a = (omega arith, (omega arith, tt))
  joined_apart (s ∷ ss) a = go (eqb (end_of s) p) refl
    where
      go : (b : Bool) → eqb (end_of s) p ≡ b
          → Apart (suc (suc p)) (pick b (stretch s.start (suc s.size) ∷ ss) (stretch p 1 ∷ s ∷ ss))
      go true e =
          let at = eqb-true (end_of s) p e in
          (omega arith, (omega arith, a.1.1))
      go false e =
          let past = eqb-false (end_of s) p e in
          (omega arith, (omega arith, (before past a.0, a.1)))
        where
          before : (end_of s ≡ p → ⊥) → end_of s < suc p → end_of s < p
          before f l = omega arith

  -- and have one byte more
  joined_size : (ss : List Stretch) → skipped_bytes (stretch_joined p ss) ≡ suc (skipped_bytes ss)
  unfolding skipped_bytes
  joined_size [] = refl
  joined_size (s ∷ ss) = go (eqb (end_of s) p)
    where
      go : (b : Bool)
          → skipped_bytes (pick b (stretch s.start (suc s.size) ∷ ss) (stretch p 1 ∷ s ∷ ss)) ≡ suc (skipped_bytes ss + s.size)
      go true = omega arith
      go false = omega arith

-- ---- the bytes outside

same_outside : (bs : List ℕ) (ss ts : List Stretch) (n : ℕ) → ((i : ℕ) → i < n → is_skipped ss i ≡ is_skipped ts i)
    → outside bs ss n ≡ outside bs ts n
unfolding outside
same_outside bs ss ts zero f = refl
same_outside bs ss ts (suc n) f =
    rw (f n (omega arith), same_outside bs ss ts n (λ i lt. f i (omega arith)))

-- bytes of which none is skipped are all outside
outside_more : (bs : List ℕ) (ss : List Stretch) (p d : ℕ) → Apart (suc p) ss → p + d ≤ length bs
    → outside bs ss (p + d) ≡ outside bs ss p ++ slice p (p + d) bs
unfolding outside
outside_more bs ss p zero a h = rw (add-zero, slice_empty, append-nil) refl
outside_more bs ss p (suc d) a h =
    let free : is_skipped ss (p + d) ≡ false = none_past (suc p) (p + d) ss a (omega arith) in
    let part = slice_suc p (p + d) bs (omega arith) (omega arith) in
    let rest = outside_more bs ss p d a (omega arith) in
    rw (add-suc p d, free, rest, part) (append_assoc (outside bs ss p) (slice p (p + d) bs) (get_or bs (p + d) 0 ∷ []))

-- and a skipped byte adds none
one_skipped : (bs : List ℕ) (ss : List Stretch) (p : ℕ) → outside bs ss p ≡ outside bs (stretch_joined p ss) (suc p)
unfolding outside
one_skipped bs ss p =
    rw (joined_here p ss) (same_outside bs ss (stretch_joined p ss) p (λ i lt. sym (joined_before p ss i lt)))

-- ---- a scan

-- what is taken and what is skipped up to its place
pub record Split (bs : List ℕ) (s : Scan) : Type 0 where
  pub apart : Apart (suc s.place) s.skipped
  pub others : s.kept ≡ outside bs s.skipped s.place
  pub all : length s.kept + skipped_bytes s.skipped ≡ s.place

wider : (p q : ℕ) (ss : List Stretch) → Apart p ss → p ≤ q → Apart q ss
wider p q [] a h = tt
wider p q (s ∷ ss) a h = (omega (arith, a.0), a.1)

split_on : (bs : List ℕ) (s : Scan) → Split bs s → Split bs (scan_after bs s (move_in bs s))
split_on bs s w = go (move_in bs s) refl
  where
    go : (m : Move) → move_in bs s ≡ m → Split bs (scan_after bs s m)
    go (Take n e) is =
        let p = s.place in
        let i = inside bs p n e (takes bs (last_of s.taken) p n e is).found in
        let at : p + (e - p) ≡ e = omega (arith, i.ahead) in
        let more = outside_more bs s.skipped p (e - p) w.apart (omega (arith, i.within, i.ahead)) in
        let size : length (s.kept ++ slice p e bs) ≡ length s.kept + (e - p) =
        length-append s.kept (slice p e bs) ∙ ap (λ k. length s.kept + k) (length-slice p e bs i.within) in
        record {
          apart = wider (suc p) (suc e) s.skipped w.apart (omega (arith, i.ahead));
          others = ap (λ k. k ++ slice p e bs) w.others ∙ sym (rw at at more);
          all = omega (arith, size, w.all, i.ahead);
        }
    go Skip is =
        record {
          apart = joined_apart s.place s.skipped w.apart;
          others = w.others ∙ one_skipped bs s.skipped s.place;
          all = omega (arith, w.all, joined_size s.place s.skipped);
        }
    go Stop is = w

pub split_to : (bs : List ℕ) (n : ℕ) → Split bs (scan_to bs n)
unfolding scan_to outside skipped_bytes
split_to bs zero = record { apart = tt; others = refl; all = refl }
split_to bs (suc n) = split_on bs (scan_to bs n) (split_to bs n)

-- ---- the theorems

module _ (bs : List ℕ) where
  -- what is kept is the input without the skipped bytes, in order
  pub together : (scan_of bs).kept ≡ outside bs (scan_of bs).skipped (length bs)
  together = (split_to bs (length bs)).others ∙ ap (outside bs (scan_of bs).skipped) (at_last bs)

  -- stretches rise and never touch, none is empty, and all lie within the input
  pub apart : Apart (suc (length bs)) (scan_of bs).skipped
  apart = rw (at_last bs) at (split_to bs (length bs)).apart

  -- kept and skipped bytes are as many as the input has
  pub all_bytes : length (scan_of bs).kept + skipped_bytes (scan_of bs).skipped ≡ length bs
  all_bytes = (split_to bs (length bs)).all ∙ at_last bs
