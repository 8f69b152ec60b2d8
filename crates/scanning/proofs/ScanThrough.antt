-- A scan goes through its log: its place stays within it, each step passes a byte at least until none is left, and then more
-- steps change nothing. So wherever a scan has come to the end, it has all.
-- Rests on a notice lying before its end, within the log.
use mathlib.Core.Path.{◌≡◌, refl, sym, ap, ◌∙◌}
use mathlib.Core.Bool.{Bool, true, false}
use mathlib.Core.Logic.{◌⊎◌, inl, inr, ⊎_elim}
use mathlib.Core.List.{List}
use Prim.Native.Nat.{ℕ, zero, suc, ◌+◌, ◌≤◌, ◌<◌}
use native.Mathlib.Nat.{add-zero, add-suc}
use native.Mathlib.Omega.{arith}
use lib.ListN.{length}
use Rattle.rules.specs.Refusals.{pick}
use Rattle.notice.specs.declared.Notice.{Notice}
use Rattle.notice.specs.declared.Found.{Found}
use Rattle.notice.specs.declared.Found.TheVariants as found
use Rattle.notice.specs.Decode.{read_at}
use Rattle.notice.proofs.CaseSplits.{by_order}
use Rattle.notice.proofs.Cases.{at_end}
use Rattle.notice.proofs.NoticePlaces.{inside, ended}
use Rattle.std.specs.Prelude.{Option}
use Rattle.scanning.specs.declared.scan.Move.{Move}
use Rattle.scanning.specs.declared.scan.Move.TheVariants.{Take, Skip, Stop}
use Rattle.scanning.specs.Scan.{is_later, move_of, Scan, last_of, scan_after, move_in, scan_to, scan_of}

-- ---- what a move tells

-- a notice that is taken is one that the log has there, and its turn
pub record Takes (bs : List ℕ) (l : Option ℕ) (p : ℕ) (n : Notice) (e : ℕ) : Type 0 where
  pub found : read_at bs p ≡ found.At n e
  pub later : is_later l n.sequence ≡ true

pub takes : (bs : List ℕ) (l : Option ℕ) (p : ℕ) (n : Notice) (e : ℕ) → move_of l (read_at bs p) ≡ Take n e → Takes bs l p n e
takes bs l p n e is = go (read_at bs p) refl is
  where
    none : {A : Type 0} → Skip ≡ Take n e → A
    none q = absurd (let z : ◌≡◌ {A = ℕ} 0 1 = cc in omega arith)

    by : (m : Notice) (d : ℕ) (b : Bool) → read_at bs p ≡ found.At m d → is_later l m.sequence ≡ b
        → pick b (Take m d) Skip ≡ Take n e → Takes bs l p n e
    by m d true r t q =
        let same : m ≡ n = cc in
        record { found = cc; later = rw same at t }
    by m d false r t q = none q

    go : (f : Found) → read_at bs p ≡ f → move_of l f ≡ Take n e → Takes bs l p n e
    go (found.At m d) r q = by m d (is_later l m.sequence) r refl q
    go found.End r q = absurd (let z : ◌≡◌ {A = ℕ} 0 1 = cc in omega arith)
    go found.Malformed r q = none q

-- ---- where it stops, and where it skips

-- a scan stops only where no byte is left
pub stops : (bs : List ℕ) (l : Option ℕ) (p : ℕ) → move_of l (read_at bs p) ≡ Stop → length bs ≤ p
stops bs l p is = go (read_at bs p) refl is
  where
    by : (m : Notice) (d : ℕ) (b : Bool) → pick b (Take m d) Skip ≡ Stop → length bs ≤ p
    by m d true q = absurd (let z : ◌≡◌ {A = ℕ} 0 1 = cc in omega arith)
    by m d false q = absurd (let z : ◌≡◌ {A = ℕ} 0 1 = cc in omega arith)

    go : (f : Found) → read_at bs p ≡ f → move_of l f ≡ Stop → length bs ≤ p
    go (found.At m d) r q = by m d (is_later l m.sequence) q
    go found.End r q = ended bs p r
    go found.Malformed r q = absurd (let z : ◌≡◌ {A = ℕ} 0 1 = cc in omega arith)

-- and a byte is skipped only where one is left
pub skips : (bs : List ℕ) (l : Option ℕ) (p : ℕ) → move_of l (read_at bs p) ≡ Skip → p < length bs
skips bs l p is =
    by_order p (length bs) (λ lt. lt)
    (λ le.
    let none : move_of l (read_at bs p) ≡ Stop = ap (move_of l) (sym (at_end bs p le)) in
    absurd (let z : ◌≡◌ {A = ℕ} 0 1 = cc in omega arith))

-- ---- one step

-- a move passes a byte at least, within the log
pub record Onward (bs : List ℕ) (p q : ℕ) : Type 0 where
  pub ahead : p < q
  pub within : q ≤ length bs

module _ (bs : List ℕ) (s : Scan) where
  pub onward : s.place < length bs → Onward bs s.place (scan_after bs s (move_in bs s)).place
  onward h = go (move_in bs s) refl
    where
      go : (m : Move) → move_in bs s ≡ m → Onward bs s.place (scan_after bs s m).place
      go (Take n e) is =
          let i = inside bs s.place n e (takes bs (last_of s.taken) s.place n e is).found in
          record { ahead = omega (arith, i.ahead); within = i.within }
      go Skip is = record { ahead = omega arith; within = h }
      go Stop is = absurd (omega (arith, stops bs (last_of s.taken) s.place is))

  -- past the end a step changes nothing
  pub stays : length bs ≤ s.place → scan_after bs s (move_in bs s) ≡ s
  stays h = ap (λ f. scan_after bs s (move_of (last_of s.taken) f)) (sym (at_end bs s.place h))

-- ---- many steps

module _ (bs : List ℕ) where
  pub place_within : (n : ℕ) → (scan_to bs n).place ≤ length bs
  unfolding scan_to
  place_within zero = omega arith
  place_within (suc n) =
      by_order (scan_to bs n).place (length bs)
      (λ lt. (onward bs (scan_to bs n) lt).within)
      (λ le. rw (stays bs (scan_to bs n) le) (place_within n))

  -- once no byte is left, more steps change nothing
  pub still : (n d : ℕ) → length bs ≤ (scan_to bs n).place → scan_to bs (n + d) ≡ scan_to bs n
  unfolding scan_to
  still n zero h = rw add-zero refl
  still n (suc d) h =
      let before = still n d h in
      let past : length bs ≤ (scan_to bs (n + d)).place = rw before h in
      rw add-suc (stays bs (scan_to bs (n + d)) past ∙ before)

  -- n steps are n bytes ahead at least, or at the end
  ahead : (n : ℕ) → (n ≤ (scan_to bs n).place) ⊎ (length bs ≤ (scan_to bs n).place)
  unfolding scan_to
  ahead zero = inl (omega arith)
  ahead (suc n) =
      by_order (scan_to bs n).place (length bs)
      (λ lt.
      ⊎_elim (λ low. inl (omega (arith, (onward bs (scan_to bs n) lt).ahead)))
      (λ far. absurd (omega arith)) (ahead n))
      (λ le. inr (rw (stays bs (scan_to bs n) le) le))

  -- a step for each byte is enough
  pub at_last : (scan_of bs).place ≡ length bs
  at_last =
      let low = place_within (length bs) in
      ⊎_elim (λ far. omega arith) (λ far. omega arith) (ahead (length bs))

  -- wherever a scan has come to the end, it has all
  pub all_scanned : (n : ℕ) → length bs ≤ (scan_to bs n).place → scan_to bs n ≡ scan_of bs
  all_scanned n h =
      let far = still n (length bs) h in
      let over = still (length bs) n (rw at_last (omega arith)) in
      let swap : length bs + n ≡ n + length bs = omega arith in
      sym far ∙ rw swap at over
