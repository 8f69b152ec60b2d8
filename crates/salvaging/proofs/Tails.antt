-- Undamaged notices come out: those of a log whose sequences rise all do, and behind any damaged bytes those of an undamaged tail
-- do, provided that nothing taken from before it runs over its start or has a sequence as large as theirs.
-- Rests on a scan going through its log, and on bytes before a place not mattering there.
use mathlib.Core.Path.{◌≡◌, refl, sym, ap, ◌∙◌}
use mathlib.Core.Bool.{true}
use mathlib.Core.Logic.{◌⊎◌, inl, inr, ⊎_elim}
use mathlib.Core.List.{List, [], ◌∷◌, ◌++◌, append-nil, append_assoc, reverse_aux}
use Prim.Native.Nat.{ℕ, zero, suc, ◌+◌, ◌≤◌, ◌<◌}
use native.Mathlib.Nat.{add-zero}
use native.Mathlib.Omega.{arith}
use borrow.Author.Tests.{lt-ltb}
use lib.ListN.{length, drop, length-append, drop_of_length-le}
use lib.Seq.{slice}
use Rattle.notice.specs.declared.Notice.{Notice}
use Rattle.notice.specs.declared.Found.TheVariants as found
use Rattle.notice.specs.Decode.{read_at, further}
use Rattle.notice.specs.Log.{log_of, Gives, ends, next, AllFit}
use Rattle.notice.proofs.CaseSplits.{by_order}
use Rattle.notice.proofs.NoticePlaces.{inside, ended}
use Rattle.notice.proofs.Part.{at_last}
use Rattle.notice.proofs.RoundTrip.{log_gives}
use Rattle.scanning.specs.declared.scan.Move.{Move}
use Rattle.scanning.specs.declared.scan.Move.TheVariants.{Take, Skip, Stop}
use Rattle.scanning.specs.Scan.{is_later, Scan, last_of, scan_after, move_in, scan_to}
use Rattle.salvaging.specs.Claims.{Below, Rising, Clear, ComeOut, KeptWhole}
use Rattle.scanning.proofs.Moves.{in_turn}
use Rattle.salvaging.proofs.Parts.{part_rest}
use Rattle.scanning.proofs.ScanThrough as through

-- ---- notices in turn

-- the last taken notice, if any, has a sequence smaller than each of these
abbrev Low : List Notice → List Notice → Type 0
Low [] ns = Unit {0}
Low (m ∷ ms) ns = Below m.sequence ns

later : (taken : List Notice) (n : Notice) (ns : List Notice) → Low taken (n ∷ ns)
    → is_later (last_of taken) n.sequence ≡ true
later [] n ns low = refl
later (m ∷ ms) n ns low = lt-ltb _ _ low.0

module _ (bs : List ℕ) where
  -- what a scan has taken when it comes through these notices from place p on
  record Came (s : Scan) (p : ℕ) (ns : List Notice) (t : Scan) : Type 0 where
    pub place_is : t.place ≡ length bs
    pub taken_is : t.taken ≡ reverse_aux ns s.taken
    pub kept_is : t.kept ≡ s.kept ++ drop p bs
    pub skipped_is : t.skipped ≡ s.skipped

  came_on : (s : Scan) (n : Notice) (e : ℕ) (ns : List Notice) (t : Scan) → s.place ≤ e → e ≤ length bs
      → Came (scan_after bs s (Take n e)) e ns t → Came s s.place (n ∷ ns) t
  came_on s n e ns t low within c =
      record {
        place_is = c.place_is;
        taken_is = c.taken_is;
        kept_is = c.kept_is
            ∙ append_assoc s.kept (slice s.place e bs) (drop e bs)
            ∙ ap (λ x. s.kept ++ x) (part_rest s.place e bs low within);
        skipped_is = c.skipped_is;
      }

  comes : (k p : ℕ) (ns : List Notice) → (scan_to bs k).place ≡ p → Gives bs p ns → Low (scan_to bs k).taken ns
      → Rising ns → Came (scan_to bs k) (scan_to bs k).place ns (scan_to bs (k + length ns))
  unfolding scan_to
  comes k p [] at (ends is) low rising =
      let past = ended bs p is in
      let within = through.place_within bs k in
      let all : (scan_to bs k).place ≡ length bs = omega arith in
      let end : length bs ≤ (scan_to bs k).place = omega arith in
      let none : drop (scan_to bs k).place bs ≡ [] = drop_of_length-le bs end in
      rw add-zero
      (record { place_is = all; taken_is = refl; kept_is = rw (none, append-nil) refl; skipped_is = refl })
  comes k p (n ∷ ns) at (next {e = e} is more) low rising =
      let s = scan_to bs k in
      let here : read_at bs s.place ≡ found.At n e = rw at is in
      let i = inside bs s.place n e here in
      let move : move_in bs s ≡ Take n e = sym (in_turn _ _ n e here (later s.taken n ns low)) in
      let step : scan_to bs (suc k) ≡ scan_after bs s (Take n e) = ap (scan_after bs s) move in
      let low' : Low (scan_to bs (suc k)).taken ns = rw step rising.0 in
      let rest = comes (suc k) e ns (ap (λ (t : Scan). t.place) step) more low' rising.1 in
      let far : k + suc (length ns) ≡ suc k + length ns = omega arith in
      rw far (came_on s n e ns _ (omega (arith, i.ahead)) i.within (rw step at rest))

  -- so they come out
  come_out : (k p : ℕ) (ns : List Notice) → (scan_to bs k).place ≡ p → Gives bs p ns → Low (scan_to bs k).taken ns
      → Rising ns → ComeOut bs p ns
  come_out k p ns at gives low rising =
      let c = comes k p ns at gives low rising in
      let all = through.all_scanned bs (k + length ns) (omega (arith, c.place_is)) in
      record {
        steps = k;
        there = at;
        taken_is = rw all at c.taken_is;
        kept_is = rw (all, at) at c.kept_is;
        skipped_is = rw all at c.skipped_is;
      }

-- ---- a log whose sequences rise

-- it comes out whole
pub whole : (bs : List ℕ) (ns : List Notice) → Gives bs 0 ns → Rising ns → KeptWhole bs ns
unfolding scan_to
whole bs ns gives rising =
    let c = comes bs 0 0 ns refl gives tt rising in
    let all = through.all_scanned bs (0 + length ns) (omega (arith, c.place_is)) in
    record {
      taken_is = rw all at c.taken_is;
      kept_is = rw all at c.kept_is;
      skipped_is = rw all at c.skipped_is;
    }

-- ---- an undamaged tail

-- a log gives the notices of its tail from where that starts
behind : (pre tail : List ℕ) (p : ℕ) (ns : List Notice) → Gives tail p ns → Gives (pre ++ tail) (length pre + p) ns
behind pre tail p [] (ends is) = ends (at_last pre tail p ∙ ap (further (length pre)) is)
behind pre tail p (n ∷ ns) (next {e = e} is more) =
    next (at_last pre tail p ∙ ap (further (length pre)) is) (behind pre tail e ns more)

module _ (bs : List ℕ) (m : ℕ) (ns : List Notice) (clear : Clear bs m ns) where
  -- on its way to place m: only smaller sequences were taken
  record Going (s : Scan) : Type 0 where
    pub yet : s.place < m
    pub low : Low s.taken ns

  -- at place m itself
  record Hit : Type 0 where
    pub steps : ℕ
    pub there : (scan_to bs steps).place ≡ m
    pub low : Low (scan_to bs steps).taken ns

  hits : (k : ℕ) → (scan_to bs k).place ≤ m → Low (scan_to bs k).taken ns → Going (scan_to bs k) ⊎ Hit
  hits k le low =
      by_order (scan_to bs k).place m (λ lt. inl (record { yet = lt; low = low }))
      (λ ge. inr (record { steps = k; there = omega arith; low = low }))

  one_more : (k : ℕ) → Going (scan_to bs k) → Going (scan_to bs (suc k)) ⊎ Hit
  unfolding scan_to
  one_more k g = go (move_in bs (scan_to bs k)) refl
    where
      go : (v : Move) → move_in bs (scan_to bs k) ≡ v → Going (scan_to bs (suc k)) ⊎ Hit
      go (Take n e) is =
          let c = clear k n e g.yet is in
          hits (suc k) (rw is c.0) (rw is c.1)
      go Skip is = hits (suc k) (rw is g.yet) (rw is g.low)
      go Stop is = hits (suc k) (rw is (omega (arith, g.yet))) (rw is g.low)

  to : (k : ℕ) → Going (scan_to bs k) ⊎ Hit
  unfolding scan_to
  to zero = hits zero (omega arith) tt
  to (suc k) = ⊎_elim (one_more k) inr (to k)

  hit : m ≤ length bs → Hit
  hit within = ⊎_elim (λ g. absurd (omega (arith, g.yet, through.at_last bs))) (λ h. h) (to (length bs))

-- behind any bytes, the notices of a tail whose sequences rise come out, all of them and in order, provided that
-- nothing taken from before it runs over its start or has a sequence as large as theirs
pub tail_comes_out : (pre tail : List ℕ) (ns : List Notice) → Gives tail 0 ns → Rising ns
    → Clear (pre ++ tail) (length pre) ns → ComeOut (pre ++ tail) (length pre) ns
tail_comes_out pre tail ns gives rising clear =
    let bs = pre ++ tail in
    let h = hit bs (length pre) ns clear (omega (arith, length-append pre tail)) in
    let there = rw add-zero at (behind pre tail 0 ns gives) in
    come_out bs h.steps (length pre) ns h.there there h.low rising

-- ---- the same of notices as they are written

pub written_whole : (ns : List Notice) → AllFit ns → Rising ns → KeptWhole (log_of ns) ns
written_whole ns fit rising = whole (log_of ns) ns (log_gives ns fit) rising

pub written_tail : (pre : List ℕ) (ns : List Notice) → AllFit ns → Rising ns → Clear (pre ++ log_of ns) (length pre) ns
    → ComeOut (pre ++ log_of ns) (length pre) ns
written_tail pre ns fit rising clear = tail_comes_out pre (log_of ns) ns (log_gives ns fit) rising clear
