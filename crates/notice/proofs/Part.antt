-- Which bytes matter at a place of a log: those from the place on, and of these no more than decide it. So a reading is that of the
-- log's part from the place on, and a log that comes in pieces reads as the whole.
-- Rests on bytes that agree reading alike, and on what is no beginning of a notice never becoming one (`notice_bytes` proofs/Decided).
use mathlib.Core.Path.{◌≡◌, sym, ap, ◌∙◌}
use mathlib.Core.Bool.{true, false}
use mathlib.Core.List.{List, ◌++◌}
use mathlib.Core.Logic.{⊎_elim}
use Prim.Native.Nat.{ℕ, ◌+◌, ◌-◌, ◌≤◌, ◌<◌, ◌^◌}
use native.Mathlib.Nat.{add_assoc, add-zero, zero-add}
use native.Mathlib.Omega.{arith}
use lib.ListN.{length, get_or, take, drop, length-append, length-drop, take-append-drop, get_or-append}
use lib.Seq.{get_or-append-add, length-take-le}
use Rattle.notice.specs.declared.Notice.{Notice}
use Rattle.notice.specs.declared.Found.{Found}
use Rattle.notice.specs.declared.Found.TheVariants as found
use Rattle.notice_fields.specs.Fields.{is_known, length_of}
use Rattle.notice_bytes.specs.Window.{is_beginning, is_decided}
use Rattle.notice.specs.Decode.{kind_at, is_whole, read_at, place_after, further}
use Rattle.rules.proofs.Tests.{decide}
use Rattle.notice_fields.proofs.Each.{by_order, same_order, false_true}
use Rattle.notice_bytes.proofs.Whole.{no_kind, no_room_lem}
use Rattle.notice_bytes.proofs.Decided.{none_there, no_beginning, GoesOn, never_whole}
use Rattle.notice.proofs.Cases.{at_end, at_none}
use Rattle.notice.proofs.NoticePlaces.{there, inside}
use Rattle.notice.proofs.Alike.{found_alike}

module _ (before bs : List ℕ) (p : ℕ) where
  -- the bytes that are there stand in the whole too
  goes_on : (after : List ℕ) → GoesOn bs p (before ++ (bs ++ after)) (length before + p)
  goes_on after j lt =
      rw (add_assoc (length before) p j)
      (sym (get_or-append-add before (bs ++ after) (p + j) 0 ∙ get_or-append bs after 0 (p + j) lt))

  longer : (after : List ℕ) → length (before ++ (bs ++ after)) ≡ length before + (length bs + length after)
  longer after = length-append before (bs ++ after) ∙ ap (λ (n : ℕ). length before + n) (length-append bs after)

  -- a notice of which all bytes are there, or none of its kind, reads alike in the whole
  by_kind : (after : List ℕ) → p + 3 < length bs
      → (is_known (kind_at bs p) ≡ true → p + length_of (kind_at bs p) ≤ length bs)
      → read_at (before ++ (bs ++ after)) (length before + p) ≡ further (length before) (read_at bs p)
  by_kind after there all =
      let cs = before ++ (bs ++ after) in
      let long = longer after in
      found_alike bs cs p (length before)
      (record {
        kind = goes_on after 3 there;
        room = λ known.
            same_order (p + length_of (kind_at bs p)) (length bs) (length before + p + length_of (kind_at bs p)) (length cs)
            (λ h. omega arith) (λ h. absurd (omega (arith, h, all known)));
        bytes = λ known j lt. goes_on after j (omega (arith, lt, all known));
      })
      (same_order (length bs) p (length cs) (length before + p) (λ h. omega arith) (λ h. omega arith))

  -- where no byte to come can make a notice, none is read in the whole
  by_none : (after : List ℕ) → is_beginning bs p ≡ false → is_whole bs p ≡ false
      → (p + 3 < length bs → length bs < p + length_of (kind_at bs p))
      → read_at (before ++ (bs ++ after)) (length before + p) ≡ further (length before) (read_at bs p)
  by_none after none part short =
      let cs = before ++ (bs ++ after) in
      let long = longer after in
      let here : p < length bs =
      by_order p (length bs) (λ lt. lt) (λ le. false_true (sym none ∙ sym (none_there bs p le))) in
      let whole = never_whole bs cs p (length before + p) (goes_on after) none short in
      sym (at_none cs (length before + p) (omega arith) whole) ∙ ap (further (length before)) (at_none bs p here part)

  -- where a place is decided, bytes before and after change nothing
  pub amid : (after : List ℕ) → is_decided bs p false ≡ true
      → read_at (before ++ (bs ++ after)) (length before + p) ≡ further (length before) (read_at bs p)
  amid after decided =
      let k = kind_at bs p in
      let none = no_beginning bs p decided in
      by_order (p + 3) (length bs)
      (λ there.
      by_order (length bs) (p + length_of k)
      (λ short.
      ⊎_elim (λ known. by_none after none (no_room_lem bs p short) (λ _. short))
      (λ unknown. by_kind after there (λ known. false_true (sym unknown ∙ known)))
      (decide (is_known k)))
      (λ all. by_kind after there (λ _. all)))
      (λ few. by_none after none (no_kind bs p few) (λ there. absurd (omega arith)))

  -- with nothing after, bytes before change nothing at any place
  pub at_last : read_at (before ++ bs) (length before + p) ≡ further (length before) (read_at bs p)
  at_last =
      let cs = before ++ bs in
      let long : length cs ≡ length before + length bs = length-append before bs in
      let at : (j : ℕ) → get_or bs (p + j) 0 ≡ get_or cs (length before + p + j) 0 =
      λ j. rw (add_assoc (length before) p j) (sym (get_or-append-add before bs (p + j) 0)) in
      found_alike bs cs p (length before)
      (record {
        kind = at 3;
        room = λ known.
            same_order (p + length_of (kind_at bs p)) (length bs) (length before + p + length_of (kind_at bs p)) (length cs)
            (λ h. omega arith) (λ h. omega arith);
        bytes = λ known j lt. at j;
      })
      (same_order (length bs) p (length cs) (length before + p) (λ h. omega arith) (λ h. omega arith))

-- reading a log at a place is reading its part from there on at the start, with the place after it counted in the log
pub of_its_part : (bs : List ℕ) (p : ℕ) → read_at bs p ≡ further p (read_at (drop p bs) 0)
of_its_part bs p =
    by_order p (length bs)
    (λ lt.
    let size : length (take p bs) ≡ p = length-take-le p bs (omega arith) in
    let read = at_last (take p bs) (drop p bs) 0 in
    rw (take-append-drop, size, add-zero) at read)
    (λ le.
    let none : length (drop p bs) ≤ 0 = rw length-drop (omega arith) in
    sym (at_end bs p le) ∙ ap (further p) (at_end (drop p bs) 0 none))

-- the same of an answer that a part gave, with the place counted in the log
pub from_part : (bs part : List ℕ) (p : ℕ) (first r : Found) → part ≡ drop p bs → first ≡ read_at part 0
    → r ≡ further p first → r ≡ read_at bs p
from_part bs part p first r is-part is on =
    on ∙ ap (further p) (is ∙ ap (λ (cs : List ℕ). read_at cs 0) is-part) ∙ sym (of_its_part bs p)

-- and the place so counted is a number of the machine, as the log's size is
pub part_fits : (bs part : List ℕ) (p : ℕ) (first : Found) → part ≡ drop p bs → first ≡ read_at part 0 → p < 2 ^ 64
    → length bs < 2 ^ 64 → p + place_after first 0 < 2 ^ 64
part_fits bs part p first is-part is fits size = go first is
  where
    go : (f : Found) → f ≡ read_at part 0 → p + place_after f 0 < 2 ^ 64
    go (found.At n e) is =
        let i = inside part 0 n e (sym is) in
        let left : length part ≡ length bs - p = ap length is-part ∙ length-drop p bs in
        omega (arith, i.ahead, i.within, left, size)
    go found.End is = rw (add-zero p) fits
    go found.Malformed is = rw (add-zero p) fits

-- a whole notice stays what it is, whatever bytes follow
pub whole_stays : (bs after : List ℕ) (p : ℕ) (n : Notice) (e : ℕ) → read_at bs p ≡ found.At n e
    → read_at (bs ++ after) p ≡ found.At n e
whole_stays bs after p n e is =
    let t = there bs p n e is in
    let i = inside bs p n e is in
    let long : length (bs ++ after) ≡ length bs + length after = length-append bs after in
    let at : (j : ℕ) → p + j < length bs → get_or bs (p + j) 0 ≡ get_or (bs ++ after) (0 + p + j) 0 =
    λ j lt. rw zero-add (sym (get_or-append bs after 0 (p + j) lt)) in
    let same = found_alike bs (bs ++ after) p 0
    (record {
      kind = at 3 (omega (arith, i.ahead, i.within));
      room = λ known.
          same_order (p + length_of (kind_at bs p)) (length bs) (0 + p + length_of (kind_at bs p)) (length (bs ++ after))
          (λ h. omega arith) (λ h. absurd (omega (arith, h, t.end, i.within)));
      bytes = λ known j lt. at j (omega (arith, lt, t.end, i.within));
    })
    (same_order (length bs) p (length (bs ++ after)) (0 + p) (λ h. absurd (omega (arith, h, i.ahead, i.within)))
    (λ h. omega arith)) in
    rw (zero-add p) at same ∙ ap (further 0) is ∙ ap (found.At n) (zero-add e)
