-- Laws of a page: what is written in turn is written as one, the row keeps its length, and where there is room the
-- bytes stand in the row one behind the other.
use Prim.Native.Nat.{ℕ, suc, ◌+◌, ◌-◌, ◌<◌, ◌≤◌, min}
use mathlib.Core.Path.{◌≡◌, refl, sym, ◌∙◌, ap, subst}
use mathlib.Core.Bool.{Bool, true, false}
use mathlib.Core.List.{List, [], ◌∷◌, ◌++◌}
use native.Mathlib.Omega.{arith}
use native.Mathlib.Numerals.{add-one}
use borrow.Author.Tests.{lt-ltb, le-ltb, ltb-true, leb-true, leb-false}
use lib.ListN.{length, take, drop, set, length-set, length-append, drop_of_length-le}
use lib.Seq.{sets, sets-eq, take-append_seam, take_all, length-take-le}
use borrow.Rule.Slice.PartMut.{put_mid}
use Rattle.std.proofs.lemmas.Slice.{put_mid-paste}
use Rattle.std.proofs.lemmas.List.{take-append-drop}
use lib.Dec.{ltb, leb}
use Rattle.rules.specs.Refusals.{pick}
use Rattle.text.specs.Output.{Page, page, put, puts}
use Rattle.text.specs.declared.page.Page.{Page as Sheet}
use Rattle.text.specs.Pages.{Puts}

-- the two ways out of `put_byte`
pub put_in : (row : List ℕ) (at b : ℕ) → at < length row → page (set row at b) (at + 1) ≡ put (page row at) b
unfolding put
put_in row at b h = rw (lt-ltb _ _ h)

pub put_out : (row : List ℕ) (at b : ℕ) → length row ≤ at → page row at ≡ put (page row at) b
unfolding put
put_out row at b h = rw (le-ltb _ _ h)

pick_length : (t : Bool) (p q : Page) → length p.row ≡ length q.row → length (pick t p q).row ≡ length q.row
pick_length true p q e = e
pick_length false p q e = refl

pub put_length : (p : Page) (b : ℕ) → length (put p b).row ≡ length p.row
unfolding put
put_length p b =
    pick_length (ltb p.at (length p.row)) (page (set p.row p.at b) (p.at + 1)) p
    (length-set p.row p.at b)

-- the row keeps its length
pub puts_length : (s : List ℕ) (p : Page) → length (puts p s).row ≡ length p.row
unfolding puts
puts_length [] p = refl
puts_length (b ∷ s) p = puts_length s (put p b) ∙ put_length p b

-- so it does where a text was written behind what kept it
pub same_room : (q : Page) (t : List ℕ) {r : Page} {n : ℕ} → r ≡ puts q t → length q.row ≡ n → length r.row ≡ n
same_room q t e h = ap (λ (p : Page). length p.row) e ∙ puts_length t q ∙ h

-- what is written in turn is written as one
pub puts_append : (s t : List ℕ) (p : Page) → puts p (s ++ t) ≡ puts (puts p s) t
unfolding puts
puts_append [] t p = refl
puts_append (b ∷ s) t p = puts_append s t (put p b)

pub puts_then : (p : Page) {q r : Page} (s t : List ℕ) → q ≡ puts p s → r ≡ puts q t → r ≡ puts p (s ++ t)
puts_then p {q} {r} s t e f = f ∙ ap (λ (o : Page). puts o t) e ∙ sym (puts_append s t p)

-- behind all bytes nothing is left to write
pub puts_end : (p : Page) (s : List ℕ) (i : ℕ) → length s ≤ i → p ≡ puts p (drop i s)
unfolding puts
puts_end p s i h = rw (drop_of_length-le s h)

-- where there is no room left, nothing more is written
pub puts_full : (s row : List ℕ) (at : ℕ) → length row ≤ at → page row at ≡ puts (page row at) s
unfolding puts
puts_full [] row at h = refl
puts_full (b ∷ s) row at h = puts_full s row at h ∙ ap (λ (p : Page). puts p s) (put_out row at b h)

-- so it is behind as many bytes as have room
pub puts_left : (s row : List ℕ) (at n : ℕ) → n ≡ min (length row - at) (length s) → page row (at + n) ≡ puts (page row (at + n)) (drop n s)
puts_left s row at n e = go (leb (length s) n) refl
  where
    go : (t : Bool) → leb (length s) n ≡ t → page row (at + n) ≡ puts (page row (at + n)) (drop n s)
    go true all = puts_end (page row (at + n)) s n (leb-true (length s) n all)
    go false some = puts_full (drop n s) row (at + n) (omega (arith, e, leb-false (length s) n some))

-- where there is room
puts_sets : (s : List ℕ) (row : List ℕ) (at : ℕ) → at + length s ≤ length row
    → puts (page row at) s ≡ page (sets row at s) (at + length s)
unfolding puts
puts_sets [] row at h = ap (page row) (omega arith)
puts_sets (b ∷ s) row at h =
    let here : at < length row = omega arith in
    let kept : length (set row at b) ≡ length row = length-set row at b in
    let rest : (at + 1) + length s ≤ length (set row at b) = omega arith in
    let step : suc at + length s ≡ at + suc (length s) = omega arith in
    ap (λ (p : Page). puts p s) (sym (put_in row at b here))
    ∙ puts_sets s (set row at b) (at + 1) rest
    ∙ rw (add-one, step)

-- where there is room, the row is what it was with the bytes at the place, and the place is behind them
pub puts_fits : (s : List ℕ) (row : List ℕ) (at : ℕ) → at + length s ≤ length row
    → puts (page row at) s ≡ page (take at row ++ s ++ drop (at + length s) row) (at + length s)
puts_fits s row at h = puts_sets s row at h ∙ ap (λ (r : List ℕ). page r (at + length s)) (sets-eq s row at h)

-- bytes laid at once, as many as have room, are what is written byte by byte
pub puts_room : (s row laid : List ℕ) (at n k : ℕ) → at ≤ length row → n ≡ min (length s) (length row - at) → laid ≡ take n s → n ≡ k
    → page (put_mid at k row laid) (at + n) ≡ puts (page row at) s
puts_room s row laid at n k h e is m =
    let t = take n s in
    let size : length t ≡ n = length-take-le n s (omega arith) in
    let end : at + n ≡ at + length t = omega arith in
    let row' = put_mid at k row laid in
    let pasted : row' ≡ take at row ++ t ++ drop (at + length t) row =
    put_mid-paste at k row laid t n is m (omega arith)
    ∙ ap (λ (r : List ℕ). take at row ++ r ++ drop (at + n) row) (take_all n t (omega arith))
    ∙ ap (λ (i : ℕ). take at row ++ t ++ drop i row) end in
    let head : page row' (at + n) ≡ puts (page row at) t =
    ap (λ (r : List ℕ). page r (at + n)) pasted
    ∙ ap (λ (i : ℕ). page (take at row ++ t ++ drop (at + length t) row) (at + i)) (sym size)
    ∙ sym (puts_fits t row at (omega arith)) in
    let kept : length row' ≡ length row = ap (λ (p : Page). length p.row) head ∙ puts_length t (page row at) in
    puts_left s row' at n (rw kept (omega arith))
    ∙ ap (λ (p : Page). puts p (drop n s)) head
    ∙ sym (puts_append t (drop n s) (page row at))
    ∙ ap (puts (page row at)) (take-append-drop n s)

-- the place never passes the row's end
put_low : (p : Page) (b : ℕ) → p.at ≤ length p.row → (put p b).at ≤ length p.row
unfolding put
put_low p b h = go (ltb p.at (length p.row)) refl
  where
    go : (t : Bool) → ltb p.at (length p.row) ≡ t
        → (pick t (page (set p.row p.at b) (p.at + 1)) p).at ≤ length p.row
    go true e = omega (arith, ltb-true p.at (length p.row) e)
    go false e = h

pub put_within : (p : Page) (b : ℕ) → p.at ≤ length p.row → (put p b).at ≤ length (put p b).row
put_within p b h = rw (put_length p b) (put_low p b h)

pub puts_low : (s : List ℕ) (p : Page) → p.at ≤ length p.row → (puts p s).at ≤ length p.row
unfolding puts
puts_low [] p h = h
puts_low (b ∷ s) p h =
    let size = put_length p b in
    omega (arith, puts_low s (put p b) (put_within p b h))

-- what was put at the start of a row that has room for it is what stands there
pub record Stands (s row : List ℕ) (size : ℕ) : Type 0 where
  pub whole : take size row ≡ s
  pub within : size ≤ length row

pub stands : (s room after : List ℕ) (size : ℕ) → page after size ≡ puts (page room 0) s → length s ≤ length room
    → Stands s after size
stands s room after size is fits =
    let put : page after size ≡ page (s ++ drop (length s) room) (length s) =
    is ∙ puts_fits s room 0 (omega arith) ∙ ap (λ (n : ℕ). page (s ++ drop n room) n) (omega arith) in
    let row : after ≡ s ++ drop (length s) room = ap (λ (p : Page). p.row) put in
    let many : size ≡ length s = ap (λ (p : Page). p.at) put in
    record {
      whole = rw (row, many) (take-append_seam s (drop (length s) room));
      within = rw (row, many) (omega (arith, length-append s (drop (length s) room)));
    }

-- one text behind another on a page, and none
pub then : {p q r : Sheet} {s t : List ℕ} → Puts p s q → Puts q t r → Puts p (s ++ t) r
then {s = s} {t = t} a b = record { same_row = b.same_row ∙ a.same_row; written = puts_then _ s t a.written b.written }

pub nothing : {p : Sheet} → Puts p [] p
unfolding puts
nothing = record { same_row = refl; written = refl }

-- the same by another name of the text
pub told_as : {p q : Sheet} {s t : List ℕ} → s ≡ t → Puts p s q → Puts p t q
told_as {p = p} {q = q} e a = subst (λ (l : List ℕ). Puts p l q) e a
