-- A log read from its start: the place stays within it, more reads change nothing once no notice is found, and a read for each
-- byte is enough. So a log has its notices and one place where its reading stops, and written notices come back, all of them.
-- Rests on a notice lying before its end, within the log, and on the round trip of logs.
use mathlib.Core.Path.{◌≡◌, refl, sym, ap, ◌∙◌}
use mathlib.Core.Bool.{Bool, true, false}
use mathlib.Core.Logic.{◌⊎◌, inl, inr, ⊎_elim}
use mathlib.Core.List.{List, [], ◌∷◌, reverse, reverse_aux}
use Prim.Native.Nat.{ℕ, zero, suc, ◌+◌, ◌≤◌}
use native.Mathlib.Nat.{add-zero, add-suc}
use native.Mathlib.Omega.{arith}
use lib.Dec.{leb}
use lib.ListN.{length}
use Rattle.rules.specs.Refusals.{pick}
use Rattle.notice.specs.declared.Notice.{Notice}
use Rattle.notice.specs.declared.Found.{Found}
use Rattle.notice.specs.declared.Found.TheVariants as found
use Rattle.notice.specs.Decode.{read_at, place_after, is_whole}
use Rattle.notice.specs.Log.{log_of, Gives, ends, next, AllFit}
use Rattle.notice.specs.Log.{place_to, is_notice, with_found, notices_to, notices_of, stop_of, is_whole_log}
use Rattle.notice_fields.proofs.Each.{false_true}
use Rattle.notice.proofs.Cases.{at_end}
use Rattle.notice.proofs.NoticePlaces.{inside}
use Rattle.notice.proofs.RoundTrip.{log_gives}

-- ---- one read

after_within : (bs : List ℕ) (p : ℕ) → p ≤ length bs → place_after (read_at bs p) p ≤ length bs
after_within bs p h = go (read_at bs p) refl
  where
    go : (f : Found) → read_at bs p ≡ f → place_after f p ≤ length bs
    go (found.At n e) is = (inside bs p n e is).within
    go found.End is = h
    go found.Malformed is = h

-- a read that finds no notice leaves place and notices as they were
pub no_notice : (f : Found) (p : ℕ) (ns : List Notice) → is_notice f ≡ false → (place_after f p ≡ p) × (with_found f ns ≡ ns)
no_notice (found.At n e) p ns h = false_true (sym h)
no_notice found.End p ns h = (refl, refl)
no_notice found.Malformed p ns h = (refl, refl)

-- ---- many reads

module _ (bs : List ℕ) where
  -- the place is within the log
  pub place_within : (n : ℕ) → place_to bs n ≤ length bs
  unfolding place_to
  place_within zero = omega arith
  place_within (suc n) = after_within bs (place_to bs n) (place_within n)

  -- the next read finds no notice
  abbrev pub Stopped : ℕ → Type 0
  Stopped n = is_notice (read_at bs (place_to bs n)) ≡ false

  -- then more reads change nothing
  pub still : (n d : ℕ) → Stopped n → (place_to bs (n + d) ≡ place_to bs n) × (notices_to bs (n + d) ≡ notices_to bs n)
  unfolding place_to notices_to
  still n zero h = rw add-zero (refl, refl)
  still n (suc d) h =
      let before = still n d h in
      let none : is_notice (read_at bs (place_to bs (n + d))) ≡ false = rw before.0 h in
      let same = no_notice (read_at bs (place_to bs (n + d))) (place_to bs (n + d)) (notices_to bs (n + d)) none in
      rw add-suc (same.0 ∙ before.0, same.1 ∙ before.1)

  pub stopped_on : (n : ℕ) → Stopped n → Stopped (suc n)
  unfolding place_to
  stopped_on n h = rw (no_notice (read_at bs (place_to bs n)) (place_to bs n) [] h).0 h

  -- n reads are n bytes ahead at least, or have stopped
  ahead : (n : ℕ) → (n ≤ place_to bs n) ⊎ Stopped n
  unfolding place_to
  ahead zero = inl (omega arith)
  ahead (suc n) = ⊎_elim (λ low. go low (read_at bs (place_to bs n)) refl) (λ h. inr (stopped_on n h)) (ahead n)
    where
      go : n ≤ place_to bs n → (f : Found) → read_at bs (place_to bs n) ≡ f
          → (suc n ≤ place_to bs (suc n)) ⊎ Stopped (suc n)
      go low (found.At m e) is =
          let far = (inside bs (place_to bs n) m e is).ahead in
          let at : place_to bs (suc n) ≡ e = ap (λ f. place_after f (place_to bs n)) is in
          inl (omega arith)
      go low found.End is = inr (stopped_on n (ap is_notice is))
      go low found.Malformed is = inr (stopped_on n (ap is_notice is))

  -- a read for each byte is enough
  pub enough : Stopped (length bs)
  enough = ⊎_elim (λ far. ap is_notice (sym (at_end bs (stop_of bs) far))) (λ h. h) (ahead (length bs))

  pub no_more : (d : ℕ) → (place_to bs (length bs + d) ≡ stop_of bs) × (notices_to bs (length bs + d) ≡ notices_of bs)
  no_more d = still (length bs) d enough

  -- wherever reading has stopped, it has all
  pub all_read : (n : ℕ) → Stopped n → (place_to bs n ≡ stop_of bs) × (notices_to bs n ≡ notices_of bs)
  all_read n h =
      let far = still n (length bs) h in
      let over = no_more n in
      let swap : length bs + n ≡ n + length bs = omega arith in
      (sym far.0 ∙ rw swap at over.0, sym far.1 ∙ rw swap at over.1)

  -- the answer there: "end" for a whole log, otherwise 11
  pub last_read : read_at bs (stop_of bs) ≡ pick (is_whole_log bs) found.End found.Malformed
  unfolding read_at
  last_read = go (leb (length bs) (stop_of bs)) (is_whole bs (stop_of bs)) _ _ enough
    where
      go : (a w : Bool) (n : Notice) (e : ℕ)
          → is_notice (pick a found.End (pick w (found.At n e) found.Malformed)) ≡ false
          → pick a found.End (pick w (found.At n e) found.Malformed) ≡ pick a found.End found.Malformed
      go true w n e h = refl
      go false true n e h = false_true (sym h)
      go false false n e h = refl

  -- ---- notices that a log gives in order

  pub record Given (k : ℕ) (ns : List Notice) : Type 0 where
    pub notices : notices_to bs (k + length ns) ≡ reverse_aux ns (notices_to bs k)
    pub at_last : read_at bs (place_to bs (k + length ns)) ≡ found.End

  given : (k p : ℕ) (ns : List Notice) → place_to bs k ≡ p → Gives bs p ns → Given k ns
  unfolding place_to notices_to
  given k p [] at (ends is) = record { notices = rw add-zero refl; at_last = rw (add-zero, at) is }
  given k p (n ∷ ns) at (next {e = e} is more) =
      let here : read_at bs (place_to bs k) ≡ found.At n e = rw at is in
      let on : place_to bs (suc k) ≡ e = ap (λ f. place_after f (place_to bs k)) here in
      let one : notices_to bs (suc k) ≡ n ∷ notices_to bs k = ap (λ f. with_found f (notices_to bs k)) here in
      let rest = given (suc k) e ns on more in
      let far : k + suc (length ns) ≡ suc k + length ns = omega arith in
      record { notices = rw far (rest.notices ∙ ap (reverse_aux ns) one); at_last = rw far rest.at_last }

  pub gives_all : (ns : List Notice) → Gives bs 0 ns → (notices_of bs ≡ reverse ns) × (is_whole_log bs ≡ true)
  unfolding place_to notices_to
  gives_all ns g =
      let all = given 0 0 ns refl g in
      let stopped : Stopped (0 + length ns) = ap is_notice all.at_last in
      let read = all_read (0 + length ns) stopped in
      let end = sym last_read ∙ ap (read_at bs) (sym read.0) ∙ all.at_last in
      (sym read.1 ∙ all.notices, whole (is_whole_log bs) end)
    where
      whole : (b : Bool) → pick b found.End found.Malformed ≡ found.End → b ≡ true
      whole true e = refl
      whole false e = absurd (let z : ◌≡◌ {A = ℕ} 0 1 = cc in omega arith)

-- a log of written notices gives exactly them, and is whole
pub log_read : (ns : List Notice) → AllFit ns → (notices_of (log_of ns) ≡ reverse ns) × (is_whole_log (log_of ns) ≡ true)
log_read ns fit = gives_all (log_of ns) ns (log_gives ns fit)
