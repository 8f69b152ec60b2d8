-- `packed` and `unpacked` are each other's inverse: the agent of an agent's row is that agent, and the row of a sound row's
-- agent is that row. Rests on the laws of lists.
use mathlib.Core.Path.{◌≡◌, refl, sym, ap, ap₂, ◌∙◌}
use mathlib.Core.Bool.{true}
use mathlib.Core.List.{List, [], ◌∷◌, ◌++◌, append_assoc}
use Prim.Native.Nat.{ℕ, zero, suc, ◌+◌, ◌*◌, ◌≤◌, ◌<◌}
use native.Mathlib.Omega.{arith}
use native.Mathlib.Nat.{add-zero, add-suc, add_assoc}
use lib.Dec.{ltb, eqb}
use lib.ListN.{length, get_or, take, drop, length-append, length-drop}
use lib.Seq.{drop-cons, take-add, drop-drop, take_all, take_at, drop_at, drop-append-add, get_or-append-add, length-take-le}
use borrow.Author.Tests.{eqb-true}
use Rattle.rules.specs.Limits.{count_places, lane_places, titles_max}
use Rattle.rules.proofs.Tests.{both_l}
use Rattle.story.specs.declared.Title.{Title}
use Rattle.story.specs.declared.State.{State}
use Rattle.story.specs.Kept.{no_title, title_at}
use Rattle.agent.specs.declared.Agent.{Agent}
use Rattle.agent_rows.specs.Layout.{row_version, sequence_end, version_at, sequence_at, pool_at, last_at, titles_at, title_places, title_place, row_length}
use Rattle.agent_rows.specs.Layout.{ends_at, drops_at, owed_at}
use Rattle.agent_rows.specs.Packed.{packed_title, packed_titles, packed, title_from, titles_from, unpacked, row_sound, WholeTitle}
use Rattle.agent_rows.specs.Packed.{WholeAgent}

-- ---- the title of an id

-- the i-th of the titles from a place on
pub title_from_lem : (r : List ℕ) (at n i : ℕ) → i < n → get_or (titles_from r at n) i no_title ≡ title_from r (at + i * title_places)
unfolding titles_from
title_from_lem r at zero i l = absurd (omega arith)
title_from_lem r at (suc n) zero l = ap (title_from r) (sym (add-zero at))
title_from_lem r at (suc n) (suc i) l =
    title_from_lem r (at + title_places) n i (omega arith) ∙ ap (title_from r) further
  where
    further : at + title_places + i * title_places ≡ at + suc i * title_places
    further = omega arith

pub title_at_lem : (r : List ℕ) (i : ℕ) → i < titles_max → title_at (unpacked r).state i ≡ title_from r (title_place i)
title_at_lem r i l = title_from_lem r titles_at titles_max i l

pub titles_length : (r : List ℕ) (at n : ℕ) → length (titles_from r at n) ≡ n
unfolding titles_from
titles_length r at zero = refl
titles_length r at (suc n) = ap suc (titles_length r (at + title_places) n)

-- ---- the titles of a row are whole

part_length : (r : List ℕ) (at n : ℕ) → at + n ≤ length r → length (take n (drop at r)) ≡ n
part_length r at n l = length-take-le n (drop at r) (omega (arith, length-drop at r))

pub whole_from : (r : List ℕ) (at : ℕ) → at + title_places ≤ length r → WholeTitle (title_from r at)
whole_from r at l =
    record {
      ends = part_length r (at + ends_at) count_places (omega arith);
      dropped = part_length r (at + drops_at) lane_places (omega arith);
      owed = part_length r (at + owed_at) lane_places (omega arith);
    }

pub whole_unpacked : (r : List ℕ) → length r ≡ row_length → WholeAgent (unpacked r)
whole_unpacked r l =
    record
    { titles = titles_length r titles_at titles_max; each = λ i b. rw (title_at_lem r i b) (whole_from r (title_place i) (omega arith)) }

-- ---- the row of a sound row's agent

-- n numbers of a row, from place at + k on
abbrev run : List ℕ → ℕ → ℕ → ℕ → List ℕ
run r at k zero = []
run r at k (suc n) = get_or r (at + k) 0 ∷ run r at (suc k) n

run_is : (r : List ℕ) (at k n : ℕ) → at + k + n ≤ length r → run r at k n ≡ take n (drop (at + k) r)
run_is r at k zero l = refl
run_is r at k (suc n) l =
    let rest : run r at (suc k) n ≡ take n (drop (suc (at + k)) r) = rw (add-suc at k) at (run_is r at (suc k) n (omega arith)) in
    rw (rest, drop-cons r (at + k) 0 (omega arith)) refl

-- two neighbouring parts are one
joined : (r : List ℕ) (at n m : ℕ) → take n (drop at r) ++ take m (drop (at + n) r) ≡ take (n + m) (drop at r)
joined r at n m = sym (take-add n m (drop at r) ∙ ap (λ (l : List ℕ). take n (drop at r) ++ take m l) (drop-drop n at r))

-- and of a part of a title's numbers, from place at + k on
part : (r : List ℕ) (at k n m : ℕ) (rest : List ℕ) → rest ≡ take m (drop (at + (k + n)) r) →
    take n (drop (at + k) r) ++ rest ≡ take (n + m) (drop (at + k) r)
part r at k n m rest e = rw (e, ← add_assoc at k n) (joined r (at + k) n m)

pub title_repacked : (r : List ℕ) (at : ℕ) → at + title_places ≤ length r → packed_title (title_from r at) ≡ take title_places (drop at r)
title_repacked r at l =
    let rows : List ℕ = (title_from r at).ends ++ ((title_from r at).dropped ++ (title_from r at).owed) in
    ap (λ (xs : List ℕ). xs ++ rows) (run_is r at 0 10 (omega arith))
    ∙ part r at 0 10 37 rows (part r at ends_at count_places 24 _ (part r at drops_at lane_places 12 _ refl))
    ∙ rw (add-zero at) refl

pub titles_repacked : (r : List ℕ) (n at : ℕ) → at + n * title_places ≤ length r → packed_titles (titles_from r at n) ≡ take (n * title_places) (drop at r)
unfolding titles_from packed_titles
titles_repacked r zero at l = refl
titles_repacked r (suc n) at l =
    ap₂ (λ (xs ys : List ℕ). xs ++ ys) (title_repacked r at (omega arith)) (titles_repacked r n (at + title_places) (omega arith))
    ∙ joined r at title_places (n * title_places)
    ∙ ap (λ (k : ℕ). take k (drop at r)) more
  where
    more : title_places + n * title_places ≡ suc n * title_places
    more = omega arith

pub packed_unpacked : (r : List ℕ) → length r ≡ row_length → row_sound r ≡ true → packed (unpacked r) ≡ r
packed_unpacked r l sound =
    let version : get_or r version_at 0 ≡ row_version = eqb-true _ _ (both_l (eqb (get_or r version_at 0) row_version) (ltb (get_or r sequence_at 0) sequence_end) sound) in
    let head : run r 0 0 4 ≡ take 4 r = run_is r 0 0 4 (omega arith) in
    let rest : packed_titles (titles_from r titles_at titles_max) ≡ take (titles_max * title_places) (drop titles_at r) =
    titles_repacked r titles_max titles_at (omega arith) in
    ap (λ (v : ℕ). v ∷ get_or r sequence_at 0 ∷ get_or r pool_at 0 ∷ get_or r last_at 0 ∷ packed_titles (titles_from r titles_at titles_max)) (sym version)
    ∙ (ap₂ (λ (xs ys : List ℕ). xs ++ ys) head rest ∙ joined r 0 4 (titles_max * title_places) ∙ take_all row_length r (omega arith))

-- ---- the agent of an agent's row

pub packed_length : (t : Title) → WholeTitle t → length (packed_title t) ≡ title_places
packed_length t w =
    simp (length-append) (omega (arith, w.ends, w.dropped, w.owed))

-- the title that stands behind any numbers
pub title_unpacked : (p : List ℕ) (t : Title) (rest : List ℕ) → WholeTitle t → title_from (p ++ (packed_title t ++ rest)) (length p) ≡ t
title_unpacked p t rest w =
    simp (get_or-append-add, drop-append-add) (rw (ends, dropped, owed) refl)
  where
    -- the three rows, and what follows
    rows : (t.ends ++ (t.dropped ++ t.owed)) ++ rest ≡ t.ends ++ (t.dropped ++ (t.owed ++ rest))
    rows = simp append_assoc

    ends : take count_places ((t.ends ++ (t.dropped ++ t.owed)) ++ rest) ≡ t.ends
    ends = rw rows (take_at t.ends _ count_places w.ends)

    behind_ends : drop count_places ((t.ends ++ (t.dropped ++ t.owed)) ++ rest) ≡ t.dropped ++ (t.owed ++ rest)
    behind_ends = rw rows (drop_at t.ends _ count_places w.ends)

    dropped : take lane_places (drop count_places ((t.ends ++ (t.dropped ++ t.owed)) ++ rest)) ≡ t.dropped
    dropped = rw behind_ends (take_at t.dropped _ lane_places w.dropped)

    behind_dropped : drop (count_places + lane_places) ((t.ends ++ (t.dropped ++ t.owed)) ++ rest) ≡ t.owed ++ rest
    behind_dropped =
        sym (drop-drop lane_places count_places ((t.ends ++ (t.dropped ++ t.owed)) ++ rest))
        ∙ rw behind_ends (drop_at t.dropped _ lane_places w.dropped)

    owed : take lane_places (drop (count_places + lane_places) ((t.ends ++ (t.dropped ++ t.owed)) ++ rest)) ≡ t.owed
    owed = rw behind_dropped (take_at t.owed _ lane_places w.owed)

-- titles behind any numbers, each with its rows' lengths
unfoldable pub AllWhole : List Title → Type 0
AllWhole ts = (i : ℕ) → i < length ts → WholeTitle (get_or ts i no_title)

pub titles_unpacked : (p : List ℕ) (ts : List Title) → AllWhole ts → titles_from (p ++ packed_titles ts) (length p) (length ts) ≡ ts
unfolding titles_from packed_titles AllWhole
titles_unpacked p [] all = refl
titles_unpacked p (t ∷ ts) all =
    let own : WholeTitle t = all 0 (omega arith) in
    let further : length (p ++ packed_title t) ≡ length p + title_places = length-append p (packed_title t) ∙ ap (λ (n : ℕ). length p + n) (packed_length t own) in
    let rest : titles_from ((p ++ packed_title t) ++ packed_titles ts) (length (p ++ packed_title t)) (length ts) ≡ ts =
    titles_unpacked (p ++ packed_title t) ts (λ i l. all (suc i) (omega arith)) in
    ap₂ (λ (x : Title) (xs : List Title). x ∷ xs) (title_unpacked p t (packed_titles ts) own) (rw (append_assoc p (packed_title t) (packed_titles ts), further) at rest)

pub unpacked_packed : (g : Agent) → WholeAgent g → unpacked (packed g) ≡ g
unfolding AllWhole
unpacked_packed g w =
    let s : State = g.state in
    let titles : titles_from (packed g) titles_at (length s.titles) ≡ s.titles =
    titles_unpacked (row_version ∷ g.sequence ∷ s.pool ∷ s.last ∷ []) s.titles (λ i l. w.each i (omega (arith, w.titles))) in
    rw (rw w.titles at titles) refl
