-- Numbers laid into a row: neighbours laid one after another are laid at once, and a title laid into an agent's row gives the row of
-- the agent with that title. Rests on the laws of lists and on `packed` and `unpacked` being each other's inverse.
use mathlib.Core.Path.{◌≡◌, refl, sym, ap, ap₂, ◌∙◌}
use mathlib.Core.Bool.{true}
use mathlib.Core.List.{List, [], ◌∷◌, ◌++◌, append_assoc}
use Prim.Native.Nat.{ℕ, zero, suc, ◌+◌, ◌*◌, ◌-◌, ◌≤◌, ◌<◌}
use native.Mathlib.Omega.{arith}
use native.Mathlib.Nat.{zero-add}
use lib.ListN.{length, take, drop, set, length-append}
use lib.Seq.{take_at, drop_at, drop-drop, length-take-le, take-append-add, drop-append-add}
use Rattle.rules.specs.Limits.{titles_max}
use Rattle.story.specs.declared.Title.{Title}
use Rattle.story.specs.Next.{with_title}
use Rattle.agent.specs.declared.Agent.{Agent}
use Rattle.agent_rows.specs.Layout.{row_version, last_at, titles_at, ends_at, drops_at, owed_at, title_places, title_place, row_length}
use Rattle.agent_rows.specs.Packed.{packed_title, packed_titles, packed, unpacked, row_sound, with_state, WholeTitle}
use Rattle.agent_rows.proofs.Inverse.{AllWhole, packed_length, titles_length, whole_unpacked, packed_unpacked}
use Rattle.agent_rows.specs.inner.Laid.{laid}

-- numbers that take the place of as many
pub taken_over : (r : List ℕ) (at : ℕ) (xs : List ℕ) → take at r ++ (xs ++ drop (at + length xs - at) (drop at r)) ≡ laid r at xs
unfolding laid
taken_over r at xs =
    let many : at + length xs - at ≡ length xs = omega arith in
    rw (many, drop-drop (length xs) at r) refl

pub laid_join : (r : List ℕ) (at : ℕ) (xs ys : List ℕ) → at ≤ length r → laid (laid r at xs) (at + length xs) ys ≡ laid r at (xs ++ ys)
unfolding laid
laid_join r at xs ys l =
    rw (as_two, front, back, length-append xs ys)
    (simp append_assoc)
  where
    rest : List ℕ
    rest = drop (at + length xs) r

    as_two : take at r ++ (xs ++ rest) ≡ (take at r ++ xs) ++ rest
    as_two = sym (append_assoc (take at r) xs rest)

    far : length (take at r ++ xs) ≡ at + length xs
    far = length-append (take at r) xs ∙ ap (λ (n : ℕ). n + length xs) (length-take-le at r l)

    front : take (at + length xs) ((take at r ++ xs) ++ rest) ≡ take at r ++ xs
    front = take_at (take at r ++ xs) rest (at + length xs) far

    back : drop (at + length xs + length ys) ((take at r ++ xs) ++ rest) ≡ drop (at + (length xs + length ys)) r
    back =
        sym (drop-drop (length ys) (at + length xs) ((take at r ++ xs) ++ rest))
        ∙ ap (drop (length ys)) (drop_at (take at r ++ xs) rest (at + length xs) far)
        ∙ drop-drop (length ys) (at + length xs) r
        ∙ ap (λ (n : ℕ). drop n r) (native.Mathlib.Nat.add_assoc at (length xs) (length ys))

-- a title's numbers that are in no row of it
abbrev pub own_numbers : Title → List ℕ
own_numbers t =
    t.mode
    ∷ t.film.kind
    ∷ t.opened
    ∷ t.film.length
    ∷ t.film.floor
    ∷ t.film.cap
    ∷ t.count
    ∷ t.mark
    ∷ t.last
    ∷ t.tuned
    ∷ []

-- a title laid in four parts
pub title_laid : (r : List ℕ) (at : ℕ) (t : Title) → WholeTitle t → at + title_places ≤ length r →
    laid (laid (laid (laid r at (own_numbers t)) (at + ends_at) t.ends) (at + drops_at) t.dropped) (at + owed_at) t.owed
    ≡ laid r at (packed_title t)
title_laid r at t w l =
    let two : laid (laid r at (own_numbers t)) (at + ends_at) t.ends ≡ laid r at (own_numbers t ++ t.ends) =
    laid_join r at (own_numbers t) t.ends (omega arith) in
    let far : length (own_numbers t ++ t.ends) ≡ drops_at = length-append (own_numbers t) t.ends ∙ ap (λ (n : ℕ). ends_at + n) w.ends in
    let three : laid (laid r at (own_numbers t ++ t.ends)) (at + drops_at) t.dropped ≡ laid r at ((own_numbers t ++ t.ends) ++ t.dropped) =
    rw far at (laid_join r at (own_numbers t ++ t.ends) t.dropped (omega arith)) in
    let further : length ((own_numbers t ++ t.ends) ++ t.dropped) ≡ owed_at =
    length-append (own_numbers t ++ t.ends) t.dropped ∙ ap₂ (λ (n m : ℕ). n + m) far w.dropped in
    let four : laid (laid r at ((own_numbers t ++ t.ends) ++ t.dropped)) (at + owed_at) t.owed ≡ laid r at (((own_numbers t ++ t.ends) ++ t.dropped) ++ t.owed) =
    rw further at (laid_join r at ((own_numbers t ++ t.ends) ++ t.dropped) t.owed (omega arith)) in
    rw (two, three, four) (ap (laid r at) (simp append_assoc))

-- behind an agent's first four numbers
laid_behind : (a b c d : ℕ) (r : List ℕ) (n : ℕ) (xs : List ℕ) → laid (a ∷ b ∷ c ∷ d ∷ r) (titles_at + n) xs ≡ a ∷ b ∷ c ∷ d ∷ laid r n xs
unfolding laid
laid_behind a b c d r n xs =
    let whole : List ℕ = a ∷ b ∷ c ∷ d ∷ r in
    let near : titles_at + n ≡ suc (suc (suc (suc n))) = omega arith in
    let far : titles_at + n + length xs ≡ suc (suc (suc (suc (n + length xs)))) = omega arith in
    ap₂ (λ (k m : ℕ). take k (a ∷ b ∷ c ∷ d ∷ r) ++ (xs ++ drop m (a ∷ b ∷ c ∷ d ∷ r))) near far

-- a title laid into those of a list
set_titles : (ts : List Title) (i : ℕ) (t : Title) → AllWhole ts → i < length ts → WholeTitle t →
    laid (packed_titles ts) (i * title_places) (packed_title t) ≡ packed_titles (set ts i t)
unfolding laid packed_titles AllWhole
set_titles [] i t all l w = absurd (omega arith)
set_titles (x ∷ ts) zero t all l w =
    let e : 0 + length (packed_title t) ≡ title_places = zero-add _ ∙ packed_length t w in
    ap (λ (n : ℕ). packed_title t ++ drop n (packed_title x ++ packed_titles ts)) e
    ∙ ap (λ (r : List ℕ). packed_title t ++ r) (drop_at (packed_title x) (packed_titles ts) title_places (packed_length x (all 0 (omega arith))))
set_titles (x ∷ ts) (suc i) t all l w =
    let size : length (packed_title x) ≡ title_places = packed_length x (all 0 (omega arith)) in
    let near : suc i * title_places ≡ length (packed_title x) + i * title_places = omega arith in
    let far : suc i * title_places + length (packed_title t) ≡ length (packed_title x) + (i * title_places + length (packed_title t)) = omega arith in
    ap₂ (λ (k m : ℕ). take k (packed_title x ++ packed_titles ts) ++ (packed_title t ++ drop m (packed_title x ++ packed_titles ts))) near far
    ∙ rw (take-append-add (packed_title x) (packed_titles ts) (i * title_places), drop-append-add (packed_title x) (packed_titles ts) (i * title_places + length (packed_title t)))
    (append_assoc (packed_title x) _ _
    ∙ ap (λ (r : List ℕ). packed_title x ++ r) (set_titles ts i t (λ j b. all (suc j) (omega arith)) (omega arith) w))

-- a title laid into an agent's row, after an event at τ
pub title_put : (r : List ℕ) (i : ℕ) (t : Title) (τ : ℕ) → length r ≡ row_length → row_sound r ≡ true → i < titles_max → WholeTitle t →
    laid (set r last_at τ) (title_place i) (packed_title t) ≡ packed (with_state (unpacked r) (with_title (unpacked r).state i t τ))
unfolding AllWhole
title_put r i t τ l sound b w =
    let g : Agent = unpacked r in
    let many : length g.state.titles ≡ titles_max = titles_length r titles_at titles_max in
    ap (λ (x : List ℕ). laid (set x last_at τ) (title_place i) (packed_title t)) (sym (packed_unpacked r l sound))
    ∙ laid_behind row_version g.sequence g.state.pool τ (packed_titles g.state.titles) (i * title_places) (packed_title t)
    ∙ ap (λ (x : List ℕ). row_version ∷ g.sequence ∷ g.state.pool ∷ τ ∷ x)
    (set_titles g.state.titles i t (λ j c. (whole_unpacked r l).each j (omega arith)) (omega arith) w)
