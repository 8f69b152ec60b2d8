-- Records: what the flat call over one place makes of one, and a row of them that is filled from the front.
-- Rests on the laws of lists, searches and the refusals' order.
use Rattle.std.proofs.Common.{◌↔◌, IsTrue}
use mathlib.Core.Path.{◌≡◌, refl, sym, ap, ◌∙◌}
use mathlib.Core.Bool.{Bool, true, false, false≢true}
use mathlib.Core.Logic.{⊎_elim}
use mathlib.Core.List.{List, [], ◌∷◌, map}
use Prim.Native.Nat.{ℕ, zero, suc, ◌≤◌, ◌<◌}
use native.Mathlib.Omega.{arith}
use lib.Dec.{leb, eqb}
use lib.ListN.{length, length-set, length-map, get_or-map, get_or, set}
use lib.Seq.{get_or-set_same, get_or-set_other}
use borrow.Author.Tests.{eq-eqb, le-leb, leb-true}
use Rattle.rules.specs.Limits.{id_max}
use Rattle.rules.specs.Refusals.{pick, first_hit}
use Rattle.rules.specs.Search.{every}
use Rattle.rules.proofs.Search.{below_suc, every_in, every_out}
use Rattle.rules.proofs.Tests.{fails}
use Rattle.story.specs.declared.State.{State}
use Rattle.story.specs.Calls.{status_answer, status_count, status_held, status_mark}
use Rattle.questions.specs.Asked.{asked_answer}
use Rattle.questions.proofs.Asked.{asked_state, asked_time, asked_others, asked_late}
use Rattle.status_records.specs.declared.Record.{Record}
use Rattle.status_records.specs.Records.{no_record, record_ids_ok, records_answer, filled_record, record_for}
use Rattle.status.proofs.Filled.{every_place}

pub one_row : (s : State) (τ : ℕ) (r : Record) (a : ℕ) (cs hs ms : List ℕ) → a ≡ status_answer s τ (r.id ∷ []) 1 1 1
    → cs ≡ pick (eqb a 0) (map (λ i. status_count s i) (r.id ∷ [])) (r.count ∷ [])
    → hs ≡ pick (eqb a 0) (map (λ i. status_held s i τ) (r.id ∷ [])) (r.held ∷ [])
    → ms ≡ pick (eqb a 0) (map (λ i. status_mark s i) (r.id ∷ [])) (r.mark ∷ [])
    → ◌≡◌ {A = Record} (record { id = r.id; count = get_or cs 0 0; held = get_or hs 0 0; mark = get_or ms 0 0 })
    (record_for s τ r)
unfolding record_for
one_row s τ r a cs hs ms e c h m = rw (c, h, m, ← e) (go (eqb a 0))
  where
    go : (b : Bool) →
        ◌≡◌ {A = Record} (record {
          id = r.id;
          count = get_or (pick b (status_count s r.id ∷ []) (r.count ∷ [])) 0 0;
          held = get_or (pick b (status_held s r.id τ ∷ []) (r.held ∷ [])) 0 0;
          mark = get_or (pick b (status_mark s r.id ∷ []) (r.mark ∷ [])) 0 0;
        }) (pick b (filled_record s τ r) r)
    go true = refl
    go false = refl

-- a row with what f makes of its first i places, which are filled one after the other
unfoldable pub filled_to : (Record → Record) → List Record → ℕ → List Record
filled_to f xs zero = xs
filled_to f xs (suc i) = set (filled_to f xs i) i (f (get_or (filled_to f xs i) i no_record))

pub filled_next : (f : Record → Record) (xs ls : List Record) (i : ℕ) (r : Record) → ls ≡ filled_to f xs i →
    r ≡ f (get_or ls i no_record) → set ls i r ≡ filled_to f xs (suc i)
unfolding filled_to
filled_next f xs ls i r e q = rw (q, e)

-- i places of a row have what f makes of them, and the others are as they were
abbrev pub Filling : (Record → Record) → List Record → ℕ → List Record → Type 0
Filling f xs i ls =
    (length ls ≡ length xs) × ((k : ℕ) → k < i → get_or ls k no_record ≡ f (get_or xs k no_record))
    × ((k : ℕ) → i ≤ k → get_or ls k no_record ≡ get_or xs k no_record)

pub filling : (f : Record → Record) (xs : List Record) (i : ℕ) → i ≤ length xs → Filling f xs i (filled_to f xs i)
unfolding filled_to
filling f xs zero l = (refl, (λ k below. absurd (omega arith)), (λ k above. refl))
filling f xs (suc i) l =
    let ls : List Record = filled_to f xs i in
    let r : Record = f (get_or ls i no_record) in
    let h : Filling f xs i ls = filling f xs i (omega arith) in (
      length-set ls i r ∙ h.0,
      (λ k below. ⊎_elim
          (λ less. get_or-set_other ls i k r no_record (λ q. omega arith) ∙ h.1 k less)
          (λ here. rw here (get_or-set_same ls i r no_record (omega (arith, h.0)) ∙ ap f (h.2 i (omega arith))))
          (below_suc k i below)),
      (λ k above. get_or-set_other ls i k r no_record (λ q. omega arith) ∙ h.2 k (omega arith)),
    )

-- a record with an id, where the answer over all is done, is filled in
pub done_record : (s : State) (τ : ℕ) (r : Record) → asked_answer s τ true ≡ 0 → leb r.id id_max ≡ true →
    record_for s τ r ≡ filled_record s τ r
unfolding record_for status_answer first_hit every
done_record s τ r none i =
    simp (asked_state s τ true none, asked_time s τ true none, i, asked_late s τ true none)

-- a row of records after the fill
pub records_filled : (s : State) (τ : ℕ) (xs : List Record) → records_answer s τ xs ≡ 0 →
    filled_to (record_for s τ) xs (length xs) ≡ map (λ r. filled_record s τ r) xs
unfolding records_answer record_ids_ok
records_filled s τ xs none =
    let ok : Bool = every (λ j. leb (get_or xs j no_record).id id_max) (length xs) in
    let ids : ok ≡ true = asked_others s τ ok none in
    let ls : List Record = filled_to (record_for s τ) xs (length xs) in
    let full : Filling (record_for s τ) xs (length xs) ls = filling (record_for s τ) xs (length xs) (omega arith) in
    every_place (λ r. filled_record s τ r) no_record no_record xs ls full.0
    (λ k l. full.1 k l ∙ done_record s τ (get_or xs k no_record) (rw ids at none)
    (every_out (λ j. leb (get_or xs j no_record).id id_max) (length xs) k ids l))

-- a row of ids is one where no id is past the last
pub all_ids : (rows : List Record) (b : Bool) → (IsTrue b ↔ ((k : ℕ) → k < length rows → (get_or rows k no_record).id ≤ id_max)) →
    b ≡ record_ids_ok rows (length rows)
unfolding record_ids_ok
all_ids rows true i = sym (every_in _ (length rows) (λ j l. le-leb _ _ (i.0 refl j l)))
all_ids rows false i = sym (fails _ (λ t. false≢true (i.1 (λ k l. leb-true _ _ (every_out _ (length rows) k t l)))))

-- the answer over records is the flat call's over their ids, in rows of one length
pub flat_answer : (s : State) (τ : ℕ) (rows : List Record) →
    records_answer s τ rows ≡ status_answer s τ (map (λ r. r.id) rows) (length rows) (length rows) (length rows)
unfolding records_answer asked_answer record_ids_ok status_answer first_hit
flat_answer s τ rows =
    let rows_long : length (map (λ r. r.id) rows) ≡ length rows = length-map rows (λ r. r.id) in
    let n : ℕ = length rows in
    let ids : every (λ j. leb (get_or (map (λ (r : Record). r.id) rows) j 0) id_max) n
    ≡ every (λ j. leb (get_or rows j no_record).id id_max) n =
    ap (λ (p : ℕ → Bool). every p n) (λ k j. leb (get_or-map (λ (r : Record). r.id) rows j no_record k) id_max) in
    simp (rows_long, ids, eq-eqb (length rows) (length rows) refl)
