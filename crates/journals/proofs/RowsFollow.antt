-- A start on an agent's row, in place: the row is that of the agent which the definition says of the files, number for number, and windows played
-- one after the other leave it there.
-- Rests on a row being answered and left as its agent is, and on windows being played as the whole files are.
use mathlib.Core.Path.{◌≡◌, refl, sym, ap, ◌∙◌}
use mathlib.Core.Bool.{Bool, true, false}
use mathlib.Core.List.{List, [], ◌∷◌, ◌++◌}
use Prim.Native.Nat.{ℕ, zero, suc, ◌+◌, ◌-◌, ◌≤◌, ◌<◌, ◌^◌}
use native.Mathlib.Omega.{arith}
use lib.ListN.{length, take, drop, length-append}
use lib.Seq.{get_or-drop}
use borrow.Author.Tests.{lt-ltb, le-leb}
use Rattle.rules.specs.Refusals.{pick}
use Rattle.notice.specs.declared.Notice.{Notice}
use Rattle.notice.specs.declared.Reading.{Reading}
use Rattle.notice.specs.declared.Reading.TheVariants as reading
use Rattle.notice.specs.declared.Found.{Found}
use Rattle.notice.specs.declared.Found.TheVariants as found
use Rattle.notice.specs.Decode.{read_at}
use Rattle.notice.specs.Log.{Bytes}
use Rattle.notice.proofs.Alike.{by_itself}
use Rattle.agent.specs.declared.Agent.{Agent}
use Rattle.agent.specs.Turns.{fresh_agent, notice_answer, noticed}
use Rattle.agent.specs.Played.{agent_played}
use Rattle.agent_rows.specs.Layout.{sequence_end}
use Rattle.agent_rows.specs.Packed.{packed, WholeAgent}
use Rattle.agent_rows.proofs.Inverse.{unpacked_packed}
use Rattle.row_calls.specs.Answers.{row_notice, row_after_notice}
use Rattle.row_calls.proofs.Follows.{noticed_as_agent}
use Rattle.row_snapshots.proofs.Small.{row_length_lem}
use Rattle.row_calls.proofs.Whole.{whole_fresh, whole_noticed}
use Rattle.row_snapshots.proofs.Sequence.{noticed_fits}
use Rattle.row_snapshots.proofs.InPlace.{taken_in_place}
use Rattle.journals.specs.declared.Start.{Start}
use Rattle.journals.specs.Start.{is_going, begun_with, has_sum, after_summed, after_unsummed, agent_hears, Stage, stage, View, view}
use Rattle.journals.specs.Start.{is_ready, part_of, notice_done, done_at, step_at, step_in, steps_in, hears_in, journal_start}
use Rattle.journals.specs.Rows.{row_hears, is_counted, row_heard}
use Rattle.journals.specs.Windows.{Lent, InWindows}
use Rattle.journals.proofs.WholeFiles.{run_along, run_whole}
use Rattle.journals.proofs.Outcomes.{begun_first, outcome}

-- ---- one notice

-- a row of an agent that it can hold
pub record Rowed (r : List ℕ) (g : Agent) : Type 0 where
  pub row_is : r ≡ packed g
  pub whole : WholeAgent g
  pub fits : g.sequence < sequence_end

-- is answered as the agent
row_answer_lem : (r : List ℕ) (g : Agent) → Rowed r g → (q : Reading) → row_notice r q ≡ notice_answer g q
row_answer_lem r g w q =
    rw w.row_is
    ((noticed_as_agent (packed g) (row_length_lem g w.whole) (lt-ltb g.sequence sequence_end w.fits) q).0
    ∙ ap (λ (k : Agent). notice_answer k q) (unpacked_packed g w.whole))

-- the bytes of a part are bytes
take_small : (n : ℕ) (bs : List ℕ) → Bytes bs → Bytes (take n bs)
take_small zero bs small i = omega arith
take_small (suc n) [] small i = small i
take_small (suc n) (b ∷ bs) small zero = small zero
take_small (suc n) (b ∷ bs) small (suc i) = take_small n bs (λ k. small (suc k)) i

pub part_small : (bs : List ℕ) (p e : ℕ) → Bytes bs → Bytes (part_of bs p e)
part_small bs p e small = take_small (e - p) (drop p bs) (λ i. rw (get_or-drop p bs i 0) (small (p + i)))

-- and left as the agent
row_after_lem : (r : List ℕ) (g : Agent) → Rowed r g → (bs : List ℕ) → Bytes bs → (p : ℕ) (n : Notice) (e : ℕ) → read_at bs p ≡ found.At n e
    → Rowed (row_after_notice r (reading.Whole n)) (noticed g (reading.Whole n))
row_after_lem r g w bs small p n e is =
    record {
      row_is = rw w.row_is (taken_in_place g w.whole w.fits (reading.Whole n));
      whole = whole_noticed g (reading.Whole n) w.whole;
      fits = rw (by_itself bs p n e is) at (noticed_fits g (part_of bs p e) (part_small bs p e small) w.fits);
    }

-- ---- one step

-- one start, and the row of the agent
pub record Same (x : Stage (List ℕ)) (y : Stage Agent) : Type 0 where
  pub start_is : x.start ≡ y.start
  pub rowed : Rowed x.hearer y.hearer

picked_rowed : (b : Bool) (r r' : List ℕ) (g g' : Agent) → Rowed r g → Rowed r' g' → Rowed (pick b r r') (pick b g g')
picked_rowed true r r' g g' v w = v
picked_rowed false r r' g g' v w = w

notice_same : (t : Start) (r : List ℕ) (g : Agent) (n : ℕ) (same : Bool) (q : Reading) → Rowed r g → Rowed (row_after_notice r q) (noticed g q)
    → Same (notice_done row_hears n same (stage t r) q) (notice_done agent_hears n same (stage t g) q)
unfolding notice_done
notice_same t r g n same q w after = go (has_sum t)
  where
    go : (b : Bool) → Same
        (pick b (stage (after_summed t n same (row_notice r q)) (pick same (row_after_notice r q) r)) (stage (after_unsummed t n) r))
        (pick b (stage (after_summed t n same (notice_answer g q)) (pick same (noticed g q) g)) (stage (after_unsummed t n) g))
    go true =
        record {
          start_is = ap (after_summed t n same) (row_answer_lem r g w q);
          rowed = picked_rowed same (row_after_notice r q) r (noticed g q) g after w;
        }
    go false = record { start_is = refl; rowed = w }

done_same : (bs : List ℕ) → Bytes bs → (sum : ℕ) (t : Start) (r : List ℕ) (g : Agent) (p : ℕ) → Rowed r g
    → Same (step_at row_hears bs sum (stage t r) p) (step_at agent_hears bs sum (stage t g) p)
unfolding done_at
done_same bs small sum t r g p w = go (read_at bs p) refl
  where
    go : (f : Found) → read_at bs p ≡ f → Same (done_at row_hears bs sum (stage t r) p f) (done_at agent_hears bs sum (stage t g) p f)
    go (found.At n e) is = notice_same t r g (e - p) _ (reading.Whole n) w (row_after_lem r g w bs small p n e is)
    go found.End is = record { start_is = refl; rowed = w }
    go found.Malformed is = record { start_is = refl; rowed = w }

-- ---- many

module _ (v : View) (small : Bytes v.journal) (x₀ : Stage (List ℕ)) (y₀ : Stage Agent) (same : Same x₀ y₀) where
  step_same : (x : Stage (List ℕ)) (y : Stage Agent) → Same x y → Same (step_in row_hears v x) (step_in agent_hears v y)
  step_same x y w =
      let made : x ≡ stage y.start x.hearer = ap (λ (t : Start). stage t x.hearer) w.start_is in
      rw made (done_same v.journal small _ y.start x.hearer y.hearer _ w.rowed)

  pub steps_same : (n : ℕ) → Same (steps_in row_hears v x₀ n) (steps_in agent_hears v y₀ n)
  unfolding steps_in
  steps_same zero = same
  steps_same (suc n) = go (steps_in row_hears v x₀ n) (steps_in agent_hears v y₀ n) (steps_same n) (is_ready v (steps_in agent_hears v y₀ n).start) refl
    where
      go : (x : Stage (List ℕ)) (y : Stage Agent) → Same x y → (b : Bool) → is_ready v y.start ≡ b
          → Same (pick (is_ready v x.start) (step_in row_hears v x) x) (pick b (step_in agent_hears v y) y)
      go x y w true ready =
          let here : is_ready v x.start ≡ true = ap (is_ready v) w.start_is ∙ ready in
          rw here (step_same x y w)
      go x y w false none =
          let here : is_ready v x.start ≡ false = ap (is_ready v) w.start_is ∙ none in
          rw here w

-- ---- the theorems

abbrev row_first : ℕ → List ℕ → Bool → List ℕ → Stage (List ℕ)
row_first pool j there s = stage (begun_with (length j) there (length s)) (packed (fresh_agent pool))

module _ (pool : ℕ) (j : List ℕ) (there : Bool) (s : List ℕ) (small : Bytes j) where
  fresh_same : Same (row_first pool j there s) (stage (begun_with (length j) there (length s)) (fresh_agent pool))
  fresh_same = record { start_is = refl; rowed = record { row_is = refl; whole = whole_fresh pool; fits = omega arith } }

  -- windows played until the start has ended leave the verdict of the files, and the row of the agent that played the journal up to the cut
  pub row_start : (x : Stage (List ℕ)) → InWindows row_hears j s (row_first pool j there s) x → is_going x.start.verdict ≡ false
      → (x.start ≡ (journal_start pool j there s).start) × (x.hearer ≡ packed (agent_played pool (take x.start.cut j)))
  row_start x run over =
      let b = begun_first pool j there s in
      let is = run_whole row_hears j s (row_first pool j there s) b.1.1.0 b.0 b.1.0 b.1.1.1 x run over in
      let w = steps_same (view j s 0 0 true) small (row_first pool j there s) (stage (begun_with (length j) there (length s)) (fresh_agent pool))
      fresh_same (suc (length j)) in
      let starts : x.start ≡ (journal_start pool j there s).start = ap (λ (y : Stage (List ℕ)). y.start) is ∙ w.start_is in
      let rows : x.hearer ≡ packed (journal_start pool j there s).hearer = ap (λ (y : Stage (List ℕ)). y.hearer) is ∙ w.rowed.row_is in
      (starts, rows ∙ (ap packed (outcome pool j there s).cut_agent ∙ ap (λ (t : Start). packed (agent_played pool (take t.cut j))) (sym starts)))

  -- and each window is what the call does, in a journal that 64 bits count
  pub call_hears : length j < 2 ^ 64 → (x : Stage (List ℕ)) → InWindows row_hears j s (row_first pool j there s) x
      → (window beside : List ℕ) (over : Bool) → Lent j s x.start window beside over
      → row_heard x.hearer x.start window beside over ≡ hears_in row_hears (view window beside x.start.place x.start.heard over) x
  unfolding row_heard is_counted
  call_hears fits x run window beside over l =
      let b = begun_first pool j there s in
      let a = run_along row_hears j s (row_first pool j there s) b.1.1.0 b.0 b.1.0 b.1.1.1 x run in
      let size : length j ≡ length l.bytes.before + (length window + length l.bytes.later) =
      ap length l.bytes.is
      ∙ (length-append l.bytes.before (window ++ l.bytes.later)
      ∙ ap (λ (n : ℕ). length l.bytes.before + n) (length-append window l.bytes.later)) in
      let low : x.start.place + length window ≤ 2 ^ 64 - 1 = omega (arith, size, l.bytes.there, fits) in
      rw (le-leb _ _ a.counted.heard_low, le-leb _ _ a.counted.behind_low, le-leb _ _ low)
