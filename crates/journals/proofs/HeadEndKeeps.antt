-- What a head-end keeps is such a journal: the log of its accepted events, each a notice accepted after those before it, with the sum of each.
-- So the start after a kill is that of a head-end's own files.
-- Rests on the log that a head-end keeps being whole and heard whole, and on numbers coming back from their bytes.
use mathlib.Core.Path.{◌≡◌, refl, sym, ap, ◌∙◌}
use mathlib.Core.Bool.{Bool, true, false}
use mathlib.Core.List.{List, [], ◌∷◌, ◌++◌, append-nil, map, reverse}
use Prim.Native.Nat.{ℕ, zero, suc, ◌+◌, ◌*◌, ◌-◌, ◌/◌, ◌≤◌, ◌<◌, ◌^◌}
use native.Mathlib.Nat.{mod-lt, add-zero, add-suc}
use native.Mathlib.Omega.{arith}
use lib.Dec.{eqb}
use lib.ListN.{length, get_or, length-map, get_or-append}
use lib.Seq.{get_or-append-add}
use borrow.Author.Tests.{lt-ltb, eqb-true}
use Rattle.rules.specs.Limits.{both}
use Rattle.rules.specs.Refusals.{pick}
use Rattle.rules.proofs.Tests.{both_l, both_r}
use Rattle.sums.specs.Crc.{sum_of}
use Rattle.sums.proofs.Small.{sum_small}
use Rattle.notice_fields.specs.Fields.{size_of, is_carried, rows}
use Rattle.notice_fields.specs.Numbers.{Bytes, big_endian}
use Rattle.notice_fields.proofs.Digits.{length_big}
use Rattle.notice_fields.proofs.Each.{by_order, false_true}
use Rattle.notice_fields.proofs.Table.{sound}
use Rattle.notice_fields.proofs.Has.{Has, has_middle, number_back}
use Rattle.notice_bytes.specs.Laying.{field_bytes, row_bytes, bytes_to}
use Rattle.notice.specs.declared.Notice.{Notice}
use Rattle.notice.specs.declared.Reading.TheVariants as reading
use Rattle.notice.specs.declared.Found.{Found}
use Rattle.notice.specs.declared.Found.TheVariants as found
use Rattle.notice.specs.Encode.{kind_of, values_in, bytes_of}
use Rattle.notice.specs.Decode.{read_at}
use Rattle.notice.specs.Log.{log_of, place_to, is_notice, with_found, notices_to, notices_of}
use Rattle.notice.proofs.ReadThrough.{enough, still}
use Rattle.story.specs.declared.Event.{Event}
use Rattle.story.specs.Story.{answer, Accepted}
use Rattle.story.specs.Runs.{lanes_of}
use Rattle.agent.specs.Turns.{event_of, fresh_agent, notice_answer}
use Rattle.agent.specs.Series.{notices_for, log_kept}
use Rattle.agent.specs.Played.{agent_told, heard_of}
use Rattle.agent.proofs.Played.{log_series, told_follows, told_notice}
use Rattle.agent.proofs.HeadEnd.{kept_whole, kept_notices, kept_events}
use Rattle.journals.specs.Start.{sum_at}
use Rattle.journals.specs.Outcome.{notice_bytes}
use Rattle.journals.specs.Summing.{sums_to}
use Rattle.journals.specs.Restart.{KeptWith}
use Rattle.journals.proofs.RowsFollow.{part_small}
use Rattle.journals.proofs.SumsMade.{length_sums}

-- ---- written notices are bytes

bytes_append : (xs ys : List ℕ) → Bytes xs → Bytes ys → Bytes (xs ++ ys)
bytes_append xs ys f g j =
    by_order j (length xs)
    (λ lt. rw (get_or-append xs ys 0 j lt) (f j))
    (λ le.
    let e : length xs + (j - length xs) ≡ j = omega arith in
    rw (← e, get_or-append-add xs ys (j - length xs) 0) (g (j - length xs)))

bytes_big : (n v : ℕ) → Bytes (big_endian n v)
unfolding big_endian
bytes_big zero v j = omega arith
bytes_big (suc n) v zero = mod-lt _ (omega arith)
bytes_big (suc n) v (suc j) = bytes_big n v j

bytes_field : (i v : ℕ) → i < rows → Bytes (field_bytes i v)
unfolding field_bytes
bytes_field i v row zero = (sound i row).tagged
bytes_field i v row (suc j) =
    bytes_append (big_endian 2 (size_of i)) (big_endian (size_of i) v) (bytes_big 2 (size_of i)) (bytes_big (size_of i) v) j

bytes_row : (k i v : ℕ) → i < rows → Bytes (row_bytes k i v)
unfolding row_bytes
bytes_row k i v row = go (is_carried k i)
  where
    go : (b : Bool) → Bytes (pick b (field_bytes i v) [])
    go true = bytes_field i v row
    go false = λ j. omega arith

bytes_to_lem : (k : ℕ) (vs : List ℕ) (i : ℕ) → i ≤ rows → Bytes (bytes_to k vs i)
unfolding bytes_to
bytes_to_lem k vs zero low = λ j. omega arith
bytes_to_lem k vs (suc i) low =
    bytes_append (bytes_to k vs i) (row_bytes k i (get_or vs i 0)) (bytes_to_lem k vs i (omega arith)) (bytes_row k i (get_or vs i 0) low)

bytes_log : (ns : List Notice) → Bytes (log_of ns)
unfolding log_of bytes_of
bytes_log [] = λ j. omega arith
bytes_log (n ∷ ns) =
    bytes_append (bytes_to (kind_of n.kind) (values_in n) rows) (log_of ns) (bytes_to_lem (kind_of n.kind) (values_in n) rows (omega arith)) (bytes_log ns)

-- ---- sums come back

has_sum_lem : (bs : List ℕ) (n i : ℕ) → i < n → Has (sums_to bs n) (i * 4) (big_endian 4 (sum_of (notice_bytes bs i)))
unfolding sums_to
has_sum_lem bs zero i lt = absurd (omega arith)
has_sum_lem bs (suc n) i lt =
    by_order i n
    (λ low j k.
    let inside : i * 4 + j < length (sums_to bs n) = omega (arith, length_sums bs n, k, length_big 4 (sum_of (notice_bytes bs i)), low) in
    get_or-append (sums_to bs n) (big_endian 4 (sum_of (notice_bytes bs n))) 0 (i * 4 + j) inside ∙ has_sum_lem bs n i low j k)
    (λ high.
    let at : n ≡ i = omega arith in
    let place : length (sums_to bs i) ≡ i * 4 = length_sums bs i in
    let last = has_middle (sums_to bs i) (big_endian 4 (sum_of (notice_bytes bs i))) [] in
    rw at (rw (append-nil, place) at last))

pub sum_back : (bs : List ℕ) → Bytes bs → (n i : ℕ) → i < n → sum_of (notice_bytes bs i) ≡ sum_at (sums_to bs n) i
sum_back bs small n i lt =
    let long : length (sums_to bs n) ≡ n * 4 = length_sums bs n in
    let there : i < length (sums_to bs n) / 4 = rw long (omega arith) in
    let few : sum_of (notice_bytes bs i) < 256 ^ 4 = sum_small (notice_bytes bs i) (part_small bs (place_to bs i) (place_to bs (suc i)) small) in
    rw (lt-ltb i (length (sums_to bs n) / 4) there)
    (sym (number_back (sums_to bs n) (i * 4) 4 (sum_of (notice_bytes bs i)) few (has_sum_lem bs n i lt)))

-- ---- a log of which all counts

module _ (lanes : ℕ) where
  heard_low : (ns : List Notice) → length (heard_of lanes ns) ≤ length ns
  unfolding heard_of
  heard_low [] = omega arith
  heard_low (n ∷ ns) = go (both (eqb n.sequence (suc (length (heard_of lanes ns)))) (eqb (answer lanes (map event_of (heard_of lanes ns)) (event_of n)) 0)) (heard_low ns)
    where
      go : (b : Bool) → length (heard_of lanes ns) ≤ length ns → length (pick b (n ∷ heard_of lanes ns) (heard_of lanes ns)) ≤ suc (length ns)
      go true low = omega arith
      go false low = omega arith

  -- the newest counts, and so do all before it
  newest : (n : Notice) (ns : List Notice) → length (heard_of lanes (n ∷ ns)) ≡ length (n ∷ ns)
      → (both (eqb n.sequence (suc (length (heard_of lanes ns)))) (eqb (answer lanes (map event_of (heard_of lanes ns)) (event_of n)) 0) ≡ true)
      × (length (heard_of lanes ns) ≡ length ns)
  unfolding heard_of
  newest n ns all = go (both (eqb n.sequence (suc (length (heard_of lanes ns)))) (eqb (answer lanes (map event_of (heard_of lanes ns)) (event_of n)) 0)) all
    where
      go : (b : Bool) → length (pick b (n ∷ heard_of lanes ns) (heard_of lanes ns)) ≡ suc (length ns) → (b ≡ true) × (length (heard_of lanes ns) ≡ length ns)
      go true same = (refl, omega arith)
      go false same = absurd (omega (arith, same, heard_low ns))

  -- fewer reads
  fewer : (j : List ℕ) (k : ℕ) → length (heard_of lanes (notices_to j (suc k))) ≡ length (notices_to j (suc k))
      → length (heard_of lanes (notices_to j k)) ≡ length (notices_to j k)
  unfolding notices_to
  fewer j k all = go (read_at j (place_to j k)) all
    where
      go : (f : Found) → length (heard_of lanes (with_found f (notices_to j k))) ≡ length (with_found f (notices_to j k))
          → length (heard_of lanes (notices_to j k)) ≡ length (notices_to j k)
      go (found.At n e) all = (newest n (notices_to j k) all).1
      go found.End all = all
      go found.Malformed all = all

  fewer_by : (j : List ℕ) (d k : ℕ) → length (heard_of lanes (notices_to j (k + d))) ≡ length (notices_to j (k + d))
      → length (heard_of lanes (notices_to j k)) ≡ length (notices_to j k)
  fewer_by j zero k all = rw (add-zero k) at all
  fewer_by j (suc d) k all = fewer_by j d k (fewer j (k + d) (rw (add-suc k d) at all))

-- ---- how many notices a log has

module _ (j : List ℕ) where
  pub grows : (k d : ℕ) → length (notices_to j k) ≤ length (notices_to j (k + d))
  unfolding notices_to
  grows k zero = rw (add-zero k) (omega arith)
  grows k (suc d) = rw (add-suc k d) (go (read_at j (place_to j (k + d))) (grows k d))
    where
      go : (f : Found) → length (notices_to j k) ≤ length (notices_to j (k + d)) → length (notices_to j k) ≤ length (with_found f (notices_to j (k + d)))
      go (found.At n e) low = omega arith
      go found.End low = low
      go found.Malformed low = low

  -- where one is found, one was at each read before
  before : (k d : ℕ) → is_notice (read_at j (place_to j (k + d))) ≡ true → is_notice (read_at j (place_to j k)) ≡ true
  before k d good = go (is_notice (read_at j (place_to j k))) refl
    where
      go : (b : Bool) → is_notice (read_at j (place_to j k)) ≡ b → b ≡ true
      go true e = refl
      go false e = false_true (sym (ap (λ (p : ℕ). is_notice (read_at j p)) (still j k d e).0 ∙ e) ∙ good)

  numbered : (i : ℕ) → is_notice (read_at j (place_to j i)) ≡ true → length (notices_to j (suc i)) ≡ suc i
  unfolding notices_to
  numbered zero good = go (read_at j (place_to j 0)) good
    where
      go : (f : Found) → is_notice f ≡ true → length (with_found f (notices_to j 0)) ≡ 1
      go (found.At n e) good = refl
      go found.End good = false_true good
      go found.Malformed good = false_true good
  numbered (suc i) good =
      let one : i + 1 ≡ suc i = omega arith in
      go (read_at j (place_to j (suc i))) good (numbered i (before i 1 (rw one good)))
    where
      go : (f : Found) → is_notice f ≡ true → length (notices_to j (suc i)) ≡ suc i → length (with_found f (notices_to j (suc i))) ≡ suc (suc i)
      go (found.At n e) good all = ap suc all
      go found.End good all = false_true good
      go found.Malformed good all = false_true good

  pub before_end : (i : ℕ) → is_notice (read_at j (place_to j i)) ≡ true → i < length j
  before_end i good =
      by_order i (length j) (λ lt. lt)
      (λ le.
      let at : length j + (i - length j) ≡ i = omega arith in
      let stop = (still j (length j) (i - length j) (enough j)).0 in
      false_true (sym (ap (λ (p : ℕ). is_notice (read_at j p)) (rw at at stop) ∙ enough j) ∙ good))

  pub within_notices : (i : ℕ) → is_notice (read_at j (place_to j i)) ≡ true → i < length (notices_of j)
  within_notices i good =
      let lt = before_end i good in
      let more : suc i + (length j - suc i) ≡ length j = omega arith in
      omega (arith, rw more at (grows (suc i) (length j - suc i)), numbered i good)

-- ---- the log of accepted events

pub numbered_for : (es : List Event) → length (notices_for es) ≡ length es
unfolding notices_for
numbered_for [] = refl
numbered_for (e ∷ es) = ap suc (numbered_for es)

module _ (pool : ℕ) (es : List Event) (acc : Accepted (lanes_of pool) es) (few : length es < 2 ^ 32) where
  abbrev log : List ℕ
  log = log_kept es

  small : Bytes log
  small = bytes_log (reverse (notices_for es))

  size : length (notices_of log) ≡ length es
  size = ap length (kept_notices (lanes_of pool) es acc few) ∙ numbered_for es

  all_count : length (heard_of (lanes_of pool) (notices_of log)) ≡ length (notices_of log)
  all_count =
      sym (length-map (heard_of (lanes_of pool) (notices_of log)) event_of) ∙ (ap length (kept_events pool es acc few) ∙ sym size)

  accepted_at : (i : ℕ) (n : Notice) (e : ℕ) → read_at log (place_to log i) ≡ found.At n e
      → notice_answer (agent_told (fresh_agent pool) (notices_to log i)) (reading.Whole n) ≡ 0
  unfolding notices_to
  accepted_at i n e is =
      let lt = before_end log i (ap is_notice is) in
      let more : suc i + (length log - suc i) ≡ length log = omega arith in
      let all : length (heard_of (lanes_of pool) (notices_to log (suc i))) ≡ length (notices_to log (suc i)) =
      fewer_by (lanes_of pool) log (length log - suc i) (suc i) (rw more all_count) in
      let one : notices_to log (suc i) ≡ n ∷ notices_to log i = ap (λ f. with_found f (notices_to log i)) is in
      let counts = (newest (lanes_of pool) n (notices_to log i) (rw one at all)).0 in
      let turn = both_l (eqb n.sequence (suc (length (heard_of (lanes_of pool) (notices_to log i))))) _ counts in
      let done = both_r (eqb n.sequence (suc (length (heard_of (lanes_of pool) (notices_to log i))))) _ counts in
      told_notice pool (notices_to log i) (told_follows pool _ (notices_to log i) (log_series log small i)) n
      ∙ rw turn (eqb-true _ _ done)

  -- it is kept with its sums
  pub kept_with : KeptWith pool log (sums_to log (length es))
  kept_with =
      record {
        bytes = small;
        whole = kept_whole (lanes_of pool) es acc few;
        accepted = accepted_at;
        summed = λ i good. sum_back log small (length es) i (rw size at (within_notices log i good));
      }
