-- Laws of one word's reading: the tests that lead to each way out say which case of the definition it is.
use Prim.Native.Nat.{ℕ, zero, suc, ◌+◌, ◌-◌, ◌%◌, ◌<◌, ◌≤◌, min}
use mathlib.Core.Path.{◌≡◌, refl, sym, ◌∙◌, ap}
use mathlib.Core.Bool.{Bool, true, false}
use mathlib.Core.List.{List}
use native.Mathlib.Omega.{arith}
use borrow.Author.Tests.{lt-ltb, le-ltb, le-leb, lt-leb, eq-eqb, ne_eqb, ltb-true, ltb-false}
use lib.ListN.{length, get_or, take, drop, set}
use lib.Dec.{eqb, ltb}
use Rattle.rules.specs.Refusals.{pick}
use Rattle.text.specs.declared.bytes.Sort.TheVariants.{Separator, Word, Digit, Hex}
use Rattle.text.specs.declared.numbers.Number.{Number}
use Rattle.console_lines.specs.declared.lines.Line.{Line}
use Rattle.text.specs.Bytes.{run_end}
use Rattle.text.specs.Numbers.{top, amount, capped, above, too_large}
use Rattle.clocks.specs.Clocks.{has_colon, is_clock, clock_ms}
use Rattle.console_commands.specs.Commands.{
  verb_of,
  limit_of,
  oversized,
  bad_hex,
  odd_hex,
  not_number,
  unknown_word,
  too_long,
  not_time,
  unread,
  do_open,
  do_close,
  do_lift,
  do_skip,
  do_write,
  when_close,
  most_of,
  crowded,
  is_timed,
  takes_hex,
  takes_kind,
  takes_act,
}
use Rattle.console_lines.specs.Lines.{
  blank,
  with_fault,
  line_ended,
  go_on,
  with_amount,
  with_digits,
  word_at,
  with_clock,
  with_number,
  with_act,
  with_kind,
  with_hex,
  with_word,
  hash,
  line_ends_at,
  step,
  with_verb,
  longest,
  begun,
  read_on,
}

-- ---- a number and its limit

-- a number as it is handed on is above a limit when the number itself is
held_above : (limit v : ℕ) → limit ≤ top → (t u : Bool) → eqb limit 0 ≡ t → ltb top v ≡ u
    → pick t false (pick u true (ltb limit (min v top))) ≡ pick t false (ltb limit v)
held_above limit v h true u e f = refl
held_above limit v h false true e f =
    let big : top < v = ltb-true _ _ f in
    let far : limit < v = omega arith in
    sym (lt-ltb _ _ far)
held_above limit v h false false e f =
    let small : v ≤ top = ltb-false _ _ f in
    let held : min v top ≡ v = omega arith in
    ap (ltb limit) held

pub above_capped : (limit v : ℕ) → limit ≤ top → above limit (capped v) ≡ too_large limit v
unfolding above capped too_large
above_capped limit v h = held_above limit v h _ _ refl refl

-- ---- one word: HEX, a kind, a number

module _ (s : List ℕ) (l : Line) (a e : ℕ) where
  pub hex_bad : (p : ℕ) → p ≡ run_end Hex s a → p < e → with_fault l bad_hex p ≡ with_hex s l a e
  unfolding with_hex
  hex_bad p q h = rw (← q, lt-ltb _ _ h)

  pub hex_odd : (p : ℕ) → p ≡ run_end Hex s a → e ≤ p → (e - a) % 2 ≡ 1 → with_fault l odd_hex a ≡ with_hex s l a e
  unfolding with_hex
  hex_odd p q h o = rw (← q, le-ltb _ _ h, eq-eqb _ _ o)

  pub hex_whole : (p : ℕ) → p ≡ run_end Hex s a → e ≤ p → ((e - a) % 2 ≡ 1 → ⊥)
      → record { command = l.command; fault = l.fault; place = e; count = 1; numbers = set (set l.numbers 0 a) 1 e }
      ≡ with_hex s l a e
  unfolding with_hex
  hex_whole p q h o = rw (← q, le-ltb _ _ h, ne_eqb _ _ o)

  pub kind_low : (v : ℕ) → v ≡ verb_of s → v < do_open → with_fault l unknown_word a ≡ with_kind s l a e
  unfolding with_kind
  kind_low v q h = rw (← q, lt-leb _ _ h)

  pub kind_high : (v : ℕ) → v ≡ verb_of s → do_open ≤ v → do_skip < v → with_fault l unknown_word a ≡ with_kind s l a e
  unfolding with_kind
  kind_high v q h g = rw (← q, le-leb _ _ h, lt-leb _ _ g)

  pub kind_told : (v : ℕ) → v ≡ verb_of s → do_open ≤ v → v ≤ do_skip
      → record { command = do_write + v; fault = l.fault; place = e; count = l.count; numbers = l.numbers }
      ≡ with_kind s l a e
  unfolding with_kind
  kind_told v q h g = rw (← q, le-leb _ _ h, le-leb _ _ g)

  pub digits_bad : (p : ℕ) → p ≡ run_end Digit s a → p < e → with_fault l not_number p ≡ with_digits s l a e
  unfolding with_digits
  digits_bad p q h = rw (← q, lt-ltb _ _ h)

  pub digits_whole : (p : ℕ) → p ≡ run_end Digit s a → e ≤ p → with_amount l a e (amount 0 (drop a s)) ≡ with_digits s l a e
  unfolding with_digits
  digits_whole p q h = rw (← q, le-ltb _ _ h)

  pub clock_right : (t : Bool) → t ≡ is_clock s → t ≡ true → with_amount l a e (clock_ms s) ≡ with_clock s l a e
  unfolding with_clock
  clock_right t f y = rw (← f, y)

  pub clock_wrong : (t : Bool) → t ≡ is_clock s → t ≡ false → with_fault l not_time a ≡ with_clock s l a e
  unfolding with_clock
  clock_wrong t f n = rw (← f, n)

-- a number as it is handed on: above its limit, or the next of the command
module _ (l : Line) (a e m : ℕ) (r : m ≡ limit_of l.command l.count) (small : m ≤ top) (n : Number) (v : ℕ)
    (is : n ≡ capped v) (t : Bool) (f : t ≡ above m n) where
  amount_told : t ≡ too_large (limit_of l.command l.count) v
  amount_told = f ∙ ap (above m) is ∙ above_capped m v small ∙ ap (λ (k : ℕ). too_large k v) r

  pub amount_large : t ≡ true → with_fault l (oversized l.command) a ≡ with_amount l a e v
  unfolding with_amount
  amount_large y = rw (← amount_told, y)

  pub amount_whole : t ≡ false
      → record {
        command = l.command;
        fault = l.fault;
        place = e;
        count = l.count + 1;
        numbers = set l.numbers l.count n.value;
      }
      ≡ with_amount l a e v
  unfolding with_amount go_on capped
  amount_whole y = rw (← amount_told, y, is)

-- a word that ends at e: a time of the clock or digits, an event or a number
module _ (s : List ℕ) (l : Line) (a e : ℕ) (q : e ≡ run_end Word s a) where
  module _ (t : Bool) (f : t ≡ is_timed l.command l.count) where
    pub number_clock : t ≡ true → (u : Bool) → u ≡ has_colon (take (e - a) (drop a s)) → u ≡ true
        → with_clock (take (e - a) (drop a s)) l a e ≡ with_number s l a e
    unfolding with_number word_at
    number_clock y u g z = rw (← q, ← f, y, ← g, z)

    pub number_plain : t ≡ true → (u : Bool) → u ≡ has_colon (take (e - a) (drop a s)) → u ≡ false
        → with_digits s l a e ≡ with_number s l a e
    unfolding with_number word_at
    number_plain y u g z = rw (← q, ← f, y, ← g, z)

    pub number_untimed : t ≡ false → with_digits s l a e ≡ with_number s l a e
    unfolding with_number
    number_untimed n = rw (← f, n)

  module _ (v : ℕ) (f : v ≡ verb_of (take (e - a) (drop a s))) where
    pub act_low : v < do_close → with_number s l a e ≡ with_act s l a e
    unfolding with_act word_at
    act_low h = rw (← q, ← f, lt-leb _ _ h)

    pub act_high : do_close ≤ v → do_lift < v → with_number s l a e ≡ with_act s l a e
    unfolding with_act word_at
    act_high h g = rw (← q, ← f, le-leb _ _ h, lt-leb _ _ g)

    pub act_told : do_close ≤ v → v ≤ do_lift
        → record { command = when_close + (v - do_close); fault = l.fault; place = e; count = l.count; numbers = l.numbers }
        ≡ with_act s l a e
    unfolding with_act word_at
    act_told h g = rw (← q, ← f, le-leb _ _ h, le-leb _ _ g)

-- ---- which of them the next word is

module _ (s : List ℕ) (l : Line) (a m : ℕ) (q : m ≡ most_of l.command) where
  pub word_crowded : m ≤ l.count → with_fault l (crowded l.command) a ≡ with_word s l a
  unfolding with_word
  word_crowded h = rw (← q, le-leb _ _ h)

  module _ (h : l.count < m) (t : Bool) (f : t ≡ takes_hex l.command) (e : ℕ) (g : e ≡ run_end Word s a) where
    pub word_hex : t ≡ true → with_hex s l a e ≡ with_word s l a
    unfolding with_word
    word_hex y = rw (← q, lt-leb _ _ h, ← f, y, ← g)

    module _ (n : t ≡ false) (u : Bool) (k : u ≡ takes_kind l.command l.count) where
      pub word_kind : u ≡ true → with_kind (take (e - a) (drop a s)) l a e ≡ with_word s l a
      unfolding with_word word_at
      word_kind y = rw (← q, lt-leb _ _ h, ← f, n, ← k, y, ← g)

      module _ (o : u ≡ false) (w : Bool) (j : w ≡ takes_act l.command l.count) where
        pub word_act : w ≡ true → with_act s l a e ≡ with_word s l a
        unfolding with_word
        word_act y = rw (← q, lt-leb _ _ h, ← f, n, ← k, o, ← j, y, ← g)

        pub word_number : w ≡ false → with_number s l a e ≡ with_word s l a
        unfolding with_word
        word_number y = rw (← q, lt-leb _ _ h, ← f, n, ← k, o, ← j, y, ← g)

-- ---- the next word, or the line's end

-- where the words do not end, there is a word
pub word_there : (s : List ℕ) (a : ℕ) → line_ends_at s a ≡ false → a < length s
unfolding line_ends_at
word_there s a = go (ltb a (length s)) refl
  where
    go : (t : Bool) → ltb a (length s) ≡ t → pick t (eqb (get_or s a 0) hash) true ≡ false → a < length s
    go true e h = ltb-true _ _ e
    go false e h = let z : ◌≡◌ {A = ℕ} 0 1 = cc in omega arith

module _ (s : List ℕ) (l : Line) (a : ℕ) (q : a ≡ run_end Separator s l.place) (t : Bool) (f : t ≡ line_ends_at s a) where
  pub step_end : t ≡ true → line_ended l a ≡ step s l
  unfolding step
  step_end y = rw (← q, ← f, y)

  pub step_word : t ≡ false → with_word s l a ≡ step s l
  unfolding step
  step_word n = rw (← q, ← f, n)

-- ---- the first word

module _ (s : List ℕ) where
  pub begun_long : longest < length s → with_fault blank too_long longest ≡ begun s
  unfolding begun
  begun_long h = rw (lt-ltb _ _ h)

  module _ (h : length s ≤ longest) (a : ℕ) (q : a ≡ run_end Separator s 0) (t : Bool) (f : t ≡ line_ends_at s a) where
    pub begun_blank : t ≡ true → blank ≡ begun s
    unfolding begun
    begun_blank y = rw (le-ltb _ _ h, ← q, ← f, y)

    pub begun_verb : t ≡ false → (e : ℕ) → e ≡ run_end Word s a
        → with_verb (verb_of (take (e - a) (drop a s))) a e ≡ begun s
    unfolding begun word_at
    begun_verb n e r = rw (le-ltb _ _ h, ← q, ← f, n, ← r)

-- ---- the reading's turns

-- a turn of the reading, and its two ways out
module _ (s : List ℕ) (l : Line) where
  pub read_on_lem : (n m : ℕ) → n ≡ suc m → l.fault ≡ unread → read_on m s (step s l) ≡ read_on n s l
  unfolding read_on
  read_on_lem n m e h = rw (e, eq-eqb _ _ h)

  pub read_stop : (n : ℕ) → (l.fault ≡ unread → ⊥) → l ≡ read_on n s l
  unfolding read_on
  read_stop zero h = refl
  read_stop (suc n) h = rw (ne_eqb _ _ h)

  pub read_none : (n : ℕ) → n ≡ 0 → l ≡ read_on n s l
  unfolding read_on
  read_none n e = rw e
