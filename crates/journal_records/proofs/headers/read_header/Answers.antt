-- `read_header` meets its contract: each way out has decided its tests.
use native.Mathlib.Omega.{arith}
use mathlib.Core.Path.{sym, ◌∙◌}
use lib.Seq.{length-take-le}
use borrow.Author.Tests.{lt-ltb, le-ltb, eq-eqb, ne_eqb}
use Rattle.journal_records.specs.Header.{header_found}
use Rattle.journal_records.proofs.headers.read_header.Goals as goal

pub returns-then-bytes-lt-SIZE : goal.returns-then-bytes-lt-SIZE
unfolding header_found
returns-then-bytes-lt-SIZE c = rw (lt-ltb _ _ c.if-bytes-lt-SIZE.true)

pub returns-then-word-ne-LETTERS : goal.returns-then-word-ne-LETTERS
unfolding header_found
returns-then-word-ne-LETTERS c =
    rw (
      le-ltb _ _ c.if-bytes-lt-SIZE.false,
      ne_eqb _ _ (λ e. c.if-word-ne-LETTERS.true (c.get-word.ensures.0 ∙ e)),
      ← c.get-word.ensures.0,
      c.other_word.ensures,
    )

pub slice_bounds-sum-end : goal.slice_bounds-sum-end
slice_bounds-sum-end c = sym (length-take-le 60 c.args.bytes.now (omega (arith, c.if-bytes-lt-SIZE.false)))

pub returns-then-get-total : goal.returns-then-get-total
unfolding header_found
returns-then-get-total c =
    rw (
      le-ltb _ _ c.if-bytes-lt-SIZE.false,
      eq-eqb _ _ (sym c.get-word.ensures.0 ∙ c.if-word-ne-LETTERS.false),
      ne_eqb _ _ (λ e. c.if-get-total.true (c.get.ensures.0 ∙ (e ∙ sym c.sum-total.ensures))),
    )

pub returns-then-not-within : goal.returns-then-not-within
unfolding header_found
returns-then-not-within c =
    rw (
      le-ltb _ _ c.if-bytes-lt-SIZE.false,
      eq-eqb _ _ (sym c.get-word.ensures.0 ∙ c.if-word-ne-LETTERS.false),
      eq-eqb _ _ (sym c.get.ensures.0 ∙ (c.if-get-total.false ∙ c.sum-total.ensures)),
      ← c.get-pool.ensures.0,
      sym c.within.ensures ∙ c.if-not-within.true,
    )

pub returns : goal.returns
unfolding header_found
returns c =
    rw (
      le-ltb _ _ c.if-bytes-lt-SIZE.false,
      eq-eqb _ _ (sym c.get-word.ensures.0 ∙ c.if-word-ne-LETTERS.false),
      eq-eqb _ _ (sym c.get.ensures.0 ∙ (c.if-get-total.false ∙ c.sum-total.ensures)),
      ← c.get-pool.ensures.0,
      sym c.within.ensures ∙ c.if-not-within.false,
      c.get-zero.ensures.0,
      c.get-lead.ensures.0,
      c.get-least.ensures.0,
    )
