-- A part of a record, of which bytes are missing at the end, never verifies.
-- Rests on the length that a record says.
use mathlib.Core.Path.{◌≡◌, sym, ap, ◌∙◌}
use mathlib.Core.Bool.{false}
use mathlib.Core.List.{List, ◌++◌}
use Prim.Native.Nat.{ℕ, ◌+◌, ◌≤◌, ◌<◌}
use native.Mathlib.Nat.{add-zero, zero-add}
use native.Mathlib.Omega.{arith}
use lib.ListN.{length, length-append}
use Rattle.rules.proofs.Tests.{fails}
use Rattle.notice_fields.specs.Numbers.{Bytes}
use Rattle.notice_fields.proofs.Has.{Has}
use Rattle.journal_records.specs.Records.{record_least, record_of, payload_size, verifies_at}
use Rattle.journal_records.proofs.Standing.{verified}
use Rattle.journal_records.proofs.Laid.{length_record}
use Rattle.journal_records.proofs.RoundTrip.{Recordable, size_is}
use Rattle.journal_records.proofs.Windows.{number_before, verifies_behind}

module _ (identity : List ℕ) (small : Bytes identity) (n kind : ℕ) (payload : List ℕ) (r : Recordable n kind payload)
    (before part missing : List ℕ) (is : part ++ missing ≡ record_of identity n kind payload) (some : 0 < length missing) where
  abbrev written : List ℕ
  written = record_of identity n kind payload

  all : Has written 0 written
  all j lt = rw zero-add

  size_there : record_least ≤ length part → payload_size part 0 ≡ length payload
  size_there long =
      sym (number_before part missing (0 + 9) 2 (omega arith))
      ∙ (ap (λ (bs : List ℕ). payload_size bs 0) is ∙ size_is identity small n kind payload r written 0 all)

  pub part_never_verifies : verifies_at identity (before ++ part) (length before) ≡ false
  part_never_verifies =
      let at : length before + 0 ≡ length before = add-zero (length before) in
      rw at at (verifies_behind identity before part 0)
      ∙ fails (verifies_at identity part 0)
      (λ t.
      let w = verified identity part 0 t in
      let size = size_there (omega (arith, w.there)) in
      omega (arith, w.ends, size, ap length is, length-append part missing, length_record identity n kind payload))
