-- A record of JOURNAL.lock.
use Rattle.std.specs.Prelude.{ℕ, List, [], ◌∷◌, ◌++◌}
use Rattle.files.specs.Lines.{line_of}
use Rattle.journal_files.specs.declared.records.Record.{Record}

-- a process, a descriptor and a run of the machine, with blanks between, from a newline to the next
unfoldable pub record_text : Record → List ℕ → List ℕ
record_text r boot =
    ((line_of (10 ∷ []) r.process (32 ∷ []) ++ line_of [] r.descriptor (32 ∷ [])) ++ boot) ++ (10 ∷ [])
