-- `journal_files::records::put_fields` meets its contract: its parts are written one behind the other.
use Rattle.text.proofs.Pages.{then}
use Rattle.journal_files.specs.Records.{record_text}
use Rattle.journal_files.proofs.records.put_fields.Goals as goal

pub returns : goal.returns
unfolding record_text
returns c = then (then (then c.put_line.ensures c.put_line-2.ensures) c.put.ensures) c.put-2.ensures
