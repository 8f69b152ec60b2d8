-- `ids_ok` meets its contract: a row of ids is one where no id is past the last.
use Rattle.std.proofs.Common.{rules, ℕ, ◌≤◌, ◌<◌, ◌↔◌, length, get_or, IsTrue}
use Rattle.rules.specs.Limits.{id_max}
use Rattle.status_records.specs.Records.{no_record}
use Rattle.status_records.proofs.Rows.{all_ids}
use Rattle.status_records.proofs.ids_ok.Goals as goal

pub returns : goal.returns
returns c =
    let h : IsTrue c.all.result ↔ ((k : ℕ) → k < length c.args.rows.now → (get_or c.args.rows.now k no_record).id ≤ id_max) = search rules in
    all_ids c.args.rows.now c.all.result h
