-- `status` meets its contract: an answer of done fills the three rows, any other leaves them as they were.
use Rattle.std.proofs.Common.{sym, length, ◌∙◌}
use Rattle.rules.proofs.Told.{told_ok}
use Rattle.status.proofs.Asked.{count_row_lem, held_row, mark_row, rows_ids}
use Rattle.agent_rows.specs.Packed.{unpacked}
use Rattle.row_calls.proofs.Listed.{done_answer, done_tested}
use Rattle.row_calls.proofs.titles.status.Goals as goal

pub fill-requires : goal.fill-requires
fill-requires c =
    let a = c.args in
    let none = sym c.status_verdict-answer.ensures ∙ told_ok _ c.if-is_ok.ensures.value in
    let s = (unpacked a.row.now).state in
    let m = length a.counts.now in
    let h = length a.held.now in
    let d = length a.marks.now in
    let answer = done_answer a.row.now a.time a.ids.now m h d none in
    record {
      counts_len = (
        count_row_lem s a.time a.ids.now m h d answer,
        (held_row s a.time a.ids.now m h d answer, mark_row s a.time a.ids.now m h d answer),
      );
      tested = (done_tested a.row.now a.time a.ids.now m h d none, rows_ids s a.time a.ids.now m h d answer);
    }
