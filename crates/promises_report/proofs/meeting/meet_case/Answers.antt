use Rattle.std.proofs.Common.{◌||◌, ap, ◌∙◌}
use Rattle.bit_rows.specs.Tables.{has_at}
use Rattle.promises_report.proofs.Marking.{row_clear, table_meets}
use Rattle.promises_report.proofs.meeting.meet_case.Goals as goal

pub meet_rows-requires-clause-clear : goal.meet_rows-requires-clause-clear
meet_rows-requires-clause-clear c = row_clear c.args.net.now c.known_net.ensures c.args.ranks c.args.graph.now c.in_ok-rows.rows c.in_ok-rows.ensures

pub returns-clause-bits : goal.returns-clause-bits
returns-clause-bits c = λ i j some_i low_i some_j low_j.
    c.meet_rows.ensures.bits i j low_i low_j
    ∙ ap (λ t. has_at c.args.met.now i j || t) (table_meets c.args.net.now c.known_net.ensures c.args.ranks c.args.graph.now c.in_ok-rows.rows c.in_ok-rows.ensures i j some_i low_i some_j low_j)
