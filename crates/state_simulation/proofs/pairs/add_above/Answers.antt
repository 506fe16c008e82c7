use Rattle.std.proofs.Common.{◌&&◌, ◌||◌, not, eqb, arith, ap, ◌∙◌}
use Rattle.bit_rows.specs.Tables.{has_at}
use Rattle.graph_base.specs.Runs.{place_of}
use Rattle.relation_law.specs.Rounds.{same_place}
use Rattle.relation_law.specs.Views.{view_of}
use Rattle.state_simulation.specs.Targets.{is_outranked}
use Rattle.state_simulation.proofs.pairs.add_above.Goals as goal

pub returns-in-Some-clause-bits : goal.returns-in-Some-clause-bits
returns-in-Some-clause-bits c = λ r b lr lb.
    let v = view_of c.args.maps.now.graph.now c.args.claimed.now in
    let n = c.args.n in
    let m = c.in-Some.m in
    let found = rw c.in-Some.is at c.row_before.ensures in
    let made = c.requires.before m b found.0 lb in
    let same = made ∙ ap (λ z. eqb (place_of c.args.maps.now.graph.now b) z && not (is_outranked v b m)) found.1 ∙ ap (λ z. same_place v b n && not z) (found.2 b) in
    c.or_row.ensures.bits r b (omega (arith, lr, c.requires.rows.count)) ∙ ap (λ z. has_at c.args.rows.now r b || (eqb r n && z)) same
