use Rattle.std.proofs.Common.{◌<◌, ◌++◌, List, append-nil, sym, ap, ◌∙◌, arith}
use Rattle.bit_rows.specs.Tables.{has_at}
use Rattle.policy_base.specs.Policies.{plain_statement}
use Rattle.promises_report.specs.declared.apart.ApartRanks.{ApartRanks}
use Rattle.promises_report.specs.Apart.{pairs_of, ranks_of}
use Rattle.promises_report.specs.Tables.{meet_among}
use Rattle.promises_report.proofs.Marking.{few_pairs, pairs_same}
use Rattle.promises_report.proofs.apart.push_statement.Goals as goal

pub returns-then-ranks-lt2 : goal.returns-then-ranks-lt2
returns-then-ranks-lt2 c =
    let old = c.args.pairs.now.items in
    let met = meet_among c.args.net.now c.args.cases.now c.args.number in
    let ranks = ranks_of (plain_statement c.args.statement.now).ranked in
    let few : ranks < 2 = omega (arith, c.if-ranks-lt2.true, c.ranks_of-ranks.ensures.ranks) in
    sym (append-nil old) ∙ ap (λ (ps : List ApartRanks). old ++ ps) (sym (few_pairs met c.args.number ranks few))

pub returns : goal.returns
returns c =
    let old = c.args.pairs.now.items in
    let met = meet_among c.args.net.now c.args.cases.now c.args.number in
    let ranks = c.ranks_of-ranks.result in
    c.in_ok-push_pairs.ensures
    ∙ ap (λ (ps : List ApartRanks). old ++ ps)
    (pairs_same (has_at c.in_ok-met.met) met c.args.number ranks c.in_ok-met.ensures.each ∙ ap (pairs_of met c.args.number) c.ranks_of-ranks.ensures.ranks)
