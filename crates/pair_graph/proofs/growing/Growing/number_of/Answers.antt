use Rattle.std.proofs.Common.{◌<◌, length, arith, sym, subst}
use Rattle.pair_graph.specs.declared.growing.Growing.{Growing}
use Rattle.pair_graph.specs.Growth.{IsExtended}
use Rattle.pair_graph.proofs.Numbered.{numbered_kept, numbered_new}
use Rattle.pair_graph.proofs.growing.Growing.number_of.Goals as goal
use Rattle.pair_graph.proofs.growing.Growing.number_of.Goals.{then-is_new+in_ok-push, else-is_new}

pub returns-clause-extended : goal.returns-clause-extended
returns-clause-extended c =
    let pairs = c.args.self.now.pairs.keys in
    let before = c.args.self.now.before.items in
    let few : length pairs < 4294967000 = omega (arith, c.if-len-ge-MAX_NODES.false, c.len.ensures.len) in
    let told = c.in_ok-number.ensures in
    let stored = told.stored in
    elim c.if-is_new.branch [
      | then-is_new+in_ok-push w ↦
          subst (λ (s : Growing). IsExtended pairs before c.args.from c.args.pair c.in_ok-number.number s.pairs.keys s.before.items) (sym w.self-is)
          (numbered_new pairs before c.args.from c.args.pair few c.requires.size c.insert_full.new.self.keys c.in_ok-number.is_new c.in_ok-number.number stored.0 told.keys told.added stored.1 stored.2
          w.push.new.self.items w.if-is_new.true w.in_ok-push.ensures.items)
      | else-is_new w ↦
          subst (λ (s : Growing). IsExtended pairs before c.args.from c.args.pair c.in_ok-number.number s.pairs.keys s.before.items) (sym w.self-is)
          (numbered_kept pairs before c.args.from c.args.pair few c.requires.size c.insert_full.new.self.keys c.in_ok-number.is_new c.in_ok-number.number stored.0 told.keys told.added stored.1 stored.2
          w.if-is_new.false)
    ]
