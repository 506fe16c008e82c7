use Rattle.std.proofs.lemmas.List.Filters.{dedup_is}
use Rattle.path_terms.proofs.Members.{settled}
use Rattle.path_terms.proofs.join.settle.Goals as goal

pub returns : goal.returns
returns c =
    settled c.args.numbers.now.items c.sort_unstable.new.self.items c.dedup.new.self.items c.sort_unstable.ensures.permutation c.sort_unstable.ensures.sorted
    (dedup_is _ _ _ c.dedup.ensures.filtered)
