use Rattle.std.proofs.Common.{nat_eq}
use Rattle.indexmap.specs.IndexMap.{get}
use Rattle.free_tags.proofs.Counting.{counts-put}
use Rattle.free_tags.proofs.free.FreeTags.keep.Goals as goal

pub returns : goal.returns
returns c = λ tags leaves right.
    record {
      same = leaves.same;
      counts = counts-put tags (get nat_eq c.args.self.now.reached) (get nat_eq c.insert.new.self) c.args.asn c.args.reached c.in_ok-insert.ensures.updates.0 right leaves.counts;
    }
