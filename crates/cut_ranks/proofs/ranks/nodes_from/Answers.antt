use Rattle.std.proofs.Common.{[], ◌∙◌}
use Rattle.std.proofs.lemmas.List.{get_or_read}
use Rattle.cut_ranks.proofs.ranks.nodes_from.Goals as goal

pub returns : goal.returns
returns c = c.as_slice.ensures ∙ get_or_read c.args.lists.now c.args.node c.index-lists-node.result c.requires c.index-lists-node.is []
