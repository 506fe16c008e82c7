use Rattle.node_classes.proofs.Ordered.{next-way, way_next}
use Rattle.node_classes.proofs.laws.steps_are_ways.Goals as goal

pub returns : goal.returns
returns c = λ ways n l m up. (way_next ways n l m, next-way ways n l m up)
