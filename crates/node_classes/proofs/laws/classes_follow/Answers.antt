use Rattle.node_classes.proofs.Stages.{classes_follow}
use Rattle.node_classes.proofs.laws.classes_follow.Goals as goal

pub returns : goal.returns
returns c = classes_follow
