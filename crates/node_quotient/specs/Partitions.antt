-- Classes with their nodes.
use Rattle.std.specs.Prelude.{◌≡◌, ℕ, ◌<◌, length}
use Rattle.std.specs.List.{AllByRecursion}
use Rattle.node_quotient.specs.Splits.{AreGroups, AreNamed}
use Rattle.node_quotient.specs.declared.partition.Partition.{Partition}

-- The classes of so many nodes, with the nodes of each, and those that wait.
pub record IsPartition (count : ℕ) (p : Partition) : Type 0 where
  pub size : length p.classes.items ≡ count
  pub rows : length p.members.items ≡ count
  pub waits : length p.waits.items ≡ count
  pub met : length p.met.items ≡ count
  pub waiting : AllByRecursion (λ c. c < count) p.waiting.items
  pub named : AreNamed p.classes.items
  pub groups : AreGroups count p.classes.items p.members.items
