-- The plain reading of the numbers by which lines are ordered.
use Rattle.config_base.specs.Configs.{Key}
use Rattle.config_reader.specs.declared.order.Numbers.{Numbers}

abbrev pub key : Numbers → Key
key n = record { first = n.first; second = n.second; third = n.third }
