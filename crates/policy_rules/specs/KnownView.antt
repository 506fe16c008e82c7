-- The names that the program knows, without where they lie in memory.
use Rattle.std.specs.Prelude.{◌++◌, map}
use Rattle.policy_rules.specs.declared.known.Known.{Known}
use Rattle.policy_rules.specs.KeptNames.{texts, stand_in}
use Rattle.policy_rules.specs.KnownNames.{Names}

abbrev pub plain_names : Known → Names
plain_names k = record { names = texts k.names.keys; sets = k.sets.items ++ map (stand_in k.net.now) k.peers.items; twice = k.twice }
