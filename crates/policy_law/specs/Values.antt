-- What the items of a policy stand for, where no rule is broken.
use Rattle.std.specs.Prelude.{ℕ, List, [], ◌∷◌, map}
use Rattle.std.specs.List.{flat_map}
use Rattle.net_base.specs.declared.loc.LocSet.{LocSet}
use Rattle.net_base.specs.Network.{PlainNet}
use Rattle.net_base.specs.NetSets.{locations}
use Rattle.policy_grammar.specs.Raw.{Arg, Arg as arg}
use Rattle.policy_base.specs.declared.policy.FromSet.{FromSet}
use Rattle.policy_base.specs.declared.policy.FromSet.TheVariants as from_set
use Rattle.policy_base.specs.declared.policy.Origin.{Origin}
use Rattle.policy_base.specs.Policies.{Ranking, prefer, either as one_of, both as all_of, negated as none_of, PlainStatement, PlainPolicy}
use Rattle.policy_values.specs.Built.{call_of}
use Rattle.policy_law.specs.Trees.{Expression, call, above, either, both, negated, Written, define, originate, state}
use Rattle.policy_law.specs.Senses.{Sense, set_of_names}
use Rattle.policy_law.specs.Figures.{prefix_of, pattern_of}

-- a set: `any` is all locations
abbrev pub set_of : PlainNet → Sense → Arg → LocSet
set_of net sense arg.Any = locations net
set_of net sense (arg.Names names) = set_of_names sense names

-- a ranked expression: a call with its sets in order, and the operators with their sides
abbrev pub ranking : PlainNet → Sense → Expression → Ranking
ranking net sense (call c) = call_of c.word (map (set_of net sense) c.args)
ranking net sense (above a p b) = prefer (ranking net sense a) (ranking net sense b)
ranking net sense (either a b) = one_of (ranking net sense a) (ranking net sense b)
ranking net sense (both a b) = all_of (ranking net sense a) (ranking net sense b)
ranking net sense (negated a) = none_of (ranking net sense a)

-- the sources: `any`, which stands also where none are named, is no list
abbrev pub sources : Sense → Arg → FromSet
sources sense arg.Any = from_set.Any
sources sense (arg.Names names) = from_set.Named (set_of_names sense names)

-- the statement of an item, if it is one
abbrev pub statement : PlainNet → List ℕ → Sense → Written → List PlainStatement
statement net bytes sense (define group members) = []
statement net bytes sense (originate prefix names) = []
statement net bytes sense (state patterns e from) = record { patterns = map (pattern_of bytes) patterns; ranked = ranking net sense e; from = sources sense from } ∷ []

-- the prefix of an item with its routers, if it is an `originate` item
abbrev pub origin : List ℕ → Sense → Written → List Origin
origin bytes sense (define group members) = []
origin bytes sense (originate prefix names) = record { prefix = prefix_of bytes prefix; at = set_of_names sense names } ∷ []
origin bytes sense (state patterns e from) = []

abbrev pub origins : List ℕ → Sense → List Written → List Origin
origins bytes sense items = flat_map (origin bytes sense) items

-- a policy: its `originate` items and its statements, each in their order
abbrev pub policy : PlainNet → List ℕ → Sense → List Written → PlainPolicy
policy net bytes sense items = record { origins = origins bytes sense items; statements = flat_map (statement net bytes sense) items }
