-- The policy that a text spells, or the rule that it breaks.
use Rattle.std.specs.Prelude.{ℕ, List, [], length, sum_by, Option, Some, None, Result, Ok, Err, ⊤}
use Rattle.policy_base.specs.declared.limits.TheConstants.{ORIGINS}
use Rattle.net_base.specs.declared.place.Place.{Place}
use Rattle.policy_tokens.specs.declared.kind.Kind.TheVariants as kind
use Rattle.net_base.specs.Network.{PlainNet}
use Rattle.net_base.specs.Steps.{◌>>=◌}
use Rattle.policy_tokens.specs.declared.fault.PolicyFault.{PolicyFault}
use Rattle.policy_tokens.specs.declared.fault.PolicyFault.TheVariants.{Deep, Twice}
use Rattle.policy_tokens.specs.Places.{place_of}
use Rattle.policy_tokens.specs.Tokens.{tokens_of}
use Rattle.policy_grammar.specs.Raw.{Item}
use Rattle.policy_grammar.specs.Lexemes.{lexemes_of}
use Rattle.policy_grammar.specs.Deep.{first_deep}
use Rattle.policy_grammar.specs.Items.{items_of}
use Rattle.policy_rules.specs.KnownNames.{Names, net_names}
use Rattle.policy_rules.specs.Checks.{each, all_learnt}
use Rattle.policy_rules.specs.Figures.{figures_fine}
use Rattle.policy_rules.specs.Ranks.{ranks_fine}
use Rattle.policy_rules.specs.Origins.{origins_fine, once_from}
use Rattle.policy_rules.specs.Counts.{capped, within, items_within, calls_within, paths_within}
use Rattle.policy_base.specs.declared.policy.Origin.{Origin}
use Rattle.net_base.specs.SetOperations.{size_of}
use Rattle.policy_base.specs.Policies.{PlainPolicy}
use Rattle.policy_values.specs.Built.{origins_of, statements_of}

-- this fault at the place, if there is one
abbrev pub none_at : (Place → PolicyFault) → Option Place → Result ⊤ PolicyFault
none_at fault (Some p) = Err (fault p)
none_at fault None = Ok tt

-- the items of a text, by its tokens and the grammar
unfoldable pub items_spelled : List ℕ → Result (List Item) PolicyFault
items_spelled bytes = do
  tokens ← tokens_of bytes
  _ ← none_at Deep (first_deep 0 (lexemes_of bytes tokens (place_of bytes (length bytes))))
  items_of (lexemes_of bytes tokens (place_of bytes (length bytes)))

-- the names of a net and of the groups of the items, each of which is defined once and above its uses
unfoldable pub names_spelled : List ℕ → PlainNet → List Item → Result Names PolicyFault
names_spelled bytes net items = do
  known ← all_learnt bytes (net_names net) items
  _ ← none_at Twice known.twice
  Ok known

-- the rules on prefixes, ranks and origins
unfoldable pub rules_kept : List ℕ → PlainNet → Names → List Item → Result ⊤ PolicyFault
rules_kept bytes net known items = do
  _ ← each (figures_fine bytes) items
  _ ← each ranks_fine items
  _ ← each (origins_fine bytes net known) items
  once_from bytes [] items

-- how many pairs of a prefix and an origin there are
abbrev pub pairs : List Origin → ℕ
pairs origins = capped (sum_by (λ (o : Origin). size_of o.at) origins)

-- the `originate` items, within the limits of all that isn't in a statement
unfoldable pub origins_spelled : List ℕ → Names → List Item → Result (List Origin) PolicyFault
origins_spelled bytes known items = do
  _ ← items_within items
  origins ← origins_of bytes known [] items
  _ ← within kind.Origins ORIGINS (pairs origins)
  Ok origins

-- the policy of items that keep the rules, within the limits
unfoldable pub policy_built : List ℕ → PlainNet → Names → List Item → Result PlainPolicy PolicyFault
policy_built bytes net known items = do
  origins ← origins_spelled bytes known items
  _ ← each calls_within items
  _ ← each paths_within items
  statements ← statements_of bytes net known [] items
  Ok (record { origins = origins; statements = statements })

-- The policy that a text spells for a net. Of several rules that are broken the first one here decides, and of that
-- one the first token that breaks it.
unfoldable pub spelled : PlainNet → List ℕ → Result PlainPolicy PolicyFault
spelled net bytes = do
  items ← items_spelled bytes
  known ← names_spelled bytes net items
  _ ← rules_kept bytes net known items
  policy_built bytes net known items
