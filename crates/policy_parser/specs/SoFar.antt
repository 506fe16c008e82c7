-- What is asked of that which is told of the items of a text, and of the policy that is kept of them.
use Rattle.std.specs.Prelude.{◌≡◌, ◌≢◌, ◌≤◌, ◌+◌, ℕ, length, List, [], ◌∷◌, ◌++◌, map, Result, Ok, Err}
use Rattle.policy_tokens.specs.declared.limits.TheConstants.{DEFINITIONS}
use Rattle.net_base.specs.declared.limits.TheConstants.{LOCATIONS}
use Rattle.policy_tokens.specs.declared.kind.Kind.TheVariants as kind
use Rattle.net_base.specs.declared.loc.LocSet.{LocSet}
use Rattle.net_base.specs.Network.{PlainNet, IsNet}
use Rattle.net_base.specs.Prefixes.{PlainPrefix}
use Rattle.net_base.specs.Steps.{◌>>=◌}
use Rattle.policy_tokens.specs.declared.fault.PolicyFault.{PolicyFault}
use Rattle.policy_tokens.specs.declared.fault.PolicyFault.TheVariants.{NoMemory}
use Rattle.policy_grammar.specs.Raw.{Item}
use Rattle.policy_rules.specs.KnownNames.{Names, net_names}
use Rattle.policy_rules.specs.Checks.{each, all_learnt}
use Rattle.policy_rules.specs.Figures.{figures_fine}
use Rattle.policy_rules.specs.Ranks.{ranks_fine}
use Rattle.policy_rules.specs.Origins.{has_peer, origins_fine, once_from}
use Rattle.policy_rules.specs.Counts.{counted, calls_within, paths_within}
use Rattle.policy_base.specs.declared.policy.Origin.{Origin}
use Rattle.policy_base.specs.Policies.{PlainPolicy, plain_statement}
use Rattle.policy_parser.specs.declared.values.ItemRead.{ItemRead}
use Rattle.policy_parser.specs.declared.values.ItemRead.TheVariants as read
use Rattle.policy_parser.specs.declared.verdicts.Kept.{Kept}
use Rattle.policy_parser.specs.declared.verdicts.Verdicts.{Verdicts}
use Rattle.policy_values.specs.Built.{origins_of, statements_of}
use Rattle.policy_parser.specs.Spelled.{pairs}
use Rattle.policy_parser.specs.Told.{PlainTold, plain_told, first_fault}

abbrev pub plain_kept : Kept → PlainPolicy
plain_kept k = record { origins = k.origins.items; statements = map plain_statement k.statements.items }

-- an origin more, if its prefix and its set were read
abbrev pub kept_origin : List Origin → Result PlainPrefix PolicyFault → Result LocSet PolicyFault → List Origin
kept_origin os (Ok p) (Ok s) = os ++ record { prefix = p; at = s } ∷ []
kept_origin os _ _ = os

-- an item more
abbrev pub kept_item : PlainPolicy → ItemRead → PlainPolicy
kept_item p (read.Group g) = p
kept_item p (read.Origin o) = record { origins = kept_origin p.origins o.prefix o.at; statements = p.statements }
kept_item p (read.State s) = record { origins = p.origins; statements = p.statements ++ plain_statement s.value ∷ [] }

-- The names of a text, and those that are known in their place: the same names, each with a peer in its set where there is
-- one in that of the text.
pub record IsLike (net : PlainNet) (k known : Names) : Type 0 where
  pub names : k.names ≡ known.names
  pub sets : map (has_peer net) k.sets ≡ map (has_peer net) known.sets
  pub twice : k.twice ≡ known.twice

-- They are those of the text as long as it has no more groups than a policy may have, and then not more than these and the
-- locations of a network.
pub record IsKnown (net : PlainNet) (k known : Names) (definitions : ℕ) : Type 0 where
  pub like : IsLike net k known
  pub same : definitions ≤ DEFINITIONS → k ≡ known
  pub few : definitions ≤ DEFINITIONS → length known.sets ≤ LOCATIONS + definitions

module _ (bytes : List ℕ) (net : PlainNet) where
  -- what each rule says of these items, all of whose names are known, and how much there is of what a limit counts
  pub record IsJudged (k : Names) (items : List Item) (t : PlainTold) : Type 0 where
    pub figures : t.rules.figures ≡ each (figures_fine bytes) items
    pub ranks : t.rules.ranks ≡ each ranks_fine items
    pub routers : t.rules.routers ≡ each (origins_fine bytes net k) items
    pub once : (rest : List Item) → once_from bytes [] (items ++ rest) ≡ (t.once.fault >>= λ _. once_from bytes t.once.before rest)
    pub definitions : t.amounts.definitions ≡ counted kind.Definitions items
    pub statements : t.amounts.statements ≡ counted kind.Statements items
    pub patterns : t.amounts.patterns ≡ counted kind.Patterns items
    pub prefixes : t.amounts.prefixes ≡ counted kind.Prefixes items
    pub pairs : t.amounts.definitions ≤ DEFINITIONS → (os : List Origin) → origins_of bytes k [] items ≡ Ok os → t.amounts.pairs ≡ pairs os
    pub calls : t.rules.calls ≡ each calls_within items
    pub places : t.rules.places ≡ each paths_within items

  -- What is told of these items: the first name that is unknown, and only if there is none, what the rules say. The names
  -- behind them are these.
  pub record IsToldOf (k : Names) (items : List Item) (t : PlainTold) : Type 0 where
    pub of : t.net ≡ net
    pub rules : IsNet net
    pub names : all_learnt bytes (net_names net) items ≡ (t.names >>= λ _. Ok k)
    pub known : IsKnown net k t.known t.amounts.definitions
    pub judged : t.names ≡ Ok tt → IsJudged k items t

  -- the same for some names
  abbrev pub IsTold : List Item → PlainTold → Type 0
  IsTold items t = (k : Names) × IsToldOf k items t

  -- the policy of these items
  pub record IsKept (known : Names) (items : List Item) (p : PlainPolicy) : Type 0 where
    pub origins : origins_of bytes known [] items ≡ Ok p.origins
    pub statements : statements_of bytes net known [] items ≡ Ok p.statements

  -- What is told of these items, and their policy as long as no rule is broken and no limit is passed.
  pub record IsSoFar (items : List Item) (v : Verdicts) : Type 0 where
    pub told : IsTold items (plain_told v.told)
    pub kept : first_fault (plain_told v.told) ≡ Ok tt → IsKept (plain_told v.told).known items (plain_kept v.kept)

  -- what came back is so of the items that reading gives, unless memory ran out
  abbrev pub ReadsItems : Result (List Item) PolicyFault → Result Verdicts PolicyFault → Type 0
  ReadsItems read (Ok v) = (items : List Item) × (read ≡ Ok items) × IsSoFar items v
  ReadsItems read (Err e) = e ≢ NoMemory → read ≡ Err e
