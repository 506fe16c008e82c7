-- What is told of the items of a text that were read up to a place, without where it lies in memory.
use Rattle.std.specs.Prelude.{ℕ, ◌+◌, Bool, true, false, List, [], ◌∷◌, ◌++◌, Result, Ok, Err, ⊤}
use Rattle.std.specs.List.{list_any}
use Rattle.policy_tokens.specs.declared.limits.TheConstants.{DEFINITIONS}
use Rattle.policy_base.specs.declared.limits.TheConstants.{ORIGINS, PATTERNS, PREFIXES, STATEMENTS}
use Rattle.net_base.specs.declared.loc.LocSet.{LocSet}
use Rattle.policy_tokens.specs.declared.kind.Kind.TheVariants as kind
use Rattle.net_base.specs.declared.place.Place.{Place}
use Rattle.net_base.specs.Network.{PlainNet}
use Rattle.net_base.specs.Prefixes.{PlainPrefix, same_prefix}
use Rattle.net_base.specs.SetOperations.{size_of}
use Rattle.net_base.specs.Steps.{◌>>=◌}
use Rattle.policy_tokens.specs.declared.fault.PolicyFault.{PolicyFault}
use Rattle.policy_tokens.specs.declared.fault.PolicyFault.TheVariants.{OriginTwice, Twice}
use Rattle.policy_grammar.specs.declared.lexeme.Lexeme.{Lexeme}
use Rattle.policy_rules.specs.Checks.{text}
use Rattle.policy_rules.specs.Counts.{capped, within}
use Rattle.policy_rules.specs.KeptNames.{with_kept_group}
use Rattle.policy_rules.specs.KnownNames.{Names, net_names}
use Rattle.policy_rules.specs.KnownView.{plain_names}
use Rattle.policy_rules.specs.PrefixKeys.{prefixes_of}
use Rattle.policy_parser.specs.declared.once.Once.{Once}
use Rattle.policy_parser.specs.declared.told.Amounts.{Amounts}
use Rattle.policy_parser.specs.declared.told.Rules.{Rules}
use Rattle.policy_parser.specs.declared.told.Told.{Told}
use Rattle.policy_parser.specs.declared.values.OriginRead.{OriginRead}
use Rattle.policy_parser.specs.declared.values.StatementRead.{StatementRead}
use Rattle.policy_parser.specs.declared.values.ItemRead.{ItemRead}
use Rattle.policy_parser.specs.declared.values.ItemRead.TheVariants as read
use Rattle.policy_parser.specs.Spelled.{none_at}

-- the first of two faults
abbrev pub first_told : Result ⊤ PolicyFault → Result ⊤ PolicyFault → Result ⊤ PolicyFault
first_told first next = first >>= λ _. next

-- whether a figure is a prefix
abbrev pub figure_told : Result PlainPrefix PolicyFault → Result ⊤ PolicyFault
figure_told figure = figure >>= λ _. Ok tt

-- the second one, unless something is broken
abbrev pub unless_broken : {A : Type 0} → Result ⊤ PolicyFault → A → A → A
unless_broken (Ok x) before next = next
unless_broken (Err e) before next = before

-- the prefixes that were originated, and the first figure that is no prefix or one of those before it
pub record PlainOnce : Type 0 where
  pub before : List PlainPrefix
  pub fault : Result ⊤ PolicyFault

abbrev pub plain_once : Once → PlainOnce
plain_once o = record { before = prefixes_of o.before.keys; fault = o.fault }

abbrev pub none_originated : PlainOnce
none_originated = record { before = []; fault = Ok tt }

-- a prefix more, which is one of those before it or not
abbrev pub with_one : PlainOnce → Place → PlainPrefix → Bool → PlainOnce
with_one o place p true = record { before = o.before; fault = Err (OriginTwice place) }
with_one o place p false = record { before = o.before ++ p ∷ []; fault = Ok tt }

-- a figure more
abbrev pub with_figure : PlainOnce → Place → Result PlainPrefix PolicyFault → PlainOnce
with_figure o place (Ok p) = with_one o place p (list_any (same_prefix p) o.before)
with_figure o place (Err e) = record { before = o.before; fault = Err e }

abbrev pub with_prefix : PlainOnce → Place → Result PlainPrefix PolicyFault → PlainOnce
with_prefix o place figure = unless_broken o.fault o (with_figure o place figure)

pub record PlainTold : Type 0 where
  pub net : PlainNet
  pub known : Names
  pub names : Result ⊤ PolicyFault
  pub rules : Rules
  pub once : PlainOnce
  pub amounts : Amounts

abbrev pub plain_told : Told → PlainTold
plain_told t = record { net = t.known.net.now; known = plain_names t.known; names = t.names; rules = t.rules; once = plain_once t.once; amounts = t.amounts }

-- no rule is broken yet
abbrev pub all_kept : Rules
all_kept = record { figures = Ok tt; ranks = Ok tt; routers = Ok tt; calls = Ok tt; places = Ok tt }

abbrev pub no_amounts : Amounts
no_amounts = record { definitions = 0; statements = 0; patterns = 0; prefixes = 0; pairs = 0 }

-- nothing was read but the names of a network
abbrev pub nothing_told : PlainNet → PlainTold
nothing_told net = record { net = net; known = net_names net; names = Ok tt; rules = all_kept; once = none_originated; amounts = no_amounts }

abbrev pub rules_with_origin : Rules → OriginRead → Rules
rules_with_origin r o = record { figures = first_told r.figures (figure_told o.prefix); ranks = r.ranks; routers = first_told r.routers o.routers; calls = r.calls; places = r.places }

abbrev pub rules_with_state : Rules → StatementRead → Rules
rules_with_state r s =
    record {
      figures = first_told r.figures s.figures;
      ranks = first_told r.ranks s.ranks;
      routers = r.routers;
      calls = first_told r.calls
          s.calls;
      places = first_told r.places s.places;
    }

abbrev pub amounts_with_group : Amounts → Amounts
amounts_with_group a = record { definitions = capped (a.definitions + 1); statements = a.statements; patterns = a.patterns; prefixes = a.prefixes; pairs = a.pairs }

abbrev pub amounts_with_origin : Amounts → LocSet → Amounts
amounts_with_origin a s = record { definitions = a.definitions; statements = a.statements; patterns = a.patterns; prefixes = capped (a.prefixes + 1); pairs = capped (a.pairs + size_of s) }

abbrev pub amounts_with_state : Amounts → ℕ → Amounts
amounts_with_state a patterns = record { definitions = a.definitions; statements = capped (a.statements + 1); patterns = capped (a.patterns + patterns); prefixes = a.prefixes; pairs = a.pairs }

-- a name is unknown
abbrev pub with_unknown : PlainTold → PolicyFault → PlainTold
with_unknown t e = record { net = t.net; known = t.known; names = Err e; rules = t.rules; once = t.once; amounts = t.amounts }

-- a group more, with the set of its members
abbrev pub with_members : List ℕ → PlainTold → Lexeme → Result LocSet PolicyFault → PlainTold
with_members bytes t name (Ok s) =
    record {
      net = t.net;
      known = with_kept_group t.net t.known name.place
          (text bytes name) s;
      names = t.names;
      rules = t.rules;
      once = t.once;
      amounts = amounts_with_group t.amounts;
    }
with_members bytes t name (Err e) = with_unknown t e

-- a prefix more, with the set of its origins
abbrev pub with_origins : PlainTold → OriginRead → Result LocSet PolicyFault → PlainTold
with_origins t o (Ok s) =
    record {
      net = t.net;
      known = t.known;
      names = t.names;
      rules = rules_with_origin t.rules o;
      once = with_prefix t.once o.place
          o.prefix;
      amounts = amounts_with_origin t.amounts s;
    }
with_origins t o (Err e) = with_unknown t e

-- a statement more
abbrev pub with_state : PlainTold → StatementRead → PlainTold
with_state t s = record { net = t.net; known = t.known; names = s.names; rules = rules_with_state t.rules s; once = t.once; amounts = amounts_with_state t.amounts s.patterns }

abbrev pub with_known_item : List ℕ → PlainTold → ItemRead → PlainTold
with_known_item bytes t (read.Group g) = with_members bytes t g.name g.set
with_known_item bytes t (read.Origin o) = with_origins t o o.at
with_known_item bytes t (read.State s) = with_state t s

-- An item more. Nothing is told behind a name that is unknown.
abbrev pub with_item : List ℕ → PlainTold → ItemRead → PlainTold
with_item bytes t v = unless_broken t.names t (with_known_item bytes t v)

-- what is told of groups, statements, patterns and originated prefixes
abbrev pub limits_fault : Amounts → Result ⊤ PolicyFault
limits_fault a = do
  _ ← within kind.Definitions DEFINITIONS a.definitions
  _ ← within kind.Statements STATEMENTS a.statements
  _ ← within kind.Patterns PATTERNS a.patterns
  within kind.Prefixes PREFIXES a.prefixes

-- the first rule that is broken, or the first limit that is passed
unfoldable pub first_fault : PlainTold → Result ⊤ PolicyFault
first_fault t = do
  _ ← t.names
  _ ← none_at Twice t.known.twice
  _ ← t.rules.figures
  _ ← t.rules.ranks
  _ ← t.rules.routers
  _ ← t.once.fault
  _ ← limits_fault t.amounts
  _ ← within kind.Origins ORIGINS t.amounts.pairs
  _ ← t.rules.calls
  t.rules.places
