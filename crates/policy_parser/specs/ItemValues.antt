-- What is asked of that to which an item comes: each part of it is what one rule says of the item.
use Rattle.std.specs.Prelude.{◌≡◌, ◌≢◌, ◌≤◌, ℕ, List, length, Result, Ok, Err}
use Rattle.policy_base.specs.declared.limits.TheConstants.{PATTERNS}
use Rattle.net_base.specs.Network.{PlainNet}
use Rattle.net_base.specs.Steps.{◌>>=◌}
use Rattle.policy_base.specs.Policies.{plain_statement}
use Rattle.policy_tokens.specs.declared.fault.PolicyFault.{PolicyFault}
use Rattle.policy_tokens.specs.declared.fault.PolicyFault.TheVariants.{NoMemory}
use Rattle.policy_grammar.specs.declared.lexeme.Lexeme.{Lexeme}
use Rattle.policy_grammar.specs.Raw.{Item, Item as item, RawStatement}
use Rattle.policy_grammar.specs.Items.{item_at}
use Rattle.policy_rules.specs.KnownNames.{Names}
use Rattle.policy_rules.specs.Checks.{each, step_known, arg_known, set_of_names}
use Rattle.policy_rules.specs.Figures.{prefix_at, pattern_fine}
use Rattle.policy_rules.specs.Ranks.{ranks_fine}
use Rattle.policy_rules.specs.Origins.{routers_alone}
use Rattle.policy_rules.specs.Counts.{calls_within, paths_within}
use Rattle.policy_parser.specs.declared.values.GroupRead.{GroupRead}
use Rattle.policy_parser.specs.declared.values.OriginRead.{OriginRead}
use Rattle.policy_parser.specs.declared.values.StatementRead.{StatementRead}
use Rattle.policy_parser.specs.declared.values.ItemRead.{ItemRead}
use Rattle.policy_parser.specs.declared.values.ItemRead.TheVariants as read
use Rattle.policy_values.specs.Built.{statement_of}

module _ (bytes : List ℕ) (net : PlainNet) (known : Names) where
  pub record IsGroup (called : Lexeme) (members : List Lexeme) (v : GroupRead) : Type 0 where
    pub name : v.name ≡ called
    pub set : v.set ≡ set_of_names bytes known members

  pub record IsOrigin (figure : Lexeme) (names : List Lexeme) (v : OriginRead) : Type 0 where
    pub place : v.place ≡ figure.place
    pub prefix : v.prefix ≡ prefix_at bytes figure
    pub at : v.at ≡ set_of_names bytes known names
    pub routers : v.routers ≡ each (routers_alone bytes net known) names

  pub record IsStatement (s : RawStatement) (v : StatementRead) : Type 0 where
    pub names : v.names ≡ (each (step_known bytes known) s.ranked >>= λ _. arg_known bytes known s.from)
    pub figures : v.figures ≡ each (pattern_fine bytes) s.patterns
    pub patterns : v.patterns ≡ length s.patterns
    pub ranks : v.ranks ≡ ranks_fine (item.State s)
    pub calls : v.calls ≡ calls_within (item.State s)
    pub places : v.places ≡ paths_within (item.State s)
    pub value : v.names ≡ Ok tt → v.figures ≡ Ok tt → v.calls ≡ Ok tt → v.places ≡ Ok tt → v.patterns ≤ PATTERNS → statement_of bytes net known s ≡ Ok (plain_statement v.value)

  abbrev pub IsItem : Item → ItemRead → Type 0
  IsItem (item.Define name members) (read.Group v) = IsGroup name members v
  IsItem (item.Originate prefix names) (read.Origin v) = IsOrigin prefix names v
  IsItem (item.State s) (read.State v) = IsStatement s v
  IsItem _ _ = ⊥

  -- what came back is what an item at the front of these lexemes comes to, and then these are left, unless memory ran out
  abbrev pub ReadsItem : List Lexeme → List Lexeme → Result ItemRead PolicyFault → Type 0
  ReadsItem ls rest (Ok v) = (x : Item) × (item_at ls ≡ Ok (x, rest)) × IsItem x v
  ReadsItem ls rest (Err e) = e ≢ NoMemory → item_at ls ≡ Err e
