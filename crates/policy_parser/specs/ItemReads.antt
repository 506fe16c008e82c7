-- Reading groups, origins and statements.
use Rattle.std.specs.Prelude.{◌≡◌, ◌≢◌, ℕ, List, Result, Ok, Err}
use Rattle.net_base.specs.Network.{PlainNet}
use Rattle.policy_tokens.specs.declared.fault.PolicyFault.{PolicyFault}
use Rattle.policy_tokens.specs.declared.fault.PolicyFault.TheVariants.{NoMemory}
use Rattle.policy_grammar.specs.declared.lexeme.Lexeme.{Lexeme}
use Rattle.policy_grammar.specs.Raw.{Item as item, RawStatement}
use Rattle.policy_grammar.specs.Items.{define_at, originate_at, statement_at}
use Rattle.policy_rules.specs.KnownNames.{Names}
use Rattle.policy_parser.specs.declared.values.GroupRead.{GroupRead}
use Rattle.policy_parser.specs.declared.values.OriginRead.{OriginRead}
use Rattle.policy_parser.specs.declared.values.StatementRead.{StatementRead}
use Rattle.policy_parser.specs.ItemValues.{IsGroup, IsOrigin, IsStatement}

module _ (bytes : List ℕ) (net : PlainNet) (known : Names) where
  -- what came back is what a group at the front of these lexemes comes to, and then these are left, unless memory ran out
  abbrev pub ReadsGroup : List Lexeme → List Lexeme → Result GroupRead PolicyFault → Type 0
  ReadsGroup ls rest (Ok v) = (name : Lexeme) × (members : List Lexeme) × (define_at ls ≡ Ok (item.Define name members, rest)) × IsGroup bytes net known name members v
  ReadsGroup ls rest (Err e) = e ≢ NoMemory → define_at ls ≡ Err e

  -- the same of a prefix with its origins
  abbrev pub ReadsOrigin : List Lexeme → List Lexeme → Result OriginRead PolicyFault → Type 0
  ReadsOrigin ls rest (Ok v) = (prefix : Lexeme) × (names : List Lexeme) × (originate_at ls ≡ Ok (item.Originate prefix names, rest)) × IsOrigin bytes net known prefix names v
  ReadsOrigin ls rest (Err e) = e ≢ NoMemory → originate_at ls ≡ Err e

  -- the same of a statement
  abbrev pub ReadsStatement : List Lexeme → List Lexeme → Result StatementRead PolicyFault → Type 0
  ReadsStatement ls rest (Ok v) = (s : RawStatement) × (statement_at ls ≡ Ok (item.State s, rest)) × IsStatement bytes net known s v
  ReadsStatement ls rest (Err e) = e ≢ NoMemory → statement_at ls ≡ Err e
