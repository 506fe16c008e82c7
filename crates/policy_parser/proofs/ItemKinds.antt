-- Items that are read by their words with what they come to.
use Rattle.std.proofs.Common.{◌≡◌, ℕ, List, Some, None, Ok, refl, ◌∙◌}
use Rattle.net_base.specs.Network.{PlainNet}
use Rattle.policy_grammar.specs.declared.lexeme.Lexeme.{Lexeme}
use Rattle.policy_grammar.specs.declared.symbol.Symbol.TheVariants as symbol
use Rattle.policy_grammar.specs.Raw.Item.{Define, Originate, State}
use Rattle.policy_grammar.specs.Reading.{past}
use Rattle.policy_grammar.specs.Items.{define_at, originate_at, statement_at, item_at}
use Rattle.policy_rules.specs.KnownNames.{Names}
use Rattle.policy_parser.specs.declared.values.GroupRead.{GroupRead}
use Rattle.policy_parser.specs.declared.values.OriginRead.{OriginRead}
use Rattle.policy_parser.specs.declared.values.StatementRead.{StatementRead}
use Rattle.policy_parser.specs.declared.values.ItemRead.TheVariants as read
use Rattle.policy_parser.specs.ItemReads.{ReadsGroup, ReadsOrigin, ReadsStatement}
use Rattle.policy_parser.specs.ItemValues.{ReadsItem}

-- an item that begins with `define`
pub defined : (ls a : List Lexeme) (l : Lexeme) → past symbol.Define ls ≡ Some (l, a) → item_at ls ≡ define_at a
unfolding item_at
defined ls a l is = rw is refl

-- one that begins with `originate`
originated : (ls a : List Lexeme) (l : Lexeme) → past symbol.Define ls ≡ None → past symbol.Originate ls ≡ Some (l, a) → item_at ls ≡ originate_at a
unfolding item_at
originated ls a l away is = rw (away, is) refl

-- one that begins with neither
stated : (ls : List Lexeme) → past symbol.Define ls ≡ None → past symbol.Originate ls ≡ None → item_at ls ≡ statement_at ls
unfolding item_at
stated ls away too = rw (away, too) refl

module _ (bytes : List ℕ) (net : PlainNet) (known : Names) where
  pub group_item : (ls a rest : List Lexeme) (l : Lexeme) (v : GroupRead) → past symbol.Define ls ≡ Some (l, a)
      → ReadsGroup bytes net known a rest (Ok v) → ReadsItem bytes net known ls rest (Ok (read.Group v))
  group_item ls a rest l v is x = (Define x.0 x.1, defined ls a l is ∙ x.2, x.3)

  pub origin_item : (ls a rest : List Lexeme) (l : Lexeme) (v : OriginRead) → past symbol.Define ls ≡ None → past symbol.Originate ls ≡ Some (l, a)
      → ReadsOrigin bytes net known a rest (Ok v) → ReadsItem bytes net known ls rest (Ok (read.Origin v))
  origin_item ls a rest l v away is x = (Originate x.0 x.1, originated ls a l away is ∙ x.2, x.3)

  pub statement_item : (ls rest : List Lexeme) (v : StatementRead) → past symbol.Define ls ≡ None → past symbol.Originate ls ≡ None
      → ReadsStatement bytes net known ls rest (Ok v) → ReadsItem bytes net known ls rest (Ok (read.State v))
  statement_item ls rest v away too x = (State x.0, stated ls away too ∙ x.1, x.2)
