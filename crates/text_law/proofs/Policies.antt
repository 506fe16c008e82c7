-- A text that is read as a policy means it.
use Rattle.std.proofs.Common.{◌≡◌, ℕ, List, [], map, reverse, Ok, subst, append-nil}
use Rattle.net_base.specs.Network.{PlainNet}
use Rattle.policy_base.specs.Policies.{PlainPolicy}
use Rattle.policy_grammar.specs.Lexemes.{lexeme_of}
use Rattle.policy_parser.specs.Spelled.{spelled}
use Rattle.policy_law.specs.Texts.{IsPolicyTextOf}
use Rattle.policy_law.specs.Senses.{below}
use Rattle.policy_law.proofs.Texts.{policies_are_meant}
use Rattle.text_law.specs.PolicyText.{AreItems, MeansPolicy}
use Rattle.text_law.proofs.Items.{items_valued}

pub texts_mean : (net : PlainNet) (bytes : List ℕ) (policy : PlainPolicy) → IsPolicyTextOf net bytes policy → MeansPolicy net bytes policy
texts_mean net bytes policy m = record {
  utf8 = m.utf8;
  tokens = m.tokens;
  cut = m.cut;
  items =
      subst (λ (p : PlainPolicy). AreItems net bytes (below net bytes []) p.origins p.statements (map (lexeme_of bytes) m.tokens)) m.value
      (items_valued net bytes [] m.items (reverse m.items) (append-nil (reverse m.items)) m.written m.fine);
}

pub read_policies_are_meant : (net : PlainNet) (bytes : List ℕ) (policy : PlainPolicy) → spelled net bytes ≡ Ok policy → MeansPolicy net bytes policy
read_policies_are_meant net bytes policy h = texts_mean net bytes policy (policies_are_meant net bytes policy h)
