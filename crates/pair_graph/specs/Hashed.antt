-- What a pair of nodes feeds to a hasher.
use Rattle.std.specs.Prelude.{◌≡◌, ℕ, ◌+◌, ◌*◌, ◌&&◌, ◌==◌, IsTrue, List, unwrap_or}
use Rattle.std.specs.Hash as fed
use Rattle.std.specs.Option.{option_eq}
use Rattle.std.proofs.Common.{ap, ◌∙◌}
use Rattle.std.proofs.lemmas.Bool.{and_parts}
use Rattle.list_law.proofs.Options.{option_eq-is}
use Rattle.pair_graph.specs.declared.pair.NodePair.{NodePair}

-- both nodes in one number; the greatest of 32 bits stands for one that is missing
abbrev pub key : ℕ → ℕ → ℕ
key first second = first * 4294967296 + second

abbrev pub key_of : NodePair → ℕ
key_of x = key (unwrap_or x.first 4294967295) (unwrap_or x.second 4294967295)

-- the same pairs feed the same
pub equal_keys : (x y : NodePair) → IsTrue (x.place == y.place && (option_eq (λ a b. a == b) x.first y.first && option_eq (λ a b. a == b) x.second y.second)) → fed.u64 (key_of x) ≡ fed.u64 (key_of y)
equal_keys x y h =
    let outer = and_parts (x.place == y.place) _ h in
    let inner = and_parts (option_eq (λ a b. a == b) x.first y.first) (option_eq (λ a b. a == b) x.second y.second) outer.1 in
    ap (λ first. fed.u64 (key (unwrap_or first 4294967295) (unwrap_or x.second 4294967295))) (option_eq-is x.first y.first inner.0)
    ∙ ap (λ second. fed.u64 (key (unwrap_or y.first 4294967295) (unwrap_or second 4294967295))) (option_eq-is x.second y.second inner.1)
