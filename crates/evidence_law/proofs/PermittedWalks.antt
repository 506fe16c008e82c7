-- What is known of a walk that a statement permits.
use Rattle.std.proofs.Common.{◌≡◌, ℕ, Bool, true, List}
use Rattle.std.specs.Prelude.{◌&&◌, is_some}
use Rattle.std.proofs.lemmas.Bool.{and_parts}
use Rattle.net_base.specs.Network.{PlainNet}
use Rattle.policy_base.specs.Policies.{PlainStatement}
use Rattle.policy_base.specs.Meaning.{rank_of, at_first}
use Rattle.policy_base.specs.Walks.{is_walk}
use Rattle.policy_base.specs.Permitted.{from_holds, ends_at_origin}
use Rattle.evidence_law.specs.Faithful.{is_walk_to, permits}

-- the parts of a walk that is permitted
pub permits_parts : (net : PlainNet) (origin : ℕ → Bool) (s : PlainStatement) (path : List ℕ) → permits net origin s path ≡ true
    → (is_walk net path ≡ true) × (ends_at_origin origin path ≡ true) × (at_first (from_holds s.from) path ≡ true) × (is_some (rank_of net s.ranked path) ≡ true)
permits_parts net origin s path h =
    let first = and_parts (is_walk_to net origin path && at_first (from_holds s.from) path) (is_some (rank_of net s.ranked path)) h in
    let second = and_parts (is_walk_to net origin path) (at_first (from_holds s.from) path) first.0 in
    let third = and_parts (is_walk net path) (ends_at_origin origin path) second.0 in
    (third.0, third.1, second.1, first.1)
