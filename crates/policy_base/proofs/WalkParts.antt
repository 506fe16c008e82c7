-- What is known of a walk.
use Rattle.std.proofs.Common.{◌≡◌, ℕ, Bool, true, false, List, [], ◌∷◌, length, drop, refl}
use Rattle.std.specs.Prelude.{◌&&◌, not, nat_le}
use Rattle.std.specs.List.{list_any}
use Rattle.std.proofs.lemmas.Bool.{and_parts, not-true}
use Rattle.net_base.specs.Network.{PlainNet, is_peer}
use Rattle.policy_base.specs.Meaning.{at_last, front}
use Rattle.policy_base.specs.Walks.{is_walk, steps_linked}

-- its steps are linked, and no peer stands between its ends
pub walk_parts : (net : PlainNet) (path : List ℕ) → is_walk net path ≡ true → (steps_linked net path ≡ true) × (list_any (is_peer net) (front (drop 1 path)) ≡ false)
walk_parts net path h =
    let last = and_parts (nat_le 2 (length path) && steps_linked net path) (not (list_any (is_peer net) (front (drop 1 path)))) h in
    let first = and_parts (nat_le 2 (length path)) (steps_linked net path) last.0 in
    (first.1, not-true _ last.1)

-- where no location passes, the last one doesn't
pub at_last-never : (p : ℕ → Bool) (path : List ℕ) → ((l : ℕ) → p l ≡ false) → at_last p path ≡ false
at_last-never p [] never = refl
at_last-never p (l ∷ []) never = never l
at_last-never p (l ∷ k ∷ ls) never = at_last-never p (k ∷ ls) never
