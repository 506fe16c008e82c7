-- Nothing is cut from nothing.
use Rattle.std.proofs.Common.{◌≡◌, ℕ, zero, suc, [], Ok, refl}
use Rattle.net_base.specs.declared.place.Place.{Place}
use Rattle.policy_tokens.specs.Tokens.{tokens_from}

-- nothing has no tokens
pub tokens_from-nil : (n from : ℕ) (place : Place) → tokens_from n from place [] ≡ Ok []
unfolding tokens_from
tokens_from-nil zero from place = refl
tokens_from-nil (suc n) from place = refl
