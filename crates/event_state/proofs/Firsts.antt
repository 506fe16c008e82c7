-- The first of what neighbours give, one neighbour after another.
use Rattle.std.proofs.Common.{◌≡◌, ℕ, ◌+◌, ◌<◌, List, take, length, get_or, Option, None, Some, refl, sym, ap, ◌∙◌}
use Rattle.std.specs.Prelude.{option_map, if◌then◌else◌}
use Rattle.std.proofs.lemmas.List.Sums.{fold_more}
use Rattle.config_base.specs.declared.route.Route.{Route}
use Rattle.net_base.specs.Network.{PlainNet}
use Rattle.event_base.specs.Speaking.{first_of, picked, with_gift}
use Rattle.event_state.specs.Gifts.{leads_over}

picks : (net : PlainNet) (best : Option (ℕ × Route)) (u : ℕ) (o : Option Route)
    → (if leads_over net (option_map (λ h. (u, h)) o) best then option_map (λ h. (u, h)) o else best) ≡ picked net best u o
picks net None u None = refl
picks net (Some x) u None = refl
picks net None u (Some h) = refl
picks net (Some x) u (Some h) = refl

pub first_next : (net : PlainNet) (gives : ℕ → Option Route) (us : List ℕ) (i u : ℕ) (old gift new : Option (ℕ × Route))
    → i < length us → u ≡ get_or us i u → old ≡ first_of net gives (take i us) → gift ≡ option_map (λ h. (u, h)) (gives u)
    → new ≡ (if leads_over net gift old then gift else old) → new ≡ first_of net gives (take (i + 1) us)
first_next net gives us i u old gift new less item before is e =
    e
    ∙ ap (λ (g : Option (ℕ × Route)). if leads_over net g old then g else old) is
    ∙ picks net old u (gives u)
    ∙ ap (λ b. picked net b u (gives u)) before
    ∙ ap (with_gift net gives (first_of net gives (take i us))) item
    ∙ sym (fold_more (with_gift net gives) None us i u less)
