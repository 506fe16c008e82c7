-- Policies that say the same are served alike.
use Rattle.std.proofs.Common.{◌≡◌, ℕ, true, length, Option, Some, None, refl, sym, arith}
use Rattle.std.specs.Prelude.{slice_get}
use Rattle.std.proofs.lemmas.Bool.{lt-ltb}
use Rattle.std.proofs.lemmas.Option.{slice_get_within}
use Rattle.list_law.proofs.Options.{option_and_then_parts}
use Rattle.net_base.specs.Network.{PlainNet, IsNet, is_router}
use Rattle.net_base.specs.Prefixes.{PlainPrefix}
use Rattle.policy_base.specs.Policies.{PlainPolicy, PlainStatement}
use Rattle.policy_base.specs.Governing.{statement_of}
use Rattle.config_base.specs.declared.route.Route.{Route}
use Rattle.config_base.specs.Configs.{PlainConfig}
use Rattle.outcome_base.specs.Outcomes.{Failures, Outcome, route_at, IsStable}
use Rattle.outcome_base.specs.Right.{IsRight, IsRightOutcome}
use Rattle.compare_base.specs.Ranks.{IsAlike, IsSame}
use Rattle.compare_law.specs.Laws.{AlikePrefixesAreRightAlike, AlikePrefixesAreStableAlike, SamePoliciesAreServedAlike}
use Rattle.compare_law.proofs.Origins.{stable_same}
use Rattle.compare_law.proofs.Alike.{alike_back, right_there}
use Rattle.compare_law.proofs.Bare.{bare_of_right, bare_there, right_of_bare}

pub stable_alike : AlikePrefixesAreStableAlike
stable_alike net old new config f p outcome rules origins =
    (stable_same net old new config f p outcome rules origins, stable_same net new old config f p outcome rules (λ l. sym (origins l)))

-- what has a route is a router
holders_are_routers : (net : PlainNet) (outcome : Outcome) → length outcome ≡ length net.routers → (r : ℕ) (h : Route) → route_at outcome r ≡ Some h → is_router net r ≡ true
holders_are_routers net outcome size r h at =
    let item = option_and_then_parts (λ (o : Option Route). o) (slice_get outcome r) h at in
    lt-ltb _ _ (omega (arith, slice_get_within outcome r item.0 item.1, size))

module _ (net : PlainNet) (old new : PlainPolicy) (config : PlainConfig) (f : Failures) (p : PlainPrefix) (outcome : Outcome) (rules : IsNet net) (alike : IsAlike net old new p)
    (size : length outcome ≡ length net.routers) (stable : IsStable net old config f p outcome) where
  right_by : (a b : Option PlainStatement) → statement_of old p ≡ a → statement_of new p ≡ b → IsRightOutcome net old config f p outcome → IsRightOutcome net new config f p outcome
  right_by None None at_old at_new right = rw at_new (bare_there net old new config f p outcome rules alike (rw at_old at right))
  right_by None (Some t) at_old at_new right = rw at_new (right_of_bare net old new config f p outcome rules alike t at_old at_new (rw at_old at right))
  right_by (Some s) None at_old at_new right =
      rw at_new (bare_of_right net old new config f p outcome rules alike s at_old at_new stable (rw at_old at right) (holders_are_routers net outcome size))
  right_by (Some s) (Some t) at_old at_new right = rw at_new (right_there net old new f p s t alike at_old at_new config outcome rules stable (rw at_old at right))

  right_there_too : IsRightOutcome net old config f p outcome → IsRightOutcome net new config f p outcome
  right_there_too = right_by (statement_of old p) (statement_of new p) refl refl

pub right_alike : AlikePrefixesAreRightAlike
right_alike net old new config f p outcome rules alike size stable = (
  right_there_too net old new config f p outcome rules alike size stable,
  right_there_too net new old config f p outcome rules (alike_back net old new p alike) size (stable_same net old new config f p outcome rules alike.origins stable),
)

served_there : (net : PlainNet) (old new : PlainPolicy) (config : PlainConfig) → IsNet net → IsSame net old new → IsRight net old config → IsRight net new config
served_there net old new config rules same right p f outcome prefix size stable =
    let alike = same p prefix in
    let here = stable_same net new old config f p outcome rules (λ l. sym (alike.origins l)) stable in
    right_there_too net old new config f p outcome rules alike size here (right p f outcome prefix size here)

pub same_served : SamePoliciesAreServedAlike
same_served net old new config rules same =
    (served_there net old new config rules same, served_there net new old config rules (λ p prefix. alike_back net old new p (same p prefix)))
