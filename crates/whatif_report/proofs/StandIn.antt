-- Members are the same where the same has failed and all that lives holds the same.
use Rattle.std.proofs.Common.{◌≡◌, ℕ, true, refl, sym, ap, ◌∙◌}
use Rattle.std.specs.Prelude.{◌↔◌, ◌&&◌, not}
use Rattle.std.proofs.lemmas.Bool.{and_parts}
use Rattle.list_law.proofs.Truth.{same_tests}
use Rattle.net_base.specs.Network.{PlainNet, IsNet, is_peer, linked}
use Rattle.net_base.specs.Prefixes.{PlainPrefix}
use Rattle.policy_base.specs.Policies.{PlainPolicy}
use Rattle.config_base.specs.Configs.{PlainConfig}
use Rattle.outcome_base.specs.Outcomes.{Failures, Outcome, is_dead, is_live, is_silent, route_at}
use Rattle.evidence_law.proofs.Hops.{live_flips}
use Rattle.multipath_law.specs.Multipath.{IsMember, IsWorse}
use Rattle.multipath_law.proofs.Lengths.{tied_carries}
use Rattle.multipath_law.proofs.Repaired.{quiet_failures_take_off}
use Rattle.multipath_report.specs.Members.{is_member}
use Rattle.multipath_report.proofs.Finding.{member_from, member_to}
use Rattle.whatif_report.specs.Cutting.{AreSameFailures}

pub live_same : (net : PlainNet) (f h : Failures) → AreSameFailures f h → (a b : ℕ) → is_live net f a b ≡ is_live net h a b
live_same net f h same a b = λ i. linked net a b && not (same.links a b i) && not (same.dead a i) && not (same.dead b i)

pub no_others : (f : Failures) → AreSameFailures f f
no_others f = record { dead = λ l. refl; links = λ a b. refl; silent = λ r p. refl }

as_bad : (f h : Failures) → AreSameFailures f h → IsWorse f h
as_bad f h same = record { dead = λ l t. sym (same.dead l) ∙ t; links = λ a b t. sym (same.links a b) ∙ t; silent = λ r p t. sym (same.silent r p) ∙ t }

module _ (net : PlainNet) (policy : PlainPolicy) (config : PlainConfig) (f h : Failures) (p : PlainPrefix) (one other : Outcome) (rules : IsNet net) (same : AreSameFailures f h)
    (held : (u : ℕ) → not (is_dead h u) ≡ true → route_at other u ≡ route_at one u) where
  there : (r z : ℕ) → IsMember net policy config h p other r z ↔ IsMember net policy config f p one r z
  there r z =
      let left = quiet_failures_take_off net policy config rules p f h one other (as_bad f h same) held r z in (
        λ m. (left.0 m).member,
        λ m. (
            let carries = and_parts (is_live net f z r) (not (is_peer net z && is_silent f r z)) (tied_carries net policy config f p one rules r z m.tied) in
            left.1 (record {
              member = m;
              live = sym (live_same net f h same r z) ∙ live_flips net f z r carries.0;
              heard = ap (λ s. not (is_peer net z && s)) (sym (same.silent r z)) ∙ carries.1;
            })),
      )

  pub members_same : (r z : ℕ) → is_member net policy config f p one r z ≡ is_member net policy config h p other r z
  members_same r z =
      same_tests (is_member net policy config f p one r z) (is_member net policy config h p other r z)
      (λ t. member_to net policy config h p other r z ((there r z).1 (member_from net policy config f p one r z t)))
      (λ t. member_to net policy config f p one r z ((there r z).0 (member_from net policy config h p other r z t)))
