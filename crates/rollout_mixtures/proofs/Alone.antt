-- Where evidence passes no line leads to an origin, and what peers announce is taken of origins alone.
use Rattle.std.proofs.Common.{◌≡◌, ℕ, suc, true, false, ◌||◌, List, [], ◌∷◌, Some, sym, ap, ◌∙◌, inl, inr}
use Rattle.std.specs.Option.{option_and_then, option_map}
use Rattle.std.proofs.lemmas.Bool.{or_cases, true≢false}
use Rattle.list_law.proofs.Options.{none_or_some, unless_parts}
use Rattle.net_base.specs.declared.numbers.Tag.{Tag}
use Rattle.net_base.specs.Network.{PlainNet, IsNet, is_peer, is_router}
use Rattle.net_base.specs.Numbers.{no_tag}
use Rattle.net_base.specs.Prefixes.{PlainPrefix, IsPrefix}
use Rattle.net_base.proofs.RoutersAndPeers.{router_known, router_no_peer}
use Rattle.policy_base.specs.Policies.{IsPolicyOf}
use Rattle.policy_base.specs.Governing.{is_origin}
use Rattle.config_base.specs.Lines.{import_of}
use Rattle.evidence_base.specs.Made.{PlainCaseEvidence}
use Rattle.outcome_base.specs.Outcomes.{no_failures}
use Rattle.evidence_law.specs.Passes.{Passes}
use Rattle.evidence_law.proofs.Loops.{import_from_peer, import_from_router}
use Rattle.evidence_law.proofs.Setting.{gift_of, lines_of, pair_of}
use Rattle.routing_law.specs.Network as law
use Rattle.settled_law.proofs.SettledLaw.{CaseFound, case_or_bare}
use Rattle.event_law.proofs.Offers.{lines_here}
use Rattle.rollout_base.specs.Lines.{takes}
use Rattle.rollout_base.specs.Mixtures.{Part}
use Rattle.rollout_stages.proofs.Saying.{taker}

pub record IsAlone (net : PlainNet) (p : PlainPrefix) (x : Part) : Type 0 where
  pub router : (v u : ℕ) (path : List ℕ) (t : Tag) (q : Tag × ℕ) → is_router net u ≡ true → takes net x.config p v u path t ≡ Some q → is_origin net x.policy p v ≡ false
  pub peer : (v u : ℕ) (q : Tag × ℕ) → is_router net u ≡ false → is_peer net u ≡ true → takes net x.config p v u (u ∷ []) no_tag ≡ Some q
      → (is_origin net x.policy p v ≡ false) × (is_origin net x.policy p u ≡ true)

module _ (net : PlainNet) (p : PlainPrefix) (x : Part) (cs : List PlainCaseEvidence) (rules : IsNet net) (lawful : IsPolicyOf net x.policy) (passes : Passes net x.policy x.config cs) where
  module _ (c : CaseFound net x.policy x.config cs rules lawful passes no_failures p) where
    abbrev class : ℕ
    class = suc c.k

    takes_by : (v u : ℕ) (path : List ℕ) (t : Tag) (q : Tag × ℕ) → takes net x.config p v u path t ≡ Some q → import_of net x.config class v u path t ≡ Some q
    takes_by v u path t q e = sym (ap (option_and_then (λ k. import_of net x.config k v u path t)) c.of_class) ∙ e

    of_router : (v u : ℕ) (path : List ℕ) (t : Tag) (q : Tag × ℕ) → is_router net u ≡ true → takes net x.config p v u path t ≡ Some q → is_origin net x.policy p v ≡ false
    of_router v u path t q from e =
        let written = lines_here net x.policy x.config cs rules lawful passes p no_failures c in
        let to = taker net x.config p v u path t q e in
        let plain = unless_parts (law.stands_on v path) (import_of net x.config class v u [] t) q
        (sym (import_from_router net x.config class v u path t rules (router_known net v to) (router_no_peer net u from)) ∙ takes_by v u path t q e) in
        let line : (lines_of net x.config p class).imported v u (pair_of t) ≡ Some (gift_of q) = ap (option_map gift_of) plain.1 in
        let a = written.lines.imports_only u v (pair_of t) (gift_of q) from to line in
        written.formed.next_origin a.0 v a.1 a.2.step

    of_peer : (v u : ℕ) (q : Tag × ℕ) → is_router net u ≡ false → is_peer net u ≡ true → takes net x.config p v u (u ∷ []) no_tag ≡ Some q
        → (is_origin net x.policy p v ≡ false) × (is_origin net x.policy p u ≡ true)
    of_peer v u q off peer e =
        let written = lines_here net x.policy x.config cs rules lawful passes p no_failures c in
        let to = taker net x.config p v u (u ∷ []) no_tag q e in
        let line : (lines_of net x.config p class).from_peer v u ≡ Some (gift_of q) =
        ap (option_map gift_of) (sym (import_from_peer net x.config class v u no_tag rules peer) ∙ takes_by v u (u ∷ []) no_tag q e) in
        let a = written.lines.peers_only u v (gift_of q) off to line in
        let either = written.formed.next_from a.0 v a.1 a.2.step in
        let here : (is_origin net x.policy p u || is_router net u) ≡ true = sym (ap (λ (l : ℕ). is_origin net x.policy p l || is_router net l) a.2.place) ∙ either in (
          written.formed.next_origin a.0 v a.1 a.2.step,
          elim (or_cases (is_origin net x.policy p u) (is_router net u) here) [ inl origin ↦ origin | inr router ↦ absurd (true≢false (sym router ∙ off)) ],
        )

  pub alone : IsPrefix p → IsAlone net p x
  alone prefix = elim (case_or_bare net x.policy x.config cs rules lawful passes no_failures p prefix) [
    | inl c ↦ record { router = of_router c; peer = of_peer c }
    | inr free ↦ record {
      router = λ v u path t q from e. absurd (none_or_some (takes net x.config p v u path t) q (ap (option_and_then (λ k. import_of net x.config k v u path t)) free) e);
      peer = λ v u q off peer e. absurd (none_or_some (takes net x.config p v u (u ∷ []) no_tag) q (ap (option_and_then (λ k. import_of net x.config k v u (u ∷ []) no_tag)) free) e);
    }
  ]
