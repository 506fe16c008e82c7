-- A case has the origins of its prefixes: what is said of walks to the ones is said of walks to the others.
use Rattle.std.proofs.Common.{◌≡◌, ℕ, Bool, true, false, List, [], ◌∷◌, refl, sym, ap, ◌∙◌, subst}
use Rattle.std.specs.Prelude.{◌&&◌, not, ◌==◌}
use Rattle.std.specs.List.{list_any}
use Rattle.std.proofs.lemmas.Bool.{and_parts, and_from, not-true}
use Rattle.net_base.specs.Network.{PlainNet}
use Rattle.net_base.specs.Prefixes.{PlainPrefix}
use Rattle.policy_base.specs.Policies.{PlainPolicy, PlainStatement}
use Rattle.policy_base.specs.Governing.{is_origin}
use Rattle.policy_base.specs.Permitted.{is_permitted, is_allowed}
use Rattle.policy_base.specs.Walks.{is_loop_free}
use Rattle.policy_base.proofs.WalkParts.{walk_parts}
use Rattle.outcome_base.specs.Outcomes.{Failures, survives}
use Rattle.outcome_base.specs.Right.{IsGood}
use Rattle.evidence_law.specs.Faithful.{permits}
use Rattle.evidence_law.proofs.PermittedWalks.{permits_parts}
use Rattle.evidence_law.proofs.Setting.{alive_of}
use Rattle.evidence_law.proofs.Surviving.{alive-survives, survives-alive}
use Rattle.routing_law.specs.Network as law

-- the laws say of loops what the network does
pub same_free : (path : List ℕ) → law.loop_free path ≡ is_loop_free path
same_free [] = refl
same_free (l ∷ ls) = ap (λ b. not (list_any (λ k. k == l) ls) && b) (same_free ls)

module _ (net : PlainNet) (policy : PlainPolicy) (p : PlainPrefix) (s : PlainStatement) {origin : ℕ → Bool} (same : origin ≡ is_origin net policy p) where
  pub case_permits : (path : List ℕ) → is_permitted net policy p s path ≡ true → permits net origin s path ≡ true
  case_permits path h = subst (λ (o : ℕ → Bool). permits net o s path ≡ true) (sym same) h

  pub prefix_permits : (path : List ℕ) → permits net origin s path ≡ true → is_permitted net policy p s path ≡ true
  prefix_permits path h = subst (λ (o : ℕ → Bool). permits net o s path ≡ true) same h

  module _ (f : Failures) where
    pub good : (path : List ℕ) → permits net origin s path ≡ true → law.loop_free path ≡ true → law.survives (alive_of net f) path ≡ true → IsGood net policy f p s path
    good path permitted free lives =
        and_from (is_allowed net policy p s path) (survives net f path)
        (and_from (is_permitted net policy p s path) (is_loop_free path) (prefix_permits path permitted) (sym (same_free path) ∙ free))
        (survives-alive net f path lives)

    -- a good path, as the laws see it
    pub good_parts : (l : ℕ) (rest : List ℕ) → IsGood net policy f p s (l ∷ rest) → (permits net origin s (l ∷ rest) ≡ true) × (law.survives (alive_of net f) (l ∷ rest) ≡ true)
    good_parts l rest h =
        let first = and_parts (is_allowed net policy p s (l ∷ rest)) (survives net f (l ∷ rest)) h in
        let permitted = case_permits (l ∷ rest) (and_parts (is_permitted net policy p s (l ∷ rest)) (is_loop_free (l ∷ rest)) first.0).0 in
        let walk = walk_parts net (l ∷ rest) (permits_parts net origin s (l ∷ rest) permitted).0 in
        (permitted, alive-survives net f l rest walk.0 walk.1 first.1)

pub no_case_origin : {origin other : ℕ → Bool} → origin ≡ other → (l : ℕ) → not (other l) ≡ true → origin l ≡ false
no_case_origin same l h = ap (λ (o : ℕ → Bool). o l) same ∙ not-true _ h
