-- Origins that are read are routers.
use Rattle.std.proofs.Common.{◌≡◌, ℕ, zero, suc, ◌+◌, ◌<◌, ◌≤◌, List, [], ◌∷◌, ◌++◌, length, true, false, Ok, sym, ap, ◌∙◌, subst, arith, inl, inr}
use Rattle.std.specs.Prelude.{⊤, not}
use Rattle.std.specs.List.{AllByRecursion}
use Rattle.std.proofs.lemmas.Bool.{cases_eq, cases_lt, false≢true, or_parts, not-true}
use Rattle.list_law.proofs.Each.{AllByRecursion-push}
use Rattle.net_base.specs.declared.loc.LocSet.{LocSet}
use Rattle.net_base.specs.Network.{PlainNet}
use Rattle.net_base.specs.Sets.{holds}
use Rattle.net_base.specs.Steps.{unless}
use Rattle.net_base.proofs.StepLemmas.{bind_ok, unless_ok}
use Rattle.policy_tokens.specs.declared.fault.PolicyFault.TheVariants.{OriginPeer}
use Rattle.policy_grammar.specs.declared.lexeme.Lexeme.{Lexeme}
use Rattle.policy_grammar.specs.Raw.{Item}
use Rattle.policy_grammar.specs.Raw.Item.{Define, Originate, State}
use Rattle.policy_rules.specs.KnownNames.{Names}
use Rattle.policy_rules.specs.Checks.{set_at, each}
use Rattle.policy_rules.specs.Origins.{has_some, has_peer, routers_alone, origins_fine}
use Rattle.policy_base.specs.declared.policy.Origin.{Origin}
use Rattle.policy_values.specs.Built.{origin_of, origins_of}
use Rattle.net_base.proofs.HeldSets.{AreBelow}
use Rattle.policy_parser.proofs.FittingItems.{NamesBelow, StandsBelow, set_at_below, set_below}
use Rattle.policy_parser.proofs.BuiltParts.{origin_parts}

-- where none of some locations is in a set, no such one is
absent : (s : LocSet) (l n m : ℕ) → has_some s l n ≡ false → l ≤ m → m < l + n → holds s m ≡ true → ⊥
absent s l zero m none low high on = omega (arith, low, high)
absent s l (suc n) m none low high on =
    let h = or_parts (holds s l) (has_some s (l + 1) n) none in
    elim (cases_eq m l) [
      | inl same ↦ false≢true (sym h.0 ∙ ap (holds s) (sym same) ∙ on)
      | inr other ↦ absent s (l + 1) n m h.1 (omega (arith, low, other)) (omega (arith, high)) on
    ]

-- a set of locations without a peer has routers alone
no_peer : (net : PlainNet) (s : LocSet) → AreBelow (length net.routers + length net.peers) s → has_peer net s ≡ false → AreBelow (length net.routers) s
no_peer net s below none m on = elim (cases_lt m (length net.routers)) [
  | inl low ↦ low
  | inr high ↦ absurd (absent s (length net.routers) (length net.peers) m none high (below m on) on)
]

router_name : (bytes : List ℕ) (net : PlainNet) (known : Names) (l : Lexeme) (x : ⊤) → NamesBelow (length net.routers + length net.peers) known
    → routers_alone bytes net known l ≡ Ok x → StandsBelow bytes known (length net.routers) l
router_name bytes net known l x below e s found =
    let b = bind_ok (set_at bytes known l) (λ t. unless (OriginPeer l.place) (not (has_peer net t))) x e in
    let same : b.0 ≡ s = cc in
    let none : has_peer net b.0 ≡ false = not-true (has_peer net b.0) (unless_ok (OriginPeer l.place) _ x b.2) in
    no_peer net s (set_at_below bytes (length net.routers + length net.peers) known l s below found) (ap (has_peer net) (sym same) ∙ none)

router_names : (bytes : List ℕ) (net : PlainNet) (known : Names) (ls : List Lexeme) (x : ⊤) → NamesBelow (length net.routers + length net.peers) known → each (routers_alone bytes net known) ls ≡ Ok x
    → AllByRecursion (StandsBelow bytes known (length net.routers)) ls
router_names bytes net known [] x below e = tt
router_names bytes net known (l ∷ ls) x below e =
    let b = bind_ok (routers_alone bytes net known l) (λ _. each (routers_alone bytes net known) ls) x e in
    (router_name bytes net known l b.0 below b.1, router_names bytes net known ls x below b.2)

-- each of them is at routers alone
abbrev pub AreAtRouters : PlainNet → List Origin → Type 0
AreAtRouters net os = AllByRecursion (λ (o : Origin). AreBelow (length net.routers) o.at) os

pub origins_at_routers : (bytes : List ℕ) (net : PlainNet) (known : Names) (so_far : List Origin) (items : List Item) (os : List Origin) (x : ⊤)
    → NamesBelow (length net.routers + length net.peers) known
    → each (origins_fine bytes net known) items ≡ Ok x → origins_of bytes known so_far items ≡ Ok os → AreAtRouters net so_far → AreAtRouters net os
origins_at_routers bytes net known so_far [] os x below fine e before = let same : so_far ≡ os = cc in subst (AreAtRouters net) same before
origins_at_routers bytes net known so_far (Define n m ∷ items) os x below fine e before = origins_at_routers bytes net known so_far items os x below fine e before
origins_at_routers bytes net known so_far (State s ∷ items) os x below fine e before = origins_at_routers bytes net known so_far items os x below fine e before
origins_at_routers bytes net known so_far (Originate p ns ∷ items) os x below fine e before =
    let f = bind_ok (each (routers_alone bytes net known) ns) (λ _. each (origins_fine bytes net known) items) x fine in
    let b = bind_ok (origin_of bytes known p ns) (λ o. origins_of bytes known (so_far ++ o ∷ []) items) os e in
    let here = set_below bytes (length net.routers) known b.0.at ns (router_names bytes net known ns f.0 below f.1) (origin_parts bytes known p ns b.0 b.1).1 in
    origins_at_routers bytes net known (so_far ++ b.0 ∷ []) items os x below f.2 b.2 (AllByRecursion-push (λ (o : Origin). AreBelow (length net.routers) o.at) so_far b.0 before here)
