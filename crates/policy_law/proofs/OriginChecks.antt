-- Only routers originate prefixes, each once.
use Rattle.std.proofs.Common.{◌≡◌, ℕ, List, [], ◌∷◌, ◌++◌, map, Bool, true, false, ◌||◌, Option, Some, None, Result, refl, ap, ap₂, ◌∙◌, not}
use Rattle.std.specs.Prelude.{⊤}
use Rattle.std.specs.List.{flat_map, list_any}
use Rattle.list_law.proofs.Truth.{or_left_comm}
use Rattle.net_base.specs.declared.loc.LocSet.{LocSet}
use Rattle.net_base.specs.declared.place.Place.{Place}
use Rattle.net_base.specs.Network.{PlainNet}
use Rattle.net_base.specs.Prefixes.{PlainPrefix, same_prefix}
use Rattle.net_base.specs.Steps.{◌>>=◌, unless}
use Rattle.policy_tokens.specs.declared.fault.PolicyFault.{PolicyFault}
use Rattle.policy_tokens.specs.declared.fault.PolicyFault.TheVariants.{Unknown, PrefixBad, OriginPeer, OriginTwice}
use Rattle.policy_grammar.specs.declared.lexeme.Lexeme.{Lexeme}
use Rattle.policy_rules.specs.KnownNames.{Names}
use Rattle.policy_rules.specs.Checks.{each}
use Rattle.policy_rules.specs.Origins.{has_peer, routers_alone, origins_fine, once_from}
use Rattle.policy_law.specs.Told.{told}
use Rattle.policy_law.specs.Trees.{Written, define, originate, state, item_of}
use Rattle.policy_law.specs.Senses.{Sense, located, unknown, unless_some, unknown_in_item, item_by_item}
use Rattle.policy_law.specs.Figures.{prefix_of, no_prefix, wrong_figures}
use Rattle.policy_law.specs.Origins.{if_true, has_peer_in, peer_named, peers_named, originates, originated_again}
use Rattle.policy_law.proofs.Binds.{told_append, told_gives, each_map, each_where, nil_front, nil_back}
use Rattle.policy_law.proofs.Uses.{HasSense, set_found}
use Rattle.policy_law.proofs.FigureChecks.{prefix_told}

unless_told : (fault : Place → PolicyFault) (p : Place) (b : Bool) → unless (fault p) (not b) ≡ told fault (if_true p b)
unless_told fault p true = refl
unless_told fault p false = refl

peer_told : (net : PlainNet) (p : Place) (o : Option LocSet) → unless_some p o ≡ [] → unless (OriginPeer p) (not (has_peer net (located o))) ≡ told OriginPeer (if_true p (has_peer_in net o))
peer_told net p (Some s) none = unless_told OriginPeer p (has_peer net s)
peer_told net p None none = absurd cc

name_told : (bytes : List ℕ) (net : PlainNet) (known : Names) (sense : Sense) → HasSense bytes known sense → (l : Lexeme) → unknown sense l ≡ []
    → routers_alone bytes net known l ≡ told OriginPeer (peer_named net sense l)
name_told bytes net known sense has l none =
    ap (λ (r : Result LocSet PolicyFault). r >>= λ s. unless (OriginPeer l.place) (not (has_peer net s))) (set_found bytes known sense has l)
    ∙ told_gives Unknown (unknown sense l) (located (sense l)) (λ s. unless (OriginPeer l.place) (not (has_peer net s)))
    ∙ ap (λ (ps : List Place). told Unknown ps >>= λ _. unless (OriginPeer l.place) (not (has_peer net (located (sense l))))) none
    ∙ peer_told net l.place (sense l) none

item_told : (bytes : List ℕ) (net : PlainNet) (known : Names) (sense : Sense) → HasSense bytes known sense → (x : Written)
    → unknown_in_item sense x ≡ [] → origins_fine bytes net known (item_of x) ≡ told OriginPeer (peers_named net sense x)
item_told bytes net known sense has (define group members) none = refl
item_told bytes net known sense has (originate prefix names) none =
    each_where (routers_alone bytes net known) OriginPeer (peer_named net sense) (unknown sense) (name_told bytes net known sense has) names none
item_told bytes net known sense has (state patterns e from) none = refl

-- where each name stands for something, the first is told that stands for a peer too
pub peers_told : (bytes : List ℕ) (net : PlainNet) (known : Names) (sense : Sense) → HasSense bytes known sense → (xs : List Written) → flat_map (unknown_in_item sense) xs ≡ []
    → each (origins_fine bytes net known) (map item_of xs) ≡ told OriginPeer (flat_map (peers_named net sense) xs)
peers_told bytes net known sense has xs none =
    each_map (origins_fine bytes net known) item_of xs
    ∙ each_where (λ x. origins_fine bytes net known (item_of x)) OriginPeer (peers_named net sense) (unknown_in_item sense) (item_told bytes net known sense has) xs none

-- ---- each prefix once

-- some prefixes are those that some items originate
abbrev AreOriginated : List ℕ → List PlainPrefix → List Written → Type 0
AreOriginated bytes before xs = (p : PlainPrefix) → list_any (same_prefix p) before ≡ list_any (originates bytes p) xs

any_more : {A : Type 0} (test : A → Bool) (xs : List A) (x : A) → list_any test (xs ++ x ∷ []) ≡ (test x || list_any test xs)
any_more test [] x = refl
any_more test (y ∷ xs) x = ap (λ (b : Bool). test y || b) (any_more test xs x) ∙ or_left_comm (test y) (test x) (list_any test xs)

once_told : (bytes : List ℕ) (before : List PlainPrefix) (above : List Written) (xs : List Written) → AreOriginated bytes before above → flat_map (wrong_figures bytes) xs ≡ []
    → once_from bytes before (map item_of xs) ≡ told OriginTwice (item_by_item (originated_again bytes) above xs)
once_told bytes before above [] are none = refl
once_told bytes before above (define group members ∷ xs) are none = once_told bytes before (define group members ∷ above) xs are none
once_told bytes before above (state patterns e from ∷ xs) are none =
    once_told bytes before (state patterns e from ∷ above) xs are
    (nil_back (wrong_figures bytes (state patterns e from)) (flat_map (wrong_figures bytes) xs) none)
once_told bytes before above (originate prefix names ∷ xs) are none =
    let p : PlainPrefix = prefix_of bytes prefix in
    let here : List Place = no_prefix bytes prefix in
    let next : PlainPrefix → Result ⊤ PolicyFault = λ q. unless (OriginTwice prefix.place) (not (list_any (same_prefix q) before)) >>= λ _. once_from bytes (before ++ q ∷ []) (map item_of xs) in
    let again : List Place = if_true prefix.place (list_any (originates bytes p) above) in
    let more : AreOriginated bytes (before ++ p ∷ []) (originate prefix names ∷ above) = λ q. any_more (same_prefix q) before p ∙ ap (λ (b : Bool). same_prefix q p || b) (are q) in
    ap (λ (r : Result PlainPrefix PolicyFault). r >>= next) (prefix_told bytes prefix)
    ∙ told_gives PrefixBad here p next
    ∙ ap (λ (ps : List Place). told PrefixBad ps >>= λ _. next p) (nil_front here (flat_map (wrong_figures bytes) xs) none)
    ∙ ap₂ (λ (r t : Result ⊤ PolicyFault). r >>= λ _. t) (unless_told OriginTwice prefix.place (list_any (same_prefix p) before) ∙ ap (λ (b : Bool). told OriginTwice (if_true prefix.place b)) (are p))
    (once_told bytes (before ++ p ∷ []) (originate prefix names ∷ above) xs more (nil_back here (flat_map (wrong_figures bytes) xs) none))
    ∙ told_append OriginTwice again (item_by_item (originated_again bytes) (originate prefix names ∷ above) xs)

-- where each figure is a prefix, the first is told that is originated above
pub origins_told : (bytes : List ℕ) (xs : List Written) → flat_map (wrong_figures bytes) xs ≡ [] → once_from bytes [] (map item_of xs) ≡ told OriginTwice (item_by_item (originated_again bytes) [] xs)
origins_told bytes xs none = once_told bytes [] [] xs (λ p. refl) none
