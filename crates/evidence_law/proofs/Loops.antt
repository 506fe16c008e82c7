-- The loop rule on AS numbers says that a router doesn't stand on a path.
use Rattle.std.proofs.Common.{◌≡◌, ℕ, Bool, true, false, List, [], ◌∷◌, None, refl, sym, ap, ap₂, ◌∙◌, inl, inr}
use Rattle.std.specs.Prelude.{◌==◌, ◌||◌, if◌then◌else◌}
use Rattle.std.specs.List.{list_any}
use Rattle.std.proofs.lemmas.Bool.{eq-eqb, eqb-true, cases_Bool, true≢false, or_from}
use Rattle.net_base.specs.declared.net.Site.{Site}
use Rattle.net_base.specs.declared.numbers.Tag.{Tag}
use Rattle.net_base.specs.Network.{PlainNet, IsNet, asn_of, is_location, is_peer}
use Rattle.config_base.specs.Configs.{PlainConfig}
use Rattle.config_base.specs.Lines.{as_path, import_of}
use Rattle.net_base.proofs.Sites.{asn_tells, no_router_has}
use Rattle.routing_law.specs.Network.{stands_on}

number_is_place : (net : PlainNet) (v l : ℕ) → IsNet net → is_location net v ≡ true → (asn_of net l == asn_of net v) ≡ (l == v)
number_is_place net v l rules known = elim (cases_Bool (asn_of net l == asn_of net v)) [
  | inl t ↦ t ∙ sym (eq-eqb l v (asn_tells net v l rules known (eqb-true _ _ t)))
  | inr t ↦ elim (cases_Bool (l == v)) [
    | inl u ↦ absurd (true≢false (sym (eq-eqb (asn_of net l) (asn_of net v) (ap (asn_of net) (eqb-true l v u))) ∙ t))
    | inr u ↦ t ∙ sym u
  ]
]

pub loop_by_number : (net : PlainNet) (v : ℕ) (path : List ℕ) → IsNet net → is_location net v ≡ true
    → list_any (λ n. n == asn_of net v) (as_path net path) ≡ stands_on v path
loop_by_number net v [] rules known = refl
loop_by_number net v (l ∷ ls) rules known = ap₂ (λ (a b : Bool). a || b) (number_is_place net v l rules known) (loop_by_number net v ls rules known)

-- a route from a router is taken as its tag is, unless the taker stands on its path
pub import_from_router : (net : PlainNet) (config : PlainConfig) (class at from : ℕ) (path : List ℕ) (tag : Tag) → IsNet net → is_location net at ≡ true → is_peer net from ≡ false
    → import_of net config class at from path tag ≡ (if stands_on at path then None else import_of net config class at from [] tag)
import_from_router net config class at from path tag rules known router = rw (router, loop_by_number net at path rules known) refl

-- what a peer announces of itself has no loop
pub import_from_peer : (net : PlainNet) (config : PlainConfig) (class at from : ℕ) (tag : Tag) → IsNet net → is_peer net from ≡ true
    → import_of net config class at from (from ∷ []) tag ≡ import_of net config class at from [] tag
import_from_peer net config class at from tag rules peer =
    let none : list_any (λ n. list_any (λ (r : Site). r.asn == n) net.routers) (as_path net (from ∷ [])) ≡ false = or_from _ _ (no_router_has net from rules peer) refl in
    rw (peer, none) refl
