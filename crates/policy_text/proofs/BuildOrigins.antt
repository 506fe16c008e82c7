-- Only routers originate what is printed.
use Rattle.std.proofs.Common.{◌≡◌, ℕ, zero, suc, ◌+◌, ◌<◌, ◌≤◌, List, [], ◌∷◌, ◌++◌, length, Bool, true, false, Some, Ok, refl, sym, ap, ◌∙◌, arith, append_assoc, length-append}
use Rattle.std.specs.Prelude.{if◌then◌else◌}
use Rattle.std.specs.List.{IsDistinct}
use Rattle.std.specs.Str.{bytes_eq}
use Rattle.std.proofs.lemmas.Bool.{ne_eqb, ltb-true}
use Rattle.net_base.specs.declared.loc.LocSet.{LocSet}
use Rattle.net_base.specs.declared.net.Site.{Site}
use Rattle.net_base.specs.Sets.{holds}
use Rattle.net_base.specs.Network.{PlainNet, sites, is_router}
use Rattle.policy_grammar.specs.declared.lexeme.Lexeme.{Lexeme}
use Rattle.net_base.specs.SetOperations.{no_location, with_location}
use Rattle.policy_rules.specs.KnownNames.{set_named}
use Rattle.policy_rules.specs.Checks.{set_at, each}
use Rattle.policy_rules.specs.Origins.{has_some, routers_alone}
use Rattle.policy_text.specs.PolicyText.{names_from, names_in}
use Rattle.policy_text.specs.Printable.{HoldsOnly}
use Rattle.policy_text.proofs.ReadSets.{AreNamesOf}
use Rattle.policy_text.proofs.Lookups.{site_names}
use Rattle.policy_text.proofs.Unions.{sites_known, here, one_set, set_there}

-- a set of one location has no later one
none_later : (l k n : ℕ) → l < 768 → l < k → k + n ≤ 768 → has_some (with_location no_location l) k n ≡ false
none_later l k zero small later room = refl
none_later l k (suc n) small later room =
    rw (one_set l k small (omega (arith, room)), ne_eqb k l (λ e. omega (arith, e, later)), none_later l (k + 1) n small (omega (arith, later)) (omega (arith, room))) refl

module _ (bytes : List ℕ) (net : PlainNet) (apart : IsDistinct bytes_eq (site_names (sites net))) (small : length (sites net) ≤ 768) where
  alone : (l : ℕ) (k : Lexeme) → l < length net.routers → set_at bytes (sites_known (sites net)) k ≡ Ok (with_location no_location l) → routers_alone bytes net (sites_known (sites net)) k ≡ Ok tt
  alone l k router is =
      let count : length (sites net) ≡ length net.routers + length net.peers = length-append net.routers net.peers in
      rw (is, none_later l (length net.routers) (length net.peers) (omega (arith, router, count, small)) router (omega (arith, count, small))) refl

  abbrev Routers : LocSet → ℕ → List Site → Type 0
  Routers s l xs = (ls : List Lexeme) → AreNamesOf bytes ls (names_from s l xs) → each (routers_alone bytes net (sites_known (sites net))) ls ≡ Ok tt

  by_held : (s : LocSet) (l : ℕ) (x : Site) (xs : List Site) → (holds s l ≡ true → l < length net.routers)
      → set_named (sites_known (sites net)) x.name ≡ Some (with_location no_location l) → Routers s (l + 1) xs
      → (b : Bool) → holds s l ≡ b → (ls : List Lexeme)
      → AreNamesOf bytes ls (if b then x.name ∷ names_from s (l + 1) xs else names_from s (l + 1) xs)
      → each (routers_alone bytes net (sites_known (sites net))) ls ≡ Ok tt
  by_held s l x xs router found rest false off ls are = rest ls are
  by_held s l x xs router found rest true on [] are = absurd are
  by_held s l x xs router found rest true on (k ∷ ks) are =
      rw (alone l k (router on) (set_there bytes (sites_known (sites net)) k x.name (with_location no_location l) are.0 found), rest ks are.1) refl

  routers : (s : LocSet) → HoldsOnly (is_router net) s → (xs pre : List Site) (l : ℕ) → l ≡ length pre → sites net ≡ pre ++ xs → Routers s l xs
  routers s only [] pre l at is [] are = refl
  routers s only [] pre l at is (k ∷ ks) are = absurd are
  routers s only (x ∷ xs) pre l at is ls are =
      let place : Some (with_location no_location (length pre)) ≡ Some (with_location no_location l) = ap (λ (n : ℕ). Some (with_location no_location n)) (sym at) in
      by_held s l x xs (λ on. ltb-true l (length net.routers) (only l on)) (here bytes (sites net) apart small pre x xs is ∙ place)
      (routers s only xs (pre ++ x ∷ []) (l + 1) (omega (arith, at, length-append pre (x ∷ []))) (is ∙ sym (append_assoc pre (x ∷ []) xs))) (holds s l) refl ls are

  -- the names of a set of routers are those of routers
  pub routers_only : (s : LocSet) → HoldsOnly (is_router net) s → (ls : List Lexeme) → AreNamesOf bytes ls (names_in net s) → each (routers_alone bytes net (sites_known (sites net))) ls ≡ Ok tt
  routers_only s only ls are = routers s only (sites net) [] 0 refl refl ls are
