-- The names of a network's locations one after another.
use Rattle.std.proofs.Common.{◌≡◌, ℕ, ◌+◌, false, List, [], ◌∷◌, ◌++◌, map, take, drop, take-append-drop, Some, sym, ap, ◌∙◌, subst}
use Rattle.std.specs.Prelude.{option_map, slice_get}
use Rattle.std.specs.List.{list_any, IsDistinct}
use Rattle.std.specs.Str.{bytes_eq}
use Rattle.std.proofs.lemmas.List.{map-append}
use Rattle.list_law.proofs.Changed.{map_next}
use Rattle.list_law.proofs.Items.{drop_from}
use Rattle.list_law.proofs.Keys.{others_before}
use Rattle.list_law.proofs.Texts.{bytes_eq_apart}
use Rattle.net_base.specs.declared.net.Site.{Site}
use Rattle.net_base.specs.Network.{PlainNet, IsNet, sites}

-- the next one is new
pub next_name : (net : PlainNet) (i : ℕ) (s : Site) → IsNet net → slice_get (sites net) i ≡ Some s
    → (list_any (bytes_eq s.name) (map (λ (t : Site). t.name) (take i (sites net))) ≡ false)
    × (map (λ (t : Site). t.name) (take (i + 1) (sites net)) ≡ map (λ (t : Site). t.name) (take i (sites net)) ++ s.name ∷ [])
next_name net i s rules at =
    let name = λ (t : Site). t.name in
    let before = map name (take i (sites net)) in
    let more = map name (drop (i + 1) (sites net)) in
    let split : map name (sites net) ≡ before ++ s.name ∷ more =
    ap (map name) (sym (take-append-drop i (sites net)) ∙ ap (λ (l : List Site). take i (sites net) ++ l) (drop_from (sites net) i s at))
    ∙ map-append name (take i (sites net)) (s ∷ drop (i + 1) (sites net)) in (
      others_before bytes_eq bytes_eq_apart before s.name more (subst (IsDistinct bytes_eq) split rules.names),
      map_next name (sites net) i s.name (ap (option_map name) at),
    )
