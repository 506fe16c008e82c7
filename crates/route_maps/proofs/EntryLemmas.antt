-- What the entries of a block make of a route, by the entry that was found.
use Rattle.std.proofs.Common.{◌≡◌, ℕ, Bool, true, false, List, [], ◌∷◌, Option, Some, None, refl, sym, ap, ◌∙◌}
use Rattle.std.specs.Prelude.{◌&&◌, ◌||◌, ◌==◌, option_and_then, if◌then◌else◌}
use Rattle.std.specs.List.{find}
use Rattle.std.proofs.lemmas.Bool.{eq-eqb, eqb-true, and_parts}
use Rattle.std.proofs.Math.Bool.{and-false}
use Rattle.net_base.specs.declared.numbers.Tag.{Tag}
use Rattle.net_base.specs.Network.{PlainNet, is_peer}
use Rattle.net_base.specs.Prefixes.{PlainPrefix}
use Rattle.config_base.specs.declared.config.Session.{Session}
use Rattle.config_base.specs.declared.config.Import.{Import}
use Rattle.config_base.specs.declared.config.Export.{Export}
use Rattle.config_base.specs.Lines.{block_at, same_tag, is_looped, line_by, import_by, export_by}
use Rattle.list_law.proofs.Tests.{list_any-found, list_any-not_found}
use Rattle.route_maps.specs.Maps.{PlainMaps, list_permits, blocks, out_by, map_out, in_by, map_in}
use Rattle.route_maps.proofs.ListLaws.{none_either_way}

-- the first that passes a test on its class and another test is the first of its class that passes the other
find_class : {X : Type 0} (class : X → ℕ) (permitted : ℕ → Bool) (fits : X → Bool) (xs : List X) (x : X)
    → find (λ y. permitted (class y) && fits y) xs ≡ Some x → find (λ y. class y == class x && fits y) xs ≡ Some x
find_class class permitted fits [] x h = absurd cc
find_class class permitted fits (y ∷ ys) x h = by_test (permitted (class y)) (fits y) refl refl (find_class class permitted fits ys x)
  where
    found_at : (zs : List _) (z : _) → find (λ y. permitted (class y) && fits y) zs ≡ Some z → permitted (class z) ≡ true
    found_at [] z e = absurd cc
    found_at (w ∷ ws) z e = at_head (permitted (class w) && fits w) refl (found_at ws z)
      where
        at_head : (b : Bool) → (permitted (class w) && fits w) ≡ b → (find (λ y. permitted (class y) && fits y) ws ≡ Some z → permitted (class z) ≡ true) → permitted (class z) ≡ true
        at_head true is later = let same : w ≡ z = let k = rw is at e in cc in ap (λ v. permitted (class v)) (sym same) ∙ (and_parts (permitted (class w)) (fits w) is).0
        at_head false is later = later (rw is at e)

    by_test : (b c : Bool) → permitted (class y) ≡ b → fits y ≡ c → (find (λ y. permitted (class y) && fits y) ys ≡ Some x → find (λ y. class y == class x && fits y) ys ≡ Some x)
        → find (λ y. class y == class x && fits y) (y ∷ ys) ≡ Some x
    by_test true true is fit later = let same : y ≡ x = let k = rw (is, fit) at h in cc in rw (eq-eqb (class y) (class x) (ap class same), fit) (ap Some same)
    by_test b false is fit later = let none : (b && false) ≡ false = and-false b in rw fit (skip (class y == class x) (later (rw (is, fit, none) at h)))
      where
        skip : (b : Bool) {o p : Option _} → o ≡ p → (if b && false then Some y else o) ≡ p
        skip true e = e
        skip false e = e
    by_test false true is fit later =
        let rest = rw is at h in
        let other : (class y == class x) ≡ false = apart (class y == class x) refl (found_at ys x rest) in
        rw other (later rest)
      where
        apart : (b : Bool) → (class y == class x) ≡ b → permitted (class x) ≡ true → b ≡ false
        apart true e t = absurd (let same : class y ≡ class x = eqb-true (class y) (class x) e in let k : permitted (class x) ≡ false = ap permitted (sym same) ∙ is in let z = sym t ∙ k in cc)
        apart false e t = refl

module _ (net : PlainNet) (maps : PlainMaps) (p : PlainPrefix) where
  abbrev applies : ℕ → Tag → Import → Bool
  applies from tag rule = list_permits maps rule.class p && (is_peer net from || same_tag rule.tag tag)

  abbrev sent : Tag → Export → Bool
  sent tag e = list_permits maps e.class p && same_tag e.tag tag

  pub in_nowhere : (at from : ℕ) (path : List ℕ) (tag : Tag) → block_at net (blocks maps) at from ≡ None → map_in net maps p at from path tag ≡ None
  in_nowhere at from path tag none = none_either_way (is_looped net at from path) (ap (option_and_then (in_by net maps p from tag)) none)

  pub in_unfound : (at from : ℕ) (path : List ℕ) (tag : Tag) (b : Session) → block_at net (blocks maps) at from ≡ Some b
      → find (applies from tag) b.imports ≡ None → map_in net maps p at from path tag ≡ None
  in_unfound at from path tag b block none = none_either_way (is_looped net at from path) (ap (option_and_then (in_by net maps p from tag)) block ∙ rw none refl)

  pub in_found : (at from : ℕ) (path : List ℕ) (tag : Tag) (b : Session) (r : Import) → block_at net (blocks maps) at from ≡ Some b → find (applies from tag) b.imports ≡ Some r
      → import_by net r.class at from path tag b ≡ map_in net maps p at from path tag
  in_found at from path tag b r block found =
      let of_class = find_class (λ (q : Import). q.class) (λ n. list_permits maps n p) (λ (q : Import). is_peer net from || same_tag q.tag tag) b.imports r found in
      let one : line_by net r.class from tag b ≡ Some (r.set, r.pref) = rw of_class refl in
      let other : option_and_then (in_by net maps p from tag) (block_at net (blocks maps) at from) ≡ Some (r.set, r.pref) = ap (option_and_then (in_by net maps p from tag)) block ∙ rw found refl in
      ap (λ (o : Option (Tag × ℕ)). if is_looped net at from path then None else o) (one ∙ sym other)

  pub out_unfound : (from to : ℕ) (tag : Tag) (b : Session) → block_at net (blocks maps) from to ≡ Some b → find (sent tag) b.exports ≡ None → map_out net maps p from to tag ≡ None
  out_unfound from to tag b block none = ap (option_and_then (out_by net maps p to tag)) block ∙ rw (list_any-not_found (sent tag) b.exports none) refl

  pub out_found : (from to : ℕ) (tag : Tag) (b : Session) (e : Export) → block_at net (blocks maps) from to ≡ Some b → find (sent tag) b.exports ≡ Some e
      → export_by net e.class to tag b ≡ map_out net maps p from to tag
  out_found from to tag b e block found =
      let of_class =
      list_any-found (λ (q : Export). q.class == e.class && same_tag q.tag tag) b.exports e
      (find_class (λ (q : Export). q.class) (λ n. list_permits maps n p) (λ (q : Export). same_tag q.tag tag) b.exports e found) in
      let any = list_any-found (sent tag) b.exports e found in
      rw of_class (sym (ap (option_and_then (out_by net maps p to tag)) block ∙ rw any refl))
