-- What the tests of routes tell.
use Rattle.std.proofs.Common.{◌≡◌, true, Option, Some, None, refl, sym, ap, ◌∙◌}
use Rattle.std.specs.Prelude.{◌==◌, ◌↔◌}
use Rattle.std.specs.Str.{bytes_eq}
use Rattle.std.proofs.lemmas.Bool.{and_parts, eqb-true, eq-eqb}
use Rattle.std.proofs.lemmas.Slice.Eq.{bytes_eq-Decides}
use Rattle.config_base.specs.declared.route.Route.{Route}
use Rattle.config_base.specs.Lines.{same_tag}
use Rattle.scenarios.specs.Tests.{same_route, is_route}
use Rattle.config_base.proofs.SameTags.{same_tag-is}

same_route-is : (g h : Route) → same_route g h ≡ true → g ≡ h
same_route-is g h same =
    let a = and_parts (bytes_eq h.path g.path) _ same in
    let b = and_parts (same_tag h.tag g.tag) (h.pref == g.pref) a.1 in
    let path = sym ((bytes_eq-Decides h.path g.path).0 a.0) in
    let tag = sym (same_tag-is h.tag g.tag b.0) in
    let pref = sym (eqb-true h.pref g.pref b.1) in
    λ i. record { path = path i; tag = tag i; pref = pref i }

same_route-refl : (h : Route) → same_route h h ≡ true
same_route-refl h = rw ((bytes_eq-Decides h.path h.path).1 refl, eq-eqb h.tag.asn h.tag.asn refl, eq-eqb h.tag.value h.tag.value refl, eq-eqb h.pref h.pref refl) refl

pub is_route-is : (o : Option Route) (h : Route) → is_route o h ≡ true → o ≡ Some h
is_route-is None h same = absurd (cc)
is_route-is (Some g) h same = ap (λ r. Some r) (same_route-is g h same)

pub is_route-refl : (o : Option Route) (h : Route) → o ≡ Some h → is_route o h ≡ true
is_route-refl o h is = ap (λ p. is_route p h) is ∙ same_route-refl h
