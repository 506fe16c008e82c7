-- Tags that test as the same are the same.
use Rattle.std.proofs.Common.{◌≡◌, true, ap}
use Rattle.std.specs.Prelude.{◌==◌}
use Rattle.std.proofs.lemmas.Bool.{and_parts, and_from, eqb-true, eq-eqb}
use Rattle.net_base.specs.declared.numbers.Tag.{Tag}
use Rattle.config_base.specs.Lines.{same_tag}

pub same_tag-is : (t u : Tag) → same_tag t u ≡ true → t ≡ u
same_tag-is t u h =
    let parts = and_parts (t.asn == u.asn) (t.value == u.value) h in
    λ i. record { asn = eqb-true t.asn u.asn parts.0 i; value = eqb-true t.value u.value parts.1 i }

pub is-same_tag : (t u : Tag) → t ≡ u → same_tag t u ≡ true
is-same_tag t u h = and_from (t.asn == u.asn) (t.value == u.value) (eq-eqb _ _ (ap (λ (x : Tag). x.asn) h)) (eq-eqb _ _ (ap (λ (x : Tag). x.value) h))
