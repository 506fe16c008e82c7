-- What the steps of a reading tell.
use Rattle.std.proofs.Common.{Bool, Ok, refl, ap₂, ◌≡◌, Option, Some, None}
use Rattle.std.specs.Prelude.{◌&&◌, ⊤}
use Rattle.std.specs.Cmp.{IsEquivalence}
use Rattle.std.proofs.lemmas.Cmp.{nat_eq_equiv}
use Rattle.std.proofs.lemmas.Bool.{and_parts}
use Rattle.net_base.specs.Prefixes.{same_prefix}
use Rattle.net_base.specs.declared.place.Place.{Place}
use Rattle.policy_tokens.specs.declared.fault.PolicyFault.{PolicyFault}
use Rattle.policy_parser.specs.Spelled.{none_at}

-- prefixes are the same where their bits and their lengths are
pub same_prefix_equiv : IsEquivalence same_prefix
same_prefix_equiv = record {
  refl = λ x. ap₂ (λ (a b : Bool). a && b) (nat_eq_equiv.refl x.bits) (nat_eq_equiv.refl x.len);
  symm = λ x y. ap₂ (λ (a b : Bool). a && b) (nat_eq_equiv.symm x.bits y.bits) (nat_eq_equiv.symm x.len y.len);
  congr = λ x y z same. let h = and_parts _ _ same in ap₂ (λ (a b : Bool). a && b) (nat_eq_equiv.congr x.bits y.bits z.bits h.0) (nat_eq_equiv.congr x.len y.len z.len h.1);
}

-- a check that passes found no place
pub none_at_ok : (fault : Place → PolicyFault) (o : Option Place) (x : ⊤) → none_at fault o ≡ Ok x → o ≡ None
none_at_ok fault (Some p) x h = absurd cc
none_at_ok fault None x h = refl
