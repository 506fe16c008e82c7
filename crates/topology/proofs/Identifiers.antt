-- Identifiers that a text spells are not 0, and fit 32 bits.
use Rattle.std.proofs.Common.{◌≡◌, ℕ, ◌+◌, ◌*◌, ◌^◌, ◌<◌, List, Option, Some, None, Ok, Bool, true, false, ◌&&◌, refl, arith}
use Rattle.std.specs.Prelude.{◌==◌, nat_le, if◌then◌else◌, option_and_then, codes}
use Rattle.std.specs.List.{AllByRecursion}
use Rattle.std.proofs.lemmas.Bool.{leb-true, eqb-false}
use Rattle.std.proofs.lemmas.Option.{same_Some}
use Rattle.serde_json.specs.Data.{Data}
use Rattle.serde_json.specs.Find.{get, as_object}
use Rattle.serde_json.specs.Events.{members_len}
use Rattle.net_base.specs.Addresses.{Quad, quad_of, are_octets, bits_of, address_of}
use Rattle.net_base.specs.Steps.{or_fault, unless}
use Rattle.topology.specs.declared.parts.Field.TheVariants as field
use Rattle.topology.specs.declared.fault.TopoFault.TheVariants.{Shape}
use Rattle.json_values.specs.Json.{list_at, text_at, number_at}
use Rattle.topology.specs.Shape.{Entry, Topology, each, entry_of, ends_of, shape_of, identifier_of, IsIdentifier}
use Rattle.net_base.proofs.StepLemmas.{bind_ok, or_fault_ok, ok_same}
use Rattle.topology.proofs.Results.{each_from-all}

octets_fit : (a b c d : ℕ) → (nat_le a 255 && (nat_le b 255 && (nat_le c 255 && nat_le d 255))) ≡ true → a * 2 ^ 24 + b * 2 ^ 16 + c * 2 ^ 8 + d < 2 ^ 32
octets_fit a b c d h = by (nat_le a 255) (nat_le b 255) (nat_le c 255) (nat_le d 255) refl refl refl refl h
  where
    by : (p q r s : Bool) → nat_le a 255 ≡ p → nat_le b 255 ≡ q → nat_le c 255 ≡ r → nat_le d 255 ≡ s → (p && (q && (r && s))) ≡ true → a * 2 ^ 24 + b * 2 ^ 16 + c * 2 ^ 8 + d < 2 ^ 32
    by true true true true e f g k t = omega (arith, leb-true a 255 e, leb-true b 255 f, leb-true c 255 g, leb-true d 255 k)
    by true true true false e f g k t = absurd cc
    by true true false s e f g k t = absurd cc
    by true false r s e f g k t = absurd cc
    by false q r s e f g k t = absurd cc

address_fits : (text : List ℕ) (n : ℕ) → address_of text ≡ Some n → n < 2 ^ 32
unfolding address_of
address_fits text n h = by (quad_of text) refl
  where
    within : (q : Quad) (b : Bool) → are_octets q ≡ b → (if b then Some (bits_of q) else (let r : Option ℕ = None in r)) ≡ Some n → n < 2 ^ 32
    within q true e h = rw (← same_Some (bits_of q) n h) (octets_fit q.first q.second q.third q.fourth e)
    within q false e h = absurd cc

    by : (r : Option Quad) → quad_of text ≡ r → n < 2 ^ 32
    by (Some q) e = within q (are_octets q) refl (rw e at h)
    by None e = absurd (let f : (let r : Option ℕ = None in r) ≡ Some n = rw e at h in cc)

identifier_holds : (text : List ℕ) (n : ℕ) → identifier_of text ≡ Some n → IsIdentifier n
identifier_holds text n h = by (address_of text) refl h
  where
    apart : (m : ℕ) (b : Bool) → (m == 0) ≡ b → address_of text ≡ Some m → (if b then (let r : Option ℕ = None in r) else Some m) ≡ Some n → IsIdentifier n
    apart m true e a h = absurd cc
    apart m false e a h = rw (← same_Some m n h) (eqb-false m 0 e, address_fits text m a)

    by : (r : Option ℕ) → address_of text ≡ r → option_and_then (λ m. if m == 0 then None else Some m) r ≡ Some n → IsIdentifier n
    by (Some m) a h = apart m (m == 0) refl a h
    by None a h = absurd cc

entry_id : (d : Data) (e : Entry) → entry_of d ≡ Ok e → IsIdentifier e.id
unfolding entry_of
entry_id d e h =
    let a = bind_ok (or_fault (Shape field.Entry) (as_object d)) _ e h in
    let b = bind_ok (or_fault (Shape field.Name) (text_at (codes "name") d)) _ e a.2 in
    let c = bind_ok (or_fault (Shape field.Asn) (number_at (codes "asn") d)) _ e b.2 in
    let f = bind_ok (or_fault (Shape field.Id) (text_at (codes "id") d)) _ e c.2 in
    let g = bind_ok (or_fault (Shape field.Id) (identifier_of f.0)) _ e f.2 in
    let k = bind_ok (unless (Shape field.Entry) (members_len a.0 == 3)) _ e g.2 in
    rw (← ok_same _ e k.2) (identifier_holds f.0 g.0 (or_fault_ok _ _ _ g.1))

ids_of : (ds : List Data) (es : List Entry) → each entry_of ds ≡ Ok es → AllByRecursion (λ e. IsIdentifier e.id) es
unfolding each
ids_of ds es h = each_from-all (λ (e : Entry). IsIdentifier e.id) (λ _. entry_of) (λ _. entry_id) 1 ds es h

pub shape_ids : (d : Data) (t : Topology) → shape_of d ≡ Ok t → AllByRecursion (λ e. IsIdentifier e.id) t.routers × AllByRecursion (λ e. IsIdentifier e.id) t.peers
unfolding shape_of
shape_ids d t h =
    let a = bind_ok (or_fault (Shape field.Top) (as_object d)) _ t h in
    let b = bind_ok (or_fault (Shape field.Top) (get (codes "routers") d)) _ t a.2 in
    let c = bind_ok (or_fault (Shape field.Top) (get (codes "peers") d)) _ t b.2 in
    let e = bind_ok (or_fault (Shape field.Top) (get (codes "links") d)) _ t c.2 in
    let f = bind_ok (unless (Shape field.Top) (members_len a.0 == 3)) _ t e.2 in
    let g = bind_ok (or_fault (Shape field.Routers) (list_at b.0)) _ t f.2 in
    let k = bind_ok (each entry_of g.0) _ t g.2 in
    let l = bind_ok (or_fault (Shape field.Peers) (list_at c.0)) _ t k.2 in
    let m = bind_ok (each entry_of l.0) _ t l.2 in
    let n = bind_ok (or_fault (Shape field.Links) (list_at e.0)) _ t m.2 in
    let o = bind_ok (each ends_of n.0) _ t n.2 in
    rw (← ok_same _ t o.2) (ids_of g.0 k.0 k.1, ids_of l.0 m.0 m.1)
