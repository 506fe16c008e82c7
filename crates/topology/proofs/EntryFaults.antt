-- Which entries the faults 3 to 8 are about.
use Rattle.std.proofs.Common.{◌≡◌, ℕ, List, [], length, map, Ok, Err, refl, sym, ap, ◌∙◌, arith, true≢false}
use Rattle.std.specs.Prelude.{⊤, IsTrue, nat_eq, nat_le}
use Rattle.std.specs.List.{AllByRecursion, IsDistinct}
use Rattle.std.specs.Str.{bytes_eq}
use Rattle.std.proofs.lemmas.Bool.{leb-false}
use Rattle.list_law.proofs.Texts.{bytes_eq_apart}
use Rattle.list_law.proofs.Numbers.{nat_eq_apart}
use Rattle.json_values.specs.TextRules.{Keeps}
use Rattle.json_values.proofs.EachStep.{each_from-keeps}
use Rattle.net_base.specs.NameRule.{is_name}
use Rattle.net_base.specs.Steps.{◌>>=◌, unless, each_from}
use Rattle.net_base.specs.declared.net.Site.{Site}
use Rattle.topology.specs.declared.parts.Kind.{Kind}
use Rattle.topology.specs.declared.parts.Kind.TheVariants as kind
use Rattle.topology.specs.declared.fault.TopoFault.{TopoFault}
use Rattle.topology.specs.declared.fault.TopoFault.TheVariants.{TooMany, BadName, Twice, AsRange}
use Rattle.topology.specs.declared.sites.Number.{Number}
use Rattle.topology.specs.declared.sites.Number.TheVariants as which
use Rattle.topology.specs.Faults.{number_of}
use Rattle.topology.specs.Laws.{rules}
use Rattle.topology.specs.Rules.{named, site_of, counted, names_differ, numbers_differ, names_of, is_lawful_as, number, shared}
use Rattle.topology.specs.Shape.{Entry, Topology}
use Rattle.topology.proofs.Distinct.{all_unlike-distinct}
use Rattle.topology.proofs.Outcomes.{all_unlike-breaks, all_nothing}
use Rattle.net_base.proofs.StepLemmas.{bind_ok, err_same, ok_not_err, unless_ok}
use Rattle.net_base.proofs.StepOutcomes.{bind_case, unless_err}

-- the rule of this number is broken, and the fault has the number
abbrev Breaks : ℕ → Topology → TopoFault → Type 0
Breaks k t e = (Keeps (rules t) k → ⊥) × (number_of e ≡ k)

pub counted_breaks : (t : Topology) (e : TopoFault) → counted t ≡ Err e → Breaks 3 t e
unfolding counted
counted_breaks t e h =
    bind_case (Breaks 3 t e) (unless (TooMany kind.Routers (length t.routers)) (nat_le (length t.routers) 512))
    (λ _. unless (TooMany kind.Peers (length t.peers)) (nat_le (length t.peers) 256) >>= (λ _. unless (TooMany kind.Links (length t.links)) (nat_le (length t.links) 8192)))
    (Err e) h
    (λ d p same. let q = unless_err _ d _ p in ((λ k. omega (arith, k.0, leb-false _ _ q.1)), ap number_of (err_same {A = ⊤} e d same ∙ sym q.0)))
    (λ _ _ g. bind_case (Breaks 3 t e) (unless (TooMany kind.Peers (length t.peers)) (nat_le (length t.peers) 256))
    (λ _. unless (TooMany kind.Links (length t.links)) (nat_le (length t.links) 8192)) (Err e) g
    (λ d p same. let q = unless_err _ d _ p in ((λ k. omega (arith, k.1, leb-false _ _ q.1)), ap number_of (err_same {A = ⊤} e d same ∙ sym q.0)))
    (λ _ _ p. let q = unless_err _ e _ p in ((λ k. omega (arith, k.2, leb-false _ _ q.1)), ap number_of (sym q.0))))

pub named_breaks : (k : Kind) (place : ℕ) (x : Entry) (e : TopoFault) → named k place x ≡ Err e → (IsTrue (is_name x.name) → ⊥) × (number_of e ≡ 4)
unfolding named
named_breaks k place x e h =
    bind_case ((IsTrue (is_name x.name) → ⊥) × (number_of e ≡ 4)) (unless (BadName k place) (is_name x.name)) (λ _. Ok x) (Err e) h
    (λ d p same. let q = unless_err _ d _ p in ((λ is. true≢false (sym is ∙ q.1)), ap number_of (err_same {A = Entry} e d same ∙ sym q.0)))
    (λ _ _ g. absurd (ok_not_err x e g))

named_keeps : (k : Kind) (place : ℕ) (x y : Entry) → named k place x ≡ Ok y → IsTrue (is_name x.name)
unfolding named
named_keeps k place x y h = unless_ok _ _ _ (bind_ok (unless (BadName k place) (is_name x.name)) (λ _. Ok x) y h).1

pub all_named : (k : Kind) (place : ℕ) (xs ys : List Entry) → each_from (named k) place xs ≡ Ok ys → AllByRecursion (λ e. IsTrue (is_name e.name)) xs
all_named k = each_from-keeps (λ e. IsTrue (is_name e.name)) (named k) (named_keeps k)

pub site_breaks : (k : Kind) (x : Entry) (e : TopoFault) → site_of k x ≡ Err e → (IsTrue (is_lawful_as k x.asn) → ⊥) × (number_of e ≡ 6)
unfolding site_of
site_breaks k x e h =
    let s : Site = record { name = x.name; asn = x.asn; id = x.id } in
    bind_case ((IsTrue (is_lawful_as k x.asn) → ⊥) × (number_of e ≡ 6)) (unless (AsRange x.name) (is_lawful_as k x.asn)) (λ _. Ok s) (Err e) h
    (λ d p same. let q = unless_err _ d _ p in ((λ is. true≢false (sym is ∙ q.1)), ap number_of (err_same {A = Site} e d same ∙ sym q.0)))
    (λ _ _ g. absurd (ok_not_err s e g))

site_keeps : (k : Kind) (x : Entry) (s : Site) → site_of k x ≡ Ok s → IsTrue (is_lawful_as k x.asn)
unfolding site_of
site_keeps k x s h = unless_ok _ _ _ (bind_ok (unless (AsRange x.name) (is_lawful_as k x.asn)) (λ _. Ok (let s : Site = record { name = x.name; asn = x.asn; id = x.id } in s)) s h).1

pub all_lawful : (k : Kind) (place : ℕ) (xs : List Entry) (ys : List Site) → each_from (λ _. site_of k) place xs ≡ Ok ys → AllByRecursion (λ e. IsTrue (is_lawful_as k e.asn)) xs
all_lawful k = each_from-keeps (λ e. IsTrue (is_lawful_as k e.asn)) (λ _. site_of k) (λ _. site_keeps k)

pub names_break : (es : List Entry) (e : TopoFault) → names_differ es ≡ Err e → (IsDistinct bytes_eq (names_of es) → ⊥) × (number_of e ≡ 5)
unfolding names_differ
names_break es e h =
    let q = all_unlike-breaks (λ (e : Entry). e.name) bytes_eq bytes_eq_apart (λ _ _ later. Twice later.name) (λ f. number_of f ≡ 5) (λ k a b. refl) [] es e h in
    ((λ d. q.0 d (all_nothing bytes_eq (names_of es))), q.1)

pub names_keep : (es : List Entry) → names_differ es ≡ Ok tt → IsDistinct bytes_eq (names_of es)
unfolding names_differ
names_keep es h = (all_unlike-distinct (λ (e : Entry). e.name) bytes_eq bytes_eq_apart (λ _ _ later. Twice later.name) [] es tt h).0

numbers_break : (n : Number) (k : ℕ) → ((a b : Entry) → number_of (shared n a b) ≡ k) → (es : List Entry) (e : TopoFault) → numbers_differ n es ≡ Err e
    → (IsDistinct nat_eq (map (number n) es) → ⊥) × (number_of e ≡ k)
unfolding numbers_differ
numbers_break n k told es e h =
    let q = all_unlike-breaks (number n) nat_eq nat_eq_apart (λ _. shared n) (λ f. number_of f ≡ k) (λ _. told) [] es e h in
    ((λ d. q.0 d (all_nothing nat_eq (map (number n) es))), q.1)

pub asns_break : (es : List Entry) (e : TopoFault) → numbers_differ which.As es ≡ Err e → (IsDistinct nat_eq (map (λ (e : Entry). e.asn) es) → ⊥) × (number_of e ≡ 7)
asns_break = numbers_break which.As 7 (λ _ _. refl)

pub ids_break : (es : List Entry) (e : TopoFault) → numbers_differ which.Id es ≡ Err e → (IsDistinct nat_eq (map (λ (e : Entry). e.id) es) → ⊥) × (number_of e ≡ 8)
ids_break = numbers_break which.Id 8 (λ _ _. refl)

pub numbers_keep : (n : Number) (es : List Entry) → numbers_differ n es ≡ Ok tt → IsDistinct nat_eq (map (number n) es)
unfolding numbers_differ
numbers_keep n es h = (all_unlike-distinct (number n) nat_eq nat_eq_apart (λ _. shared n) [] es tt h).0
