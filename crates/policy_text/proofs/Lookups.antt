-- The names of a net are known.
use Rattle.std.proofs.Common.{◌≡◌, ℕ, ◌+◌, List, [], ◌∷◌, ◌++◌, length, map, false, Some, None, refl, sym, ap, ap₂, ◌∙◌, subst, arith, append_assoc, append-nil}
use Rattle.std.specs.List.{list_any, AllByRecursion, IsDistinct}
use Rattle.std.specs.Str.{bytes_eq}
use Rattle.list_law.proofs.Texts.{bytes_eq_apart, bytes_eq_self}
use Rattle.list_law.proofs.Positions.{position-there}
use Rattle.list_law.proofs.Items.{slice_get-there}
use Rattle.list_law.proofs.Keys.{others_before}
use Rattle.net_base.specs.declared.loc.LocSet.{LocSet}
use Rattle.net_base.specs.declared.net.Site.{Site}
use Rattle.net_base.specs.Network.{PlainNet, sites}
use Rattle.net_base.specs.SetOperations.{no_location, with_location}
use Rattle.policy_rules.specs.KnownNames.{Names, set_named, with_name, with_new_name, with_sites, net_names}

-- the sets of one location each, from l on
abbrev pub singles : ℕ → List Site → List LocSet
singles l [] = []
singles l (x ∷ xs) = with_location no_location l ∷ singles (l + 1) xs

abbrev pub site_names : List Site → List (List ℕ)
site_names xs = map (λ (x : Site). x.name) xs

-- none of these names is the other
abbrev AreOthers : List ℕ → List (List ℕ) → Type 0
AreOthers name ns = list_any (bytes_eq name) ns ≡ false

learn_new : (known : Names) (name : List ℕ) (s : LocSet) → AreOthers name known.names → with_new_name known name s ≡ with_name known name s
learn_new known name s new = rw new refl

with_sites-apart : (l : ℕ) (xs : List Site) (ns : List (List ℕ)) (ss : List LocSet) → IsDistinct bytes_eq (ns ++ site_names xs)
    → with_sites l xs (record { names = ns; sets = ss; twice = None }) ≡ record { names = ns ++ site_names xs; sets = ss ++ singles l xs; twice = None }
with_sites-apart l [] ns ss apart = rw (append-nil ns, append-nil ss) refl
with_sites-apart l (x ∷ xs) ns ss apart =
    let set : LocSet = with_location no_location l in
    let new = learn_new (record { names = ns; sets = ss; twice = None }) x.name set (others_before bytes_eq bytes_eq_apart ns x.name (site_names xs) apart) in
    let order : ns ++ x.name ∷ [] ++ site_names xs ≡ ns ++ site_names (x ∷ xs) = append_assoc ns (x.name ∷ []) (site_names xs) in
    let order' : ss ++ set ∷ [] ++ singles (l + 1) xs ≡ ss ++ singles l (x ∷ xs) = append_assoc ss (set ∷ []) (singles (l + 1) xs) in
    let again = with_sites-apart (l + 1) xs (ns ++ x.name ∷ []) (ss ++ set ∷ []) (subst (λ (v : List (List ℕ)). IsDistinct bytes_eq v) (sym order) apart) in
    ap (with_sites (l + 1) xs) new ∙ again ∙ ap₂ (λ (a : List (List ℕ)) (b : List LocSet). let k : Names = record { names = a; sets = b; twice = None } in k) order order'

singles-append : (l : ℕ) (xs ys : List Site) → singles l (xs ++ ys) ≡ singles l xs ++ singles (l + length xs) ys
singles-append l [] ys = ap (λ (n : ℕ). singles n ys) (omega arith)
singles-append l (x ∷ xs) ys =
    let place : l + 1 + length xs ≡ l + length (x ∷ xs) = omega arith in
    ap (λ (v : List LocSet). with_location no_location l ∷ v) (singles-append (l + 1) xs ys ∙ ap (λ (n : ℕ). singles (l + 1) xs ++ singles n ys) place)

distinct_front : (xs ys : List (List ℕ)) → IsDistinct bytes_eq (xs ++ ys) → IsDistinct bytes_eq xs
unfolding IsDistinct
distinct_front [] ys apart = tt
distinct_front (x ∷ xs) ys apart = (front xs apart.0, distinct_front xs ys apart.1) where
  front : (zs : List (List ℕ)) → AllByRecursion (λ z. bytes_eq x z ≡ false) (zs ++ ys) → AllByRecursion (λ z. bytes_eq x z ≡ false) zs
  front [] all = tt
  front (z ∷ zs) all = (all.0, front zs all.1)

names-append : (xs ys : List Site) → site_names (xs ++ ys) ≡ site_names xs ++ site_names ys
names-append [] ys = refl
names-append (x ∷ xs) ys = ap (λ (v : List (List ℕ)). x.name ∷ v) (names-append xs ys)

-- the names of a net are those of its locations, each for one location
pub net_names-sites : (net : PlainNet) → IsDistinct bytes_eq (site_names (sites net)) → net_names net ≡ record { names = site_names (sites net); sets = singles 0 (sites net); twice = None }
net_names-sites net apart =
    let both : IsDistinct bytes_eq (site_names net.routers ++ site_names net.peers) = subst (λ (v : List (List ℕ)). IsDistinct bytes_eq v) (names-append net.routers net.peers) apart in
    let routers = with_sites-apart 0 net.routers [] [] (distinct_front (site_names net.routers) (site_names net.peers) both) in
    let peers = with_sites-apart (length net.routers) net.peers (site_names net.routers) (singles 0 net.routers) both in
    let place : 0 + length net.routers ≡ length net.routers = omega arith in
    ap (with_sites (length net.routers) net.peers) routers ∙ peers
    ∙ ap₂ (λ (a : List (List ℕ)) (b : List LocSet). let k : Names = record { names = a; sets = b; twice = None } in k) (sym (names-append net.routers net.peers))
    (sym (singles-append 0 net.routers net.peers ∙ ap (λ (n : ℕ). singles 0 net.routers ++ singles n net.peers) place))

-- a location is found by its name
pub set_named-there : (pre : List Site) (x : Site) (post : List Site) → IsDistinct bytes_eq (site_names (pre ++ x ∷ post))
    → set_named (record { names = site_names (pre ++ x ∷ post); sets = singles 0 (pre ++ x ∷ post); twice = None }) x.name ≡ Some (with_location no_location (length pre))
set_named-there pre x post apart =
    let order : site_names (pre ++ x ∷ post) ≡ site_names pre ++ x.name ∷ site_names post = names-append pre (x ∷ post) in
    let split : IsDistinct bytes_eq (site_names pre ++ x.name ∷ site_names post) = subst (λ (v : List (List ℕ)). IsDistinct bytes_eq v) order apart in
    let found =
    position-there (bytes_eq x.name) (site_names pre) x.name (site_names post)
    (others_before bytes_eq bytes_eq_apart (site_names pre) x.name (site_names post) split) (bytes_eq_self x.name) in
    let size : length (site_names pre) ≡ length (singles 0 pre) = sizes 0 pre in
    let start : 0 + length pre ≡ length pre = omega arith in
    let sets : singles 0 (pre ++ x ∷ post) ≡ singles 0 pre ++ with_location no_location (length pre) ∷ singles (length pre + 1) post =
    singles-append 0 pre (x ∷ post) ∙ ap (λ (n : ℕ). singles 0 pre ++ with_location no_location n ∷ singles (n + 1) post) start in
    rw (order, found, sets, size) (slice_get-there (singles 0 pre) (with_location no_location (length pre)) (singles (length pre + 1) post)) where
      sizes : (l : ℕ) (xs : List Site) → length (site_names xs) ≡ length (singles l xs)
      sizes l [] = refl
      sizes l (y ∷ ys) = omega (arith, sizes (l + 1) ys)
