-- The block of a neighbour is the one with the neighbour's own name.
use Rattle.std.proofs.Common.{◌≡◌, ℕ, List, Bool, true, false, not, Option, Some, None, refl, ap, sym, subst, length, arith}
use Rattle.std.specs.Prelude.{◌&&◌, if◌then◌else◌}
use Rattle.std.specs.List.{find, AllByRecursion}
use Rattle.std.specs.Str.{bytes_eq}
use Rattle.std.specs.Option.{option_map, option_map_or, IfSome}
use Rattle.std.proofs.lemmas.Bool.{ltb-false, le-leb}
use Rattle.std.proofs.lemmas.List.{length-append}
use Rattle.std.proofs.lemmas.Option.{slice_get_past}
use Rattle.list_law.proofs.Each.{AllByRecursion_at}
use Rattle.list_law.proofs.Tests.{find_parts, find-same, find-never}
use Rattle.net_base.specs.declared.net.Site.{Site}
use Rattle.net_base.specs.Network.{PlainNet, is_named, is_router, is_location, is_peer, site_of, sites}
use Rattle.config_base.specs.declared.config.RouterConfig.{RouterConfig}
use Rattle.config_base.specs.declared.config.Session.{Session}
use Rattle.config_base.specs.Configs.{PlainConfig}
use Rattle.config_base.specs.Lines.{block_at, router_at}

-- the block with this name, of the kind that is asked for
abbrev pub is_it : List ℕ → Bool → Session → Bool
is_it name peer b = bytes_eq name b.name && (if b.peer then peer else not peer)

abbrev same_kind : Bool → Bool → Bool
same_kind true b = b
same_kind false b = not b

of_kind : (a b k p : Bool) → a ≡ b → (a && same_kind k p) ≡ (b && (if k then p else not p))
of_kind a b true p same = ap (λ t. t && p) same
of_kind a b false p same = ap (λ t. t && not p) same

named_by : (net : PlainNet) (z : ℕ) (name other : List ℕ) → option_map (λ (s : Site). s.name) (site_of net z) ≡ Some name → is_named net other z ≡ bytes_eq name other
named_by net z name other h = by (site_of net z) h
  where
    by : (o : Option Site) → option_map (λ (s : Site). s.name) o ≡ Some name → option_map_or (λ (s : Site). bytes_eq s.name other) o false ≡ bytes_eq name other
    by None h = absurd cc
    by (Some s) h = let one : s.name ≡ name = cc in ap (λ n. bytes_eq n other) one

unnamed : (net : PlainNet) (z : ℕ) (name : List ℕ) → is_location net z ≡ false → is_named net name z ≡ false
unnamed net z name unknown =
    ap (λ o. option_map_or (λ (s : Site). bytes_eq s.name name) o false)
    (slice_get_past (sites net) z (omega (arith, ltb-false _ _ unknown, length-append net.routers net.peers)))

pub block_by_name : (net : PlainNet) (config : PlainConfig) (r z : ℕ) (c : RouterConfig) (name : List ℕ) → Some c ≡ router_at net config r
    → option_map (λ (s : Site). s.name) (site_of net z) ≡ Some name
    → block_at net config r z ≡ find (is_it name (is_peer net z)) c.sessions
block_by_name net config r z c name at named =
    rw (sym at) (find-same _ (is_it name (is_peer net z)) (λ b. of_kind _ _ b.peer (is_peer net z) (named_by net z name b.name named)) c.sessions)

pub no_block : (net : PlainNet) (config : PlainConfig) (r z : ℕ) (c : RouterConfig) → Some c ≡ router_at net config r → is_location net z ≡ false → block_at net config r z ≡ None
no_block net config r z c at unknown =
    rw (sym at) (find-never _ (λ b. of_kind _ false b.peer (is_peer net z) (unnamed net z b.name unknown)) c.sessions)

kind_of : (name : List ℕ) (peer : Bool) (b : Session) → is_it name peer b ≡ true → b.peer ≡ peer
kind_of name peer b h = by (bytes_eq name b.name) b.peer peer h
  where
    by : (s k p : Bool) → (s && (if k then p else not p)) ≡ true → k ≡ p
    by false k p h = absurd cc
    by true true true h = refl
    by true true false h = absurd cc
    by true false true h = absurd cc
    by true false false h = refl

pub nowhere : (net : PlainNet) (z : ℕ) → false ≡ is_peer net z → false ≡ is_router net z → is_location net z ≡ false
nowhere net z no_peer no_router = let there : false ≡ is_location net z = rw (le-leb (length net.routers) z (ltb-false _ _ (sym no_router))) at no_peer in sym there

-- what holds of each block holds of the one that a test finds
each_found : {B : Type 0} (P : B → Type 0) (p : B → Bool) (bs : List B) → AllByRecursion P bs → IfSome (find p bs) P
each_found P p bs h = by (find p bs) refl
  where
    by : (o : Option _) → find p bs ≡ o → IfSome o P
    by None e = tt
    by (Some b) e = let there = find_parts p bs b e in AllByRecursion_at P bs there.0 b h there.1

pub if_found : {A B : Type 0} (value : A → B) (P : B → Type 0) (found : Option B) (r : Option A) → option_map value r ≡ found → IfSome found P → IfSome r (λ a. P (value a))
if_found value P found None same h = tt
if_found value P found (Some a) same h = subst (λ o. IfSome o P) (sym same) h

pub if_each_found : {A B : Type 0} (value : A → B) (P : B → Type 0) (p : B → Bool) (bs : List B) (r : Option A) → option_map value r ≡ find p bs → AllByRecursion P bs → IfSome r (λ a. P (value a))
if_each_found value P p bs r same all = if_found value P (find p bs) r same (each_found P p bs all)

found_passes : (p : Session → Bool) (bs : List Session) → IfSome (find p bs) (λ b. p b ≡ true)
found_passes p bs = by (find p bs) refl
  where
    by : (o : Option Session) → find p bs ≡ o → IfSome o (λ b. p b ≡ true)
    by None e = tt
    by (Some b) e = (find_parts p bs b e).2

pub kind_found : (name : List ℕ) (peer : Bool) (bs : List Session) → IfSome (find (is_it name peer) bs) (λ b. b.peer ≡ peer)
kind_found name peer bs = by (find (is_it name peer) bs) (found_passes (is_it name peer) bs)
  where
    by : (o : Option Session) → IfSome o (λ b. is_it name peer b ≡ true) → IfSome o (λ b. b.peer ≡ peer)
    by None h = tt
    by (Some b) h = kind_of name peer b h
