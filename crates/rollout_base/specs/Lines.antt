-- What the lines of a part do with one prefix, and how parts differ in that.
use Rattle.std.specs.Prelude.{◌≡◌, ℕ, false, ◌⊎◌, IsTrue, List, Option, Some, option_and_then}
use Rattle.net_base.specs.declared.numbers.Tag.{Tag}
use Rattle.net_base.specs.Network.{PlainNet, is_router}
use Rattle.net_base.specs.Prefixes.{PlainPrefix}
use Rattle.policy_base.specs.Governing.{is_origin}
use Rattle.config_base.specs.Configs.{PlainConfig}
use Rattle.config_base.specs.Lines.{class_of, export_of, import_of, own_tag}
use Rattle.rollout_base.specs.Mixtures.{Part}

-- the tag that a router sends with a route to a neighbour, if it sends it
abbrev pub sends : PlainNet → PlainConfig → PlainPrefix → ℕ → ℕ → Tag → Option Tag
sends net config p r z tag = option_and_then (λ class. export_of net config class r z tag) (class_of config p)

-- the tag and the preference that a router gives a neighbour's route, if it takes it
abbrev pub takes : PlainNet → PlainConfig → PlainPrefix → ℕ → ℕ → List ℕ → Tag → Option (Tag × ℕ)
takes net config p r u path tag = option_and_then (λ class. import_of net config class r u path tag) (class_of config p)

-- The lines of r give a route this tag: its own route, or one that it takes.
abbrev pub GivesTag : PlainNet → PlainPrefix → Part → ℕ → Tag → Type 0
GivesTag net p x r t =
    (IsTrue (is_origin net x.policy p r) × (own_tag net x.config p r ≡ t))
    ⊎ ((u : ℕ) × (path : List ℕ) × (tag : Tag) × (pref : ℕ) × (takes net x.config p r u path tag ≡ Some (t, pref)))

-- Lines ask for this tag of a route of r: r sends it on, or a router takes it from r.
abbrev pub ReadsTag : PlainNet → PlainPrefix → Part → ℕ → Tag → Type 0
ReadsTag net p x r t =
    ((z : ℕ) × (k : Tag) × (sends net x.config p r z t ≡ Some k))
    ⊎ ((z : ℕ) × (path : List ℕ) × (q : Tag × ℕ) × IsTrue (is_router net z) × (takes net x.config p z r path t ≡ Some q))

-- No tag that one of two parts gives a route at a router is one for which the other asks there.
pub record AreApart (net : PlainNet) (p : PlainPrefix) (x y : Part) : Type 0 where
  pub one : (r : ℕ) (t : Tag) → IsTrue (is_router net r) → GivesTag net p x r t → ReadsTag net p y r t → ⊥
  pub other : (r : ℕ) (t : Tag) → IsTrue (is_router net r) → GivesTag net p y r t → ReadsTag net p x r t → ⊥

-- the part is one by which r originates the prefix, with the tag of another part
abbrev pub OriginatesAs : PlainNet → PlainPrefix → ℕ → Part → Part → Type 0
OriginatesAs net p r part x = IsTrue (is_origin net x.policy p r) × (own_tag net part.config p r ≡ own_tag net x.config p r)

-- At the router r the part does nothing with the prefix that neither x nor y does; preferences are free.
pub record SaysNoMore (net : PlainNet) (p : PlainPrefix) (x y : Part) (r : ℕ) (part : Part) : Type 0 where
  pub own : IsTrue (is_origin net part.policy p r) → OriginatesAs net p r part x ⊎ OriginatesAs net p r part y
  pub sent : (z : ℕ) (tag t : Tag) → sends net part.config p r z tag ≡ Some t → (sends net x.config p r z tag ≡ Some t) ⊎ (sends net y.config p r z tag ≡ Some t)
  pub taken : (u : ℕ) (path : List ℕ) (tag t : Tag) (pref : ℕ) → takes net part.config p r u path tag ≡ Some (t, pref)
      → ((n : ℕ) × (takes net x.config p r u path tag ≡ Some (t, n))) ⊎ ((n : ℕ) × (takes net y.config p r u path tag ≡ Some (t, n)))

-- At the router r the part does with the routes of x just what x does: it originates the same, sends what has a tag of x alike, and takes
-- that alike from routers, and whatever peers announce.
pub record ReadsAs (net : PlainNet) (p : PlainPrefix) (x : Part) (r : ℕ) (part : Part) : Type 0 where
  pub origin : is_origin net part.policy p r ≡ is_origin net x.policy p r
  pub own : IsTrue (is_origin net x.policy p r) → own_tag net part.config p r ≡ own_tag net x.config p r
  pub sent : (z : ℕ) (t : Tag) → GivesTag net p x r t → sends net part.config p r z t ≡ sends net x.config p r z t
  pub taken : (u : ℕ) (path : List ℕ) (t : Tag) → IsTrue (is_router net u) → GivesTag net p x u t → takes net part.config p r u path t ≡ takes net x.config p r u path t
  pub heard : (u : ℕ) (path : List ℕ) (t : Tag) → is_router net u ≡ false → takes net part.config p r u path t ≡ takes net x.config p r u path t
