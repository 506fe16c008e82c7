-- When the lines of two classes may be mixed.
use Rattle.std.specs.Prelude.{◌≡◌, ℕ, ◌==◌, ◌⊎◌, IsTrue, List, [], ◌∷◌, map}
use Rattle.std.specs.List.{AllByRecursion, filter}
use Rattle.list_law.specs.Members.{IsIn}
use Rattle.net_base.specs.declared.numbers.Tag.{Tag}
use Rattle.net_base.specs.Network.{PlainNet}
use Rattle.net_base.specs.Numbers.{is_tag}
use Rattle.net_base.specs.Prefixes.{PlainPattern, PlainPrefix, IsPrefix}
use Rattle.policy_base.specs.Governing.{some_contains}
use Rattle.config_base.specs.declared.config.RouterConfig.{RouterConfig}
use Rattle.config_base.specs.declared.config.Session.{Session}
use Rattle.config_base.specs.declared.config.Import.{Import}
use Rattle.config_base.specs.declared.config.Export.{Export}
use Rattle.config_base.specs.declared.config.Origination.{Origination}
use Rattle.config_base.specs.Configs.{PlainConfig, IsConfig}
use Rattle.rollout_base.specs.Mixtures.{Part}
use Rattle.rollout_base.specs.Stages.{IsRollout, MayMix}
use Rattle.stage_classes.specs.declared.cell.Cell.{Cell}
use Rattle.stage_maker.specs.Alike.{AreAlike}
use Rattle.stage_maker.specs.Joined.{joined}
use Rattle.stage_maker.specs.Laws.{ArePairsOf, MayJoin}

-- ---- the same lines

-- what the lines of a class say, without its number
abbrev pub imports_of : ℕ → Session → List (Tag × (Tag × ℕ))
imports_of n b = map (λ (r : Import). (r.tag, (r.set, r.pref))) (filter (λ (r : Import). r.class == n) b.imports)

abbrev pub exports_of : ℕ → Session → List Tag
exports_of n b = map (λ (e : Export). e.tag) (filter (λ (e : Export). e.class == n) b.exports)

-- of `originate` lines those about prefixes of these patterns
abbrev pub own_of : List PlainPattern → ℕ → RouterConfig → List (PlainPrefix × Tag)
own_of patterns n c =
    map (λ (o : Origination). (o.prefix, o.tag)) (filter (λ (o : Origination). some_contains patterns o.prefix) (filter (λ (o : Origination). o.class == n) c.own))

-- block by block
pub record SameInBlock (m n : ℕ) (a b : Session) : Type 0 where
  pub imports : imports_of m a ≡ imports_of n b
  pub exports : exports_of m a ≡ exports_of n b

abbrev pub SameInBlocks : ℕ → ℕ → List Session → List Session → Type 0
SameInBlocks m n [] [] = Unit {0}
SameInBlocks m n (a ∷ xs) (b ∷ ys) = SameInBlock m n a b × SameInBlocks m n xs ys
SameInBlocks m n _ _ = ⊥

pub record SameAtRouter (patterns : List PlainPattern) (m n : ℕ) (a b : RouterConfig) : Type 0 where
  pub own : own_of patterns m a ≡ own_of patterns n b
  pub sessions : SameInBlocks m n a.sessions b.sessions

-- Every block has the same lines of the class m of the one and of the class n of the other, as far as they are about prefixes of these patterns.
abbrev pub SaySame : List PlainPattern → ℕ → ℕ → List RouterConfig → List RouterConfig → Type 0
SaySame patterns m n [] [] = Unit {0}
SaySame patterns m n (a ∷ xs) (b ∷ ys) = SameAtRouter patterns m n a b × SaySame patterns m n xs ys
SaySame patterns m n _ _ = ⊥

-- ---- no tag in common

-- in a line of the class: an import asks for it or sets it, or an export asks for it
abbrev pub StandsBy : ℕ → Session → Tag → Type 0
StandsBy n b t =
    ((i : Import) × IsIn b.imports i × (i.class ≡ n) × ((i.tag ≡ t) ⊎ (i.set ≡ t)))
    ⊎ ((e : Export) × IsIn b.exports e × (e.class ≡ n) × (e.tag ≡ t))

-- in the block of a router: its own lines, or one of its blocks
abbrev pub StandsAt : ℕ → RouterConfig → Tag → Type 0
StandsAt n c t = ((o : Origination) × IsIn c.own o × (o.class ≡ n) × (o.tag ≡ t)) ⊎ ((b : Session) × IsIn c.sessions b × StandsBy n b t)

abbrev pub StandsIn : ℕ → PlainConfig → Tag → Type 0
StandsIn n config t = (c : RouterConfig) × IsIn config.routers c × StandsAt n c t

-- No tag stands in a line of the class m of the one and in one of the class n of the other.
abbrev pub HaveNoTagInCommon : ℕ → ℕ → PlainConfig → PlainConfig → Type 0
HaveNoTagInCommon m n old new = (t : Tag) → IsTrue (is_tag t) → StandsIn m old t → StandsIn n new t → ⊥

-- ---- both

abbrev pub MayMixIn : PlainConfig → PlainConfig → Cell → Type 0
MayMixIn old new c = SaySame c.patterns c.first c.second old.routers new.routers ⊎ HaveNoTagInCommon c.first c.second old new

abbrev pub CellsMayMix : Type 0
CellsMayMix = (net : PlainNet) (cells : List Cell) (x y : Part) (p : PlainPrefix) → IsConfig x.config → IsConfig y.config → AreAlike x.config.routers y.config.routers
    → ArePairsOf cells x.config y.config → AllByRecursion (MayMixIn x.config y.config) cells → IsPrefix p → MayMix net p x y

-- With the stages that are made of cells they are a rollout: the cells of the second stage pair the same classes, the new one first.
abbrev pub StagesMakeARollout : Type 0
StagesMakeARollout = (net : PlainNet) (cells turned : List Cell) (x y : Part) (p : PlainPrefix) → MayJoin cells x.config y.config → MayJoin turned y.config x.config
    → AllByRecursion (MayMixIn x.config y.config) cells → IsPrefix p → IsRollout net p x y (joined cells x.config y.config) (joined turned y.config x.config)
