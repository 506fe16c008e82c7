-- Where a tag stands in a configuration.
use Rattle.std.specs.Prelude.{◌≡◌, ◌⊎◌, IsTrue}
use Rattle.list_law.specs.Members.{IsIn}
use Rattle.net_base.specs.declared.numbers.Tag.{Tag}
use Rattle.net_base.specs.Network.{PlainNet}
use Rattle.net_base.specs.Numbers.{is_tag}
use Rattle.net_base.specs.Prefixes.{PlainPrefix}
use Rattle.config_base.specs.declared.config.RouterConfig.{RouterConfig}
use Rattle.config_base.specs.declared.config.Session.{Session}
use Rattle.config_base.specs.declared.config.Import.{Import}
use Rattle.config_base.specs.declared.config.Export.{Export}
use Rattle.config_base.specs.declared.config.Origination.{Origination}
use Rattle.config_base.specs.Configs.{PlainConfig, IsConfig}
use Rattle.rollout_base.specs.Lines.{AreApart}
use Rattle.rollout_base.specs.Mixtures.{Part}

-- in a line of a block: an import asks for it or sets it, or an export asks for it
abbrev pub StandsBy : Session → Tag → Type 0
StandsBy b t = ((i : Import) × IsIn b.imports i × ((i.tag ≡ t) ⊎ (i.set ≡ t))) ⊎ ((e : Export) × IsIn b.exports e × (e.tag ≡ t))

-- in the block of a router: its own lines, or one of its blocks
abbrev pub StandsAt : RouterConfig → Tag → Type 0
StandsAt c t = ((o : Origination) × IsIn c.own o × (o.tag ≡ t)) ⊎ ((b : Session) × IsIn c.sessions b × StandsBy b t)

abbrev pub StandsIn : PlainConfig → Tag → Type 0
StandsIn config t = (c : RouterConfig) × IsIn config.routers c × StandsAt c t

-- no tag stands in both
abbrev pub AreDisjoint : PlainConfig → PlainConfig → Type 0
AreDisjoint a b = (t : Tag) → IsTrue (is_tag t) → StandsIn a t → StandsIn b t → ⊥

abbrev pub DisjointTagsAreApart : Type 0
DisjointTagsAreApart = (net : PlainNet) (p : PlainPrefix) (x y : Part) → IsConfig x.config → IsConfig y.config → AreDisjoint x.config y.config → AreApart net p x y
