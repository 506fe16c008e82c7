-- What the lines of a block say.
use Rattle.std.proofs.Common.{◌≡◌, ℕ, Bool, true, false, List, [], ◌∷◌, Some, refl, sym, ap, subst, IsTrue}
use Rattle.std.specs.Prelude.{◌||◌, ◌&&◌, ◌==◌, MatchBool, if◌then◌else◌}
use Rattle.std.specs.List.{find, AllByRecursion}
use Rattle.list_law.proofs.Each.{AllByRecursion-weaker}
use Rattle.net_base.specs.declared.numbers.Tag.{Tag}
use Rattle.net_base.specs.Numbers.{no_tag, is_tag}
use Rattle.net_base.specs.Network.{PlainNet}
use Rattle.net_base.specs.Prefixes.{PlainPrefix, same_prefix}
use Rattle.config_base.specs.declared.config.RouterConfig.{RouterConfig}
use Rattle.config_base.specs.declared.config.Session.{Session}
use Rattle.config_base.specs.declared.config.Import.{Import}
use Rattle.config_base.specs.declared.config.Origination.{Origination}
use Rattle.config_base.specs.Configs.{PlainConfig, HasTag, IsImport, IsRouter, IsSession}
use Rattle.config_base.specs.Lines.{same_tag, router_at, class_of, own_tag}

-- a block of a neighbour keeps the rules where the routers' blocks do
pub lawful_block : (count : ℕ) (routers read : List RouterConfig) (b : Session) → AllByRecursion (IsRouter count) routers → read ≡ routers
    → ((n : ℕ) → AllByRecursion (IsRouter n) read → IsSession n b) → IsSession count b
lawful_block count routers read b lawful same keeps = keeps count (subst (AllByRecursion (IsRouter count)) (sym same) lawful)

pub lawful_tags : (count : ℕ) (b : Session) → IsSession count b → AllByRecursion (λ (r : Import). HasTag b r.tag) b.imports
lawful_tags count b lawful = AllByRecursion-weaker (IsImport count b) (λ (r : Import). HasTag b r.tag) b.imports (λ r h. h.1) lawful.imports

-- in the block of a peer no import names a tag, so the one without a tag is the one of the class
pub line_wanted : (class : ℕ) (tag wanted : Tag) (peer : Bool) (rules : List Import)
    → AllByRecursion (λ (r : Import). MatchBool peer (r.tag ≡ no_tag) (IsTrue (is_tag r.tag))) rules → wanted ≡ (if peer then no_tag else tag)
    → find (λ (r : Import). r.class == class && same_tag r.tag wanted) rules ≡ find (λ (r : Import). r.class == class && (peer || same_tag r.tag tag)) rules
line_wanted class tag wanted true [] tags is = refl
line_wanted class tag wanted true (r ∷ rules) tags is =
    let same : same_tag r.tag wanted ≡ true = rw (tags.0, is) refl in
    rw same (ap (λ o. if r.class == class && true then Some r else o) (line_wanted class tag wanted true rules tags.1 is))
line_wanted class tag wanted false rules tags is = rw is refl

pub own_tag_is : (net : PlainNet) (config : PlainConfig) (p : PlainPrefix) (r : ℕ) (c : RouterConfig) (class : ℕ) (o : Origination)
    → router_at net config r ≡ Some c → class_of config p ≡ Some class → find (λ (o : Origination). o.class == class && same_prefix o.prefix p) c.own ≡ Some o
    → own_tag net config p r ≡ o.tag
own_tag_is net config p r c class o block number line = rw (block, number, line) refl
