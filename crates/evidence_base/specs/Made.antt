-- The configuration that is made of the cases of a policy, with a graph for each and a number and a tag for each node.
use Rattle.std.specs.Prelude.{◌≡◌, ◌↔◌, ℕ, zero, suc, ◌<◌, IsTrue, false, List, [], ◌∷◌, length, map, Option, Some, None, option_map, unwrap_or, slice_get, if◌then◌else◌}
use Rattle.list_law.specs.Members.{IsIn}
use Rattle.net_base.specs.declared.net.Site.{Site}
use Rattle.net_base.specs.declared.numbers.Tag.{Tag}
use Rattle.net_base.specs.Network.{PlainNet, is_peer, asn_of, site_of}
use Rattle.net_base.specs.Numbers.{is_tag, no_tag}
use Rattle.net_base.specs.Prefixes.{PlainPattern, only}
use Rattle.policy_base.specs.declared.case.Case.{Case}
use Rattle.policy_base.specs.Policies.{PlainPolicy, PlainStatement, statement_at}
use Rattle.graph_base.specs.Graphs.{PlainGraph}
use Rattle.net_base.specs.Locations.{neighbours}
use Rattle.graph_base.specs.Runs.{place_of, is_listener, is_start, has_step}
use Rattle.config_base.specs.declared.config.RouterConfig.{RouterConfig}
use Rattle.config_base.specs.declared.config.Session.{Session}
use Rattle.config_base.specs.declared.config.Import.{Import}
use Rattle.config_base.specs.declared.config.Export.{Export}
use Rattle.config_base.specs.declared.config.Origination.{Origination}
use Rattle.config_base.specs.Configs.{PlainConfig, Ascend, tag_key, origination_key}

-- a case with its graph, and a preference number and a tag for each node
pub record PlainCaseEvidence : Type 0 where
  pub case : Case
  pub graph : PlainGraph
  pub numbers : List ℕ
  pub tags : List Tag

abbrev pub number_at : PlainCaseEvidence → ℕ → ℕ
number_at c n = unwrap_or (slice_get c.numbers n) 0

abbrev pub tag_at : PlainCaseEvidence → ℕ → Tag
tag_at c n = unwrap_or (slice_get c.tags n) no_tag

-- the case of a class, which is counted from 1
abbrev pub case_at : List PlainCaseEvidence → ℕ → Option PlainCaseEvidence
case_at cs zero = None
case_at cs (suc k) = slice_get cs k

-- ---- one line for each step

-- a step, in the graph of a class, from a node at x to a node at z
pub record IsStep (cs : List PlainCaseEvidence) (class x z : ℕ) (c : PlainCaseEvidence) (n m : ℕ) : Type 0 where
  pub at_class : case_at cs class ≡ Some c
  pub step : IsTrue (has_step c.graph n m)
  pub from : place_of c.graph n ≡ x
  pub to : place_of c.graph m ≡ z

-- x sends what its node has on to z; where z is a peer, a node there hears it
pub record IsExportTo (net : PlainNet) (cs : List PlainCaseEvidence) (x z : ℕ) (e : Export) : Type 0 where
  pub case : PlainCaseEvidence
  pub node : ℕ
  pub next : ℕ
  pub step : IsStep cs e.class x z case node next
  pub heard : IsTrue (is_peer net z) → IsTrue (is_listener case.graph next)
  pub tag : e.tag ≡ tag_at case node

-- z takes it from x, with the tag and the number of its own node; what a peer sends has no tag
pub record IsImportFrom (net : PlainNet) (cs : List PlainCaseEvidence) (x z : ℕ) (rule : Import) : Type 0 where
  pub case : PlainCaseEvidence
  pub node : ℕ
  pub next : ℕ
  pub step : IsStep cs rule.class x z case node next
  pub tag : rule.tag ≡ (if is_peer net x then no_tag else tag_at case node)
  pub set : rule.set ≡ tag_at case next
  pub pref : rule.pref ≡ number_at case next

-- a start at x announces each prefix of its case
pub record IsOriginationAt (cs : List PlainCaseEvidence) (x : ℕ) (o : Origination) : Type 0 where
  pub case : PlainCaseEvidence
  pub node : ℕ
  pub at_class : case_at cs o.class ≡ Some case
  pub start : IsTrue (is_start case.graph node)
  pub at : place_of case.graph node ≡ x
  pub prefix : IsIn case.case.prefixes o.prefix
  pub tag : o.tag ≡ tag_at case node

-- ---- blocks

-- the block of z in the block of x, with the lines of each kind in order and none twice
pub record IsBlock (net : PlainNet) (cs : List PlainCaseEvidence) (x z : ℕ) (b : Session) : Type 0 where
  pub name : option_map (λ (s : Site). s.name) (site_of net z) ≡ Some b.name
  pub asn : b.asn ≡ asn_of net z
  pub peer : b.peer ≡ is_peer net z
  pub imports : (rule : Import) → IsIn b.imports rule ↔ IsImportFrom net cs z x rule
  pub import_order : Ascend (map (λ (r : Import). tag_key r.class r.tag) b.imports)
  pub exports : (e : Export) → IsIn b.exports e ↔ IsExportTo net cs x z e
  pub export_order : Ascend (map (λ (e : Export). tag_key e.class e.tag) b.exports)

-- one block for each location of a list
abbrev pub AreBlocks : PlainNet → List PlainCaseEvidence → ℕ → List ℕ → List Session → Type 0
AreBlocks net cs x [] [] = Unit {0}
AreBlocks net cs x [] (b ∷ bs) = ⊥
AreBlocks net cs x (z ∷ zs) [] = ⊥
AreBlocks net cs x (z ∷ zs) (b ∷ bs) = IsBlock net cs x z b × AreBlocks net cs x zs bs

-- the block of the router x, with one block for each location to which it's linked, in order
pub record IsRouterBlock (net : PlainNet) (cs : List PlainCaseEvidence) (x : ℕ) (r : RouterConfig) : Type 0 where
  pub site : site_of net x ≡ Some (record { name = r.name; asn = r.asn; id = r.id })
  pub own : (o : Origination) → IsIn r.own o ↔ IsOriginationAt cs x o
  pub own_order : Ascend (map origination_key r.own)
  pub sessions : AreBlocks net cs x (neighbours net x) r.sessions

-- the patterns of a case: its prefixes, or those of its statement where it's external
abbrev pub patterns_of : PlainPolicy → Case → List PlainPattern
patterns_of policy c = if c.external then unwrap_or (option_map (λ (s : PlainStatement). s.patterns) (statement_at policy c.statement)) [] else map only c.prefixes

-- The configuration of these cases: one class for each, and one block for each router, in order.
pub record IsConfigOf (net : PlainNet) (policy : PlainPolicy) (cs : List PlainCaseEvidence) (config : PlainConfig) : Type 0 where
  pub classes : config.classes ≡ map (λ (c : PlainCaseEvidence). patterns_of policy c.case) cs
  pub count : length config.routers ≡ length net.routers
  pub routers : (x : ℕ) (r : RouterConfig) → slice_get config.routers x ≡ Some r → IsRouterBlock net cs x r

-- ---- tags

-- Tags carry their router's number, those of one router differ over all cases, and nodes at peers have none.
pub record AreTags (net : PlainNet) (cs : List PlainCaseEvidence) : Type 0 where
  pub at_routers : (k n : ℕ) (c : PlainCaseEvidence) → slice_get cs k ≡ Some c → n < length c.graph.nodes → is_peer net (place_of c.graph n) ≡ false
      → IsTrue (is_tag (tag_at c n)) × ((tag_at c n).asn ≡ asn_of net (place_of c.graph n))
  pub at_peers : (k n : ℕ) (c : PlainCaseEvidence) → slice_get cs k ≡ Some c → n < length c.graph.nodes → IsTrue (is_peer net (place_of c.graph n)) → tag_at c n ≡ no_tag
  pub differ : (j k m n : ℕ) (c d : PlainCaseEvidence) → slice_get cs j ≡ Some c → slice_get cs k ≡ Some d → m < length c.graph.nodes → n < length d.graph.nodes
      → is_peer net (place_of c.graph m) ≡ false → place_of c.graph m ≡ place_of d.graph n → tag_at c m ≡ tag_at d n → (j ≡ k) × (m ≡ n)
