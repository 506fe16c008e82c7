-- What is said of a policy that is refused.
use Rattle.std.specs.Prelude.{ℕ, ◌<◌, List, [], ◌++◌, length, codes}
use Rattle.std.specs.Fmt.{decimal}
use Rattle.std.specs.List.{flat_map}
use Rattle.net_base.specs.Network.{PlainNet}
use Rattle.graph_base.specs.declared.refutation.Refutation.{Refutation}
use Rattle.graph_base.specs.declared.refutation.Removed.{Removed}
use Rattle.graph_base.specs.declared.refutation.Why.{Why}
use Rattle.graph_base.specs.declared.refutation.Why.TheVariants.{LoopWorse}
use Rattle.graph_base.specs.Graphs.{PlainGraph}
use Rattle.graph_base.specs.Refuting.{IsLine}
use Rattle.graph_base.specs.Walks.{IsEnteredFromBefore, shown_walk}
use Rattle.net_base.specs.Network.{name_of}
use Rattle.case_core.specs.declared.refusal.CompileRefusal.{CompileRefusal}
use Rattle.case_core.specs.Numbered.{number_of, word_of}
use Rattle.case_core.specs.declared.refusal.CompileRefusal.TheVariants.{TooManyRanks, TooManyStates, TooManySteps, SourceWithoutPath, MixedSource, NoEvidence, NoMemory}

abbrev pub case_text : ℕ → List ℕ
case_text k = codes " case " ++ decimal k

abbrev pub router_text : PlainNet → ℕ → List ℕ
router_text net r = codes " router " ++ name_of net r

-- a location's name after a space
abbrev pub next_name : PlainNet → ℕ → List ℕ
next_name net l = codes " " ++ name_of net l

-- the names along a walk, each after a space
abbrev pub walk_text : PlainNet → List ℕ → List ℕ
walk_text net walk = flat_map (next_name net) walk

abbrev pub walks_text : PlainNet → List ℕ → List ℕ → List ℕ
walks_text net with without = codes " with" ++ walk_text net with ++ codes " without" ++ walk_text net without

-- the walk by which a node is shown
abbrev pub shown_text : PlainNet → PlainGraph → ℕ → List ℕ
shown_text net g n = walk_text net (shown_walk g n)

-- two nodes at one router
abbrev pub pair_text : PlainNet → PlainGraph → ℕ → ℕ → List ℕ
pair_text net g first second = codes " first" ++ shown_text net g first ++ codes " second" ++ shown_text net g second

-- its values, each after its name
abbrev pub refusal_values : PlainNet → CompileRefusal → List ℕ
refusal_values net (TooManyRanks k count) = case_text k ++ codes " number " ++ decimal count
refusal_values net (TooManyStates k) = case_text k
refusal_values net (TooManySteps k) = case_text k
refusal_values net (SourceWithoutPath k r) = case_text k ++ router_text net r
refusal_values net (MixedSource k r with without) = case_text k ++ router_text net r ++ walks_text net with without
refusal_values net (NoEvidence k g r) = case_text k ++ router_text net r.router ++ pair_text net g r.first r.second
refusal_values net NoMemory = []

-- A refusal: its number, its word and its values. Locations are told by their names in the network.
unfoldable pub refusal_text : PlainNet → CompileRefusal → List ℕ
refusal_text net e = codes "refused " ++ decimal (number_of e) ++ codes " " ++ word_of e ++ refusal_values net e ++ codes "\n"

-- the line that tells it, with the words that say of which policy it is
abbrev pub named_refusal_line : List ℕ → PlainNet → CompileRefusal → List ℕ
named_refusal_line words net e = codes "propane: " ++ words ++ refusal_text net e

-- the line that tells it where there is one policy
abbrev pub refusal_line : PlainNet → CompileRefusal → List ℕ
refusal_line net e = codes "propane: " ++ refusal_text net e

-- ---- what can be shown

-- the nodes of a removed pair, and the one that its reason names, are nodes of the graph
abbrev pub ReasonIsOn : PlainGraph → Why → Type 0
ReasonIsOn g (LoopWorse z k) = k < length g.nodes
ReasonIsOn g _ = Unit {0}

pub record IsOn (g : PlainGraph) (l : Removed) : Type 0 where
  pub better : l.better < length g.nodes
  pub worse : l.worse < length g.nodes
  pub reason : ReasonIsOn g l.why

-- Each node of the graph is shown by a walk, and all that the refutation names are nodes of it.
pub record ShowsRefutation (g : PlainGraph) (r : Refutation) : Type 0 where
  pub entered : IsEnteredFromBefore g
  pub first : r.first < length g.nodes
  pub second : r.second < length g.nodes
  pub lines : (l : Removed) → IsLine r.lines l → IsOn g l

-- what a refusal names can be shown
abbrev pub IsShowable : CompileRefusal → Type 0
IsShowable (NoEvidence k g r) = ShowsRefutation g r
IsShowable _ = Unit {0}
