-- What is said of a refusal with what shows it.
use Rattle.std.specs.Prelude.{ℕ, List, [], ◌++◌, Option, Some, None, codes}
use Rattle.std.specs.Fmt.{decimal}
use Rattle.std.specs.List.{flat_map}
use Rattle.net_base.specs.Network.{PlainNet}
use Rattle.graph_base.specs.declared.refutation.Removed.{Removed}
use Rattle.graph_base.specs.declared.refutation.Why.{Why}
use Rattle.graph_base.specs.declared.refutation.Why.TheVariants.{RankWorse, NoStep, StepWorse, LoopWorse, ListenerWorse}
use Rattle.graph_base.specs.Graphs.{PlainGraph}
use Rattle.graph_base.specs.Runs.{place_of, rank_at}
use Rattle.case_core.specs.declared.refusal.CompileRefusal.{CompileRefusal}
use Rattle.case_core.specs.declared.refusal.CompileRefusal.TheVariants.{NoEvidence}
use Rattle.refusal_lines.specs.RefusalLines.{next_name, router_text, shown_text, pair_text, refusal_text}

-- ---- a removed pair

-- a rank after a space
abbrev pub rank_text : Option ℕ → List ℕ
rank_text (Some i) = codes " " ++ decimal i
rank_text None = []

-- why the first node may not stand as high as the second
abbrev pub reason_text : PlainNet → PlainGraph → ℕ → ℕ → Why → List ℕ
reason_text net g better worse RankWorse = codes " rank" ++ rank_text (rank_at g better) ++ rank_text (rank_at g worse)
reason_text net g better worse (NoStep z) = codes " no-step" ++ next_name net z
reason_text net g better worse (StepWorse z) = codes " step" ++ next_name net z
reason_text net g better worse (LoopWorse z k) = codes " loop" ++ next_name net z ++ codes " via" ++ shown_text net g k
reason_text net g better worse (ListenerWorse p) = codes " listener" ++ next_name net p

-- The line of a removed pair: its round, the router, the walks by which the two nodes are shown, and the reason.
unfoldable pub removed_line : PlainNet → PlainGraph → Removed → List ℕ
removed_line net g l =
    codes "round " ++ decimal l.round ++ router_text net (place_of g l.better) ++ pair_text net g l.better l.worse
    ++ reason_text net g l.better l.worse l.why ++ codes "\n"

-- ---- a policy

abbrev pub accepted_line : List ℕ
accepted_line = codes "accepted\n"

-- what shows a refusal: of one for want of numbers, the lines of its refutation
abbrev pub reasons : PlainNet → CompileRefusal → List ℕ
reasons net (NoEvidence k g r) = flat_map (removed_line net g) r.lines
reasons net _ = []

-- a refusal, and what shows it
abbrev pub explanation : PlainNet → CompileRefusal → List ℕ
explanation net e = refusal_text net e ++ reasons net e
