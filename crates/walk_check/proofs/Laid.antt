-- The ways of two graphs as they are put one behind the other.
use Rattle.std.proofs.Common.{◌≡◌, ◌∙◌, ◌+◌, ◌++◌, ℕ, List, ap, append_assoc, length, map, subst, sym}
use Rattle.std.specs.List.{IsDistinct}
use Rattle.std.specs.List.Sorted.{IsPermutation}
use Rattle.std.proofs.lemmas.List.Sorted.{Contains-permutation, IsPermutation-append, IsPermutation-append_comm, IsPermutation-append_left, IsPermutation-append_right}
use Rattle.std.proofs.lemmas.List.Sorted.{IsPermutation-map, IsPermutation-sym, IsPermutation-trans}
use Rattle.std.proofs.lemmas.Map.Keys.{IsDistinct-IsPermutation}
use Rattle.list_law.specs.Members.{IsIn}
use Rattle.list_law.proofs.Members.{Contains-from_IsIn, IsIn-from_Contains}
use Rattle.graph_base.specs.Graphs.{PlainGraph, IsGraph}
use Rattle.node_classes.specs.declared.way.Way.{Way}
use Rattle.node_classes.specs.Ways.{same_pair, stand}
use Rattle.node_classes.proofs.Ordered.{stands_turned}
use Rattle.walk_check.specs.Alike.{IsSingleStepped}
use Rattle.walk_check.specs.WaysOf.{both_sizes, start_way, step_way, ways_of_both}
use Rattle.walk_check.proofs.OneWay.{stands_differ}

-- the steps of both graphs, and then the ways from their roots
abbrev pub laid : PlainGraph → PlainGraph → List Way
laid t g =
    ((map (step_way t 0) t.steps ++ map (step_way g (length t.nodes)) g.steps) ++ map (start_way t 0 (both_sizes t g)) t.starts)
    ++ map (start_way g (length t.nodes) (both_sizes t g + 1)) g.starts

pub gathered : (t g : PlainGraph) (one two three four : List Way) (size root after : ℕ) → one ≡ map (step_way t 0) t.steps → two ≡ one ++ map (step_way g size) g.steps
    → three ≡ two ++ map (start_way t 0 root) t.starts → four ≡ three ++ map (start_way g size after) g.starts → size ≡ length t.nodes → root ≡ both_sizes t g → after ≡ both_sizes t g + 1
    → four ≡ laid t g
gathered t g one two three four size root after first second third fourth at_size at_root at_after =
    let pair : two ≡ map (step_way t 0) t.steps ++ map (step_way g (length t.nodes)) g.steps = second ∙ λ i. first i ++ map (step_way g (at_size i)) g.steps in
    let more : three ≡ (map (step_way t 0) t.steps ++ map (step_way g (length t.nodes)) g.steps) ++ map (start_way t 0 (both_sizes t g)) t.starts
    = third ∙ λ i. pair i ++ map (start_way t 0 (at_root i)) t.starts in
    fourth ∙ λ i. more i ++ map (start_way g (at_size i) (at_after i)) g.starts

-- four lists in another order
moved_lists : {X : Type 0} (a b c d : List X) → IsPermutation ((a ++ b) ++ (c ++ d)) (((b ++ d) ++ a) ++ c)
moved_lists a b c d =
    let swapped : IsPermutation ((a ++ b) ++ (c ++ d)) ((b ++ a) ++ (d ++ c))
    = IsPermutation-append (a ++ b) (b ++ a) (c ++ d) (d ++ c) (IsPermutation-append_comm a b) (IsPermutation-append_comm c d) in
    let inner : IsPermutation (b ++ ((a ++ d) ++ c)) (b ++ ((d ++ a) ++ c))
    = IsPermutation-append_right b ((a ++ d) ++ c) ((d ++ a) ++ c) (IsPermutation-append_left c (a ++ d) (d ++ a) (IsPermutation-append_comm a d)) in
    let from : (b ++ a) ++ (d ++ c) ≡ b ++ ((a ++ d) ++ c) = append_assoc b a (d ++ c) ∙ ap (λ l. b ++ l) (sym (append_assoc a d c)) in
    let to : b ++ ((d ++ a) ++ c) ≡ ((b ++ d) ++ a) ++ c = ap (λ l. b ++ l) (append_assoc d a c) ∙ sym (append_assoc b d (a ++ c)) ∙ sym (append_assoc (b ++ d) a c) in
    IsPermutation-trans ((a ++ b) ++ (c ++ d)) ((b ++ a) ++ (d ++ c)) (((b ++ d) ++ a) ++ c) swapped
    (subst (λ l. IsPermutation l (((b ++ d) ++ a) ++ c)) (sym from) (subst (IsPermutation (b ++ ((a ++ d) ++ c))) to inner))

moved : (t g : PlainGraph) → IsPermutation (ways_of_both t g) (laid t g)
moved t g =
    moved_lists (map (start_way t 0 (both_sizes t g)) t.starts) (map (step_way t 0) t.steps)
    (map (start_way g (length t.nodes) (both_sizes t g + 1)) g.starts) (map (step_way g (length t.nodes)) g.steps)

-- they are the ways of both graphs
pub laid_from : (t g : PlainGraph) (w : Way) → IsIn (laid t g) w → IsIn (ways_of_both t g) w
laid_from t g w h =
    IsIn-from_Contains (ways_of_both t g) w (Contains-permutation (laid t g) (ways_of_both t g) w (IsPermutation-sym (ways_of_both t g) (laid t g) (moved t g)) (Contains-from_IsIn (laid t g) w h))

pub laid_has : (t g : PlainGraph) (w : Way) → IsIn (ways_of_both t g) w → IsIn (laid t g) w
laid_has t g w h = IsIn-from_Contains (laid t g) w (Contains-permutation (ways_of_both t g) (laid t g) w (moved t g) (Contains-from_IsIn (ways_of_both t g) w h))

-- and no two stand at one place
pub laid_differ : (t g : PlainGraph) → IsGraph t → IsGraph g → IsSingleStepped t → IsSingleStepped g → IsDistinct same_pair (map stand (laid t g))
laid_differ t g live_rules rules live_single single =
    IsDistinct-IsPermutation same_pair stands_turned (map stand (ways_of_both t g)) (map stand (laid t g))
    (IsPermutation-map stand (ways_of_both t g) (laid t g) (moved t g)) (stands_differ t g live_rules rules live_single single)
