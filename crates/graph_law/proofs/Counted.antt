-- How many steps are built where walks of a case come to.
use Rattle.std.proofs.Common.{◌≡◌, ℕ, ◌+◌, ◌≤◌, List, [], ◌∷◌, length, map, refl, sym, ap, ap₂, subst, ◌∙◌, length-append}
use Rattle.std.specs.List.{flat_map}
use Rattle.std.proofs.lemmas.List.{length-map}
use Rattle.path_exprs.specs.declared.limits.TheConstants.{NODES}
use Rattle.net_base.specs.Network.{PlainNet}
use Rattle.policy_base.specs.declared.case.Case.{Case}
use Rattle.policy_base.specs.Policies.{PlainStatement}
use Rattle.path_exprs.specs.Standings.{IsWalked, Plan, Standing, plan_for, targets}
use Rattle.graph_base.specs.Graphs.{PlainGraph}
use Rattle.walk_states.specs.Built.{place_in, steps_from}
use Rattle.graph_law.specs.Limits.{IsBuiltWithin}

-- as many steps are built as the standings have targets
pub count_steps : (net : PlainNet) (plan : Plan) (all : List Standing) (k : ℕ) (xs : List Standing) → length (steps_from net plan all k xs) ≡ length (flat_map (targets net plan) xs)
count_steps net plan all k [] = refl
count_steps net plan all k (x ∷ xs) =
    length-append (map (λ t. (k, place_in all t)) (targets net plan x)) (steps_from net plan all (k + 1) xs)
    ∙ ap₂ (λ a b. a + b) (length-map (targets net plan x) (λ t. (k, place_in all t))) (count_steps net plan all (k + 1) xs)
    ∙ sym (length-append (targets net plan x) (flat_map (targets net plan) xs))

-- what is built of a case is what its walks come to
pub built_walked : (net : PlainNet) (room : ℕ) (s : PlainStatement) (c : Case) (g : PlainGraph) → IsBuiltWithin net room s c g → IsWalked net (plan_for net s c) (length g.steps)
built_walked net room s c g within =
    let built = within.built in
    let xs = built.0 in
    record {
      standings = xs;
      are = built.1;
      few = subst (λ n. n ≤ NODES) (ap (λ (h : PlainGraph). length h.nodes) built.2 ∙ length-map xs _) within.states;
      count = ap (λ (h : PlainGraph). length h.steps) built.2 ∙ count_steps net (plan_for net s c) xs 0 xs;
    }
