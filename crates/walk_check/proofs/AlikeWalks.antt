-- A graph has a case's walks exactly where the same paths have runs in it as in one that has them.
use Rattle.std.proofs.Common.{◌≡◌, ℕ, ◌<◌, Bool, true, List, length, Option, Some, None, sym, ap, ◌∙◌, inl, inr}
use Rattle.std.specs.Prelude.{is_some, not, IfNone, IfSome}
use Rattle.std.proofs.lemmas.Bool.{cases_Bool, true≢false}
use Rattle.list_law.proofs.Options.{is_some_parts}
use Rattle.list_law.proofs.Truth.{same_tests}
use Rattle.net_base.specs.Network.{PlainNet}
use Rattle.policy_base.specs.Policies.{PlainStatement}
use Rattle.graph_base.specs.Graphs.{PlainGraph, IsGraph}
use Rattle.graph_base.specs.Runs.{run}
use Rattle.graph_base.specs.Rules.{IsWellFormed}
use Rattle.evidence_law.specs.Faithful.{HasWalks}
use Rattle.evidence_law.proofs.RunWalks.{runs_are_walks}
use Rattle.node_classes.specs.Classes.{class_in}
use Rattle.node_classes.proofs.Stages.{tied_some}
use Rattle.walk_check.specs.Alike.{AreAlike, AreUnlike}
use Rattle.walk_check.specs.declared.comparing.WalkClasses.{WalkClasses}

module _ (net : PlainNet) (s : PlainStatement) (origin : ℕ → Bool) (external : Bool) (live g : PlainGraph) (live_rules : IsGraph live) (rules : IsGraph g)
    (has : HasWalks net s origin external live) (formed : IsWellFormed net origin external g) where
  -- what has the same runs and has no node beside has the walks
  pub walks_from_alike : (k : WalkClasses) → AreAlike live g k → ((n : ℕ) → n < length g.nodes → (path : List ℕ) × (run g path ≡ Some n)) → HasWalks net s origin external g
  walks_from_alike k alike ended = record {
    formed = formed;
    has_run = λ above path is permitted. sym (same path) ∙ has.has_run above path is permitted;
    has_no_other = λ path is some. has.has_no_other path is (same path ∙ some);
    is_ended = λ n node. let e = ended n node in (e.0, runs_are_walks net origin external g rules formed e.0 n e.1, e.1);
  }
    where
      same : (path : List ℕ) → is_some (run live path) ≡ is_some (run g path)
      same path = tied_some (λ p n. class_in k.live p ≡ class_in k.graph n) (run live path) (run g path) (alike path)

  -- and conversely
  pub same_runs : HasWalks net s origin external g → (path : List ℕ) → is_some (run live path) ≡ is_some (run g path)
  same_runs also path = same_tests (is_some (run live path)) (is_some (run g path)) to back
    where
      to : is_some (run live path) ≡ true → is_some (run g path) ≡ true
      to h =
          let n = is_some_parts (run live path) h in
          let is = runs_are_walks net origin external live live_rules has.formed path n.0 n.1 in
          let permitted = has.has_no_other path is h in
          also.has_run permitted.0 path is permitted.1

      back : is_some (run g path) ≡ true → is_some (run live path) ≡ true
      back h =
          let n = is_some_parts (run g path) h in
          let is = runs_are_walks net origin external g rules formed path n.0 n.1 in
          let permitted = also.has_no_other path is h in
          has.has_run permitted.0 path is permitted.1

  pub no_walks_from_unlike : AreUnlike live g → HasWalks net s origin external g → ⊥
  no_walks_from_unlike unlike also =
      let same = sym (same_runs also unlike.0) ∙ unlike.1 in
      elim (cases_Bool (is_some (run g unlike.0))) [
        | inl t ↦ true≢false (sym t ∙ same ∙ ap not t)
        | inr f ↦ true≢false (sym (sym f ∙ same ∙ ap not f))
      ]

-- ---- answers with classes or none

pub IfSome-weaker : (o : Option WalkClasses) (P Q : WalkClasses → Type 0) → ((k : WalkClasses) → P k → Q k) → IfSome o P → IfSome o Q
IfSome-weaker None P Q to h = tt
IfSome-weaker (Some k) P Q to h = to k h

pub IfNone-weaker : (o : Option WalkClasses) (P Q : Type 0) → (P → Q) → IfNone o P → IfNone o Q
IfNone-weaker None P Q to h = to h
IfNone-weaker (Some k) P Q to h = tt
