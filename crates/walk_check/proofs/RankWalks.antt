-- A node has its rank exactly where each node of the live graph that a path shares with it has the same one.
use Rattle.std.proofs.Common.{◌≡◌, ◌↔◌, ℕ, ◌<◌, Bool, true, false, List, [], ◌∷◌, length, Option, Some, None, refl, sym, ap, ◌∙◌, subst, inl, inr, arith}
use Rattle.std.specs.Prelude.{◌&&◌, is_none, is_some, not}
use Rattle.std.proofs.lemmas.Bool.{cases_Bool, false≢true}
use Rattle.list_law.proofs.Options.{is_some_from, is_some_parts}
use Rattle.net_base.specs.Network.{PlainNet}
use Rattle.policy_base.specs.Policies.{PlainStatement}
use Rattle.graph_base.specs.Graphs.{PlainGraph, IsGraph}
use Rattle.graph_base.specs.Runs.{place_of, rank_at, run}
use Rattle.evidence_law.specs.Faithful.{HasRank, HasWalks, IsFaithful, may_start}
use Rattle.graph_base.proofs.RunSteps.{run_begins, run_inside}
use Rattle.node_classes.specs.Classes.{Tied, class_in}
use Rattle.walk_check.specs.Alike.{AreAlike}
use Rattle.walk_check.specs.Firsts.{IsFirstOrNone, IsMet}
use Rattle.walk_check.specs.declared.comparing.WalkClasses.{WalkClasses}
use Rattle.walk_check.proofs.AlikeWalks.{same_runs}

module _ (net : PlainNet) (s : PlainStatement) (origin : ℕ → Bool) (external : Bool) (t g : PlainGraph) (live_rules : IsGraph t) (rules : IsGraph g)
    (faithful : IsFaithful net s origin external t) (has : HasWalks net s origin external g) where
  live_has : HasWalks net s origin external t
  live_has = record { formed = faithful.formed; has_run = faithful.has_run; has_no_other = faithful.has_no_other; is_ended = faithful.is_ended }

  -- nodes that are met stand at one place
  met_place : (path : List ℕ) (p n : ℕ) → run t path ≡ Some p → run g path ≡ Some n → place_of g n ≡ place_of t p
  met_place [] p n h k = absurd cc
  met_place (l ∷ ls) p n h k = run_begins g l n ls k ∙ sym (run_begins t l p ls h)

  met_rank : (path : List ℕ) (p n : ℕ) → run t path ≡ Some p → run g path ≡ Some n → HasRank net s origin g n → rank_at g n ≡ rank_at t p
  met_rank path p n h k ranked =
      let place = met_place path p n h k in
      elim (cases_Bool (may_start origin s (place_of g n))) [
        | inl may ↦ ranked.walks path k may ∙ sym (faithful.ranks path p h (ap (may_start origin s) (sym place) ∙ may))
        | inr may ↦
            ranked.elsewhere (ap not may)
            ∙ sym (faithful.unranked p (run_inside t live_rules path p h) (ap not (ap (may_start origin s) (sym place) ∙ may)))
      ]

  live_run : (path : List ℕ) (n : ℕ) → run g path ≡ Some n → (p : ℕ) × (run t path ≡ Some p)
  live_run path n h = is_some_parts (run t path) (same_runs net s origin external t g live_rules rules live_has has.formed has path ∙ is_some_from (run g path) n h)

  pub HasRank-met : (n : ℕ) → n < length g.nodes → HasRank net s origin g n ↔ ((p : ℕ) → IsMet t g p n → rank_at g n ≡ rank_at t p)
  HasRank-met n within = (λ ranked p met. met_rank met.0 p n met.1 met.2 ranked, back)
    where
      back : ((p : ℕ) → IsMet t g p n → rank_at g n ≡ rank_at t p) → HasRank net s origin g n
      back h = record {
        walks = λ path k may.
            let live = live_run path n k in
            h live.0 (path, live.1, k) ∙ faithful.ranks path live.0 live.1 (ap (may_start origin s) (sym (met_place path live.0 n live.1 k)) ∙ may);
        elsewhere = λ none.
            let ended = has.is_ended n within in
            let live = live_run ended.0 n ended.2 in
            h live.0 (ended.0, live.1, ended.2)
            ∙ faithful.unranked live.0 (run_inside t live_rules ended.0 live.0 live.1) (ap (λ l. not (may_start origin s l)) (sym (met_place ended.0 live.0 n live.1 ended.2)) ∙ none);
      }

  module _ (k : WalkClasses) (alike : AreAlike t g k) where
    met_class : (path : List ℕ) (p n : ℕ) → run t path ≡ Some p → run g path ≡ Some n → class_in k.live p ≡ class_in k.graph n
    met_class path p n h j =
        subst (λ o. Tied (λ a b. class_in k.live a ≡ class_in k.graph b) (Some p) o) j (subst (λ o. Tied (λ a b. class_in k.live a ≡ class_in k.graph b) o (run g path)) h (alike path))

    -- where the nodes of each class have one rank, a node's class tells its rank
    pub rank-class : ((p : ℕ) → p < length t.nodes → rank_at t p ≡ rank_at t (class_in k.live p)) → (n : ℕ) → n < length g.nodes
        → (rank_at g n ≡ rank_at t (class_in k.graph n)) ↔ HasRank net s origin g n
    rank-class one n within = (
      λ h. (HasRank-met n within).1 (λ p met.
          h ∙ ap (rank_at t) (sym (met_class met.0 p n met.1 met.2)) ∙ sym (one p (run_inside t live_rules met.0 p met.1))),
      λ ranked.
          let ended = has.is_ended n within in
          let live = live_run ended.0 n ended.2 in
          met_rank ended.0 live.0 n live.1 ended.2 ranked ∙ one live.0 (run_inside t live_rules ended.0 live.0 live.1) ∙ ap (rank_at t) (met_class ended.0 live.0 n live.1 ended.2),
    )

-- the first node of which one thing doesn't hold is that of which another doesn't, where they are the same
pub IsFirstOrNone-same : (P Q : ℕ → Type 0) (count : ℕ) (o : Option ℕ) → ((n : ℕ) → n < count → P n ↔ Q n) → IsFirstOrNone P count o → IsFirstOrNone Q count o
IsFirstOrNone-same P Q count None same h = λ n within. (same n within).0 (h n within)
IsFirstOrNone-same P Q count (Some n) same h = (h.0, λ q. h.1 ((same n h.0).1 q), λ k lt. (same k (omega (arith, lt, h.0))).0 (h.2 k lt))

-- a rank that is asked for at claimed places alone
pub none_mixed : (held : Bool) (rank : Option ℕ) (Claimed : Type 0) → (held ≡ true → Claimed) → (Claimed → held ≡ true) → ((held && is_none rank) ≡ false) ↔ (Claimed → is_some rank ≡ true)
none_mixed true None Claimed to back = (λ h. absurd (false≢true (sym h)), λ h. sym (h (to refl)))
none_mixed true (Some i) Claimed to back = (λ h c. refl, λ h. refl)
none_mixed false rank Claimed to back = (λ h c. absurd (false≢true (back c)), λ h. refl)
