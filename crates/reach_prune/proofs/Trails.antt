-- What lists of neighbours lead to can be reached by the steps of the graph.
use Rattle.std.proofs.Common.{◌≡◌, ◌↔◌, ℕ, ◌<◌, length, Bool, true, ◌||◌, eqb, List, [], ◌∷◌, ◌++◌, refl, sym, ap, ◌∙◌}
use Rattle.std.proofs.Math.Bool.{or-false}
use Rattle.std.proofs.lemmas.List.Folds.{list_any-append}
use Rattle.std.specs.Option.{is_some}
use Rattle.graph_base.specs.Graphs.{PlainGraph}
use Rattle.graph_base.specs.Runs.{has_step, rank_at, IsTrail, Reaches}
use Rattle.reach_prune.specs.Searches.{AreLists, is_among, is_listed, IsChain, IsReached, Leads}
use Rattle.reach_prune.specs.Trimmed.{CanBeRanked}
use Rattle.reach_prune.specs.Ways.{LeadsAlong, LeadsFrom, step_along}
use Rattle.reach_prune.specs.declared.steps.Way.{Way}
use Rattle.reach_prune.specs.declared.steps.Way.TheVariants.{Forward, Backward}

-- one node more at the end
pub chain_more : (lists : List (List ℕ)) (a b c : ℕ) (via : List ℕ) → IsChain lists a via b → is_listed lists b c ≡ true → IsChain lists a (via ++ c ∷ []) c
chain_more lists a b c [] h l = (rw h l, refl)
chain_more lists a b c (d ∷ ds) h l = (h.0, chain_more lists d b c ds h.1 l)

pub trail_more : (g : PlainGraph) (a b c : ℕ) (via : List ℕ) → IsTrail g a via b → has_step g b c ≡ true → IsTrail g a (via ++ c ∷ []) c
trail_more g a b c [] h l = (rw h l, refl)
trail_more g a b c (d ∷ ds) h l = (h.0, trail_more g d b c ds h.1 l)

-- lists of those to which a step leads
pub leads_forward : (g : PlainGraph) (lists : List (List ℕ)) (a b : ℕ) → ((a b : ℕ) → is_listed lists a b ≡ has_step g a b) → Leads lists a b ↔ Reaches g a b
leads_forward g lists a b same = (λ l. (l.0, trail a l.0 l.1), λ r. (r.0, chain a r.0 r.1))
  where
    trail : (a : ℕ) (via : List ℕ) → IsChain lists a via b → IsTrail g a via b
    trail a [] h = h
    trail a (c ∷ cs) h = (sym (same a c) ∙ h.0, trail c cs h.1)

    chain : (a : ℕ) (via : List ℕ) → IsTrail g a via b → IsChain lists a via b
    chain a [] h = h
    chain a (c ∷ cs) h = (same a c ∙ h.0, chain c cs h.1)

-- lists of those from which a step leads
pub leads_backward : (g : PlainGraph) (lists : List (List ℕ)) (a b : ℕ) → ((a b : ℕ) → is_listed lists a b ≡ has_step g b a) → Leads lists a b ↔ Reaches g b a
leads_backward g lists a b same = (λ l. back a l.0 l.1, λ r. forth b r.0 r.1)
  where
    back : (a : ℕ) (via : List ℕ) → IsChain lists a via b → Reaches g b a
    back a [] h = ([], sym h)
    back a (c ∷ cs) h = let r = back c cs h.1 in (r.0 ++ a ∷ [], trail_more g b c a r.0 r.1 (sym (same a c) ∙ h.0))

    forth : (b : ℕ) (via : List ℕ) → IsTrail g b via a → Leads lists a b
    forth b [] h = ([], sym h)
    forth b (c ∷ cs) h = let l = forth c cs h.1 in (l.0 ++ b ∷ [], chain_more lists a c b l.0 l.1 (same c b ∙ h.0))

-- lists of the steps that are followed one way lead where these steps lead
pub leads_along : (way : Way) (g : PlainGraph) (lists : List (List ℕ)) (a b : ℕ) → ((a b : ℕ) → is_listed lists a b ≡ step_along way g a b) → Leads lists a b ↔ LeadsAlong way g a b
leads_along Forward g lists a b same = leads_forward g lists a b same
leads_along Backward g lists a b same = leads_backward g lists a b same

pub reached_along : (way : Way) (g : PlainGraph) (lists : List (List ℕ)) (first : List ℕ) (n : ℕ)
    → ((a b : ℕ) → is_listed lists a b ≡ step_along way g a b) → IsReached lists first n ↔ LeadsFrom way g first n
reached_along way g lists first n same = (λ r. (r.0, r.1, (leads_along way g lists r.0 n same).0 r.2), λ l. (l.0, l.1, (leads_along way g lists l.0 n same).1 l.2))

-- lists lead to nodes alone
pub leads_below : (lists : List (List ℕ)) → AreLists lists → (a b : ℕ) (via : List ℕ) → a < length lists → IsChain lists a via b → b < length lists
leads_below lists are a b [] lt h = rw (sym h) lt
leads_below lists are a b (c ∷ cs) lt h = leads_below lists are c b cs (are a c h.0) h.1

-- lists lead on from where they led
pub leads_on : (lists : List (List ℕ)) (a b c : ℕ) → Leads lists a b → Leads lists b c → Leads lists a c
leads_on lists a b c one other = on a one.0 one.1
  where
    on : (a : ℕ) (via : List ℕ) → IsChain lists a via b → Leads lists a c
    on a [] h = rw h other
    on a (d ∷ ds) h = let rest = on d ds h.1 in (d ∷ rest.0, (h.0, rest.1))

-- steps lead backward from the nodes with a rank to those from which one can be reached
pub ranked_backward : (g : PlainGraph) (first : List ℕ) (n : ℕ) (mark : Bool) → ((n : ℕ) → is_among first n ≡ is_some (rank_at g n))
    → (mark ≡ true) ↔ LeadsFrom Backward g first n → (mark ≡ true) ↔ CanBeRanked g n
ranked_backward g first n mark ranked h = (λ m. let l = h.0 m in (l.0, l.2, sym (ranked l.0) ∙ l.1), λ c. h.1 (c.0, ranked c.0 ∙ c.2, c.1))

-- what waits where one more does, behind the others
pub waited : (s rest : List ℕ) (a n : ℕ) → s ≡ rest ++ a ∷ [] → is_among s n ≡ (is_among rest n || eqb a n)
waited s rest a n pop = ap (λ x. is_among x n) pop ∙ list_any-append (λ x. eqb x n) rest (a ∷ []) ∙ ap (λ b. is_among rest n || b) (or-false (eqb a n))

-- what is closed under the lists has the end of each chain from it
pub complete : (lists : List (List ℕ)) (marked : ℕ → Bool) → ((a b : ℕ) → marked a ≡ true → is_listed lists a b ≡ true → marked b ≡ true)
    → (a b : ℕ) (via : List ℕ) → marked a ≡ true → IsChain lists a via b → marked b ≡ true
complete lists marked closed a b [] m h = ap marked (sym h) ∙ m
complete lists marked closed a b (c ∷ cs) m h = complete lists marked closed c b cs (closed a c m h.0) h.1
