-- Nodes that offer at least as well as the nodes of their run match each node over which they stand.
use Rattle.std.proofs.Common.{◌≡◌, ◌⊎◌, ℕ, ◌<◌, Bool, true, false, eqb, ltb, List, [], ◌∷◌, ◌++◌, Option, length, length-append, get_or, set, refl, sym, ap, ◌∙◌, inl, inr}
use Rattle.std.proofs.Common.{arith, IsTrue, ltb-true, lt-ltb, subst}
use Rattle.std.proofs.lemmas.Bool.{cases_eq, cases_lt, eq-eqb, eqb-true, and_parts, and_from}
use Rattle.std.proofs.lemmas.List.{get_or-set_other, get_or_append_left, get_or_push}
use Rattle.std.proofs.lemmas.List.Folds.{list_any_at}
use Rattle.net_base.specs.Network.{PlainNet}
use Rattle.graph_base.specs.Graphs.{PlainGraph}
use Rattle.graph_base.specs.Runs.{place_of}
use Rattle.reach_prune.specs.Searches.{is_marked}
use Rattle.graph_base.specs.Preferences.{number_in}
use Rattle.preference_check.specs.Offers.{KeepsOffers, is_offered, offers_of}
use Rattle.preference_check.specs.Rows.{has_upto}
use Rattle.preference_check.specs.Runs.{AreTaken, AreUpto, IsMatching, IsRunAt, has_node, is_entry}
use Rattle.preference_check.proofs.Lowest.{entry_of}
use Rattle.preference_check.specs.declared.offers.Offer.{Offer}
use Rattle.preference_check.specs.declared.runs.Numbered.{Numbered}

entry_itself : (x : Numbered) → is_entry x.node x.number x ≡ true
entry_itself x = and_from (eqb x.node x.node) (eqb x.number x.number) (eq-eqb x.node x.node refl) (eq-eqb x.number x.number refl)

-- a node of a run that offers as well as all that is taken in
pub matching_entry : (offers : List (List Offer)) (run : List Numbered) (i count : ℕ) (d : Numbered) (owed : List (Option ℕ)) → i < length run
    → AreTaken offers run count owed → AreUpto run count (get_or run i d).number
    → ((at cost : ℕ) → IsTrue (has_upto owed at cost) → IsTrue (is_offered (offers_of offers (get_or run i d).node) at cost)) → IsMatching offers run (get_or run i d).node
matching_entry offers run i count d owed lt taken upto low = record {
  number = entry.number;
  here = list_any_at (is_entry entry.node entry.number) run i d lt (entry_itself entry);
  matches = λ n other there le at cost offered.
      let found = entry_of run n other d there in
      let early : found.0 < count = elim (cases_lt found.0 count) [ inl t ↦ t | inr t ↦ absurd (omega (arith, upto found.0 d t found.1, found.3, le)) ] in
      low at cost (taken found.0 d early at cost (subst (λ k. IsTrue (is_offered (offers_of offers k) at cost)) (sym found.2) offered));
}
  where
    entry : Numbered
    entry = get_or run i d

-- what is marked was so, or is the node that is marked now
pub marked_cases : (marks : List Bool) (at m : ℕ) → IsTrue (is_marked (set marks at true) m) → (at ≡ m) ⊎ IsTrue (is_marked marks m)
marked_cases marks at m h = elim (cases_eq at m) [
  | inl e ↦ inl e
  | inr ne ↦ inr (sym (get_or-set_other marks at m true false (λ e. ne (sym e))) ∙ h)
]

-- a run for each router
abbrev pub AreRuns : PlainGraph → List ℕ → List (List Numbered) → Type 0
AreRuns g numbers all = (l : ℕ) → l < length all → IsRunAt g numbers l (get_or all l [])

-- the last run, and those before it
pub last_run : (g : PlainGraph) (numbers : List ℕ) (all rest : List (List Numbered)) (run : List Numbered) → all ≡ rest ++ run ∷ [] → AreRuns g numbers all → IsRunAt g numbers (length rest) run
last_run g numbers all rest run split are n number =
    ap (λ x. has_node x n number) (sym (ap (λ xs. get_or xs (length rest) []) split ∙ get_or_push rest run [] (length rest) refl))
    ∙ are (length rest) (omega (arith, ap length split, length-append rest (run ∷ []))) n number

pub runs_before : (g : PlainGraph) (numbers : List ℕ) (all rest : List (List Numbered)) (run : List Numbered) → all ≡ rest ++ run ∷ [] → AreRuns g numbers all → AreRuns g numbers rest
runs_before g numbers all rest run split are l lt n number =
    ap (λ x. has_node x n number) (sym (ap (λ xs. get_or xs l []) split ∙ get_or_append_left rest (run ∷ []) [] l lt))
    ∙ are l (omega (arith, lt, ap length split, length-append rest (run ∷ []))) n number

pub node_within : (g : PlainGraph) (numbers : List ℕ) (l : ℕ) (run : List Numbered) (k : ℕ) (d : Numbered) → IsRunAt g numbers l run → k < length run → (get_or run k d).node < length g.nodes
node_within g numbers l run k d is lt =
    let x = get_or run k d in
    let here = list_any_at (is_entry x.node x.number) run k d lt (entry_itself x) in
    ltb-true _ _ (and_parts _ _ (sym (is x.node x.number) ∙ here)).0

pub keeps_offers : (net : PlainNet) (g : PlainGraph) (numbers : List ℕ) (offers : List (List Offer)) (l : ℕ) (run : List Numbered) (m n : ℕ)
    → IsRunAt g numbers l run → IsMatching offers run m → KeepsOffers net g (number_in numbers) offers m n
keeps_offers net g numbers offers l run m n is matching over =
    let here = and_parts _ _ (and_parts (ltb m (length g.nodes)) _ (sym (is m matching.number) ∙ matching.here)).1 in
    let place : place_of g m ≡ l = eqb-true _ _ here.0 in
    let number : number_in numbers m ≡ matching.number = eqb-true _ _ here.1 in
    let there = is n (number_in numbers n) ∙ and_from _ _ (lt-ltb _ _ over.worse) (and_from _ _ (eq-eqb _ _ (sym over.place ∙ place)) (eq-eqb _ _ refl)) in
    matching.matches n (number_in numbers n) there (omega (arith, over.numbers, number))
