-- Entries of tables, and the best nodes as far as a loop has come.
use Rattle.std.proofs.Common.{◌≡◌, ◌≢◌, ◌++◌, cond, ℕ, zero, suc, ◌+◌, ◌<◌, ◌≤◌, Bool, true, false, List, [], ◌∷◌, length, get_or, set, replicate, get_or-set_same}
use Rattle.std.proofs.Common.{get_or-set_other, length-set, Option, Some, None, refl, sym, ap, ◌∙◌, subst, inl, inr, arith, ltb-true, ltb-false}
use Rattle.std.specs.Prelude.{◌&&◌, nat_lt, option_map, slice_get, unwrap_or}
use Rattle.std.specs.List.{AllByRecursion}
use Rattle.std.proofs.lemmas.Bool.{and_right, both_ways, cases_eq, cases_lt}
use Rattle.std.proofs.Math.ListN.{get_or-append}
use Rattle.std.proofs.lemmas.List.{get_or-replicate, get_or_past, get_or_push, get_or_read, length-replicate}
use Rattle.net_base.specs.declared.loc.LocSet.{LocSet}
use Rattle.net_base.specs.Sets.{holds}
use Rattle.graph_base.specs.declared.graph.Node.{Node}
use Rattle.graph_base.specs.Graphs.{PlainGraph}
use Rattle.graph_base.specs.Runs.{place_of}
use Rattle.graph_base.specs.Preferences.{number_in}
use Rattle.settled_graph.specs.Best.{AreBest, entry_at, is_better, wanted_by}

-- what has an entry is within the table
pub entry_within : {A : Type 0} (table : List (Option A)) (l : ℕ) (x : A) → entry_at table l ≡ Some x → l < length table
entry_within table l x is = elim (cases_lt l (length table)) [
  | inl low ↦ low
  | inr high ↦ let clash : None ≡ Some x = sym (get_or_past table l None high) ∙ is in absurd (cc)
]

pub entry_past : {A : Type 0} (table : List (Option A)) (l : ℕ) → length table ≤ l → entry_at table l ≡ None
entry_past table l high = get_or_past table l None high

-- what is read at a place within the table is its entry
pub entry_read : {A : Type 0} (table : List (Option A)) (i : ℕ) (x : Option A) → i < length table → x ≡ get_or table i x → x ≡ entry_at table i
entry_read table i x low read = get_or_read table i x low read None

-- a table without entries
pub no_entry : {A : Type 0} (table : List (Option A)) (count : ℕ) → table ≡ replicate count None → (l : ℕ) → entry_at table l ≡ None
no_entry {A} table count empty l = ap (λ xs. entry_at xs l) empty ∙ elim (cases_lt l count) [
  | inl low ↦ get_or-replicate {A = Option A} count l None None low
  | inr high ↦ get_or_past (replicate count None) l None (omega (arith, high, length-replicate {A = Option A} count None))
]

-- a number that is read is that of the node
pub number_read : (numbers : List ℕ) (n : ℕ) → get_or numbers n 0 ≡ number_in numbers n
number_read [] n = refl
number_read (x ∷ numbers) zero = refl
number_read (x ∷ numbers) (suc n) = number_read numbers n

low_at : (nodes : List Node) (n : ℕ) → AllByRecursion (λ (node : Node). node.loc < 768) nodes → n < length nodes → unwrap_or (option_map (λ (node : Node). node.loc) (slice_get nodes n)) 0 < 768
low_at [] n all less = absurd (omega (arith, less))
low_at (node ∷ nodes) zero all less = all.0
low_at (node ∷ nodes) (suc n) all less = low_at nodes n all.1 (omega (arith, less))

-- nodes stand at locations
pub place_low : (g : PlainGraph) (n : ℕ) → AllByRecursion (λ (node : Node). node.loc < 768) g.nodes → n < length g.nodes → place_of g n < 768
place_low g n all less = low_at g.nodes n all less

-- what is read at the place of a node's location is the entry there
pub entry_there : {A : Type 0} (g : PlainGraph) (table : List (Option A)) (n i : ℕ) (x : Option A) → AllByRecursion (λ (node : Node). node.loc < 768) g.nodes → n < length g.nodes
    → length table ≡ 768 → i ≡ place_of g n → x ≡ get_or table i x → x ≡ entry_at table (place_of g n)
entry_there g table n i x all less size at read = let low = place_low g n all less in entry_read table i x (omega (arith, at, low, size)) read ∙ ap (entry_at table) at

-- no node is below 0
pub best_first : (g : PlainGraph) (numbers : List ℕ) (marked : ℕ → Bool) (count : ℕ) (best : List (Option ℕ)) → count ≡ 768 → best ≡ replicate count None → AreBest g numbers marked 0 best
best_first g numbers marked count best all empty = record {
  size = ap length empty ∙ length-replicate {A = Option ℕ} count None ∙ all;
  here = λ l n e. let clash : None ≡ Some n = sym (no_entry best count empty l) ∙ e in absurd (cc);
  over = λ m less mark. absurd (omega (arith, less));
}

-- entries are pushed in order
pub entry_next : (f : ℕ → Option ℕ) (table : List (Option ℕ)) (next : Option ℕ) (place i : ℕ) → length table ≡ place
    → ((j : ℕ) → j < place → entry_at table j ≡ f j) → next ≡ f place → i < place + 1 → entry_at (table ++ next ∷ []) i ≡ f i
entry_next f table next place i size before is less = elim (cases_lt i place) [
  | inl low ↦ get_or-append table (next ∷ []) None i (omega (arith, low, size)) ∙ before i low
  | inr last ↦ (
      let same : i ≡ place = omega (arith, less, last) in
      get_or_push table next None i (omega (arith, same, size)) ∙ is ∙ ap f (sym same))
]

-- where the best nodes have no entry nothing is wanted
pub unwanted_past : (numbers : List ℕ) (choosers : LocSet) (best : List (Option ℕ)) (l : ℕ) → length best ≤ l → wanted_by numbers choosers best l ≡ None
unwanted_past numbers choosers best l past = by (holds choosers l)
  where
    by : (b : Bool) → cond b (option_map (number_in numbers) (entry_at best l)) None ≡ None
    by true = ap (option_map (number_in numbers)) (entry_past best l past)
    by false = refl

module _ (g : PlainGraph) (numbers : List ℕ) (marked : ℕ → Bool) (n : ℕ) (best : List (Option ℕ)) where
  -- a node that is marked and better than the best so far
  pub best_there : marked n ≡ true → is_better numbers n (entry_at best (place_of g n)) ≡ true → place_of g n < 768 → AreBest g numbers marked n best
      → AreBest g numbers marked (n + 1) (set best (place_of g n) (Some n))
  best_there on better low are = record {
    size = length-set _ _ _ ∙ are.size;
    here = λ l m e. elim (cases_eq l (place_of g n)) [
      | inl here ↦ (
          let is : Some n ≡ Some m = sym (here_is l here) ∙ e in
          let same : n ≡ m = cc in
          (omega (arith, same), subst (λ k. marked k ≡ true) same on, ap (place_of g) (sym same) ∙ sym here))
      | inr there ↦ (let old = are.here l m (sym (there_is l there) ∙ e) in (omega (arith, old.0), old.1, old.2))
    ];
    over = λ m less mark. elim (cases_eq (place_of g m) (place_of g n)) [
      | inl here ↦ elim (cases_lt m n) [
        | inl before ↦ (
            let old = are.over m before mark in
            let at : entry_at best (place_of g n) ≡ Some old.0 = ap (entry_at best) (sym here) ∙ old.1 in
            let above : nat_lt (number_in numbers old.0) (number_in numbers n) ≡ true = ap (is_better numbers n) (sym at) ∙ better in
            (n, here_is (place_of g m) here, omega (arith, old.2, ltb-true _ _ above)))
        | inr last ↦ (let same : m ≡ n = omega (arith, less, last) in (n, here_is (place_of g m) here, omega (arith, ap (number_in numbers) same)))
      ]
      | inr there ↦ elim (cases_lt m n) [
        | inl before ↦ (let old = are.over m before mark in (old.0, there_is (place_of g m) there ∙ old.1, old.2))
        | inr last ↦ (let same : m ≡ n = omega (arith, less, last) in absurd (there (ap (place_of g) same)))
      ]
    ];
  }
    where
      here_is : (l : ℕ) → l ≡ place_of g n → entry_at (set best (place_of g n) (Some n)) l ≡ Some n
      here_is l here = ap (entry_at (set best (place_of g n) (Some n))) here ∙ get_or-set_same best (place_of g n) (Some n) None (omega (arith, low, are.size))

      there_is : (l : ℕ) → l ≢ place_of g n → entry_at (set best (place_of g n) (Some n)) l ≡ entry_at best l
      there_is l there = get_or-set_other best (place_of g n) l (Some n) None there

  -- a node that isn't
  pub best_kept : (marked n && is_better numbers n (entry_at best (place_of g n))) ≡ false → AreBest g numbers marked n best → AreBest g numbers marked (n + 1) best
  best_kept off are = record {
    size = are.size;
    here = λ l m e. let old = are.here l m e in (omega (arith, old.0), old.1, old.2);
    over = λ m less mark. elim (cases_lt m n) [
      | inl before ↦ are.over m before mark
      | inr last ↦
          (let same : m ≡ n = omega (arith, less, last) in
          subst (λ k. (b : ℕ) × (entry_at best (place_of g k) ≡ Some b) × (number_in numbers k ≤ number_in numbers b)) (sym same)
          (here (subst (λ k. marked k ≡ true) same mark) (entry_at best (place_of g n)) refl))
    ];
  }
    where
      here : marked n ≡ true → (o : Option ℕ) → entry_at best (place_of g n) ≡ o → (b : ℕ) × (entry_at best (place_of g n) ≡ Some b) × (number_in numbers n ≤ number_in numbers b)
      here on None e = let all : (marked n && is_better numbers n (entry_at best (place_of g n))) ≡ true = rw (on, e) refl in absurd (both_ways _ off all)
      here on (Some b) e =
          let not_less : nat_lt (number_in numbers b) (number_in numbers n) ≡ false = sym (rw (on, e) refl) ∙ off in
          (b, e, omega (arith, ltb-false _ _ not_less))

  -- what a turn of the loop makes of the table
  pub best_taken : (at : ℕ) (old : Option ℕ) (next : List (Option ℕ)) → AllByRecursion (λ (node : Node). node.loc < 768) g.nodes → n < length g.nodes
      → at ≡ place_of g n → old ≡ get_or best at old → next ≡ set best at (Some n)
      → marked n ≡ true → is_better numbers n old ≡ true → AreBest g numbers marked n best → AreBest g numbers marked (n + 1) next
  best_taken at old next places node is read taken on better are =
      let low = place_low g n places node in
      let here = entry_there g best n at old places node are.size is read in
      subst (AreBest g numbers marked (n + 1)) (sym (taken ∙ ap (λ l. set best l (Some n)) is)) (best_there on (ap (is_better numbers n) (sym here) ∙ better) low are)

  pub best_passed : (at : ℕ) (old : Option ℕ) → AllByRecursion (λ (node : Node). node.loc < 768) g.nodes → n < length g.nodes → at ≡ place_of g n → old ≡ get_or best at old
      → is_better numbers n old ≡ false → AreBest g numbers marked n best → AreBest g numbers marked (n + 1) best
  best_passed at old places node is read worse are =
      let here = entry_there g best n at old places node are.size is read in
      best_kept (and_right (marked n) _ (ap (is_better numbers n) (sym here) ∙ worse)) are
