-- The fault that is told first of the items of a text is that of the text; where none is told, the policy that was kept is the text's.
use Rattle.std.proofs.Common.{◌≡◌, ℕ, ◌≤◌, List, [], ◌∷◌, ◌++◌, Result, Ok, Err, refl, sym, ap, subst, ◌∙◌}
use Rattle.std.specs.Prelude.{⊤, IfOk}
use Rattle.std.proofs.lemmas.List.{append-nil}
use Rattle.net_base.specs.declared.loc.LocSet.{LocSet}
use Rattle.policy_tokens.specs.declared.kind.Kind.TheVariants as kind
use Rattle.net_base.specs.Network.{PlainNet}
use Rattle.net_base.specs.Prefixes.{PlainPrefix}
use Rattle.net_base.specs.SetOperations.{no_location}
use Rattle.net_base.specs.Steps.{◌>>=◌}
use Rattle.net_base.proofs.StepLemmas.{bind_ok, ok_same}
use Rattle.policy_tokens.specs.declared.fault.PolicyFault.{PolicyFault}
use Rattle.policy_tokens.specs.declared.fault.PolicyFault.TheVariants.{Twice, NoMemory}
use Rattle.net_base.specs.Gives.{GivesUnless}
use Rattle.policy_grammar.specs.declared.lexeme.Lexeme.{Lexeme}
use Rattle.policy_grammar.specs.Raw.{Item}
use Rattle.policy_grammar.specs.Raw.Item.{Define, Originate, State}
use Rattle.policy_rules.specs.KnownNames.{Names, net_names}
use Rattle.policy_rules.specs.Checks.{set_of_names, each, name_known, learnt, all_learnt}
use Rattle.policy_rules.specs.Counts.{counted, within, items_within, calls_within, paths_within}
use Rattle.policy_rules.specs.Figures.{prefix_at, figures_fine}
use Rattle.policy_rules.specs.Origins.{origins_fine, once_from}
use Rattle.policy_rules.specs.Ranks.{ranks_fine}
use Rattle.policy_base.specs.declared.policy.Origin.{Origin}
use Rattle.policy_base.specs.Policies.{PlainPolicy, PlainStatement, IsPolicy}
use Rattle.policy_values.specs.Built.{origin_of, origins_of, statements_of}
use Rattle.policy_parser.specs.Depth.{IsAtMostDeep}
use Rattle.policy_parser.specs.SoFar.{IsJudged, IsToldOf, IsKept}
use Rattle.policy_parser.specs.Spelled.{none_at, items_spelled, names_spelled, rules_kept, origins_spelled, policy_built, pairs, spelled}
use Rattle.policy_parser.specs.Told.{PlainTold, limits_fault, first_fault}
use Rattle.policy_parser.proofs.BuiltPolicies.{is_policy}
use Rattle.policy_parser.proofs.DeepestPolicies.{read-IsAtMostDeep}
use Rattle.policy_parser.proofs.KeptNames.{keeps_all_learnt}
use Rattle.policy_parser.proofs.KeptItems.{origin_kept}
use Rattle.policy_parser.proofs.TakenItems.{passes, joined_known}
use Rattle.policy_rules.proofs.Verdicts.{last_told}
use Rattle.policy_parser.proofs.ToldItems.{learnt_now}
use Rattle.policy_parser.proofs.WholeTold.{whole, most_of, within_of}

-- ---- origins are there where names are known and figures are prefixes

passes_ok : {A : Type 0} (r : Result A PolicyFault) (u : ⊤) → passes r ≡ Ok u → (x : A) × (r ≡ Ok x)
passes_ok (Ok x) u h = (x, refl)
passes_ok (Err e) u h = absurd cc

module _ (bytes : List ℕ) (net : PlainNet) where
  origin_made : (k : Names) (p : Lexeme) (ns : List Lexeme) (q : PlainPrefix) (s : LocSet) → prefix_at bytes p ≡ Ok q → set_of_names bytes k ns ≡ Ok s
      → origin_of bytes k p ns ≡ Ok (record { prefix = q; at = s })
  unfolding origin_of
  origin_made k p ns q s prefix at = rw (prefix, at) refl

  origin_there : (k m : Names) (p : Lexeme) (ns : List Lexeme) (u : ⊤) → learnt bytes k (Originate p ns) ≡ Ok m → passes (prefix_at bytes p) ≡ Ok u → (o : Origin) × (origin_of bytes k p ns ≡ Ok o)
  origin_there k m p ns u known fine =
      let a = bind_ok (each (name_known bytes k) ns) (λ _. Ok k) m known in
      let s = passes_ok (set_of_names bytes k ns) a.0 (joined_known bytes k no_location ns ∙ a.1) in
      let q = passes_ok (prefix_at bytes p) u fine in
      (record { prefix = q.0; at = s.0 }, origin_made k p ns q.0 s.0 q.1 s.1)

  origins_there : (k m : Names) (so_far : List Origin) (items : List Item) (u : ⊤) → all_learnt bytes k items ≡ Ok m
      → each (figures_fine bytes) items ≡ Ok u → (os : List Origin) × (origins_of bytes m so_far items ≡ Ok os)
  origins_there k m so_far [] u known fine = (so_far, refl)
  origins_there k m so_far (Define name members ∷ items) u known fine =
      let a = bind_ok (learnt bytes k (Define name members)) (λ next. all_learnt bytes next items) m known in
      origins_there a.0 m so_far items u a.2 fine
  origins_there k m so_far (State s ∷ items) u known fine =
      let a = bind_ok (learnt bytes k (State s)) (λ next. all_learnt bytes next items) m known in
      let b = bind_ok (figures_fine bytes (State s)) (λ _. each (figures_fine bytes) items) u fine in
      origins_there a.0 m so_far items u a.2 b.2
  origins_there k m so_far (Originate p ns ∷ items) u known fine =
      let a = bind_ok (learnt bytes k (Originate p ns)) (λ next. all_learnt bytes next items) m known in
      let b = bind_ok (figures_fine bytes (Originate p ns)) (λ _. each (figures_fine bytes) items) u fine in
      let o = origin_there k a.0 p ns b.0 a.1 b.1 in
      let here = sym (origin_kept bytes net k m (keeps_all_learnt bytes k m (Originate p ns ∷ items) known) p ns a.0 a.1) ∙ o.1 in
      let later = origins_there a.0 m (so_far ++ o.0 ∷ []) items u a.2 b.2 in
      (later.0, rw here later.1)

-- ---- one step after another

-- the steps of a policy, told first and then built, or told as it is built
all_steps : (twice figures ranks routers once limits : Result ⊤ PolicyFault) (origins : Result (List Origin) PolicyFault)
    (few : List Origin → Result ⊤ PolicyFault) (fit calls places : Result ⊤ PolicyFault) (statements : Result (List PlainStatement) PolicyFault)
    (p : PlainPolicy)
    → (figures ≡ Ok tt → limits ≡ Ok tt → (os : List Origin) × (origins ≡ Ok os) × (few os ≡ fit))
    → ((twice >>= λ _. figures >>= λ _. ranks >>= λ _. routers >>= λ _. once >>= λ _. limits >>= λ _. fit >>= λ _. calls >>= λ _. places) ≡ Ok tt
    → (origins ≡ Ok p.origins) × (statements ≡ Ok p.statements))
    → (twice >>= λ _.
    ((figures >>= λ _. ranks >>= λ _. routers >>= λ _. once) >>= λ _.
    ((limits >>= λ _. origins >>= λ os. few os >>= λ _. Ok os) >>= λ os. calls >>= λ _. places >>= λ _. statements >>= λ ts. Ok (record { origins = os; statements = ts }))))
    ≡ ((twice >>= λ _. figures >>= λ _. ranks >>= λ _. routers >>= λ _. once >>= λ _. limits >>= λ _. fit >>= λ _. calls >>= λ _. places) >>= λ _. Ok p)
all_steps (Err e) figures ranks routers once limits origins few fit calls places statements p there kept = refl
all_steps (Ok t) (Err e) ranks routers once limits origins few fit calls places statements p there kept = refl
all_steps (Ok t) (Ok f) (Err e) routers once limits origins few fit calls places statements p there kept = refl
all_steps (Ok t) (Ok f) (Ok r) (Err e) once limits origins few fit calls places statements p there kept = refl
all_steps (Ok t) (Ok f) (Ok r) (Ok s) (Err e) limits origins few fit calls places statements p there kept = refl
all_steps (Ok t) (Ok f) (Ok r) (Ok s) (Ok o) (Err e) origins few fit calls places statements p there kept = refl
all_steps (Ok t) (Ok f) (Ok r) (Ok s) (Ok o) (Ok l) origins few (Err e) calls places statements p there kept = let a = there refl refl in rw (a.1, a.2) refl
all_steps (Ok t) (Ok f) (Ok r) (Ok s) (Ok o) (Ok l) origins few (Ok w) (Err e) places statements p there kept = let a = there refl refl in rw (a.1, a.2) refl
all_steps (Ok t) (Ok f) (Ok r) (Ok s) (Ok o) (Ok l) origins few (Ok w) (Ok c) (Err e) statements p there kept = let a = there refl refl in rw (a.1, a.2) refl
all_steps (Ok t) (Ok f) (Ok r) (Ok s) (Ok o) (Ok l) origins few (Ok w) (Ok c) (Ok q) statements p there kept =
    let a = there refl refl in
    let b = kept refl in
    let same : a.0 ≡ p.origins = ok_same {F = PolicyFault} a.0 p.origins (sym a.1 ∙ b.0) in
    let fits : few p.origins ≡ Ok w = ap few (sym same) ∙ a.2 in
    rw (b.0, fits, b.1) refl

known_steps : {X : Type 0} (r : Result ⊤ PolicyFault) (k : Names) (f : Names → Result X PolicyFault) → ((r >>= λ _. Ok k) >>= f) ≡ (r >>= λ _. f k)
known_steps (Ok u) k f = refl
known_steps (Err e) k f = refl

module _ (bytes : List ℕ) (net : PlainNet) (items : List Item) (k : Names) (t : PlainTold) (p : PlainPolicy) where
  spelled_known : items_spelled bytes ≡ Ok items → all_learnt bytes (net_names net) items ≡ Ok k
      → spelled net bytes ≡ (none_at Twice k.twice >>= λ _. (rules_kept bytes net k items >>= λ _. policy_built bytes net k items))
  unfolding spelled names_spelled
  spelled_known read known = rw (read, known) (known_steps (none_at Twice k.twice) k (λ l. rules_kept bytes net l items >>= λ _. policy_built bytes net l items))

  spelled_unknown : (e : PolicyFault) → items_spelled bytes ≡ Ok items → all_learnt bytes (net_names net) items ≡ Err e → spelled net bytes ≡ Err e
  unfolding spelled names_spelled
  spelled_unknown e read known = rw (read, known) refl

  once_told : IsJudged bytes net k items t → t.once.fault ≡ once_from bytes [] items
  once_told j = sym (ap (once_from bytes []) (sym (append-nil items)) ∙ j.once [] ∙ last_told t.once.fault)

  limits_told : IsJudged bytes net k items t → limits_fault t.amounts ≡ items_within items
  limits_told j = rw (j.definitions, j.statements, j.patterns, j.prefixes) refl

  abbrev in_order : Result ⊤ PolicyFault
  in_order =
      none_at Twice k.twice >>= λ _. each (figures_fine bytes) items >>= λ _. each ranks_fine items >>= λ _. each
      (origins_fine bytes net k) items >>= λ _. once_from bytes
      [] items >>= λ _. items_within items >>= λ _. within kind.Origins 16384 t.amounts.pairs >>= λ _. each calls_within items >>= λ _. each paths_within items

  first_known : t.names ≡ Ok tt → IsToldOf bytes net k items t → first_fault t ≡ in_order
  unfolding first_fault
  first_known known told = let j = told.judged known in rw (known, ← told.known.like.twice, j.figures, j.ranks, j.routers, once_told j, limits_told j, j.calls, j.places) refl

  first_unknown : (e : PolicyFault) → t.names ≡ Err e → first_fault t ≡ Err e
  unfolding first_fault
  first_unknown e known = rw known refl

  few_told : IsJudged bytes net k items t → items_within items ≡ Ok tt → t.amounts.definitions ≤ 256
  few_told j fine = let a = bind_ok (within kind.Definitions 256 (counted kind.Definitions items)) _ tt fine in most_of kind.Definitions 256 t.amounts.definitions a.0 (rw j.definitions a.1)

  there : (j : IsJudged bytes net k items t) → all_learnt bytes (net_names net) items ≡ Ok k → each (figures_fine bytes) items ≡ Ok tt → items_within items ≡ Ok tt
      → (os : List Origin) × (origins_of bytes k [] items ≡ Ok os) × (within kind.Origins 16384 (pairs os) ≡ within kind.Origins 16384 t.amounts.pairs)
  there j names fine few =
      let o = origins_there bytes net (net_names net) k [] items tt names fine in
      (o.0, o.1, ap (within kind.Origins 16384) (sym (j.pairs (few_told j few) o.0 o.1)))

  -- the names are those of the text where nothing is told
  kept_names : IsToldOf bytes net k items t → IsKept bytes net t.known items p → first_fault t ≡ Ok tt → IsKept bytes net k items p
  kept_names told kept fine = subst (λ (l : Names). IsKept bytes net l items p) (sym (told.known.same (whole t fine).definitions)) kept

  known_gives : t.names ≡ Ok tt → IsToldOf bytes net k items t → (first_fault t ≡ Ok tt → IsKept bytes net t.known items p)
      → items_spelled bytes ≡ Ok items → spelled net bytes ≡ (first_fault t >>= λ _. Ok p)
  unfolding rules_kept origins_spelled policy_built
  known_gives known told kept read =
      let j = told.judged known in
      let names = learnt_now bytes net items k t known told in
      let first = first_known known told in
      let built : in_order ≡ Ok tt → (origins_of bytes k [] items ≡ Ok p.origins) × (statements_of bytes net k [] items ≡ Ok p.statements) = λ fine.
      let h = kept_names told (kept (first ∙ fine)) (first ∙ fine) in (h.origins, h.statements) in
      rw (first, spelled_known read names)
      (all_steps (none_at Twice k.twice) (each (figures_fine bytes) items) (each ranks_fine items) (each (origins_fine bytes net k) items) (once_from bytes [] items) (items_within items)
      (origins_of bytes k [] items) (λ os. within kind.Origins 16384 (pairs os)) (within kind.Origins 16384 t.amounts.pairs) (each calls_within items)
      (each paths_within items) (statements_of bytes net k [] items) p (there j names) built)

  -- what is told first is what the text spells
  pub told_gives : IsToldOf bytes net k items t → (first_fault t ≡ Ok tt → IsKept bytes net t.known items p) → items_spelled bytes ≡ Ok items → spelled net bytes ≡ (first_fault t >>= λ _. Ok p)
  told_gives told kept read = by t.names refl
    where
      by : (r : Result ⊤ PolicyFault) → t.names ≡ r → spelled net bytes ≡ (first_fault t >>= λ _. Ok p)
      by (Ok u) e = known_gives e told kept read
      by (Err f) e = rw (first_unknown f e) (spelled_unknown f read (told.names ∙ rw e refl))

  -- where nothing is told, the policy that was kept is one
  pub kept_policy : IsToldOf bytes net k items t → IsKept bytes net t.known items p → first_fault t ≡ Ok tt → IsPolicy p
  unfolding rules_kept origins_spelled
  kept_policy told was fine =
      let w = whole t fine in
      let kept = kept_names told was fine in
      let j = told.judged w.names in
      let figures = sym j.figures ∙ w.figures in
      let ranks = sym j.ranks ∙ w.ranks in
      let routers = sym j.routers ∙ w.routers in
      let once = sym (once_told j) ∙ w.once in
      let limits : items_within items ≡ Ok tt =
      sym (limits_told j)
      ∙ rw (
        within_of kind.Definitions 256 t.amounts.definitions w.definitions,
        within_of kind.Statements 256 t.amounts.statements
            w.statements,
        within_of kind.Patterns 16384 t.amounts.patterns w.patterns,
        within_of kind.Prefixes 4096 t.amounts.prefixes
            w.prefixes,
      )
      refl in
      let fit : within kind.Origins 16384 (pairs p.origins) ≡ Ok tt =
      ap (within kind.Origins 16384) (sym (j.pairs w.definitions p.origins kept.origins))
      ∙ within_of kind.Origins 16384 t.amounts.pairs w.pairs in
      is_policy bytes net k items p.origins p.statements (rw (figures, ranks, routers, once) refl) (rw (limits, kept.origins, fit) refl) kept.statements

-- what a text spells is at most 321 deep
pub spelled-IsAtMostDeep : {X : Type 0} (view : X → PlainPolicy) (bytes : List ℕ) (net : PlainNet) (result : Result X PolicyFault)
    → GivesUnless NoMemory view result (spelled net bytes) → IfOk result (λ x. IsAtMostDeep 321 (view x))
unfolding spelled
spelled-IsAtMostDeep view bytes net (Ok x) h =
    let items = bind_ok (items_spelled bytes) _ (view x) h in
    let known = bind_ok (names_spelled bytes net items.0) _ (view x) items.2 in
    let rules = bind_ok (rules_kept bytes net known.0 items.0) _ (view x) known.2 in
    read-IsAtMostDeep view bytes net known.0 items.0 (Ok x) items.1 rules.2
spelled-IsAtMostDeep view bytes net (Err e) h = tt
