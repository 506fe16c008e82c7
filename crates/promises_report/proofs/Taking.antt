-- The parts of the own space that are told are what routers take from peers.
use Rattle.std.proofs.Common.{◌≡◌, ℕ, zero, suc, ◌+◌, Bool, true, false, List, [], ◌∷◌, ◌++◌, ◌≤◌, ◌<◌, get_or, length, Some, None, inl, inr, refl, sym, ap, subst, ◌∙◌, arith}
use Rattle.std.specs.Prelude.{◌&&◌, ◌==◌, not, nat_le, slice_get, if◌then◌else◌}
use Rattle.std.specs.List.{list_any}
use Rattle.std.proofs.lemmas.Bool.{and_from, and_parts, cases_Bool, eqb-true, eq-eqb, false_from_ne_true, le-ltb, lt-ltb, ltb-true, leb-true, not-true, or_parts, true≢false}
use Rattle.std.proofs.lemmas.Option.{same_Some, slice_get-get_or, slice_get_within}
use Rattle.list_law.proofs.Items.{slice_get_behind}
use Rattle.list_law.proofs.Members.{list_any_member, list_any-from_IsIn}
use Rattle.list_law.proofs.Options.{cases_Option}
use Rattle.net_base.specs.Locations.{numbers_below}
use Rattle.net_base.specs.Network.{IsNet, PlainNet, is_location, is_peer, is_router, linked}
use Rattle.net_base.specs.Prefixes.{PlainPrefix}
use Rattle.net_base.specs.Sets.{holds}
use Rattle.net_base.proofs.Links.{linked_known}
use Rattle.net_base.proofs.NumbersBelow.{In-numbers_below, below_from_In}
use Rattle.net_base.proofs.RoutersAndPeers.{router_or_peer}
use Rattle.policy_base.specs.CaseOrigins.{AreOrigins}
use Rattle.policy_base.specs.Cases.{case_list, external_cases, originated_cases}
use Rattle.policy_base.specs.declared.case.Case.{Case}
use Rattle.policy_base.specs.Governing.{governing, is_origin, is_origin_by, statement_of}
use Rattle.policy_base.specs.Meaning.{at_last, front}
use Rattle.policy_base.specs.Permitted.{is_permitted}
use Rattle.policy_base.specs.Policies.{IsPolicyOf, PlainPolicy, PlainStatement, statement_at}
use Rattle.policy_base.specs.Walks.{is_walk, steps_linked}
use Rattle.policy_base.proofs.KnownCases.{case_known, known_origins}
use Rattle.policy_base.proofs.WalkParts.{walk_parts}
use Rattle.evidence_law.proofs.CaseOrigins.{case_permits, prefix_permits}
use Rattle.evidence_law.proofs.ExternalFound.{Known, class_external, external_of, statement_number, ungoverned}
use Rattle.evidence_law.proofs.PermittedWalks.{permits_parts}
use Rattle.own_space.specs.declared.open_case.OpenCase.{OpenCase}
use Rattle.own_space.specs.Laws.{IsForPeers, IsOpen}
use Rattle.own_space.specs.Open.{number_of}
use Rattle.own_space.proofs.Telling.{parts_are_what_is_open}
use Rattle.promises_report.specs.Promises.{Promises}
use Rattle.promises_report.specs.Taken.{AreAllPromises, IsTaken, PartsAreWhatIsTaken}
use Rattle.promises_report.specs.Taking.{takes, taking_cases}

-- ---- the cases in which some router takes what peers announce

-- one of them, at its place in the list
pub record Takes (net : PlainNet) (cs : List Case) (xs : List Promises) (k : ℕ) : Type 0 where
  pub place : ℕ
  pub c : Case
  pub a : Promises
  pub at : slice_get cs place ≡ Some c
  pub promised : slice_get xs place ≡ Some a
  pub statement : c.statement ≡ k
  pub taken : takes net c a ≡ true

later : (net : PlainNet) (cs : List Case) (xs : List Promises) (k : ℕ) (d : Case) (b : Promises) → Takes net cs xs k → Takes net (d ∷ cs) (b ∷ xs) k
later net cs xs k d b x = record { place = suc x.place; c = x.c; a = x.a; at = x.at; promised = x.promised; statement = x.statement; taken = x.taken }

taking_from : (net : PlainNet) (j k n : ℕ) (cs : List Case) (xs : List Promises) → number_of (taking_cases net j cs xs) k ≡ Some n → Takes net cs xs k
taking_from net j k n [] xs h = absurd cc
taking_from net j k n (d ∷ cs) [] h = absurd cc
taking_from net j k n (d ∷ cs) (b ∷ xs) h = by (takes net d b) refl (taking_from net (suc j) k n cs xs) h
  where
    by : (t : Bool) → takes net d b ≡ t → (number_of (taking_cases net (suc j) cs xs) k ≡ Some n → Takes net cs xs k)
        → number_of ((if t then record { number = j; statement = d.statement } ∷ [] else []) ++ taking_cases net (suc j) cs xs) k ≡ Some n
        → Takes net (d ∷ cs) (b ∷ xs) k
    by false e rest h = later net cs xs k d b (rest h)
    by true e rest h = elim (cases_Bool (d.statement == k)) [
      | inl same ↦ record { place = 0; c = d; a = b; at = refl; promised = refl; statement = eqb-true _ _ same; taken = e }
      | inr other ↦ later net cs xs k d b (rest (sym (rw other refl) ∙ h))
    ]

taking_there : (net : PlainNet) (j : ℕ) (cs : List Case) (xs : List Promises) (k i : ℕ) (c : Case) (a : Promises) → slice_get cs i ≡ Some c → slice_get xs i ≡ Some a
    → c.statement ≡ k → takes net c a ≡ true → (n : ℕ) × (number_of (taking_cases net j cs xs) k ≡ Some n)
taking_there net j [] xs k i c a at promised statement taken = absurd cc
taking_there net j (d ∷ cs) [] k i c a at promised statement taken = absurd cc
taking_there net j (d ∷ cs) (b ∷ xs) k zero c a at promised statement taken =
    let same_c : d ≡ c = same_Some d c at in
    let same_a : b ≡ a = same_Some b a promised in
    let here : takes net d b ≡ true = ap (λ (x : Case). takes net x b) same_c ∙ ap (takes net c) same_a ∙ taken in
    let number : (d.statement == k) ≡ true = eq-eqb _ _ (ap (λ (x : Case). x.statement) same_c ∙ statement) in
    (j, rw (here, number) refl)
taking_there net j (d ∷ cs) (b ∷ xs) k (suc i) c a at promised statement taken =
    let rest = taking_there net (suc j) cs xs k i c a at promised statement taken in
    by (takes net d b) refl (d.statement == k) refl rest.0 rest.1
  where
    by : (t : Bool) → takes net d b ≡ t → (e : Bool) → (d.statement == k) ≡ e → (n : ℕ) → number_of (taking_cases net (suc j) cs xs) k ≡ Some n
        → (n : ℕ) × (number_of (taking_cases net j (d ∷ cs) (b ∷ xs)) k ≡ Some n)
    by false is e number n h = (n, rw is h)
    by true is true number n h = (j, rw (is, number) refl)
    by true is false number n h = (n, rw (is, number) h)

-- ---- the last step of a walk

-- a walk that ends at a peer, with no peer before its end but its source
pub record LastStep (net : PlainNet) (path : List ℕ) : Type 0 where
  pub above : List ℕ
  pub router : ℕ
  pub peer : ℕ
  pub at : (is_router net router && is_peer net peer) ≡ true
  pub is : path ≡ above ++ router ∷ peer ∷ []

last_step : (net : PlainNet) → IsNet net → (l k : ℕ) (ls : List ℕ) → steps_linked net (l ∷ k ∷ ls) ≡ true → at_last (is_peer net) (l ∷ k ∷ ls) ≡ true
    → list_any (is_peer net) (front (l ∷ k ∷ ls)) ≡ false → LastStep net (l ∷ k ∷ ls)
last_step net rules l k [] steps last none =
    let step = and_parts (linked net l k) true steps in
    let no_peer = (or_parts (is_peer net l) false none).0 in
    record {
      above = [];
      router = l;
      peer = k;
      at = and_from (is_router net l) (is_peer net k) (router_or_peer net l (linked_known net l k rules step.0).0 no_peer) last;
      is = refl;
    }
last_step net rules l k (m ∷ ms) steps last none =
    let step = and_parts (linked net l k) (steps_linked net (k ∷ m ∷ ms)) steps in
    let rest = last_step net rules k m ms step.1 last (or_parts (is_peer net l) (list_any (is_peer net) (front (k ∷ m ∷ ms))) none).1 in
    record { above = l ∷ rest.above; router = rest.router; peer = rest.peer; at = rest.at; is = ap (λ (xs : List ℕ). l ∷ xs) rest.is }

module _ (net : PlainNet) (policy : PlainPolicy) (rules : IsNet net) (kept : IsPolicyOf net policy) (xs : List Promises) (promised : AreAllPromises net policy xs)
    (p : PlainPrefix) (mine : IsForPeers policy p) where
  abbrev taking : List OpenCase
  taking = taking_cases net 1 (case_list net policy) xs

  -- the origins of the prefix are the peers
  peers : is_origin net policy p ≡ is_peer net
  peers = ap (is_origin_by net) mine.not_originated

  of_case : (k : ℕ) (c : Case) → slice_get (case_list net policy) k ≡ Some c → c.external ≡ true → holds c.origins ≡ is_origin net policy p
  of_case k c at external =
      let are : AreOrigins net (holds c.origins) true = subst (AreOrigins net (holds c.origins)) external (known_origins net policy c rules kept.routers (case_known net policy k c at)) in
      (λ i. λ l. are l i) ∙ sym peers

  -- ---- what is open is taken

  number_known : (k : ℕ) (s : PlainStatement) → governing policy p ≡ Some k → statement_at policy k ≡ Some s → statement_of policy p ≡ Some s
  number_known k s governed number = elim (cases_Option (statement_of policy p)) [
    | inl none ↦ let clash : None ≡ Some k = sym (ungoverned policy.statements p 1 none) ∙ governed in absurd cc
    | inr some ↦
        let there = statement_number policy.statements p 1 some.0 some.1 in
        let one : 1 + there.0 ≡ k = same_Some (1 + there.0) k (sym there.1 ∙ governed) in
        let next : suc there.0 ≡ k = omega (arith, one) in
        some.1 ∙ sym there.2 ∙ ap (statement_at policy) next ∙ number
  ]

  walk_taken : (s : PlainStatement) → statement_of policy p ≡ Some s → (above rest : List ℕ) (r : ℕ) → is_permitted net policy p s (above ++ r ∷ rest) ≡ true
      → is_router net r ≡ true → IsTaken net policy p
  walk_taken s governs above rest r permitted router = by (above ++ r ∷ rest) permitted
    where
      by : (path : List ℕ) → is_permitted net policy p s path ≡ true → IsTaken net policy p
      by path permitted =
          let parts = permits_parts net (is_origin net policy p) s path permitted in
          let ends = and_parts (at_last (is_origin net policy p) path) (not (list_any (is_origin net policy p) (front path))) parts.1 in
          let last : at_last (is_peer net) path ≡ true = ap (λ (o : ℕ → Bool). at_last o path) (sym peers) ∙ ends.0 in
          let none : list_any (is_peer net) (front path) ≡ false = ap (λ (o : ℕ → Bool). list_any o (front path)) (sym peers) ∙ not-true _ ends.1 in
          of_path path permitted (walk_parts net path parts.0).0 last none parts.0
        where
          of_path : (ls : List ℕ) → is_permitted net policy p s ls ≡ true → steps_linked net ls ≡ true → at_last (is_peer net) ls ≡ true
              → list_any (is_peer net) (front ls) ≡ false → is_walk net ls ≡ true → IsTaken net policy p
          of_path [] permitted steps last none walk = absurd (true≢false (sym walk))
          of_path (l ∷ []) permitted steps last none walk = absurd (true≢false (sym walk))
          of_path (l ∷ k ∷ ls) permitted steps last none walk =
              let step = last_step net rules l k ls steps last none in
              record {
                s = s;
                governs = governs;
                router = step.router;
                peer = step.peer;
                at = step.at;
                above = step.above;
                permitted = subst (λ (ks : List ℕ). is_permitted net policy p s ks ≡ true) step.is permitted;
              }

  open_taken : IsOpen policy taking p → IsTaken net policy p
  open_taken o =
      let x = taking_from net 1 o.0 o.1 (case_list net policy) xs o.3 in
      let s = (case_known net policy x.place x.c x.at).statement in
      let parts = and_parts x.c.external (list_any x.a.passes (numbers_below (length net.routers))) x.taken in
      let r = list_any_member x.a.passes (numbers_below (length net.routers)) parts.1 in
      let router : is_router net r.0 ≡ true = lt-ltb _ _ (below_from_In r.0 (length net.routers) r.1) in
      let passed = ((promised.each x.place x.c s.0 x.a x.at s.1 x.promised).walks r.0 router).0 r.2 in
      let governs = number_known o.0 s.0 o.2 (ap (statement_at policy) (sym x.statement) ∙ s.1) in
      walk_taken s.0 governs passed.0 passed.1 r.0 (prefix_permits net policy p s.0 (of_case x.place x.c x.at parts.0) (passed.0 ++ r.0 ∷ passed.1) passed.2) router

  -- ---- what is taken is open

  some_peers : (l : ℕ) → is_peer net l ≡ true → (length net.peers == 0) ≡ false
  some_peers l at = false_from_ne_true _ (λ none.
      let parts = and_parts (nat_le (length net.routers) l) (is_location net l) at in
      let empty : length net.peers ≡ 0 = eqb-true _ _ none in
      let least : length net.routers ≤ l = leb-true _ _ parts.0 in
      true≢false (sym parts.1 ∙ le-ltb l (length net.routers + length net.peers) (omega (arith, least, empty))))

  known_statements : Known net policy p 1 policy.statements
  unfolding Known
  known_statements i s at = let same : 1 + i ≡ suc i = omega arith in (ap (statement_at policy) same ∙ at, λ t h. kept.patterns s t (i, at) h)

  case_open : (k place : ℕ) (c : Case) (s : PlainStatement) → slice_get (case_list net policy) place ≡ Some c → c.external ≡ true → c.statement ≡ k
      → governing policy p ≡ Some k → statement_at policy k ≡ Some s → (above rest : List ℕ) (r : ℕ) → is_router net r ≡ true
      → is_permitted net policy p s (above ++ r ∷ rest) ≡ true → IsOpen policy taking p
  case_open k place c s at external statement governed number above rest r router permitted =
      let within : place < length xs = omega (arith, slice_get_within (case_list net policy) place c at, promised.size) in
      let nobody : Promises = record { rank = λ r peer. None; passes = λ r. false; has_rank = λ r peer n. false } in
      let a = get_or xs place nobody in
      let one : slice_get xs place ≡ Some a = slice_get-get_or xs place nobody within in
      let walks = (promised.each place c s a at (ap (statement_at policy) statement ∙ number) one).walks r router in
      let passes : a.passes r ≡ true = walks.1 (above, rest, case_permits net policy p s (of_case place c at external) (above ++ r ∷ rest) permitted) in
      let routers = numbers_below (length net.routers) in
      let some = list_any-from_IsIn a.passes routers r (In-numbers_below r (length net.routers) (ltb-true _ _ router)) passes in
      let n = taking_there net 1 (case_list net policy) xs k place c a at one statement (and_from c.external (list_any a.passes routers) external some) in
      (k, n.0, governed, n.1)

  taken_open : IsTaken net policy p → IsOpen policy taking p
  taken_open x =
      let at = and_parts (is_router net x.router) (is_peer net x.peer) x.at in
      let number = statement_number policy.statements p 1 x.s x.governs in
      let k = 1 + number.0 in
      let found = class_external net policy p mine.prefix mine.not_originated 1 1 k policy.statements known_statements number.1 in
      let c = external_of net policy p k in
      let inner = originated_cases policy policy.origins [] in
      let outer = if length net.peers == 0 then [] else external_cases net policy 1 policy.statements in
      let all : outer ≡ external_cases net policy 1 policy.statements = rw (some_peers x.peer at.1) refl in
      let there = slice_get_behind inner outer found.0 c (ap (λ (cs : List Case). slice_get cs found.0) all ∙ found.2) in
      let next : k ≡ suc number.0 = omega arith in
      case_open k (length inner + found.0) c x.s there refl refl number.1 (ap (statement_at policy) next ∙ number.2) x.above (x.peer ∷ []) x.router at.0 x.permitted

pub parts_are_what_is_taken : PartsAreWhatIsTaken
parts_are_what_is_taken net policy rules kept xs promised p mine own =
    let law = parts_are_what_is_open net policy kept (taking_cases net 1 (case_list net policy) xs) p mine own in
    (λ told. open_taken net policy rules kept xs promised p mine (law.0 told), λ taken. law.1 (taken_open net policy rules kept xs promised p mine taken))
