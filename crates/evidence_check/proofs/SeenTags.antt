-- The tags that were seen at the nodes before one.
use Rattle.std.proofs.Common.{◌≡◌, ◌⊎◌, ℕ, zero, suc, ◌+◌, ◌<◌, ◌≤◌, true, false, not, List, [], ◌∷◌, ◌++◌, length, Some, refl, sym, ap, subst, ◌∙◌, arith, inl, inr, eqb-true, eq-eqb}
use Rattle.std.specs.Prelude.{◌&&◌, ◌||◌, ◌==◌, IsTrue, slice_get}
use Rattle.std.specs.List.{list_any}
use Rattle.std.proofs.lemmas.Bool.{and_from, and_parts, cases_Bool, cases_lt, both_ways, false≢true, not-true}
use Rattle.std.proofs.lemmas.Option.{same_Some, slice_get_within}
use Rattle.list_law.proofs.Members.{IsIn-push_cases, list_any_member, list_any-from_IsIn, IsIn-append_left, IsIn-push}
use Rattle.net_base.specs.declared.numbers.Tag.{Tag}
use Rattle.net_base.specs.Network.{PlainNet, IsNet, asn_of, is_location, is_peer}
use Rattle.net_base.specs.Numbers.{is_tag, no_tag}
use Rattle.net_base.proofs.NumberRanges.{tag-range}
use Rattle.net_base.proofs.Sites.{asn_tells, no_asn}
use Rattle.graph_base.specs.Runs.{place_of}
use Rattle.config_base.specs.Lines.{same_tag}
use Rattle.config_base.proofs.SameTags.{same_tag-is, is-same_tag}
use Rattle.evidence_base.specs.Made.{PlainCaseEvidence, case_at, tag_at}
use Rattle.evidence_verdicts.specs.Rules.{IsNodeOf, KeepsTag}
use Rattle.evidence_verdicts.specs.Verdicts.{IsFirstAt, at_place}
use Rattle.config_base.specs.Configs.{IsBelow}
use Rattle.evidence_check.specs.TagRule.{AreSeen, IsEarlierNode, is_right_tag}

-- ---- tags

right_at_peer : (net : PlainNet) (l : ℕ) (t : Tag) → is_peer net l ≡ true → is_right_tag net l t ≡ same_tag t no_tag
right_at_peer net l t p = rw p refl

right_at_router : (net : PlainNet) (l : ℕ) (t : Tag) → is_peer net l ≡ false → is_right_tag net l t ≡ (is_tag t && t.asn == asn_of net l)
right_at_router net l t p = rw p refl

module _ (net : PlainNet) (cs : List PlainCaseEvidence) where
  -- what is no node keeps the rule
  not_node : (k n : ℕ) → ((c : PlainCaseEvidence) → IsNodeOf cs k n c → ⊥) → KeepsTag net cs k n
  not_node k n none = record {
    at_router = λ c at r. absurd (none c at);
    at_peer = λ c at p. absurd (none c at);
    new = λ j m d c before at order r p t. none c at;
  }

  same_case : (j k : ℕ) (d c : PlainCaseEvidence) → case_at cs j ≡ Some d → case_at cs k ≡ Some c → j ≡ k → d ≡ c
  same_case j k d c at_j at_k e = same_Some d c (sym at_j ∙ ap (case_at cs) e ∙ at_k)

  case_within : (k : ℕ) (c : PlainCaseEvidence) → case_at cs k ≡ Some c → k ≤ length cs
  case_within zero c at = absurd cc
  case_within (suc k) c at = let within = slice_get_within cs k c at in omega (arith, within)

  -- all nodes are before what is behind the last case
  pub all_kept : (k : ℕ) (seen : List Tag) → length cs + 1 ≤ k → AreSeen net cs k 0 seen → (j m : ℕ) → KeepsTag net cs j m
  all_kept k seen past are j m = elim (cases_lt j k) [
    | inl lt ↦ are.kept j m (inl lt)
    | inr le ↦ not_node j m (λ c at. let within = case_within j c at.0 in omega (arith, within, past, le))
  ]

  -- ---- the end of a case

  module _ (k n : ℕ) (c : PlainCaseEvidence) (is : case_at cs k ≡ Some c) (seen : List Tag) (are : AreSeen net cs k n seen) where
    earlier_or_here : (j m : ℕ) → IsEarlierNode j m (k + 1) 0 → (j < k) ⊎ (j ≡ k)
    earlier_or_here j m earlier = elim earlier [
      | inl lt ↦ elim (cases_lt j k) [ inl less ↦ inl less | inr le ↦ inr (omega (arith, lt, le)) ]
      | inr e ↦ absurd (omega (arith, e.1))
    ]

    -- a tag that was seen is one of a node before each node that comes later
    from_before : (i o : ℕ) → ((j m : ℕ) → IsEarlierNode j m k n → IsEarlierNode j m i o) → (t : Tag) → IsTrue (list_any (same_tag t) seen)
        → (j m : ℕ) × (d : PlainCaseEvidence) × IsNodeOf cs j m d × IsEarlierNode j m i o × (is_peer net (place_of d.graph m) ≡ false) × (tag_at d m ≡ t)
    from_before i o later t there = let f = are.from t there in (f.0, f.1, f.2, f.3, later f.0 f.1 f.4, f.5, f.6)

    pub case_seen : length c.graph.nodes ≤ n → AreSeen net cs (k + 1) 0 seen
    case_seen past = record {
      kept = kept;
      has = has;
      from = from_before (k + 1) 0 (λ j m earlier. elim earlier [ inl lt ↦ inl (omega (arith, lt)) | inr e ↦ inl (omega (arith, e.0)) ]);
    }
      where
        within : (j m : ℕ) (d : PlainCaseEvidence) → IsNodeOf cs j m d → j ≡ k → m < n
        within j m d at e =
            let inside = subst (λ (x : PlainCaseEvidence). m < length x.graph.nodes) (same_case j k d c at.0 is e) at.1 in
            omega (arith, inside, past)

        kept : (j m : ℕ) → IsEarlierNode j m (k + 1) 0 → KeepsTag net cs j m
        kept j m earlier = elim (earlier_or_here j m earlier) [
          | inl lt ↦ are.kept j m (inl lt)
          | inr e ↦ elim (cases_lt m n) [
            | inl lt ↦ are.kept j m (inr (e, lt))
            | inr le ↦ not_node j m (λ d at. let lt = within j m d at e in omega (arith, lt, le))
          ]
        ]

        has : (j m : ℕ) (d : PlainCaseEvidence) → IsNodeOf cs j m d → IsEarlierNode j m (k + 1) 0 → is_peer net (place_of d.graph m) ≡ false → IsTrue (list_any (same_tag (tag_at d m)) seen)
        has j m d at earlier r = elim (earlier_or_here j m earlier) [
          | inl lt ↦ are.has j m d at (inl lt) r
          | inr e ↦ are.has j m d at (inr (e, within j m d at e)) r
        ]

    -- ---- a node

    module _ (inside : n < length c.graph.nodes) where
      abbrev tag : Tag
      tag = tag_at c n

      abbrev place : ℕ
      place = place_of c.graph n

      here : (d : PlainCaseEvidence) → IsNodeOf cs k n d → d ≡ c
      here d at = same_case k k d c at.0 is refl

      pub node_keeps : is_right_tag net place tag ≡ true → (is_peer net place ≡ false → list_any (same_tag tag) seen ≡ false) → KeepsTag net cs k n
      node_keeps right fresh = record {
        at_router =
            λ d at. subst (λ (x : PlainCaseEvidence). is_peer net (place_of x.graph n) ≡ false
            → IsTrue (is_tag (tag_at x n)) × ((tag_at x n).asn ≡ asn_of net (place_of x.graph n))) (sym (here d at)) at_router;
        at_peer = λ d at. subst (λ (x : PlainCaseEvidence). IsTrue (is_peer net (place_of x.graph n)) → tag_at x n ≡ no_tag) (sym (here d at)) at_peer;
        new =
            λ j m e d before at order. subst (λ (x : PlainCaseEvidence). is_peer net (place_of e.graph m) ≡ false
            → place_of e.graph m ≡ place_of x.graph n → tag_at e m ≡ tag_at x n → ⊥) (sym (here d at)) (new j m e before order);
      }
        where
          at_router : is_peer net place ≡ false → IsTrue (is_tag tag) × (tag.asn ≡ asn_of net place)
          at_router r = let parts = and_parts (is_tag tag) (tag.asn == asn_of net place) (sym (right_at_router net place tag r) ∙ right) in (parts.0, eqb-true tag.asn (asn_of net place) parts.1)

          at_peer : IsTrue (is_peer net place) → tag ≡ no_tag
          at_peer p = same_tag-is tag no_tag (sym (right_at_peer net place tag p) ∙ right)

          new : (j m : ℕ) (e : PlainCaseEvidence) → IsNodeOf cs j m e → IsEarlierNode j m k n → is_peer net (place_of e.graph m) ≡ false → place_of e.graph m ≡ place → tag_at e m ≡ tag → ⊥
          new j m e before order r p t =
              let there = are.has j m e before order r in
              let off = fresh (ap (is_peer net) (sym p) ∙ r) in
              both_ways _ off (ap (λ u. list_any (same_tag u) seen) (sym t) ∙ there)

      earlier_or_this : (j m : ℕ) → IsEarlierNode j m k (n + 1) → IsEarlierNode j m k n ⊎ ((j ≡ k) × (m ≡ n))
      earlier_or_this j m earlier = elim earlier [
        | inl lt ↦ inl (inl lt)
        | inr e ↦ elim (cases_lt m n) [ inl lt ↦ inl (inr (e.0, lt)) | inr le ↦ inr (e.0, let up = e.1 in omega (arith, up, le)) ]
      ]

      later : (j m : ℕ) → IsEarlierNode j m k n → IsEarlierNode j m k (n + 1)
      later j m earlier = elim earlier [ inl lt ↦ inl lt | inr e ↦ inr (e.0, let up = e.1 in omega (arith, up)) ]

      kept_next : KeepsTag net cs k n → (j m : ℕ) → IsEarlierNode j m k (n + 1) → KeepsTag net cs j m
      kept_next keeps j m earlier = elim (earlier_or_this j m earlier) [
        | inl before ↦ are.kept j m before
        | inr e ↦ subst (λ i. KeepsTag net cs i m) (sym e.0) (subst (KeepsTag net cs k) (sym e.1) keeps)
      ]

      this : (j m : ℕ) (d : PlainCaseEvidence) → IsNodeOf cs j m d → (j ≡ k) × (m ≡ n) → d ≡ c
      this j m d at e = same_case j k d c at.0 is e.0

      pub next_at_peer : KeepsTag net cs k n → is_peer net place ≡ true → AreSeen net cs k (n + 1) seen
      next_at_peer keeps peer = record { kept = kept_next keeps; has = has; from = from_before k (n + 1) later }
        where
          has : (j m : ℕ) (d : PlainCaseEvidence) → IsNodeOf cs j m d → IsEarlierNode j m k (n + 1) → is_peer net (place_of d.graph m) ≡ false → IsTrue (list_any (same_tag (tag_at d m)) seen)
          has j m d at earlier r = elim (earlier_or_this j m earlier) [
            | inl before ↦ are.has j m d at before r
            | inr e ↦
                let same : is_peer net (place_of d.graph m) ≡ is_peer net place = ap (λ (x : PlainCaseEvidence). is_peer net (place_of x.graph m))
                (this j m d at e) ∙ ap (λ i. is_peer net (place_of c.graph i)) e.1 in
                absurd (both_ways _ r (same ∙ peer))
          ]

      pub next_at_router : KeepsTag net cs k n → is_peer net place ≡ false → AreSeen net cs k (n + 1) (seen ++ tag ∷ [])
      next_at_router keeps router = record { kept = kept_next keeps; has = has; from = from }
        where
          has : (j m : ℕ) (d : PlainCaseEvidence) → IsNodeOf cs j m d → IsEarlierNode j m k (n + 1) → is_peer net (place_of d.graph m) ≡ false
              → IsTrue (list_any (same_tag (tag_at d m)) (seen ++ tag ∷ []))
          has j m d at earlier r = elim (earlier_or_this j m earlier) [
            | inl before ↦
                let member = list_any_member (same_tag (tag_at d m)) seen (are.has j m d at before r) in
                list_any-from_IsIn (same_tag (tag_at d m)) (seen ++ tag ∷ []) member.0 (IsIn-append_left seen (tag ∷ []) member.0 member.1) member.2
            | inr e ↦
                let same : tag_at d m ≡ tag = ap (λ (x : PlainCaseEvidence). tag_at x m) (this j m d at e) ∙ ap (tag_at c) e.1 in
                list_any-from_IsIn (same_tag (tag_at d m)) (seen ++ tag ∷ []) tag (IsIn-push seen tag) (is-same_tag (tag_at d m) tag same)
          ]

          from : (t : Tag) → IsTrue (list_any (same_tag t) (seen ++ tag ∷ []))
              → (j m : ℕ) × (d : PlainCaseEvidence) × IsNodeOf cs j m d × IsEarlierNode j m k (n + 1) × (is_peer net (place_of d.graph m) ≡ false) × (tag_at d m ≡ t)
          from t there =
              let member = list_any_member (same_tag t) (seen ++ tag ∷ []) there in
              elim (IsIn-push_cases seen tag member.0 member.1) [
                | inl old ↦ from_before k (n + 1) later t (list_any-from_IsIn (same_tag t) seen member.0 old member.2)
                | inr e ↦ (k, n, c, (is, inside), inr (refl, omega arith), router, e ∙ sym (same_tag-is t member.0 member.2))
              ]

      pub node_next : (is_right_tag net place tag && (is_peer net place || not (list_any (same_tag tag) seen))) ≡ true → (more : List Tag)
          → (IsTrue (is_peer net place) → more ≡ seen) → (IsTrue (not (is_peer net place)) → more ≡ seen ++ tag ∷ []) → AreSeen net cs k (n + 1) more
      node_next kept more at_peer at_router =
          let parts = and_parts (is_right_tag net place tag) (is_peer net place || not (list_any (same_tag tag) seen)) kept in
          elim (cases_Bool (is_peer net place)) [
            | inl peer ↦ subst (AreSeen net cs k (n + 1)) (sym (at_peer peer)) (next_at_peer (node_keeps parts.0 (λ router. absurd (both_ways _ router peer))) peer)
            | inr router ↦
                let fresh : list_any (same_tag tag) seen ≡ false = not-true _ (rw router at parts.1) in
                subst (AreSeen net cs k (n + 1)) (sym (at_router (ap not router))) (next_at_router (node_keeps parts.0 (λ _. fresh)) router)
          ]

      -- a node whose tag isn't right, or was seen, breaks the rule
      pub node_fails : IsNet net → (is_right_tag net place tag && (is_peer net place || not (list_any (same_tag tag) seen))) ≡ false → KeepsTag net cs k n → ⊥
      node_fails rules off keeps = elim (cases_Bool (is_peer net place)) [
        | inl peer ↦
            let right : is_right_tag net place tag ≡ true = right_at_peer net place tag peer ∙ is-same_tag tag no_tag (keeps.at_peer c (is, inside) peer) in
            false≢true (sym off ∙ and_from (is_right_tag net place tag) (is_peer net place || not (list_any (same_tag tag) seen)) right (rw peer refl))
        | inr router ↦
            let has = keeps.at_router c (is, inside) router in
            let right : is_right_tag net place tag ≡ true = right_at_router net place tag router
            ∙ and_from (is_tag tag) (tag.asn == asn_of net place) has.0 (eq-eqb tag.asn (asn_of net place) has.1) in
            elim (cases_Bool (list_any (same_tag tag) seen)) [
              | inl there ↦ seen_before rules router has there keeps
              | inr fresh ↦ false≢true (sym off ∙ and_from (is_right_tag net place tag) (is_peer net place || not (list_any (same_tag tag) seen)) right (rw (router, fresh) refl))
            ]
      ]
        where
          known : is_tag tag ≡ true → tag.asn ≡ asn_of net place → is_location net place ≡ true
          known fits asn = elim (cases_Bool (is_location net place)) [
            | inl t ↦ t
            | inr f ↦
                absurd (omega (arith, (tag-range tag fits).0, asn, no_asn net place f))
          ]

          seen_before : IsNet net → is_peer net place ≡ false → IsTrue (is_tag tag) × (tag.asn ≡ asn_of net place) → list_any (same_tag tag) seen ≡ true → KeepsTag net cs k n → ⊥
          seen_before rules router has there keeps =
              let f = are.from tag there in
              let other = (are.kept f.0 f.1 f.4).at_router f.2 f.3 f.5 in
              let asn : asn_of net (place_of f.2.graph f.1) ≡ asn_of net place = sym other.1 ∙ ap (λ (t : Tag). t.asn) f.6 ∙ has.1 in
              let one : place_of f.2.graph f.1 ≡ place = asn_tells net place (place_of f.2.graph f.1) rules (known has.0 has.1) asn in
              keeps.new f.0 f.1 f.2 c f.3 (is, inside) f.4 f.5 one f.6

  pub first_at : (k n : ℕ) (seen : List Tag) → AreSeen net cs k n seen → (KeepsTag net cs k n → ⊥) → IsFirstAt (λ i p _. KeepsTag net cs i p) k n 0
  first_at k n seen are fails = record { fails = fails; before = λ i p q below. are.kept i p (earlier_of i p q below) }
    where
      earlier_of : (i p q : ℕ) → IsBelow (at_place i p q) (at_place k n 0) → IsEarlierNode i p k n
      earlier_of i p q below = elim (cases_lt i k) [
        | inl lt ↦ inl lt
        | inr le ↦
            let e : i ≡ k = omega (arith, below.0, le) in
            let rest = below.1 e in
            elim (cases_lt p n) [
              | inl lt ↦ inr (e, lt)
              | inr ge ↦ let same : p ≡ n = omega (arith, rest.0, ge) in let none = rest.1 same in absurd (omega (arith, none))
            ]
      ]

-- the number of a case is its place and one more
pub case_of_place : (cs : List PlainCaseEvidence) (i : ℕ) (c : PlainCaseEvidence) → slice_get cs i ≡ Some c → case_at cs (i + 1) ≡ Some c
case_of_place cs i c at = let next : i + 1 ≡ suc i = omega arith in rw next at
