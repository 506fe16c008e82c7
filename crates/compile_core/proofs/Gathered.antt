-- The evidence that is gathered case by case.
use Rattle.std.proofs.Common.{◌≡◌, ℕ, zero, suc, ◌+◌, ◌<◌, ◌≤◌, List, [], ◌∷◌, ◌++◌, length, drop, get_or, Some, refl, sym, ap, ◌∙◌, arith, append_assoc, append-nil}
use Rattle.std.specs.Prelude.{slice_get}
use Rattle.std.specs.List.{zip}
use Rattle.std.proofs.lemmas.List.{drop_more, drop_all}
use Rattle.std.proofs.lemmas.Option.{get_or_from_slice_get, slice_get_read, slice_get_within}
use Rattle.std.proofs.lemmas.Slice.Zip.{get_or-zip, length-zip}
use Rattle.net_base.specs.declared.numbers.Tag.{Tag}
use Rattle.policy_base.specs.declared.case.Case.{Case}
use Rattle.graph_base.specs.declared.graph.Prefs.{Prefs}
use Rattle.graph_base.specs.Graphs.{PlainGraph}
use Rattle.evidence_base.specs.Made.{PlainCaseEvidence}
use Rattle.compile_core.specs.Compiling.{evidence_of}

abbrev one : Case → PlainGraph → Prefs → List Tag → PlainCaseEvidence
one c g p t = record { case = c; graph = g; numbers = p.of; tags = t }

evidence-at : (cs : List Case) (gs : List PlainGraph) (ps : List Prefs) (ts : List (List Tag)) (k : ℕ) (c : Case) (g : PlainGraph) (p : Prefs) (t : List Tag)
    → slice_get cs k ≡ Some c → slice_get gs k ≡ Some g → slice_get ps k ≡ Some p → slice_get ts k ≡ Some t → slice_get (evidence_of cs gs ps ts) k ≡ Some (one c g p t)
evidence-at [] gs ps ts k c g p t a b d e = absurd cc
evidence-at (c' ∷ cs) [] ps ts k c g p t a b d e = absurd cc
evidence-at (c' ∷ cs) (g' ∷ gs) [] ts k c g p t a b d e = absurd cc
evidence-at (c' ∷ cs) (g' ∷ gs) (p' ∷ ps) [] k c g p t a b d e = absurd cc
evidence-at (c' ∷ cs) (g' ∷ gs) (p' ∷ ps) (t' ∷ ts) zero c g p t a b d e =
    let is_c : c' ≡ c = cc in
    let is_g : g' ≡ g = cc in
    let is_p : p' ≡ p = cc in
    let is_t : t' ≡ t = cc in
    λ i. Some (one (is_c i) (is_g i) (is_p i) (is_t i))
evidence-at (c' ∷ cs) (g' ∷ gs) (p' ∷ ps) (t' ∷ ts) (suc k) c g p t a b d e = evidence-at cs gs ps ts k c g p t a b d e

evidence-short : (cs : List Case) (gs : List PlainGraph) (ps : List Prefs) (ts : List (List Tag)) → length (evidence_of cs gs ps ts) ≤ length cs
evidence-short [] gs ps ts = omega arith
evidence-short (c ∷ cs) [] ps ts = omega arith
evidence-short (c ∷ cs) (g ∷ gs) [] ts = omega arith
evidence-short (c ∷ cs) (g ∷ gs) (p ∷ ps) [] = omega arith
evidence-short (c ∷ cs) (g ∷ gs) (p ∷ ps) (t ∷ ts) = omega (arith, evidence-short cs gs ps ts)

pair_parts : (g h : PlainGraph) (p q : Prefs) → ◌≡◌ {A = PlainGraph × Prefs} (g, p) (h, q) → (g ≡ h) × (p ≡ q)
pair_parts g h p q same = (ap (λ (x : PlainGraph × Prefs). x.0) same, ap (λ (x : PlainGraph × Prefs). x.1) same)

module _ (cs : List Case) (gs : List PlainGraph) (ps : List Prefs) (ts : List (List Tag)) (same_g : length gs ≡ length cs) (same_p : length ps ≡ length cs) (same_t : length ts ≡ length cs) where
  -- a case's part, which was read at a place
  pub read : (i place : ℕ) (c case : Case) (g : PlainGraph) (p : Prefs) (t tags : List Tag) → i < length (zip gs ps) → (g, p) ≡ get_or (zip gs ps) i (g, p) → place ≡ i
      → c ≡ get_or cs place c → case ≡ c → t ≡ get_or ts place t → tags ≡ t → slice_get (evidence_of cs gs ps ts) i ≡ Some (record { case = case; graph = g; numbers = p.of; tags = tags })
  read i place c case g p t tags within pair at at_c is_c at_t is_t =
      let in_gs : i < length gs = omega (arith, within, length-zip gs ps) in
      let in_ps : i < length ps = omega (arith, in_gs, same_g, same_p) in
      let c_here : slice_get cs i ≡ Some c = slice_get_read cs (length cs) i c refl (omega (arith, in_gs, same_g)) (at_c ∙ ap (λ n. get_or cs n c) at) in
      let t_here : slice_get ts i ≡ Some t = slice_get_read ts (length ts) i t refl (omega (arith, in_gs, same_g, same_t)) (at_t ∙ ap (λ n. get_or ts n t) at) in
      let both = pair_parts g (get_or gs i g) p (get_or ps i p) (pair ∙ get_or-zip gs ps i (g, p) in_gs in_ps) in
      evidence-at cs gs ps ts i case g p tags (c_here ∙ ap (λ (x : Case). Some x) (sym is_c)) (slice_get_read gs (length gs) i g refl in_gs both.0)
      (slice_get_read ps (length ps) i p refl in_ps both.1) (t_here ∙ ap (λ (x : List Tag). Some x) (sym is_t))

  -- one more part
  pub step : (i next : ℕ) (old new : List PlainCaseEvidence) (e : PlainCaseEvidence) → next ≡ i + 1 → new ≡ old ++ e ∷ [] → slice_get (evidence_of cs gs ps ts) i ≡ Some e
      → old ++ drop i (evidence_of cs gs ps ts) ≡ evidence_of cs gs ps ts → new ++ drop next (evidence_of cs gs ps ts) ≡ evidence_of cs gs ps ts
  step i next old new e after is at before =
      let all = evidence_of cs gs ps ts in
      let rest : drop i all ≡ e ∷ drop (i + 1) all = drop_more all i e (slice_get_within all i e at) ∙ ap (λ y. y ∷ drop (i + 1) all) (get_or_from_slice_get all i e e at) in
      ap (λ n. new ++ drop n all) after
      ∙ ap (λ es. es ++ drop (i + 1) all) is
      ∙ append_assoc old (e ∷ []) (drop (i + 1) all)
      ∙ ap (λ es. old ++ es) (sym rest)
      ∙ before

  -- and all of them
  pub end : (i : ℕ) (all : List PlainCaseEvidence) → i ≡ length (zip gs ps) → all ++ drop i (evidence_of cs gs ps ts) ≡ evidence_of cs gs ps ts → all ≡ evidence_of cs gs ps ts
  end i all count before =
      let none : drop i (evidence_of cs gs ps ts) ≡ [] = drop_all i (evidence_of cs gs ps ts) (omega (arith, evidence-short cs gs ps ts, count, length-zip gs ps, same_g, same_p)) in
      sym (ap (λ es. all ++ es) none ∙ append-nil all) ∙ before
