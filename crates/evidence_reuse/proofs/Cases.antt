-- Reused cases, one by one.
use Rattle.std.proofs.Common.{◌≡◌, ℕ, ◌+◌, List, [], ◌∷◌, ◌++◌, map, length, Some, option_map, refl, sym, ap, ◌∙◌, subst, arith, inl, inr}
use Rattle.std.specs.Prelude.{slice_get}
use Rattle.std.proofs.lemmas.Bool.{cases_lt}
use Rattle.std.proofs.lemmas.List.{length-append, length-map}
use Rattle.std.proofs.lemmas.Option.{same_Some, slice_get-map, slice_get_within}
use Rattle.list_law.proofs.Items.{from_front, same_by_places, same_item, slice_get-there, slice_get_inside}
use Rattle.net_base.specs.declared.numbers.Tag.{Tag}
use Rattle.policy_base.specs.declared.case.Case.{Case}
use Rattle.policy_base.specs.Policies.{PlainPolicy}
use Rattle.evidence_base.specs.Made.{PlainCaseEvidence, patterns_of}
use Rattle.stage_classes.specs.declared.cell.Cell.{Cell}
use Rattle.evidence_renewal.specs.Renewed.{AreRenewedCases, IsRenewedCase, raised}
use Rattle.evidence_renewal.proofs.Cases.{renewed_forth, same_cases}
use Rattle.evidence_reuse.specs.Reused.{AreForEach, AreReused, IsReusedCase, classes_of}
use Rattle.evidence_reuse.specs.Staying.{rise}
use Rattle.evidence_reuse.proofs.Rising.{are_raised-is}

-- A case with the graph of a compiled one, and its numbers, each raised by as much.
pub record IsAlike (c d : PlainCaseEvidence) : Type 0 where
  pub case : d.case ≡ c.case
  pub graph : d.graph ≡ c.graph
  pub by : ℕ
  pub numbers : d.numbers ≡ map (raised by) c.numbers

-- ---- renewed cases

renewed_count : (taken : List Tag) (by : ℕ) (cs fs : List PlainCaseEvidence) → AreRenewedCases taken by cs fs → length fs ≡ length cs
renewed_count taken by cs fs are =
    let case_of : PlainCaseEvidence → Case = λ c. c.case in
    sym (length-map fs case_of) ∙ ap length (same_cases taken by cs fs are) ∙ length-map cs case_of

pub for_each : (taken : List Tag) (by : ℕ) (cs fs : List PlainCaseEvidence) → AreRenewedCases taken by cs fs → AreForEach cs fs
for_each taken by cs fs are = record {
  count = renewed_count taken by cs fs are;
  graphs = λ k c f at there.
      let o = renewed_forth taken by cs fs are k c at in
      let same : o.0 ≡ f = same_item fs k k o.0 f o.1 there refl in
      subst (λ (x : PlainCaseEvidence). x.graph ≡ c.graph) same o.2.graph;
}

-- ---- reused cases

module _ (between : List Cell) (olds cs : List PlainCaseEvidence) where
  alike_by : (k : ℕ) (c f d : PlainCaseEvidence) (taken : List Tag) (by : ℕ) → IsRenewedCase taken by c f → IsReusedCase between olds cs k c f d → IsAlike c d
  alike_by k c f d taken by renews is = elim is.is [
    | inl stays ↦ record {
      case = ap (λ (x : PlainCaseEvidence). x.case) is.made;
      graph = ap (λ (x : PlainCaseEvidence). x.graph) is.made;
      by = rise c.numbers is.source.numbers;
      numbers = ap (λ (x : PlainCaseEvidence). x.numbers) is.made ∙ are_raised-is (rise c.numbers is.source.numbers) c.numbers is.source.numbers stays.may.same.numbers;
    }
    | inr none ↦ record {
      case = ap (λ (x : PlainCaseEvidence). x.case) is.made;
      graph = ap (λ (x : PlainCaseEvidence). x.graph) is.made;
      by = by;
      numbers = ap (λ (x : PlainCaseEvidence). x.numbers) is.made ∙ ap (λ (x : PlainCaseEvidence). x.numbers) none.0 ∙ renews.numbers;
    }
  ]

  module _ (taken : List Tag) (by : ℕ) (fs ds : List PlainCaseEvidence) (renewed : AreRenewedCases taken by cs fs) (are : AreReused between olds cs fs ds) where
    -- each is of a compiled case
    pub alike_at : (k : ℕ) (d : PlainCaseEvidence) → slice_get ds k ≡ Some d → (c : PlainCaseEvidence) × (slice_get cs k ≡ Some c) × IsAlike c d
    alike_at k d at =
        let c = slice_get_inside cs k (omega (arith, slice_get_within ds k d at, are.count)) in
        let f = renewed_forth taken by cs fs renewed k c.0 c.1 in
        (c.0, c.1, alike_by k c.0 f.0 d taken by f.2 (are.each k c.0 f.0 d c.1 f.1 at))

    -- for the same cases
    pub same_list : map (λ (d : PlainCaseEvidence). d.case) ds ≡ map (λ (c : PlainCaseEvidence). c.case) cs
    same_list =
        let case_of : PlainCaseEvidence → Case = λ c. c.case in
        same_by_places (map case_of ds) (map case_of cs) (length-map ds case_of ∙ are.count ∙ sym (length-map cs case_of)) each
      where
        each : (i : ℕ) (x y : Case) → slice_get (map (λ (d : PlainCaseEvidence). d.case) ds) i ≡ Some x → slice_get (map (λ (c : PlainCaseEvidence). c.case) cs) i ≡ Some y → x ≡ y
        each i x y at there =
            let case_of : PlainCaseEvidence → Case = λ c. c.case in
            let long : length (map case_of ds) ≡ length ds = length-map ds case_of in
            let d = slice_get_inside ds i (omega (arith, slice_get_within (map case_of ds) i x at, long)) in
            let c = alike_at i d.0 d.1 in
            let left : d.0.case ≡ x = same_Some d.0.case x (sym (slice_get-map case_of ds i ∙ ap (option_map case_of) d.1) ∙ at) in
            let right : c.0.case ≡ y = same_Some c.0.case y (sym (slice_get-map case_of cs i ∙ ap (option_map case_of) c.1) ∙ there) in
            sym left ∙ c.2.case ∙ right

  -- ---- one more

  -- so many of the compiled cases are reused
  pub record AreReusedUpTo (fs all : List PlainCaseEvidence) (i : ℕ) : Type 0 where
    pub long : length all ≡ i
    pub each : (k : ℕ) (c f d : PlainCaseEvidence) → slice_get cs k ≡ Some c → slice_get fs k ≡ Some f → slice_get all k ≡ Some d → IsReusedCase between olds cs k c f d

  module _ (fs all : List PlainCaseEvidence) (i : ℕ) (are : AreReusedUpTo fs all i) where
    push_each : (c f x : PlainCaseEvidence) → slice_get cs i ≡ Some c → slice_get fs i ≡ Some f → IsReusedCase between olds cs i c f x
        → (k : ℕ) (a b d : PlainCaseEvidence) → slice_get cs k ≡ Some a → slice_get fs k ≡ Some b → slice_get (all ++ x ∷ []) k ≡ Some d → IsReusedCase between olds cs k a b d
    push_each c f x at also is k a b d here there said = elim (cases_lt k i) [
      | inl before ↦ are.each k a b d here there (from_front all (x ∷ []) k d said (omega (arith, before, are.long)))
      | inr after ↦
          let end : length (all ++ x ∷ []) ≡ length all + 1 = length-append all (x ∷ []) in
          let last : k ≡ i = omega (arith, after, slice_get_within (all ++ x ∷ []) k d said, end, are.long) in
          let same : x ≡ d = same_item (all ++ x ∷ []) (length all) k x d (slice_get-there all x []) said (are.long ∙ sym last) in
          let P : PlainCaseEvidence → Type 0 = λ y. IsReusedCase between olds cs k y f x in
          let Q : PlainCaseEvidence → Type 0 = λ y. IsReusedCase between olds cs k a y x in
          let R : PlainCaseEvidence → Type 0 = λ y. IsReusedCase between olds cs k a b y in
          subst R same (subst Q (same_item fs i k f b also there (sym last)) (subst P (same_item cs i k c a at here (sym last)) (subst (λ j. IsReusedCase between olds cs j c f x) (sym last) is)))
    ]

    pub one_more : (next : List PlainCaseEvidence) (c f x : PlainCaseEvidence) → slice_get cs i ≡ Some c → slice_get fs i ≡ Some f → IsReusedCase between olds cs i c f x
        → next ≡ all ++ x ∷ [] → AreReusedUpTo fs next (i + 1)
    one_more next c f x at also is same = record {
      long = ap length same ∙ length-append all (x ∷ []) ∙ ap (λ n. n + 1) are.long;
      each = λ k a b d here there said. push_each c f x at also is k a b d here there (subst (λ xs. slice_get xs k ≡ Some d) same said);
    }

    pub all_reused : i ≡ length cs → AreReused between olds cs fs all
    all_reused end = record { count = are.long ∙ end; each = are.each }

-- the classes of renewed cases are those of the compiled ones
pub same_classes : (policy : PlainPolicy) (cs ds : List PlainCaseEvidence) → map (λ (d : PlainCaseEvidence). d.case) ds ≡ map (λ (c : PlainCaseEvidence). c.case) cs
    → classes_of policy ds ≡ classes_of policy cs
same_classes policy cs ds same = by_cases ds ∙ ap (map (patterns_of policy)) same ∙ sym (by_cases cs)
  where
    by_cases : (xs : List PlainCaseEvidence) → classes_of policy xs ≡ map (patterns_of policy) (map (λ (c : PlainCaseEvidence). c.case) xs)
    by_cases [] = refl
    by_cases (x ∷ xs) = ap (λ ps. patterns_of policy x.case ∷ ps) (by_cases xs)
