-- The pair and the lines make the refutation.
use Rattle.std.proofs.Common.{◌≡◌, ◌↔◌, ℕ, suc, ◌<◌, ◌≤◌, Bool, true, ◌&&◌, ltb, leb, List, [], Option, Some, length, inl, inr, ◌⊎◌, arith, sym, ap, ◌∙◌, subst}
use Rattle.std.specs.Option.{IfSome}
use Rattle.std.specs.Prelude.{slice_get}
use Rattle.std.specs.List.Sorted.{IsStrictlySortedBy}
use Rattle.std.proofs.lemmas.Bool.{and_from, and_parts, eq-eqb, eqb-true, le-leb}
use Rattle.bit_rows.specs.Tables.{has_at}
use Rattle.graph_base.specs.declared.refutation.Removed.{Removed}
use Rattle.graph_base.specs.Graphs.{PlainGraph, IsGraph}
use Rattle.graph_base.specs.Least.{least_below}
use Rattle.graph_base.specs.Refuting.{HasSingleSteps}
use Rattle.graph_base.specs.Runs.{place_of}
use Rattle.graph_base.proofs.Least.{least_is_least, least_passes}
use Rattle.list_law.specs.Members.{IsIn}
use Rattle.list_law.proofs.Items.{slice_get_inside}
use Rattle.net_base.specs.declared.loc.LocSet.{LocSet}
use Rattle.std.proofs.lemmas.Option.{same_Some, slice_get_within}
use Rattle.relation_law.specs.Choosing.{Goes, IsEarlier, IsNeeded, IsOpen, IsRefutation, IsRefutedPair, key_of}
use Rattle.relation_law.proofs.Chains.{gone-later}
use Rattle.relation_law.specs.Relations.{Pair}
use Rattle.relation_law.specs.Rounds.{gone_after, same_place}
use Rattle.relation_law.specs.Views.{View, view_of}
use Rattle.relation_refute.specs.declared.chains.Line.{Line}
use Rattle.relation_refute.specs.declared.falls.Fallen.{Fallen}
use Rattle.relation_refute.specs.Cells.{IsFallen, are_parted, round_in}
use Rattle.relation_refute.specs.Lines.{AreLinesOf, IsLineOf, Led, line_order}
use Rattle.state_simulation.specs.Looked.{shown}
use Rattle.relation_refute.proofs.Chaining.{exact}
use Rattle.relation_refute.proofs.Lining.{line_earlier, lines_ascend}

module _ (g : PlainGraph) (claimed : LocSet) (f : Fallen) (are : IsFallen g claimed f) where
  abbrev V : View
  V = view_of g claimed

  abbrev reach : ℕ → ℕ → Bool
  reach = has_at f.onwards

  gone_last : (m n : ℕ) → Pair V m n → ltb 0 (round_in f.cells m n) ≡ true → gone_after V reach f.last m n ≡ true
  gone_last m n p over = are.tells.gone m n f.last p (omega arith) ∙ and_from _ _ over (le-leb (round_in f.cells m n) f.last (are.tells.most m n p))

  over_gone : (m n : ℕ) → Pair V m n → gone_after V reach f.last m n ≡ true → ltb 0 (round_in f.cells m n) ≡ true
  over_gone m n p gone = (and_parts (ltb 0 (round_in f.cells m n)) (leb (round_in f.cells m n) f.last) (sym (are.tells.gone m n f.last p (omega arith)) ∙ gone)).0

  back : (m n : ℕ) → Pair V m n → Pair V n m
  back m n p = record { left = p.right; right = p.left; place = sym p.place }

  as_shown : (m n : ℕ) → Pair V m n → Pair (shown g) m n
  as_shown m n p = record { left = p.left; right = p.right; place = p.place }

  pub someone_parted : (m n : ℕ) × Pair (shown g) m n × (are_parted f.cells m n ≡ true)
  someone_parted = (let x = are.parted in (x.0, x.1, as_shown x.0 x.1 x.2, and_from _ _ (over_gone x.0 x.1 x.2 x.3) (over_gone x.1 x.0 (back x.0 x.1 x.2) x.4)))

module _ (g : PlainGraph) (claimed : LocSet) (ok : IsGraph g) (single : HasSingleSteps g) (f : Fallen) (are : IsFallen g claimed f) where
  abbrev W : View
  W = view_of g claimed

  abbrev onwards : ℕ → ℕ → Bool
  onwards = has_at f.onwards

  -- the first node of those that are parted, and the least one from which it is parted
  module _ (first second : ℕ) (inside : first < length g.nodes)
      (least : (m n : ℕ) → Pair (shown g) m n → are_parted f.cells m n ≡ true → (place_of g first < place_of g n) ⊎ (place_of g first ≡ place_of g n) × (first ≤ n))
      (found : least_below (length g.nodes) (λ m. same_place (shown g) m first && are_parted f.cells m first) ≡ Some second) where
    second_low : (second < length g.nodes) × ((same_place (shown g) second first && are_parted f.cells second first) ≡ true)
    second_low = least_passes (length g.nodes) (λ m. same_place (shown g) m first && are_parted f.cells m first) second found

    second_place : place_of g second ≡ place_of g first
    second_place = eqb-true _ _ (and_parts (same_place (shown g) second first) (are_parted f.cells second first) second_low.1).0

    second_parted : (ltb 0 (round_in f.cells second first) ≡ true) × (ltb 0 (round_in f.cells first second) ≡ true)
    second_parted =
        and_parts (ltb 0 (round_in f.cells second first)) (ltb 0 (round_in f.cells first second))
        (and_parts (same_place (shown g) second first) (are_parted f.cells second first) second_low.1).1

    pub the_pair : Pair W first second
    the_pair = record { left = inside; right = second_low.0; place = sym second_place }

    pub both_went : (ltb 0 (round_in f.cells first second) ≡ true) × (ltb 0 (round_in f.cells second first) ≡ true)
    both_went = (second_parted.1, second_parted.0)

    in_order : first ≤ second
    in_order = elim (least first second (as_shown g claimed f are first second the_pair) (and_from _ _ second_parted.1 second_parted.0)) [
      | inl t ↦ absurd (let place = second_place in omega (arith, t, place))
      | inr t ↦ t.1
    ]

    none_before : (a b other : ℕ) → IsOpen W onwards a b other → IsEarlier (other, place_of g a, a, b) (f.last, place_of g first, first, second) → ⊥
    none_before a b other opened (inl less) =
        let le : other ≤ are.before = omega (arith, less, are.next) in
        are.bound a b opened.pair (gone-later g claimed ok onwards (exact g claimed ok single f are) other are.before a b le opened.later.0)
        (gone-later g claimed ok onwards (exact g claimed ok single f are) other are.before b a le opened.later.1)
    none_before a b other opened (inr (same, rest)) =
        let one = over_gone g claimed f are a b opened.pair (ap (λ z. gone_after W onwards z a b) (sym same) ∙ opened.later.0) in
        let two = over_gone g claimed f are b a (back g claimed f are a b opened.pair) (ap (λ z. gone_after W onwards z b a) (sym same) ∙ opened.later.1) in
        let back_pair = back g claimed f are a b opened.pair in
        let low = least b a (as_shown g claimed f are b a back_pair) (and_from _ _ two one) in
        by rest low one two
      where
        by : (place_of g a < place_of g first) ⊎ (place_of g a ≡ place_of g first) × ((a < first) ⊎ (a ≡ first) × (b < second))
            → (place_of g first < place_of g a) ⊎ (place_of g first ≡ place_of g a) × (first ≤ a) →
            ltb 0 (round_in f.cells a b) ≡ true → ltb 0 (round_in f.cells b a) ≡ true → ⊥
        by (inl less) (inl more) one two = absurd (omega (arith, less, more))
        by (inl less) (inr more) one two = absurd (omega (arith, less, more.0))
        by (inr (here, x)) (inl more) one two = absurd (omega (arith, here, more))
        by (inr (here, inl less)) (inr more) one two = absurd (omega (arith, less, more.1))
        by (inr (here, inr (is, less))) (inr more) one two =
            let lb : b < length g.nodes = opened.pair.right in
            let place : place_of g b ≡ place_of g first = sym opened.pair.place ∙ here in
            let parted : are_parted f.cells b first ≡ true = and_from _ _ (ap (λ z. ltb 0 (round_in f.cells b z)) (sym is) ∙ two) (ap (λ z. ltb 0 (round_in f.cells z b)) (sym is) ∙ one) in
            let le = least_is_least (length g.nodes) (λ m. same_place (shown g) m first && are_parted f.cells m first) second b found lb (and_from _ _ (eq-eqb _ _ place) parted) in
            absurd (omega (arith, less, le))

    pub refuted_pair : IsRefutedPair W onwards first second f.last
    refuted_pair = record {
      is_open = record {
        order = in_order;
        pair = the_pair;
        before = are.before;
        next = are.next;
        later = (gone_last g claimed f are first second the_pair second_parted.1, gone_last g claimed f are second first (back g claimed f are first second the_pair) second_parted.0);
        earlier = are.bound first second the_pair;
      };
      least = none_before;
    }

    module _ (lines : List Line) (removed : List Removed) (sorted : IsStrictlySortedBy line_order lines) (of : AreLinesOf W onwards lines removed)
        (each : (l : Line) → IsIn lines l → IsLineOf g claimed f l × (Led W onwards first second l.better l.worse ⊎ Led W onwards second first l.better l.worse))
        (all : (a b : ℕ) → Led W onwards first second a b ⊎ Led W onwards second first a b → (l : Line) × IsIn lines l × (l.better ≡ a) × (l.worse ≡ b)) where
      -- the line at the place of a removed pair
      line_of : (i : ℕ) (r : Removed) → slice_get removed i ≡ Some r → (l : Line) × (slice_get lines i ≡ Some l)
      line_of i r at = (let within = slice_get_within removed i r at in slice_get_inside lines i (omega (arith, within, of.len)))

      needed : (a b : ℕ) → Led W onwards first second a b ⊎ Led W onwards second first a b → IsNeeded W onwards first second a b
      needed a b (inl (via, chain)) = (via, inl chain)
      needed a b (inr (via, chain)) = (via, inr chain)

      led : (a b : ℕ) → IsNeeded W onwards first second a b → Led W onwards first second a b ⊎ Led W onwards second first a b
      led a b (via, inl chain) = inl (via, chain)
      led a b (via, inr chain) = inr (via, chain)

      key_is : (i : ℕ) (l : Line) (r : Removed) → slice_get lines i ≡ Some l → slice_get removed i ≡ Some r → key_of W r ≡ (l.round, l.router, l.better, l.worse)
      key_is i l r at here =
          let told = of.each i l at in
          let both : Some told.0 ≡ Some r = sym told.1 ∙ here in
          let same : told.0 ≡ r = cc in
          let router = (each l (i, at)).0.router in
          let place : place_of g told.0.worse ≡ l.router = ap (place_of g) told.3 ∙ sym router in
          subst (λ (x : Removed). key_of W x ≡ (l.round, l.router, l.better, l.worse)) same (λ j. (told.4 j, place j, told.2 j, told.3 j))

      pub assembled : IsRefutation W onwards first second removed
      assembled = record {
        round = f.last;
        pair = refuted_pair;
        each = λ r is.
            let l = line_of is.0 r is.1 in
            let told = of.each is.0 l.0 l.1 in
            let both : Some told.0 ≡ Some r = sym told.1 ∙ is.1 in
            let same : told.0 ≡ r = cc in
            let mine = (each l.0 (is.0, l.1)).1 in
            let need : IsNeeded W onwards first second told.0.better told.0.worse = subst (λ x. IsNeeded W onwards first second x told.0.worse)
            (sym told.2) (subst (IsNeeded W onwards first second l.0.better) (sym told.3) (needed l.0.better l.0.worse mine)) in
            subst (λ (x : Removed). IsNeeded W onwards first second x.better x.worse × Goes W onwards x.better x.worse x.round x.why) same (need, told.5);
        all = λ a b need.
            let l = all a b (led a b need) in
            let told = of.each l.1.0 l.0 l.1.1 in
            (told.0, (l.1.0, told.1), told.2 ∙ l.2, told.3 ∙ l.3);
        order = λ i k l at next.
            let one = line_of i k at in
            let two = line_of (suc i) l next in
            let less = line_earlier one.0 two.0 (lines_ascend lines sorted i one.0 two.0 one.1 two.1) in
            subst (λ x. IsEarlier x (key_of W l)) (sym (key_is i one.0 k one.1 at))
            (subst (IsEarlier (one.0.round, one.0.router, one.0.better, one.0.worse)) (sym (key_is (suc i) two.0 l two.1 next)) less);
      }

-- the first node is the one that was found
pub first_found : (g : PlainGraph) (p : ℕ → ℕ → Bool) (first : ℕ) (o : Option ℕ) → o ≡ Some first
    → ((m n : ℕ) → Pair (shown g) m n → p m n ≡ true
    → (f : ℕ) × (o ≡ Some f) × ((place_of g f < place_of g n) ⊎ (place_of g f ≡ place_of g n) × (f ≤ n))) →
    (m n : ℕ) → Pair (shown g) m n → p m n ≡ true → (place_of g first < place_of g n) ⊎ (place_of g first ≡ place_of g n) × (first ≤ n)
first_found g p first o is h m n pair passes =
    let x = h m n pair passes in
    let same : x.0 ≡ first = same_Some x.0 first (sym x.1 ∙ is) in
    subst (λ f. (place_of g f < place_of g n) ⊎ (place_of g f ≡ place_of g n) × (f ≤ n)) same x.2

-- ---- the lines of both chains

module _ (g : PlainGraph) (claimed : LocSet) (f : Fallen) (first second : ℕ) (start one two lines : List Line) (empty : start ≡ []) where
  abbrev U : View
  U = view_of g claimed

  abbrev To : ℕ → ℕ → ℕ → ℕ → Type 0
  To m n a b = Led U (has_at f.onwards) m n a b

  module _ (same : (l : Line) → IsIn lines l ↔ IsIn two l) (kept : (l : Line) → IsIn one l → IsIn two l) where
    pub gathered_each : ((l : Line) → IsIn one l → IsIn start l ⊎ IsLineOf g claimed f l × To first second l.better l.worse)
        → ((l : Line) → IsIn two l → IsIn one l ⊎ IsLineOf g claimed f l × To second first l.better l.worse) →
        (l : Line) → IsIn lines l → IsLineOf g claimed f l × (To first second l.better l.worse ⊎ To second first l.better l.worse)
    gathered_each each_one each_two l is = elim (each_two l ((same l).0 is)) [
      | inl before ↦ elim (each_one l before) [
        | inl none ↦ absurd (no_item l (subst (λ (ls : List Line). IsIn ls l) empty none))
        | inr x ↦ (x.0, inl x.1)
      ]
      | inr x ↦ (x.0, inr x.1)
    ]
      where
        no_item : (l : Line) → IsIn [] l → ⊥
        no_item l (i, at) = absurd (cc)

    pub gathered_all : ((a b : ℕ) → To first second a b → (l : Line) × IsIn one l × (l.better ≡ a) × (l.worse ≡ b))
        → ((a b : ℕ) → To second first a b → (l : Line) × IsIn two l × (l.better ≡ a) × (l.worse ≡ b)) →
        (a b : ℕ) → To first second a b ⊎ To second first a b → (l : Line) × IsIn lines l × (l.better ≡ a) × (l.worse ≡ b)
    gathered_all all_one all_two a b (inl led) = (let x = all_one a b led in (x.0, (same x.0).1 (kept x.0 x.1), x.2, x.3))
    gathered_all all_one all_two a b (inr led) = (let x = all_two a b led in (x.0, (same x.0).1 x.1, x.2, x.3))

-- ---- the pair that was found

module _ (g : PlainGraph) (claimed : LocSet) (ok : IsGraph g) (single : HasSingleSteps g) (f : Fallen) (are : IsFallen g claimed f) (first second : ℕ)
    (o q : Option ℕ) (o_is : o ≡ Some first) (q_is : q ≡ Some second)
    (some : IfSome o (λ n. (n < length g.nodes) × ((m : ℕ) × Pair (shown g) m n × (are_parted f.cells m n ≡ true))))
    (firsts : (m n : ℕ) → Pair (shown g) m n → are_parted f.cells m n ≡ true → (k : ℕ) × (o ≡ Some k) × ((place_of g k < place_of g n) ⊎ (place_of g k ≡ place_of g n) × (k ≤ n)))
    (least : q ≡ least_below (length g.nodes) (λ m. same_place (shown g) m first && are_parted f.cells m first)) where
  inside : first < length g.nodes
  inside = (subst (λ (o : Option ℕ). IfSome o (λ n. (n < length g.nodes) × ((m : ℕ) × Pair (shown g) m n × (are_parted f.cells m n ≡ true)))) o_is some).0

  pub pair_found : Pair (view_of g claimed) first second
  pair_found = the_pair g claimed ok single f are first second inside (first_found g (are_parted f.cells) first o o_is firsts) (sym least ∙ q_is)

  pub went_found : (ltb 0 (round_in f.cells first second) ≡ true) × (ltb 0 (round_in f.cells second first) ≡ true)
  went_found = both_went g claimed ok single f are first second inside (first_found g (are_parted f.cells) first o o_is firsts) (sym least ∙ q_is)

  pub all_found : (lines : List Line) (removed : List Removed) → IsStrictlySortedBy line_order lines → AreLinesOf (view_of g claimed) (has_at f.onwards) lines removed
      → ((l : Line) → IsIn lines l
      → IsLineOf g claimed f l
      × (Led (view_of g claimed) (has_at f.onwards) first second l.better l.worse
      ⊎ Led (view_of g claimed) (has_at f.onwards) second first l.better l.worse))
      → ((a b : ℕ) → Led (view_of g claimed) (has_at f.onwards) first second a b ⊎ Led (view_of g claimed) (has_at f.onwards) second first a b
      → (l : Line) × IsIn lines l × (l.better ≡ a) × (l.worse ≡ b))
      → IsRefutation (view_of g claimed) (has_at f.onwards) first second removed
  all_found = assembled g claimed ok single f are first second inside (first_found g (are_parted f.cells) first o o_is firsts) (sym least ∙ q_is)
