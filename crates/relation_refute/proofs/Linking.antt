-- The lines of a chain, one after another.
use Rattle.std.proofs.Common.{◌≡◌, ℕ, ◌<◌, Bool, List, [], ◌∷◌, ◌++◌, Option, None, Some, inl, inr, ◌⊎◌, refl, sym, ◌∙◌, subst}
use Rattle.std.specs.Option.{IfNone, IfSome, option_map_or}
use Rattle.std.proofs.lemmas.Option.{none-some}
use Rattle.bit_rows.specs.Tables.{has_at}
use Rattle.graph_base.specs.Graphs.{PlainGraph, IsGraph}
use Rattle.graph_base.specs.Refuting.{HasSingleSteps}
use Rattle.list_law.specs.Members.{IsIn}
use Rattle.list_law.proofs.Members.{IsIn-append_left, IsIn-push, IsIn-push_cases}
use Rattle.net_base.specs.declared.loc.LocSet.{LocSet}
use Rattle.relation_law.specs.Choosing.{Goes, Rests}
use Rattle.relation_law.proofs.Resting.{rests_one}
use Rattle.relation_law.specs.Relations.{Pair}
use Rattle.relation_law.specs.Views.{View, view_of}
use Rattle.relation_refute.specs.declared.chains.Line.{Line}
use Rattle.relation_refute.specs.declared.falls.Fallen.{Fallen}
use Rattle.relation_refute.specs.declared.faults.Fault.{Fault}
use Rattle.relation_refute.specs.Cells.{IsFallen, round_in}
use Rattle.relation_refute.specs.Faults.{RestsOn}
use Rattle.relation_refute.specs.Lines.{IsLineOf, Led}
use Rattle.relation_refute.proofs.Chaining.{earlier_round, led_here, led_more, led_on}

-- the lines so far of the chain from m above n, which goes on with the next pair
pub record IsLinked (g : PlainGraph) (claimed : LocSet) (f : Fallen) (m n : ℕ) (old now : List Line) (next : Option (ℕ × ℕ)) : Type 0 where
  pub kept : (l : Line) → IsIn old l → IsIn now l
  pub each : (l : Line) → IsIn now l → IsIn old l ⊎ IsLineOf g claimed f l × Led (view_of g claimed) (has_at f.onwards) m n l.better l.worse
  pub onward : (x : ℕ × ℕ) → next ≡ Some x → Pair (view_of g claimed) x.0 x.1 × (0 < round_in f.cells x.0 x.1) × Led (view_of g claimed) (has_at f.onwards) m n x.0 x.1
  pub all : (a b : ℕ) → Led (view_of g claimed) (has_at f.onwards) m n a b
      → ((l : Line) × IsIn now l × (l.better ≡ a) × (l.worse ≡ b)) ⊎ ((x : ℕ × ℕ) × (next ≡ Some x) × Led (view_of g claimed) (has_at f.onwards) x.0 x.1 a b)

module _ (g : PlainGraph) (claimed : LocSet) (ok : IsGraph g) (single : HasSingleSteps g) (f : Fallen) (are : IsFallen g claimed f) (m n : ℕ) (old : List Line) where
  abbrev V : View
  V = view_of g claimed

  abbrev reach : ℕ → ℕ → Bool
  reach = has_at f.onwards

  pub linked_first : Pair V m n → 0 < round_in f.cells m n → IsLinked g claimed f m n old old (Some (m, n))
  linked_first p over = record {
    kept = λ l is. is;
    each = λ l is. inl is;
    onward =
        λ x e. (let same : (m, n) ≡ x = cc in
        subst (λ (y : ℕ × ℕ). Pair V y.0 y.1 × (0 < round_in f.cells y.0 y.1) × Led V reach m n y.0 y.1) same
        (p, over, led_here g claimed ok single f are m n));
    all = λ a b led. inr ((m, n), refl, led);
  }

  module _ (now new : List Line) (c d : ℕ) (linked : IsLinked g claimed f m n old now (Some (c, d))) (l : Line) (pushed : new ≡ now ++ l ∷ [])
      (is : IsLineOf g claimed f l) (better : l.better ≡ c) (worse : l.worse ≡ d)
      (fault : Fault) (goes : Goes V reach c d (round_in f.cells c d) fault.why) (rests : RestsOn V c d fault) where
    here : Led V reach m n c d
    here = (linked.onward (c, d) refl).2

    rests_some : (x : ℕ × ℕ) → fault.rests ≡ Some x → Rests V c d fault.why x.0 x.1
    rests_some x e = subst (λ (o : Option (ℕ × ℕ)). IfSome o (λ x. Rests V c d fault.why x.0 x.1)) e rests.some

    goes_on : (a b : ℕ) → Led V reach c d a b → ((k : Line) × IsIn new k × (k.better ≡ a) × (k.worse ≡ b)) ⊎ ((x : ℕ × ℕ) × (fault.rests ≡ Some x) × Led V reach x.0 x.1 a b)
    goes_on a b led = elim (led_on g claimed ok single f are c d (round_in f.cells c d) a b fault.why goes led) [
      | inl e ↦ inl (l, subst (λ (ks : List Line). IsIn ks l) (sym pushed) (IsIn-push now l), better ∙ e.0, worse ∙ e.1)
      | inr x ↦ by fault.rests refl x.0 x.1 x.2 x.3
    ]
      where
        by : (o : Option (ℕ × ℕ)) → fault.rests ≡ o → (x y : ℕ) → Rests V c d fault.why x y → Led V reach x y a b
            → ((k : Line) × IsIn new k × (k.better ≡ a) × (k.worse ≡ b)) ⊎ ((x : ℕ × ℕ) × (fault.rests ≡ Some x) × Led V reach x.0 x.1 a b)
        by None e x y r more = absurd (subst (λ (o : Option (ℕ × ℕ)). IfNone o ((a b : ℕ) → Rests V c d fault.why a b → ⊥)) e rests.none x y r)
        by (Some z) e x y r more =
            let same = rests_one g claimed ok single c d x y z.0 z.1 fault.why r (rests_some z e) in
            inr (z, e, subst (λ u. Led V reach u z.1 a b) same.0 (subst (λ w. Led V reach x w a b) same.1 more))

    pub linked_more : IsLinked g claimed f m n old new fault.rests
    linked_more = record {
      kept = λ k was. subst (λ (ks : List Line). IsIn ks k) (sym pushed) (IsIn-append_left now (l ∷ []) k (linked.kept k was));
      each = λ k in_new. elim (IsIn-push_cases now l k (subst (λ (ks : List Line). IsIn ks k) pushed in_new)) [
        | inl t ↦ linked.each k t
        | inr same ↦
            inr (subst (λ (z : Line). IsLineOf g claimed f z × Led V reach m n z.better z.worse) same
            (is, subst (λ u. Led V reach m n u l.worse) (sym better) (subst (Led V reach m n c) (sym worse) here)))
      ];
      onward = λ x e. (
          let r = rests_some x e in
          let low = earlier_round g claimed ok single f are c d (round_in f.cells c d) x.0 x.1 fault.why goes refl r in
          (low.0, low.1, led_more g claimed ok single f are m n c d x.0 x.1 (round_in f.cells c d) fault.why here goes r));
      all = λ a b led. elim (linked.all a b led) [
        | inl t ↦ inl (t.0, subst (λ (ks : List Line). IsIn ks t.0) (sym pushed) (IsIn-append_left now (l ∷ []) t.0 t.1), t.2, t.3)
        | inr x ↦ (
            let same : (c, d) ≡ x.0 = cc in
            goes_on a b (subst (λ (y : ℕ × ℕ). Led V reach y.0 y.1 a b) (sym same) x.2))
      ];
    }

-- the round falls from one pair to the next
pub falls_to : (g : PlainGraph) (claimed : LocSet) (ok : IsGraph g) (single : HasSingleSteps g) (f : Fallen) (are : IsFallen g claimed f) (c d : ℕ)
    (fault : Fault) → Goes (view_of g claimed) (has_at f.onwards) c d (round_in f.cells c d) fault.why
    → RestsOn (view_of g claimed) c d fault → (x : ℕ × ℕ) → fault.rests ≡ Some x → round_in f.cells x.0 x.1 < round_in f.cells c d
falls_to g claimed ok single f are c d fault goes rests x e =
    (earlier_round g claimed ok single f are c d (round_in f.cells c d) x.0 x.1 fault.why goes refl
    (subst (λ (o : Option (ℕ × ℕ)). IfSome o (λ x. Rests (view_of g claimed) c d fault.why x.0 x.1)) e rests.some)).2

pub chain_falls : (round : ℕ → ℕ → ℕ) (o : Option (ℕ × ℕ)) (r : ℕ) → 0 < r → ((x : ℕ × ℕ) → o ≡ Some x → round x.0 x.1 < r) → option_map_or (λ (x : ℕ × ℕ). round x.0 x.1) o 0 < r
chain_falls round None r over falls = over
chain_falls round (Some x) r over falls = falls x refl

-- where the chain ends, each pair to which it leads has a line
pub linked_all : (g : PlainGraph) (claimed : LocSet) (f : Fallen) (m n : ℕ) (old now : List Line) → IsLinked g claimed f m n old now None → (a b : ℕ)
    → Led (view_of g claimed) (has_at f.onwards) m n a b → (l : Line) × IsIn now l × (l.better ≡ a) × (l.worse ≡ b)
linked_all g claimed f m n old now linked a b led = elim (linked.all a b led) [
  | inl t ↦ t
  | inr x ↦ absurd (none-some x.0 x.1)
]
