-- Walks of rows, and kinds with their walks, one after the other.
use Rattle.std.proofs.Common.{◌≡◌, ℕ, zero, suc, ◌+◌, ◌<◌, ◌≤◌, List, [], ◌∷◌, ◌++◌, get_or, length, length-append, take, refl, sym, ap, ◌∙◌, subst, subst₂, arith, inl, inr, Some}
use Rattle.std.specs.Prelude.{Option, slice_get}
use Rattle.std.proofs.lemmas.Bool.{cases_lt}
use Rattle.std.proofs.lemmas.Option.{same_Some}
use Rattle.group_law.proofs.Taken.{take_next}
use Rattle.list_law.proofs.Items.{from_front}
use Rattle.list_law.specs.Members.{IsIn}
use Rattle.graph_base.specs.Graphs.{PlainGraph}
use Rattle.graph_base.specs.Walks.{IsEnteredFromBefore, shown_walk}
use Rattle.graph_base.proofs.ShownWalks.{shown_walk_is}
use Rattle.compare_base.specs.declared.rows.Kind.{Kind}
use Rattle.compare_base.specs.declared.rows.Place.{Place}
use Rattle.compare_base.specs.declared.rows.Row.{Row}
use Rattle.pair_rows.specs.declared.values.FirstRow.{FirstRow}
use Rattle.pair_rows.specs.Rows.{from_peer}
use Rattle.pair_changes.specs.Walks.{AreAllShown, AreWalks, IsShown, IsWalkOf}

-- what stands behind the others is the last item
pub only : {C : Type 0} (zs : List C) (z : C) (i : ℕ) (w : C) → slice_get (zs ++ z ∷ []) i ≡ Some w → length zs ≤ i → z ≡ w
only [] z zero w at past = same_Some z w at
only [] z (suc i) w at past = absurd cc
only (y ∷ ys) z zero w at past = absurd (omega (arith, past))
only (y ∷ ys) z (suc i) w at past = only ys z i w at (omega (arith, past))

-- two lists whose items belong together in order, with one more in each
module _ {A B : Type 0} (Fits : A → B → Type 0) where
  abbrev pub Fit : List A → List B → Type 0
  Fit xs ys = (i : ℕ) (x : A) (y : B) → slice_get xs i ≡ Some x → slice_get ys i ≡ Some y → Fits x y

  pub fit_more : (xs : List A) (ys : List B) (x : A) (y : B) → length ys ≡ length xs → Fit xs ys → Fits x y → Fit (xs ++ x ∷ []) (ys ++ y ∷ [])
  fit_more xs ys x y size all last i a b at_a at_b = elim (cases_lt i (length xs)) [
    | inl t ↦ all i a b (from_front xs (x ∷ []) i a at_a t) (from_front ys (y ∷ []) i b at_b (omega (arith, t, size)))
    | inr t ↦ subst₂ (λ (c : A) (d : B). Fits c d) (only xs x i a at_a t) (only ys y i b at_b (omega (arith, t, size))) last
  ]

-- an item that is there is the same whatever stands for one that isn't
pub get_or_within : {A : Type 0} (xs : List A) (i : ℕ) (x y : A) → i < length xs → get_or xs i x ≡ get_or xs i y
get_or_within [] i x y within = absurd (omega (arith, within))
get_or_within (z ∷ zs) zero x y within = refl
get_or_within (z ∷ zs) (suc i) x y within = get_or_within zs i x y (omega (arith, within))

module _ (g : PlainGraph) (firsts : List FirstRow) (peer : Option ℕ) where
  pub walks_none : AreWalks g firsts peer [] []
  walks_none = record { count = refl; each = λ i row walk at. absurd cc }

  pub walks_next : (rows : List Row) (n : ℕ) (row : Row) (walks : List (List ℕ)) (walk : List ℕ) → n < length rows → row ≡ get_or rows n row
      → AreWalks g firsts peer (take n rows) walks → IsWalkOf g firsts peer row walk → AreWalks g firsts peer (take (n + 1) rows) (walks ++ walk ∷ [])
  walks_next rows n row walks walk within read so_far last =
      subst (λ (xs : List Row). AreWalks g firsts peer xs (walks ++ walk ∷ [])) (sym (take_next rows n row within read)) (record {
        count = length-append walks (walk ∷ []) ∙ ap (λ k. k + 1) so_far.count ∙ sym (length-append (take n rows) (row ∷ []));
        each = fit_more (IsWalkOf g firsts peer) (take n rows) walks row walk so_far.count so_far.each last;
      })

  -- each row has such a walk, where each node was entered
  pub walks_exist : IsEnteredFromBefore g → (rows : List Row) → ((x : FirstRow) → IsIn firsts x → x.node < length g.nodes)
      → ((row : Row) → IsIn rows row → (x : FirstRow) × IsIn firsts x × (x.row ≡ row)) → (walks : List (List ℕ)) × AreWalks g firsts peer rows walks
  walks_exist entered [] within known = ([], walks_none)
  walks_exist entered (row ∷ rows) within known =
      let x = known row (0, refl) in
      let rest = walks_exist entered rows within (λ other at. known other (suc at.0, at.1)) in (
        from_peer peer (shown_walk g x.0.node) ∷ rest.0,
        record {
          count = ap suc rest.1.count;
          each = each x.0 (x.0, x.1, x.2, (shown_walk g x.0.node, shown_walk_is g entered x.0.node (within x.0 x.1), refl)) rest.0 rest.1;
        },
      )
    where
      each : (x : FirstRow) → IsWalkOf g firsts peer row (from_peer peer (shown_walk g x.node)) → (walks : List (List ℕ)) → AreWalks g firsts peer rows walks
          → (i : ℕ) (r : Row) (walk : List ℕ) → slice_get (row ∷ rows) i ≡ Some r → slice_get (from_peer peer (shown_walk g x.node) ∷ walks) i ≡ Some walk → IsWalkOf g firsts peer r walk
      each x first walks others zero r walk at_r at_walk =
          subst₂ (λ (a : Row) (w : List ℕ). IsWalkOf g firsts peer a w) (same_Some row r at_r) (same_Some (from_peer peer (shown_walk g x.node)) walk at_walk) first
      each x first walks others (suc i) r walk at_r at_walk = others.each i r walk at_r at_walk

module _ (g : PlainGraph) (firsts : Place → List FirstRow) where
  pub shown_none : AreAllShown g firsts [] []
  shown_none = record { count = refl; each = λ i a b at. absurd cc }

  pub shown_next : (bare : List Kind) (n : ℕ) (a : Kind) (kinds : List Kind) (b : Kind) → n < length bare → a ≡ get_or bare n a
      → AreAllShown g firsts (take n bare) kinds → IsShown g firsts a b → AreAllShown g firsts (take (n + 1) bare) (kinds ++ b ∷ [])
  shown_next bare n a kinds b within read so_far last =
      subst (λ (xs : List Kind). AreAllShown g firsts xs (kinds ++ b ∷ [])) (sym (take_next bare n a within read)) (record {
        count = length-append kinds (b ∷ []) ∙ ap (λ k. k + 1) so_far.count ∙ sym (length-append (take n bare) (a ∷ []));
        each = fit_more (IsShown g firsts) (take n bare) kinds a b so_far.count so_far.each last;
      })
