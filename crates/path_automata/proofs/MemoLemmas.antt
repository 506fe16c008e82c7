-- What the memo knows stays right when a state or a next state is noted.
use Rattle.std.proofs.Common.{◌≡◌, ℕ, zero, suc, ◌<◌, Bool, true, refl, List, [], ◌∷◌, ◌++◌, length, map, Some, sym, ap, ◌∙◌, subst, ◌⊎◌, ⊎_elim}
use Rattle.std.specs.Prelude.{slice_get, slice_index_or}
use Rattle.std.specs.List.{list_all}
use Rattle.std.specs.Ordering.{is_eq}
use Rattle.std.proofs.lemmas.Bool.{and_parts, and_from}
use Rattle.std.proofs.lemmas.Option.{get_or_from_slice_get, slice_get_within, same_Some, slice_get-get_or}
use Rattle.net_base.specs.declared.loc.LocSet.{LocSet}
use Rattle.path_exprs.specs.Derivative.{derivative}
use Rattle.path_exprs.specs.Expression.{Expression}
use Rattle.path_exprs.specs.Order.{compare}
use Rattle.path_automata.specs.declared.memo.Memo.{Memo}
use Rattle.path_automata.specs.Classes.{AreSorted, InSameSets, SameClass}
use Rattle.path_automata.specs.Memo.{AreAlike, IsRight, NoTwice, Notes, same_state}
use Rattle.path_automata.specs.Sets.{agrees, sets_pass}
use Rattle.path_automata.proofs.ClassLemmas.{get-grown, get-push}
use Rattle.path_automata.proofs.Entries.{is-same, same-is}
use Rattle.path_automata.proofs.Kept.{kept, same}

kept_each : (p : LocSet → Bool) (x : ℕ) (es : List Expression) → list_all (sets_pass p) es ≡ true → list_all (sets_pass p) (map (derivative x) es) ≡ true
kept_each p x [] h = h
kept_each p x (e ∷ es) h =
    let u = and_parts (sets_pass p e) (list_all (sets_pass p) es) h in
    and_from _ _ (kept p x e u.0) (kept_each p x es u.1)

same_each : (x y : ℕ) (es : List Expression) → list_all (sets_pass (agrees x y)) es ≡ true → map (derivative x) es ≡ map (derivative y) es
same_each x y [] h = refl
same_each x y (e ∷ es) h =
    let u = and_parts (sets_pass (agrees x y) e) (list_all (sets_pass (agrees x y)) es) h in
    ap (λ d. d ∷ map (derivative x) es) (same x y e u.0) ∙ ap (λ ds. derivative y e ∷ ds) (same_each x y es u.1)

abbrev pub Grown : List (List Expression) → List (List Expression) → List Expression → Type 0
Grown ss new d = (new ≡ ss) ⊎ (new ≡ ss ++ d ∷ [])

pub alike-grown : (m n : Memo) (ss new : List (List Expression)) (state at : ℕ) (s d : List Expression) → n.classes ≡ m.classes → AreAlike m ss
    → slice_get ss state ≡ Some s → d ≡ map (derivative at) s → Grown ss new d → AreAlike n new
alike-grown m n ss new state at s d cs alike here is grown x y i v sc g =
    let both : SameClass m.classes.items x y = subst (λ k. SameClass k.items x y) cs sc in
    let old : slice_get ss i ≡ Some v → InSameSets x y v = alike x y i v both in
    let last : d ≡ v → InSameSets x y v = λ e.
    ap (list_all (sets_pass (agrees x y))) (sym e ∙ is) ∙ kept_each (agrees x y) at s (alike x y state s both here) in
    ⊎_elim (λ e. old (ap (λ l. slice_get l i) (sym e) ∙ g))
    (λ e. ⊎_elim old (λ q. last q.1) (get-push ss d i v (ap (λ l. slice_get l i) (sym e) ∙ g))) grown

-- what is known, by equations

state_is : (es fs : List Expression) → same_state es fs ≡ true → es ≡ fs
state_is [] [] h = refl
state_is [] (f ∷ fs) h = cc
state_is (e ∷ es) [] h = cc
state_is (e ∷ es) (f ∷ fs) h =
    let u = and_parts (is_eq (compare e f)) (same_state es fs) h in
    ap (λ l. e ∷ l) (state_is es fs u.1) ∙ ap (λ g. g ∷ fs) (same-is e f u.0)

state_same : (es : List Expression) → same_state es es ≡ true
state_same [] = refl
state_same (e ∷ es) = and_from (is_eq (compare e e)) (same_state es es) (is-same e e refl) (state_same es)

abbrev pub Known : Memo → List (List Expression) → Type 0
Known m ss = (state at next : ℕ) → Notes m state at next → (state < length ss) × (slice_get ss next ≡ Some (map (derivative at) (slice_index_or ss state [])))

pub known : (m : Memo) (ss : List (List Expression)) → IsRight m ss → Known m ss
known m ss right state at next note =
    let r = right state at next note in
    (r.0, slice_get-get_or ss next [] r.1 ∙ ap Some (state_is (slice_index_or ss next []) (map (derivative at) (slice_index_or ss state [])) r.2))

pub right : (m : Memo) (ss : List (List Expression)) → Known m ss → IsRight m ss
right m ss known state at next note =
    let k = known state at next note in
    let row = map (derivative at) (slice_index_or ss state []) in
    (k.0, slice_get_within ss next row k.1, ap (λ s. same_state s row) (get_or_from_slice_get ss next row [] k.1) ∙ state_same row)

pub right-grown : (m n : Memo) (ss new : List (List Expression)) (state at next : ℕ) (s d : List Expression)
    → ((r x t : ℕ) → Notes n r x t → Notes m r x t ⊎ (SameClass m.classes.items x at × (r ≡ state) × (t ≡ next)))
    → Known m ss → AreAlike m ss → slice_get ss state ≡ Some s → d ≡ map (derivative at) s → Grown ss new d → slice_get new next ≡ Some d → IsRight n new
right-grown m n ss new state at next s d noted knows alike here is grown stored = right n new (λ r x t note. ⊎_elim (old r x t) (this r x t) (noted r x t note))
  where
    stays : (i : ℕ) (v : List Expression) → slice_get ss i ≡ Some v → (i < length new) × (slice_index_or new i [] ≡ v)
    stays i v g =
        let later = get-grown ss new d grown i v g in
        (slice_get_within new i v later, get_or_from_slice_get new i v [] later)

    old : (r x t : ℕ) → Notes m r x t → (r < length new) × (slice_get new t ≡ Some (map (derivative x) (slice_index_or new r [])))
    old r x t e =
        let was = knows r x t e in
        let row = stays r (slice_index_or ss r []) (slice_get-get_or ss r [] was.0) in
        (row.0, get-grown ss new d grown t (map (derivative x) (slice_index_or ss r [])) was.1 ∙ ap (λ v. Some (map (derivative x) v)) (sym row.1))

    this : (r x t : ℕ) → SameClass m.classes.items x at × (r ≡ state) × (t ≡ next) → (r < length new) × (slice_get new t ≡ Some (map (derivative x) (slice_index_or new r [])))
    this r x t e =
        let row = stays r s (ap (slice_get ss) e.1 ∙ here) in
        (row.0, ap (slice_get new) e.2 ∙ stored ∙ ap Some (is ∙ sym (same_each x at s (alike x at state s e.0 here)) ∙ ap (map (derivative x)) (sym row.1)))

pub alike-kept : (m n : Memo) (ss : List (List Expression)) → n.classes ≡ m.classes → AreAlike m ss → AreAlike n ss
alike-kept m n ss cs alike x y i s sc g = alike x y i s (subst (λ k. SameClass k.items x y) cs sc) g

pub right-kept : (m n : Memo) (ss : List (List Expression)) → ((s x t : ℕ) → Notes n s x t → Notes m s x t) → IsRight m ss → IsRight n ss
right-kept m n ss kept right s x t note = right s x t (kept s x t note)

-- one state

pub only : (ss : List (List Expression)) (s : List Expression) → ss ≡ s ∷ [] → (i : ℕ) (t : List Expression) → slice_get ss i ≡ Some t → (i ≡ 0) × (s ≡ t)
only ss s e i t h = at i (ap (λ l. slice_get l i) (sym e) ∙ h)
  where
    at : (i : ℕ) → slice_get (s ∷ []) i ≡ Some t → (i ≡ 0) × (s ≡ t)
    at zero g = (refl, same_Some _ _ g)
    at (suc i) g = cc

pub alike-one : (m : Memo) (ss : List (List Expression)) (s : List Expression) → ss ≡ s ∷ [] → AreSorted m.classes.items s → AreAlike m ss
alike-one m ss s e sorted x y i t sc g = subst (InSameSets x y) (only ss s e i t g).1 (sorted x y sc)

pub apart-one : (ss : List (List Expression)) (s : List Expression) → ss ≡ s ∷ [] → NoTwice ss
apart-one ss s e i j t p q = (only ss s e i t p).0 ∙ sym (only ss s e j t q).0
