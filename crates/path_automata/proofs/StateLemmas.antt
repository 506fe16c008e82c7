-- States and their numbers.
use Rattle.std.proofs.Common.{◌≡◌, ℕ, zero, suc, ◌<◌, ◌≤◌, Bool, true, false, cond, List, [], ◌∷◌, ◌++◌, map, length, get_or, Some, option_map, Vec, Global, All, refl, sym}
use Rattle.std.proofs.Common.{ap, subst, ◌∙◌, arith, ⊎_elim, eqb}
use Rattle.std.specs.Prelude.{nat_lt, slice_get}
use Rattle.std.specs.List.{list_any, IsDistinct}
use Rattle.std.proofs.lemmas.Bool.{and_parts, and_from, eq-eqb, false≢true, cases_order, cases_lt, ltb-true}
use Rattle.std.proofs.lemmas.Option.{get_or_from_slice_get, slice_get-get_or, slice_get_within, slice_get-map, same_Some}
use Rattle.std.proofs.lemmas.List.{append-nil}
use Rattle.std.proofs.lemmas.List.Elements.{All-append}
use Rattle.std.proofs.lemmas.Map.Keys.{apart_from_distinct}
use Rattle.std.proofs.lemmas.Slice.Eq.{bytes_eq-Decides}
use lib.Pointwise.{pointwise}
use Rattle.indexmap.specs.IndexSet.{insert_key}
use Rattle.path_exprs.specs.Expression.{Expression}
use Rattle.path_exprs.proofs.Numbers.{map-extends}
use Rattle.path_terms.specs.Terms.{are_known, at}
use Rattle.path_terms.specs.Terms as terms
use Rattle.path_automata.specs.declared.facts.Facts.{Facts}
use Rattle.path_automata.specs.Found.{states_in, facts_of, AreFacts}
use Rattle.path_automata.specs.Memo.{NoTwice}
use Rattle.path_automata.specs.States.{Extends}
use Rattle.path_automata.proofs.ClassLemmas.{get-push, mapped-inserted}
use Rattle.path_automata.proofs.MemoLemmas.{Grown, only}

abbrev pub Key : Type 0
Key = Vec ℕ Global

-- equality of keys
abbrev pub same : Key → Key → Bool
same v w = pointwise eqb v.items w.items

abbrev pub IsKnown : List Expression → Key → Type 0
IsKnown vs v = are_known (length vs) v.items ≡ true

numbers_same : (vs : List Expression) (ns ms : List ℕ) → terms.AreApart vs → are_known (length vs) ns ≡ true → are_known (length vs) ms ≡ true → map (at vs) ns ≡ map (at vs) ms
    → pointwise eqb ns ms ≡ true
numbers_same vs [] [] apart h g q = refl
numbers_same vs [] (m ∷ ms) apart h g q = cc
numbers_same vs (n ∷ ns) [] apart h g q = cc
numbers_same vs (n ∷ ns) (m ∷ ms) apart h g q =
    let u = and_parts (nat_lt n (length vs)) (are_known (length vs) ns) h in
    let v = and_parts (nat_lt m (length vs)) (are_known (length vs) ms) g in
    let head : at vs n ≡ at vs m = cc in
    let tail : map (at vs) ns ≡ map (at vs) ms = cc in
    and_from (eqb n m) (pointwise eqb ns ms) (eq-eqb n m (apart n m (ltb-true n (length vs) u.0) (ltb-true m (length vs) v.0) head)) (numbers_same vs ns ms apart u.1 v.1 tail)

-- what holds of each key

pub all-at : {A : Type 0} (P : A → Type 0) (ks : List A) (i : ℕ) (k : A) → All P ks → slice_get ks i ≡ Some k → P k
all-at P ks i k all h = subst P (get_or_from_slice_get ks i k k h) (all i k (slice_get_within ks i k h))

pub all-weaker : {A : Type 0} (P Q : A → Type 0) (ks : List A) → ((k : A) → P k → Q k) → All P ks → All Q ks
all-weaker P Q ks f all i d h = f (get_or ks i d) (all i d h)

pub all-inserted : (P : Key → Type 0) (ks new : List Key) (k : Key) → new ≡ insert_key same ks k → All P ks → P k → All P new
all-inserted P ks new k e all here = by (list_any (same k) ks) e
  where
    one : All P (k ∷ [])
    one zero d h = here
    one (suc i) d h = absurd (omega arith)

    by : (b : Bool) → new ≡ cond b ks (ks ++ k ∷ []) → All P new
    by true h = subst (All P) (sym h) all
    by false h = subst (All P) (sym h) (All-append P ks (k ∷ []) all one)

-- states of known terms stay as further terms come
pub states-extend : (old new : List Expression) (ks : List Key) → terms.Extends old new → All (IsKnown old) ks → states_in new ks ≡ states_in old ks
states-extend old new [] x all = refl
states-extend old new (k ∷ ks) x all =
    ap (λ s. s ∷ states_in new ks) (map-extends old new k.items x (all 0 k (omega arith)))
    ∙ ap (λ ss. map (at old) k.items ∷ ss) (states-extend old new ks x (λ i d h. all (suc i) d (omega (arith, h))))

pub state-get : (vs : List Expression) (ks : List Key) (i : ℕ) (k : Key) → slice_get ks i ≡ Some k → slice_get (states_in vs ks) i ≡ Some (map (at vs) k.items)
state-get vs ks i k h = slice_get-map (λ v. map (at vs) v.items) ks i ∙ ap (option_map (λ v. map (at vs) v.items)) h

pub state-stored : (vs : List Expression) (ks : List Key) (i : ℕ) (k v : Key) → slice_get ks i ≡ Some k → same v k ≡ true → slice_get (states_in vs ks) i ≡ Some (map (at vs) v.items)
state-stored vs ks i k v h e = state-get vs ks i k h ∙ ap (λ l. Some (map (at vs) l)) (sym ((bytes_eq-Decides v.items k.items).0 e))

-- one more state
pub grown-insert_key : (old new : List Expression) (ks more : List Key) (k : Key) → terms.Extends old new → All (IsKnown old) ks → more ≡ insert_key same ks k
    → Grown (states_in old ks) (states_in new more) (map (at new) k.items)
grown-insert_key old new ks more k x all e =
    subst (λ ss. Grown ss (states_in new more) (map (at new) k.items)) (states-extend old new ks x all) (mapped-inserted (λ v. map (at new) v.items) same ks more k e)

pub extends-grown : (ss new : List (List Expression)) (d : List Expression) → Grown ss new d → Extends ss new
extends-grown ss new d g = ⊎_elim (λ e. ([], e ∙ sym (append-nil ss))) (λ e. (d ∷ [], e)) g

pub extends-itself : (ss : List (List Expression)) → Extends ss ss
extends-itself ss = ([], sym (append-nil ss))

-- no state has two numbers

state-key : (vs : List Expression) (ks : List Key) (i : ℕ) (s : List Expression) → slice_get (states_in vs ks) i ≡ Some s → (k : Key) × (slice_get ks i ≡ Some k) × (map (at vs) k.items ≡ s)
state-key vs [] zero s h = cc
state-key vs [] (suc i) s h = cc
state-key vs (k ∷ ks) zero s h = (k, refl, same_Some _ _ h)
state-key vs (k ∷ ks) (suc i) s h = state-key vs ks i s h

not_before : (vs : List Expression) (ks : List Key) (i j : ℕ) (k l : Key) → terms.AreApart vs → All (IsKnown vs) ks → IsDistinct same ks → slice_get ks i ≡ Some k → slice_get ks j ≡ Some l
    → map (at vs) k.items ≡ map (at vs) l.items → i < j → ⊥
not_before vs ks i j k l apart all d p q e lt =
    let n = slice_get_within ks j l q in
    let differ = apart_from_distinct same ks i j k d lt n in
    let left : get_or ks i k ≡ k = same_Some _ _ (sym (slice_get-get_or ks i k (omega arith)) ∙ p) in
    let right : get_or ks j k ≡ l = same_Some _ _ (sym (slice_get-get_or ks j k n) ∙ q) in
    false≢true (sym differ ∙ ap (λ x. same x (get_or ks j k)) left ∙ ap (same k) right
    ∙ numbers_same vs k.items l.items apart (all-at (IsKnown vs) ks i k all p) (all-at (IsKnown vs) ks j l all q) e)

pub apart-from_distinct : (vs : List Expression) (ks : List Key) → terms.AreApart vs → All (IsKnown vs) ks → IsDistinct same ks → NoTwice (states_in vs ks)
apart-from_distinct vs ks apart all d i j s p q =
    let a = state-key vs ks i s p in
    let b = state-key vs ks j s q in
    ⊎_elim (λ e. e)
    (λ r. absurd (⊎_elim (not_before vs ks i j a.0 b.0 apart all d a.1 b.1 (a.2 ∙ sym b.2)) (not_before vs ks j i b.0 a.0 apart all d b.1 a.1 (b.2 ∙ sym a.2)) r))
    (cases_order i j)

-- what is asked of states

pub facts-cover : (fs : List Facts) (ss : List (List Expression)) → AreFacts fs ss → length ss ≤ length fs
facts-cover fs ss told =
    ⊎_elim
    (λ lt. let within = slice_get_within fs (length fs) _ (told (length fs) (get_or ss (length fs) []) (slice_get-get_or ss (length fs) [] lt)) in absurd (omega (arith, within)))
    (λ le. le)
    (cases_lt (length fs) (length ss))

pub facts-kept : (fs gs : List Facts) (ss : List (List Expression)) (n : ℕ) → length ss ≤ n → AreFacts fs ss → ((i : ℕ) → i < n → slice_get gs i ≡ slice_get fs i) → AreFacts gs ss
facts-kept fs gs ss n le told before i s h = let lt = slice_get_within ss i s h in before i (omega (arith, lt, le)) ∙ told i s h

pub facts-grown : (fs gs : List Facts) (ss new : List (List Expression)) (d : List Expression) (n : ℕ) → n ≡ length ss → AreFacts fs ss
    → Grown ss new d → ((i : ℕ) → i < n → slice_get gs i ≡ slice_get fs i)
    → slice_get gs n ≡ Some (facts_of d) → AreFacts gs new
facts-grown fs gs ss new d n is told grown before here i s h =
    let old : slice_get ss i ≡ Some s → slice_get gs i ≡ Some (facts_of s) = facts-kept fs gs ss n (omega (arith, is)) told before i s in
    ⊎_elim (λ e. old (ap (λ l. slice_get l i) (sym e) ∙ h))
    (λ e. ⊎_elim old (λ q. ap (slice_get gs) (q.0 ∙ sym is) ∙ here ∙ ap (λ v. Some (facts_of v)) q.1) (get-push ss d i s (ap (λ l. slice_get l i) (sym e) ∙ h)))
    grown

pub facts-one : (fs : List Facts) (ss : List (List Expression)) (s : List Expression) → ss ≡ s ∷ [] → slice_get fs 0 ≡ Some (facts_of s) → AreFacts fs ss
facts-one fs ss s e here i t h = let u = only ss s e i t h in ap (slice_get fs) u.0 ∙ here ∙ ap (λ v. Some (facts_of v)) u.1
