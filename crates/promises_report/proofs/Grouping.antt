-- Of each case some group tells how all stand in it.
use Rattle.std.proofs.Common.{◌≡◌, ℕ, zero, suc, ◌+◌, ◌<◌, ◌≤◌, Bool, true, false, List, [], ◌∷◌, ◌++◌, length, map, get_or, Option, Some, None, refl, sym, ap, ◌∙◌, subst, inl, inr, arith}
use Rattle.std.specs.Prelude.{◌&&◌, ◌==◌, not, slice_get, if◌then◌else◌}
use Rattle.std.specs.List.{list_any}
use Rattle.std.specs.Option.{option_or}
use Rattle.std.proofs.lemmas.Bool.{and_parts, cases_Bool, cases_lt, eqb-true, not-true}
use Rattle.std.proofs.lemmas.List.{get_or-append-add, get_or_append_left, length-map, map-append}
use Rattle.list_law.specs.Members.{IsIn}
use Rattle.list_law.proofs.Members.{IsIn-cons_cases, IsIn-later, IsIn-nil}
use Rattle.net_base.specs.Locations.{numbers_below}
use Rattle.net_base.specs.Network.{PlainNet}
use Rattle.net_base.proofs.NumbersBelow.{length-numbers_below}
use Rattle.policy_base.specs.declared.case.Case.{Case}
use Rattle.policy_base.specs.Policies.{PlainPolicy}
use Rattle.cut_ranks.specs.Tops.{entry_at}
use Rattle.promises_report.specs.declared.group.Group.{Group}
use Rattle.promises_report.specs.declared.standing.Standing.{Standing}
use Rattle.promises_report.specs.declared.standing.Standing.TheVariants.{Source, Transit, Unclaimed, Used, Unused}
use Rattle.promises_report.specs.Groups.{GroupsTellOfCases, IsKnownIn, TellsOf, agree, alone, differ, differ_at, fits, groups_of, joined, known, known_at, merged, rows_of, same_standing}
use Rattle.promises_report.specs.Places.{sessions_of}
use Rattle.promises_report.specs.Promises.{Promises}
use Rattle.promises_report.specs.Standings.{as_origin, as_session, as_source, row_of}
use Rattle.promises_report.proofs.SomeRouter.{some_passes}

-- ---- what is known at a place

entry_map : (f : ℕ → Option Standing) (n i : ℕ) → i < n → entry_at (map f (numbers_below n)) i ≡ f i
entry_map f zero i less = absurd (omega arith)
entry_map f (suc n) i less =
    let front = map f (numbers_below n) in
    let size : length front ≡ n = length-map (numbers_below n) f ∙ length-numbers_below n in
    ap (λ (xs : List (Option Standing)). get_or xs i None) (map-append f (numbers_below n) (n ∷ [])) ∙ elim (cases_lt i n) [
      | inl t ↦ get_or_append_left front (f n ∷ []) None i (omega (arith, t, size)) ∙ entry_map f n i t
      | inr t ↦
          let last : i ≡ length front + 0 = omega (arith, t, less, size) in
          let here : n ≡ i = omega (arith, t, less) in
          ap (λ (j : ℕ). get_or (front ++ f n ∷ []) j None) last ∙ get_or-append-add front (f n ∷ []) 0 None ∙ ap f here
    ]

entry_within : (xs : List (Option Standing)) (i : ℕ) (x : Standing) → entry_at xs i ≡ Some x → i < length xs
entry_within [] zero x at = absurd cc
entry_within [] (suc i) x at = absurd cc
entry_within (y ∷ ys) zero x at = omega arith
entry_within (y ∷ ys) (suc i) x at = omega (arith, entry_within ys i x at)

same_is : (x y : Standing) → same_standing x y ≡ true → x ≡ y
same_is (Source m) (Source n) h = ap Source (sym (eqb-true n m h))
same_is (Source m) Transit h = absurd cc
same_is (Source m) Unclaimed h = absurd cc
same_is (Source m) Used h = absurd cc
same_is (Source m) Unused h = absurd cc
same_is Transit (Source n) h = absurd cc
same_is Transit Transit h = refl
same_is Transit Unclaimed h = absurd cc
same_is Transit Used h = absurd cc
same_is Transit Unused h = absurd cc
same_is Unclaimed (Source n) h = absurd cc
same_is Unclaimed Transit h = absurd cc
same_is Unclaimed Unclaimed h = refl
same_is Unclaimed Used h = absurd cc
same_is Unclaimed Unused h = absurd cc
same_is Used (Source n) h = absurd cc
same_is Used Transit h = absurd cc
same_is Used Unclaimed h = absurd cc
same_is Used Used h = refl
same_is Used Unused h = absurd cc
same_is Unused (Source n) h = absurd cc
same_is Unused Transit h = absurd cc
same_is Unused Unclaimed h = absurd cc
same_is Unused Used h = absurd cc
same_is Unused Unused h = refl

-- where nothing differs what both know is one
one_known : (x y : Standing) → differ (Some x) (Some y) ≡ false → x ≡ y
one_known x y h = by (same_standing x y) refl h
  where
    by : (b : Bool) → same_standing x y ≡ b → not b ≡ false → x ≡ y
    by true e h = same_is x y e
    by false e h = absurd cc

-- ---- what both know, in one list

known_first : (xs ys : List (Option Standing)) → IsKnownIn xs (known xs ys)
known_first xs ys i x at =
    entry_map (known_at xs ys) (length xs) i (entry_within xs i x at) ∙ ap (λ (o : Option Standing). option_or o (entry_at ys i)) at

known_second : (xs ys : List (Option Standing)) → length ys ≤ length xs → agree xs ys ≡ true → IsKnownIn ys (known xs ys)
known_second xs ys longer all i y at = entry_map (known_at xs ys) (length xs) i within ∙ by (entry_at xs i) refl
  where
    within : i < length xs
    within = omega (arith, entry_within ys i y at, longer)

    same : differ_at xs ys i ≡ true → ⊥
    same h = let some = some_passes (differ_at xs ys) i (length xs) within h in let none = not-true (list_any (differ_at xs ys) (numbers_below (length xs))) all in absurd cc

    by : (o : Option Standing) → entry_at xs i ≡ o → option_or o (entry_at ys i) ≡ Some y
    by None e = at
    by (Some x) e = elim (cases_Bool (differ (Some x) (Some y))) [
      | inl h ↦ absurd (same (ap (λ (o : Option Standing). differ o (entry_at ys i)) e ∙ ap (differ (Some x)) at ∙ h))
      | inr h ↦ ap Some (one_known x y h)
    ]

-- ---- groups

-- a group of a network with so many routers and sessions
record IsEven (m n : ℕ) (g : Group) : Type 0 where
  routers : length g.routers ≡ m
  origins : length g.origins ≡ m
  sessions : g.external ≡ false → length g.sessions ≡ n

abbrev AreEven : ℕ → ℕ → List Group → Type 0
AreEven m n gs = (g : Group) → IsIn gs g → IsEven m n g

tells_itself : (g : Group) → TellsOf g g
tells_itself g = record { statement = refl; external = refl; routers = λ i x at. at; origins = λ i x at. at; sessions = λ i x at. at }

tells_on : (f g h : Group) → TellsOf f g → TellsOf g h → TellsOf f h
tells_on f g h a b = record {
  statement = a.statement ∙ b.statement;
  external = a.external ∙ b.external;
  routers = λ i x at. a.routers i x (b.routers i x at);
  origins = λ i x at. a.origins i x (b.origins i x at);
  sessions = λ i x at. a.sessions i x (b.sessions i x at);
}

-- what it takes for two to be one
record Fits (g x : Group) : Type 0 where
  inner : g.external ≡ false
  outer : x.external ≡ false
  statement : g.statement ≡ x.statement
  routers : agree g.routers x.routers ≡ true
  origins : agree g.origins x.origins ≡ true
  sessions : agree g.sessions x.sessions ≡ true

fits_parts : (g x : Group) → fits g x ≡ true → Fits g x
unfolding fits
fits_parts g x h =
    let e = and_parts (not g.external && not x.external && g.statement == x.statement && agree g.routers x.routers && agree g.origins x.origins) (agree g.sessions x.sessions) h in
    let d = and_parts (not g.external && not x.external && g.statement == x.statement && agree g.routers x.routers) (agree g.origins x.origins) e.0 in
    let c = and_parts (not g.external && not x.external && g.statement == x.statement) (agree g.routers x.routers) d.0 in
    let b = and_parts (not g.external && not x.external) (g.statement == x.statement) c.0 in
    let a = and_parts (not g.external) (not x.external) b.0 in
    record {
      inner = not-true _ a.0;
      outer = not-true _ a.1;
      statement = eqb-true _ _ b.1;
      routers = c.1;
      origins = d.1;
      sessions = e.1;
    }

module _ (m n : ℕ) where
  merged_first : (g x : Group) → TellsOf (merged g x) g
  merged_first g x = record {
    statement = refl;
    external = refl;
    routers = known_first g.routers x.routers;
    origins = known_first g.origins x.origins;
    sessions = known_first g.sessions x.sessions;
  }

  merged_second : (g x : Group) → IsEven m n g → IsEven m n x → Fits g x → TellsOf (merged g x) x
  merged_second g x a b fit = record {
    statement = fit.statement;
    external = fit.inner ∙ sym fit.outer;
    routers = known_second g.routers x.routers (omega (arith, a.routers, b.routers)) fit.routers;
    origins = known_second g.origins x.origins (omega (arith, a.origins, b.origins)) fit.origins;
    sessions = known_second g.sessions x.sessions (omega (arith, a.sessions fit.inner, b.sessions fit.outer)) fit.sessions;
  }

  known_size : (xs ys : List (Option Standing)) → length (known xs ys) ≡ length xs
  known_size xs ys = length-map (numbers_below (length xs)) (known_at xs ys) ∙ length-numbers_below (length xs)

  merged_even : (g x : Group) → IsEven m n g → IsEven m n (merged g x)
  merged_even g x a = record {
    routers = known_size g.routers x.routers ∙ a.routers;
    origins = known_size g.origins x.origins ∙ a.origins;
    sessions = λ inner. known_size g.sessions x.sessions ∙ a.sessions inner;
  }

  -- where it joins others some group tells of it, and one of each that was there
  record Joins (x : Group) (gs : List Group) : Type 0 where
    of_it : (h : Group) × IsIn (joined x gs) h × TellsOf h x
    of_each : (g : Group) → IsIn gs g → (h : Group) × IsIn (joined x gs) h × TellsOf h g
    even : AreEven m n (joined x gs)

  -- the same of a list that it makes of others and one before them
  record Makes (x g : Group) (gs hs : List Group) : Type 0 where
    of_it : (h : Group) × IsIn hs h × TellsOf h x
    of_each : (f : Group) → IsIn (g ∷ gs) f → (h : Group) × IsIn hs h × TellsOf h f
    even : AreEven m n hs

  joins : (x : Group) → IsEven m n x → (gs : List Group) → AreEven m n gs → Joins x gs
  joins x even [] all = record {
    of_it = (x, (0, refl), tells_itself x);
    of_each = λ g at. absurd (IsIn-nil g at);
    even = λ g at. elim (IsIn-cons_cases x [] g at) [
      | inl same ↦ subst (IsEven m n) same even
      | inr none ↦ absurd (IsIn-nil g none)
    ];
  }
  joins x even (g ∷ gs) all = by (fits g x) refl (joins x even gs (λ h at. all h (IsIn-later g h gs at)))
    where
      mine : IsEven m n g
      mine = all g (0, refl)

      rest : AreEven m n gs
      rest h at = all h (IsIn-later g h gs at)

      met : Fits g x → Makes x g gs (merged g x ∷ gs)
      met fit = record {
        of_it = (merged g x, (0, refl), merged_second g x mine even fit);
        of_each = λ f at. elim (IsIn-cons_cases g gs f at) [
          | inl same ↦ (merged g x, (0, refl), subst (TellsOf (merged g x)) same (merged_first g x))
          | inr later ↦ (f, IsIn-later (merged g x) f gs later, tells_itself f)
        ];
        even = λ f at. elim (IsIn-cons_cases (merged g x) gs f at) [
          | inl same ↦ subst (IsEven m n) same (merged_even g x mine)
          | inr later ↦ rest f later
        ];
      }

      missed : Joins x gs → Makes x g gs (g ∷ joined x gs)
      missed j = record {
        of_it = (j.of_it.0, IsIn-later g j.of_it.0 (joined x gs) j.of_it.1, j.of_it.2);
        of_each = λ f at. elim (IsIn-cons_cases g gs f at) [
          | inl same ↦ (f, (0, ap Some same), tells_itself f)
          | inr later ↦ (let h = j.of_each f later in (h.0, IsIn-later g h.0 (joined x gs) h.1, h.2))
        ];
        even = λ f at. elim (IsIn-cons_cases g (joined x gs) f at) [
          | inl same ↦ subst (IsEven m n) same mine
          | inr later ↦ j.even f later
        ];
      }

      whole : (hs : List Group) → joined x (g ∷ gs) ≡ hs → Makes x g gs hs → Joins x (g ∷ gs)
      whole hs is o = record {
        of_it = (o.of_it.0, subst (λ (fs : List Group). IsIn fs o.of_it.0) (sym is) o.of_it.1, o.of_it.2);
        of_each = λ f at. let h = o.of_each f at in (h.0, subst (λ (fs : List Group). IsIn fs h.0) (sym is) h.1, h.2);
        even = λ f at. o.even f (subst (λ (fs : List Group). IsIn fs f) is at);
      }

      by : (b : Bool) → fits g x ≡ b → Joins x gs → Joins x (g ∷ gs)
      by true e j = whole (merged g x ∷ gs) (ap (λ b. if b then merged g x ∷ gs else g ∷ joined x gs) e) (met (fits_parts g x e))
      by false e j = whole (g ∷ joined x gs) (ap (λ b. if b then merged g x ∷ gs else g ∷ joined x gs) e) (missed j)

-- ---- all cases

module _ (net : PlainNet) (policy : PlainPolicy) where
  alone_even : (k : ℕ) (c : Case) (a : Promises) → IsEven (length net.routers) (length (sessions_of net)) (alone net policy k c (row_of net c a))
  alone_even k c a = record {
    routers = length-map (numbers_below (length net.routers)) (as_source c a) ∙ length-numbers_below (length net.routers);
    origins = length-map (numbers_below (length net.routers)) (as_origin c a) ∙ length-numbers_below (length net.routers);
    sessions = by c.external;
  }
    where
      by : (b : Bool) → b ≡ false → length (if b then [] else map (as_session a) (sessions_of net)) ≡ length (sessions_of net)
      by true e = absurd cc
      by false e = length-map (sessions_of net) (as_session a)

  record Tells (k : ℕ) (cs : List Case) (xs : List Promises) (gs : List Group) : Type 0 where
    of_each : (g : Group) → IsIn gs g → (h : Group) × IsIn (groups_of net policy k cs (rows_of net cs xs) gs) h × TellsOf h g
    of_cases : (i : ℕ) (c : Case) (a : Promises) → slice_get cs i ≡ Some c → slice_get xs i ≡ Some a
        → (h : Group) × IsIn (groups_of net policy k cs (rows_of net cs xs) gs) h × TellsOf h (alone net policy (k + i) c (row_of net c a))

  tells : (k : ℕ) (cs : List Case) (xs : List Promises) (gs : List Group) → AreEven (length net.routers) (length (sessions_of net)) gs → Tells k cs xs gs
  tells k [] xs gs even = record { of_each = λ g at. (g, at, tells_itself g); of_cases = λ i c a at one. absurd cc }
  tells k (d ∷ cs) [] gs even = record { of_each = λ g at. (g, at, tells_itself g); of_cases = λ i c a at one. absurd cc }
  tells k (d ∷ cs) (b ∷ xs) gs even =
      let x = alone net policy k d (row_of net d b) in
      let j = joins (length net.routers) (length (sessions_of net)) x (alone_even k d b) gs even in
      let rest = tells (suc k) cs xs (joined x gs) j.even in
      record {
        of_each = λ g at.
            let h = j.of_each g at in
            let f = rest.of_each h.0 h.1 in
            (f.0, f.1, tells_on f.0 h.0 g f.2 h.2);
        of_cases = λ i c a at one. by i c a at one j.of_it.0 (rest.of_each j.of_it.0 j.of_it.1) j.of_it.2 rest.of_cases;
      }
    where
      by : (i : ℕ) (c : Case) (a : Promises) → slice_get (d ∷ cs) i ≡ Some c → slice_get (b ∷ xs) i ≡ Some a → (g : Group)
          → (h : Group) × IsIn (groups_of net policy (suc k) cs (rows_of net cs xs) (joined (alone net policy k d (row_of net d b)) gs)) h × TellsOf h g → TellsOf g (alone net policy k d (row_of net d b))
          → ((i : ℕ) (c : Case) (a : Promises) → slice_get cs i ≡ Some c → slice_get xs i ≡ Some a
          → (h : Group) × IsIn (groups_of net policy (suc k) cs (rows_of net cs xs) (joined (alone net policy k d (row_of net d b)) gs)) h × TellsOf h (alone net policy (suc k + i) c (row_of net c a)))
          → (h : Group) × IsIn (groups_of net policy (suc k) cs (rows_of net cs xs) (joined (alone net policy k d (row_of net d b)) gs)) h × TellsOf h (alone net policy (k + i) c (row_of net c a))
      by zero c a at one g f it rest =
          let same_c : d ≡ c = cc in
          let same_a : b ≡ a = cc in
          let here : k ≡ k + 0 = omega arith in (
            f.0,
            f.1,
            subst (TellsOf f.0)
                (ap (λ (e : Case). alone net policy k e (row_of net e b)) same_c ∙ ap (λ (y : Promises). alone net policy k c (row_of net c y)) same_a
                ∙ ap (λ (n : ℕ). alone net policy n c (row_of net c a)) here)
                (tells_on f.0 g (alone net policy k d (row_of net d b)) f.2 it),
          )
      by (suc i) c a at one g f it rest =
          let h = rest i c a at one in
          let next : suc k + i ≡ k + suc i = omega arith in
          (h.0, h.1, subst (λ (n : ℕ). TellsOf h.0 (alone net policy n c (row_of net c a))) next h.2)

pub groups_tell : GroupsTellOfCases
groups_tell net policy cs xs k c a at one =
    let t = tells net policy 1 cs xs [] (λ g here. absurd (IsIn-nil g here)) in
    let h = t.of_cases k c a at one in
    let next : 1 + k ≡ suc k = omega arith in
    (h.0, h.1, subst (λ (n : ℕ). TellsOf h.0 (alone net policy n c (row_of net c a))) next h.2)
