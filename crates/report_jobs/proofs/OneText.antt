-- A network and a policy have one text of promises.
use Rattle.std.proofs.Common.{◌≡◌, ◌↔◌, ℕ, suc, Bool, true, false, List, [], ◌∷◌, ◌++◌, length, Option, Some, None, refl, sym, ap, ap₂, ◌∙◌, inl, inr, arith}
use Rattle.std.specs.Prelude.{◌&&◌, ◌||◌, not, IsTrue, map, slice_get, if◌then◌else◌, ◌==◌}
use Rattle.std.specs.List.{list_any}
use Rattle.std.proofs.lemmas.Bool.{and_from, cases_Bool, lt-ltb, not_from_false, true≢false}
use Rattle.list_law.specs.Members.{IsIn}
use Rattle.list_law.proofs.Changed.{map_same}
use Rattle.list_law.proofs.Members.{IsIn-filter_parts, IsIn-later}
use Rattle.net_base.specs.Locations.{numbers_below}
use Rattle.net_base.specs.Network.{PlainNet, is_peer, is_router}
use Rattle.net_base.specs.Sets.{holds}
use Rattle.net_base.proofs.NumbersBelow.{below_from_In}
use Rattle.policy_base.specs.declared.case.Case.{Case}
use Rattle.policy_base.specs.Cases.{case_list}
use Rattle.policy_base.specs.Policies.{PlainPolicy, PlainStatement}
use Rattle.policy_base.proofs.KnownCases.{case_known}
use Rattle.config_base.specs.Configs.{PlainConfig}
use Rattle.promises_report.specs.declared.apart.ApartRanks.{ApartRanks}
use Rattle.promises_report.specs.Apart.{all_apart, apart_ranks, meet_at, meet_in, ranks_meet, sites}
use Rattle.promises_report.specs.Claims.{IsPlace}
use Rattle.promises_report.specs.Groups.{groups_of, rows_of}
use Rattle.promises_report.specs.Promises.{ArePromises, IsPromised, Promises}
use Rattle.promises_report.specs.Places.{sessions_of}
use Rattle.promises_report.specs.Standings.{Row, as_origin, as_session, as_source, end_of, row_of, standing_of}
use Rattle.own_space.specs.declared.open_case.OpenCase.{OpenCase}
use Rattle.own_space.specs.Open.{open_parts}
use Rattle.promises_report.specs.Counting.{counts_in}
use Rattle.promises_report.specs.Taking.{takes, taking_case, taking_cases}
use Rattle.promises_text.specs.Texts.{last_lines, statements_text}
use Rattle.promises_report.proofs.Marking.{same_everywhere}
use Rattle.promises_report.proofs.SiteLists.{listed_site}
use Rattle.report_jobs.specs.Promised.{IsPromisesText}

-- ---- what is promised at a place is one thing

one_rank : (net : PlainNet) (s : PlainStatement) (c : Case) (r : ℕ) (peer a b : Option ℕ) → IsPromised net s c r peer a → IsPromised net s c r peer b → a ≡ b
one_rank net s c r peer None None x y = refl
one_rank net s c r peer None (Some n) x y = absurd (x y.0)
one_rank net s c r peer (Some m) None x y = absurd (y x.0)
one_rank net s c r peer (Some m) (Some n) x y =
    let one = x.1.least y.1.path.0 n y.1.path.1 y.1.path.2 in
    let other = y.1.least x.1.path.0 m x.1.path.1 x.1.path.2 in
    ap Some (omega (arith, one, other))

one_test : {P : Type 0} (a b : Bool) → (IsTrue a ↔ P) → (IsTrue b ↔ P) → a ≡ b
one_test true true x y = refl
one_test true false x y = absurd (true≢false (sym (y.1 (x.0 refl))))
one_test false true x y = absurd (true≢false (sym (x.1 (y.0 refl))))
one_test false false x y = refl

any_same : {A : Type 0} (p q : A → Bool) (xs : List A) → ((x : A) → IsIn xs x → p x ≡ q x) → list_any p xs ≡ list_any q xs
any_same p q [] same = refl
any_same p q (x ∷ xs) same = ap₂ (λ (t u : Bool). t || u) (same x (0, refl)) (any_same p q xs (λ y at. same y (IsIn-later x y xs at)))

-- ---- how all stand in a case

module _ (net : PlainNet) (s : PlainStatement) (c : Case) (a b : Promises) (one : ArePromises net s c a) (other : ArePromises net s c b) where
  abbrev routers : List ℕ
  routers = numbers_below (length net.routers)

  same_rank : (r : ℕ) (peer : Option ℕ) → IsPlace net c r peer → a.rank r peer ≡ b.rank r peer
  same_rank r peer here = one_rank net s c r peer (a.rank r peer) (b.rank r peer) (one.ranks r peer here) (other.ranks r peer here)

  passes_same : (r : ℕ) → IsIn routers r → a.passes r ≡ b.passes r
  passes_same r at =
      let router : is_router net r ≡ true = lt-ltb _ _ (below_from_In r (length net.routers) at) in
      one_test (a.passes r) (b.passes r) (one.walks r router) (other.walks r router)

  source_same : (r : ℕ) → IsIn routers r → as_source c a r ≡ as_source c b r
  unfolding as_source
  source_same r at = elim (cases_Bool (holds c.origins r)) [
    | inl origin ↦ rw origin refl
    | inr not_one ↦
        let router : is_router net r ≡ true = lt-ltb _ _ (below_from_In r (length net.routers) at) in
        let place : IsPlace net c r None = and_from (is_router net r) (not (holds c.origins r)) router (not_from_false (holds c.origins r) not_one) in
        ap₂ (λ (n : Option ℕ) (t : Bool). if holds c.origins r then None else Some (standing_of n t)) (same_rank r None place) (passes_same r at)
  ]

  origin_same : (r : ℕ) → IsIn routers r → as_origin c a r ≡ as_origin c b r
  unfolding as_origin
  origin_same r at = ap (λ (t : Bool). if holds c.origins r then Some (end_of t) else None) (passes_same r at)

  session_same : c.external ≡ false → (link : ℕ × ℕ) → IsIn (sessions_of net) link → as_session a link ≡ as_session b link
  unfolding as_session
  session_same inner link at =
      let test = (IsIn-filter_parts (λ (l : ℕ × ℕ). is_router net l.0 && is_peer net l.1) net.links link at).1 in
      ap (λ (n : Option ℕ). Some (standing_of n false)) (same_rank link.0 (Some link.1) (inner, test))

  sessions_same : (external : Bool) → c.external ≡ external
      → (if external then [] else map (as_session a) (sessions_of net)) ≡ (if external then [] else map (as_session b) (sessions_of net))
  sessions_same true is = refl
  sessions_same false is = map_same (as_session a) (as_session b) (sessions_of net) (session_same is)

  pub row_same : row_of net c a ≡ row_of net c b
  row_same =
      let sources = map_same (as_source c a) (as_source c b) routers source_same in
      let origins = map_same (as_origin c a) (as_origin c b) routers origin_same in
      let sessions = sessions_same c.external refl in
      λ i. record { routers = sources i; origins = origins i; sessions = sessions i }

  pub takes_same : takes net c a ≡ takes net c b
  takes_same = ap (λ t. c.external && t) (any_same a.passes b.passes routers passes_same)

  has_same : (n : ℕ) (site : ℕ × Option ℕ) → IsIn (sites net) site → a.has_rank site.0 site.1 n ≡ b.has_rank site.0 site.1 n
  has_same n site at =
      let is = listed_site net site.0 site.1 at in
      one_test (a.has_rank site.0 site.1 n) (b.has_rank site.0 site.1 n) (one.have site.0 site.1 n is) (other.have site.0 site.1 n is)

  pub meet_same : (i j : ℕ) → meet_in net a.has_rank i j ≡ meet_in net b.has_rank i j
  meet_same i j = any_same (meet_at a.has_rank i j) (meet_at b.has_rank i j) (sites net) (λ site at. ap₂ (λ t u. t && u) (has_same i site at) (has_same j site at))

-- ---- all cases

module _ (net : PlainNet) (policy : PlainPolicy) where
  -- what the text has of a case
  record IsSame (c : Case) (a b : Promises) : Type 0 where
    row : row_of net c a ≡ row_of net c b
    takes : takes net c a ≡ takes net c b
    meet : (i j : ℕ) → meet_in net a.has_rank i j ≡ meet_in net b.has_rank i j

  abbrev Same : List Case → List Promises → List Promises → Type 0
  Same cs xs bs = (i : ℕ) (c : Case) (a b : Promises) → slice_get cs i ≡ Some c → slice_get xs i ≡ Some a → slice_get bs i ≡ Some b → IsSame c a b

  -- and of all cases, from a number on
  record AreSame (k : ℕ) (cs : List Case) (xs bs : List Promises) : Type 0 where
    rows : rows_of net cs xs ≡ rows_of net cs bs
    taking : taking_cases net k cs xs ≡ taking_cases net k cs bs
    meet : (number i j : ℕ) → ranks_meet net cs xs number i j ≡ ranks_meet net cs bs number i j

  taking_one : (k : ℕ) (c : Case) (a b : Promises) → takes net c a ≡ takes net c b → taking_case net k c a ≡ taking_case net k c b
  taking_one k c a b same = ap (λ (t : Bool). if t then record { number = k; statement = c.statement } ∷ [] else []) same

  all_same : (k : ℕ) (cs : List Case) (xs bs : List Promises) → length xs ≡ length bs → Same cs xs bs → AreSame k cs xs bs
  all_same k [] xs bs size same = record { rows = refl; taking = refl; meet = λ number i j. refl }
  all_same k (c ∷ cs) [] [] size same = record { rows = refl; taking = refl; meet = λ number i j. refl }
  all_same k (c ∷ cs) [] (b ∷ bs) size same = absurd (cc)
  all_same k (c ∷ cs) (a ∷ xs) [] size same = absurd (cc)
  all_same k (c ∷ cs) (a ∷ xs) (b ∷ bs) size same =
      let fewer : length xs ≡ length bs = omega (arith, size) in
      let rest = all_same (suc k) cs xs bs fewer (λ i d x y at one other. same (suc i) d x y at one other) in
      let first = same 0 c a b refl refl refl in
      record {
        rows = ap₂ (λ (x : Row) (xs : List Row). x ∷ xs) first.row rest.rows;
        taking = ap₂ (λ (x y : List OpenCase). x ++ y) (taking_one k c a b first.takes) rest.taking;
        meet = λ number i j. ap₂ (λ t u. t || u) (ap (λ t. c.statement == number && t) (first.meet i j)) (rest.meet number i j);
      }

  pub one_text : (config other_config : PlainConfig) (one other : List ℕ) → IsPromisesText net policy config one → IsPromisesText net policy other_config other → one ≡ other
  one_text config other_config one other x y =
      let cs = case_list net policy in
      let same = all_same 1 cs x.promises y.promises (x.size ∙ sym y.size) each in
      let apart : apart_ranks net policy cs x.promises ≡ apart_ranks net policy cs y.promises =
      ap (λ (met : ℕ → ℕ → ℕ → Bool). all_apart met 1 policy.statements) (same_everywhere (ranks_meet net cs x.promises) (ranks_meet net cs y.promises) same.meet) in
      let whole = ap₂ (λ (rs : List Row) (ts : List OpenCase).
      statements_text net policy (groups_of net policy 1 cs rs []) 1 policy.statements
      ++ last_lines policy (length cs) (counts_in net policy cs rs) ts (open_parts policy ts) (apart_ranks net policy cs x.promises)) same.rows same.taking
      ∙ ap (λ (ps : List ApartRanks).
      statements_text net policy (groups_of net policy 1 cs (rows_of net cs y.promises) []) 1 policy.statements
      ++ last_lines policy (length cs) (counts_in net policy cs (rows_of net cs y.promises)) (taking_cases net 1 cs y.promises) (open_parts policy (taking_cases net 1 cs y.promises)) ps) apart in
      x.spelled ∙ whole ∙ sym y.spelled
    where
      each : Same (case_list net policy) x.promises y.promises
      each i c a b at first second =
          let s = (case_known net policy i c at).statement in
          let a_is = x.each i c s.0 a at s.1 first in
          let b_is = y.each i c s.0 b at s.1 second in
          record {
            row = row_same net s.0 c a b a_is.promised b_is.promised;
            takes = takes_same net s.0 c a b a_is.promised b_is.promised;
            meet = meet_same net s.0 c a b a_is.promised b_is.promised;
          }
