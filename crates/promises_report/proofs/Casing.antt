-- One case more.
use Rattle.std.proofs.Common.{◌≡◌, ℕ, ◌+◌, ◌≤◌, suc, Bool, true, false, List, [], ◌∷◌, ◌++◌, append-nil, append_assoc, length, map, refl, sym, ap, ap₂, ◌∙◌, arith}
use Rattle.std.specs.Prelude.{◌&&◌, if◌then◌else◌}
use Rattle.std.proofs.lemmas.List.{length-append, length-map, map-append}
use Rattle.std.proofs.lemmas.List.Sums.{count_by-le-length, length-filter}
use Rattle.net_base.specs.Locations.{numbers_below}
use Rattle.net_base.specs.Network.{PlainNet, is_peer, is_router}
use Rattle.net_base.proofs.NumbersBelow.{length-numbers_below}
use Rattle.policy_base.specs.declared.case.Case.{Case}
use Rattle.policy_base.specs.Policies.{PlainPolicy}
use Rattle.evidence_base.specs.Made.{PlainCaseEvidence}
use Rattle.own_space.specs.declared.open_case.OpenCase.{OpenCase}
use Rattle.promises_report.specs.Promises.{Promises}
use Rattle.promises_report.specs.Telling.{IsTold}
use Rattle.promises_report.specs.declared.counts.Counts.{Counts}
use Rattle.promises_report.specs.declared.group.Group.{Group}
use Rattle.promises_report.specs.Groups.{alone, groups_of, joined, rows_of}
use Rattle.promises_report.specs.Places.{sessions_of}
use Rattle.promises_report.specs.Standings.{Row, as_origin, as_session, as_source, row_of, session_row}
use Rattle.promises_report.specs.Taking.{taking_case, taking_cases}
use Rattle.promises_report.specs.Cases.{AreTold, TellsCase, TellsCases, cases_of}
use Rattle.promises_report.specs.Counting.{case_counts, counts_in, no_counts, sum_of}

pub told_more : (net : PlainNet) (ds : List PlainCaseEvidence) (xs : List Promises) (d : PlainCaseEvidence) (a : Promises) → AreTold net ds xs
    → IsTold net d a → AreTold net (ds ++ d ∷ []) (xs ++ a ∷ [])
told_more net [] [] d a told one = (one, tt)
told_more net [] (b ∷ xs) d a told one = absurd told
told_more net (e ∷ ds) [] d a told one = absurd told
told_more net (e ∷ ds) (b ∷ xs) d a told one = (told.0, told_more net ds xs d a told.1 one)

pub told_size : (net : PlainNet) (ds : List PlainCaseEvidence) (xs : List Promises) → AreTold net ds xs → length ds ≡ length xs
told_size net [] [] told = refl
told_size net [] (b ∷ xs) told = absurd told
told_size net (e ∷ ds) [] told = absurd told
told_size net (e ∷ ds) (b ∷ xs) told = ap suc (told_size net ds xs told.1)

-- ---- counts

pub counts_same : (a b : Counts) → a.unclaimed ≡ b.unclaimed → a.transit ≡ b.transit → a.covered ≡ b.covered → a.unused ≡ b.unused → a ≡ b
counts_same a b unclaimed transit covered unused = λ i. record { unclaimed = unclaimed i; transit = transit i; covered = covered i; unused = unused i }

sum_none : (a : Counts) → sum_of a no_counts ≡ sum_of no_counts a
sum_none a = counts_same (sum_of a no_counts) (sum_of no_counts a) (omega arith) (omega arith) (omega arith) (omega arith)

sum_assoc : (a b c : Counts) → sum_of a (sum_of b c) ≡ sum_of (sum_of a b) c
sum_assoc a b c = counts_same (sum_of a (sum_of b c)) (sum_of (sum_of a b) c) (omega arith) (omega arith) (omega arith) (omega arith)

abbrev pub case_of : PlainCaseEvidence → Case
case_of d = d.case

module _ (net : PlainNet) (policy : PlainPolicy) where
  rows_more : (cs : List Case) (xs : List Promises) (c : Case) (a : Promises) → length cs ≡ length xs
      → rows_of net (cs ++ c ∷ []) (xs ++ a ∷ []) ≡ rows_of net cs xs ++ row_of net c a ∷ []
  rows_more [] [] c a same = refl
  rows_more [] (b ∷ xs) c a same = absurd (cc)
  rows_more (e ∷ cs) [] c a same = absurd (cc)
  rows_more (e ∷ cs) (b ∷ xs) c a same =
      let fewer : length cs ≡ length xs = omega (arith, same) in
      ap (λ (rs : List Row). row_of net e b ∷ rs) (rows_more cs xs c a fewer)

  rows_size : (cs : List Case) (xs : List Promises) → length cs ≡ length xs → length cs ≡ length (rows_of net cs xs)
  rows_size [] xs same = refl
  rows_size (e ∷ cs) [] same = absurd (cc)
  rows_size (e ∷ cs) (b ∷ xs) same = let fewer : length cs ≡ length xs = omega (arith, same) in ap suc (rows_size cs xs fewer)

  groups_more : (k : ℕ) (cs : List Case) (xs : List Row) (c : Case) (x : Row) (gs : List Group) → length cs ≡ length xs
      → groups_of net policy k (cs ++ c ∷ []) (xs ++ x ∷ []) gs ≡ joined (alone net policy (k + length cs) c x) (groups_of net policy k cs xs gs)
  groups_more k [] [] c x gs same =
      let here : k ≡ k + 0 = omega arith in
      ap (λ n. joined (alone net policy n c x) gs) here
  groups_more k [] (y ∷ xs) c x gs same = absurd (cc)
  groups_more k (e ∷ cs) [] c x gs same = absurd (cc)
  groups_more k (e ∷ cs) (y ∷ xs) c x gs same =
      let fewer : length cs ≡ length xs = omega (arith, same) in
      let next : suc k + length cs ≡ k + suc (length cs) = omega arith in
      let hs = joined (alone net policy k e y) gs in
      groups_more (suc k) cs xs c x hs fewer ∙ ap (λ n. joined (alone net policy n c x) (groups_of net policy (suc k) cs xs hs)) next

  counts_more : (cs : List Case) (xs : List Row) (c : Case) (x : Row) → length cs ≡ length xs
      → counts_in net policy (cs ++ c ∷ []) (xs ++ x ∷ []) ≡ sum_of (counts_in net policy cs xs) (case_counts net policy c x)
  counts_more [] [] c x same = sum_none (case_counts net policy c x)
  counts_more [] (y ∷ xs) c x same = absurd (cc)
  counts_more (e ∷ cs) [] c x same = absurd (cc)
  counts_more (e ∷ cs) (y ∷ xs) c x same =
      let fewer : length cs ≡ length xs = omega (arith, same) in
      let first = case_counts net policy e y in
      ap (sum_of first) (counts_more cs xs c x fewer) ∙ sum_assoc first (counts_in net policy cs xs) (case_counts net policy c x)

  taking_more : (k : ℕ) (cs : List Case) (xs : List Promises) (c : Case) (a : Promises) → length cs ≡ length xs
      → taking_cases net k (cs ++ c ∷ []) (xs ++ a ∷ []) ≡ taking_cases net k cs xs ++ taking_case net (k + length cs) c a
  taking_more k [] [] c a same =
      let here : k ≡ k + 0 = omega arith in
      append-nil (taking_case net k c a) ∙ ap (λ n. taking_case net n c a) here
  taking_more k [] (b ∷ xs) c a same = absurd (cc)
  taking_more k (e ∷ cs) [] c a same = absurd (cc)
  taking_more k (e ∷ cs) (b ∷ xs) c a same =
      let fewer : length cs ≡ length xs = omega (arith, same) in
      let next : suc k + length cs ≡ k + suc (length cs) = omega arith in
      ap (λ (t : List OpenCase). taking_case net k e b ++ t) (taking_more (suc k) cs xs c a fewer ∙ ap (λ n. taking_cases net (suc k) cs xs ++ taking_case net n c a) next)
      ∙ sym (append_assoc (taking_case net k e b) (taking_cases net (suc k) cs xs) (taking_case net (k + suc (length cs)) c a))

  -- ---- as more is told

  pub tells_none : TellsCases net policy [] [] no_counts []
  tells_none = record { promises = []; told = tt; groups_are = refl; counts_are = refl; taking_are = refl; room = omega arith }

  -- a case that may take what peers announce
  abbrev pub noted : Bool → ℕ → PlainCaseEvidence → List OpenCase
  noted takes_some number d = if takes_some then record { number = number; statement = d.case.statement } ∷ [] else []

  pub tells_more : (ds : List PlainCaseEvidence) (d : PlainCaseEvidence) (groups : List Group) (group : Group) (m n : Counts) (taking : List OpenCase) (takes_some : Bool) (number : ℕ)
      → number ≡ 1 + length ds → TellsCases net policy ds groups m taking → TellsCase net policy number d group n takes_some
      → TellsCases net policy (ds ++ d ∷ []) (joined group groups) (sum_of m n) (taking ++ noted takes_some number d)
  tells_more ds d groups group m n taking takes_some number is x y =
      let cs = cases_of ds in
      let rows = rows_of net cs x.promises in
      let row = row_of net d.case y.promises in
      let xs = x.promises ++ y.promises ∷ [] in
      let sizes : length ds ≡ length cs = sym (length-map ds case_of) in
      let same : length cs ≡ length x.promises = length-map ds case_of ∙ told_size net ds x.promises x.told in
      let fit : length cs ≡ length rows = rows_size cs x.promises same in
      let place : 1 + length cs ≡ number = omega (arith, is, sizes) in
      let all : cases_of (ds ++ d ∷ []) ≡ cs ++ d.case ∷ [] = map-append case_of ds (d ∷ []) in
      let all_rows : rows_of net (cases_of (ds ++ d ∷ [])) xs ≡ rows ++ row ∷ [] =
      ap (λ (es : List Case). rows_of net es xs) all ∙ rows_more cs x.promises d.case y.promises same in
      let grouped : groups_of net policy 1 (cases_of (ds ++ d ∷ [])) (rows_of net (cases_of (ds ++ d ∷ [])) xs) []
      ≡ joined (alone net policy number d.case row) (groups_of net policy 1 cs rows []) =
      ap₂ (λ (es : List Case) (rs : List Row). groups_of net policy 1 es rs []) all all_rows ∙ groups_more 1 cs rows d.case row [] fit
      ∙ ap (λ k. joined (alone net policy k d.case row) (groups_of net policy 1 cs rows [])) place in
      let counted : counts_in net policy (cases_of (ds ++ d ∷ [])) (rows_of net (cases_of (ds ++ d ∷ [])) xs) ≡ sum_of (counts_in net policy cs rows) (case_counts net policy d.case row) =
      ap₂ (λ (es : List Case) (rs : List Row). counts_in net policy es rs) all all_rows ∙ counts_more cs rows d.case row fit in
      let took : taking_cases net 1 (cases_of (ds ++ d ∷ [])) xs ≡ taking_cases net 1 cs x.promises ++ taking_case net number d.case y.promises =
      ap (λ (es : List Case). taking_cases net 1 es xs) all ∙ taking_more 1 cs x.promises d.case y.promises same
      ∙ ap (λ k. taking_cases net 1 cs x.promises ++ taking_case net k d.case y.promises) place in
      let longer : length (ds ++ d ∷ []) ≡ length ds + 1 = length-append ds (d ∷ []) in
      record {
        promises = xs;
        told = told_more net ds x.promises d y.promises x.told y.told;
        groups_are = ap₂ joined y.group_is x.groups_are ∙ sym grouped;
        counts_are = ap₂ sum_of x.counts_are y.counts_are ∙ sym counted;
        taking_are = ap₂ (λ (t : List OpenCase) (b : Bool). t ++ noted b number d) x.taking_are y.takes_are ∙ sym took;
        room = omega (arith, x.room, y.room, longer);
      }

  -- ---- how many there are in a case

  pub router_rows : (c : Case) (a : Promises) → (length (row_of net c a).routers ≡ length net.routers) × (length (row_of net c a).origins ≡ length net.routers)
  router_rows c a =
      let below = length-numbers_below (length net.routers) in
      (length-map (numbers_below (length net.routers)) (as_source c a) ∙ below, length-map (numbers_below (length net.routers)) (as_origin c a) ∙ below)

  pub session_rows : (c : Case) (a : Promises) → length (session_row net c a) ≤ length net.links
  session_rows c a = by c.external
    where
      by : (b : Bool) → length (if b then [] else map (as_session a) (sessions_of net)) ≤ length net.links
      by true = omega arith
      by false =
          let test = λ (link : ℕ × ℕ). is_router net link.0 && is_peer net link.1 in
          let few = count_by-le-length test net.links in
          omega (arith, length-map (sessions_of net) (as_session a), length-filter test net.links, few)
