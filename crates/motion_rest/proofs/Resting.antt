-- Networks whose evidence passes come to rest: first what stands behind routes is current, then one router settles after the other, and
-- after one more round all is heard.
use Rattle.std.proofs.Common.{◌≡◌, ℕ, ◌<◌, ◌≤◌, ◌+◌, zero, suc, Bool, true, false, List, [], length, Option, Some, None, sym, ap, ◌∙◌, subst, inl, inr, arith}
use Rattle.std.specs.Prelude.{◌&&◌, option_map}
use Rattle.std.specs.Option.{option_and_then}
use Rattle.std.proofs.Math.Nat.{mul-add}
use Rattle.std.proofs.lemmas.Bool.{and_from, cases_Bool, cond-true, cond-false, ltb-true, not_from_false}
use Rattle.list_law.proofs.Options.{none_from, none_or_some}
use Rattle.net_base.specs.Network.{PlainNet, IsNet, is_router}
use Rattle.net_base.specs.Prefixes.{PlainPrefix, IsPrefix}
use Rattle.policy_base.specs.Policies.{PlainPolicy, IsPolicyOf}
use Rattle.policy_base.specs.Governing.{is_origin}
use Rattle.config_base.specs.Configs.{PlainConfig}
use Rattle.config_base.specs.Lines.{class_of, export_of, own_route}
use Rattle.evidence_base.specs.Made.{PlainCaseEvidence}
use Rattle.outcome_base.specs.Announcements.{Announced, FullRoute, taken_under}
use Rattle.outcome_base.specs.Outcomes.{Failures, is_dead, is_live, no_failures}
use Rattle.evidence_law.specs.Passes.{Passes}
use Rattle.evidence_law.proofs.Setting.{network_of}
use Rattle.settled_law.proofs.SettledLaw.{CaseFound, case_or_bare}
use Rattle.routing_law.specs.Graph as graph
use Rattle.routing_law.specs.Outcome as outcomes
use Rattle.event_law.proofs.Offers.{lines_here}
use Rattle.steady_law.specs.Histories.{rounds_needed}
use Rattle.steady_law.proofs.Settle.{ties_settle}
use Rattle.motion_law.specs.Motion.{Motion, Move, announced, at_the_start, gift, has_to_say, picked, told, with_tag}
use Rattle.motion_law.specs.Rounds.{IsCalm, IsRound, Schedule, world_at}
use Rattle.motion_law.proofs.Ever.{Graph}
use Rattle.motion_law.proofs.Kept.{IsKept, after-kept, start-kept}
use Rattle.motion_law.proofs.Within.{AreKinds, after-kinds, start-kinds}
use Rattle.motion_rest.proofs.Choices.{picked_some}
use Rattle.motion_rest.proofs.End.{at_rest, dead, m, own, picks}
use Rattle.motion_rest.proofs.Fair.{rounds_come}
use Rattle.motion_rest.proofs.History.{Set, are_rounds, h, holds_runs, is_steady, routes_same, says_same, size, sized}
use Rattle.motion_rest.proofs.Match.{full_held}
use Rattle.motion_rest.proofs.Sources.{later}
use Rattle.motion_rest.proofs.Still.{marks_at}
use Rattle.motion_rest.specs.Rest.{AreRounds, IsAtRestIn, IsScenarioIn, PassingEvidenceRests, RestsFrom, rounds_enough, world_before}

-- ---- the times of rounds

module _ (net : PlainNet) (policy : PlainPolicy) (config : PlainConfig) (p : PlainPrefix) (s : Schedule) (w : Motion) where
  abbrev Rounds : ℕ → ℕ → ℕ → Type 0
  Rounds = AreRounds net policy config p s w

  abbrev time_of : (i k start end : ℕ) → Rounds k start end → ℕ
  time_of zero k start end rs = start
  time_of (suc i) zero start end rs = end
  time_of (suc i) (suc k) start end rs = time_of i k rs.0 end rs.2

  begins : (k start end : ℕ) (rs : Rounds k start end) → start ≤ end
  begins zero start end rs = rs
  begins (suc k) start end rs = (let o = rs.1.order in let n = begins k rs.0 end rs.2 in omega (arith, o.0, o.1, o.2, n))

  grow : (i k start end : ℕ) (rs : Rounds k start end) → time_of i k start end rs ≤ time_of (suc i) k start end rs
  grow zero zero start end rs = rs
  grow zero (suc k) start end rs = (let o = rs.1.order in omega (arith, o.0, o.1, o.2))
  grow (suc i) zero start end rs = omega arith
  grow (suc i) (suc k) start end rs = grow i k rs.0 end rs.2

  by_end : (i k start end : ℕ) (rs : Rounds k start end) → time_of i k start end rs ≤ end
  by_end zero k start end rs = begins k start end rs
  by_end (suc i) zero start end rs = omega arith
  by_end (suc i) (suc k) start end rs = by_end i k rs.0 end rs.2

  round_of : (i k start end : ℕ) (rs : Rounds k start end) → i < k → IsRound net policy config p s w (time_of i k start end rs) (time_of (suc i) k start end rs)
  round_of i zero start end rs l = absurd (omega (arith, l))
  round_of zero (suc k) start end rs l = rs.1
  round_of (suc i) (suc k) start end rs l = round_of i k rs.0 end rs.2 (omega (arith, l))

-- the k-th after so many
abbrev after : ℕ → ℕ → ℕ
after n zero = n
after n (suc k) = suc (after n k)

after_is : (n k : ℕ) → after n k ≡ k + n
after_is n zero = omega arith
after_is n (suc k) = (let e = after_is n k in omega (arith, e))

-- ---- without a class routers say nothing

module _ (net : PlainNet) (policy : PlainPolicy) (config : PlainConfig) (p : PlainPrefix) (free : class_of config p ≡ None) (s : Schedule) (calm : IsCalm s) (w : Motion) (keeps : IsKept net policy config p w) where
  abbrev X : ℕ → Motion
  X t = world_at net policy config p s w t

  told_none : (a b : ℕ) (o : Option FullRoute) → told net policy config p a b o ≡ None
  told_none a b o = ap (option_and_then (λ class. option_and_then (λ (t : FullRoute). option_map (with_tag net policy config p t) (export_of net config class a b t.route.tag)) o)) free

  same_bare : (a b t i : ℕ) → has_to_say net policy config p (X t) a b ≡ has_to_say net policy config p (X i) a b
  same_bare a b t i = elim (cases_Bool (is_router net a)) [
    | inl router ↦ says_none t router ∙ sym (says_none i router)
    | inr off ↦
        cond-false (is_router net a) (told net policy config p a b ((X t).route a)) (option_map (announced net policy config p a) ((X t).says a b)) off
        ∙ ap (λ (g : ℕ → ℕ → Option Announced). option_map (announced net policy config p a) (g a b)) ((marks_at net policy config p s calm w keeps t).says ∙ sym (marks_at net policy config p s calm w keeps i).says)
        ∙ sym (cond-false (is_router net a) (told net policy config p a b ((X i).route a)) (option_map (announced net policy config p a) ((X i).says a b)) off)
  ]
    where
      says_none : (t : ℕ) → is_router net a ≡ true → has_to_say net policy config p (X t) a b ≡ None
      says_none t router = cond-true (is_router net a) (told net policy config p a b ((X t).route a)) (option_map (announced net policy config p a) ((X t).says a b)) router ∙ told_none a b ((X t).route a)

  -- so nobody but an origin holds anything after a round
  module _ (rules : IsNet net) (f : Failures) (scenario : IsScenarioIn net w f) (start end : ℕ) (round : IsRound net policy config p s w start end) where
    abbrev same_now : (a b t : ℕ) → is_live net f a b ≡ true → start ≤ t → has_to_say net policy config p (X t) a b ≡ has_to_say net policy config p (X start) a b
    same_now a b t live l = same_bare a b t start

    ungiven : (now r u : ℕ) → gift net policy config p (X now) r u ≡ None
    ungiven now r u = ap (option_and_then (λ class. option_and_then (taken_under net config class r u) ((X now).heard u r))) free

    bare_stays : (t i r : ℕ) → end ≤ t → end ≤ i → is_router net r ≡ true → (X t).route r ≡ (X i).route r
    bare_stays t i r late late' router = elim (cases_Bool (is_dead f r)) [
      | inl d ↦ gone t late d ∙ sym (gone i late' d)
      | inr up ↦ elim (cases_Bool (is_origin net policy p r)) [
        | inl o ↦ mine t late up o ∙ sym (mine i late' up o)
        | inr o ↦ nothing t late up o ∙ sym (nothing i late' up o)
      ]
    ]
      where
        gone : (t : ℕ) → end ≤ t → is_dead f r ≡ true → (X t).route r ≡ None
        gone t late d = sym (full_held net (X t) r router) ∙ dead net policy config p rules f w scenario s calm keeps start end round same_now t late r d

        mine : (t : ℕ) → end ≤ t → is_dead f r ≡ false → is_origin net policy p r ≡ true → (X t).route r ≡ Some (record { route = own_route net config p r; behind = [] })
        mine t late up o =
            sym (full_held net (X t) r router)
            ∙ own net policy config p rules f w scenario s calm keeps start end round same_now t late r
            (and_from (is_router net r && is_origin net policy p r) _ (and_from (is_router net r) _ router o) (not_from_false _ up))

        nothing : (t : ℕ) → end ≤ t → is_dead f r ≡ false → is_origin net policy p r ≡ false → (X t).route r ≡ None
        nothing t late up o =
            let made = m net policy config p rules f w scenario s calm keeps start end round same_now t late r router o up in
            picks net policy config p rules f w scenario s calm keeps start end round same_now t late r router o up
            ∙ none_from (picked net policy config p (X made.time) r made.by) (λ x e.
            let top = picked_some net policy config p rules (X made.time) r made.by x e in
            none_or_some (gift net policy config p (X made.time) r top.0) x (ungiven made.time r top.0) top.2)

-- ---- with one

module _ (net : PlainNet) (policy : PlainPolicy) (config : PlainConfig) (cs : List PlainCaseEvidence) (rules : IsNet net)
    (kept : IsPolicyOf net policy) (passes : Passes net policy config cs) (p : PlainPrefix) (prefix : IsPrefix p)
    (c : CaseFound net policy config cs rules kept passes no_failures p) (f : Failures) (w : Motion) (scenario : IsScenarioIn net w f)
    (s : Schedule) (calm : IsCalm s) (keeps : IsKept net policy config p w) (kinds : AreKinds net policy config p rules w)
    (time : ℕ → ℕ) (grows : (k : ℕ) → time k ≤ time (suc k)) (rounds : (k : ℕ) → k < rounds_enough net → IsRound net policy config p s w (time k) (time (suc k))) where
  abbrev n : ℕ
  n = length net.routers

  abbrev all : ℕ
  all = rounds_needed n

  -- the rounds until the numbers behind routes are those of now, those until all is settled, and one
  in_all : rounds_enough net ≡ suc (all + n)
  in_all = omega (arith, mul-add n n 3, mul-add n n 2)

  one : 0 < rounds_enough net
  one = omega arith

  few : n ≤ rounds_enough net
  few = omega (arith, in_all)

  -- the last round begins
  abbrev last : ℕ
  last = after n all

  last_within : last < rounds_enough net
  last_within = (let e = after_is n all in omega (arith, e, in_all))

  meets : graph.MeetsRules (network_of net (is_origin net policy p)) (Graph net policy config cs rules kept passes p prefix c)
  meets = subst (λ (o : ℕ → Bool). graph.MeetsRules (network_of net o) (Graph net policy config cs rules kept passes p prefix c)) c.same c.numbers

  abbrev S : outcomes.Setup
  S = Set net policy config cs rules kept passes p prefix c f w scenario s calm keeps kinds time grows (rounds_enough net) rounds one few

  abbrev hs : ℕ → outcomes.Routes
  hs = h net policy config cs rules kept passes p prefix c f w scenario s calm keeps kinds time grows (rounds_enough net) rounds one few

  settled : (r : outcomes.Routes) × ((t v : ℕ) → time last ≤ t → hs t v ≡ r v)
  settled =
      let a =
      ties_settle S (size net policy config cs rules kept passes p prefix c f w scenario s calm keeps kinds time grows (rounds_enough net) rounds one few) n
      (λ v k. ltb-true v n k) (sized net policy config cs rules kept passes p prefix c f w scenario s calm keeps kinds time grows (rounds_enough net) rounds one few)
      (lines_here net policy config cs rules kept passes p no_failures c).formed meets hs (λ k. time (after n k))
      (holds_runs net policy config cs rules kept passes p prefix c f w scenario s calm keeps kinds time grows (rounds_enough net) rounds one few)
      (λ k. grows (after n k))
      (λ k l. (
        are_rounds net policy config cs rules kept passes p prefix c f w scenario s calm keeps kinds time grows (rounds_enough net) rounds one few (after n k) (within k l) (above k),
        is_steady net policy config cs rules kept passes p prefix c f w scenario s calm keeps kinds time grows (rounds_enough net) rounds one few (after n k) (within k l) (above k),
      )) in
      (a.0, a.1)
    where
      within : (k : ℕ) → k ≤ all → after n k < rounds_enough net
      within k l = (let e = after_is n k in omega (arith, l, e, in_all))

      above : (k : ℕ) → n ≤ after n k
      above k = (let e = after_is n k in omega (arith, e))

  late_enough : (t : ℕ) → time last ≤ t → time n ≤ t
  late_enough t l =
      let a = later net policy config cs rules kept passes p prefix c f w scenario s calm keeps kinds time grows (rounds_enough net) rounds n all in
      let f = after_is n all in
      let e : n + all ≡ last = omega (arith, f) in
      let b : time (n + all) ≡ time last = ap time e in
      omega (arith, a, b, l)

  same : (a b t : ℕ) → is_live net f a b ≡ true → time last ≤ t
      → has_to_say net policy config p (world_at net policy config p s w t) a b ≡ has_to_say net policy config p (world_at net policy config p s w (time last)) a b
  same a b t live k =
      says_same net policy config cs rules kept passes p prefix c f w scenario s calm keeps kinds time grows (rounds_enough net) rounds one few t (time last) a b (late_enough t k)
      (late_enough (time last) (omega arith)) live (settled.1 t a k ∙ sym (settled.1 (time last) a (omega arith)))

  rests : (t : ℕ) → time (suc last) ≤ t → IsAtRestIn net policy config p f w.says (world_at net policy config p s w t)
  rests t l = at_rest net policy config p rules f w scenario s calm keeps (time last) (time (suc last)) (rounds last last_within) same t l

  stays : (t i r : ℕ) → time (suc last) ≤ t → time (suc last) ≤ i → is_router net r ≡ true → (world_at net policy config p s w t).route r ≡ (world_at net policy config p s w i).route r
  stays t i r late late' router = elim (cases_Bool (is_dead f r)) [
    | inl d ↦ gone t late d ∙ sym (gone i late' d)
    | inr up ↦
        routes_same net policy config cs rules kept passes p prefix c f w scenario s calm keeps kinds time grows (rounds_enough net) rounds one few t i r (late_enough t (since_last t late))
        (late_enough i (since_last i late')) router (sym (scenario.dead r) ∙ up) (settled.1 t r (since_last t late) ∙ sym (settled.1 i r (since_last i late')))
  ]
    where
      since_last : (t : ℕ) → time (suc last) ≤ t → time last ≤ t
      since_last t l = (let g = grows last in omega (arith, g, l))

      gone : (t : ℕ) → time (suc last) ≤ t → is_dead f r ≡ true → (world_at net policy config p s w t).route r ≡ None
      gone t late d =
          sym (full_held net (world_at net policy config p s w t) r router)
          ∙ dead net policy config p rules f w scenario s calm keeps (time last) (time (suc last)) (rounds last last_within) same t late r d

-- ---- both

module _ (net : PlainNet) (policy : PlainPolicy) (config : PlainConfig) (cs : List PlainCaseEvidence) (rules : IsNet net)
    (kept : IsPolicyOf net policy) (passes : Passes net policy config cs) (p : PlainPrefix) (prefix : IsPrefix p) (w : Motion)
    (keeps : IsKept net policy config p w) (kinds : AreKinds net policy config p rules w) where
  rests_from : (f : Failures) (s : Schedule) (end : ℕ) → IsScenarioIn net w f → IsCalm s → AreRounds net policy config p s w (rounds_enough net) 0 end → RestsFrom net policy config p f s w end
  rests_from f s end scenario calm rs t late =
      let k = rounds_enough net in
      let time : ℕ → ℕ = λ i. time_of net policy config p s w i k 0 end rs in
      let rounds : (i : ℕ) → i < k → IsRound net policy config p s w (time i) (time (suc i)) = λ i l. round_of net policy config p s w i k 0 end rs l in
      let grows : (i : ℕ) → time i ≤ time (suc i) = λ i. grow net policy config p s w i k 0 end rs in
      elim (case_or_bare net policy config cs rules kept passes no_failures p prefix) [
        | inr free ↦ (
            let m = by_end net policy config p s w 1 k 0 end rs in
            let first = rounds 0 (omega arith) in (
              at_rest net policy config p rules f w scenario s calm keeps (time 0) (time 1) first (λ a b i live j. same_bare net policy config p free s calm w keeps a b i (time 0)) t (omega (arith, m, late)),
              λ r router. bare_stays net policy config p free s calm w keeps rules f scenario (time 0) (time 1) first t end r (omega (arith, m, late)) m router,
            ))
        | inl c ↦ (
            let last = after (length net.routers) (rounds_needed (length net.routers)) in
            let m = by_end net policy config p s w (suc last) k 0 end rs in (
              rests net policy config cs rules kept passes p prefix c f w scenario s calm keeps kinds time grows rounds t (omega (arith, m, late)),
              λ r router. stays net policy config cs rules kept passes p prefix c f w scenario s calm keeps kinds time grows rounds t end r (omega (arith, m, late)) m router,
            ))
      ]

pub passing_evidence_rests : PassingEvidenceRests
passing_evidence_rests net policy config cs rules kept passes p prefix = record {
  rounds = rounds;
  fair = λ before f s scenario calm fair.
      let all = rounds_come net policy config p rules s calm (world_before net policy config p before) (keeps before) fair (rounds_enough net) 0 in
      (all.0, rounds before f s all.0 scenario calm all.1);
}
  where
    keeps : (before : List Move) → IsKept net policy config p (world_before net policy config p before)
    keeps before = after-kept net policy config p before (at_the_start net policy config p) (start-kept net policy config p)

    rounds : (before : List Move) (f : Failures) (s : Schedule) (end : ℕ) → IsScenarioIn net (world_before net policy config p before) f → IsCalm s
        → AreRounds net policy config p s (world_before net policy config p before) (rounds_enough net) 0 end → RestsFrom net policy config p f s (world_before net policy config p before) end
    rounds before f s end scenario calm rs t late =
        rests_from net policy config cs rules kept passes p prefix (world_before net policy config p before) (keeps before)
        (after-kinds net policy config p rules before (at_the_start net policy config p) (start-kinds net policy config p rules)) f s end scenario calm rs t late
