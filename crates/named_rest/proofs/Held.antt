-- In a stable outcome each route may be held, and what stands behind it is what the peer at its end says: place by place, from the end.
use Rattle.std.proofs.Common.{◌≡◌, ℕ, ◌<◌, ◌≤◌, zero, suc, Bool, true, false, List, [], ◌∷◌, length, Option, Some, None, refl, sym, ap, ◌∙◌, subst, inl, inr, arith}
use Rattle.std.specs.Prelude.{◌&&◌, not, if◌then◌else◌}
use Rattle.std.proofs.lemmas.Bool.{and_from, and_parts, cases_Bool, cond-true, cond-false, lt-ltb, not_from_false}
use Rattle.std.proofs.lemmas.Option.{same_Some}
use Rattle.list_law.proofs.Options.{none_or_some}
use Rattle.net_base.specs.declared.numbers.Tag.{Tag}
use Rattle.net_base.specs.Network.{PlainNet, IsNet, is_peer, is_router}
use Rattle.net_base.specs.Prefixes.{PlainPrefix}
use Rattle.net_base.proofs.Links.{linked_known}
use Rattle.net_base.proofs.RoutersAndPeers.{router_or_peer}
use Rattle.policy_base.specs.Policies.{PlainPolicy}
use Rattle.policy_base.specs.Governing.{is_origin}
use Rattle.config_base.specs.Configs.{PlainConfig}
use Rattle.config_base.specs.Lines.{class_of, export_of, own_route}
use Rattle.outcome_base.specs.Announcements.{Announced, Announcements, FullOutcome, FullRoute, Sent, IsStableUnder, full_at, given_under, sent_under, taken_under}
use Rattle.outcome_base.specs.Outcomes.{Failures, is_dead, is_silent}
use Rattle.outcome_law.proofs.Inside.{given-parts, router-sends, sent-router, sent-router-refused, taken-parts}
use Rattle.motion_law.specs.Ever.{MayHold, MayHold as may}

-- what a peer says behind its own number
abbrev said_behind : Option Announced → List ℕ
said_behind None = []
said_behind (Some a) = a.behind

-- what stands behind a path: what the peer at its end says to the router before it
abbrev pub tail_of : PlainNet → Announcements → List ℕ → List ℕ
tail_of net says [] = []
tail_of net says (r ∷ []) = []
tail_of net says (r ∷ u ∷ []) = if is_peer net u then said_behind (says u r) else []
tail_of net says (r ∷ u ∷ z ∷ q) = tail_of net says (u ∷ z ∷ q)

module _ (net : PlainNet) (policy : PlainPolicy) (config : PlainConfig) (f : Failures) (says : Announcements) (p : PlainPrefix) (full : FullOutcome) (rules : IsNet net)
    (sized : length full ≡ length net.routers) (stable : IsStableUnder net policy config f says p full) where
  abbrev tail : List ℕ → List ℕ
  tail = tail_of net says

  abbrev given : ℕ → ℕ → Option FullRoute
  given u r = given_under net config f says p full u r

  -- only routers have an entry
  pub holders : (r : ℕ) (t : FullRoute) → full_at full r ≡ Some t → is_router net r ≡ true
  holders r t e = below full r t sized e
    where
      place : (o : FullOutcome) (r : ℕ) (t : FullRoute) → full_at o r ≡ Some t → r < length o
      place [] r t e = absurd (cc)
      place (x ∷ o) zero t e = omega arith
      place (x ∷ o) (suc r) t e = (let l = place o r t e in omega (arith, l))

      below : (o : FullOutcome) (r : ℕ) (t : FullRoute) → length o ≡ length net.routers → full_at o r ≡ Some t → is_router net r ≡ true
      below o r t same e = (let l = place o r t e in lt-ltb r (length net.routers) (omega (arith, l, same)))

  -- what is held, and what is given
  pub record IsHeld (r : ℕ) (t : FullRoute) : Type 0 where
    pub holds : MayHold net policy config p r t
    pub rest : List ℕ
    pub begins : t.route.path ≡ r ∷ rest
    pub back : t.behind ≡ tail t.route.path

  step_tail : (r u : ℕ) (rest : List ℕ) → is_peer net u ≡ false → tail (r ∷ u ∷ rest) ≡ tail (u ∷ rest)
  step_tail r u [] off = cond-false (is_peer net u) (said_behind (says u r)) [] off
  step_tail r u (z ∷ q) off = refl

  abbrev Who : ℕ → Type 0
  Who r = (is_router net r && not (is_origin net policy p r)) ≡ true

  -- what is given of held routes is held by whoever takes it
  of_given : (r u : ℕ) (t : FullRoute) → Who r → given u r ≡ Some t → ((y : FullRoute) → full_at full u ≡ Some y → length y.route.path < length t.route.path → IsHeld u y) → IsHeld r t
  of_given r u t who e shorter =
      let g = given-parts net policy config f says p full u r t e in
      let m = taken-parts net config g.1 r u g.3 t g.5 in
      let link = (and_parts _ _ (and_parts _ _ (and_parts _ _ g.0).0).0).0 in
      elim (cases_Bool (is_peer net u)) [
        | inl peer ↦ of_peer g.1 g.2 g.3 m.1 m.2 peer (is_silent f r u) refl (says u r) refl g.4 g.5
        | inr off ↦ of_router g.1 g.2 g.3 m.1 m.2 off (router_or_peer net u (linked_known net u r rules link).0 off) g.4 g.5
      ]
    where
      of_peer : (class : ℕ) → class_of config p ≡ Some class → (m : Sent) → t.route.path ≡ r ∷ m.path → t.behind ≡ m.behind → is_peer net u ≡ true → (b : Bool) → is_silent f r u ≡ b
          → (o : Option Announced) → says u r ≡ o → sent_under net config f says p full u r ≡ Some m → taken_under net config class r u m ≡ Some t → IsHeld r t
      of_peer class here m path behind peer true q o a e takes = (let clash : None ≡ Some m = sym (rw (q, peer) refl) ∙ e in absurd (cc))
      of_peer class here m path behind peer false q None a e takes = (let clash : None ≡ Some m = sym (rw (q, a, peer) refl) ∙ e in absurd (cc))
      of_peer class here m path behind peer false q (Some o) a e takes =
          let said : Sent = record { path = u ∷ []; behind = o.behind; tag = o.tag } in
          let same : Some said ≡ Some m = sym (rw (q, a, peer) refl) ∙ e in
          let one : said ≡ m = same_Some said m same in
          let at : t.route.path ≡ r ∷ u ∷ [] = path ∙ ap (λ (z : Sent). r ∷ z.path) (sym one) in
          let there : tail (r ∷ u ∷ []) ≡ o.behind = cond-true (is_peer net u) (said_behind (says u r)) [] peer ∙ ap said_behind a in
          record {
            holds = may.of_peer u class o who peer here (subst (λ (z : Sent). taken_under net config class r u z ≡ Some t) (sym one) takes);
            rest = u ∷ [];
            begins = at;
            back = behind ∙ ap (λ (z : Sent). z.behind) (sym one) ∙ sym there ∙ ap tail (sym at);
          }

      of_router : (class : ℕ) → class_of config p ≡ Some class → (m : Sent) → t.route.path ≡ r ∷ m.path → t.behind ≡ m.behind → is_peer net u ≡ false → is_router net u ≡ true
          → sent_under net config f says p full u r ≡ Some m → taken_under net config class r u m ≡ Some t → IsHeld r t
      of_router class here m path behind off router e takes =
          let from = router-sends net policy config f says p full u r m off e in
          by from.0 from.1 from.2 from.3 (export_of net config class u r from.0.route.tag) refl
        where
          by : (y : FullRoute) → full_at full u ≡ Some y → m.path ≡ y.route.path → m.behind ≡ y.behind → (o : Option Tag) → export_of net config class u r y.route.tag ≡ o → IsHeld r t
          by y at same back None x = absurd (none_or_some (sent_under net config f says p full u r) m (sent-router-refused net policy config f says p full class here u r y off at x) e)
          by y at same back (Some tag) x =
              let sent : Some (record { path = y.route.path; behind = y.behind; tag = tag }) ≡ Some m = sym (sent-router net policy config f says p full class here u r y tag off at x) ∙ e in
              let one : record { path = y.route.path; behind = y.behind; tag = tag } ≡ m = same_Some (record { path = y.route.path; behind = y.behind; tag = tag }) m sent in
              let place : t.route.path ≡ r ∷ y.route.path = path ∙ ap (λ (q : List ℕ). r ∷ q) same in
              let long : length t.route.path ≡ suc (length y.route.path) = ap length place in
              let h = shorter y at (omega (arith, long)) in
              let above : tail (r ∷ y.route.path) ≡ tail y.route.path = ap (λ (q : List ℕ). tail (r ∷ q)) h.begins ∙ step_tail r u h.rest off ∙ ap tail (sym h.begins) in
              record {
                holds = may.of_router u class y tag who router h.holds here x (subst (λ (z : Sent). taken_under net config class r u z ≡ Some t) (sym one) takes);
                rest = y.route.path;
                begins = place;
                back = behind ∙ back ∙ h.back ∙ sym above ∙ ap tail (sym place);
              }

  -- what is held is an origin's own, or given
  from_given : (r : ℕ) (t : FullRoute) → full_at full r ≡ Some t → (Who r → (u : ℕ) → given u r ≡ Some t → IsHeld r t) → IsHeld r t
  from_given r t e by = elim (cases_Bool (is_dead f r)) [
    | inl d ↦ absurd (none_or_some (full_at full r) t (stable.dead r d) e)
    | inr up ↦ elim (cases_Bool (is_origin net policy p r)) [
      | inl o ↦ (
          let both = and_from (is_router net r) (is_origin net policy p r) (holders r t e) o in
          let mine = stable.own r (and_from (is_router net r && is_origin net policy p r) _ both (not_from_false _ up)) in
          let own : FullRoute = record { route = own_route net config p r; behind = [] } in
          let same : own ≡ t = same_Some own t (sym mine ∙ e) in
          subst (IsHeld r) same (record { holds = may.own both; rest = []; begins = refl; back = refl }))
      | inr other ↦ (
          let who = and_from (is_router net r) (not (is_origin net policy p r)) (holders r t e) (not_from_false _ other) in
          let x = (stable.chooses r (and_from (is_router net r && not (is_origin net policy p r)) _ who (not_from_false _ up))).given_by t e in
          by who x.0 x.1)
    ]
  ]

  held_within : (n r : ℕ) (t : FullRoute) → length t.route.path ≤ n → full_at full r ≡ Some t → IsHeld r t
  held_within zero r t short e = from_given r t e (λ who u g.
      let parts = given-parts net policy config f says p full u r t g in
      let long : length t.route.path ≡ suc (length parts.3.path) = ap length (taken-parts net config parts.1 r u parts.3 t parts.5).1 in
      absurd (omega (arith, short, long)))
  held_within (suc n) r t short e = from_given r t e (λ who u g. of_given r u t who g (λ y at less. held_within n u y (omega (arith, short, less)) at))

  pub held : (r : ℕ) (t : FullRoute) → full_at full r ≡ Some t → IsHeld r t
  held r t e = held_within (length t.route.path) r t (omega arith) e

  -- so what is given could be held
  pub given_held : (r u : ℕ) (t : FullRoute) → Who r → given u r ≡ Some t → IsHeld r t
  given_held r u t who e = of_given r u t who e (λ y at less. held u y at)
