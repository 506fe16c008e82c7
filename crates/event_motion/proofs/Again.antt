-- Where a router chooses again and sends, and where several do, the two worlds stay the same.
use Rattle.std.proofs.Common.{◌≡◌, ℕ, Bool, true, false, ◌⊎◌, List, [], ◌∷◌, ◌++◌, Option, Some, refl, sym, ap, ◌∙◌, subst, inl, inr}
use Rattle.std.specs.Prelude.{◌&&◌, not, ◌==◌, option_map, unwrap_or, if◌then◌else◌}
use Rattle.std.proofs.lemmas.Bool.{and_from, and_parts, cases_Bool, cond-true, cond-false, eq-eqb, eqb-true}
use Rattle.list_law.proofs.Members.{IsIn-map, IsIn-map_parts, list_any-from_IsIn, list_any_member}
use Rattle.list_law.proofs.Truth.{same_tests}
use Rattle.net_base.specs.Locations.{neighbours}
use Rattle.net_base.specs.Network.{PlainNet, IsNet, is_router, linked}
use Rattle.net_base.specs.Prefixes.{PlainPrefix}
use Rattle.net_base.proofs.Neighbours.{linked_neighbour}
use Rattle.policy_base.specs.Policies.{PlainPolicy}
use Rattle.config_base.specs.declared.route.Route.{Route}
use Rattle.config_base.specs.Configs.{PlainConfig}
use Rattle.event_base.specs.World.{World, at, choice, choose_again, each_again as all_again, is, running, tell, with_choice}
use Rattle.outcome_base.specs.Announcements.{FullRoute}
use Rattle.motion_law.specs.Events.{held_alone}
use Rattle.motion_law.specs.Motion.{Motion, Move, moved}
use Rattle.motion_law.proofs.Within.{AreKinds, after-kinds}
use Rattle.named_rest.specs.Named.{AreNamed, IsNamed}
use Rattle.named_rest.proofs.Naming.{AllHoldFirst, after-first}
use Rattle.event_motion.specs.Playing.{Corresponds, after, again, each_again, names, sends, ways_from}
use Rattle.event_motion.proofs.Picks.{AreGone, chooses_same}
use Rattle.event_motion.proofs.Says.{ArePlain, S}
use Rattle.event_motion.proofs.Sends.{among, apart, sends-named, sends_tell, tell-plain}

module _ (net : PlainNet) (policy : PlainPolicy) (config : PlainConfig) (p : PlainPrefix) where
  abbrev So : List Move → Motion → Motion
  So = after net policy config p

  pub after-append : (ms ns : List Move) (w : Motion) → So (ms ++ ns) w ≡ So ns (So ms w)
  after-append [] ns w = refl
  after-append (m ∷ ms) ns w = after-append ms ns (moved net policy config p m w)

  pub named-append : (ms ns : List Move) (w : Motion) → AreNamed net policy config p ms w → AreNamed net policy config p ns (So ms w) → AreNamed net policy config p (ms ++ ns) w
  named-append [] ns w a b = b
  named-append (m ∷ ms) ns w a b = (a.0, named-append ms ns (moved net policy config p m w) a.1 b)

  -- a choice by name is named
  pub names-named : (w : Motion) (r : ℕ) → IsNamed net policy config p (Some (names net policy config p w r)) w
  names-named w r = λ z e. ap (λ (o : Option ℕ). unwrap_or o r) e

  module _ (rules : IsNet net) where
    -- the worlds are the same, and what both have kept
    pub record AreAlike (e : World Route) (w : Motion) : Type 0 where
      pub same : Corresponds net policy config p e w
      pub plain : ArePlain e
      pub gone : AreGone net policy config p rules e
      pub kinds : AreKinds net policy config p rules w
      pub first : AllHoldFirst net policy config p rules w

    -- moves that name the lowest, and an event's world that is the same after them
    abbrev pub Plays : World Route → List Move → Motion → Type 0
    Plays e ms w = AreNamed net policy config p ms w × AreAlike e (So ms w)

    pub plays : (d e : World Route) (ms : List Move) (w : Motion) → AreAlike d w → AreNamed net policy config p ms w → Corresponds net policy config p e (So ms w) → ArePlain e → AreGone net policy config p rules e → Plays e ms w
    plays d e ms w a named same plain gone =
        (named, record { same = same; plain = plain; gone = gone; kinds = after-kinds net policy config p rules ms w a.kinds; first = after-first net policy config p rules ms w a.kinds named a.first })

    -- one after the other
    pub plays_on : (e : World Route) (ms ns : List Move) (w : Motion) → AreNamed net policy config p ms w → Plays e ns (So ms w) → Plays e (ms ++ ns) w
    plays_on e ms ns w named b = (named-append ms ns w named b.0, subst (AreAlike e) (sym (after-append ms ns w)) b.1)

    pub chosen : (e : World Route) (w : Motion) (r : ℕ) → AreAlike e w → Corresponds net policy config p (with_choice (S net policy config p) r e) (moved net policy config p (names net policy config p w r) w)
    chosen e w r a =
        let c = a.same in
        record {
          down = c.down;
          cut = c.cut;
          says = c.says;
          queue = c.queue;
          heard = c.heard;
          queued = c.queued;
          route = λ x.
              ap (λ (z : Option FullRoute). if at r x then z else w.route x) (chooses_same net policy config p rules e w c a.gone a.kinds a.first r)
              ∙ ap (λ (z : Option FullRoute). if at r x then option_map held_alone (choice (S net policy config p) e r) else z) (c.route x)
              ∙ apart (option_map held_alone) (at r x) (choice (S net policy config p) e r) (e.route x);
        }

    -- the ways from r are those that begin there
    from_here : (r a b : ℕ) → linked net a b ≡ true → at r a ≡ among (ways_from net policy config p r) a b
    from_here r a b on = same_tests (at r a) (among (ways_from net policy config p r) a b)
        (λ h. (
        let same = eqb-true a r h in
        let n = linked_neighbour net r b rules (ap (λ z. linked net z b) (sym same) ∙ on) in
        list_any-from_IsIn (λ (d : ℕ × ℕ). is d.0 d.1 a b) (ways_from net policy config p r) (r, b) (IsIn-map (λ x. (r, x)) (neighbours net r) b n) (and_from (a == r) (b == b) h (eq-eqb b b refl))))
        (λ h. (
        let m = list_any_member (λ (d : ℕ × ℕ). is d.0 d.1 a b) (ways_from net policy config p r) h in
        let x = IsIn-map_parts (λ x. (r, x)) (neighbours net r) m.0 m.1 in
        let first : r ≡ m.0.0 = ap (λ (d : ℕ × ℕ). d.0) x.2 in
        ap (λ z. a == z) first ∙ (and_parts (a == m.0.0) (b == m.0.1) m.2).0))

    again_up : (e : World Route) (w : Motion) (r : ℕ) → AreAlike e w
        → Plays (tell (S net policy config p) (λ a b. at r a) (with_choice (S net policy config p) r e)) (names net policy config p w r ∷ sends net policy config p (ways_from net policy config p r)) w
    again_up e w r a =
        let d = with_choice (S net policy config p) r e in
        let v = moved net policy config p (names net policy config p w r) w in
        plays e (tell (S net policy config p) (λ a b. at r a) d) (names net policy config p w r ∷ sends net policy config p (ways_from net policy config p r)) w a
        (names-named w r, sends-named net policy config p (ways_from net policy config p r) v)
        (sends_tell net policy config p (ways_from net policy config p r) (λ a b. at r a) d v (chosen e w r a) a.plain
        (λ x y owing. from_here r x y (and_parts (linked net x y) _ (and_parts _ _ owing).0).0))
        (tell-plain net policy config p (λ a b. at r a) d a.plain) a.gone

    pub plays_again : (e : World Route) (w : Motion) (r : ℕ) → AreAlike e w → Plays (choose_again (S net policy config p) r e) (again net policy config p w r) w
    plays_again e w r a = by (cases_Bool (is_router net r && not (e.down r)))
      where
        up : Bool
        up = is_router net r && not (w.down r)

        same : up ≡ running (S net policy config p) e r
        same = ap (λ z. is_router net r && not z) (a.same.down r)

        told : World Route
        told = tell (S net policy config p) (λ a b. at r a) (with_choice (S net policy config p) r e)

        ms : List Move
        ms = names net policy config p w r ∷ sends net policy config p (ways_from net policy config p r)

        by : (running (S net policy config p) e r ≡ true) ⊎ (running (S net policy config p) e r ≡ false) → Plays (choose_again (S net policy config p) r e) (again net policy config p w r) w
        by (inl t) =
            subst (λ (v : World Route). Plays v (again net policy config p w r) w) (sym (cond-true (running (S net policy config p) e r) told e t))
            (subst (λ (ns : List Move). Plays told ns w) (sym (cond-true up ms [] (same ∙ t))) (again_up e w r a))
        by (inr f) =
            subst (λ (v : World Route). Plays v (again net policy config p w r) w) (sym (cond-false (running (S net policy config p) e r) told e f))
            (subst (λ (ns : List Move). Plays e ns w) (sym (cond-false up ms [] (same ∙ f))) (tt, a))

    pub plays_each : (rs : List ℕ) (e : World Route) (w : Motion) → AreAlike e w → Plays (all_again (S net policy config p) rs e) (each_again net policy config p w rs) w
    plays_each [] e w a = (tt, a)
    plays_each (r ∷ rs) e w a =
        let one = plays_again e w r a in
        plays_on (all_again (S net policy config p) rs (choose_again (S net policy config p) r e)) (again net policy config p w r)
        (each_again net policy config p (So (again net policy config p w r) w) rs) w one.0
        (plays_each rs (choose_again (S net policy config p) r e) (So (again net policy config p w r) w) one.1)
