-- A round of deliveries is moves that send over each direction, hear all that waits and something of each direction, and choose at each router.
use Rattle.std.proofs.Common.{◌≡◌, ℕ, ◌≤◌, ◌+◌, suc, Bool, true, false, ◌⊎◌, List, [], ◌∷◌, ◌++◌, length, map, filter, flat_map, Option, Some, None, refl, sym, ap, ◌∙◌, subst, inl, inr, arith}
use Rattle.std.specs.Prelude.{◌&&◌, not, ◌==◌, option_map, unwrap_or, if◌then◌else◌}
use Rattle.std.proofs.lemmas.Bool.{and_from, and_left, and_right, cases_Bool, cond-false, cond-true, eq-eqb, eqb-true, ltb-true, true≢false}
use Rattle.std.proofs.lemmas.List.{length-map}
use Rattle.list_law.specs.Members.{IsIn}
use Rattle.list_law.proofs.Members.{IsIn-cons_cases, IsIn-filter, IsIn-filter_parts, IsIn-flat_map, IsIn-later, IsIn-map, IsIn-nil}
use Rattle.net_base.specs.Locations.{neighbours, numbers_below}
use Rattle.net_base.specs.Network.{PlainNet, IsNet, is_router, linked}
use Rattle.net_base.specs.Prefixes.{PlainPrefix}
use Rattle.net_base.proofs.Links.{linked_known}
use Rattle.net_base.proofs.Neighbours.{linked_neighbour}
use Rattle.net_base.proofs.NumbersBelow.{In-numbers_below}
use Rattle.policy_base.specs.Policies.{PlainPolicy}
use Rattle.config_base.specs.declared.route.Route.{Route}
use Rattle.config_base.specs.Configs.{PlainConfig}
use Rattle.event_base.specs.declared.event.Event.TheVariants.{Deliver}
use Rattle.event_base.specs.declared.event.EventFault.{EventFault}
use Rattle.event_base.specs.Speaking.{same_message}
use Rattle.event_base.specs.Steps.{fault_of, happens, if_there, or_as_before, run, step, unless_waiting}
use Rattle.event_base.specs.World.{Speakers, World, at, choice, is, live, owes}
use Rattle.event_law.specs.Kept.{AreSpeakers, IsKept}
use Rattle.event_law.proofs.Keeping.{happens-keeps, run-keeps}
use Rattle.event_law.proofs.Messages.{same_as_itself}
use Rattle.event_law.proofs.Quiet.{are_speakers}
use Rattle.outcome_base.specs.Announcements.{Sent}
use Rattle.motion_law.specs.Events.{held_alone, sent_alone}
use Rattle.motion_law.specs.Motion.{Motion, Move, Move as move, cleared, live_in, moved, next_heard}
use Rattle.named_rest.specs.Named.{lowest}
use Rattle.event_motion.specs.Playing.{Corresponds, after, again, choices, hears, names, sends, ways_from}
use Rattle.event_motion.proofs.Again.{AreAlike, Plays, chosen, names-named, plays, plays_on}
use Rattle.event_motion.proofs.Says.{S, live_same}
use Rattle.event_motion.proofs.Sends.{here, sends-named, sends_tell}
use Rattle.event_motion.proofs.Steps.{plays_step}
use Rattle.rest_law.specs.Rounds.{IsRound, deliveries, times}
use Rattle.event_rest.proofs.Timed.{AreCalm, IsTurn, calm_both, heard_both, heard_in, heard_one}

-- what is put in the place of the same
same_put : {A : Type 0} (b : Bool) (x y : A) → (b ≡ true → y ≡ x) → (if b then x else y) ≡ y
same_put true x y same = sym (same refl)
same_put false x y same = refl

waits_none : {A : Type 0} (ms : List A) → (length ms == 0) ≡ true → ms ≡ []
waits_none [] h = refl
waits_none (m ∷ ms) h = (let none : length (m ∷ ms) ≡ 0 = eqb-true (length (m ∷ ms)) 0 h in absurd (omega (arith, none)))

refused_empty : (there : Bool) (ms : List (Option Route)) (x : EventFault) → if_there there (unless_waiting ms) ≡ Some x → (there ≡ false → ms ≡ []) → ms ≡ []
refused_empty true [] x h off = refl
refused_empty true (m ∷ ms) x h off = absurd (cc)
refused_empty false ms x h off = off refl

module _ (net : PlainNet) (policy : PlainPolicy) (config : PlainConfig) (p : PlainPrefix) (rules : IsNet net) where
  abbrev Sp : Speakers Route
  Sp = S net policy config p

  abbrev So : List Move → Motion → Motion
  So = after net policy config p

  abbrev Alike : World Route → Motion → Type 0
  Alike = AreAlike net policy config p rules

  abbrev Played : World Route → List Move → Motion → Type 0
  Played = Plays net policy config p rules

  speak : AreSpeakers Sp
  speak = are_speakers net policy config p rules

  -- ---- all directions, and all routers

  abbrev pub ways : List (ℕ × ℕ)
  ways = flat_map (ways_from net policy config p) (numbers_below (length net.routers + length net.peers))

  way_listed : (a b : ℕ) → linked net a b ≡ true → IsIn ways (a, b)
  way_listed a b on =
      let known = linked_known net a b rules on in
      let at_a = In-numbers_below a (length net.routers + length net.peers) (ltb-true a (length net.routers + length net.peers) known.0) in
      IsIn-flat_map (ways_from net policy config p) (numbers_below (length net.routers + length net.peers)) a (a, b) at_a (IsIn-map (λ x. (a, x)) (neighbours net a) b (linked_neighbour net a b rules on))

  abbrev routers : List ℕ
  routers = numbers_below (length net.routers)

  abbrev send_of : ℕ × ℕ → Move
  send_of d = move.send d.0 d.1

  abbrev hear_of : ℕ × ℕ → Move
  hear_of d = move.hear d.0 d.1

  -- ---- calm moves

  sends_calm : (ds : List (ℕ × ℕ)) → AreCalm (sends net policy config p ds)
  sends_calm [] = tt
  sends_calm (d ∷ ds) = (refl, sends_calm ds)

  hears_calm : (ds : List (ℕ × ℕ)) → AreCalm (hears net policy config p ds)
  hears_calm [] = tt
  hears_calm (d ∷ ds) = (refl, hears_calm ds)

  choices_calm : (rs : List ℕ) (w : Motion) → AreCalm (choices net policy config p w rs)
  choices_calm [] w = tt
  choices_calm (r ∷ rs) w = (refl, choices_calm rs (So (names net policy config p w r ∷ []) w))

  again_calm : (w : Motion) (r : ℕ) → AreCalm (again net policy config p w r)
  again_calm w r = by (is_router net r && not (w.down r))
    where
      by : (b : Bool) → AreCalm (if b then names net policy config p w r ∷ sends net policy config p (ways_from net policy config p r) else [])
      by true = (refl, sends_calm (ways_from net policy config p r))
      by false = tt

  -- ---- moves that change nothing

  module _ (e : World Route) (k : IsKept Sp e) where
    paid : (a b : ℕ) → owes Sp e a b ≡ false
    paid a b = elim (cases_Bool (live Sp e a b)) [
      | inr off ↦ and_left _ _ off
      | inl on ↦ and_right (live Sp e a b) _ (ap not (ap (λ (m : Option Route). same_message m (e.queued a b)) (sym (k.told a b on refl)) ∙ same_as_itself (e.queued a b)))
    ]

    -- all has been sent,
    all_sent : (w : Motion) → Alike e w → Played e (sends net policy config p ways) w
    all_sent w a =
        let c = sends_tell net policy config p ways (λ x y. false) e w a.same a.plain (λ x y owing. absurd (true≢false (sym owing ∙ paid x y))) in
        plays net policy config p rules e e (sends net policy config p ways) w a (sends-named net policy config p ways w)
        (record { down = c.down; cut = c.cut; says = c.says; queue = c.queue; heard = c.heard; queued = c.queued; route = c.route }) a.plain a.gone

    -- nothing is heard where nothing waits,
    left : (w : Motion) → Alike e w → (x y : ℕ) → live Sp e x y ≡ false → e.queue x y ≡ [] → Corresponds net policy config p e (cleared (is x y) (is x y) w)
    left w a x y off none =
        let c = a.same in
        let gone = k.empty x y off in
        record {
          down = c.down;
          cut = c.cut;
          says = c.says;
          queue = λ u z. same_put (is x y u z) [] (w.queue u z) (λ t. c.queue u z ∙ ap (map (option_map sent_alone)) (here e.queue x y u z t ∙ none)) ∙ c.queue u z;
          heard = λ u z. same_put (is x y u z) None (w.heard u z) (λ t. c.heard u z ∙ ap (option_map sent_alone) (here e.heard x y u z t ∙ gone.1)) ∙ c.heard u z;
          queued = λ u z. same_put (is x y u z) None (w.queued u z) (λ t. c.queued u z ∙ ap (option_map sent_alone) (here e.queued x y u z t ∙ gone.2)) ∙ c.queued u z;
          route = c.route;
        }

    idle_heard : (x y : ℕ) (w : Motion) → Alike e w → e.queue x y ≡ [] → Played e (move.hear x y ∷ []) w
    idle_heard x y w a none = plays net policy config p rules e e (move.hear x y ∷ []) w a (tt, tt) (by (cases_Bool (live_in net policy config p w x y))) a.plain a.gone
      where
        by : (live_in net policy config p w x y ≡ true) ⊎ (live_in net policy config p w x y ≡ false) → Corresponds net policy config p e (So (move.hear x y ∷ []) w)
        by (inl on) =
            subst (Corresponds net policy config p e)
            (sym (cond-true (live_in net policy config p w x y) (next_heard x y (w.queue x y) w) (cleared (is x y) (is x y) w) on
            ∙ ap (λ (q : List (Option Sent)). next_heard x y q w) (a.same.queue x y ∙ ap (map (option_map sent_alone)) none))) a.same
        by (inr off) =
            subst (Corresponds net policy config p e) (sym (cond-false (live_in net policy config p w x y) (next_heard x y (w.queue x y) w) (cleared (is x y) (is x y) w) off))
            (left w a x y (sym (live_same net policy config p e w a.same x y) ∙ off) none)

    all_idle : (ds : List (ℕ × ℕ)) (w : Motion) → Alike e w → ((d : ℕ × ℕ) → IsIn ds d → e.queue d.0 d.1 ≡ []) → Played e (hears net policy config p ds) w
    all_idle [] w a none = (tt, a)
    all_idle (d ∷ ds) w a none =
        let one = idle_heard d.0 d.1 w a (none d (0, refl)) in
        plays_on net policy config p rules e (move.hear d.0 d.1 ∷ []) (hears net policy config p ds) w one.0
        (all_idle ds (So (move.hear d.0 d.1 ∷ []) w) one.1 (λ x at. none x (IsIn-later d x ds at)))

    -- and who chooses again takes what it has
    chosen_again : (rs : List ℕ) (w : Motion) → Alike e w → Played e (choices net policy config p w rs) w
    chosen_again [] w a = (tt, a)
    chosen_again (r ∷ rs) w a =
        let c = chosen net policy config p rules e w r a in
        let same : Corresponds net policy config p e (moved net policy config p (names net policy config p w r) w) =
        record {
          down = c.down;
          cut = c.cut;
          says = c.says;
          queue = c.queue;
          heard = c.heard;
          queued = c.queued;
          route = λ x. c.route x ∙ ap (option_map held_alone) (same_put (at r x) (choice Sp e r) (e.route x) (λ t. ap e.route (eqb-true x r t) ∙ k.chosen r refl));
        } in
        let one = plays net policy config p rules e e (names net policy config p w r ∷ []) w a (names-named net policy config p w r, tt) same a.plain a.gone in
        plays_on net policy config p rules e (names net policy config p w r ∷ []) (choices net policy config p (So (names net policy config p w r ∷ []) w) rs) w one.0
        (chosen_again rs (So (names net policy config p w r ∷ []) w) one.1)

  choices_in : (rs : List ℕ) (w : Motion) (r : ℕ) → IsIn rs r → (u : ℕ) × IsIn (choices net policy config p w rs) (move.choose r u)
  choices_in [] w r at = absurd (IsIn-nil r at)
  choices_in (x ∷ rs) w r at = elim (IsIn-cons_cases x rs r at) [
    | inl here ↦ named here
    | inr there ↦ (let c = choices_in rs v r there in (c.0, IsIn-later (names net policy config p w x) (move.choose r c.0) (choices net policy config p v rs) c.1))
  ]
    where
      v : Motion
      v = So (names net policy config p w x ∷ []) w

      named : x ≡ r → (u : ℕ) × IsIn (names net policy config p w x ∷ choices net policy config p v rs) (move.choose r u)
      named here = subst (λ z. (u : ℕ) × IsIn (names net policy config p w x ∷ choices net policy config p v rs) (move.choose z u)) here (unwrap_or (lowest net policy config p w x) x, (0, refl))

  -- ---- deliveries

  one_delivered : (x y : ℕ) (e : World Route) (w : Motion) → IsKept Sp e → Alike e w → (more : List Move) × AreCalm more × Played (happens Sp (Deliver x y) e) (move.hear x y ∷ more) w
  one_delivered x y e w k a = by (fault_of Sp (Deliver x y) e) refl
    where
      by : (o : Option EventFault) → fault_of Sp (Deliver x y) e ≡ o → (more : List Move) × AreCalm more × Played (or_as_before o (step Sp (Deliver x y) e) e) (move.hear x y ∷ more) w
      by None none =
          (again net policy config p (So (move.hear x y ∷ []) w) y, again_calm (So (move.hear x y ∷ []) w) y, plays_step net policy config p rules e w k a (Deliver x y) none)
      by (Some fault) refused =
          ([], tt, idle_heard e k x y w a (refused_empty (linked net x y) (e.queue x y) fault refused (λ off. (k.empty x y (and_left _ _ off)).0)))

  -- each is heard, if it's there
  pub all_delivered : (ds : List (ℕ × ℕ)) (e : World Route) (w : Motion) → IsKept Sp e → Alike e w
      → (ms : List Move) × AreCalm ms × ((a b : ℕ) → times a b ds ≤ heard_in a b ms) × Played (run Sp (deliveries ds) e) ms w
  all_delivered [] e w k a = ([], tt, (λ x y. omega arith), (tt, a))
  all_delivered (d ∷ ds) e w k a =
      let one = one_delivered d.0 d.1 e w k a in
      let next = happens Sp (Deliver d.0 d.1) e in
      let more = all_delivered ds next (So (move.hear d.0 d.1 ∷ one.0) w) (happens-keeps Sp speak (Deliver d.0 d.1) e k) one.2.1 in (
        move.hear d.0 d.1 ∷ (one.0 ++ more.0),
        (refl, calm_both one.0 more.0 one.1 more.1),
        (λ x y. counted x y one.0 more.0 (more.2 x y)),
        plays_on net policy config p rules (run Sp (deliveries ds) next) (move.hear d.0 d.1 ∷ one.0) more.0 w one.2.0 more.3,
      )
    where
      counted : (x y : ℕ) (ms ns : List Move) → times x y ds ≤ heard_in x y ns → times x y (d ∷ ds) ≤ heard_in x y (move.hear d.0 d.1 ∷ (ms ++ ns))
      counted x y ms ns h =
          let both = heard_both x y ms ns in
          elim (cases_Bool (is d.0 d.1 x y)) [
            | inl t ↦ (
                let one : times x y (d ∷ ds) ≡ suc (times x y ds) = cond-true (is d.0 d.1 x y) (suc (times x y ds)) (times x y ds) t in
                let more : heard_in x y (move.hear d.0 d.1 ∷ (ms ++ ns)) ≡ suc (heard_in x y (ms ++ ns)) = cond-true (is d.0 d.1 x y) (suc (heard_in x y (ms ++ ns))) (heard_in x y (ms ++ ns)) t in
                omega (arith, h, both, one, more))
            | inr f ↦ (
                let none : times x y (d ∷ ds) ≡ times x y ds = cond-false (is d.0 d.1 x y) (suc (times x y ds)) (times x y ds) f in
                let same : heard_in x y (move.hear d.0 d.1 ∷ (ms ++ ns)) ≡ heard_in x y (ms ++ ns) = cond-false (is d.0 d.1 x y) (suc (heard_in x y (ms ++ ns))) (heard_in x y (ms ++ ns)) f in
                omega (arith, h, both, none, same))
          ]

  -- ---- a round

  -- what a round of deliveries is in motion
  pub record IsPlayed (e : World Route) (w : Motion) (ds : List (ℕ × ℕ)) : Type 0 where
    pub quiets : List Move
    pub heards : List Move
    pub chooses : List Move
    pub calm : AreCalm (sends net policy config p ways ++ (quiets ++ (heards ++ chooses)))
    pub turn : IsTurn net policy config p w (sends net policy config p ways) quiets heards chooses
    pub played : Played (run Sp (deliveries ds) e) (sends net policy config p ways ++ (quiets ++ (heards ++ chooses))) w

  abbrev is_idle : World Route → ℕ × ℕ → Bool
  is_idle e d = length (e.queue d.0 d.1) == 0

  pub round_played : (e : World Route) (w : Motion) (ds : List (ℕ × ℕ)) → IsKept Sp e → Alike e w → IsRound e ds → IsPlayed e w ds
  round_played e w ds k a round =
      let ms = sends net policy config p ways in
      let idle = filter (is_idle e) ways in
      let quiets = hears net policy config p idle in
      let sent = all_sent e k w a in
      let empty = all_idle e k idle (So ms w) sent.1 (λ d at. waits_none (e.queue d.0 d.1) (IsIn-filter_parts (is_idle e) ways d at).1) in
      let told = all_delivered ds e (So quiets (So ms w)) k empty.1 in
      let last = run Sp (deliveries ds) e in
      let z = So told.0 (So quiets (So ms w)) in
      let chooses = choices net policy config p z routers in
      let settled = chosen_again last (run-keeps Sp speak (deliveries ds) e k) routers z told.3.1 in
      record {
        quiets = quiets;
        heards = told.0;
        chooses = chooses;
        calm = calm_both ms (quiets ++ (told.0 ++ chooses)) (sends_calm ways) (calm_both quiets (told.0 ++ chooses) (hears_calm idle) (calm_both told.0 chooses told.1 (choices_calm routers z)));
        turn = record {
          sent = λ x y on. IsIn-map send_of ways (x, y) (way_listed x y on);
          heard = λ x y on.
              let waits = ap (λ (q : List (Option Sent)). length q) (sent.1.same.queue x y) ∙ length-map (e.queue x y) (option_map sent_alone) in
              let enough = round x y in
              let many = told.2 x y in
              omega (arith, waits, enough, many);
          once = λ x y on. once x y on idle refl told.0 (told.2 x y);
          chosen = λ r router. choices_in routers z r (In-numbers_below r (length net.routers) (ltb-true r (length net.routers) router));
        };
        played = plays_on net policy config p rules last ms (quiets ++ (told.0 ++ chooses)) w sent.0
            (plays_on net policy config p rules last quiets (told.0 ++ chooses) (So ms w) empty.0 (plays_on net policy config p rules last told.0 chooses (So quiets (So ms w)) told.3.0 settled));
      }
    where
      once : (x y : ℕ) → linked net x y ≡ true → (idle : List (ℕ × ℕ)) → idle ≡ filter (is_idle e) ways → (ms : List Move) → times x y ds ≤ heard_in x y ms
          → 1 ≤ heard_in x y (hears net policy config p idle) + heard_in x y ms
      once x y on idle is ms many = elim (cases_Bool (is_idle e (x, y))) [
        | inl t ↦ (
            let listed : IsIn idle (x, y) = subst (λ (ds : List (ℕ × ℕ)). IsIn ds (x, y)) (sym is) (IsIn-filter (is_idle e) ways (x, y) (way_listed x y on) t) in
            let h = heard_one x y (hears net policy config p idle) (move.hear x y) (and_from (x == x) (y == y) (eq-eqb x x refl) (eq-eqb y y refl)) (IsIn-map hear_of idle (x, y) listed) in
            omega (arith, h))
        | inr f ↦ (
            let some = waits_some (e.queue x y) f in
            let enough = round x y in
            omega (arith, some, enough, many))
      ]
        where
          waits_some : {A : Type 0} (ms : List A) → (length ms == 0) ≡ false → 1 ≤ length ms
          waits_some [] h = absurd (cc)
          waits_some (m ∷ ms) h = omega arith
