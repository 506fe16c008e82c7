-- Worlds go on alike where all routes have tags of one part and all parts read them as it does.
use Rattle.std.proofs.Common.{◌≡◌, ℕ, Bool, true, false, cond, not, ◌&&◌, List, [], ◌∷◌, ◌++◌, Option, None, refl, sym, ap, ◌∙◌, subst, inl, inr}
use Rattle.std.specs.Prelude.{if◌then◌else◌}
use Rattle.std.proofs.lemmas.Bool.{cases_Bool, cond-false}
use Rattle.net_base.specs.Network.{PlainNet, IsNet, is_router}
use Rattle.net_base.specs.Prefixes.{PlainPrefix}
use Rattle.config_base.specs.declared.route.Route.{Route}
use Rattle.event_base.specs.declared.event.Event.{Event}
use Rattle.event_base.specs.declared.event.Event.TheVariants.{Deliver, LinkDown, LinkUp, RouterDown, RouterUp, PeerSpeak, PeerSilent}
use Rattle.event_base.specs.declared.event.EventFault.{EventFault}
use Rattle.event_base.specs.World.{Speakers, World, at, is, joins, touches, choice, choose_again, each_again, emptied, exported, live, offers, received, running, tell, with_choice}
use Rattle.event_base.specs.World.{with_cut, with_down, with_silent}
use Rattle.event_base.specs.Steps.{before_all, delivered, fault_of, happens, opening, or_as_before, run, step}
use Rattle.event_base.specs.Speaking.{chosen_by, same_message}
use Rattle.event_law.specs.Kept.{IsKept}
use Rattle.event_law.specs.Kinds.{Each, Held}
use Rattle.event_law.proofs.Keeping.{happens-keeps, opening-keeps}
use Rattle.event_law.proofs.Messages.{same_as_itself}
use Rattle.event_law.proofs.Still.{still}
use Rattle.rollout_base.specs.Lines.{ReadsAs}
use Rattle.rollout_base.specs.Mixtures.{Change, Change as change, Load, Loaded, Mixture, Part, Running, after, all_run, announced_if, mixed, with_part, without_loads}
use Rattle.rollout_law.specs.Laws.{HasTagsOf, LoadsChangeNothing, OnePartIsPlain, RolloutsBeginAlike}
use Rattle.event_law.proofs.KindsKept.{choose_again-kinds, down-kinds, emptied-kinds, happens-kinds, held-cond, held-none, marked-kinds, opening-kinds, received-kinds, with_choice-kinds}
use Rattle.rollout_law.proofs.Loads.{loaded_on}
use Rattle.rollout_law.proofs.Reading.{Sent, Tagged, chooses_alike, sends_alike, tagged}
use Rattle.rollout_law.proofs.Speaking.{are_speakers}

module _ (net : PlainNet) (says : ℕ → Bool) (p : PlainPrefix) (x : Part) where
  abbrev B : Speakers Route
  B = mixed net says p (all_run x)

  abbrev Kinds : World Route → Type 0
  Kinds w = HasTagsOf net p x w

  module _ (m : Mixture) (reads : (r : ℕ) → ReadsAs net p x r (m r)) where
    abbrev S : Speakers Route
    S = mixed net says p m

    exports_same : (w : World Route) (a b : ℕ) → Kinds w → exported S w a b ≡ exported B w a b
    exports_same w a b k =
        ap (λ (o : Option Route). cond (is_router net a) o (cond (w.silent b a) None (announced_if says a))) (sends_alike net says p x m reads a b (w.route a) (k.route a))

    offers_sent : (w : World Route) (r u : ℕ) → Kinds w → Held (Sent net says p x u r) (offers B w r u)
    offers_sent w r u k = held-cond (Sent net says p x u r) (live B w u r) _ _ (λ t. k.heard u r) (λ f. held-none (Sent net says p x u r))

    choice_same : (w : World Route) (r : ℕ) → Kinds w → choice S w r ≡ choice B w r
    choice_same w r k = elim (cases_Bool (is_router net r)) [
      | inl router ↦ ap (λ (o : Option Route). cond (running B w r) o None) (chooses_alike net says p x m reads r (offers B w r) router (λ u. offers_sent w r u k))
      | inr off ↦ nothing off (chosen_by net (m r).policy (m r).config p r (offers B w r)) (chosen_by net x.policy x.config p r (offers B w r))
    ]
      where
        nothing : is_router net r ≡ false → (o q : Option Route) → cond (running B w r) o None ≡ cond (running B w r) q None
        nothing off o q = rw off refl

    abbrev told_by : (ℕ → ℕ → Bool) → World Route → (ℕ → ℕ → Option Route) → World Route
    told_by q w e = record {
      down = w.down;
      cut = w.cut;
      silent = w.silent;
      queue = λ a b. if q a b && (live B w a b && not (same_message (e a b) (w.queued a b))) then w.queue a b ++ e a b ∷ [] else w.queue a b;
      heard = w.heard;
      queued = λ a b. if q a b && (live B w a b && not (same_message (e a b) (w.queued a b))) then e a b else w.queued a b;
      route = w.route;
    }

    tell_same : (q : ℕ → ℕ → Bool) (w : World Route) → Kinds w → tell S q w ≡ tell B q w
    tell_same q w k = ap (told_by q w) (λ i a b. exports_same w a b k i)

    with_choice_same : (r : ℕ) (w : World Route) → Kinds w → with_choice S r w ≡ with_choice B r w
    with_choice_same r w k =
        ap (λ (c : Option Route). record { down = w.down; cut = w.cut; silent = w.silent; queue = w.queue; heard = w.heard; queued = w.queued; route = λ y. if at r y then c else w.route y })
        (choice_same w r k)

    abbrev T : (ℕ → Route → Type 0) × (ℕ → ℕ → Route → Type 0)
    T = (Tagged net says p x, Sent net says p x)

    pub choose_again_same : (r : ℕ) (w : World Route) → Kinds w → choose_again S r w ≡ choose_again B r w
    choose_again_same r w k =
        ap (λ (v : World Route). cond (running B w r) v w)
        (ap (tell S (λ a b. at r a)) (with_choice_same r w k)
        ∙ tell_same (λ a b. at r a) (with_choice B r w) (with_choice-kinds B T.0 T.1 (tagged net says p x) r w k))

    each_again_same : (rs : List ℕ) (w : World Route) → Kinds w → each_again S rs w ≡ each_again B rs w
    each_again_same [] w k = refl
    each_again_same (r ∷ rs) w k =
        ap (each_again S rs) (choose_again_same r w k) ∙ each_again_same rs (choose_again B r w) (choose_again-kinds B T.0 T.1 (tagged net says p x) r w k)

    delivered_same : (a b : ℕ) (ms : List (Option Route)) (w : World Route) → Kinds w → Each (Sent net says p x a b) ms → delivered S a b ms w ≡ delivered B a b ms w
    delivered_same a b [] w k e = refl
    delivered_same a b (g ∷ rest) w k e = choose_again_same b (received B a b g rest w) (received-kinds B T.0 T.1 (tagged net says p x) a b g rest w k e)

    step_same : (e : Event) (w : World Route) → Kinds w → step S e w ≡ step B e w
    step_same (Deliver a b) w k = delivered_same a b (w.queue a b) w k (k.queue a b)
    step_same (LinkDown a b) w k =
        let v = emptied B (joins a b) (with_cut B a b true w) in
        let kv = emptied-kinds B T.0 T.1 (tagged net says p x) (joins a b) (with_cut B a b true w) (marked-kinds B T.0 T.1 (tagged net says p x) w (with_cut B a b true w) k refl refl refl refl) in
        ap (choose_again S b) (choose_again_same a v kv) ∙ choose_again_same b (choose_again B a v) (choose_again-kinds B T.0 T.1 (tagged net says p x) a v kv)
    step_same (LinkUp a b) w k = tell_same (joins a b) (with_cut B a b false w) (marked-kinds B T.0 T.1 (tagged net says p x) w (with_cut B a b false w) k refl refl refl refl)
    step_same (RouterDown r) w k =
        each_again_same (B.neighbours r) (emptied B (touches r) (with_down B r true w))
        (emptied-kinds B T.0 T.1 (tagged net says p x) (touches r) (with_down B r true w) (down-kinds B T.0 T.1 (tagged net says p x) r true w k))
    step_same (RouterUp r) w k =
        let kd = down-kinds B T.0 T.1 (tagged net says p x) r false w k in
        ap (tell S (touches r)) (choose_again_same r (with_down B r false w) kd)
        ∙ tell_same (touches r) (choose_again B r (with_down B r false w)) (choose_again-kinds B T.0 T.1 (tagged net says p x) r (with_down B r false w) kd)
    step_same (PeerSpeak r q) w k = tell_same (is q r) (with_silent B r q false w) (marked-kinds B T.0 T.1 (tagged net says p x) w (with_silent B r q false w) k refl refl refl refl)
    step_same (PeerSilent r q) w k = tell_same (is q r) (with_silent B r q true w) (marked-kinds B T.0 T.1 (tagged net says p x) w (with_silent B r q true w) k refl refl refl refl)

    fault_same : (e : Event) (w : World Route) → fault_of S e w ≡ fault_of B e w
    fault_same (Deliver a b) w = refl
    fault_same (LinkDown a b) w = refl
    fault_same (LinkUp a b) w = refl
    fault_same (RouterDown r) w = refl
    fault_same (RouterUp r) w = refl
    fault_same (PeerSpeak r q) w = refl
    fault_same (PeerSilent r q) w = refl

    pub happens_same : (e : Event) (w : World Route) → Kinds w → happens S e w ≡ happens B e w
    happens_same e w k =
        ap (λ (o : Option EventFault). or_as_before o (step S e w) w) (fault_same e w) ∙ ap (λ (v : World Route). or_as_before (fault_of B e w) v w) (step_same e w k)

    -- what is kept by the parts is kept by that part
    pub kept_alike : (w : World Route) → Kinds w → IsKept S w → IsKept B w
    kept_alike w k kept = record {
      both = kept.both;
      last = kept.last;
      told = λ a b u nd. kept.told a b u nd ∙ exports_same w a b k;
      chosen = λ r s. kept.chosen r s ∙ choice_same w r k;
      idle = kept.idle;
      empty = kept.empty;
    }

    pub opening_same : opening S ≡ opening B
    opening_same = ap (tell S (λ a b. true)) before ∙ tell_same (λ a b. true) (before_all B) before-kinds
      where
        before : before_all S ≡ before_all B
        before =
            ap (λ (c : ℕ → Option Route). record {
              down = λ r. false;
              cut = λ a b. false;
              silent = λ r q. false;
              queue = λ a b. [];
              heard = λ a b. None;
              queued = λ a b. None;
              route = c;
            }) (λ i r. each r i)
          where
            each : (r : ℕ) → (if is_router net r then chosen_by net (m r).policy (m r).config p r (λ u. None) else None) ≡ (if is_router net r then chosen_by net x.policy x.config p r (λ u. None) else None)
            each r = elim (cases_Bool (is_router net r)) [
              | inl router ↦ ap (λ (o : Option Route). cond (is_router net r) o None) (chooses_alike net says p x m reads r (λ u. None) router (λ u. held-none (Sent net says p x u r)))
              | inr off ↦ (
                  cond-false (is_router net r) (chosen_by net (m r).policy (m r).config p r (λ u. None)) None off
                  ∙ sym (cond-false (is_router net r) (chosen_by net x.policy x.config p r (λ u. None)) None off))
            ]

        before-kinds : Kinds (before_all B)
        before-kinds = record {
          queue = λ a b. tt;
          heard = λ a b. held-none (Sent net says p x a b);
          queued = λ a b. held-none (Sent net says p x a b);
          route = λ r. held-cond (Tagged net says p x r) (B.is_router r) _ _ (λ t. (tagged net says p x).chooses r (λ u. None) t (λ u. held-none (Sent net says p x u r))) (λ f. held-none (Tagged net says p x r));
        }

  module _ (rules : IsNet net) where
    -- a load changes nothing
    load_same : (l : Load) (m : Mixture) (w : World Route) → ((r : ℕ) → ReadsAs net p x r (with_part l.router l.part m r)) → Kinds w → IsKept B w
        → choose_again (mixed net says p (with_part l.router l.part m)) l.router w ≡ w
    load_same l m w reads k kept =
        choose_again_same (with_part l.router l.part m) reads l.router w k
        ∙ still B same_as_itself w l.router (record { chosen = λ on. kept.chosen l.router refl; told = λ b on. kept.told l.router b on refl })

    abbrev Alike : List Change → Running → Type 0
    Alike cs s =
        ((after net says p cs s).world ≡ run B (without_loads cs) s.world) × Kinds (after net says p cs s).world × ((r : ℕ) → ReadsAs net p x r ((after net says p cs s).runs r))

    alike : (cs : List Change) (s : Running) → IsKept B s.world → Kinds s.world → ((r : ℕ) → ReadsAs net p x r (s.runs r)) → Loaded (ReadsAs net p x) cs → Alike cs s
    alike [] s kept k reads loaded = (refl, k, reads)
    alike (change.event e ∷ cs) s kept k reads loaded =
        let next = happens B e s.world in
        let goes : happens (mixed net says p s.runs) e s.world ≡ next = happens_same s.runs reads e s.world k in
        let kept' = happens-keeps B (are_speakers net says p (all_run x) rules) e s.world kept in
        let k' = happens-kinds B (Tagged net says p x) (Sent net says p x) (tagged net says p x) e s.world k in
        subst (λ (v : World Route).
        ((after net says p cs (record { runs = s.runs; world = v })).world ≡ run B (without_loads cs) next)
        × Kinds (after net says p cs (record { runs = s.runs; world = v })).world
        × ((r : ℕ) → ReadsAs net p x r ((after net says p cs (record { runs = s.runs; world = v })).runs r))) (sym goes)
        (alike cs (record { runs = s.runs; world = next }) kept' k' reads loaded)
    alike (change.load l ∷ cs) s kept k reads loaded =
        let runs = with_part l.router l.part s.runs in
        let reads' = loaded_on (ReadsAs net p x) l s.runs reads loaded.0 in
        let stays : choose_again (mixed net says p runs) l.router s.world ≡ s.world = load_same l s.runs s.world reads' k kept in
        subst (λ (v : World Route).
        ((after net says p cs (record { runs = runs; world = v })).world ≡ run B (without_loads cs) s.world)
        × Kinds (after net says p cs (record { runs = runs; world = v })).world
        × ((r : ℕ) → ReadsAs net p x r ((after net says p cs (record { runs = runs; world = v })).runs r))) (sym stays)
        (alike cs (record { runs = runs; world = s.world }) kept k reads' loaded.1)

pub loads_change_nothing : LoadsChangeNothing
loads_change_nothing net says p x cs s rules kept k reads loaded = alike net says p x rules cs s (kept_alike net says p x s.runs reads s.world k kept) k reads loaded

pub rollouts_begin_alike : RolloutsBeginAlike
rollouts_begin_alike net says p x cs m rules reads loaded =
    let B = mixed net says p (all_run x) in
    let k = opening-kinds B (Tagged net says p x) (Sent net says p x) (tagged net says p x) in
    let kept = opening-keeps B (are_speakers net says p (all_run x) rules) in
    subst (λ (v : World Route). (after net says p cs (record { runs = m; world = v })).world ≡ run B (without_loads cs) (opening B)) (sym (opening_same net says p x m reads))
    (alike net says p x rules cs (record { runs = m; world = opening B }) kept k reads loaded).0

pub one_part_is_plain : OnePartIsPlain
one_part_is_plain net p x = refl
