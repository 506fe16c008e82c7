-- Rounds of deliveries are rounds in motion, so they end in rest.
use Rattle.std.proofs.Common.{◌≡◌, ℕ, ◌+◌, zero, suc, List, [], ◌∷◌, ◌++◌, map, Option, refl, sym, ap, ◌∙◌, subst, inl, inr, arith}
use Rattle.std.specs.Prelude.{option_map, slice_get}
use Rattle.std.proofs.lemmas.Bool.{and_left, cases_Bool}
use Rattle.net_base.specs.Network.{PlainNet, IsNet, linked}
use Rattle.net_base.specs.Prefixes.{PlainPrefix}
use Rattle.policy_base.specs.Policies.{PlainPolicy}
use Rattle.config_base.specs.declared.route.Route.{Route}
use Rattle.config_base.specs.Configs.{PlainConfig}
use Rattle.event_base.specs.Steps.{opening, run}
use Rattle.event_base.specs.World.{Speakers, World}
use Rattle.event_law.specs.Kept.{AreSpeakers, IsKept}
use Rattle.event_law.specs.Laws.{world_after}
use Rattle.event_law.proofs.Keeping.{opening-keeps, run-keeps}
use Rattle.event_law.proofs.Quiet.{are_speakers}
use Rattle.motion_law.specs.Events.{sent_alone}
use Rattle.motion_law.specs.Motion.{Motion, Move}
use Rattle.motion_law.specs.Rounds.{IsRound, Schedule, world_at}
use Rattle.motion_rest.specs.Rest.{AreRounds as AreRoundsIn, world_before}
use Rattle.motion_rest.proofs.Resting.{passing_evidence_rests}
use Rattle.named_rest.proofs.Scenarios.{every_world_has_a_scenario}
use Rattle.event_motion.specs.Playing.{Corresponds, after, moves_for, sends}
use Rattle.event_motion.proofs.Again.{AreAlike, Plays, plays_on}
use Rattle.event_motion.proofs.Played.{all_played}
use Rattle.event_motion.proofs.Says.{S}
use Rattle.rest_law.specs.Rest.{rounds_enough}
use Rattle.rest_law.specs.Rounds.{AreRounds, deliveries}
use Rattle.rest_law.proofs.Ended.{rests_where_messages_end}
use Rattle.rest_law.proofs.Ending.{run_on}
use Rattle.rest_law.proofs.Failures.{run_more}
use Rattle.event_rest.specs.Corner.{EventsEnd, PassingEvidenceComesToRest, RoundsAreRounds}
use Rattle.event_rest.proofs.Timed.{AreCalm, Follows, calm_both, calm_itself, follows_itself, follows_parts, is_round, no_sooner, time_after, time_parts, world_so}
use Rattle.event_rest.proofs.Turns.{all_delivered, round_played, ways}

module _ (net : PlainNet) (policy : PlainPolicy) (config : PlainConfig) (p : PlainPrefix) (rules : IsNet net) where
  abbrev Sp : Speakers Route
  Sp = S net policy config p

  abbrev So : List Move → Motion → Motion
  So = after net policy config p

  abbrev Alike : World Route → Motion → Type 0
  Alike = AreAlike net policy config p rules

  abbrev Played : World Route → List Move → Motion → Type 0
  Played = Plays net policy config p rules

  speak : AreSpeakers Sp
  speak = are_speakers net policy config p rules

  -- where a schedule follows these moves from a time on, there are so many rounds in motion
  abbrev Rounds : ℕ → Motion → List Move → Type 0
  Rounds k w ms = (s : Schedule) (v : Motion) (t : ℕ) → world_at net policy config p s v t ≡ w → Follows s t ms → AreRoundsIn net policy config p s v k t (time_after t ms)

  rounds_played : (k : ℕ) (e : World Route) (w : Motion) (ds : List (ℕ × ℕ)) → IsKept Sp e → Alike e w → AreRounds Sp k e ds
      → (ms : List Move) × AreCalm ms × Rounds k w ms × Played (run Sp (deliveries ds) e) ms w
  rounds_played zero e w ds k a rounds =
      let told = all_delivered net policy config p rules ds e w k a in
      (told.0, told.1, (λ s v t starts follows. no_sooner t told.0), told.3)
  rounds_played (suc n) e w ds k a rounds =
      let one = round_played net policy config p rules e w rounds.0 k a rounds.3 in
      let all = sends net policy config p (ways net policy config p rules) in
      let ms = all ++ (one.quiets ++ (one.heards ++ one.chooses)) in
      let next = run Sp (deliveries rounds.0) e in
      let more = rounds_played n next (So ms w) rounds.1 (run-keeps Sp speak (deliveries rounds.0) e k) one.played.1 rounds.4 in (
        ms ++ more.0,
        calm_both ms more.0 one.calm more.1,
        (λ s v t starts follows.
            let f = follows_parts s t ms more.0 follows in
            let middle = time_after t ms in
            let ends : middle ≡ time_after (time_after (time_after (time_after t all) one.quiets) one.heards) one.chooses =
            time_parts t all (one.quiets ++ (one.heards ++ one.chooses)) ∙ time_parts (time_after t all) one.quiets (one.heards ++ one.chooses)
            ∙ time_parts (time_after (time_after t all) one.quiets) one.heards one.chooses in
            let round = subst (IsRound net policy config p s v t) (sym ends) (is_round net policy config p s v w t all one.quiets one.heards one.chooses starts f.0 one.turn) in
            let on = more.2 s v middle (world_so net policy config p s v t ms f.0 ∙ ap (So ms) starts) f.1 in
            (middle, round, subst (AreRoundsIn net policy config p s v n middle) (sym (time_parts t ms more.0)) on)),
        subst (λ (d : World Route). Played d (ms ++ more.0) w) (run_more Sp rounds.0 rounds.1 e ∙ ap (λ (z : List (ℕ × ℕ)). run Sp (deliveries z) e) rounds.2)
            (plays_on net policy config p rules (run Sp (deliveries rounds.1) next) ms more.0 w one.played.0 more.3),
      )

pub rounds_are_rounds : RoundsAreRounds
rounds_are_rounds net policy config p es k ds rules rounds =
    let Sp = S net policy config p in
    let e : World Route = world_after net policy config p es in
    let w = world_before net policy config p (moves_for net policy config p es) in
    let all =
    rounds_played net policy config p rules k e w ds (run-keeps Sp (are_speakers net policy config p rules) es (opening Sp) (opening-keeps Sp (are_speakers net policy config p rules)))
    (all_played net policy config p rules es).1 rounds in
    let s : Schedule = λ t. slice_get all.0 t in
    let follows = follows_itself all.0 s 0 (λ i. (let at : i + 0 ≡ i = omega arith in ap s at)) in (
      s,
      time_after 0 all.0,
      calm_itself all.0 all.1,
      all.2 s w 0 refl follows,
      subst (λ (d : World Route). Corresponds net policy config p d (world_at net policy config p s w (time_after 0 all.0))) (run_on Sp es (deliveries ds) (opening Sp))
          (subst (Corresponds net policy config p (run Sp (deliveries ds) e)) (sym (world_so net policy config p s w 0 all.0 follows)) all.3.1.same),
    )

nothing_waits : (ms : List (Option Route)) → map (option_map sent_alone) ms ≡ [] → ms ≡ []
nothing_waits [] h = refl
nothing_waits (m ∷ ms) h = absurd (cc)

pub events_end : EventsEnd
events_end net policy config p es ds rules rests rounds a b =
    let Sp = S net policy config p in
    let before = moves_for net policy config p es in
    let w = world_before net policy config p before in
    let all = rounds_are_rounds net policy config p es (rounds_enough net) ds rules rounds in
    let f = every_world_has_a_scenario net policy config p before in
    let rest = rests.rounds before f.0 all.0 all.1 f.1 all.2 all.3 all.1 (omega arith) in
    let speak = are_speakers net policy config p rules in
    let kept = run-keeps Sp speak (es ++ deliveries ds) (opening Sp) (opening-keeps Sp speak) in
    elim (cases_Bool (linked net a b)) [
      | inl on ↦ nothing_waits ((world_after net policy config p (es ++ deliveries ds)).queue a b) (sym (all.4.queue a b) ∙ rest.0.quiet a b on)
      | inr off ↦ (kept.empty a b (and_left (linked net a b) _ off)).0
    ]

pub passing_evidence_comes_to_rest : PassingEvidenceComesToRest
passing_evidence_comes_to_rest net policy config cs rules kept passes p prefix =
    rests_where_messages_end net policy config cs rules kept passes p prefix
    (λ es ds rounds. events_end net policy config p es ds rules (passing_evidence_rests net policy config cs rules kept passes p prefix) rounds)
