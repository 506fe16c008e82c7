use Rattle.std.proofs.Common.{◌≡◌, ℕ, ◌<◌, ◌+◌, suc, List, length, sym, ap, ap₂, ◌∙◌, subst, arith}
use Rattle.std.proofs.lemmas.Bool.{true≢false}
use Rattle.std.proofs.lemmas.List.{length-append}
use Rattle.policy_base.specs.Policies.{policy_of}
use Rattle.config_base.specs.declared.route.Route.{Route}
use Rattle.event_base.specs.Steps.{IsQuiet, run}
use Rattle.event_base.specs.World.{Speakers, World}
use Rattle.event_core.proofs.Loops.{same_speakers}
use Rattle.event_rounds.specs.Resting.{round_in, rounds_in, world_in}
use Rattle.event_rounds.proofs.Ending.{are_rounds, enough_are_quiet}
use Rattle.event_rounds.proofs.Least.{no_less, none_more}
use Rattle.event_rounds.proofs.More.{after_more, each_round_more}
use Rattle.event_state.specs.States.{speakers, state}
use Rattle.net_base.specs.Network.{IsNet}
use Rattle.rest_law.specs.Rest.{rounds_enough as enough_for}
use Rattle.rest_law.specs.Ways.{each_way}
use Rattle.rest_law.specs.Laws.{each_round, each_waiting}
use Rattle.rest_law.specs.Rounds.{AreRounds, deliveries}
use Rattle.event_rounds.proofs.resting.come_to_rest.Goals as goal

pub returns-then-is_quiet-clause-rounds : goal.returns-then-is_quiet-clause-rounds
returns-then-is_quiet-clause-rounds c =
    let w = c.args.world.now in
    let rules : IsNet w.net.now = subst IsNet c.net.ensures c.rounds_enough-enough.ensures.rules in
    let k = c.loop-rounds.rounds in
    subst (λ (v : World Route). AreRounds (speakers w) k v (rounds_in w.net.now.links (speakers w) k v)) (sym c.requires.reached.1)
    (are_rounds w.net.now (policy_of w.policy.now) w.config.now w.prefix rules c.requires.reached.0 k)

pub loop-rounds-preserved : goal.loop-rounds-preserved
loop-rounds-preserved c =
    let w = c.args.world.now in
    let v = c.loop-rounds.world in
    let inv = c.loop-rounds.invariant in
    let k = c.loop-rounds.rounds in
    let S = speakers w in
    let links = w.net.now.links in
    let ways = each_way links in
    let start = state w in
    let next : suc k ≡ k + 1 = omega arith in
    let speak : speakers v ≡ S = same_speakers v w inv.setting in
    let same : v.net.now.links ≡ links = ap (λ s. s.0.links) inv.setting in
    let round : round_in v.net.now.links (state v) ≡ each_waiting (world_in links S k start) ways = ap₂ (λ (ls : List (ℕ × ℕ)) (u : World Route). round_in ls u) same inv.world in
    record {
      setting = c.in_ok-deliveries.ensures.setting ∙ inv.setting;
      world =
          c.in_ok-deliveries.ensures.world
          ∙ ap (λ (T : Speakers Route). run T (deliveries (round_in v.net.now.links (state v))) (state v)) speak
          ∙ ap₂ (λ (ds : List (ℕ × ℕ)) (u : World Route). run S (deliveries ds) u) round inv.world
          ∙ sym (after_more S ways k start)
          ∙ ap (λ i. world_in links S i start) next;
      waited =
          none_more (λ i. IsQuiet (world_in links S i start)) k inv.waited
          (λ quiet. true≢false (sym (c.is_quiet.ensures.1 (subst (λ (u : World Route). IsQuiet u) (sym inv.world) quiet)) ∙ c.if-is_quiet.false));
      deliveries =
          ap₂ (λ (m n : ℕ). m + n) inv.deliveries (c.in_ok-deliveries.ensures.count ∙ ap length round)
          ∙ sym (length-append (each_round S ways k start) (each_waiting (world_in links S k start) ways))
          ∙ ap length (sym (each_round_more S ways k start))
          ∙ ap (λ i. length (rounds_in links S i start)) next;
      room = omega (arith, inv.room);
    }

pub returns-clause-first : goal.returns-clause-first
returns-clause-first c =
    let w = c.args.world.now in
    let rules : IsNet w.net.now = subst IsNet c.net.ensures c.rounds_enough-enough.ensures.rules in
    let inv = c.loop-rounds.invariant in
    let enough = c.rounds_enough-enough.result in
    let value : enough ≡ enough_for w.net.now = c.rounds_enough-enough.ensures.value ∙ ap enough_for c.net.ensures in
    let over : c.loop-rounds.rounds ≡ enough = omega (arith, c.loop-rounds-test.false, c.loop-rounds.auto.rounds-end) in
    let waited = subst (λ (n : ℕ). (k : ℕ) → k < n → IsQuiet (world_in w.net.now.links (speakers w) k (state w)) → ⊥) over inv.waited in
    record {
      quiet =
          subst (λ (n : ℕ). IsQuiet (world_in w.net.now.links (speakers w) n (state w))) (sym value)
          (subst (λ (v : World Route). IsQuiet (world_in w.net.now.links (speakers w) (enough_for w.net.now) v)) (sym c.requires.reached.1)
          (enough_are_quiet w.net.now (policy_of w.policy.now) w.config.now w.prefix rules c.requires.reached.0 c.requires.rests));
      no_sooner = no_less (λ i. IsQuiet (world_in w.net.now.links (speakers w) i (state w))) enough waited;
    }

pub returns-clause-rounds : goal.returns-clause-rounds
returns-clause-rounds c =
    let w = c.args.world.now in
    let rules : IsNet w.net.now = subst IsNet c.net.ensures c.rounds_enough-enough.ensures.rules in
    let k = c.rounds_enough-enough.result in
    subst (λ (v : World Route). AreRounds (speakers w) k v (rounds_in w.net.now.links (speakers w) k v)) (sym c.requires.reached.1)
    (are_rounds w.net.now (policy_of w.policy.now) w.config.now w.prefix rules c.requires.reached.0 k)

pub returns-clause-world : goal.returns-clause-world
returns-clause-world c =
    let w = c.args.world.now in
    let over : c.loop-rounds.rounds ≡ c.rounds_enough-enough.result = omega (arith, c.loop-rounds-test.false, c.loop-rounds.auto.rounds-end) in
    c.loop-rounds.invariant.world ∙ ap (λ i. world_in w.net.now.links (speakers w) i (state w)) over
