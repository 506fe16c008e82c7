-- What is down and cut in a world, and what the peers say in it, is so too where nobody has heard, chosen or sent anything. From there a network
-- that chooses by identifier rests in the fully stable outcome.
use Rattle.std.proofs.Common.{◌≡◌, ℕ, Bool, true, false, List, [], ◌∷◌, Option, refl, sym, ap, ◌∙◌, subst, inl, inr, arith}
use Rattle.std.specs.Prelude.{◌&&◌, not, if◌then◌else◌}
use Rattle.std.proofs.lemmas.Bool.{cases_Bool, cond-true, cond-false}
use Rattle.net_base.specs.Network.{PlainNet}
use Rattle.net_base.specs.Prefixes.{PlainPrefix}
use Rattle.policy_base.specs.Policies.{PlainPolicy}
use Rattle.config_base.specs.Configs.{PlainConfig}
use Rattle.event_base.specs.World.{at, is, joins}
use Rattle.outcome_base.specs.Announcements.{Announced, Announcements, Sent}
use Rattle.outcome_base.specs.Outcomes.{Failures}
use Rattle.motion_law.specs.Motion.{Motion, Move, Move as move, after_moves, at_the_start, cleared, cut_is, down_is, has_to_say, live_in, moved, next_heard, queues, same_sent, says_is}
use Rattle.motion_law.specs.Rounds.{world_at}
use Rattle.motion_rest.specs.Rest.{IsScenarioIn, full_of, world_before}
use Rattle.motion_rest.proofs.Still.{SameMarks}
use Rattle.named_rest.specs.Named.{AreNamed, IsFullyStableUnder}
use Rattle.named_rest.specs.Scenarios.{EveryWorldHasAnOutcome}
use Rattle.named_rest.proofs.Ending.{full_size, ties_by_name_have_one_end}
use Rattle.named_rest.proofs.Naming.{named_choices_take_lowest}
use Rattle.named_rest.proofs.Scenarios.{fair_schedules_exist}

-- of these moves those that fail something, mend it, or change what a peer says
abbrev marks : List Move → List Move
marks [] = []
marks (move.hear a b ∷ ms) = marks ms
marks (move.choose r u ∷ ms) = marks ms
marks (move.send a b ∷ ms) = marks ms
marks (move.say peer r o ∷ ms) = move.say peer r o ∷ marks ms
marks (move.link_down a b ∷ ms) = move.link_down a b ∷ marks ms
marks (move.link_up a b ∷ ms) = move.link_up a b ∷ marks ms
marks (move.router_down r ∷ ms) = move.router_down r ∷ marks ms
marks (move.router_up r ∷ ms) = move.router_up r ∷ marks ms

module _ (net : PlainNet) (policy : PlainPolicy) (config : PlainConfig) (p : PlainPrefix) where
  marks-named : (ms : List Move) (w : Motion) → AreNamed net policy config p (marks ms) w
  marks-named [] w = tt
  marks-named (move.hear a b ∷ ms) w = marks-named ms w
  marks-named (move.choose r u ∷ ms) w = marks-named ms w
  marks-named (move.send a b ∷ ms) w = marks-named ms w
  marks-named (move.say peer r o ∷ ms) w = (tt, marks-named ms (moved net policy config p (move.say peer r o) w))
  marks-named (move.link_down a b ∷ ms) w = (tt, marks-named ms (moved net policy config p (move.link_down a b) w))
  marks-named (move.link_up a b ∷ ms) w = (tt, marks-named ms (moved net policy config p (move.link_up a b) w))
  marks-named (move.router_down r ∷ ms) w = (tt, marks-named ms (moved net policy config p (move.router_down r) w))
  marks-named (move.router_up r ∷ ms) w = (tt, marks-named ms (moved net policy config p (move.router_up r) w))

  heard-same : (a b : ℕ) (ms : List (Option Sent)) (v w : Motion) → SameMarks v w → SameMarks v (next_heard a b ms w)
  heard-same a b [] v w s = s
  heard-same a b (m ∷ rest) v w s = record { down = s.down; cut = s.cut; says = s.says }

  cut_same : (a b : ℕ) (c : Bool) (v w : Motion) → SameMarks v w → (cut_is a b c v).cut ≡ (cut_is a b c w).cut
  cut_same a b c v w s = (let cuts : (ℕ → ℕ → Bool) → ℕ → ℕ → Bool = λ g x y. if joins a b x y then c else g x y in ap cuts s.cut)

  down_same : (r : ℕ) (d : Bool) (v w : Motion) → SameMarks v w → (down_is r d v).down ≡ (down_is r d w).down
  down_same r d v w s = (let downs : (ℕ → Bool) → ℕ → Bool = λ g x. if at r x then d else g x in ap downs s.down)

  says_same : (peer r : ℕ) (o : Option Announced) (v w : Motion) → SameMarks v w → (says_is peer r o v).says ≡ (says_is peer r o w).says
  says_same peer r o v w s = (let words : Announcements → Announcements = λ g x y. if is peer r x y then o else g x y in ap words s.says)

  same_after : (ms : List Move) (v w : Motion) → SameMarks v w → SameMarks (after_moves net policy config p (marks ms) v) (after_moves net policy config p ms w)
  same_after [] v w s = s
  same_after (move.hear a b ∷ ms) v w s = same_after ms v (moved net policy config p (move.hear a b) w) (elim (cases_Bool (live_in net policy config p w a b)) [
    | inl t ↦ subst (SameMarks v) (sym (cond-true (live_in net policy config p w a b) (next_heard a b (w.queue a b) w) (cleared (is a b) (is a b) w) t)) (heard-same a b (w.queue a b) v w s)
    | inr f ↦
        subst (SameMarks v) (sym (cond-false (live_in net policy config p w a b) (next_heard a b (w.queue a b) w) (cleared (is a b) (is a b) w) f)) (record { down = s.down; cut = s.cut; says = s.says })
  ])
  same_after (move.choose r u ∷ ms) v w s = same_after ms v (moved net policy config p (move.choose r u) w) (record { down = s.down; cut = s.cut; says = s.says })
  same_after (move.send a b ∷ ms) v w s =
      let m = has_to_say net policy config p w a b in
      let test = live_in net policy config p w a b && not (same_sent m (w.queued a b)) in
      same_after ms v (moved net policy config p (move.send a b) w) (elim (cases_Bool (live_in net policy config p w a b && not (same_sent (has_to_say net policy config p w a b) (w.queued a b)))) [
        | inl t ↦ subst (SameMarks v) (sym (cond-true test (queues a b m w) w t)) (record { down = s.down; cut = s.cut; says = s.says })
        | inr f ↦ subst (SameMarks v) (sym (cond-false test (queues a b m w) w f)) s
      ])
  same_after (move.say peer r o ∷ ms) v w s =
      same_after ms (moved net policy config p (move.say peer r o) v) (moved net policy config p (move.say peer r o) w)
      (record { down = s.down; cut = s.cut; says = says_same peer r o v w s })
  same_after (move.link_down a b ∷ ms) v w s =
      same_after ms (moved net policy config p (move.link_down a b) v) (moved net policy config p (move.link_down a b) w) (record { down = s.down; cut = cut_same a b true v w s; says = s.says })
  same_after (move.link_up a b ∷ ms) v w s =
      same_after ms (moved net policy config p (move.link_up a b) v) (moved net policy config p (move.link_up a b) w) (record { down = s.down; cut = cut_same a b false v w s; says = s.says })
  same_after (move.router_down r ∷ ms) v w s =
      same_after ms (moved net policy config p (move.router_down r) v) (moved net policy config p (move.router_down r) w) (record { down = down_same r true v w s; cut = s.cut; says = s.says })
  same_after (move.router_up r ∷ ms) v w s =
      same_after ms (moved net policy config p (move.router_up r) v) (moved net policy config p (move.router_up r) w) (record { down = down_same r false v w s; cut = s.cut; says = s.says })

same_scenario : (net : PlainNet) (v w : Motion) (f : Failures) → SameMarks v w → IsScenarioIn net w f → IsScenarioIn net v f
same_scenario net v w f s k = record {
  dead = λ l. k.dead l ∙ ap (λ (g : ℕ → Bool). g l) (sym s.down);
  links = λ a b on. k.links a b on ∙ ap (λ (g : ℕ → ℕ → Bool). g a b) (sym s.cut);
  silent = k.silent;
}

pub every_world_has_an_outcome : EveryWorldHasAnOutcome
every_world_has_an_outcome net policy config cs rules kept passes p prefix before f scenario =
    let start = at_the_start net policy config p in
    let same = same_after net policy config p before start start (record { down = refl; cut = refl; says = refl }) in
    let v = world_before net policy config p (marks before) in
    let w = world_before net policy config p before in
    let s = fair_schedules_exist net policy config p v rules in
    let lowest = named_choices_take_lowest net policy config p (marks before) s.0 rules (marks-named net policy config p before start) s.1 s.3 in
    let rest = ties_by_name_have_one_end net policy config cs rules kept passes p prefix (marks before) f s.0 0 (same_scenario net v w f same scenario) s.1 s.2 lowest in
    let x = world_at net policy config p s.0 v rest.0 in (
      full_of net x,
      full_size net x,
      subst (λ (g : Announcements). IsFullyStableUnder net policy config f g p (full_of net x)) same.says (rest.1.settled rest.0 (omega arith)),
    )
