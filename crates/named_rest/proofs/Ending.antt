-- What a network rests in is fully stable where ties go by identifier: each router chooses again at rest, over what it's given for good.
use Rattle.std.proofs.Common.{◌≡◌, ℕ, ◌≤◌, ◌+◌, zero, suc, true, false, length, Option, Some, None, refl, sym, ap, ◌∙◌, inl, inr, arith}
use Rattle.std.specs.Prelude.{◌&&◌, not}
use Rattle.std.specs.Option.{option_and_then}
use Rattle.std.proofs.lemmas.Bool.{and_from, and_parts, cases_Bool, cond-true, lt-ltb}
use Rattle.std.proofs.lemmas.List.{length-map}
use Rattle.list_law.proofs.Items.{same_options}
use Rattle.net_base.specs.Locations.{numbers_below}
use Rattle.net_base.specs.Network.{PlainNet, IsNet, is_router, linked}
use Rattle.net_base.specs.Prefixes.{PlainPrefix}
use Rattle.net_base.proofs.Links.{linked_flips}
use Rattle.net_base.proofs.NumbersBelow.{length-numbers_below}
use Rattle.policy_base.specs.Policies.{PlainPolicy}
use Rattle.policy_base.specs.Governing.{is_origin}
use Rattle.config_base.specs.Configs.{PlainConfig}
use Rattle.config_base.specs.Lines.{class_of}
use Rattle.outcome_base.specs.Announcements.{FullOutcome, FullRoute, Sent, full_at, given_under, sent_under, taken_under}
use Rattle.outcome_base.specs.Outcomes.{Failures, is_dead, is_live}
use Rattle.outcome_law.proofs.Inside.{given-parts}
use Rattle.motion_law.specs.Motion.{Motion, Move, at_the_start, gift}
use Rattle.motion_law.specs.Rounds.{Schedule, stepped, world_at}
use Rattle.motion_law.proofs.Within.{AreKinds, after-kinds, moved-kinds, start-kinds}
use Rattle.motion_rest.specs.Rest.{IsFair, IsScenarioIn, RestsFrom, full_of, world_before}
use Rattle.motion_rest.proofs.Match.{full_held}
use Rattle.motion_rest.proofs.Resting.{passing_evidence_rests}
use Rattle.named_rest.specs.Named.{IsFullyStableUnder, IsNoLaterUnder, TakesLowest, TiesByNameHaveOneEnd, lowest_gift}
use Rattle.named_rest.proofs.Lowest.{gift_first}
use Rattle.named_rest.proofs.One.{same_outcome}

pub full_size : (net : PlainNet) (w : Motion) → length (full_of net w) ≡ length net.routers
full_size net w = length-map (numbers_below (length net.routers)) w.route ∙ length-numbers_below (length net.routers)

module _ (net : PlainNet) (policy : PlainPolicy) (config : PlainConfig) (p : PlainPrefix) (rules : IsNet net) (f : Failures) (s : Schedule) (fair : IsFair net s)
    (w : Motion) (scenario : IsScenarioIn net w f) (kinds : AreKinds net policy config p rules w) (start : ℕ) (lowest : TakesLowest net policy config p s w start)
    (end : ℕ) (rests : RestsFrom net policy config p f s w end) where
  abbrev X : ℕ → Motion
  X t = world_at net policy config p s w t

  kinds_at : (t : ℕ) → AreKinds net policy config p rules (X t)
  kinds_at zero = kinds
  kinds_at (suc t) = by (s t) (kinds_at t)
    where
      by : (o : Option Move) → AreKinds net policy config p rules (X t) → AreKinds net policy config p rules (stepped net policy config p o (X t))
      by None k = k
      by (Some m) k = moved-kinds net policy config p rules m (X t) k

  -- at rest all have the same routes
  same_full : (t i : ℕ) → end ≤ t → end ≤ i → full_of net (X t) ≡ full_of net (X i)
  same_full t i late late' = same_options (full_of net (X t)) (full_of net (X i)) (full_size net (X t) ∙ sym (full_size net (X i))) (λ v l. each v (let e = full_size net (X t) in lt-ltb v (length net.routers) (omega (arith, l, e))))
    where
      each : (v : ℕ) → is_router net v ≡ true → full_at (full_of net (X t)) v ≡ full_at (full_of net (X i)) v
      each v router = full_held net (X t) v router ∙ (rests t late).1 v router ∙ sym ((rests i late').1 v router) ∙ sym (full_held net (X i) v router)

  abbrev given : ℕ → ℕ → ℕ → Option FullRoute
  given t u r = given_under net config f w.says p (full_of net (X t)) u r

  -- and what one makes of what it has heard is what it's given
  gift_is : (t u r : ℕ) → end ≤ t → linked net u r ≡ true → gift net policy config p (X t) r u ≡ given t u r
  gift_is t u r late on = elim (cases_Bool (is_live net f u r)) [
    | inl live ↦
        ap (λ (o : Option Sent). option_and_then (λ class. option_and_then (taken_under net config class r u) o) (class_of config p)) ((rests t late).0.heard u r live)
        ∙ sym (cond-true (is_live net f u r) (option_and_then (λ class. option_and_then (taken_under net config class r u) (sent_under net config f w.says p (full_of net (X t)) u r)) (class_of config p)) None live)
    | inr off ↦ nothing ((rests t late).0.gone u r on off) (class_of config p) ∙ sym (unheard off)
  ]
    where
      nothing : (X t).heard u r ≡ None → (k : Option ℕ) → option_and_then (λ class. option_and_then (taken_under net config class r u) ((X t).heard u r)) k ≡ None
      nothing none None = refl
      nothing none (Some class) = ap (option_and_then (taken_under net config class r u)) none

      unheard : is_live net f u r ≡ false → given t u r ≡ None
      unheard off = rw off refl

  first : (t r z : ℕ) (x g : FullRoute) → end ≤ t → (is_router net r && not (is_origin net policy p r) && not (is_dead f r)) ≡ true → full_at (full_of net (X t)) r ≡ Some x → given t z r ≡ Some g → IsNoLaterUnder net x g
  first t r z x g late who at e =
      let a = and_parts (is_router net r && not (is_origin net policy p r)) (not (is_dead f r)) who in
      let router = (and_parts (is_router net r) _ a.0).0 in
      let c = fair.chooses r (start + end) router in
      let i = c.0 in
      let l = c.2 in
      let late' : end ≤ i = omega (arith, l) in
      let up : not (w.down r) ≡ true = ap not (sym (scenario.dead r)) ∙ a.1 in
      let takes = lowest i r c.1 (omega (arith, l)) c.3 (and_from (is_router net r && not (is_origin net policy p r)) (not (w.down r)) a.0 up) in
      let has : lowest_gift net policy config p (X i) r ≡ Some x =
      sym takes ∙ (rests (suc i) (omega (arith, late'))).1 r router ∙ sym ((rests t late).1 r router) ∙ sym (full_held net (X t) r router) ∙ at in
      let link : linked net z r ≡ true = (and_parts _ _ (and_parts _ _ (and_parts _ _ (given-parts net policy config f w.says p (full_of net (X t)) z r g e).0).0).0).0 in
      let there : given i z r ≡ Some g = ap (λ (o : FullOutcome). given_under net config f w.says p o z r) (same_full i t late' late) ∙ e in
      gift_first net policy config p rules (X i) r (kinds_at i) x has z g (linked_flips net r z ∙ link) (gift_is i z r late' link ∙ there)

  pub settled : (t : ℕ) → end ≤ t → IsFullyStableUnder net policy config f w.says p (full_of net (X t))
  settled t late = record { stable = (rests t late).0.stable; first = λ r z x g who at e. first t r z x g late who at e }

pub ties_by_name_have_one_end : TiesByNameHaveOneEnd
ties_by_name_have_one_end net policy config cs rules kept passes p prefix before f s start scenario calm fair lowest =
    let w = world_before net policy config p before in
    let rest = (passing_evidence_rests net policy config cs rules kept passes p prefix).fair before f s scenario calm fair in
    let kinds = after-kinds net policy config p rules before (at_the_start net policy config p) (start-kinds net policy config p rules) in
    let whole = settled net policy config p rules f s fair w scenario kinds start lowest rest.0 rest.1 in (
      rest.0,
      record {
        rests = rest.1;
        settled = whole;
        alone = λ t late other size full.
            same_outcome net policy config cs rules kept passes p prefix f w.says scenario.silent other (full_of net (world_at net policy config p s w t)) size
            (full_size net (world_at net policy config p s w t)) full (whole t late);
      },
    )
