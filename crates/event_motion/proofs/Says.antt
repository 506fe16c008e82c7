-- What is said is the same in both worlds, and so is what is still to be sent.
use Rattle.std.proofs.Common.{◌≡◌, ℕ, Bool, true, false, [], ◌∷◌, Option, Some, None, refl, sym, ap, ◌∙◌, inl, inr}
use Rattle.std.specs.Prelude.{◌&&◌, not, ◌==◌, option_map, if◌then◌else◌}
use Rattle.std.specs.Option.{option_and_then}
use Rattle.std.specs.Str.{bytes_eq}
use Rattle.std.proofs.Math.Bool.{and-true}
use Rattle.std.proofs.lemmas.Bool.{cases_Bool, cond-true, cond-false, eq-eqb}
use Rattle.std.proofs.lemmas.Slice.Eq.{bytes_eq-Decides}
use Rattle.list_law.proofs.Options.{option_and_then_parts, option_map_parts}
use Rattle.net_base.specs.declared.numbers.Tag.{Tag}
use Rattle.net_base.specs.Network.{PlainNet, is_router, linked}
use Rattle.net_base.specs.Numbers.{no_tag}
use Rattle.net_base.specs.Prefixes.{PlainPrefix}
use Rattle.policy_base.specs.Policies.{PlainPolicy}
use Rattle.policy_base.specs.Governing.{is_origin}
use Rattle.config_base.specs.declared.route.Route.{Route}
use Rattle.config_base.specs.Configs.{PlainConfig}
use Rattle.config_base.specs.Lines.{class_of, export_of, same_tag}
use Rattle.event_base.specs.Speaking.{announced_by, exported_by, message, same_message, speakers_of}
use Rattle.event_base.specs.World.{Speakers, World, exported, live, owes}
use Rattle.outcome_base.specs.Announcements.{FullRoute, Sent}
use Rattle.motion_law.specs.Events.{held_alone, sent_alone}
use Rattle.motion_law.specs.Motion.{Motion, announced, has_to_say, live_in, same_sent, told, with_tag}
use Rattle.event_motion.specs.Playing.{Corresponds}

-- nobody sends a preference
abbrev pub IsPlain : Option Route → Type 0
IsPlain o = (m : Route) → o ≡ Some m → m.pref ≡ 0

abbrev pub ArePlain : World Route → Type 0
ArePlain e = (a b : ℕ) → IsPlain (e.queued a b)

same_same : (x y : Option Route) → IsPlain x → IsPlain y → same_sent (option_map sent_alone x) (option_map sent_alone y) ≡ same_message x y
same_same None None p q = refl
same_same None (Some h) p q = refl
same_same (Some g) None p q = refl
same_same (Some g) (Some h) p q =
    let alike : (g.pref == h.pref) ≡ true = eq-eqb g.pref h.pref (p g refl ∙ sym (q h refl)) in
    ap (λ z. bytes_eq g.path h.path && (z && same_tag g.tag h.tag)) ((bytes_eq-Decides [] []).1 refl)
    ∙ ap (λ z. bytes_eq g.path h.path && z) (sym (and-true (same_tag g.tag h.tag)) ∙ ap (λ z. same_tag g.tag h.tag && z) (sym alike))

module _ (net : PlainNet) (policy : PlainPolicy) (config : PlainConfig) (p : PlainPrefix) where
  abbrev pub S : Speakers Route
  S = speakers_of net policy config p

  told_same : (a b : ℕ) (o : Option Route) → told net policy config p a b (option_map held_alone o) ≡ option_map sent_alone (exported_by net config p a b o)
  told_same a b o = by (class_of config p) o
    where
      last : (h : Route) (x : Option Tag) → option_map (with_tag net policy config p (held_alone h)) x ≡ option_map sent_alone (option_map (message h) x)
      last h None = refl
      last h (Some tag) = refl

      by : (k : Option ℕ) (o : Option Route)
          → option_and_then (λ class. option_and_then (λ (t : FullRoute). option_map (with_tag net policy config p t) (export_of net config class a b t.route.tag)) (option_map held_alone o)) k
          ≡ option_map sent_alone (option_and_then (λ class. option_and_then (λ (h : Route). option_map (message h) (export_of net config class a b h.tag)) o) k)
      by None o = refl
      by (Some class) None = refl
      by (Some class) (Some h) = last h (export_of net config class a b h.tag)

  announced_same : (a : ℕ) (silent origin : Bool)
      → option_map (announced net policy config p a) (if silent then None else (if origin then Some (record { behind = []; tag = no_tag }) else None))
      ≡ option_map sent_alone (if silent then None else (if origin then Some (record { path = a ∷ []; tag = no_tag; pref = 0 }) else None))
  announced_same a true origin = refl
  announced_same a false true = refl
  announced_same a false false = refl

  pub exported_plain : (e : World Route) (a b : ℕ) → IsPlain (exported S e a b)
  exported_plain e a b m h = elim (cases_Bool (is_router net a)) [
    | inl t ↦ (
        let x : exported_by net config p a b (e.route a) ≡ Some m = sym (cond-true (is_router net a) (exported_by net config p a b (e.route a)) (if e.silent b a then None else announced_by net policy p a) t) ∙ h in
        let class = option_and_then_parts (λ (k : ℕ). option_and_then (λ (h : Route). option_map (message h) (export_of net config k a b h.tag)) (e.route a)) (class_of config p) m x in
        let r = option_and_then_parts (λ (h : Route). option_map (message h) (export_of net config class.0 a b h.tag)) (e.route a) m class.2 in
        let y = option_map_parts (message r.0) (export_of net config class.0 a b r.0.tag) m r.2 in
        ap (λ (z : Route). z.pref) (sym y.2))
    | inr f ↦ by (e.silent b a) (is_origin net policy p a) (sym (cond-false (is_router net a) (exported_by net config p a b (e.route a)) (if e.silent b a then None else announced_by net policy p a) f) ∙ h)
  ]
    where
      by : (silent origin : Bool) → (if silent then None else (if origin then Some (record { path = a ∷ []; tag = no_tag; pref = 0 }) else None)) ≡ Some m → m.pref ≡ 0
      by true origin h = absurd (cc)
      by false false h = absurd (cc)
      by false true h = (let same : record { path = a ∷ []; tag = no_tag; pref = 0 } ≡ m = cc in ap (λ (z : Route). z.pref) (sym same))

  module _ (e : World Route) (w : Motion) (c : Corresponds net policy config p e w) where
    pub live_same : (a b : ℕ) → live_in net policy config p w a b ≡ live S e a b
    live_same a b =
        ap (λ z. linked net a b && (not z && (not (w.down a) && not (w.down b)))) (c.cut a b)
        ∙ ap (λ z. linked net a b && (not (e.cut a b) && (not z && not (w.down b)))) (c.down a)
        ∙ ap (λ z. linked net a b && (not (e.cut a b) && (not (e.down a) && not z))) (c.down b)

    pub says_same : (a b : ℕ) → has_to_say net policy config p w a b ≡ option_map sent_alone (exported S e a b)
    says_same a b = elim (cases_Bool (is_router net a)) [
      | inl t ↦
          cond-true (is_router net a) (told net policy config p a b (w.route a)) (option_map (announced net policy config p a) (w.says a b)) t
          ∙ ap (told net policy config p a b) (c.route a) ∙ told_same a b (e.route a)
          ∙ ap (option_map sent_alone) (sym (cond-true (is_router net a) (exported_by net config p a b (e.route a)) (if e.silent b a then None else announced_by net policy p a) t))
      | inr f ↦
          cond-false (is_router net a) (told net policy config p a b (w.route a)) (option_map (announced net policy config p a) (w.says a b)) f
          ∙ ap (option_map (announced net policy config p a)) (c.says a b) ∙ announced_same a (e.silent b a) (is_origin net policy p a)
          ∙ ap (option_map sent_alone) (sym (cond-false (is_router net a) (exported_by net config p a b (e.route a)) (if e.silent b a then None else announced_by net policy p a) f))
    ]

    pub owes_same : ArePlain e → (a b : ℕ) → (live_in net policy config p w a b && not (same_sent (has_to_say net policy config p w a b) (w.queued a b))) ≡ owes S e a b
    owes_same plain a b =
        ap (λ z. z && not (same_sent (has_to_say net policy config p w a b) (w.queued a b))) (live_same a b)
        ∙ ap (λ (z : Option Sent). live S e a b && not (same_sent z (w.queued a b))) (says_same a b)
        ∙ ap (λ (z : Option Sent). live S e a b && not (same_sent (option_map sent_alone (exported S e a b)) z)) (c.queued a b)
        ∙ ap (λ z. live S e a b && not z) (same_same (exported S e a b) (e.queued a b) (exported_plain e a b) (plain a b))
