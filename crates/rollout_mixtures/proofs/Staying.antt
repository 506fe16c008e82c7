-- Mixtures of configurations that do the same with a prefix come to rest. They have two layers: the lines of both, and, below them, the own routes of
-- who originates the prefix by the second policy alone. These have no lines.
use Rattle.std.proofs.Common.{◌≡◌, ℕ, Bool, true, false, ◌⊎◌, List, [], ◌∷◌, refl, sym, ap, ◌∙◌, subst, inl, inr}
use Rattle.std.proofs.lemmas.Bool.{cases_Bool, true≢false}
use Rattle.list_law.proofs.Options.{none_or_some}
use Rattle.net_base.specs.declared.numbers.Tag.{Tag}
use Rattle.net_base.specs.Network.{PlainNet, IsNet, is_peer, is_router}
use Rattle.net_base.specs.Numbers.{no_tag}
use Rattle.net_base.specs.Prefixes.{PlainPrefix, IsPrefix}
use Rattle.policy_base.specs.Policies.{IsPolicyOf}
use Rattle.policy_base.specs.Governing.{is_origin}
use Rattle.config_base.specs.Configs.{PlainConfig, IsConfig}
use Rattle.evidence_base.specs.Made.{PlainCaseEvidence}
use Rattle.outcome_base.specs.Outcomes.{route_at}
use Rattle.evidence_law.specs.Passes.{Passes}
use Rattle.event_law.specs.Kept.{IsKept}
use Rattle.event_law.specs.Kinds.{AreKinds}
use Rattle.event_law.specs.Scenarios.{scenario_of}
use Rattle.rest_law.proofs.Trails.{IsHolding, IsSaying}
use Rattle.rollout_base.specs.Lines.{GivesTag, sends, takes}
use Rattle.rollout_base.specs.Mixtures.{Part, Running, after, begins, mixed}
use Rattle.rollout_base.specs.Stages.{IsStage, SayAlike}
use Rattle.rollout_rest.proofs.Rest.{holds_trails, keeps}
use Rattle.rollout_stages.proofs.Alike.{own_bare, silenced, untagged_elsewhere}
use Rattle.rollout_stages.proofs.Saying.{alike_swapped, twice}
use Rattle.rollout_mixtures.specs.Alike.{AlikesComeToRest, RolloutsRunEither, RunsEither}
use Rattle.rollout_mixtures.specs.Between.{HasLines, HasStarts, IsBetween}
use Rattle.rollout_mixtures.specs.Laws.{ComesToAnEnd}
use Rattle.rollout_mixtures.proofs.Alone.{IsAlone, alone}
use Rattle.rollout_mixtures.proofs.Idle.{IsIdle, IsUnread, both_or_idle, unread}
use Rattle.rollout_mixtures.proofs.Rest.{after_downs, earlier_scenario, ends, later_scenario}
use Rattle.rollout_mixtures.proofs.Setting.{Setting}
use Rattle.rollout_mixtures.proofs.Settles.{Settles, bare_over, settles}
use Rattle.rollout_mixtures.proofs.Two.{Two, w1, w2}

-- ---- two parts of which the first has lines

module _ (net : PlainNet) (p : PlainPrefix) (old new : Part) (read : IsUnread net p old) (r : ℕ) (part : Part) (says : SayAlike net p part.config old.config) where
  -- it has the lines of the first
  has_lines : HasLines net p old r part
  has_lines = record { sent = λ z t gives. says.sent r z t; taken = λ u path t from gives. says.taken r u path t }

  -- a part without lines gives no tag
  gives_none : (u : ℕ) (t : Tag) → GivesTag net p (silenced new) u t → t ≡ no_tag
  gives_none u t (inl own) = sym own.1 ∙ own_bare net p old new u
  gives_none u t (inr g) = absurd (none_or_some (takes net (silenced new).config p u g.0 g.1 g.2) (t, g.3) refl g.4)

  -- and has no line about it
  has_none : HasLines net p (silenced new) r part
  has_none = record {
    sent = λ z t gives. says.sent r z t ∙ ap (sends net old.config p r z) (gives_none r t gives) ∙ read.sent r z;
    taken = λ u path t from gives. says.taken r u path t ∙ ap (takes net old.config p r u path) (gives_none u t gives) ∙ read.taken r u path from;
  }

  starts_first : is_origin net part.policy p r ≡ is_origin net old.policy p r → HasStarts net p old r part
  starts_first same = record { origin = same; own = λ origin. says.own r; heard = λ u path t off. says.taken r u path t }

  starts_second : part.policy ≡ new.policy → IsIdle net p old r → HasStarts net p (silenced new) r part
  starts_second same idle = record {
    origin = ap (λ policy. is_origin net policy p r) same;
    own = λ origin. says.own r ∙ idle.own ∙ sym (own_bare net p old new r);
    heard = λ u path t off. says.taken r u path t ∙ idle.taken u path t;
  }

  keeps_starts : is_origin net part.policy p r ≡ is_origin net old.policy p r → IsBetween net p (silenced new) old r part
  keeps_starts same = record {
    flipped = true;
    has_old = true;
    has_new = true;
    after = λ e. (starts_first same, refl);
    before = λ e. absurd (true≢false e);
    old_lines = λ e. has_none;
    old_none = λ e. absurd (true≢false e);
    new_lines = λ e. has_lines;
    new_none = λ e. absurd (true≢false e);
  }

  idles : part.policy ≡ new.policy → IsIdle net p old r → IsBetween net p (silenced new) old r part
  idles same idle = record {
    flipped = false;
    has_old = true;
    has_new = true;
    after = λ e. absurd (true≢false (sym e));
    before = λ e. (starts_second same idle, refl);
    old_lines = λ e. has_none;
    old_none = λ e. absurd (true≢false e);
    new_lines = λ e. has_lines;
    new_none = λ e. absurd (true≢false e);
  }

  -- a part between them, as far as it originates as the first
  pub is_between : (part.policy ≡ old.policy) ⊎ (part.policy ≡ new.policy) → (is_origin net new.policy p r ≡ is_origin net old.policy p r) ⊎ IsIdle net p old r
      → IsBetween net p (silenced new) old r part
  is_between (inl same) odd = keeps_starts (ap (λ policy. is_origin net policy p r) same)
  is_between (inr same) (inl origin) = keeps_starts (ap (λ policy. is_origin net policy p r) same ∙ origin)
  is_between (inr same) (inr idle) = idles same idle

-- ---- what is known of two configurations that do the same, in a world of a mixture

pub record Stay : Type 0 where
  pub s : Setting
  pub old : Part
  pub new : Part
  pub rules : IsNet s.net
  pub prefix : IsPrefix s.p
  pub old_cases : List PlainCaseEvidence
  pub old_policy : IsPolicyOf s.net old.policy
  pub old_passes : Passes s.net old.policy old.config old_cases
  pub new_cases : List PlainCaseEvidence
  pub new_policy : IsPolicyOf s.net new.policy
  pub new_passes : Passes s.net new.policy new.config new_cases
  pub read : IsUnread s.net s.p old
  pub alike : SayAlike s.net s.p old.config new.config
  pub old_says : (a : ℕ) → is_router s.net a ≡ false → is_origin s.net old.policy s.p a ≡ true → s.says a ≡ true
  pub new_says : (a : ℕ) → is_router s.net a ≡ false → is_origin s.net new.policy s.p a ≡ true → s.says a ≡ true
  pub runs : (r : ℕ) → RunsEither s.net s.p old new (s.m r)

module _ (k : Stay) where
  pub old_alone : IsAlone k.s.net k.s.p k.old
  old_alone = alone k.s.net k.s.p k.old k.old_cases k.rules k.old_policy k.old_passes k.prefix

  pub new_alone : IsAlone k.s.net k.s.p k.new
  new_alone = alone k.s.net k.s.p k.new k.new_cases k.rules k.new_policy k.new_passes k.prefix

  -- who originates by both or by neither, and who is idle
  pub odd : (r : ℕ) → (is_origin k.s.net k.new.policy k.s.p r ≡ is_origin k.s.net k.old.policy k.s.p r) ⊎ IsIdle k.s.net k.s.p k.old r
  odd =
      both_or_idle k.s.net k.s.p k.old k.new k.alike k.rules old_alone new_alone
      (untagged_elsewhere k.s.net k.old k.old_cases k.rules k.old_policy k.old_passes k.s.p k.prefix)
      (untagged_elsewhere k.s.net k.new k.new_cases k.rules k.new_policy k.new_passes k.s.p k.prefix)

  abbrev layers : Two
  layers = record {
    s = k.s;
    old = silenced k.new;
    new = k.old;
    between = λ r. is_between k.s.net k.s.p k.old k.new k.read r (k.s.m r) (k.runs r).says (k.runs r).policy (odd r);
    above = λ r u v path way t s q i taken other. absurd (none_or_some (takes k.s.net (silenced k.new).config k.s.p r u path t) q refl taken);
    old_says = k.new_says;
    new_says = k.old_says;
    old_alone = record {
      router = λ v u path t q from e. absurd (none_or_some (takes k.s.net (silenced k.new).config k.s.p v u path t) q refl e);
      peer = λ v u q off peer e. absurd (none_or_some (takes k.s.net (silenced k.new).config k.s.p v u (u ∷ []) no_tag) q refl e);
    };
    new_alone = old_alone;
  }

  module _ (both : (a b : ℕ) → k.s.w.cut a b ≡ k.s.w.cut b a) (down : (r : ℕ) → k.s.w.down r ≡ true → is_router k.s.net r ≡ true) where
    upper : Settles k.s.net k.old.policy k.old.config k.s.p (w2 layers) (scenario_of k.s.net (w2 layers))
    upper =
        settles k.s.net k.old.policy k.old.config k.old_cases k.rules k.old_policy k.old_passes k.s.p k.prefix (w2 layers) (scenario_of k.s.net (w2 layers))
        (later_scenario layers both down)

    lower : Settles k.s.net k.new.policy (silenced k.new).config k.s.p (w1 layers (route_at upper.outcome)) (scenario_of k.s.net (w1 layers (route_at upper.outcome)))
    lower =
        bare_over k.s.net k.new.policy (silenced k.new).config k.s.p k.rules (w1 layers (route_at upper.outcome)) (scenario_of k.s.net (w1 layers (route_at upper.outcome)))
        (earlier_scenario layers both down (route_at upper.outcome)) refl

    pub stay_comes_to_an_end : IsKept (mixed k.s.net k.s.says k.s.p k.s.m) k.s.w → AreKinds (IsHolding k.s.net) (IsSaying k.s.net) k.s.w → ComesToAnEnd k.s.net k.s.says k.s.p k.s.m k.s.w
    stay_comes_to_an_end kept trails = ends layers (route_at upper.outcome) upper.order (route_at lower.outcome) lower.order k.rules kept trails

-- ---- after events and loads

abbrev pub stay_of : (net : PlainNet) (says : ℕ → Bool) (p : PlainPrefix) (old new : Part) (cs ds : List PlainCaseEvidence) (s : Running) → IsNet net
    → IsPolicyOf net old.policy → Passes net old.policy old.config cs → IsConfig old.config → IsPolicyOf net new.policy → Passes net new.policy new.config ds → IsPrefix p
    → SayAlike net p old.config new.config
    → ((a : ℕ) → says a ≡ true → is_peer net a ≡ true)
    → ((a : ℕ) → is_router net a ≡ false → is_origin net old.policy p a ≡ true → says a ≡ true)
    → ((a : ℕ) → is_router net a ≡ false → is_origin net new.policy p a ≡ true → says a ≡ true)
    → ((r : ℕ) → RunsEither net p old new (s.runs r)) → Stay
stay_of net says p old new cs ds s rules lawful passes config lawful' passes' prefix alike peers old_says new_says runs = record {
  s = record { net = net; says = says; p = p; m = s.runs; w = s.world; peers = peers };
  old = old;
  new = new;
  rules = rules;
  prefix = prefix;
  old_cases = cs;
  old_policy = lawful;
  old_passes = passes;
  new_cases = ds;
  new_policy = lawful';
  new_passes = passes';
  read = unread net p old config;
  alike = alike;
  old_says = old_says;
  new_says = new_says;
  runs = runs;
}

pub alikes_come_to_rest : AlikesComeToRest
alikes_come_to_rest net says p old new cs ds m es rules lawful passes config lawful' passes' prefix alike peers old_says new_says runs =
    let kept = keeps net says p m es rules in
    let k = stay_of net says p old new cs ds (after net says p es (begins net says p m)) rules lawful passes config lawful' passes' prefix alike peers old_says new_says runs in
    stay_comes_to_an_end k kept.both (after_downs net says p m es) kept (holds_trails net says p m es rules)

-- ---- the parts of a rollout

module _ (net : PlainNet) (p : PlainPrefix) (start other : Part) (stage : PlainConfig) (is : IsStage net p start.config other.config stage) (alike : SayAlike net p start.config other.config) where
  stage_says : SayAlike net p stage start.config
  stage_says = record {
    own = λ r. is.own r;
    sent = λ r z tag. is.sent r z tag ∙ twice (sends net start.config p r z tag) (sends net other.config p r z tag) (alike.sent r z tag);
    taken = λ r u path tag. elim (cases_Bool (is_router net u)) [
      | inl from ↦ is.taken r u path tag from ∙ twice (takes net start.config p r u path tag) (takes net other.config p r u path tag) (alike.taken r u path tag)
      | inr off ↦ is.heard r u path tag off
    ];
  }

module _ (net : PlainNet) (p : PlainPrefix) where
  itself : (x : PlainConfig) → SayAlike net p x x
  itself x = record { own = λ r. refl; sent = λ r z tag. refl; taken = λ r u path tag. refl }

  pub through : (x y z : PlainConfig) → SayAlike net p x y → SayAlike net p y z → SayAlike net p x z
  through x y z a b = record { own = λ r. a.own r ∙ b.own r; sent = λ r l tag. a.sent r l tag ∙ b.sent r l tag; taken = λ r u path tag. a.taken r u path tag ∙ b.taken r u path tag }

pub rollouts_run_either : RolloutsRunEither
rollouts_run_either net p old new one two is alike part (inl (inl same)) =
    subst (RunsEither net p old new) (sym same) (record { policy = inl refl; says = itself net p old.config })
rollouts_run_either net p old new one two is alike part (inl (inr same)) =
    subst (RunsEither net p old new) (sym same) (record { policy = inl refl; says = stage_says net p old new one is.first alike })
rollouts_run_either net p old new one two is alike part (inr (inl same)) =
    subst (RunsEither net p old new) (sym same) (record { policy = inr refl; says = alike_swapped net p old.config new.config alike })
rollouts_run_either net p old new one two is alike part (inr (inr same)) =
    let other = alike_swapped net p old.config new.config alike in
    subst (RunsEither net p old new) (sym same)
    (record { policy = inr refl; says = through net p two new.config old.config (stage_says net p new old two is.second other) other })
