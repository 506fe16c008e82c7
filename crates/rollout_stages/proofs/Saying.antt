-- What a stage says.
use Rattle.std.proofs.Common.{◌≡◌, ℕ, true, ◌⊎◌, List, Option, Some, None, refl, sym, ◌∙◌, subst, inl, inr}
use Rattle.std.specs.Option.{option_and_then, option_or}
use Rattle.std.specs.List.{find}
use Rattle.std.proofs.lemmas.Bool.{cases_Bool}
use Rattle.list_law.proofs.Options.{option_and_then_parts, unless_parts, when_parts}
use Rattle.net_base.specs.declared.numbers.Tag.{Tag}
use Rattle.net_base.specs.Network.{PlainNet, is_named, is_router}
use Rattle.net_base.specs.Prefixes.{PlainPrefix}
use Rattle.config_base.specs.declared.config.RouterConfig.{RouterConfig}
use Rattle.config_base.specs.declared.config.Session.{Session}
use Rattle.config_base.specs.Configs.{PlainConfig}
use Rattle.config_base.specs.Lines.{block_at, class_of, export_by, export_of, import_of, is_looped, line_by, router_at}
use Rattle.rollout_base.specs.Lines.{GivesTag, ReadsAs, SaysNoMore, sends, takes}
use Rattle.rollout_base.specs.Mixtures.{Part}
use Rattle.rollout_base.specs.Stages.{AreStages, HasStartsOf, IsOfRollout, MayMix, SayAlike, staged}
use Rattle.rollout_stages.specs.Laws.{RolloutsHaveStages, StagesReadAsStarts, StagesSayNoMore}

-- ---- of options

either : {A : Type 0} (a b : Option A) (x : A) → option_or a b ≡ Some x → (a ≡ Some x) ⊎ (b ≡ Some x)
either None b x h = inr h
either (Some y) b x h = inl h

-- where the second is absent, or the same as the first, it adds nothing
adds_nothing : {A : Type 0} (a b : Option A) → ((x : A) → a ≡ None → b ≡ Some x → ⊥) → option_or a b ≡ a
adds_nothing (Some y) b never = refl
adds_nothing None None never = refl
adds_nothing None (Some x) never = absurd (never x refl refl)

pub twice : {A : Type 0} (a b : Option A) → a ≡ b → option_or a b ≡ a
twice (Some y) b same = refl
twice None b same = sym same

-- ---- who sends and takes is a router

module _ (net : PlainNet) (config : PlainConfig) (p : PlainPrefix) where
  has_block : (r z : ℕ) (b : Session) → block_at net config r z ≡ Some b → is_router net r ≡ true
  has_block r z b e =
      let c = option_and_then_parts _ (router_at net config r) b e in
      (when_parts (is_router net r) (find (λ (d : RouterConfig). is_named net d.name r) config.routers) c.0 c.1).0

  pub sender : (r z : ℕ) (tag t : Tag) → sends net config p r z tag ≡ Some t → is_router net r ≡ true
  sender r z tag t e =
      let c = option_and_then_parts (λ class. export_of net config class r z tag) (class_of config p) t e in
      let b = option_and_then_parts (export_by net c.0 z tag) (block_at net config r z) t c.2 in
      has_block r z b.0 b.1

  pub taker : (r u : ℕ) (path : List ℕ) (tag : Tag) (q : Tag × ℕ) → takes net config p r u path tag ≡ Some q → is_router net r ≡ true
  taker r u path tag q e =
      let c = option_and_then_parts (λ class. import_of net config class r u path tag) (class_of config p) q e in
      let a = unless_parts (is_looped net r u path) (option_and_then (line_by net c.0 u tag) (block_at net config r u)) q c.2 in
      let b = option_and_then_parts (line_by net c.0 u tag) (block_at net config r u) q a.1 in
      has_block r u b.0 b.1

-- ---- a stage says no more than its two configurations

pub stages_say_no_more : StagesSayNoMore
stages_say_no_more net p start other stage r is = record {
  own = λ origin. inl (origin, is.own r);
  sent = λ z tag t e. either (sends net start.config p r z tag) (sends net other.config p r z tag) t (sym (is.sent r z tag) ∙ e);
  taken = λ u path tag t pref e. elim (cases_Bool (is_router net u)) [
    | inl from ↦ elim (either (takes net start.config p r u path tag) (takes net other.config p r u path tag) (t, pref) (sym (is.taken r u path tag from) ∙ e)) [
      | inl a ↦ inl (pref, a)
      | inr b ↦ inr (pref, b)
    ]
    | inr off ↦ inl (pref, sym (is.heard r u path tag off) ∙ e)
  ];
}

-- ---- and reads the routes of its starts as their own configuration does

module _ (net : PlainNet) (p : PlainPrefix) (start other : Part) (mix : MayMix net p start other) where
  nothing_sent : (r z : ℕ) (t : Tag) → GivesTag net p start r t → option_or (sends net start.config p r z t) (sends net other.config p r z t) ≡ sends net start.config p r z t
  nothing_sent r z t gives = elim mix [
    | inr alike ↦ twice (sends net start.config p r z t) (sends net other.config p r z t) (alike.sent r z t)
    | inl apart ↦ adds_nothing (sends net start.config p r z t) (sends net other.config p r z t)
        (λ k none e. apart.one r t (sender net other.config p r z t k e) gives (inl (z, k, e)))
  ]

  nothing_taken : (r u : ℕ) (path : List ℕ) (t : Tag) → is_router net u ≡ true → GivesTag net p start u t
      → option_or (takes net start.config p r u path t) (takes net other.config p r u path t) ≡ takes net start.config p r u path t
  nothing_taken r u path t from gives = elim mix [
    | inr alike ↦ twice (takes net start.config p r u path t) (takes net other.config p r u path t) (alike.taken r u path t)
    | inl apart ↦ adds_nothing (takes net start.config p r u path t) (takes net other.config p r u path t)
        (λ q none e. apart.one u t from gives (inr (r, path, q, taker net other.config p r u path t q e, e)))
  ]

pub stages_read_as_starts : StagesReadAsStarts
stages_read_as_starts net p start other stage r is mix = record {
  origin = refl;
  own = λ origin. is.own r;
  sent = λ z t gives. is.sent r z t ∙ nothing_sent net p start other mix r z t gives;
  taken = λ u path t from gives. is.taken r u path t from ∙ nothing_taken net p start other mix r u path t from gives;
  heard = λ u path t off. is.heard r u path t off;
}

-- ---- of the parts of a rollout

-- a part says no more than itself
module _ (net : PlainNet) (p : PlainPrefix) (x y : Part) where
  itself : (r : ℕ) → SaysNoMore net p x y r x
  itself r = record {
    own = λ origin. inl (origin, refl);
    sent = λ z tag t e. inl e;
    taken = λ u path tag t pref e. inl (pref, e);
  }

  pub swapped : (r : ℕ) (part : Part) → SaysNoMore net p x y r part → SaysNoMore net p y x r part
  swapped r part is = record {
    own = λ origin. turned (is.own origin);
    sent = λ z tag t e. turned (is.sent z tag t e);
    taken = λ u path tag t pref e. turned (is.taken u path tag t pref e);
  }
    where
      turned : {A B : Type 0} → A ⊎ B → B ⊎ A
      turned (inl a) = inr a
      turned (inr b) = inl b

  reads_itself : (r : ℕ) → ReadsAs net p x r x
  reads_itself r = record { origin = refl; own = λ origin. refl; sent = λ z t gives. refl; taken = λ u path t from gives. refl; heard = λ u path t off. refl }

pub alike_swapped : (net : PlainNet) (p : PlainPrefix) (x y : PlainConfig) → SayAlike net p x y → SayAlike net p y x
alike_swapped net p x y a = record { own = λ r. sym (a.own r); sent = λ r z tag. sym (a.sent r z tag); taken = λ r u path tag. sym (a.taken r u path tag) }

pub mix_swapped : (net : PlainNet) (p : PlainPrefix) (x y : Part) → MayMix net p x y → MayMix net p y x
mix_swapped net p x y (inl apart) = inl (record { one = apart.other; other = apart.one })
mix_swapped net p x y (inr alike) = inr (alike_swapped net p x.config y.config alike)

pub rollouts_have_stages : RolloutsHaveStages
rollouts_have_stages net p old new one two is = record {
  mix = is.mix;
  first_says = λ r. stages_say_no_more net p old new one r is.first;
  first_reads = λ r. stages_read_as_starts net p old new one r is.first is.mix;
  second_says = λ r. swapped net p new old r (staged new two) (stages_say_no_more net p new old two r is.second);
  second_reads = λ r. stages_read_as_starts net p new old two r is.second (mix_swapped net p old new is.mix);
}

-- ---- what the parts of a rollout say

module _ (net : PlainNet) (p : PlainPrefix) (old new : Part) (one two : PlainConfig) (are : AreStages net p old new one two) where
  pub first_read : (r : ℕ) (part : Part) → HasStartsOf old one part → ReadsAs net p old r part
  first_read r part (inl same) = subst (ReadsAs net p old r) (sym same) (reads_itself net p old new r)
  first_read r part (inr same) = subst (ReadsAs net p old r) (sym same) (are.first_reads r)

  pub last_read : (r : ℕ) (part : Part) → HasStartsOf new two part → ReadsAs net p new r part
  last_read r part (inl same) = subst (ReadsAs net p new r) (sym same) (reads_itself net p new old r)
  last_read r part (inr same) = subst (ReadsAs net p new r) (sym same) (are.second_reads r)

  pub parts_say : (r : ℕ) (part : Part) → IsOfRollout old new one two part → SaysNoMore net p old new r part
  parts_say r part (inl (inl same)) = subst (SaysNoMore net p old new r) (sym same) (itself net p old new r)
  parts_say r part (inl (inr same)) = subst (SaysNoMore net p old new r) (sym same) (are.first_says r)
  parts_say r part (inr (inl same)) = subst (SaysNoMore net p old new r) (sym same) (swapped net p new old r new (itself net p new old r))
  parts_say r part (inr (inr same)) = subst (SaysNoMore net p old new r) (sym same) (are.second_says r)
