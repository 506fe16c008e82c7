-- The four parts of a rollout are between the old and the new one.
use Rattle.std.proofs.Common.{◌≡◌, ℕ, true, false, List, Option, Some, None, refl, sym, ap, ◌∙◌, subst, inl, inr}
use Rattle.std.specs.Option.{option_or}
use Rattle.std.proofs.lemmas.Bool.{true≢false}
use Rattle.list_law.proofs.Options.{cases_Option}
use Rattle.net_base.specs.declared.numbers.Tag.{Tag}
use Rattle.net_base.specs.Network.{PlainNet, is_router}
use Rattle.net_base.specs.Prefixes.{PlainPrefix}
use Rattle.config_base.specs.Configs.{PlainConfig}
use Rattle.rollout_base.specs.Lines.{AreApart, GivesTag, ReadsTag, sends, takes}
use Rattle.rollout_base.specs.Mixtures.{Part}
use Rattle.rollout_base.specs.Stages.{IsOfRollout, IsRollout, IsStage, staged}
use Rattle.rollout_stages.proofs.Saying.{sender, taker}
use Rattle.rollout_mixtures.specs.Between.{HasLines, HasStarts, IsBetween, LacksLines}
use Rattle.rollout_mixtures.specs.Laws.{RolloutsAreBetween}

or_none : {A : Type 0} (a b : Option A) → b ≡ None → option_or a b ≡ a
or_none None b none = none
or_none (Some x) b none = refl

-- x asks for no tag that y gives
module _ (net : PlainNet) (p : PlainPrefix) (x y : Part) (clash : (r : ℕ) (t : Tag) → is_router net r ≡ true → GivesTag net p y r t → ReadsTag net p x r t → ⊥) where
  unsent : (r z : ℕ) (t : Tag) → GivesTag net p y r t → sends net x.config p r z t ≡ None
  unsent r z t gives = elim (cases_Option (sends net x.config p r z t)) [
    | inl none ↦ none
    | inr k ↦ absurd (clash r t (sender net x.config p r z t k.0 k.1) gives (inl (z, k.0, k.1)))
  ]

  untaken : (r u : ℕ) (path : List ℕ) (t : Tag) → is_router net u ≡ true → GivesTag net p y u t → takes net x.config p r u path t ≡ None
  untaken r u path t from gives = elim (cases_Option (takes net x.config p r u path t)) [
    | inl none ↦ none
    | inr q ↦ absurd (clash u t from gives (inr (r, path, q.0, taker net x.config p r u path t q.0 q.1, q.1)))
  ]

  pub lacks : (r : ℕ) → LacksLines net p y r x
  lacks r = record { sent = λ z t gives. unsent r z t gives; taken = λ u path t from gives. untaken r u path t from gives }

  -- a stage with the lines of both has those of y, whichever comes first
  pub has_first : (stage : PlainConfig) → IsStage net p y.config x.config stage → (r : ℕ) → HasLines net p y r (staged y stage)
  has_first stage is r = record {
    sent = λ z t gives. is.sent r z t ∙ or_none (sends net y.config p r z t) (sends net x.config p r z t) (unsent r z t gives);
    taken = λ u path t from gives. is.taken r u path t from ∙ or_none (takes net y.config p r u path t) (takes net x.config p r u path t) (untaken r u path t from gives);
  }

  pub has_second : (stage : PlainConfig) → IsStage net p x.config y.config stage → (r : ℕ) → HasLines net p y r (staged x stage)
  has_second stage is r = record {
    sent = λ z t gives. is.sent r z t ∙ ap (λ (o : Option Tag). option_or o (sends net y.config p r z t)) (unsent r z t gives);
    taken = λ u path t from gives. is.taken r u path t from ∙ ap (λ (o : Option (Tag × ℕ)). option_or o (takes net y.config p r u path t)) (untaken r u path t from gives);
  }

module _ (net : PlainNet) (p : PlainPrefix) (x : Part) (r : ℕ) where
  pub has_itself : HasLines net p x r x
  has_itself = record { sent = λ z t gives. refl; taken = λ u path t from gives. refl }

  pub starts_itself : HasStarts net p x r x
  starts_itself = record { origin = refl; own = λ origin. refl; heard = λ u path t off. refl }

  pub starts_stage : (y stage : PlainConfig) → IsStage net p x.config y stage → HasStarts net p x r (staged x stage)
  starts_stage y stage is = record { origin = refl; own = λ origin. is.own r; heard = λ u path t off. is.heard r u path t off }

module _ (net : PlainNet) (p : PlainPrefix) (old new : Part) (one two : PlainConfig) (is : IsRollout net p old new one two) (apart : AreApart net p old new) (r : ℕ) where
  unfoldable pub old_is : IsBetween net p old new r old
  old_is = record {
    flipped = false;
    has_old = true;
    has_new = false;
    after = λ e. absurd (true≢false (sym e));
    before = λ e. (starts_itself net p old r, refl);
    old_lines = λ e. has_itself net p old r;
    old_none = λ e. absurd (true≢false e);
    new_lines = λ e. absurd (true≢false (sym e));
    new_none = λ e. lacks net p old new apart.other r;
  }

  unfoldable pub first_is : IsBetween net p old new r (staged old one)
  first_is = record {
    flipped = false;
    has_old = true;
    has_new = true;
    after = λ e. absurd (true≢false (sym e));
    before = λ e. (starts_stage net p old r new.config one is.first, refl);
    old_lines = λ e. has_first net p new old apart.one one is.first r;
    old_none = λ e. absurd (true≢false e);
    new_lines = λ e. has_second net p old new apart.other one is.first r;
    new_none = λ e. absurd (true≢false e);
  }

  unfoldable pub second_is : IsBetween net p old new r (staged new two)
  second_is = record {
    flipped = true;
    has_old = true;
    has_new = true;
    after = λ e. (starts_stage net p new r old.config two is.second, refl);
    before = λ e. absurd (true≢false e);
    old_lines = λ e. has_second net p new old apart.one two is.second r;
    old_none = λ e. absurd (true≢false e);
    new_lines = λ e. has_first net p old new apart.other two is.second r;
    new_none = λ e. absurd (true≢false e);
  }

  unfoldable pub new_is : IsBetween net p old new r new
  new_is = record {
    flipped = true;
    has_old = false;
    has_new = true;
    after = λ e. (starts_itself net p new r, refl);
    before = λ e. absurd (true≢false e);
    old_lines = λ e. absurd (true≢false (sym e));
    old_none = λ e. lacks net p new old apart.one r;
    new_lines = λ e. has_itself net p new r;
    new_none = λ e. absurd (true≢false e);
  }

  pub part_is : (part : Part) → IsOfRollout old new one two part → IsBetween net p old new r part
  part_is part (inl (inl same)) = subst (IsBetween net p old new r) (sym same) old_is
  part_is part (inl (inr same)) = subst (IsBetween net p old new r) (sym same) first_is
  part_is part (inr (inl same)) = subst (IsBetween net p old new r) (sym same) new_is
  part_is part (inr (inr same)) = subst (IsBetween net p old new r) (sym same) second_is

pub rollouts_are_between : RolloutsAreBetween
rollouts_are_between net p old new one two is apart r part of = part_is net p old new one two is apart r part of
