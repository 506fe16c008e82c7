-- Configurations on the way from an old one to a new one.
use Rattle.std.specs.Prelude.{◌≡◌, ℕ, false, ◌⊎◌, IsTrue, List}
use Rattle.std.specs.Option.{option_or}
use Rattle.net_base.specs.declared.numbers.Tag.{Tag}
use Rattle.net_base.specs.Network.{PlainNet, is_router}
use Rattle.net_base.specs.Prefixes.{PlainPrefix}
use Rattle.config_base.specs.Configs.{PlainConfig}
use Rattle.config_base.specs.Lines.{own_tag}
use Rattle.rollout_base.specs.Lines.{AreApart, ReadsAs, SaysNoMore, sends, takes}
use Rattle.rollout_base.specs.Mixtures.{Part}

-- Of a prefix a stage has the lines of two configurations, and the starts of the first of them:
pub record IsStage (net : PlainNet) (p : PlainPrefix) (start other stage : PlainConfig) : Type 0 where
  -- own routes have the tags that the first gives them,
  pub own : (r : ℕ) → own_tag net stage p r ≡ own_tag net start p r
  -- what either sends is sent,
  pub sent : (r z : ℕ) (tag : Tag) → sends net stage p r z tag ≡ option_or (sends net start p r z tag) (sends net other p r z tag)
  -- what either takes from a router is taken,
  pub taken : (r u : ℕ) (path : List ℕ) (tag : Tag) → IsTrue (is_router net u) → takes net stage p r u path tag ≡ option_or (takes net start p r u path tag) (takes net other p r u path tag)
  -- and from peers what the first takes.
  pub heard : (r u : ℕ) (path : List ℕ) (tag : Tag) → is_router net u ≡ false → takes net stage p r u path tag ≡ takes net start p r u path tag

-- Two configurations do the same with a prefix.
pub record SayAlike (net : PlainNet) (p : PlainPrefix) (x y : PlainConfig) : Type 0 where
  pub own : (r : ℕ) → own_tag net x p r ≡ own_tag net y p r
  pub sent : (r z : ℕ) (tag : Tag) → sends net x p r z tag ≡ sends net y p r z tag
  pub taken : (r u : ℕ) (path : List ℕ) (tag : Tag) → takes net x p r u path tag ≡ takes net y p r u path tag

-- Routers may have the lines of either or of both: the tags are apart, or both do the same.
abbrev pub MayMix : PlainNet → PlainPrefix → Part → Part → Type 0
MayMix net p x y = AreApart net p x y ⊎ SayAlike net p x.config y.config

-- a stage, run by the policy whose starts it has
abbrev pub staged : Part → PlainConfig → Part
staged x stage = record { policy = x.policy; config = stage }

-- a part, or its stage
abbrev pub HasStartsOf : Part → PlainConfig → Part → Type 0
HasStartsOf x stage part = (part ≡ x) ⊎ (part ≡ staged x stage)

-- The four configurations of a rollout, for one prefix: an old one, a stage with its starts, a stage with the new starts, and a new one.
pub record IsRollout (net : PlainNet) (p : PlainPrefix) (old new : Part) (one two : PlainConfig) : Type 0 where
  pub first : IsStage net p old.config new.config one
  pub second : IsStage net p new.config old.config two
  pub mix : MayMix net p old new

-- one of the four
abbrev pub IsOfRollout : Part → Part → PlainConfig → PlainConfig → Part → Type 0
IsOfRollout old new one two part = HasStartsOf old one part ⊎ HasStartsOf new two part

-- Two stages between an old and a new part, for one prefix, by what they say alone, however they were made:
pub record AreStages (net : PlainNet) (p : PlainPrefix) (old new : Part) (one two : PlainConfig) : Type 0 where
  -- routers may have the lines of both,
  pub mix : MayMix net p old new
  -- stage 1, with the old starts, says nothing that neither of the two says, and reads the old routes as the old part does,
  pub first_says : (r : ℕ) → SaysNoMore net p old new r (staged old one)
  pub first_reads : (r : ℕ) → ReadsAs net p old r (staged old one)
  -- and stage 2, with the new starts, says nothing else either, and reads the new routes as the new part does.
  pub second_says : (r : ℕ) → SaysNoMore net p old new r (staged new two)
  pub second_reads : (r : ℕ) → ReadsAs net p new r (staged new two)
