-- What routers run on the way from an old part to a new one, for one prefix: whose starts they have, and which lines.
use Rattle.std.specs.Prelude.{◌≡◌, ℕ, ◌<◌, Bool, true, false, IsTrue, List, Some, None}
use Rattle.net_base.specs.declared.numbers.Tag.{Tag}
use Rattle.net_base.specs.Network.{PlainNet, is_router}
use Rattle.net_base.specs.Prefixes.{PlainPrefix}
use Rattle.policy_base.specs.Governing.{is_origin}
use Rattle.config_base.specs.Lines.{own_tag}
use Rattle.rollout_base.specs.Lines.{GivesTag, sends, takes}
use Rattle.rollout_base.specs.Mixtures.{Part}

-- A part originates at the router r as x does, and takes what x does from peers.
pub record HasStarts (net : PlainNet) (p : PlainPrefix) (x : Part) (r : ℕ) (part : Part) : Type 0 where
  pub origin : is_origin net part.policy p r ≡ is_origin net x.policy p r
  pub own : IsTrue (is_origin net x.policy p r) → own_tag net part.config p r ≡ own_tag net x.config p r
  pub heard : (u : ℕ) (path : List ℕ) (t : Tag) → is_router net u ≡ false → takes net part.config p r u path t ≡ takes net x.config p r u path t

-- With routes that have tags of x it does among routers what x does,
pub record HasLines (net : PlainNet) (p : PlainPrefix) (x : Part) (r : ℕ) (part : Part) : Type 0 where
  pub sent : (z : ℕ) (t : Tag) → GivesTag net p x r t → sends net part.config p r z t ≡ sends net x.config p r z t
  pub taken : (u : ℕ) (path : List ℕ) (t : Tag) → IsTrue (is_router net u) → GivesTag net p x u t → takes net part.config p r u path t ≡ takes net x.config p r u path t

-- or nothing.
pub record LacksLines (net : PlainNet) (p : PlainPrefix) (x : Part) (r : ℕ) (part : Part) : Type 0 where
  pub sent : (z : ℕ) (t : Tag) → GivesTag net p x r t → sends net part.config p r z t ≡ None
  pub taken : (u : ℕ) (path : List ℕ) (t : Tag) → IsTrue (is_router net u) → GivesTag net p x u t → takes net part.config p r u path t ≡ None

-- A router between old and new has the starts of one of the two, the lines of that one, and the lines of the other one or none of them.
pub record IsBetween (net : PlainNet) (p : PlainPrefix) (old new : Part) (r : ℕ) (part : Part) : Type 0 where
  -- it has the new starts
  pub flipped : Bool
  pub has_old : Bool
  pub has_new : Bool
  pub after : flipped ≡ true → HasStarts net p new r part × (has_new ≡ true)
  pub before : flipped ≡ false → HasStarts net p old r part × (has_old ≡ true)
  pub old_lines : has_old ≡ true → HasLines net p old r part
  pub old_none : has_old ≡ false → LacksLines net p old r part
  pub new_lines : has_new ≡ true → HasLines net p new r part
  pub new_none : has_new ≡ false → LacksLines net p new r part

-- Each preference that new lines give is above each that old lines give.
abbrev pub IsAbove : PlainNet → PlainPrefix → Part → Part → Type 0
IsAbove net p old new =
    (r u v : ℕ) (path way : List ℕ) (t s : Tag) (q k : Tag × ℕ) → takes net old.config p r u path t ≡ Some q → takes net new.config p r v way s ≡ Some k → q.1 < k.1
