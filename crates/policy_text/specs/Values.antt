-- What the program's types keep of networks and policies: names are names, prefixes are prefixes, and a set of
-- locations has twelve words of 64 bits.
use Rattle.std.specs.Prelude.{◌≡◌, ◌<◌, ◌^◌, IsTrue, List, [], ◌∷◌, length}
use Rattle.std.specs.List.{AllByRecursion}
use Rattle.net_base.specs.declared.loc.LocSet.{LocSet}
use Rattle.net_base.specs.declared.net.Site.{Site}
use Rattle.net_base.specs.NameRule.{is_name}
use Rattle.net_base.specs.Network.{PlainNet, sites}
use Rattle.net_base.specs.Prefixes.{IsPrefix, IsPattern}
use Rattle.policy_base.specs.declared.call.Call.{Call}
use Rattle.policy_base.specs.declared.call.Call.TheVariants.{Any, Drop, Internal, Link, Path, Of}
use Rattle.policy_base.specs.declared.policy.FromSet.{FromSet}
use Rattle.policy_base.specs.declared.policy.FromSet.TheVariants as from_set
use Rattle.policy_base.specs.declared.policy.Origin.{Origin}
use Rattle.policy_base.specs.Policies.{Ranking, call, calls, prefer, either, both, negated, PlainStatement, PlainPolicy}

abbrev pub HasNames : PlainNet → Type 0
HasNames net = AllByRecursion (λ (x : Site). IsTrue (is_name x.name)) (sites net)

abbrev pub IsLocSet : LocSet → Type 0
IsLocSet s = (length s.words ≡ 12) × AllByRecursion (λ w. w < 2 ^ 64) s.words

-- the sets of a call
abbrev pub sets_in : Call → List LocSet
sets_in Any = []
sets_in Drop = []
sets_in Internal = []
sets_in (Of c s) = s ∷ []
sets_in (Link a b) = a ∷ b ∷ []
sets_in (Path ps) = ps

abbrev pub HaveLocSets : List Call → Type 0
HaveLocSets cs = AllByRecursion (λ c. AllByRecursion IsLocSet (sets_in c)) cs

abbrev pub HasLocSets : Ranking → Type 0
HasLocSets (call c) = AllByRecursion IsLocSet (sets_in c)
HasLocSets (calls cs) = HaveLocSets cs
HasLocSets (prefer a b) = HasLocSets a × HasLocSets b
HasLocSets (either a b) = HasLocSets a × HasLocSets b
HasLocSets (both a b) = HasLocSets a × HasLocSets b
HasLocSets (negated a) = HasLocSets a

abbrev pub HasSources : FromSet → Type 0
HasSources from_set.Any = Unit {0}
HasSources (from_set.Named s) = IsLocSet s

pub record IsStatementValue (s : PlainStatement) : Type 0 where
  pub patterns : AllByRecursion IsPattern s.patterns
  pub ranked : HasLocSets s.ranked
  pub from : HasSources s.from

pub record IsOriginValue (o : Origin) : Type 0 where
  pub prefix : IsPrefix o.prefix
  pub at : IsLocSet o.at

pub record IsPolicyValue (policy : PlainPolicy) : Type 0 where
  pub origins : AllByRecursion IsOriginValue policy.origins
  pub statements : AllByRecursion IsStatementValue policy.statements
