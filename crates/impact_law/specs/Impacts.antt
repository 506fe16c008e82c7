-- What a cut besides some failures changes of the best ranks of claimed sources.
use Rattle.std.specs.Prelude.{◌≡◌, ◌↔◌, ℕ, ◌<◌, ◌≤◌, Bool, true, false, ◌==◌, List, [], ◌∷◌, map, Option, Some, None, slice_get, if◌then◌else◌}
use Rattle.net_base.specs.Network.{PlainNet}
use Rattle.net_base.specs.Prefixes.{PlainPrefix}
use Rattle.policy_base.specs.Policies.{PlainPolicy, PlainStatement}
use Rattle.policy_base.specs.Governing.{statement_of}
use Rattle.policy_base.specs.Permitted.{IsClaimedRouter, IsClaimedSession}
use Rattle.list_law.specs.Members.{IsIn}
use Rattle.outcome_base.specs.Outcomes.{Failures}
use Rattle.impact_law.specs.declared.impact.SourceRank.{SourceRank}
use Rattle.impact_law.specs.declared.impact.Cut.{Cut}
use Rattle.impact_law.specs.declared.impact.CutRow.{CutRow}
use Rattle.impact_law.specs.declared.impact.Impact.{Impact}
use Rattle.impact_law.specs.BestRanks.{IsBestRank}
use Rattle.impact_law.specs.Cuts.{live_cuts, with_cut}

-- how the paths of a source begin
abbrev pub begin_at : ℕ → Option ℕ → List ℕ
begin_at r None = r ∷ []
begin_at r (Some peer) = peer ∷ r ∷ []

abbrev pub IsSource : PlainNet → PlainPolicy → PlainPrefix → PlainStatement → ℕ → Option ℕ → Type 0
IsSource net policy p s r None = IsClaimedRouter net policy p s r
IsSource net policy p s r (Some peer) = IsClaimedSession net policy p s r peer

-- routers by location, then sessions by router and peer
abbrev pub Precedes : ℕ → Option ℕ → ℕ → Option ℕ → Type 0
Precedes r None t None = r < t
Precedes r None t (Some q) = Unit {0}
Precedes r (Some p) t None = ⊥
Precedes r (Some p) t (Some q) = (r ≤ t) × (r ≡ t → p < q)

-- the claimed sources in order, each with its best rank under some failures
pub record IsRanking (net : PlainNet) (policy : PlainPolicy) (f : Failures) (p : PlainPrefix) (s : PlainStatement) (xs : List SourceRank) : Type 0 where
  pub each : (x : SourceRank) → IsIn xs x → IsSource net policy p s x.router x.peer × IsBestRank net policy f p s (begin_at x.router x.peer) x.rank
  pub all : (r : ℕ) (peer : Option ℕ) → IsSource net policy p s r peer → (x : SourceRank) × IsIn xs x × (x.router ≡ r) × (x.peer ≡ peer)
  pub order : (i j : ℕ) (x y : SourceRank) → i < j → slice_get xs i ≡ Some x → slice_get xs j ≡ Some y → Precedes x.router x.peer y.router y.peer

abbrev pub same_rank : Option ℕ → Option ℕ → Bool
same_rank None None = true
same_rank None (Some j) = false
same_rank (Some i) None = false
same_rank (Some i) (Some j) = i == j

-- the entries after that differ from those before
abbrev pub changed : List SourceRank → List SourceRank → List SourceRank
changed [] after = []
changed (b ∷ before) [] = []
changed (b ∷ before) (a ∷ after) = if same_rank b.rank a.rank then changed before after else a ∷ changed before after

abbrev pub row_of : Cut → List SourceRank → CutRow
row_of cut list = record { cut = cut; changed = list }

-- Where a statement governs the prefix: the ranking under the failures, and for each cut besides them the sources that get another rank by it.
pub record IsImpactBy (net : PlainNet) (policy : PlainPolicy) (f : Failures) (p : PlainPrefix) (s : PlainStatement) (impact : Impact) : Type 0 where
  pub base : IsRanking net policy f p s impact.base
  pub after : Cut → List SourceRank
  pub ranked : (cut : Cut) → IsRanking net policy (with_cut cut f) p s (after cut)
  pub rows : impact.rows ≡ map (λ (cut : Cut). row_of cut (changed impact.base (after cut))) (live_cuts net f)

-- where none does nothing is claimed
pub record IsBareImpact (net : PlainNet) (f : Failures) (impact : Impact) : Type 0 where
  pub base : impact.base ≡ []
  pub rows : impact.rows ≡ map (λ (cut : Cut). row_of cut []) (live_cuts net f)

-- what each cut besides these failures changes for the prefix
abbrev pub IsImpact : PlainNet → PlainPolicy → Failures → PlainPrefix → Impact → Type 0
IsImpact net policy f p impact = by_statement (statement_of policy p)
  where
    by_statement : Option PlainStatement → Type 0
    by_statement None = IsBareImpact net f impact
    by_statement (Some s) = IsImpactBy net policy f p s impact

-- two rankings have the same sources in the same order, and one rank for each
abbrev pub RankingsAreOne : Type 0
RankingsAreOne =
    (net : PlainNet) (policy : PlainPolicy) (f : Failures) (p : PlainPrefix) (s : PlainStatement) (xs ys : List SourceRank)
    → IsRanking net policy f p s xs → IsRanking net policy f p s ys → xs ≡ ys

-- The cut leaves the source this best rank, which isn't its best without the cut.
pub record GetsAnotherRank (net : PlainNet) (policy : PlainPolicy) (f : Failures) (p : PlainPrefix) (s : PlainStatement) (cut : Cut) (x : SourceRank) : Type 0 where
  pub source : IsSource net policy p s x.router x.peer
  pub after : IsBestRank net policy (with_cut cut f) p s (begin_at x.router x.peer) x.rank
  pub before : IsBestRank net policy f p s (begin_at x.router x.peer) x.rank → ⊥

-- a source stands in the row of a cut, with a rank, exactly where the cut gives it this rank and it had another
abbrev pub RowsTellOtherRanks : Type 0
RowsTellOtherRanks = (net : PlainNet) (policy : PlainPolicy) (f : Failures) (p : PlainPrefix) (s : PlainStatement) (impact : Impact) → IsImpactBy net policy f p s impact
    → (row : CutRow) → IsIn impact.rows row → (x : SourceRank) → IsIn row.changed x ↔ GetsAnotherRank net policy f p s row.cut x

abbrev pub ImpactsAreOne : Type 0
ImpactsAreOne = (net : PlainNet) (policy : PlainPolicy) (f : Failures) (p : PlainPrefix) (a b : Impact) → IsImpact net policy f p a → IsImpact net policy f p b → a ≡ b

-- an impact has a row for each cut, in their order
abbrev pub RowsAreOfLiveCuts : Type 0
RowsAreOfLiveCuts =
    (net : PlainNet) (policy : PlainPolicy) (f : Failures) (p : PlainPrefix) (impact : Impact) → IsImpact net policy f p impact
    → map (λ (row : CutRow). row.cut) impact.rows ≡ live_cuts net f
