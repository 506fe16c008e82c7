-- What two policies change for a prefix: in what its places differ, which walks show it, and who carries in one policy alone.
use Rattle.std.specs.Prelude.{◌≡◌, ◌↔◌, ℕ, ◌<◌, ◌≤◌, IsTrue, IsSome, List, length, slice_get, Some, None}
use Rattle.std.specs.List.{count_by}
use Rattle.list_law.specs.Members.{IsIn}
use Rattle.net_base.specs.Network.{PlainNet}
use Rattle.net_base.specs.Prefixes.{PlainPrefix}
use Rattle.policy_base.specs.Policies.{PlainPolicy}
use Rattle.policy_base.specs.Walks.{is_loop_free}
use Rattle.impact_law.specs.Impacts.{Precedes}
use Rattle.compare_base.specs.declared.rows.Kind.{Kind}
use Rattle.compare_base.specs.declared.rows.PairChange.{PairChange}
use Rattle.compare_base.specs.declared.rows.Place.{Place}
use Rattle.compare_base.specs.declared.rows.Row.{Row}
use Rattle.compare_base.specs.declared.rows.Words.{Words}
use Rattle.compare_base.specs.Cases.{is_place, pair_for}
use Rattle.compare_base.specs.Ranks.{IsFirstWalk, rank_for}
use Rattle.pair_rows.specs.Rows.{AreRows}
use Rattle.row_words.specs.WordsOfRows.{shown_rows, words_of}

-- ---- places

abbrev pub IsPlace : PlainNet → PlainPolicy → PlainPolicy → PlainPrefix → Place → Type 0
IsPlace net old new p place = IsTrue (is_place net (pair_for old new p) place.router place.peer)

-- a place differs in these words, and these of its rows show it
pub record Differs (net : PlainNet) (old new : PlainPolicy) (p : PlainPrefix) (words : Words) (shown : List Row) (place : Place) : Type 0 where
  pub is_place : IsPlace net old new p place
  pub rows : List Row
  pub are_rows : AreRows net old new p place rows
  pub in_words : words_of rows ≡ Some words
  pub are_shown : shown ≡ shown_rows rows

-- routers by location, then sessions by router and peer
abbrev pub ComesFirst : Place → Place → Type 0
ComesFirst a b = Precedes a.router a.peer b.router b.peer

abbrev pub AreInOrder : List Place → Type 0
AreInOrder places = (i j : ℕ) (a b : Place) → i < j → slice_get places i ≡ Some a → slice_get places j ≡ Some b → ComesFirst a b

-- ---- kinds

-- for each row the first walk of the place that has it
pub record AreFirstWalks (net : PlainNet) (old new : PlainPolicy) (p : PlainPrefix) (place : Place) (rows : List Row) (walks : List (List ℕ)) : Type 0 where
  pub count : length walks ≡ length rows
  pub each : (i : ℕ) (row : Row) (walk : List ℕ) → slice_get rows i ≡ Some row → slice_get walks i ≡ Some walk
      → IsFirstWalk net old new p place.router place.peer row walk

-- how many of the walks have no loop
abbrev pub paths : List (List ℕ) → ℕ
paths walks = count_by is_loop_free walks

-- Each of some places has walks, and these are those of the first place, in order, of whose walks most have no loop.
pub record IsExample (Has : Place → List (List ℕ) → Type 0) (places : List Place) (walks : List (List ℕ)) : Type 0 where
  pub index : ℕ
  pub place : Place
  pub there : slice_get places index ≡ Some place
  pub has : Has place walks
  pub most : (i : ℕ) (other : Place) → slice_get places i ≡ Some other → (theirs : List (List ℕ)) × Has other theirs × (paths theirs ≤ paths walks)
  pub first : (i : ℕ) (other : Place) → i < index → slice_get places i ≡ Some other → (theirs : List (List ℕ)) × Has other theirs × (paths theirs < paths walks)

-- All places that differ in the same words and show the same rows, in order, and the first walks of the first of them that shows most rows
-- by walks without a loop.
pub record IsKind (net : PlainNet) (old new : PlainPolicy) (p : PlainPrefix) (kind : Kind) : Type 0 where
  pub places : (place : Place) → IsIn kind.places place ↔ Differs net old new p kind.words kind.rows place
  pub order : AreInOrder kind.places
  pub example : IsExample (λ place. AreFirstWalks net old new p place kind.rows) kind.places kind.walks

-- the first place of a kind comes before that of another
abbrev pub ComesBefore : Kind → Kind → Type 0
ComesBefore a b = (x y : Place) → slice_get a.places 0 ≡ Some x → slice_get b.places 0 ≡ Some y → ComesFirst x y

-- ---- carriers

-- a walk that the policy permits goes over the router
abbrev pub Carries : PlainNet → PlainPolicy → PlainPrefix → ℕ → Type 0
Carries net policy p r = (path : List ℕ) × IsIn path r × IsSome (rank_for net policy p path)

-- the router is an origin in neither policy, and carries in the one and not in the other
pub record CarriesAlone (net : PlainNet) (old new : PlainPolicy) (p : PlainPrefix) (one other : PlainPolicy) (r : ℕ) : Type 0 where
  pub is_place : IsPlace net old new p (record { router = r; peer = None })
  pub in_one : Carries net one p r
  pub not_in_other : ¬ Carries net other p r

-- such routers, in ascending order
pub record AreCarriers (net : PlainNet) (old new : PlainPolicy) (p : PlainPrefix) (one other : PlainPolicy) (routers : List ℕ) : Type 0 where
  pub those : (r : ℕ) → IsIn routers r ↔ CarriesAlone net old new p one other r
  pub order : (i j : ℕ) (a b : ℕ) → i < j → slice_get routers i ≡ Some a → slice_get routers j ≡ Some b → a < b

-- ---- all that changes

-- Each place that differs is in a kind, the kinds come in order of their first places, and the routers that carry in one policy alone are told.
pub record IsPairChange (net : PlainNet) (old new : PlainPolicy) (p : PlainPrefix) (change : PairChange) : Type 0 where
  pub each : (kind : Kind) → IsIn change.kinds kind → IsKind net old new p kind
  pub all : (words : Words) (rows : List Row) (place : Place) → Differs net old new p words rows place
      → (kind : Kind) × IsIn change.kinds kind × IsIn kind.places place
  pub order : (i j : ℕ) (a b : Kind) → i < j → slice_get change.kinds i ≡ Some a → slice_get change.kinds j ≡ Some b → ComesBefore a b
  pub lost : AreCarriers net old new p old new change.lost
  pub gained : AreCarriers net old new p new old change.gained
