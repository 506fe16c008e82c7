-- Statements whose prefixes are all governed by earlier ones.
use Rattle.std.specs.Prelude.{◌≡◌, ◌↔◌, ℕ, ◌<◌, IsTrue, Bool, false, List, length, take, Some, slice_get, slice_index_or}
use Rattle.std.specs.List.{flat_map}
use Rattle.net_base.specs.Prefixes.{PlainPattern}
use Rattle.policy_base.specs.Policies.{PlainStatement}
use Rattle.lint_cover.specs.Covered.{AreCovered}

-- the patterns of the first k statements
abbrev pub patterns_before : List PlainStatement → ℕ → List PlainPattern
patterns_before ss k = flat_map (λ (s : PlainStatement). s.patterns) (take k ss)

-- every prefix that the patterns of the statement at place k, from 0, contain is in a pattern of one before it
abbrev pub IsCoveredAt : List PlainStatement → ℕ → Type 0
IsCoveredAt ss k = (s : PlainStatement) → slice_get ss k ≡ Some s → AreCovered (patterns_before ss k) s.patterns

-- a mark for each statement, which tells that it's covered
pub record AreMarked (ss : List PlainStatement) (marks : List Bool) : Type 0 where
  pub size : length marks ≡ length ss
  pub each : (k : ℕ) → k < length ss → IsTrue (slice_index_or marks k false) ↔ IsCoveredAt ss k
