-- What the numbers of a case are, once they are in their ranges.
use Rattle.std.specs.Prelude.{◌≢◌, ◌<◌, ◌≤◌, Some}
use Rattle.std.specs.List.{AllByRecursion}
use Rattle.std.specs.Option.{ForSome}
use Rattle.net_base.specs.declared.limits.TheConstants.{LOCATIONS}
use Rattle.evidence_text.specs.declared.raw.NodeEntry.{NodeEntry}
use Rattle.evidence_text.specs.declared.raw.RawCase.{RawCase}
use Rattle.evidence_text.specs.declared.raw.ReadCase.{ReadCase}

-- a node at a lawful place and with a lawful rank
abbrev pub IsEntry : NodeEntry → Type 0
IsEntry e = (e.node.loc < LOCATIONS) × (e.node.rank ≢ Some 0)

-- what is in its range is lawful
pub record HasRanges (c : RawCase) : Type 0 where
  pub nodes : AllByRecursion (λ e. ForSome e IsEntry) c.nodes
  pub origins : AllByRecursion (λ o. ForSome o (λ l. l < LOCATIONS)) c.origins
  pub statement : ForSome c.statement (λ k. 1 ≤ k)

-- and a case that has been read has nodes at lawful places, and a statement
pub record IsReadCase (c : ReadCase) : Type 0 where
  pub nodes : AllByRecursion IsEntry c.nodes
  pub statement : 1 ≤ c.case.statement
