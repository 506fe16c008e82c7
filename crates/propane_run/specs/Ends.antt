-- How each command is to end, by what its inputs spell.
use Rattle.std.specs.Prelude.{◌≡◌, ◌≢◌, ℕ, ◌<◌, ◌≤◌, List, min}
use Rattle.net_base.specs.Network.{PlainNet}
use Rattle.policy_base.specs.Policies.{PlainPolicy}
use Rattle.judging_jobs.specs.Asked.{Audited}
use Rattle.case_core.specs.declared.refusal.CompileRefusal.{CompileRefusal}
use Rattle.case_graphs.specs.Limits.{AreAllWithin, compile_refusal}
use Rattle.case_graphs.specs.declared.refusal.LimitRefusal.{LimitRefusal}
use Rattle.compile_jobs.specs.Compiled.{IsCompiled, IsRefusedFor}
use Rattle.compare_jobs.specs.Compared.{IsPastLimit as IsComparisonPast}
use Rattle.compare_jobs.specs.Refused.{refusal_line as comparison_line}
use Rattle.comparison_maker.specs.declared.refusal.ComparisonRefusal.{ComparisonRefusal}
use Rattle.config_base.specs.Configs.{PlainConfig}
use Rattle.evidence_base.specs.Made.{PlainCaseEvidence}
use Rattle.judging_jobs.specs.Linted.{IsRefusedFor as IsPastLimit}
use Rattle.judging_jobs.specs.MapsSaid.{too_many_lines}
use Rattle.map_maker.specs.Counts.{line_count}
use Rattle.map_maker.specs.Earlier.{top}
use Rattle.map_maker.specs.declared.lists.TheConstants.{MAX_LINES}
use Rattle.outcome_base.specs.Outcomes.{IsStable}
use Rattle.refusal_lines.specs.RefusalLines.{refusal_line}
use Rattle.evidence_law.specs.Passes.{Passes}
use Rattle.route_maps.specs.Maps.{PlainMaps}
use Rattle.route_maps.specs.OfConfig.{maps_of}
use Rattle.evidence_reuse.specs.Reused.{IsOther}
use Rattle.renewal_jobs.specs.Renewing.{PrefsRunOut, run_out_line, top_of}
use Rattle.renewal_jobs.specs.Reusing.{other_line}
use Rattle.run_base.specs.Reading.{Holds}
use Rattle.scenarios.specs.Scenarios.{failures_of}
use Rattle.propane_run.specs.declared.command.Command.{Command}
use Rattle.propane_run.specs.declared.command.Command.TheVariants.{Compile, Evidence, Check, Explain, Sample, Migrate, Impact, RouteMap, CheckMap, Lint}
use Rattle.propane_run.specs.declared.command.Command.TheVariants.{Audit, Help, Version, Promises, Maps, Between, Renew, Reuse, Compare, Under, After}
use Rattle.propane_run.specs.Asked.{AsksCompare, AsksFor, AsksOfRenewal, AsksOfReuse, IsFor}
use Rattle.propane_run.specs.Auditing.{AsksAudit}
use Rattle.propane_run.specs.Checking.{AsksOf}
use Rattle.propane_run.specs.Mapping.{AsksOfConfig, AsksOfMaps}
use Rattle.propane_run.specs.Migrating.{AsksOfOld}
use Rattle.propane_run.specs.Staging.{AsksBetween}
use Rattle.stage_check.specs.declared.judging.Verdict.TheVariants.{MayMix, TooManyLines}
use Rattle.stage_check.specs.Verdicts.{verdict}
use Rattle.stage_jobs.specs.Betweens.{IsInTheWay, too_many_lines as too_long}

-- no refusal of the compiler applies
abbrev pub IsFree : PlainNet → PlainPolicy → Type 0
IsFree net policy = (e : CompileRefusal) → ¬ IsRefusedFor net policy e

-- the text of the maps of a configuration may have as many lines, or may not
abbrev pub AreFew : PlainConfig → Type 0
AreFew config = line_count (maps_of config) ≤ MAX_LINES

abbrev pub AreMany : PlainConfig → Type 0
AreMany config = MAX_LINES < line_count (maps_of config)

-- the line that tells of too many
abbrev pub many_line : PlainConfig → List ℕ
many_line config = too_many_lines (min (line_count (maps_of config)) top)

module _ (holds : Holds) (words : List (List ℕ)) (Succeeds Fails : Type 0) (Refuses : List ℕ → Type 0) where
  -- A command that compiles succeeds where no refusal applies, and refuses with the line of one that does.
  abbrev pub Compiles : Command → Type 0
  Compiles c = (net : PlainNet) (policy : PlainPolicy) → IsFor holds words c net policy
      → (IsFree net policy → Succeeds) × ((e : CompileRefusal) → IsRefusedFor net policy e → Refuses (refusal_line net e))

  -- For each command: of what the inputs spell, where it succeeds, where what it judges fails, and where it refuses with which line.
  abbrev pub EndsRight : Command → Type 0
  EndsRight Compile = Compiles Compile
  EndsRight Evidence = Compiles Evidence
  EndsRight (Impact prefix) = Compiles (Impact prefix)
  EndsRight (Sample leaves) = Compiles (Sample leaves)
  EndsRight Explain = (net : PlainNet) (policy : PlainPolicy) → AsksFor holds words Explain net policy → Succeeds
  EndsRight Check = (net : PlainNet) (policy : PlainPolicy) (config : PlainConfig) (evidence : List PlainCaseEvidence) → AsksOf holds words net policy config evidence
      → (Passes net policy config evidence → Succeeds) × (¬ Passes net policy config evidence → Fails)
  EndsRight Audit = (net : PlainNet) (policy : PlainPolicy) (audited : Audited) → AsksAudit holds words net policy audited
      → let passes = Passes net policy audited.config audited.evidence in
      let stable = IsStable net policy audited.config (failures_of audited.scenario) audited.scenario.prefix audited.routes in
      (passes → stable → Succeeds) × (¬ (passes × stable) → Fails)
  EndsRight Migrate = (config : PlainConfig) → AsksOfOld holds words config → Succeeds
  EndsRight Lint = (net : PlainNet) (policy : PlainPolicy) → AsksFor holds words Lint net policy
      → (AreAllWithin net policy → Succeeds) × ((e : LimitRefusal) → IsPastLimit net policy e → Refuses (refusal_line net (compile_refusal e)))
  EndsRight RouteMap = (net : PlainNet) (policy : PlainPolicy) → AsksFor holds words RouteMap net policy
      → (IsFree net policy → ((config : PlainConfig) (evidence : List PlainCaseEvidence) → IsCompiled net policy config evidence → AreFew config) → Succeeds)
      × ((e : CompileRefusal) → IsRefusedFor net policy e → Refuses (refusal_line net e))
      × ((config : PlainConfig) (evidence : List PlainCaseEvidence) → IsCompiled net policy config evidence → AreMany config → Refuses (many_line config))
  EndsRight CheckMap = (config : PlainConfig) (maps : PlainMaps) → AsksOfMaps holds words config maps
      → (AreFew config → maps ≡ maps_of config → Succeeds) × (AreFew config → maps ≢ maps_of config → Fails) × (AreMany config → Refuses (many_line config))
  EndsRight (Help topic) = Succeeds
  EndsRight Version = Succeeds
  EndsRight Promises = Compiles Promises
  EndsRight Maps = (config : PlainConfig) → AsksOfConfig holds words config → (AreFew config → Succeeds) × (AreMany config → Refuses (many_line config))
  EndsRight (Between stage) = (old new : PlainConfig) → AsksBetween holds words stage old new
      → (verdict old new ≡ MayMix → Succeeds) × (IsInTheWay (verdict old new) → Fails) × ((n : ℕ) → verdict old new ≡ TooManyLines n → Refuses (too_long n))
  EndsRight (Renew part) = (net : PlainNet) (policy : PlainPolicy) (old : PlainConfig) → AsksOfRenewal holds words part net policy old
      → (IsFree net policy → ¬ PrefsRunOut net policy old → Succeeds)
      × ((e : CompileRefusal) → IsRefusedFor net policy e → Refuses (refusal_line net e))
      × (PrefsRunOut net policy old → Refuses (run_out_line (top_of old)))
  EndsRight (Reuse part) = (net : PlainNet) (policy : PlainPolicy) (old : PlainConfig) (olds : List PlainCaseEvidence) → AsksOfReuse holds words part net policy old olds
      → (IsFree net policy → ¬ PrefsRunOut net policy old → ¬ IsOther net policy old olds → Succeeds)
      × ((e : CompileRefusal) → IsRefusedFor net policy e → Refuses (refusal_line net e))
      × (PrefsRunOut net policy old → Refuses (run_out_line (top_of old)))
      × (IsOther net policy old olds → Refuses other_line)
  EndsRight Compare = (net : PlainNet) (old new : PlainPolicy) → AsksCompare holds words net old new
      → (((e : ComparisonRefusal) → ¬ IsComparisonPast net old new e) → Succeeds)
      × ((e : ComparisonRefusal) → IsComparisonPast net old new e → Refuses (comparison_line net e))
  EndsRight (Under outlook) = Compiles (Under outlook)
  EndsRight (After course) = Compiles (After course)
