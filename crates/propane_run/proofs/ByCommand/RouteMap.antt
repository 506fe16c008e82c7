-- What a run of `routemap` has written: the maps of what is compiled, or why there are none.
use Rattle.std.proofs.Common.{◌≡◌, ◌⊎◌, ℕ, ◌<◌, ◌≤◌, List, Option, inl, inr, ◌∙◌, ap, arith, min}
use Rattle.net_base.specs.Network.{PlainNet}
use Rattle.input_output.specs.Outside.{Rose}
use Rattle.policy_base.specs.Policies.{PlainPolicy}
use Rattle.config_base.specs.Configs.{PlainConfig}
use Rattle.evidence_base.specs.Made.{PlainCaseEvidence}
use Rattle.case_core.specs.declared.refusal.CompileRefusal.{CompileRefusal}
use Rattle.refusal_lines.specs.RefusalLines.{refusal_line}
use Rattle.run_base.specs.declared.outcome.Status.{Status}
use Rattle.run_base.specs.declared.outcome.Status.TheVariants.{Done, NoMemory, Refused}
use Rattle.run_base.specs.Reading.{Holds, SaidOfTold}
use Rattle.run_base.specs.Said.{Said, text, line, Whole, Delivered}
use Rattle.run_base.proofs.Jobs.{err_is, out_is, status_is}
use Rattle.run_base.proofs.Sent.{Gives, line_sent, text_sent}
use Rattle.input_texts.specs.Texts.{Alone}
use Rattle.input_texts.proofs.Asking.{alone, net_of_spelled, policy_of_spelled, said_for, told_says}
use Rattle.compile_jobs.specs.Compiled.{IsCompiled, IsRefusedFor}
use Rattle.compile_jobs.proofs.Compiling.{never_refused, only}
use Rattle.route_maps.specs.OfConfig.{maps_of}
use Rattle.route_maps.proofs.Means.{MeansAs-maps_of}
use Rattle.map_maker.specs.Counts.{line_count}
use Rattle.map_maker.specs.Earlier.{top}
use Rattle.route_map_text.specs.MapsLines.{maps_text}
use Rattle.judging_jobs.specs.MapsJobs.{SaysOfConfig, SaysOfPolicy}
use Rattle.judging_jobs.specs.MapsSaid.{too_many_lines}
use Rattle.judging_jobs.proofs.RouteMapLaws.{said_of}
use Rattle.propane_run.specs.declared.command.Command.{Command}
use Rattle.propane_run.specs.declared.command.Command.TheVariants.{RouteMap}
use Rattle.propane_run.specs.Asked.{AsksFor}
use Rattle.propane_run.specs.Mapping.{MapsRight, TellsTooMany}
use Rattle.propane_run.specs.Refusing.{RefusesRight}
use Rattle.propane_run.specs.Run.{Comes, Job}
use Rattle.propane_run.specs.Words.{names_read}
use Rattle.propane_run.proofs.Asking.{asks_for, spells}
use Rattle.propane_run.proofs.Compilation.{compilation}

module _ (holds : Holds) (words : List (List ℕ)) where
  -- the command
  abbrev c : Command
  c = RouteMap

  module _ {S : Type 0} (taken : S → Option (List ℕ)) (before now : S) (b : List ℕ) (written : Whole taken b before now) where
    module _ (net : PlainNet) (policy : PlainPolicy) (asks : AsksFor holds words c net policy) where
      right_of : (config : PlainConfig) (evidence : List PlainCaseEvidence) → IsCompiled net policy config evidence → SaysOfConfig config (text b) → MapsRight holds taken words before now
      right_of config evidence compiled (inr many) = absurd (let s = status_is _ _ many.said in cc)
      right_of config evidence compiled (inl h) =
          let spell = spells holds words c net policy asks in
          record {
            net = net;
            policy = policy;
            asked = asks;
            made = compilation net policy config evidence (net_of_spelled spell) (policy_of_spelled spell) compiled;
            bytes = b;
            written = written;
            spelled = record { lawful = h.1; written = out_is _ _ h.2 };
            means = MeansAs-maps_of config;
          }

      right_by : SaysOfPolicy net policy (text b) → MapsRight holds taken words before now
      right_by (inl h) = right_of h.0 h.1 h.2 h.3
      right_by (inr h) = absurd (let s = status_is _ _ h.2 in cc)

      many_of : (config : PlainConfig) (evidence : List PlainCaseEvidence) → IsCompiled net policy config evidence → SaysOfConfig config (line Refused b) → TellsTooMany holds taken words c before now
      many_of config evidence compiled (inl h) = absurd (let s = status_is _ _ h.2 in cc)
      many_of config evidence compiled (inr many) = record { config = config; asked = (net, policy, evidence, asks, compiled); many = many.many; written = rw (err_is _ _ many.said) at written }

      refused_by : SaysOfPolicy net policy (line Refused b) → RefusesRight holds taken words c before now ⊎ TellsTooMany holds taken words c before now
      refused_by (inl h) = inr (many_of h.0 h.1 h.2 h.3)
      refused_by (inr h) = inl (record { net = net; policy = policy; asked = asks; refusal = h.0; refused = h.1; written = rw (err_is _ _ h.2) at written })

    -- what it writes are the maps of what is compiled
    pub right : Comes holds words c (text b) → MapsRight holds taken words before now
    right comes =
        let f = said_for (Alone SaysOfPolicy) holds (names_read words c) (text b) (λ x. cc) comes.bytes comes.held comes.says in
        right_by f.net f.policy (asks_for holds words c f.net f.policy comes.is f.spell) (alone SaysOfPolicy f.spell.more f.net f.policy (text b) f.says)

    -- a refusal that is told applies
    pub refused : Comes holds words c (line Refused b) → RefusesRight holds taken words c before now ⊎ TellsTooMany holds taken words c before now
    refused comes =
        let f = said_for (Alone SaysOfPolicy) holds (names_read words c) (line Refused b) (λ x. cc) comes.bytes comes.held comes.says in
        refused_by f.net f.policy (asks_for holds words c f.net f.policy comes.is f.spell) (alone SaysOfPolicy f.spell.more f.net f.policy (line Refused b) f.says)

  -- ---- where the inputs are told

  module _ (net : PlainNet) (policy : PlainPolicy) (asks : AsksFor holds words c net policy) {O E : Type 0} (ot : O → Option (List ℕ)) (of : O → ℕ)
      (et : E → Option (List ℕ)) (ef : E → ℕ) (out out' : O) (err err' : E) (ended : Status) where
    told : (wanted : Said) → SaidOfTold holds (names_read words c) (Job c) wanted → SaysOfPolicy net policy wanted
    told wanted said =
        let spell = spells holds words c net policy asks in
        alone SaysOfPolicy spell.more net policy wanted (told_says (Alone SaysOfPolicy) holds (names_read words c) net policy wanted spell said)

    done_with : (config : PlainConfig) → line_count (maps_of config) ≤ 1000000 → (Rose (of out) (of out') → ⊥) → (wanted : Said)
        → SaysOfConfig config wanted → Delivered ot of et ef wanted out out' err err' ended → ended ≡ Done
    done_with config few calm wanted (inl h) sent = let is = h.2 in text_sent ot of et ef out out' err err' ended (maps_text (maps_of config)) calm (rw is at sent)
    done_with config few calm wanted (inr many) sent = absurd (omega (arith, few, many.many))

    done_by : ((e : CompileRefusal) → IsRefusedFor net policy e → ⊥)
        → ((config : PlainConfig) (evidence : List PlainCaseEvidence) → IsCompiled net policy config evidence → line_count (maps_of config) ≤ 1000000)
        → (Rose (of out) (of out') → ⊥) → (wanted : Said) → SaysOfPolicy net policy wanted → Delivered ot of et ef wanted out out' err err' ended → ended ≡ Done
    done_by none few calm wanted (inl h) sent = done_with h.0 (few h.0 h.1 h.2) calm wanted h.3 sent
    done_by none few calm wanted (inr h) sent = absurd (none h.0 h.1)

    pub mapped_where : ((e : CompileRefusal) → IsRefusedFor net policy e → ⊥)
        → ((config : PlainConfig) (evidence : List PlainCaseEvidence) → IsCompiled net policy config evidence → line_count (maps_of config) ≤ 1000000)
        → (Rose (of out) (of out') → ⊥) → Gives ot of et ef out out' err err' ended (SaidOfTold holds (names_read words c) (Job c)) → (ended ≡ NoMemory) ⊎ (ended ≡ Done)
    mapped_where none few calm (inl m) = inl m
    mapped_where none few calm (inr w) = inr (done_by none few calm w.0 (told w.0 w.1) w.2)

    unmapped_by : (e : CompileRefusal) → (Rose (ef err) (ef err') → ⊥) → IsRefusedFor net policy e → (wanted : Said) → SaysOfPolicy net policy wanted
        → Delivered ot of et ef wanted out out' err err' ended → (ended ≡ Refused) × Whole et (refusal_line net e) err err' × (out' ≡ out)
    unmapped_by e calm applies wanted (inl h) sent = absurd (never_refused net policy h.0 h.1 h.2 e applies)
    unmapped_by e calm applies wanted (inr h) sent =
        let is : wanted ≡ line Refused (refusal_line net e) = h.2 ∙ ap (λ f. line Refused (refusal_line net f)) (only net policy h.0 e h.1 applies) in
        line_sent ot of et ef out out' err err' ended Refused (refusal_line net e) calm (rw is at sent)

    pub unmapped_where : (e : CompileRefusal) → (Rose (ef err) (ef err') → ⊥) → IsRefusedFor net policy e → Gives ot of et ef out out' err err' ended (SaidOfTold holds (names_read words c) (Job c))
        → (ended ≡ NoMemory) ⊎ (ended ≡ Refused) × Whole et (refusal_line net e) err err' × (out' ≡ out)
    unmapped_where e calm applies (inl m) = inl m
    unmapped_where e calm applies (inr w) = inr (unmapped_by e calm applies w.0 (told w.0 w.1) w.2)

    many_by : (config : PlainConfig) → 1000000 < line_count (maps_of config) → (Rose (ef err) (ef err') → ⊥) → (wanted : Said) → SaysOfConfig config wanted
        → Delivered ot of et ef wanted out out' err err' ended → (ended ≡ Refused) × Whole et (too_many_lines (min (line_count (maps_of config)) top)) err err' × (out' ≡ out)
    many_by config many calm wanted (inl h) sent = absurd (omega (arith, many, h.0))
    many_by config many calm wanted (inr h) sent =
        let is = h.said in
        line_sent ot of et ef out out' err err' ended Refused (too_many_lines (min (line_count (maps_of config)) top)) calm (rw is at sent)

    pub too_many_where : (config : PlainConfig) (evidence : List PlainCaseEvidence) → IsCompiled net policy config evidence → 1000000 < line_count (maps_of config) → (Rose (ef err) (ef err') → ⊥)
        → Gives ot of et ef out out' err err' ended (SaidOfTold holds (names_read words c) (Job c))
        → (ended ≡ NoMemory) ⊎ (ended ≡ Refused) × Whole et (too_many_lines (min (line_count (maps_of config)) top)) err err' × (out' ≡ out)
    too_many_where config evidence compiled many calm (inl m) = inl m
    too_many_where config evidence compiled many calm (inr w) = inr (many_by config many calm w.0 (said_of net policy config evidence w.0 compiled (told w.0 w.1)) w.2)
