-- The job that writes the maps of a configuration text.
use Rattle.std.proofs.Common.{◌≡◌, ◌≢◌, ℕ, List, [], ◌∷◌, Ok, refl}
use Rattle.config_base.specs.Configs.{PlainConfig}
use Rattle.config_reader.specs.Text.{spelled}
use Rattle.run_base.specs.declared.outcome.Status.TheVariants.{BadInput}
use Rattle.run_base.specs.Said.{Said}
use Rattle.run_base.proofs.Jobs.{IsJob, IsJobSaid}
use Rattle.input_texts.specs.FaultLines.{config_line}
use Rattle.input_texts.proofs.Spelling.{at_read, of_read, one_of_read, read_form}
use Rattle.judging_jobs.specs.ConfigMaps.{SaysOfTexts}
use Rattle.judging_jobs.specs.MapsJobs.{SaysOfConfig}
use Rattle.judging_jobs.proofs.RouteMapLaws.{config_form, one_of_config}

-- ---- the form of what is said, and that it is one thing

module _ (Refuses Checks : Type 0) (refuses : Refuses) where
  said_form : (bs : List (List ℕ)) (what : Said) → SaysOfTexts bs what → IsJobSaid Refuses Checks what
  said_form [] what says = absurd says
  said_form (bytes ∷ []) what says = read_form config_line (spelled bytes) SaysOfConfig Refuses Checks (config_form Refuses Checks refuses) what says
  said_form (bytes ∷ b ∷ bs) what says = absurd says

one_said : (bs : List (List ℕ)) (one other : Said) → SaysOfTexts bs one → SaysOfTexts bs other → one ≡ other
one_said [] one other a b = absurd a
one_said (bytes ∷ []) one other a b = one_of_read config_line (spelled bytes) SaysOfConfig (λ config read. one_of_config config) one other a b
one_said (bytes ∷ c ∷ bs) one other a b = absurd a

pub config_maps_job : (Refuses Checks : Type 0) → Refuses → IsJob Refuses Checks SaysOfTexts
config_maps_job Refuses Checks refuses = record { form = said_form Refuses Checks refuses; one = one_said }

-- ---- of which configuration a thing is said

-- It is said of this text, which spells this configuration.
pub record OfConfigText (bs : List (List ℕ)) (what : Said) : Type 0 where
  pub bytes : List ℕ
  pub texts : bs ≡ bytes ∷ []
  pub config : PlainConfig
  pub config_spelled : spelled bytes ≡ Ok config
  pub says : SaysOfConfig config what

pub of_config_text : (bs : List (List ℕ)) (what : Said) → what.status ≢ BadInput → SaysOfTexts bs what → OfConfigText bs what
of_config_text [] what lawful h = absurd h
of_config_text (bytes ∷ []) what lawful h =
    let c = of_read config_line (spelled bytes) SaysOfConfig what lawful h in
    record { bytes = bytes; texts = refl; config = c.0; config_spelled = c.1; says = c.2 }
of_config_text (bytes ∷ b ∷ more) what lawful h = absurd h

-- and of what a text is known to spell
pub at_config_text : (bytes : List ℕ) (config : PlainConfig) (what : Said) → spelled bytes ≡ Ok config → SaysOfTexts (bytes ∷ []) what → SaysOfConfig config what
at_config_text bytes config what is h = at_read config_line (spelled bytes) SaysOfConfig config what is h
