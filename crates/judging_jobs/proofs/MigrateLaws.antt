-- The job that migrates.
use Rattle.std.proofs.Common.{◌≡◌, ℕ, ◌<◌, List, [], ◌∷◌, length, inr, refl, sym, subst, ◌∙◌}
use Rattle.config_base.specs.Configs.{PlainConfig}
use Rattle.config_lines.specs.declared.edition.Edition.TheVariants.{First, Second}
use Rattle.config_text.specs.ConfigText.{config_text}
use Rattle.config_text.specs.Spelled.{SpellsIn, Spells}
use Rattle.config_text.proofs.Lawful.{one_configuration}
use Rattle.config_text.proofs.LawfulLines.{lawful_text}
use Rattle.config_reader.specs.Text.{spelled_in}
use Rattle.config_reader.proofs.ReadTexts.{read_is_spelled}
use Rattle.config_reader.proofs.TakenTexts.{spelled_is_read}
use Rattle.run_base.specs.Said.{Said, text}
use Rattle.run_base.proofs.Jobs.{IsJob, IsJobSaid, in_text, out_is}
use Rattle.input_texts.specs.FaultLines.{config_line}
use Rattle.input_texts.proofs.Spelling.{of_read, one_of_read, read_form}
use Rattle.judging_jobs.specs.Migrated.{IsMigrated, SaysConfig, SaysOfText, SaysOfTexts}

-- ---- the form of what is said, and that it is one thing

module _ (Refuses Checks : Type 0) where
  config_form : (config : PlainConfig) (what : Said) → SaysConfig config what → IsJobSaid Refuses Checks what
  config_form config what is = in_text (config_text config) is

  said_form : (bs : List (List ℕ)) (what : Said) → SaysOfTexts bs what → IsJobSaid Refuses Checks what
  said_form [] what says = absurd says
  said_form (old ∷ []) what says = read_form config_line (spelled_in First old) SaysConfig Refuses Checks config_form what says
  said_form (old ∷ b ∷ bs) what says = absurd says

  one_said : (bs : List (List ℕ)) (one other : Said) → SaysOfTexts bs one → SaysOfTexts bs other → one ≡ other
  one_said [] one other a b = absurd a
  one_said (old ∷ []) one other a b = one_of_read config_line (spelled_in First old) SaysConfig (λ config read one other x y. x ∙ sym y) one other a b
  one_said (old ∷ b ∷ bs) one other a b' = absurd a

  pub migrate_job : IsJob Refuses Checks SaysOfTexts
  migrate_job = record { form = said_form; one = one_said }

-- ---- what was migrated

pub is_migrated : (old new : List ℕ) → length old < 4294967295 → SaysOfText old (text new) → IsMigrated old new
is_migrated old new short says =
    let read = of_read config_line (spelled_in First old) SaysConfig (text new) (λ x. cc) says in
    let before : SpellsIn First old read.0 = read_is_spelled First old read.0 short read.1 in
    let same : config_text read.0 ≡ new = sym (out_is _ _ read.2) in
    record { config = read.0; before = before; after = subst (λ (t : List ℕ). Spells t read.0) same (lawful_text read.0 before.lawful) }

pub migrates : (old : List ℕ) (config : PlainConfig) → SpellsIn First old config → SaysOfText old (text (config_text config))
migrates old config spells = inr (config, spelled_is_read First old config spells, refl)

pub one_migrated : (old new : List ℕ) (was is : PlainConfig) → IsMigrated old new → SpellsIn First old was → Spells new is → was ≡ is
one_migrated old new was is m before after = one_configuration First old was m.config before m.before ∙ one_configuration Second new m.config is m.after after
