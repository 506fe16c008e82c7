-- What `migrate` says of a configuration text of the first edition.
use Rattle.std.specs.Prelude.{◌≡◌, ℕ, List, [], ◌∷◌}
use Rattle.config_base.specs.Configs.{PlainConfig}
use Rattle.config_lines.specs.declared.edition.Edition.TheVariants.{First}
use Rattle.config_reader.specs.Text.{spelled_in}
use Rattle.config_text.specs.ConfigText.{config_text}
use Rattle.config_text.specs.Spelled.{SpellsIn, Spells}
use Rattle.run_base.specs.Said.{Said, text}
use Rattle.input_texts.specs.FaultLines.{config_line}
use Rattle.input_texts.specs.Texts.{OfRead}

-- Both texts spell one configuration: the old one in the first edition, the new one in the second.
pub record IsMigrated (old new : List ℕ) : Type 0 where
  pub config : PlainConfig
  pub before : SpellsIn First old config
  pub after : Spells new config

-- the text of a configuration
abbrev pub SaysConfig : PlainConfig → Said → Type 0
SaysConfig config what = what ≡ text (config_text config)

-- the fault of the old text, or the text of its configuration
abbrev pub SaysOfText : List ℕ → Said → Type 0
SaysOfText old what = OfRead config_line (spelled_in First old) SaysConfig what

-- where this is the one text that was read
abbrev pub SaysOfTexts : List (List ℕ) → Said → Type 0
SaysOfTexts (old ∷ []) what = SaysOfText old what
SaysOfTexts _ what = ⊥
