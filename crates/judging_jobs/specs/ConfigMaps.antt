-- What `maps` says of a configuration text.
use Rattle.std.specs.Prelude.{ℕ, List, [], ◌∷◌}
use Rattle.config_reader.specs.Text.{spelled}
use Rattle.run_base.specs.Said.{Said}
use Rattle.input_texts.specs.FaultLines.{config_line}
use Rattle.input_texts.specs.Texts.{OfRead}
use Rattle.judging_jobs.specs.MapsJobs.{SaysOfConfig}

-- the fault of the text, or the text of the maps of its configuration, or that they have too many lines
abbrev pub SaysOfText : List ℕ → Said → Type 0
SaysOfText bytes what = OfRead config_line (spelled bytes) SaysOfConfig what

-- where this is the one text that was read
abbrev pub SaysOfTexts : List (List ℕ) → Said → Type 0
SaysOfTexts (bytes ∷ []) what = SaysOfText bytes what
SaysOfTexts _ what = ⊥
