-- Which words are a command.
use Rattle.std.specs.Prelude.{ℕ, ◌+◌, ◌<◌, ◌&&◌, ◌||◌, nat_le, nat_eq, List, [], ◌∷◌, take, length, slice_get, Option, Some, None, if◌then◌else◌, codes, option_and_then, option_map}
use Rattle.std.specs.Result.{result_ok}
use Rattle.std.specs.List.{AllByRecursion}
use Rattle.std.specs.Str.{bytes_eq}
use Rattle.compile_jobs.specs.declared.written.Part.{Part}
use Rattle.compile_jobs.specs.declared.written.Part.TheVariants as part
use Rattle.help_texts.specs.Pages.{topic_named, usage_text}
use Rattle.help_texts.specs.declared.topic.Topic.{Topic}
use Rattle.help_texts.specs.declared.topic.Topic.TheVariants as topic
use Rattle.net_base.specs.Prefixes.{PlainPrefix}
use Rattle.net_base.specs.PrefixText.{length_number, prefix_spelled}
use Rattle.sample_network.specs.Network.{IsSampleNumber}
use Rattle.stage_check.specs.declared.which.Stage.{Stage}
use Rattle.stage_check.specs.declared.which.Stage.TheVariants.{One, Two}
use Rattle.run_base.specs.declared.outcome.Status.TheVariants.{Usage}
use Rattle.run_base.specs.Reading.{names_at}
use Rattle.run_base.specs.Said.{Said, line}
use Rattle.propane_run.specs.declared.command.Command.{Command}
use Rattle.propane_run.specs.declared.command.Command.TheVariants.{Compile, Evidence, Check, Explain, Impact, RouteMap, CheckMap, Lint, Audit, Migrate}
use Rattle.propane_run.specs.declared.command.Command.TheVariants.{Sample, Help, Version, Promises, Maps, Between, Renew, Reuse, Compare, Under, After}
use Rattle.propane_run.specs.declared.command.Course.TheVariants.{Trace, Settle, Waiting}
use Rattle.propane_run.specs.declared.command.Outlook.TheVariants.{Replay, Drain, WhatIf, Multipath}

-- the command of a word: its own, or one by which every program is asked for help and for its version
abbrev pub topic_asked : List ℕ → Option Topic
topic_asked word =
    if bytes_eq word (codes "--help") || bytes_eq word (codes "-h") then Some topic.Help
    else if bytes_eq word (codes "--version") then Some topic.Version
    else topic_named word

-- a number from 2 to 96, of at most two digits, without a leading zero
abbrev pub sample_number : List ℕ → Option ℕ
sample_number digits = option_and_then (λ n. if nat_le 2 n && nat_le n 96 then Some n else None) (length_number digits)

-- a prefix
abbrev pub prefix_word : List ℕ → Option PlainPrefix
prefix_word word = result_ok (prefix_spelled word)

-- a stage: 1 or 2
abbrev pub stage_word : List ℕ → Option Stage
stage_word word =
    if bytes_eq word (codes "1") then Some One
    else if bytes_eq word (codes "2") then Some Two
    else None

-- the command of which help is asked, or none where it is asked of all
abbrev pub help_of : List (List ℕ) → Option (Option Topic)
help_of [] = Some None
help_of (word ∷ rest) = option_map (λ t. Some t) (topic_named word)

-- to renew, with the evidence of the old configuration where it is named
abbrev pub renewing : Part → List (List ℕ) → Command
renewing p rest = if nat_eq (length rest) 4 then Reuse p else Renew p

-- a command, with what the words after its own say besides names
abbrev pub command_of : Topic → List (List ℕ) → Option Command
command_of topic.Compile rest = Some Compile
command_of topic.Evidence rest = Some Evidence
command_of topic.Check rest = Some Check
command_of topic.Explain rest = Some Explain
command_of topic.Replay rest = Some (Under Replay)
command_of topic.Trace rest = Some (After Trace)
command_of topic.Sample rest = option_and_then (λ word. option_map (λ n. Sample n) (sample_number word)) (slice_get rest 0)
command_of topic.Migrate rest = Some Migrate
command_of topic.Impact rest = option_and_then (λ word. option_map (λ p. Impact p) (prefix_word word)) (slice_get rest 2)
command_of topic.RouteMap rest = Some RouteMap
command_of topic.CheckMap rest = Some CheckMap
command_of topic.Lint rest = Some Lint
command_of topic.Audit rest = Some Audit
command_of topic.Help rest = option_map (λ t. Help t) (help_of rest)
command_of topic.Version rest = Some Version
command_of topic.Drain rest = Some (Under Drain)
command_of topic.Settle rest = Some (After Settle)
command_of topic.Promises rest = Some Promises
command_of topic.WhatIf rest = Some (Under WhatIf)
command_of topic.Multipath rest = Some (Under Multipath)
command_of topic.Maps rest = Some Maps
command_of topic.Between rest = option_and_then (λ word. option_map (λ s. Between s) (stage_word word)) (slice_get rest 2)
command_of topic.Renew rest = Some (renewing part.Config rest)
command_of topic.Renewal rest = Some (renewing part.Evidence rest)
command_of topic.Waiting rest = Some (After Waiting)
command_of topic.Compare rest = Some Compare

-- how many names a command reads
abbrev pub name_count : Command → ℕ
name_count Compile = 2
name_count Evidence = 2
name_count Check = 4
name_count Explain = 2
name_count (Sample leaves) = 0
name_count Migrate = 1
name_count (Impact prefix) = 2
name_count RouteMap = 2
name_count CheckMap = 2
name_count Lint = 2
name_count Audit = 6
name_count (Help topic) = 0
name_count Version = 0
name_count Promises = 2
name_count Maps = 1
name_count (Between stage) = 2
name_count (Renew part) = 3
name_count (Reuse part) = 4
name_count Compare = 3
name_count (Under outlook) = 3
name_count (After course) = 3

-- how many words follow its names: a number, a prefix, a stage, or the word of a command
abbrev pub other_words : Command → ℕ
other_words (Sample leaves) = 1
other_words (Impact prefix) = 1
other_words (Between stage) = 1
other_words (Help (Some topic)) = 1
other_words _ = 0

-- The words are a command where the first names it, and as many follow as it takes.
abbrev pub words_are : List (List ℕ) → Option Command
words_are [] = None
words_are (word ∷ rest) =
    option_and_then (λ c. if nat_eq (length rest) (name_count c + other_words c) then Some c else None)
    (option_and_then (λ topic. command_of topic rest) (topic_asked word))

-- the places of its names in the words, in order: they follow the command's own word
abbrev pub places_of : Command → List ℕ
places_of c = take (name_count c) (1 ∷ 2 ∷ 3 ∷ 4 ∷ 5 ∷ 6 ∷ [])

-- where it has a number, it is that of a sample
abbrev pub HasNumber : Command → Type 0
HasNumber (Sample leaves) = IsSampleNumber leaves
HasNumber _ = Unit {0}

-- its names stand in so many words, and its number is that of a sample
abbrev pub IsWithin : ℕ → Command → Type 0
IsWithin count c = AllByRecursion (λ place. place < count) (places_of c) × HasNumber c

-- the names that a command reads, in order
abbrev pub names_read : List (List ℕ) → Command → List (List ℕ)
names_read words c = names_at words (places_of c)

-- what is said of words that are no command
abbrev pub usage : Said
usage = line Usage usage_text
