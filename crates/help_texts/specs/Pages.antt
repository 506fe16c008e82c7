-- Which word is which command, and what is said of each.
use Rattle.std.specs.Prelude.{ℕ, List, [], ◌∷◌, Option, Some, None, codes}
use Rattle.std.specs.List.{find}
use Rattle.std.specs.Str.{bytes_eq}
use Rattle.help_texts.specs.declared.pages.compiling.TheConstants.{BETWEEN, COMPILE, EVIDENCE, MAPS, MIGRATE, RENEW, RENEWAL, ROUTEMAP, SAMPLE}
use Rattle.help_texts.specs.declared.pages.judging.TheConstants.{AUDIT, CHECK, CHECKMAP, EXPLAIN, LINT}
use Rattle.help_texts.specs.declared.pages.program.TheConstants.{COMMANDS, HELP, USAGE, VERSION, VERSION_PAGE}
use Rattle.help_texts.specs.declared.pages.telling.TheConstants.{COMPARE, DRAIN, IMPACT, MULTIPATH, PROMISES, REPLAY, SETTLE, TRACE, WAITING, WHATIF}
use Rattle.help_texts.specs.declared.topic.Topic.{Topic}
use Rattle.help_texts.specs.declared.topic.Topic.TheVariants.{Compile, Evidence, Check, Explain, Replay, Trace, Sample, Migrate, Impact, RouteMap, CheckMap, Lint, Audit}
use Rattle.help_texts.specs.declared.topic.Topic.TheVariants.{Help, Version, Drain, Settle, Promises, WhatIf, Multipath, Maps, Between, Renew, Renewal, Waiting, Compare}

-- the word of a command
abbrev pub word_of : Topic → List ℕ
word_of Compile = codes "compile"
word_of Evidence = codes "evidence"
word_of Check = codes "check"
word_of Explain = codes "explain"
word_of Replay = codes "replay"
word_of Trace = codes "trace"
word_of Sample = codes "sample"
word_of Migrate = codes "migrate"
word_of Impact = codes "impact"
word_of RouteMap = codes "routemap"
word_of CheckMap = codes "checkmap"
word_of Lint = codes "lint"
word_of Audit = codes "audit"
word_of Help = codes "help"
word_of Version = codes "version"
word_of Drain = codes "drain"
word_of Settle = codes "settle"
word_of Promises = codes "promises"
word_of WhatIf = codes "whatif"
word_of Multipath = codes "multipath"
word_of Maps = codes "maps"
word_of Between = codes "between"
word_of Renew = codes "renew"
word_of Renewal = codes "renewal"
word_of Waiting = codes "waiting"
word_of Compare = codes "compare"

-- all commands
abbrev pub topics : List Topic
topics =
    Compile ∷ Evidence ∷ Check ∷ Explain ∷ Replay ∷ Trace ∷ Sample ∷ Migrate ∷ Impact ∷ RouteMap ∷ CheckMap ∷ Lint ∷ Audit
    ∷ Help ∷ Version ∷ Drain ∷ Settle ∷ Promises ∷ WhatIf ∷ Multipath ∷ Maps ∷ Between ∷ Renew ∷ Renewal ∷ Waiting ∷ Compare ∷ []

-- the command of this word
abbrev pub topic_named : List ℕ → Option Topic
topic_named word = find (λ topic. bytes_eq word (word_of topic)) topics

-- its page
abbrev pub page_of : Topic → List ℕ
page_of Compile = COMPILE.now
page_of Evidence = EVIDENCE.now
page_of Check = CHECK.now
page_of Explain = EXPLAIN.now
page_of Replay = REPLAY.now
page_of Trace = TRACE.now
page_of Sample = SAMPLE.now
page_of Migrate = MIGRATE.now
page_of Impact = IMPACT.now
page_of RouteMap = ROUTEMAP.now
page_of CheckMap = CHECKMAP.now
page_of Lint = LINT.now
page_of Audit = AUDIT.now
page_of Help = HELP.now
page_of Version = VERSION_PAGE.now
page_of Drain = DRAIN.now
page_of Settle = SETTLE.now
page_of Promises = PROMISES.now
page_of WhatIf = WHATIF.now
page_of Multipath = MULTIPATH.now
page_of Maps = MAPS.now
page_of Between = BETWEEN.now
page_of Renew = RENEW.now
page_of Renewal = RENEWAL.now
page_of Waiting = WAITING.now
page_of Compare = COMPARE.now

-- what is said of one command, or of all
abbrev pub help_text : Option Topic → List ℕ
help_text None = COMMANDS.now
help_text (Some topic) = page_of topic

-- the name, the version and the kit
abbrev pub version_text : List ℕ
version_text = VERSION.now

-- what is said of words that are no command
abbrev pub usage_text : List ℕ
usage_text = USAGE.now
