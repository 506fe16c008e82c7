-- The words that are a command are its word and the names that it reads, where it takes no others.
use Rattle.std.proofs.Common.{◌≡◌, ◌≢◌, ℕ, ◌+◌, List, [], ◌∷◌, Bool, true, false, Some, None, length, refl, sym, ap, ◌∙◌, arith}
use Rattle.std.specs.Prelude.{option_map, option_and_then, slice_get, codes, if◌then◌else◌, ◌||◌, nat_eq}
use Rattle.std.specs.Str.{bytes_eq}
use Rattle.std.proofs.lemmas.Bool.{eqb-true}
use Rattle.std.proofs.lemmas.Slice.Eq.{bytes_eq-Decides}
use Rattle.compile_jobs.specs.declared.written.Part.{Part}
use Rattle.compile_jobs.specs.declared.written.Part.TheVariants as part
use Rattle.help_texts.specs.Pages.{topic_named, topics, word_of}
use Rattle.help_texts.specs.declared.topic.Topic.{Topic}
use Rattle.help_texts.specs.declared.topic.Topic.TheVariants as topic
use Rattle.list_law.proofs.Options.{option_and_then_parts, option_map_parts}
use Rattle.list_law.proofs.Tests.{find_parts}
use Rattle.propane_run.specs.declared.command.Command.{Command}
use Rattle.propane_run.specs.declared.command.Command.TheVariants.{Compile, Evidence, Check, Explain, Impact, RouteMap, CheckMap, Lint, Audit, Migrate}
use Rattle.propane_run.specs.declared.command.Command.TheVariants.{Sample, Help, Version, Promises, Maps, Between, Renew, Reuse, Compare, Under, After}
use Rattle.propane_run.specs.declared.command.Course.TheVariants.{Trace, Settle, Waiting}
use Rattle.propane_run.specs.declared.command.Outlook.TheVariants.{Replay, Drain, WhatIf, Multipath}
use Rattle.propane_run.specs.Words.{command_of, help_of, name_count, names_read, other_words, prefix_word, renewing, sample_number, stage_word, topic_asked, words_are}

-- the command whose word a command's is
abbrev topic_of : Command → Topic
topic_of Compile = topic.Compile
topic_of Evidence = topic.Evidence
topic_of Check = topic.Check
topic_of Explain = topic.Explain
topic_of (Sample n) = topic.Sample
topic_of Migrate = topic.Migrate
topic_of (Impact prefix) = topic.Impact
topic_of RouteMap = topic.RouteMap
topic_of CheckMap = topic.CheckMap
topic_of Lint = topic.Lint
topic_of Audit = topic.Audit
topic_of (Help t) = topic.Help
topic_of Version = topic.Version
topic_of Promises = topic.Promises
topic_of Maps = topic.Maps
topic_of (Between stage) = topic.Between
topic_of (Renew part.Config) = topic.Renew
topic_of (Renew part.Evidence) = topic.Renewal
topic_of (Reuse part.Config) = topic.Renew
topic_of (Reuse part.Evidence) = topic.Renewal
topic_of Compare = topic.Compare
topic_of (Under Replay) = topic.Replay
topic_of (Under Drain) = topic.Drain
topic_of (Under WhatIf) = topic.WhatIf
topic_of (Under Multipath) = topic.Multipath
topic_of (After Trace) = topic.Trace
topic_of (After Settle) = topic.Settle
topic_of (After Waiting) = topic.Waiting

is_of : (a c : Command) (t : Topic) → topic_of a ≡ t → Some a ≡ Some c → topic_of c ≡ t
is_of a c t named h = let same : a ≡ c = cc in sym (ap topic_of same) ∙ named

-- with evidence or without
renews : (p : Part) (b : Bool) → topic_of (if b then Reuse p else Renew p) ≡ topic_of (Renew p)
renews part.Config true = refl
renews part.Config false = refl
renews part.Evidence true = refl
renews part.Evidence false = refl

-- what a word names comes of it
named : (t : Topic) (rest : List (List ℕ)) (c : Command) → command_of t rest ≡ Some c → topic_of c ≡ t
named topic.Compile rest c h = is_of Compile c topic.Compile refl h
named topic.Evidence rest c h = is_of Evidence c topic.Evidence refl h
named topic.Check rest c h = is_of Check c topic.Check refl h
named topic.Explain rest c h = is_of Explain c topic.Explain refl h
named topic.Replay rest c h = is_of (Under Replay) c topic.Replay refl h
named topic.Trace rest c h = is_of (After Trace) c topic.Trace refl h
named topic.Sample rest c h =
    let word = option_and_then_parts (λ w. option_map (λ n. Sample n) (sample_number w)) (slice_get rest 0) c h in
    let number = option_map_parts (λ n. Sample n) (sample_number word.0) c word.2 in
    sym (ap topic_of number.2)
named topic.Migrate rest c h = is_of Migrate c topic.Migrate refl h
named topic.Impact rest c h =
    let word = option_and_then_parts (λ w. option_map (λ p. Impact p) (prefix_word w)) (slice_get rest 2) c h in
    let prefix = option_map_parts (λ p. Impact p) (prefix_word word.0) c word.2 in
    sym (ap topic_of prefix.2)
named topic.RouteMap rest c h = is_of RouteMap c topic.RouteMap refl h
named topic.CheckMap rest c h = is_of CheckMap c topic.CheckMap refl h
named topic.Lint rest c h = is_of Lint c topic.Lint refl h
named topic.Audit rest c h = is_of Audit c topic.Audit refl h
named topic.Help rest c h = sym (ap topic_of (option_map_parts (λ t. Help t) (help_of rest) c h).2)
named topic.Version rest c h = is_of Version c topic.Version refl h
named topic.Drain rest c h = is_of (Under Drain) c topic.Drain refl h
named topic.Settle rest c h = is_of (After Settle) c topic.Settle refl h
named topic.Promises rest c h = is_of Promises c topic.Promises refl h
named topic.WhatIf rest c h = is_of (Under WhatIf) c topic.WhatIf refl h
named topic.Multipath rest c h = is_of (Under Multipath) c topic.Multipath refl h
named topic.Maps rest c h = is_of Maps c topic.Maps refl h
named topic.Between rest c h =
    let word = option_and_then_parts (λ w. option_map (λ s. Between s) (stage_word w)) (slice_get rest 2) c h in
    let stage = option_map_parts (λ s. Between s) (stage_word word.0) c word.2 in
    sym (ap topic_of stage.2)
named topic.Renew rest c h = is_of (renewing part.Config rest) c topic.Renew (renews part.Config (nat_eq (length rest) 4)) h
named topic.Renewal rest c h = is_of (renewing part.Evidence rest) c topic.Renewal (renews part.Evidence (nat_eq (length rest) 4)) h
named topic.Waiting rest c h = is_of (After Waiting) c topic.Waiting refl h
named topic.Compare rest c h = is_of Compare c topic.Compare refl h

-- a word by which every program is asked names help or the version alone
own_word : (help version : Bool) (word : List ℕ) (t : Topic) → t ≢ topic.Help → t ≢ topic.Version
    → (if help then Some topic.Help else if version then Some topic.Version else topic_named word) ≡ Some t → word ≡ word_of t
own_word true version word t not_help not_version h = absurd (not_help (let same : topic.Help ≡ t = cc in sym same))
own_word false true word t not_help not_version h = absurd (not_version (let same : topic.Version ≡ t = cc in sym same))
own_word false false word t not_help not_version h = (bytes_eq-Decides word (word_of t)).0 (find_parts (λ t. bytes_eq word (word_of t)) topics t h).2

counted : (b : Bool) (c d : Command) → (if b then Some c else None) ≡ Some d → (b ≡ true) × (c ≡ d)
counted true c d h = (refl, let same : c ≡ d = cc in same)
counted false c d h = absurd cc

-- the first word of a command, and how many follow
first : (word : List ℕ) (rest : List (List ℕ)) (c : Command) → words_are (word ∷ rest) ≡ Some c → topic_of c ≢ topic.Help → topic_of c ≢ topic.Version
    → (word ≡ word_of (topic_of c)) × (length rest ≡ name_count c + other_words c)
first word rest c h not_help not_version =
    let some = option_and_then_parts (λ d. if nat_eq (length rest) (name_count d + other_words d) then Some d else None) (option_and_then (λ t. command_of t rest) (topic_asked word)) c h in
    let count = counted (nat_eq (length rest) (name_count some.0 + other_words some.0)) some.0 c some.2 in
    let topic = option_and_then_parts (λ t. command_of t rest) (topic_asked word) some.0 some.1 in
    let t = topic.0 in
    let is : topic_of c ≡ t = sym (ap topic_of count.1) ∙ named t rest some.0 topic.2 in
    let asked : topic_asked word ≡ Some (topic_of c) = topic.1 ∙ ap (λ x. Some x) (sym is) in (
      own_word (bytes_eq word (codes "--help") || bytes_eq word (codes "-h")) (bytes_eq word (codes "--version")) word (topic_of c) not_help not_version asked,
      eqb-true (length rest) (name_count c + other_words c) (sym (ap (λ d. nat_eq (length rest) (name_count d + other_words d)) count.1) ∙ count.0),
    )

two : (rest : List (List ℕ)) → length rest ≡ 2 → rest ≡ names_read ([] ∷ rest) Compile
two [] h = absurd (omega (arith, h))
two (a ∷ []) h = absurd (omega (arith, h))
two (a ∷ b ∷ []) h = refl
two (a ∷ b ∷ c ∷ more) h = absurd (omega (arith, h))

four : (rest : List (List ℕ)) → length rest ≡ 4 → rest ≡ names_read ([] ∷ rest) Check
four [] h = absurd (omega (arith, h))
four (a ∷ []) h = absurd (omega (arith, h))
four (a ∷ b ∷ []) h = absurd (omega (arith, h))
four (a ∷ b ∷ c ∷ []) h = absurd (omega (arith, h))
four (a ∷ b ∷ c ∷ d ∷ []) h = refl
four (a ∷ b ∷ c ∷ d ∷ e ∷ more) h = absurd (omega (arith, h))

pub compile_words : (words : List (List ℕ)) → words_are words ≡ Some Compile → words ≡ codes "compile" ∷ names_read words Compile
compile_words [] h = absurd (let none : None ≡ Some Compile = h in cc)
compile_words (word ∷ rest) h =
    let is = first word rest Compile h (λ x. cc) (λ x. cc) in
    ap (λ (w : List ℕ). w ∷ rest) is.0 ∙ ap (λ (names : List (List ℕ)). codes "compile" ∷ names) (two rest is.1)

pub check_words : (words : List (List ℕ)) → words_are words ≡ Some Check → words ≡ codes "check" ∷ names_read words Check
check_words [] h = absurd (let none : None ≡ Some Check = h in cc)
check_words (word ∷ rest) h =
    let is = first word rest Check h (λ x. cc) (λ x. cc) in
    ap (λ (w : List ℕ). w ∷ rest) is.0 ∙ ap (λ (names : List (List ℕ)). codes "check" ∷ names) (four rest is.1)
