-- A text spells what its policy means.
use Rattle.std.proofs.Common.{◌≡◌, ℕ, List, [], map, length, Option, None, Result, Ok, sym, ap, ap₂, ◌∙◌}
use Rattle.std.specs.Prelude.{⊤}
use Rattle.std.specs.List.{flat_map}
use Rattle.net_base.specs.declared.place.Place.{Place}
use Rattle.net_base.specs.Network.{PlainNet}
use Rattle.net_base.specs.Steps.{◌>>=◌}
use Rattle.net_base.proofs.StepLemmas.{bind_ok}
use Rattle.policy_tokens.specs.declared.fault.PolicyFault.{PolicyFault}
use Rattle.policy_tokens.specs.declared.fault.PolicyFault.TheVariants.{Unknown, Twice, PrefixBad, RankUnder, OriginPeer, OriginTwice, Deep}
use Rattle.policy_tokens.specs.declared.token.Token.{Token}
use Rattle.policy_tokens.specs.Places.{place_of}
use Rattle.policy_tokens.specs.Tokens.{tokens_of}
use Rattle.policy_grammar.specs.Raw.{Item}
use Rattle.policy_grammar.specs.Lexemes.{lexeme_of, lexemes_of}
use Rattle.policy_grammar.specs.Deep.{first_deep}
use Rattle.policy_grammar.specs.Items.{items_of}
use Rattle.grammar_law.specs.Grammar.{IsPolicy}
use Rattle.policy_rules.specs.KnownNames.{Names}
use Rattle.policy_rules.specs.Checks.{each}
use Rattle.policy_rules.specs.Figures.{figures_fine}
use Rattle.policy_rules.specs.Ranks.{ranks_fine}
use Rattle.policy_rules.specs.Origins.{origins_fine, once_from}
use Rattle.policy_base.specs.Policies.{PlainPolicy}
use Rattle.policy_parser.specs.Spelled.{none_at, items_spelled, names_spelled, rules_kept, policy_built, spelled}
use Rattle.policy_law.specs.Told.{told}
use Rattle.policy_law.specs.Trees.{Written, policy_tree, item_of}
use Rattle.policy_law.specs.Senses.{Sense, sense_of, unknown_in_item, item_by_item}
use Rattle.policy_law.specs.Figures.{wrong_figures}
use Rattle.policy_law.specs.Ranks.{ranks_under_in}
use Rattle.policy_law.specs.Origins.{peers_named, originated_again}
use Rattle.policy_law.specs.Values.{origins, policy}
use Rattle.policy_law.specs.Limits.{limits_passed}
use Rattle.policy_law.specs.Meaning.{meaning}
use Rattle.policy_law.proofs.Binds.{told_bind, told_gives, told_where, each_map, each_told}
use Rattle.policy_law.proofs.Grown.{policy_written}
use Rattle.policy_law.proofs.RankMarks.{ranks_told}
use Rattle.policy_law.proofs.Uses.{HasSense}
use Rattle.policy_law.proofs.Learnt.{unknown_from, again_from, names_of, names_sense, names_are_told}
use Rattle.policy_law.proofs.Growing.{names_known}
use Rattle.policy_law.proofs.FigureChecks.{figures_told}
use Rattle.policy_law.proofs.OriginChecks.{peers_told, origins_told}
use Rattle.policy_law.proofs.LimitChecks.{self}
use Rattle.policy_law.proofs.Building.{policy_is}
use Rattle.policy_parser.proofs.BuiltParts.{items_parts}

-- the rules on figures, ranks and origins, where each name stands for something
kept : (net : PlainNet) (bytes : List ℕ) (known : Names) (sense : Sense) → HasSense bytes known sense → (xs : List Written)
    → flat_map (unknown_in_item sense) xs ≡ [] → (more : Result PlainPolicy PolicyFault)
    → (rules_kept bytes net known (map item_of xs) >>= λ _. more)
    ≡ (told PrefixBad (flat_map (wrong_figures bytes) xs) >>= λ _. told RankUnder (flat_map ranks_under_in xs) >>= λ _. told OriginPeer
    (flat_map (peers_named net sense) xs) >>= λ _. told OriginTwice (item_by_item (originated_again bytes) [] xs) >>= λ _. more)
unfolding rules_kept
kept net bytes known sense has xs none more =
    let items : List Item = map item_of xs in
    let figures : List Place = flat_map (wrong_figures bytes) xs in
    let ranks : List Place = flat_map ranks_under_in xs in
    let peers : List Place = flat_map (peers_named net sense) xs in
    let again : List Place = item_by_item (originated_again bytes) [] xs in
    ap₂ (λ (r s : Result ⊤ PolicyFault). (r >>= λ _. s >>= λ _. each (origins_fine bytes net known) items >>= λ _. once_from bytes [] items) >>= λ _. more)
    (each_map (figures_fine bytes) item_of xs ∙ each_told (λ x. figures_fine bytes (item_of x)) PrefixBad (wrong_figures bytes) (figures_told bytes) xs)
    (each_map ranks_fine item_of xs ∙ each_told (λ x. ranks_fine (item_of x)) RankUnder ranks_under_in ranks_told xs)
    ∙ ap (λ (r : Result ⊤ PolicyFault). (told PrefixBad figures >>= λ _. told RankUnder ranks >>= λ _. r >>= λ _. once_from bytes [] items) >>= λ _. more)
    (peers_told bytes net known sense has xs none)
    ∙ told_bind PrefixBad figures (told RankUnder ranks >>= λ _. told OriginPeer peers >>= λ _. once_from bytes [] items) (λ _. more)
    ∙ told_where PrefixBad figures _ _
    (λ fine. ap (λ (r : Result ⊤ PolicyFault). (told RankUnder ranks >>= λ _. told OriginPeer peers >>= λ _. r) >>= λ _. more) (origins_told bytes xs fine)
    ∙ told_bind RankUnder ranks (told OriginPeer peers >>= λ _. told OriginTwice again) (λ _. more)
    ∙ ap (λ (r : Result PlainPolicy PolicyFault). told RankUnder ranks >>= λ _. r) (told_bind OriginPeer peers (told OriginTwice again) (λ _. more)))

-- all rules behind those on names
rules_and_policy : (net : PlainNet) (bytes : List ℕ) (known : Names) (sense : Sense) → HasSense bytes known sense → (xs : List Written) → flat_map (unknown_in_item sense) xs ≡ []
    → (rules_kept bytes net known (map item_of xs) >>= λ _. policy_built bytes net known (map item_of xs))
    ≡ (told PrefixBad (flat_map (wrong_figures bytes) xs) >>= λ _. told RankUnder (flat_map ranks_under_in xs) >>= λ _. told OriginPeer
    (flat_map (peers_named net sense) xs) >>= λ _. told OriginTwice (item_by_item (originated_again bytes) [] xs)
    >>= λ _. told self (limits_passed (origins bytes sense xs) xs) >>= λ _. Ok (policy net bytes sense xs))
rules_and_policy net bytes known sense has xs none =
    let figures : List Place = flat_map (wrong_figures bytes) xs in
    kept net bytes known sense has xs none (policy_built bytes net known (map item_of xs))
    ∙ told_where PrefixBad figures _ _
    (λ fine. ap (λ (r : Result PlainPolicy PolicyFault). told RankUnder (flat_map ranks_under_in xs) >>= λ _. told OriginPeer
    (flat_map (peers_named net sense) xs) >>= λ _. told OriginTwice (item_by_item (originated_again bytes) [] xs) >>= λ _. r)
    (policy_is net bytes known sense has xs fine none))

-- items spell what they mean
items_mean : (net : PlainNet) (bytes : List ℕ) (xs : List Written)
    → (names_spelled bytes net (map item_of xs) >>= λ known. rules_kept bytes net known (map item_of xs) >>= λ _. policy_built bytes net known (map item_of xs)) ≡ meaning net bytes xs
items_mean net bytes xs =
    let known : Names = names_of net bytes xs in
    let sense : Sense = sense_of net bytes xs in
    let unknown : List Place = unknown_from net bytes [] xs in
    let again : List Place = again_from net bytes [] xs in
    let next : Names → Result PlainPolicy PolicyFault = λ known. rules_kept bytes net known (map item_of xs) >>= λ _. policy_built bytes net known (map item_of xs) in
    ap (λ (r : Result Names PolicyFault). r >>= next) (names_are_told net bytes xs)
    ∙ told_bind Unknown unknown (told Twice again >>= λ _. Ok known) next
    ∙ told_where Unknown unknown _ _
    (λ none. told_gives Twice again known next
    ∙ ap (λ (r : Result PlainPolicy PolicyFault). told Twice again >>= λ _. r) (rules_and_policy net bytes known sense (names_sense net bytes xs) xs (names_known net bytes xs none)))

-- each policy is read where no bracket is too deep
abbrev pub EachIsRead : Type 0
EachIsRead =
    (bytes : List ℕ) (tokens : List Token) (end : Place) (items : List Item) → IsPolicy items (map (lexeme_of bytes) tokens)
    → first_deep 0 (lexemes_of bytes tokens end) ≡ None → items_of (lexemes_of bytes tokens end) ≡ Ok items

items_are : EachIsRead → (bytes : List ℕ) (tokens : List Token) (items : List Item) → tokens_of bytes ≡ Ok tokens → first_deep 0 (lexemes_of bytes tokens (place_of bytes (length bytes))) ≡ None
    → IsPolicy items (map (lexeme_of bytes) tokens) → items_spelled bytes ≡ Ok items
unfolding items_spelled
items_are read bytes tokens items cut shallow p =
    let end : Place = place_of bytes (length bytes) in
    ap (λ (r : Result (List Token) PolicyFault). r >>= λ tokens. none_at Deep (first_deep 0 (lexemes_of bytes tokens end)) >>= λ _. items_of (lexemes_of bytes tokens end)) cut
    ∙ ap (λ (o : Option Place). none_at Deep o >>= λ _. items_of (lexemes_of bytes tokens end)) shallow
    ∙ read bytes tokens end items p shallow

pub text_spells : EachIsRead → (net : PlainNet) (bytes : List ℕ) (tokens : List Token) (items : List Item) → tokens_of bytes ≡ Ok tokens
    → first_deep 0 (lexemes_of bytes tokens (place_of bytes (length bytes))) ≡ None
    → (p : IsPolicy items (map (lexeme_of bytes) tokens)) → spelled net bytes ≡ meaning net bytes (policy_tree p)
unfolding spelled
text_spells read net bytes tokens items cut shallow p =
    let next : List Item → Result PlainPolicy PolicyFault = λ items. names_spelled bytes net items >>= λ known. rules_kept bytes net known items >>= λ _. policy_built bytes net known items in
    ap (λ (r : Result (List Item) PolicyFault). r >>= next) (items_are read bytes tokens items cut shallow p)
    ∙ ap next (sym (policy_written p))
    ∙ items_mean net bytes (policy_tree p)

-- ---- what is spelled

-- what is read is a policy
abbrev pub IsReadAsPolicy : Type 0
IsReadAsPolicy = (bytes : List ℕ) (tokens : List Token) (end : Place) (items : List Item) → items_of (lexemes_of bytes tokens end) ≡ Ok items → IsPolicy items (map (lexeme_of bytes) tokens)

-- a policy that is read: its tokens and its items, no bracket too deep, and what they mean
pub policy_read : EachIsRead → IsReadAsPolicy → (net : PlainNet) (bytes : List ℕ) (spelt : PlainPolicy) → spelled net bytes ≡ Ok spelt
    → (tokens : List Token) × (items : List Item) × (p : IsPolicy items (map (lexeme_of bytes) tokens)) × (tokens_of bytes ≡ Ok tokens)
    × (first_deep 0 (lexemes_of bytes tokens (place_of bytes (length bytes))) ≡ None) × (meaning net bytes (policy_tree p) ≡ Ok spelt)
unfolding spelled
policy_read read are net bytes spelt e =
    let a = bind_ok (items_spelled bytes) (λ items. names_spelled bytes net items >>= λ known. rules_kept bytes net known items >>= λ _. policy_built bytes net known items) spelt e in
    let r = items_parts bytes a.0 a.1 in
    let p = are bytes r.0 (place_of bytes (length bytes)) a.0 r.3 in
    (r.0, a.0, p, r.1, r.2, sym (text_spells read net bytes r.0 a.0 r.1 r.2 p) ∙ e)

pub policy_meant : EachIsRead → IsReadAsPolicy → (net : PlainNet) (bytes : List ℕ) (spelt : PlainPolicy) → spelled net bytes ≡ Ok spelt
    → (tokens : List Token) × (items : List Item) × (p : IsPolicy items (map (lexeme_of bytes) tokens)) × (tokens_of bytes ≡ Ok tokens) × (meaning net bytes (policy_tree p) ≡ Ok spelt)
policy_meant read are net bytes spelt e = let r = policy_read read are net bytes spelt e in (r.0, r.1, r.2, r.3, r.5)
