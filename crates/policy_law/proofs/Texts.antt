-- A text spells exactly the policy that it means.
use Rattle.std.proofs.Common.{◌≡◌, ℕ, ◌≤◌, List, [], ◌∷◌, ◌+◌, length, map, None, Result, Ok, refl, sym, ap, subst, ◌∙◌, arith, sum_by, flat_map}
use Rattle.net_base.specs.declared.place.Place.{Place}
use Rattle.net_base.specs.Network.{PlainNet}
use Rattle.net_base.specs.Steps.{◌>>=◌}
use Rattle.net_base.proofs.StepLemmas.{ok_same}
use Rattle.policy_base.specs.Policies.{PlainPolicy, IsPolicy as IsLawful}
use Rattle.policy_tokens.specs.declared.fault.PolicyFault.{PolicyFault}
use Rattle.policy_tokens.specs.declared.fault.PolicyFault.TheVariants.{Unknown, Twice, PrefixBad, RankUnder, OriginPeer, OriginTwice}
use Rattle.policy_tokens.specs.declared.kind.Kind.TheVariants as kind
use Rattle.policy_tokens.specs.declared.token.Token.{Token}
use Rattle.policy_tokens.specs.Places.{place_of}
use Rattle.policy_tokens.specs.Tokens.{tokens_of}
use Rattle.policy_grammar.specs.Raw.{Item}
use Rattle.policy_grammar.specs.Deep.{first_deep}
use Rattle.policy_grammar.specs.Lexemes.{lexeme_of, lexemes_of}
use Rattle.grammar_law.specs.Grammar.{IsPolicy}
use Rattle.grammar_law.proofs.Cuts.{cut-tokens}
use Rattle.grammar_law.proofs.SpanLaws.{tokens-cut}
use Rattle.grammar_law.proofs.TextLaws.{policy-read, read-policy}
use Rattle.policy_parser.specs.Spelled.{spelled}
use Rattle.policy_parser.proofs.FittingPolicies.{read_rules}
use Rattle.policy_law.specs.Told.{told}
use Rattle.policy_law.specs.Trees.{Written, policy_tree, item_of}
use Rattle.policy_law.specs.Senses.{Sense, sense_of, below}
use Rattle.policy_law.specs.Values.{origins, policy}
use Rattle.policy_law.specs.Limits.{amount, many_calls, long_paths, limits_passed}
use Rattle.policy_law.specs.Meaning.{unknown_names, groups_again, all_wrong_figures, all_ranks_under, all_peers_named, prefixes_again, meaning}
use Rattle.policy_law.specs.Texts.{AreFine, IsPolicyTextOf}
use Rattle.policy_law.proofs.Binds.{nil_front, nil_back}
use Rattle.policy_law.proofs.Grown.{policy_written}
use Rattle.policy_law.proofs.Learnt.{turned, turned-all}
use Rattle.policy_law.proofs.Shallow.{deep_before_end}
use Rattle.policy_law.proofs.OneTree.{items_same}
use Rattle.policy_law.proofs.NothingBroken.{many_kept}
use Rattle.policy_law.proofs.FineItems.{NoneOfAll, items_fine, items_none}
use Rattle.policy_law.proofs.FewItems.{no_limit_passed, groups_are_few, none_again, nothing_above}
use Rattle.policy_law.proofs.Whole.{text_spells, policy_read}

-- nothing was told, and the rest went well
told_ok : {A B : Type 0} (fault : A → PolicyFault) (xs : List A) (r : Result B PolicyFault) (y : B) → (told fault xs >>= λ _. r) ≡ Ok y → (xs ≡ []) × (r ≡ Ok y)
told_ok fault [] r y h = (refl, h)
told_ok fault (x ∷ xs) r y h = absurd cc

told_none : {A B : Type 0} (fault : A → PolicyFault) (xs : List A) (r : Result B PolicyFault) → xs ≡ [] → (told fault xs >>= λ _. r) ≡ r
told_none fault [] r none = refl
told_none fault (x ∷ xs) r none = absurd cc

module _ (net : PlainNet) (bytes : List ℕ) (items : List Written) where
  abbrev sense : Sense
  sense = sense_of net bytes items

  -- that nothing is told of the items
  record NothingTold : Type 0 where
    unknown : unknown_names net bytes items ≡ []
    twice : groups_again net bytes items ≡ []
    figures : all_wrong_figures bytes items ≡ []
    ranks : all_ranks_under items ≡ []
    peers : all_peers_named net bytes items ≡ []
    once : prefixes_again bytes items ≡ []
    limits : limits_passed (origins bytes sense items) items ≡ []

  nothing_told : (p : PlainPolicy) → meaning net bytes items ≡ Ok p → NothingTold × (policy net bytes sense items ≡ p)
  nothing_told p h =
      let a = told_ok Unknown (unknown_names net bytes items) _ p h in
      let b = told_ok Twice (groups_again net bytes items) _ p a.1 in
      let c = told_ok PrefixBad (all_wrong_figures bytes items) _ p b.1 in
      let d = told_ok RankUnder (all_ranks_under items) _ p c.1 in
      let e = told_ok OriginPeer (all_peers_named net bytes items) _ p d.1 in
      let f = told_ok OriginTwice (prefixes_again bytes items) _ p e.1 in
      let g = told_ok (λ x. x) (limits_passed (origins bytes sense items) items) (Ok (policy net bytes sense items)) p f.1 in
      (record { unknown = a.0; twice = b.0; figures = c.0; ranks = d.0; peers = e.0; once = f.0; limits = g.0 }, cc)

  meant : NothingTold → meaning net bytes items ≡ Ok (policy net bytes sense items)
  meant n =
      told_none Unknown (unknown_names net bytes items) _ n.unknown
      ∙ told_none Twice (groups_again net bytes items) _ n.twice
      ∙ told_none PrefixBad (all_wrong_figures bytes items) _ n.figures
      ∙ told_none RankUnder (all_ranks_under items) _ n.ranks
      ∙ told_none OriginPeer (all_peers_named net bytes items) _ n.peers
      ∙ told_none OriginTwice (prefixes_again bytes items) _ n.once
      ∙ told_none (λ x. x) (limits_passed (origins bytes sense items) items) _ n.limits

  whole_sense : below net bytes (turned [] items) ≡ sense
  whole_sense = ap (below net bytes) (turned-all items)

  -- the calls and the places are among the limits
  calls_none : limits_passed (origins bytes sense items) items ≡ [] → flat_map many_calls items ≡ []
  calls_none none = nil_back _ _ (nil_front _ _ none)

  places_none : limits_passed (origins bytes sense items) items ≡ [] → flat_map long_paths items ≡ []
  places_none none = nil_back _ _ none

  fine_items : NothingTold → AreFine net bytes [] items
  fine_items n =
      items_fine net bytes [] items (subst (λ (s : Sense). NoneOfAll net bytes s [] items) (sym whole_sense)
      (record { unknown = n.unknown; again = n.twice; figures = n.figures; ranks = n.ranks; peers = n.peers; calls = calls_none n.limits; places = places_none n.limits }))

  few_groups : NothingTold → length items ≤ 256 + length (policy net bytes sense items).statements + length (policy net bytes sense items).origins
  few_groups n =
      groups_are_few net bytes sense items
      (many_kept kind.Definitions 256 (sum_by (amount kind.Definitions) items) (omega arith)
      (nil_front _ _ (nil_front _ _ (nil_front _ _ (nil_front _ _ (nil_front _ _ (nil_front _ _ n.limits)))))))

  none_told : AreFine net bytes [] items → IsLawful (policy net bytes sense items)
      → length items ≤ 256 + length (policy net bytes sense items).statements + length (policy net bytes sense items).origins → NothingTold
  none_told fine lawful groups =
      let n : NoneOfAll net bytes sense [] items = subst (λ (s : Sense). NoneOfAll net bytes s [] items) whole_sense (items_none net bytes [] items fine) in
      record {
        unknown = n.unknown;
        twice = n.again;
        figures = n.figures;
        ranks = n.ranks;
        peers = n.peers;
        once = none_again net bytes sense [] items lawful.once (nothing_above net bytes sense _);
        limits = no_limit_passed net bytes sense items lawful groups n.calls n.places;
      }

-- ---- texts

pub policies_are_meant : (net : PlainNet) (bytes : List ℕ) (p : PlainPolicy) → spelled net bytes ≡ Ok p → IsPolicyTextOf net bytes p
policies_are_meant net bytes p h =
    let r = policy_read policy-read read-policy net bytes p h in
    let tokens : List Token = r.0 in
    let items : List Written = policy_tree r.2 in
    let told = nothing_told net bytes items p r.5 in
    let cut = tokens-cut bytes tokens r.3 in
    record {
      tokens = tokens;
      utf8 = cut.0;
      cut = cut.1;
      shallow = sym (deep_before_end 0 (map (lexeme_of bytes) tokens) (place_of bytes (length bytes))) ∙ r.4;
      items = items;
      written = subst (λ (xs : List Item). IsPolicy xs (map (lexeme_of bytes) tokens)) (sym (policy_written r.2)) r.2;
      fine = fine_items net bytes items told.0;
      value = told.1;
      lawful = read_rules net bytes p h;
      groups = subst (λ (q : PlainPolicy). length items ≤ 256 + length q.statements + length q.origins) told.1 (few_groups net bytes items told.0);
    }

pub policy_is_spelled : (net : PlainNet) (bytes : List ℕ) (p : PlainPolicy) → IsPolicyTextOf net bytes p → spelled net bytes ≡ Ok p
policy_is_spelled net bytes p m =
    let place : Place = place_of bytes (length bytes) in
    let tokens : tokens_of bytes ≡ Ok m.tokens = cut-tokens bytes m.tokens m.utf8 m.cut in
    let shallow : first_deep 0 (lexemes_of bytes m.tokens place) ≡ None = deep_before_end 0 (map (lexeme_of bytes) m.tokens) place ∙ m.shallow in
    let same : policy_tree m.written ≡ m.items = items_same (policy_tree m.written) m.items (policy_written m.written) in
    text_spells policy-read net bytes m.tokens (map item_of m.items) tokens shallow m.written
    ∙ ap (meaning net bytes) same
    ∙ meant net bytes m.items
    (none_told net bytes m.items m.fine (subst IsLawful (sym m.value) m.lawful) (subst (λ (q : PlainPolicy). length m.items ≤ 256 + length q.statements + length q.origins) (sym m.value) m.groups))
    ∙ ap Ok m.value

pub texts_mean_one_policy : (net : PlainNet) (bytes : List ℕ) (p q : PlainPolicy) → IsPolicyTextOf net bytes p → IsPolicyTextOf net bytes q → p ≡ q
texts_mean_one_policy net bytes p q m n = ok_same p q (sym (policy_is_spelled net bytes p m) ∙ policy_is_spelled net bytes q n)
