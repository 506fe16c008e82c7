-- Items keep the rules exactly where these list nothing.
use Rattle.std.proofs.Common.{◌≡◌, ℕ, List, [], ◌∷◌, Option, None, Some, Bool, true, false, is_some, refl, sym, ap, ◌∙◌, arith, flat_map}
use Rattle.std.specs.List.{AllByRecursion}
use Rattle.list_law.proofs.Options.{is_some_parts}
use Rattle.net_base.specs.declared.loc.LocSet.{LocSet}
use Rattle.net_base.specs.declared.place.Place.{Place}
use Rattle.net_base.specs.Network.{PlainNet}
use Rattle.policy_tokens.specs.declared.kind.Kind.TheVariants as kind
use Rattle.policy_grammar.specs.declared.lexeme.Lexeme.{Lexeme}
use Rattle.policy_law.specs.Trees.{Written, define, originate, state}
use Rattle.policy_law.specs.Senses.{or_else, Sense, below, unknown, unknown_in_set, unknown_in, unknown_in_item, if_some, named_again}
use Rattle.policy_law.specs.Figures.{wrong_in_pattern, wrong_figures}
use Rattle.policy_law.specs.Ranks.{ranks_under_in}
use Rattle.policy_law.specs.Origins.{if_true, has_peer_in, peer_named, peers_named}
use Rattle.policy_law.specs.Limits.{calls, many_calls, long_paths}
use Rattle.policy_law.specs.Texts.{IsKnown, AreRouters, IsPatternText, IsFineBelow, AreFine}
use Rattle.policy_law.proofs.Binds.{nil_front, nil_back, both_nil}
use Rattle.policy_law.proofs.Learnt.{turned, unknown_from, again_from}
use Rattle.policy_law.proofs.NothingBroken.{all_kept, none_found, many_none, many_kept, name_kept, name_none, set_kept, set_none, prefix_kept, prefix_none}
use Rattle.policy_law.proofs.NothingBroken.{pattern_kept, pattern_none, fine_where, none_where}

-- ---- a name goes on to stand for what it does

or_first : (o q : Option LocSet) (s : LocSet) → o ≡ Some s → or_else o q ≡ Some s
or_first o q s h = rw h refl

one_below : (net : PlainNet) (bytes : List ℕ) (xs : List Written) (x : Written) (l : Lexeme) (s : LocSet) → below net bytes xs l ≡ Some s → below net bytes (x ∷ xs) l ≡ Some s
one_below net bytes xs (define group members) l s h = or_first (below net bytes xs l) _ s h
one_below net bytes xs (originate prefix names) l s h = h
one_below net bytes xs (state patterns e from) l s h = h

turned_below : (net : PlainNet) (bytes : List ℕ) (xs ys : List Written) (l : Lexeme) (s : LocSet) → below net bytes xs l ≡ Some s → below net bytes (turned xs ys) l ≡ Some s
turned_below net bytes xs [] l s h = h
turned_below net bytes xs (y ∷ ys) l s h = turned_below net bytes (y ∷ xs) ys l s (one_below net bytes xs y l s h)

-- ---- one item

again_kept : (p : Place) (o : Option LocSet) → if_some p o ≡ [] → o ≡ None
again_kept p None none = refl
again_kept p (Some s) none = absurd cc

true_kept : (p : Place) (b : Bool) → if_true p b ≡ [] → b ≡ false
true_kept p false none = refl
true_kept p true none = absurd cc

module _ (net : PlainNet) (bytes : List ℕ) where
  -- what is listed of an item below others, and in the sense of the whole text
  pub record NoneOf (sense whole : Sense) (x : Written) : Type 0 where
    pub unknown : unknown_in_item sense x ≡ []
    pub again : named_again sense x ≡ []
    pub figures : wrong_figures bytes x ≡ []
    pub ranks : ranks_under_in x ≡ []
    pub peers : peers_named net whole x ≡ []
    pub calls : many_calls x ≡ []
    pub places : long_paths x ≡ []

  module _ (sense whole : Sense) (goes_on : (l : Lexeme) (s : LocSet) → sense l ≡ Some s → whole l ≡ Some s) where
    router_kept : (l : Lexeme) → unknown sense l ≡ [] → peer_named net whole l ≡ [] → AreRouters net sense l
    router_kept l known none =
        let s = is_some_parts (sense l) (name_kept sense l known) in
        (s.0, s.1, sym (ap (has_peer_in net) (goes_on l s.0 s.1)) ∙ true_kept l.place (has_peer_in net (whole l)) none)

    routers_kept : (names : List Lexeme) → flat_map (unknown sense) names ≡ [] → flat_map (peer_named net whole) names ≡ [] → AllByRecursion (AreRouters net sense) names
    routers_kept [] known none = tt
    routers_kept (l ∷ ls) known none = (
      router_kept l (nil_front (unknown sense l) (flat_map (unknown sense) ls) known) (nil_front (peer_named net whole l) (flat_map (peer_named net whole) ls) none),
      routers_kept ls (nil_back (unknown sense l) (flat_map (unknown sense) ls) known) (nil_back (peer_named net whole l) (flat_map (peer_named net whole) ls) none),
    )

    router_known : (l : Lexeme) → AreRouters net sense l → unknown sense l ≡ []
    router_known l r = name_none sense l (ap is_some r.1)

    router_none : (l : Lexeme) → AreRouters net sense l → peer_named net whole l ≡ []
    router_none l r = ap (λ o. if_true l.place (has_peer_in net o)) (goes_on l r.0 r.1) ∙ ap (if_true l.place) r.2

  module _ (above' : List Written) (whole : Sense) (goes_on : (l : Lexeme) (s : LocSet) → below net bytes above' l ≡ Some s → whole l ≡ Some s) where
    abbrev sense : Sense
    sense = below net bytes above'

    item_fine : (x : Written) → NoneOf sense whole x → IsFineBelow net bytes above' x
    item_fine (define group members) n = (again_kept group.place (sense group) n.again, all_kept (IsKnown sense) (unknown sense) (name_kept sense) members n.unknown)
    item_fine (originate prefix names) n = (prefix_kept bytes prefix n.figures, routers_kept sense whole goes_on names n.unknown n.peers)
    item_fine (state patterns e from) n = (
      all_kept (IsPatternText bytes) (wrong_in_pattern bytes) (pattern_kept bytes) patterns n.figures,
      fine_where sense e (record { unknown = nil_front (unknown_in sense e) (unknown_in_set sense from) n.unknown; ranks = n.ranks; places = n.places }),
      set_kept sense from (nil_back (unknown_in sense e) (unknown_in_set sense from) n.unknown),
      many_kept kind.Calls 256 (calls e) (omega arith) n.calls,
    )

    item_none : (x : Written) → IsFineBelow net bytes above' x → NoneOf sense whole x
    item_none (define group members) fine = record {
      unknown = none_found (IsKnown sense) (unknown sense) (name_none sense) members fine.1;
      again = ap (if_some group.place) fine.0;
      figures = refl;
      ranks = refl;
      peers = refl;
      calls = refl;
      places = refl;
    }
    item_none (originate prefix names) fine = record {
      unknown = none_found (AreRouters net sense) (unknown sense) (router_known sense whole goes_on) names fine.1;
      again = refl;
      figures = prefix_none bytes prefix fine.0;
      ranks = refl;
      peers = none_found (AreRouters net sense) (peer_named net whole) (router_none sense whole goes_on) names fine.1;
      calls = refl;
      places = refl;
    }
    item_none (state patterns e from) fine =
        let n = none_where sense e fine.1 in
        record {
          unknown = both_nil (unknown_in sense e) (unknown_in_set sense from) n.unknown (set_none sense from fine.2);
          again = refl;
          figures = none_found (IsPatternText bytes) (wrong_in_pattern bytes) (pattern_none bytes) patterns fine.0;
          ranks = n.ranks;
          peers = refl;
          calls = many_none kind.Calls 256 (calls e) fine.3;
          places = n.places;
        }

  -- ---- all items

  -- what is listed of some items below others, in the sense of the whole text
  pub record NoneOfAll (whole : Sense) (above' xs : List Written) : Type 0 where
    pub unknown : unknown_from net bytes above' xs ≡ []
    pub again : again_from net bytes above' xs ≡ []
    pub figures : flat_map (wrong_figures bytes) xs ≡ []
    pub ranks : flat_map ranks_under_in xs ≡ []
    pub peers : flat_map (peers_named net whole) xs ≡ []
    pub calls : flat_map many_calls xs ≡ []
    pub places : flat_map long_paths xs ≡ []

  front : (whole : Sense) (above' : List Written) (x : Written) (xs : List Written) → NoneOfAll whole above' (x ∷ xs) → NoneOf (below net bytes above') whole x
  front whole above' x xs n = record {
    unknown = nil_front (unknown_in_item (below net bytes above') x) (unknown_from net bytes (x ∷ above') xs) n.unknown;
    again = nil_front (named_again (below net bytes above') x) (again_from net bytes (x ∷ above') xs) n.again;
    figures = nil_front (wrong_figures bytes x) (flat_map (wrong_figures bytes) xs) n.figures;
    ranks = nil_front (ranks_under_in x) (flat_map ranks_under_in xs) n.ranks;
    peers = nil_front (peers_named net whole x) (flat_map (peers_named net whole) xs) n.peers;
    calls = nil_front (many_calls x) (flat_map many_calls xs) n.calls;
    places = nil_front (long_paths x) (flat_map long_paths xs) n.places;
  }

  rest : (whole : Sense) (above' : List Written) (x : Written) (xs : List Written) → NoneOfAll whole above' (x ∷ xs) → NoneOfAll whole (x ∷ above') xs
  rest whole above' x xs n = record {
    unknown = nil_back (unknown_in_item (below net bytes above') x) (unknown_from net bytes (x ∷ above') xs) n.unknown;
    again = nil_back (named_again (below net bytes above') x) (again_from net bytes (x ∷ above') xs) n.again;
    figures = nil_back (wrong_figures bytes x) (flat_map (wrong_figures bytes) xs) n.figures;
    ranks = nil_back (ranks_under_in x) (flat_map ranks_under_in xs) n.ranks;
    peers = nil_back (peers_named net whole x) (flat_map (peers_named net whole) xs) n.peers;
    calls = nil_back (many_calls x) (flat_map many_calls xs) n.calls;
    places = nil_back (long_paths x) (flat_map long_paths xs) n.places;
  }

  join : (whole : Sense) (above' : List Written) (x : Written) (xs : List Written) → NoneOf (below net bytes above') whole x → NoneOfAll whole (x ∷ above') xs → NoneOfAll whole above' (x ∷ xs)
  join whole above' x xs n m = record {
    unknown = both_nil (unknown_in_item (below net bytes above') x) (unknown_from net bytes (x ∷ above') xs) n.unknown m.unknown;
    again = both_nil (named_again (below net bytes above') x) (again_from net bytes (x ∷ above') xs) n.again m.again;
    figures = both_nil (wrong_figures bytes x) (flat_map (wrong_figures bytes) xs) n.figures m.figures;
    ranks = both_nil (ranks_under_in x) (flat_map ranks_under_in xs) n.ranks m.ranks;
    peers = both_nil (peers_named net whole x) (flat_map (peers_named net whole) xs) n.peers m.peers;
    calls = both_nil (many_calls x) (flat_map many_calls xs) n.calls m.calls;
    places = both_nil (long_paths x) (flat_map long_paths xs) n.places m.places;
  }

  pub items_fine : (above' xs : List Written) → NoneOfAll (below net bytes (turned above' xs)) above' xs → AreFine net bytes above' xs
  items_fine above' [] n = tt
  items_fine above' (x ∷ xs) n =
      let whole : Sense = below net bytes (turned above' (x ∷ xs)) in
      (item_fine above' whole (turned_below net bytes above' (x ∷ xs)) x (front whole above' x xs n), items_fine (x ∷ above') xs (rest whole above' x xs n))

  pub items_none : (above' xs : List Written) → AreFine net bytes above' xs → NoneOfAll (below net bytes (turned above' xs)) above' xs
  items_none above' [] fine = record { unknown = refl; again = refl; figures = refl; ranks = refl; peers = refl; calls = refl; places = refl }
  items_none above' (x ∷ xs) fine =
      let whole : Sense = below net bytes (turned above' (x ∷ xs)) in
      join whole above' x xs (item_none above' whole (turned_below net bytes above' (x ∷ xs)) x fine.0) (items_none (x ∷ above') xs fine.1)
