-- Items, with their values.
use Rattle.std.proofs.Common.{◌≡◌, ℕ, List, [], ◌∷◌, ◌++◌, map, reverse, Option, Some, is_some, Result, Ok, refl, sym, ap, subst, ◌∙◌, append_assoc}
use Rattle.std.specs.List.{AllByRecursion, flat_map}
use Rattle.std.proofs.lemmas.List.{reverse-append}
use Rattle.list_law.proofs.Each.{AllByRecursion-weaker}
use Rattle.list_law.proofs.Options.{is_some_parts}
use Rattle.net_base.specs.declared.loc.LocSet.{LocSet}
use Rattle.net_base.specs.declared.prefix_text.PrefixFault.{PrefixFault}
use Rattle.net_base.specs.Network.{PlainNet}
use Rattle.net_base.specs.PrefixText.{prefix_spelled}
use Rattle.net_base.proofs.PrefixLemmas.{prefix_spelled-IsPrefix}
use Rattle.net_base.specs.Prefixes.{PlainPrefix}
use Rattle.policy_grammar.specs.declared.lexeme.Lexeme.{Lexeme}
use Rattle.policy_grammar.specs.declared.symbol.Symbol.TheVariants as symbol
use Rattle.policy_grammar.specs.Raw.{Arg, RawPattern, Item as item}
use Rattle.grammar_law.specs.Grammar.{Is, IsSet as IsSetOf, IsName as IsNameToken, IsPattern as IsPatternOf, IsPredicate, IsFrom as IsFromOf, IsItem, IsPolicy}
use Rattle.policy_law.specs.Trees.{Expression, Written, define, originate, state, item_of}
use Rattle.policy_law.specs.Senses.{Sense, or_else, located, below}
use Rattle.policy_law.specs.Figures.{prefix_in, prefix_of, length_in, length_of, pattern_of}
use Rattle.policy_law.specs.Values.{sources, statement, origins}
use Rattle.policy_law.specs.Texts.{IsKnown, AreKnown, AreRouters, IsPrefixText, IsPatternText, IsFineBelow, AreFine}
use Rattle.policy_rules.specs.Checks.{text}
use Rattle.config_lines.proofs.Addresses.{length_back, prefix_back}
use Rattle.text_law.specs.PolicyText.{IsFigure, IsPattern, ArePatterns, IsFrom, AreItems}
use Rattle.text_law.proofs.Parts.{GoesOn, list_valued, names_valued, group_valued}
use Rattle.text_law.proofs.Expressions.{expression_valued}

-- ---- a name goes on to stand for what it does

or_first : (o q : Option LocSet) (s : LocSet) → o ≡ Some s → or_else o q ≡ Some s
or_first o q s h = rw h refl

module _ (net : PlainNet) (bytes : List ℕ) where
  below_more : (front above' : List Written) (l : Lexeme) (s : LocSet) → below net bytes above' l ≡ Some s → below net bytes (front ++ above') l ≡ Some s
  below_more [] above' l s h = h
  below_more (define group members ∷ front) above' l s h = or_first (below net bytes (front ++ above') l) _ s (below_more front above' l s h)
  below_more (originate prefix names ∷ front) above' l s h = below_more front above' l s h
  below_more (state patterns e from ∷ front) above' l s h = below_more front above' l s h

  goes_on : (front above' : List Written) → GoesOn (below net bytes above') (below net bytes (front ++ above'))
  goes_on front above' l known =
      let s = is_some_parts (below net bytes above' l) known in
      s.1 ∙ ap (λ (o : Option LocSet). Some (located o)) (sym (below_more front above' l s.0 s.1))

  stays : (sense : Sense) → GoesOn sense sense
  stays sense l known = let s = is_some_parts (sense l) known in s.1 ∙ ap (λ (o : Option LocSet). Some (located o)) (sym s.1)

  -- ---- figures

  prefix_valued : (f : Lexeme) → Is symbol.Figure f → IsPrefixText bytes f → IsFigure bytes (prefix_of bytes f) f
  prefix_valued f i fine =
      let spelled : prefix_spelled (text bytes f) ≡ Ok (prefix_of bytes f) = fine.1 ∙ ap (λ (r : Result PlainPrefix PrefixFault). Ok (prefix_in r)) (sym fine.1) in
      record { figure = i; written = prefix_back (text bytes f) (prefix_of bytes f) spelled; lawful = prefix_spelled-IsPrefix (text bytes f) (prefix_of bytes f) spelled }

  pattern_valued : (p : RawPattern) (ts : List Lexeme) → IsPatternOf p ts → IsPatternText bytes p → IsPattern bytes (pattern_of bytes p) ts
  pattern_valued p ts (IsPatternOf.only {f = f} i) fine = IsPattern.one (prefix_valued f i fine)
  pattern_valued p ts (IsPatternOf.up_to {f = f} {l = l} {g = g} i le j) fine =
      let same : fine.1 ≡ length_of bytes g = sym (ap length_in fine.2) in
      subst (λ (n : ℕ). IsPattern bytes (record { base = prefix_of bytes f; upto = n }) (f ∷ l ∷ g ∷ [])) same
      (IsPattern.up_to (prefix_valued f i fine.0) le j (length_back (text bytes g) fine.1 fine.2) fine.3 fine.4)

  predicate_valued : {ps : List RawPattern} {ts : List Lexeme} → IsPredicate ps ts → AllByRecursion (IsPatternText bytes) ps → ArePatterns bytes (map (pattern_of bytes) ps) ts
  predicate_valued (IsPredicate.all i) fine = ArePatterns.all i
  predicate_valued (IsPredicate.patterns written) fine =
      ArePatterns.some (list_valued symbol.Or IsPatternOf (IsPattern bytes) (IsPatternText bytes) (pattern_of bytes) pattern_valued written fine)

  -- ---- items

  module _ (sense whole : Sense) (same : GoesOn sense whole) where
    from_valued : (a : Arg) {ts : List Lexeme} → IsFromOf a ts → AreKnown sense a → IsFrom sense (sources whole a) ts
    from_valued a IsFromOf.left_out known = IsFrom.left_out
    from_valued a (IsFromOf.from f (IsSetOf.any i)) known = IsFrom.any f i
    from_valued a (IsFromOf.from f (IsSetOf.names written)) known = IsFrom.names f (names_valued sense whole same written known)

    names_known : (names : List Lexeme) → AllByRecursion (AreRouters net sense) names → AllByRecursion (IsKnown sense) names
    names_known names fine = AllByRecursion-weaker (AreRouters net sense) (IsKnown sense) names (λ n routers. ap is_some routers.1) fine

  -- items below others, whose values are those in the sense of all items
  abbrev pub Valued : List Written → Sense → List Written → List Lexeme → Type 0
  Valued above' whole xs ts = AreItems net bytes (below net bytes above') (origins bytes whole xs) (flat_map (statement net bytes whole) xs) ts

  module _ (above' : List Written) (whole : Sense) (same : GoesOn (below net bytes above') whole) where
    define_valued : (n : Lexeme) (ms : List Lexeme) (xs : List Written) {ts us : List Lexeme} → IsItem (item.Define n ms) ts → IsFineBelow net bytes above' (define n ms)
        → Valued (define n ms ∷ above') whole xs us → Valued above' whole (define n ms ∷ xs) (ts ++ us)
    define_valued n ms xs (IsItem.define d (IsNameToken.name i) e inside c) fine rest =
        AreItems.define d i fine.0 e (group_valued (below net bytes above') (below net bytes above') (stays (below net bytes above')) inside fine.1) c rest

    originate_valued : (f : Lexeme) (names : List Lexeme) (xs : List Written) {ts us : List Lexeme} → IsItem (item.Originate f names) ts → IsFineBelow net bytes above' (originate f names)
        → Valued (originate f names ∷ above') whole xs us → Valued above' whole (originate f names ∷ xs) (ts ++ us)
    originate_valued f names xs (IsItem.originate o i t written c) fine rest =
        AreItems.originate o (prefix_valued f i fine.0) t (names_valued (below net bytes above') whole same written (names_known (below net bytes above') whole same names fine.1)) c rest

    state_valued : (ps : List RawPattern) (x : Expression) (a : Arg) (xs : List Written) {ts us : List Lexeme} → IsItem (item_of (state ps x a)) ts → IsFineBelow net bytes above' (state ps x a)
        → Valued (state ps x a ∷ above') whole xs us → Valued above' whole (state ps x a ∷ xs) (ts ++ us)
    state_valued ps x a xs (IsItem.state p i r f c) fine rest =
        AreItems.state (predicate_valued p fine.0) i (expression_valued net (below net bytes above') whole same x r fine.1) (from_valued (below net bytes above') whole same a f fine.2) c rest

    item_valued : (x : Written) (xs : List Written) {ts us : List Lexeme} → IsItem (item_of x) ts → IsFineBelow net bytes above' x → Valued (x ∷ above') whole xs us
        → Valued above' whole (x ∷ xs) (ts ++ us)
    item_valued (define n ms) xs i fine rest = define_valued n ms xs i fine rest
    item_valued (originate f names) xs i fine rest = originate_valued f names xs i fine rest
    item_valued (state ps x a) xs i fine rest = state_valued ps x a xs i fine rest

  -- the items above that come of some more
  turn : (x : Written) (xs above' : List Written) → reverse (x ∷ xs) ++ above' ≡ reverse xs ++ (x ∷ above')
  turn x xs above' = ap (λ (zs : List Written). zs ++ above') (reverse-append (x ∷ []) xs) ∙ append_assoc (reverse xs) (x ∷ []) above'

  pub items_valued : (above' xs : List Written) (whole : List Written) → reverse xs ++ above' ≡ whole → {ts : List Lexeme} → IsPolicy (map item_of xs) ts → AreFine net bytes above' xs
      → Valued above' (below net bytes whole) xs ts
  items_valued above' [] whole is IsPolicy.none fine = AreItems.none
  items_valued above' (x ∷ xs) whole is (IsPolicy.more {us = us} i p) fine =
      let same : GoesOn (below net bytes above') (below net bytes whole) = subst (λ (zs : List Written). GoesOn (below net bytes above') (below net bytes zs)) is (goes_on (reverse (x ∷ xs)) above') in
      item_valued above' (below net bytes whole) same x xs i fine.0 (items_valued (x ∷ above') xs whole (sym (turn x xs above') ∙ is) p fine.1)
