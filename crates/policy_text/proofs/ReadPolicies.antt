-- The items of a printed text.
use Rattle.std.proofs.Common.{◌≡◌, ℕ, zero, suc, ◌+◌, ◌<◌, ◌≤◌, List, [], ◌∷◌, ◌++◌, length, Bool, true, false, None, Ok, refl, sym, ap, ◌∙◌, subst, arith, append_assoc, append-nil, length-append}
use Rattle.std.specs.Prelude.{◌==◌, if◌then◌else◌}
use Rattle.std.specs.List.{flat_map, AllByRecursion}
use Rattle.std.specs.Fmt.{decimal}
use Rattle.text_parts.specs.Texts.{prefix_text}
use Rattle.net_base.specs.Network.{PlainNet}
use Rattle.net_base.specs.Prefixes.{PlainPattern}
use Rattle.policy_grammar.specs.declared.lexeme.Lexeme.{Lexeme}
use Rattle.policy_grammar.specs.declared.symbol.Symbol.TheVariants as symbol
use Rattle.policy_grammar.specs.Raw.{Item}
use Rattle.policy_grammar.specs.Reading.{past}
use Rattle.policy_grammar.specs.Items.{item_at, items_from, items_of}
use Rattle.policy_base.specs.declared.policy.Origin.{Origin}
use Rattle.policy_base.specs.Policies.{PlainStatement, PlainPolicy}
use Rattle.policy_text.specs.PolicyText.{is_everything}
use Rattle.policy_text.proofs.Words.{Word, sign, figure, AreWords, pattern_words, patterns_words, from_words, statement_words, origin_words, ranking_words, next_pattern, policy_words}
use Rattle.policy_text.proofs.Readings.{IsPast, Pairs, Reads, length-words, past-not, either-here, either-not}
use Rattle.policy_text.proofs.ReadItems.{IsOriginItem, IsStatementItem, IsNamed, IsReadableStatement, Reads-statement, Reads-originate}

item_more : (n : ℕ) (items : List Item) (ls rest : List Lexeme) (item : Item) → past symbol.EndOfText ls ≡ None → item_at ls ≡ Ok (item, rest)
    → items_from (suc n) items ls ≡ items_from n (items ++ item ∷ []) rest
unfolding items_from
item_more n items ls rest item more is = rw (more, is) refl

items_end : (bytes : List ℕ) (n : ℕ) (items : List Item) (ls : List Lexeme) → AreWords bytes ls (sign symbol.EndOfText ∷ []) → length ls ≤ n → items_from n items ls ≡ Ok items
unfolding items_from
items_end bytes n items [] are room = absurd are
items_end bytes zero items (l ∷ ls) are room = absurd (omega (arith, room))
items_end bytes (suc n) items (l ∷ ls) are room = either-here bytes symbol.EndOfText l ls (sign symbol.EndOfText) _ _ are.0 refl

-- a statement begins with no word of another item
abbrev IsStatementStart : List Word → Type 0
IsStatementStart v = IsPast symbol.Define v × IsPast symbol.Originate v × IsPast symbol.EndOfText v

pattern_start : (p : PlainPattern) (b : Bool) (ws : List Word)
    → IsStatementStart ((if b then figure (prefix_text p.base) ∷ [] else figure (prefix_text p.base) ∷ sign symbol.Le ∷ figure (decimal p.upto) ∷ []) ++ ws)
pattern_start p true ws = (refl, refl, refl)
pattern_start p false ws = (refl, refl, refl)

one_start : (p : PlainPattern) (b : Bool) (ws : List Word) → IsStatementStart ((if b then sign symbol.True ∷ [] else pattern_words p) ++ ws)
one_start p true ws = (refl, refl, refl)
one_start p false ws = pattern_start p (p.upto == p.base.len) ws

patterns_start : (ps : List PlainPattern) → (ps ≡ [] → ⊥) → (ws : List Word) → IsStatementStart (patterns_words ps ++ ws)
patterns_start [] some ws = absurd (some refl)
patterns_start (p ∷ []) some ws = one_start p (is_everything p) ws
patterns_start (p ∷ q ∷ ps) some ws = subst IsStatementStart (sym (append_assoc (pattern_words p) (flat_map next_pattern (q ∷ ps)) ws)) (pattern_start p (p.upto == p.base.len) _)

module _ (bytes : List ℕ) (net : PlainNet) where
  statement_start : (s : PlainStatement) → (s.patterns ≡ [] → ⊥) → (ws : List Word) → IsStatementStart (statement_words net s ++ ws)
  statement_start s some ws =
      let p : List Word = patterns_words s.patterns in
      let r : List Word = ranking_words net 1 s.ranked in
      let f : List Word = from_words net s.from in
      let order : p ++ sign symbol.Arrow ∷ [] ++ r ++ f ++ sign symbol.Semicolon ∷ [] ++ ws ≡ p ++ (sign symbol.Arrow ∷ (r ++ (f ++ (sign symbol.Semicolon ∷ ws)))) = simp append_assoc refl in
      subst IsStatementStart (sym order) (patterns_start s.patterns some _)

  statement_item : (s : PlainStatement) → IsReadableStatement bytes net s → (ls : List Lexeme) (ws : List Word)
      → AreWords bytes ls (statement_words net s ++ ws) → Reads bytes (item_at ls) (λ item. IsStatementItem bytes net item s) ws
  unfolding item_at
  statement_item s fine ls ws are =
      let start = statement_start s fine.patterns ws in
      let x = Reads-statement bytes net s fine ls ws are in
      record {
        out = x.out;
        rest = x.rest;
        is = either-not bytes symbol.Define ls (statement_words net s ++ ws) _ _ are start.0
            ∙ either-not bytes symbol.Originate ls (statement_words net s ++ ws) _ _ are start.1 ∙ x.is;
        right = x.right;
        left = x.left;
      }

  origin_item : (o : Origin) → IsNamed net o.at → (ls : List Lexeme) (ws : List Word) → AreWords bytes ls (origin_words net o ++ ws)
      → Reads bytes (item_at ls) (λ item. IsOriginItem bytes net item o) ws
  unfolding item_at
  origin_item o has [] ws are = absurd are
  origin_item o has (l ∷ ls) ws are =
      let x = Reads-originate bytes net o has ls ws are.1 in
      record {
        out = x.out;
        rest = x.rest;
        is = either-not bytes symbol.Define (l ∷ ls) (origin_words net o ++ ws) _ _ are refl
            ∙ either-here bytes symbol.Originate l ls (sign symbol.Originate) _ _ are.0 refl ∙ x.is;
        right = x.right;
        left = x.left;
      }

  -- items that were read, and what is left
  record AreFound {X : Type 0} (R : Item → X → Type 0) (xs : List X) (n : ℕ) (items : List Item) (ls : List Lexeme) (ws : List Word) : Type 0 where
    count : ℕ
    rest : List Lexeme
    found : List Item
    is : items_from n items ls ≡ items_from count (items ++ found) rest
    room : length rest ≤ count
    right : Pairs R found xs
    left : AreWords bytes rest ws

  module _ {X : Type 0} (words : X → List Word) (R : Item → X → Type 0) (Fine : X → Type 0) (some : (x : X) → 0 < length (words x))
      (more : (x : X) → Fine x → (ws : List Word) → IsPast symbol.EndOfText (words x ++ ws))
      (one : (x : X) → Fine x → (ls : List Lexeme) (ws : List Word) → AreWords bytes ls (words x ++ ws) → Reads bytes (item_at ls) (λ item. R item x) ws) where
    finds : (xs : List X) → AllByRecursion Fine xs → (n : ℕ) (items : List Item) (ls : List Lexeme) (ws : List Word)
        → AreWords bytes ls (flat_map words xs ++ ws) → length ls ≤ n → AreFound R xs n items ls ws
    finds [] all n items ls ws are room = record { count = n; rest = ls; found = []; is = ap (λ (i : List Item). items_from n i ls) (sym (append-nil items)); room = room; right = tt; left = are }
    finds (x ∷ xs) all zero items ls ws are room =
        absurd (omega (arith, room, some x, length-words bytes ls (flat_map words (x ∷ xs) ++ ws) are, length-append (flat_map words (x ∷ xs)) ws, length-append (words x) (flat_map words xs)))
    finds (x ∷ xs) all (suc n) items ls ws are room =
        let behind : List Word = flat_map words xs ++ ws in
        let here : AreWords bytes ls (words x ++ behind) = subst (λ (v : List Word). AreWords bytes ls v) (append_assoc (words x) (flat_map words xs) ws) are in
        let y = one x all.0 ls behind here in
        let long : length ls ≡ length (words x) + length behind = length-words bytes ls (words x ++ behind) here ∙ length-append (words x) behind in
        let short : length y.rest ≡ length behind = length-words bytes y.rest behind y.left in
        let z = finds xs all.1 n (items ++ y.out ∷ []) y.rest ws y.left (omega (arith, room, long, short, some x)) in
        record {
          count = z.count;
          rest = z.rest;
          found = y.out ∷ z.found;
          is =
              item_more n items ls y.rest y.out (past-not bytes symbol.EndOfText ls (words x ++ behind) here (more x all.0 behind)) y.is ∙ z.is
              ∙ ap (λ (i : List Item). items_from z.count i z.rest) (append_assoc items (y.out ∷ []) z.found);
          room = z.room;
          right = (y.right, z.right);
          left = z.left;
        }

  -- the items of a policy: its origins, then its statements
  abbrev pub AreItems : List Item → PlainPolicy → Type 0
  AreItems items policy =
      (first : List Item) × (second : List Item) × (items ≡ first ++ second) × Pairs (IsOriginItem bytes net) first policy.origins
      × Pairs (IsStatementItem bytes net) second policy.statements

  -- the items of a policy are read from its words
  pub Reads-items : (policy : PlainPolicy) → AllByRecursion (λ (o : Origin). IsNamed net o.at) policy.origins → AllByRecursion (IsReadableStatement bytes net) policy.statements
      → (ls : List Lexeme) → AreWords bytes ls (policy_words net policy ++ sign symbol.EndOfText ∷ []) → (items : List Item) × (items_of ls ≡ Ok items) × AreItems items policy
  Reads-items policy named fine ls are =
      let end : List Word = sign symbol.EndOfText ∷ [] in
      let os : List Word = flat_map (origin_words net) policy.origins in
      let ss : List Word = flat_map (statement_words net) policy.statements in
      let x = finds (origin_words net) (IsOriginItem bytes net) (λ (o : Origin). IsNamed net o.at) (λ o. omega arith) (λ o h ws. refl) origin_item policy.origins named (length ls) [] ls (ss ++ end)
      (subst (λ (v : List Word). AreWords bytes ls v) (append_assoc os ss end) are) (omega arith) in
      let y =
      finds (statement_words net) (IsStatementItem bytes net) (IsReadableStatement bytes net)
      (λ s. omega (arith, length-append (patterns_words s.patterns ++ sign symbol.Arrow ∷ [] ++ ranking_words net 1 s.ranked ++ from_words net s.from) (sign symbol.Semicolon ∷ [])))
      (λ s h ws. (statement_start s h.patterns ws).2) statement_item policy.statements fine x.count x.found x.rest end x.left x.room in
      (x.found ++ y.found, x.is ∙ y.is ∙ items_end bytes y.count (x.found ++ y.found) y.rest y.left y.room, (x.found, y.found, refl, x.right, y.right))
