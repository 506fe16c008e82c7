-- A text means one policy only: the value of what the grammar writes as its tokens.
use Rattle.std.proofs.Common.{◌≡◌, ℕ, zero, suc, List, [], ◌∷◌, ◌++◌, map, refl, sym, ap, ap₂, subst, ◌∙◌, append-nil}
use Rattle.net_base.specs.declared.loc.LocSet.{LocSet}
use Rattle.net_base.specs.Network.{PlainNet}
use Rattle.net_base.specs.PrefixText.{length_number, prefix_spelled}
use Rattle.net_base.specs.Prefixes.{PlainPrefix, PlainPattern, only}
use Rattle.net_base.proofs.StepLemmas.{ok_same}
use Rattle.text_parts.proofs.PrefixTexts.{length_number-decimal, prefix_spelled-prefix_text}
use Rattle.policy_base.specs.declared.policy.FromSet.{FromSet}
use Rattle.policy_base.specs.declared.policy.FromSet.TheVariants as from_set
use Rattle.policy_base.specs.declared.policy.Origin.{Origin}
use Rattle.policy_base.specs.Policies.{Ranking, PlainStatement, PlainPolicy}
use Rattle.policy_tokens.specs.declared.token.Token.{Token}
use Rattle.policy_grammar.specs.declared.lexeme.Lexeme.{Lexeme}
use Rattle.policy_grammar.specs.declared.symbol.Symbol.TheVariants as symbol
use Rattle.policy_grammar.specs.Lexemes.{lexeme_of}
use Rattle.policy_grammar.specs.Raw.{Arg, Arg as arg, RawPattern, RawPattern as pattern, Step, Step as step, Item, Item as item}
use Rattle.policy_rules.specs.Checks.{text}
use Rattle.policy_values.specs.Built.{top}
use Rattle.grammar_law.specs.Grammar.{IsName as IsNameToken, IsSet as IsSetOf, IsPattern as IsPatternOf, IsPredicate, IsFrom as IsFromOf, IsRanked as IsRankedOf, IsChoice}
use Rattle.grammar_law.specs.Grammar.{IsJoint, IsUnit, IsAtom, IsItem, IsPolicy}
use Rattle.grammar_law.proofs.Cuts.{cut-tokens}
use Rattle.grammar_law.proofs.TextLaws.{one_policy}
use Rattle.policy_law.specs.Senses.{Sense, set_of_names, location_named}
use Rattle.policy_law.specs.Figures.{prefix_in, prefix_of, length_in, pattern_of}
use Rattle.policy_law.specs.Values.{sources}
use Rattle.text_law.specs.PolicyText.{IsFigure, IsPattern, ArePatterns, IsFrom, IsRanked, with_name, AreItems, MeansPolicy}
use Rattle.text_law.proofs.Expressions.{standing, Have, two_have, not_has}
use Rattle.text_law.proofs.Written.{list_written, names_written, group_written, call_written}

-- ---- expressions

-- the rule of each level
abbrev Rule : ℕ → List Step → List Lexeme → Type 0
Rule zero steps ts = IsRankedOf steps ts
Rule (suc zero) steps ts = IsChoice steps ts
Rule (suc (suc zero)) steps ts = IsJoint steps ts
Rule (suc (suc (suc zero))) steps ts = IsUnit steps ts
Rule (suc (suc (suc (suc n)))) steps ts = IsAtom steps ts

looser : (n : ℕ) (steps : List Step) (ts : List Lexeme) → Rule (suc n) steps ts → Rule n steps ts
looser zero steps ts c = IsRankedOf.choice c
looser (suc zero) steps ts c = IsChoice.joint c
looser (suc (suc zero)) steps ts c = IsJoint.unit c
looser (suc (suc (suc zero))) steps ts c = IsUnit.atom c
looser (suc (suc (suc (suc n)))) steps ts c = c

module _ (net : PlainNet) (sense : Sense) where
  -- the steps that are written as these tokens at a level, with this value
  record Read (level : ℕ) (r : Ranking) (ts : List Lexeme) : Type 0 where
    steps : List Step
    written : Rule level steps ts
    has : Have net sense steps r

  -- two sides with their operator
  joined : (s : Step) {level next : ℕ} {a b c : Ranking} {us vs ts : List Lexeme}
      → ((stack : List Ranking) (rest : List Step) → standing net sense (b ∷ a ∷ stack) (s ∷ rest) ≡ standing net sense (c ∷ stack) rest)
      → (m : Read level a us) (n : Read next b vs) → Rule level (m.steps ++ n.steps ++ s ∷ []) ts → Read level c ts
  joined s {a = a} {b = b} {c = c} made m n written = record { steps = m.steps ++ n.steps ++ s ∷ []; written = written; has = two_have net sense m.steps n.steps s a b c made m.has n.has }

  ranked_read : {level : ℕ} {r : Ranking} {ts : List Lexeme} → IsRanked net sense level r ts → Read level r ts
  ranked_read (IsRanked.above {j = j} p i q) =
      let m = ranked_read p in
      let n = ranked_read q in
      joined (step.Above j.place) (λ stack rest. refl) m n (IsRankedOf.above m.written i n.written)
  ranked_read (IsRanked.or p i q) =
      let m = ranked_read p in
      let n = ranked_read q in
      joined step.Or (λ stack rest. refl) m n (IsChoice.or m.written i n.written)
  ranked_read (IsRanked.and p i q) =
      let m = ranked_read p in
      let n = ranked_read q in
      joined step.And (λ stack rest. refl) m n (IsJoint.and m.written i n.written)
  ranked_read (IsRanked.not {a = a} i p) =
      let m = ranked_read p in
      record { steps = m.steps ++ step.Not ∷ []; written = IsUnit.not i m.written; has = not_has net sense m.steps a m.has }
  ranked_read (IsRanked.bracket o p c) = let m = ranked_read p in record { steps = m.steps; written = IsAtom.bracket o m.written c; has = m.has }
  ranked_read (IsRanked.call c) =
      let h = call_written net sense c in
      record { steps = step.Call h.call ∷ []; written = IsAtom.call h.written; has = λ stack rest. ap (λ (a : Ranking). standing net sense (a ∷ stack) rest) (sym h.value) }
  ranked_read (IsRanked.tighter {n = n} {ts = ts} p) = let m = ranked_read p in record { steps = m.steps; written = looser n m.steps ts m.written; has = m.has }

  -- the value of steps
  abbrev value_of : List Step → Ranking
  value_of steps = top (standing net sense [] steps)

  value_is : (steps : List Step) (r : Ranking) → Have net sense steps r → r ≡ value_of steps
  value_is steps r has = sym (ap (λ (s : List Step). value_of s) (sym (append-nil steps)) ∙ ap top (has [] []))

-- ---- prefixes and sources

abbrev pattern_from : PlainPrefix → ℕ → PlainPattern
pattern_from p n = record { base = p; upto = n }

module _ (bytes : List ℕ) where
  prefix_is : (p : PlainPrefix) (f : Lexeme) → IsFigure bytes p f → p ≡ prefix_of bytes f
  prefix_is p f is = sym (ap prefix_in (ap prefix_spelled is.written ∙ prefix_spelled-prefix_text p is.lawful))

  pattern_read : (t : PlainPattern) (ts : List Lexeme) → IsPattern bytes t ts → (p : RawPattern) × IsPatternOf p ts × (t ≡ pattern_of bytes p)
  pattern_read t ts (IsPattern.one {p = p} {f = f} is) = (pattern.Only f, IsPatternOf.only is.figure, ap only (prefix_is p f is))
  pattern_read t ts (IsPattern.up_to {p = p} {n = n} {f = f} {g = g} is le i long least most) =
      (pattern.UpTo f g, IsPatternOf.up_to is.figure le i, ap₂ pattern_from (prefix_is p f is) (sym (ap length_in (ap length_number long ∙ length_number-decimal n most))))

  patterns_read : {ts : List PlainPattern} {ls : List Lexeme} → ArePatterns bytes ts ls → (ps : List RawPattern) × IsPredicate ps ls × (ts ≡ map (pattern_of bytes) ps)
  patterns_read (ArePatterns.all i) = (pattern.All ∷ [], IsPredicate.all i, refl)
  patterns_read (ArePatterns.some written) =
      let h = list_written symbol.Or IsPatternOf (IsPattern bytes) (pattern_of bytes) pattern_read written in
      (h.0, IsPredicate.patterns h.1, h.2)

  from_read : (net : PlainNet) (sense : Sense) {from : FromSet} {ts : List Lexeme} → IsFrom sense from ts → (a : Arg) × IsFromOf a ts × (from ≡ sources sense a)
  from_read net sense IsFrom.left_out = (arg.Any, IsFromOf.left_out, refl)
  from_read net sense (IsFrom.any f i) = (arg.Any, IsFromOf.from f (IsSetOf.any i), refl)
  from_read net sense (IsFrom.names f inside) =
      let h = names_written net sense inside in
      (arg.Names h.0, IsFromOf.from f (IsSetOf.names h.1), ap from_set.Named h.2)

-- ---- items

abbrev origin_from : PlainPrefix → LocSet → Origin
origin_from p s = record { prefix = p; at = s }

abbrev statement_from : List PlainPattern → Ranking → FromSet → PlainStatement
statement_from ps r from = record { patterns = ps; ranked = r; from = from }

abbrev policy_from : List Origin → List PlainStatement → PlainPolicy
policy_from os ss = record { origins = os; statements = ss }

same_statement : (ps qs : List PlainPattern) (r t : Ranking) (f g : FromSet) → ps ≡ qs → r ≡ t → f ≡ g → statement_from ps r f ≡ statement_from qs t g
same_statement ps qs r t f g a b c = rw (a, b, c) refl

module _ (net : PlainNet) (bytes : List ℕ) where
  -- what items mean, above which names have this sense
  abbrev origins_of : Sense → List Item → List Origin
  origins_of sense [] = []
  origins_of sense (item.Define n names ∷ xs) = origins_of (with_name bytes n (set_of_names sense names) sense) xs
  origins_of sense (item.Originate f names ∷ xs) = origin_from (prefix_of bytes f) (set_of_names sense names) ∷ origins_of sense xs
  origins_of sense (item.State s ∷ xs) = origins_of sense xs

  abbrev statements_of : Sense → List Item → List PlainStatement
  statements_of sense [] = []
  statements_of sense (item.Define n names ∷ xs) = statements_of (with_name bytes n (set_of_names sense names) sense) xs
  statements_of sense (item.Originate f names ∷ xs) = statements_of sense xs
  statements_of sense (item.State s ∷ xs) = statement_from (map (pattern_of bytes) s.patterns) (value_of net sense s.ranked) (sources sense s.from) ∷ statements_of sense xs

  record ReadItems (sense : Sense) (os : List Origin) (ss : List PlainStatement) (ts : List Lexeme) : Type 0 where
    items : List Item
    written : IsPolicy items ts
    origins : os ≡ origins_of sense items
    statements : ss ≡ statements_of sense items

  items_read : {sense : Sense} {os : List Origin} {ss : List PlainStatement} {ts : List Lexeme} → AreItems net bytes sense os ss ts → ReadItems sense os ss ts
  items_read AreItems.none = record { items = []; written = IsPolicy.none; origins = refl; statements = refl }
  items_read (AreItems.define {sense = sense} {n = n} d i fresh e inside c rest) =
      let g = group_written net sense inside in
      let h = items_read rest in
      record {
        items = item.Define n g.0 ∷ h.items;
        written = IsPolicy.more (IsItem.define d (IsNameToken.name i) e g.1 c) h.written;
        origins = h.origins ∙ ap (λ (s : LocSet). origins_of (with_name bytes n s sense) h.items) g.2;
        statements = h.statements ∙ ap (λ (s : LocSet). statements_of (with_name bytes n s sense) h.items) g.2;
      }
  items_read (AreItems.originate {sense = sense} {p = p} {s = s} {f = f} o is t inside c rest) =
      let g = names_written net sense inside in
      let h = items_read rest in
      record {
        items = item.Originate f g.0 ∷ h.items;
        written = IsPolicy.more (IsItem.originate o is.figure t g.1 c) h.written;
        origins = ap₂ (λ (x : Origin) (xs : List Origin). x ∷ xs) (ap₂ origin_from (prefix_is bytes p f is) g.2) h.origins;
        statements = h.statements;
      }
  items_read (AreItems.state {sense = sense} {ps = ps} {r = r} {from = from} patterns i ranked sources' c rest) =
      let p = patterns_read bytes patterns in
      let m = ranked_read net sense ranked in
      let f = from_read bytes net sense sources' in
      let h = items_read rest in
      record {
        items = item.State (record { patterns = p.0; ranked = m.steps; from = f.0 }) ∷ h.items;
        written = IsPolicy.more (IsItem.state p.1 i m.written f.1 c) h.written;
        origins = h.origins;
        statements =
            ap₂ (λ (x : PlainStatement) (xs : List PlainStatement). x ∷ xs)
            (same_statement ps (map (pattern_of bytes) p.0) r (value_of net sense m.steps) from (sources sense f.0) p.2 (value_is net sense m.steps r m.has) f.2) h.statements;
      }

-- a text means one policy at most
pub one_meaning : (net : PlainNet) (bytes : List ℕ) (p q : PlainPolicy) → MeansPolicy net bytes p → MeansPolicy net bytes q → p ≡ q
one_meaning net bytes p q m n =
    let sense : Sense = λ l. location_named net (text bytes l) in
    let tokens : m.tokens ≡ n.tokens = ok_same m.tokens n.tokens (sym (cut-tokens bytes m.tokens m.utf8 m.cut) ∙ cut-tokens bytes n.tokens n.utf8 n.cut) in
    let a = items_read net bytes m.items in
    let b = items_read net bytes (subst (λ (ts : List Token). AreItems net bytes sense q.origins q.statements (map (lexeme_of bytes) ts)) (sym tokens) n.items) in
    let same : a.items ≡ b.items = one_policy (map (lexeme_of bytes) m.tokens) a.items b.items a.written b.written in
    ap₂ policy_from (a.origins ∙ ap (origins_of net bytes sense) same ∙ sym b.origins) (a.statements ∙ ap (statements_of net bytes sense) same ∙ sym b.statements)
