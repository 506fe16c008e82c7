-- What is told behind one item more is what the rules say of all items up to it.
use Rattle.std.proofs.Common.{◌≡◌, ℕ, ◌+◌, List, [], ◌∷◌, ◌++◌, Result, Ok, Err, refl, sym, ap, ap₂, subst, ◌∙◌, append_assoc, arith}
use Rattle.std.specs.Prelude.{⊤}
use Rattle.std.proofs.lemmas.List.Sums.{sum_by_push}
use Rattle.net_base.specs.declared.loc.LocSet.{LocSet}
use Rattle.policy_tokens.specs.declared.kind.Kind.{Kind}
use Rattle.policy_tokens.specs.declared.kind.Kind.TheVariants as kind
use Rattle.net_base.specs.Network.{PlainNet}
use Rattle.net_base.specs.SetOperations.{no_location, size_of}
use Rattle.net_base.specs.Steps.{◌>>=◌}
use Rattle.net_base.proofs.StepLemmas.{bind_ok, ok_same}
use Rattle.policy_tokens.specs.declared.fault.PolicyFault.{PolicyFault}
use Rattle.policy_grammar.specs.declared.lexeme.Lexeme.{Lexeme}
use Rattle.policy_grammar.specs.Raw.{RawStatement, Item}
use Rattle.policy_grammar.specs.Raw.Item.{Define, Originate, State}
use Rattle.policy_rules.specs.KnownNames.{Names, net_names, with_group}
use Rattle.policy_rules.specs.Checks.{text, set_of_names, each, arg_known, step_known, learnt, all_learnt}
use Rattle.policy_rules.specs.Counts.{amount, capped, counted, calls_within, paths_within}
use Rattle.policy_rules.specs.Figures.{prefix_at, figures_fine}
use Rattle.policy_rules.specs.Origins.{has_peer, origins_fine, once_from}
use Rattle.policy_rules.specs.Ranks.{ranks_fine}
use Rattle.policy_base.specs.declared.policy.Origin.{Origin}
use Rattle.policy_parser.specs.declared.values.OriginRead.{OriginRead}
use Rattle.policy_parser.specs.declared.values.StatementRead.{StatementRead}
use Rattle.policy_parser.specs.declared.values.ItemRead.{ItemRead}
use Rattle.policy_parser.specs.declared.values.ItemRead.TheVariants as read
use Rattle.policy_values.specs.Built.{origin_of, origins_of}
use Rattle.policy_parser.specs.ItemValues.{IsOrigin, IsStatement, IsItem}
use Rattle.policy_parser.specs.SoFar.{IsJudged, IsToldOf, IsTold}
use Rattle.policy_parser.specs.Spelled.{pairs}
use Rattle.policy_parser.specs.Told.{PlainTold, first_told, with_unknown, with_members, with_origins, with_state, with_known_item, unless_broken, with_item}
use Rattle.policy_parser.proofs.BuiltParts.{origin_parts}
use Rattle.policy_parser.proofs.KeptNames.{keeps_group}
use Rattle.policy_parser.proofs.KeptItems.{all_routers_kept, all_origins_kept}
use Rattle.policy_parser.proofs.LikeNames.{peer_told, peer_ok, peer_err, names_like, arg_like, steps_like, all_alone_like, joined_like, group_known}
use Rattle.policy_parser.proofs.TakenItems.{counted_push, all_learnt_push, origins_push, once_push, passes, joined_known}
use Rattle.policy_rules.proofs.Verdicts.{last_told, each_push}

-- ---- a rule or a count, and one item more

each_same : {A : Type 0} (f : A → Result ⊤ PolicyFault) (xs : List A) (x : A) (r : Result ⊤ PolicyFault) → r ≡ each f xs → f x ≡ Ok tt → r ≡ each f (xs ++ x ∷ [])
each_same f xs x r is fine = rw (each_push f xs x, fine, last_told (each f xs)) is

each_more : {A : Type 0} (f : A → Result ⊤ PolicyFault) (xs : List A) (x : A) (r s : Result ⊤ PolicyFault) → r ≡ each f xs → s ≡ f x → first_told r s ≡ each f (xs ++ x ∷ [])
each_more f xs x r s is here = rw (each_push f xs x, is, here) refl

counted_same : (k : Kind) (xs : List Item) (x : Item) (n : ℕ) → n ≡ counted k xs → amount k x ≡ 0 → n ≡ counted k (xs ++ x ∷ [])
counted_same k xs x n is none = rw (counted_push k xs x, none) (is ∙ omega arith)

counted_more : (k : Kind) (xs : List Item) (x : Item) (n m : ℕ) → n ≡ counted k xs → m ≡ amount k x → capped (n + m) ≡ counted k (xs ++ x ∷ [])
counted_more k xs x n m is here = rw (counted_push k xs x, is, here) refl

pairs_push : (os : List Origin) (o : Origin) → pairs (os ++ o ∷ []) ≡ capped (pairs os + size_of o.at)
pairs_push os o = rw (sum_by_push (λ (p : Origin). size_of p.at) os o) (omega arith)

-- the locations of an origin are those of its names
origin_at : (bytes : List ℕ) (k : Names) (p : Lexeme) (ns : List Lexeme) (o : Origin) (s : LocSet) → origin_of bytes k p ns ≡ Ok o → set_of_names bytes k ns ≡ Ok s → o.at ≡ s
origin_at bytes k p ns o s e at = ok_same {F = PolicyFault} o.at s (sym (origin_parts bytes k p ns o e).1 ∙ at)

module _ (bytes : List ℕ) (net : PlainNet) (items : List Item) (k : Names) (t : PlainTold) where
  once_later : (x : Item) → IsJudged bytes net k items t → (rest : List Item) → once_from bytes [] (items ++ x ∷ [] ++ rest) ≡ (t.once.fault >>= λ _. once_from bytes t.once.before (x ∷ rest))
  once_later x j rest = ap (once_from bytes []) (append_assoc items (x ∷ []) rest) ∙ j.once (x ∷ rest)

  -- the names behind it are these
  pub learnt_now : t.names ≡ Ok tt → IsToldOf bytes net k items t → all_learnt bytes (net_names net) items ≡ Ok k
  learnt_now known told = told.names ∙ ap (λ (r : Result ⊤ PolicyFault). r >>= λ _. Ok k) known

  -- the names behind one item more
  learnt_next : t.names ≡ Ok tt → IsToldOf bytes net k items t → (x : Item) → all_learnt bytes (net_names net) (items ++ x ∷ []) ≡ learnt bytes k x
  learnt_next known told x = rw (all_learnt_push bytes (net_names net) items x, learnt_now known told) refl

  unknown_now : (e : PolicyFault) → t.names ≡ Err e → IsToldOf bytes net k items t → (x : Item) → IsToldOf bytes net k (items ++ x ∷ []) t
  unknown_now e broken told x = record {
    of = told.of;
    rules = told.rules;
    names = rw (all_learnt_push bytes (net_names net) items x, told.names, broken) refl;
    known = told.known;
    judged = λ ok. absurd cc;
  }

  unknown_next : (e : PolicyFault) → t.names ≡ Ok tt → IsToldOf bytes net k items t → (x : Item) → learnt bytes k x ≡ Err e → IsToldOf bytes net k (items ++ x ∷ []) (with_unknown t e)
  unknown_next e known told x fault = record {
    of = told.of;
    rules = told.rules;
    names = learnt_next known told x ∙ fault;
    known = told.known;
    judged = λ ok. absurd cc;
  }

  -- ---- a group

  group_judged : (name : Lexeme) (members : List Lexeme) (s r : LocSet) → t.names ≡ Ok tt → IsToldOf bytes net k items t
      → IsJudged bytes net (with_group k name.place (text bytes name) s) (items ++ Define name members ∷ []) (with_members bytes t name (Ok r))
  group_judged name members s r known told =
      let j = told.judged known in
      let x = Define name members in
      let next = with_group k name.place (text bytes name) s in
      let keeps = keeps_group k name.place (text bytes name) s in
      let names = learnt_now known told in record {
        figures = each_same (figures_fine bytes) items x t.rules.figures j.figures refl;
        ranks = each_same ranks_fine items x t.rules.ranks j.ranks refl;
        routers = each_same (origins_fine bytes net next) items x t.rules.routers (j.routers ∙ all_routers_kept bytes net k next keeps (net_names net) items names) refl;
        once = once_later x j;
        definitions = counted_more kind.Definitions items x t.amounts.definitions 1 j.definitions refl;
        statements = counted_same kind.Statements items x t.amounts.statements j.statements refl;
        patterns = counted_same kind.Patterns items x t.amounts.patterns j.patterns refl;
        prefixes = counted_same kind.Prefixes items x t.amounts.prefixes j.prefixes refl;
        pairs = λ few os made.
            let a = bind_ok (origins_of bytes next [] items) (λ all. Ok all) os (sym (origins_push bytes next [] items x) ∙ made) in
            let before = all_origins_kept bytes net k next keeps (net_names net) [] items names ∙ a.1 in
            j.pairs (omega (arith, few)) os (before ∙ a.2);
        calls = each_same calls_within items x t.rules.calls j.calls refl;
        places = each_same paths_within items x t.rules.places j.places refl;
      }

  group_told_of : (name : Lexeme) (members : List Lexeme) (s r : LocSet) → set_of_names bytes k members ≡ Ok s
      → set_of_names bytes t.known members ≡ Ok r → has_peer net s ≡ has_peer net r → t.names ≡ Ok tt → IsToldOf bytes net k items t
      → IsToldOf bytes net (with_group k name.place (text bytes name) s) (items ++ Define name members ∷ []) (with_members bytes t name (Ok r))
  group_told_of name members s r made read peer known told = record {
    of = told.of;
    rules = told.rules;
    names = rw (learnt_next known told (Define name members), made, known) refl;
    known = rw told.of (group_known net told.rules k t.known name.place (text bytes name) s r t.amounts.definitions (capped (t.amounts.definitions + 1)) (λ fits. omega (arith, fits)) peer
        (λ same. ok_same {F = PolicyFault} s r (sym made ∙ ap (λ (l : Names). set_of_names bytes l members) same ∙ read)) told.known);
    judged = λ ok. group_judged name members s r known told;
  }

  group_told : (name : Lexeme) (members : List Lexeme) (r : Result LocSet PolicyFault) → r ≡ set_of_names bytes t.known members → t.names ≡ Ok tt
      → IsToldOf bytes net k items t → IsTold bytes net (items ++ Define name members ∷ []) (with_members bytes t name r)
  group_told name members (Ok r) is known told =
      let like = joined_like bytes net k t.known told.known.like told.rules no_location no_location refl members in
      let made = peer_ok net (set_of_names bytes k members) (has_peer net r) (like ∙ ap (peer_told net) (sym is)) in
      (with_group k name.place (text bytes name) made.0, group_told_of name members made.0 r made.1 (sym is) made.2 known told)
  group_told name members (Err e) is known told =
      let like = joined_like bytes net k t.known told.known.like told.rules no_location no_location refl members in
      let fault = peer_err net (set_of_names bytes k members) e (like ∙ ap (peer_told net) (sym is)) in
      (k, unknown_next e known told (Define name members) (rw fault refl))

  -- ---- a prefix with its origins

  origin_pairs : (p : Lexeme) (ns : List Lexeme) (s : LocSet) (os : List Origin) → set_of_names bytes k ns ≡ Ok s
      → ((before : List Origin) → origins_of bytes k [] items ≡ Ok before → t.amounts.pairs ≡ pairs before)
      → origins_of bytes k [] (items ++ Originate p ns ∷ []) ≡ Ok os → capped (t.amounts.pairs + size_of s) ≡ pairs os
  origin_pairs p ns s os at before made =
      let a = bind_ok (origins_of bytes k [] items) (λ all. origins_of bytes k all (Originate p ns ∷ [])) os (sym (origins_push bytes k [] items (Originate p ns)) ∙ made) in
      let b = bind_ok (origin_of bytes k p ns) (λ o. Ok (a.0 ++ o ∷ [])) os a.2 in
      let all : a.0 ++ b.0 ∷ [] ≡ os = ok_same {F = PolicyFault} (a.0 ++ b.0 ∷ []) os b.2 in
      let here : b.0.at ≡ s = origin_at bytes k p ns b.0 s b.1 at in
      let sum : pairs (a.0 ++ b.0 ∷ []) ≡ capped (t.amounts.pairs + size_of s) = pairs_push a.0 b.0 ∙ ap₂ (λ (n : ℕ) (z : LocSet). capped (n + size_of z)) (sym (before a.0 a.1)) here in
      sym sum ∙ ap pairs all

  origin_judged : (p : Lexeme) (ns : List Lexeme) (v : OriginRead) (s : LocSet) → IsOrigin bytes net t.known p ns v → v.at ≡ Ok s → t.names ≡ Ok tt → IsToldOf bytes net k items t
      → IsJudged bytes net k (items ++ Originate p ns ∷ []) (with_origins t v (Ok s))
  origin_judged p ns v s is at known told =
      let j = told.judged known in
      let x = Originate p ns in record {
        figures = each_more (figures_fine bytes) items x t.rules.figures _ j.figures (rw is.prefix refl);
        ranks = each_same ranks_fine items x t.rules.ranks j.ranks refl;
        routers = each_more (origins_fine bytes net k) items x t.rules.routers v.routers j.routers (is.routers ∙ sym (all_alone_like bytes net k t.known told.known.like ns));
        once = λ rest. once_later x j rest ∙ rw (is.place, is.prefix) (once_push bytes t.once p.place (prefix_at bytes p) rest);
        definitions = counted_same kind.Definitions items x t.amounts.definitions j.definitions refl;
        statements = counted_same kind.Statements items x t.amounts.statements j.statements refl;
        patterns = counted_same kind.Patterns items x t.amounts.patterns j.patterns refl;
        prefixes = counted_more kind.Prefixes items x t.amounts.prefixes 1 j.prefixes refl;
        pairs = λ few os made. origin_pairs p ns s os (ap (λ (l : Names). set_of_names bytes l ns) (told.known.same few) ∙ sym is.at ∙ at) (j.pairs few) made;
        calls = each_same calls_within items x t.rules.calls j.calls refl;
        places = each_same paths_within items x t.rules.places j.places refl;
      }

  -- the names behind it
  learnt_origin : (p : Lexeme) (ns : List Lexeme) (r : Result LocSet PolicyFault) → r ≡ set_of_names bytes t.known ns → IsToldOf bytes net k items t
      → learnt bytes k (Originate p ns) ≡ (passes r >>= λ _. Ok k)
  learnt_origin p ns r is told =
      ap (λ (u : Result ⊤ PolicyFault). u >>= λ _. Ok k)
      (names_like bytes net k t.known told.known.like ns ∙ sym (joined_known bytes t.known no_location ns) ∙ ap (λ (z : Result LocSet PolicyFault). passes z) (sym is))

  origin_told : (p : Lexeme) (ns : List Lexeme) (v : OriginRead) (r : Result LocSet PolicyFault) → v.at ≡ r → IsOrigin bytes net t.known p ns v → t.names ≡ Ok tt → IsToldOf bytes net k items t
      → IsToldOf bytes net k (items ++ Originate p ns ∷ []) (with_origins t v r)
  origin_told p ns v (Ok s) at is known told = record {
    of = told.of;
    rules = told.rules;
    names = learnt_next known told (Originate p ns) ∙ learnt_origin p ns (Ok s) (sym at ∙ is.at) told ∙ rw known refl;
    known = told.known;
    judged = λ ok. origin_judged p ns v s is at known told;
  }
  origin_told p ns v (Err e) at is known told = unknown_next e known told (Originate p ns) (learnt_origin p ns (Err e) (sym at ∙ is.at) told)

  -- ---- a statement

  state_judged : (s : RawStatement) (v : StatementRead) → IsStatement bytes net t.known s v → t.names ≡ Ok tt → IsToldOf bytes net k items t
      → IsJudged bytes net k (items ++ State s ∷ []) (with_state t v)
  state_judged s v is known told =
      let j = told.judged known in
      let x = State s in record {
        figures = each_more (figures_fine bytes) items x t.rules.figures v.figures j.figures is.figures;
        ranks = each_more ranks_fine items x t.rules.ranks v.ranks j.ranks is.ranks;
        routers = each_same (origins_fine bytes net k) items x t.rules.routers j.routers refl;
        once = once_later x j;
        definitions = counted_same kind.Definitions items x t.amounts.definitions j.definitions refl;
        statements = counted_more kind.Statements items x t.amounts.statements 1 j.statements refl;
        patterns = counted_more kind.Patterns items x t.amounts.patterns v.patterns j.patterns is.patterns;
        prefixes = counted_same kind.Prefixes items x t.amounts.prefixes j.prefixes refl;
        pairs = λ few os made.
            let a = bind_ok (origins_of bytes k [] items) (λ all. Ok all) os (sym (origins_push bytes k [] items x) ∙ made) in
            j.pairs few os (a.1 ∙ a.2);
        calls = each_more calls_within items x t.rules.calls v.calls j.calls is.calls;
        places = each_more paths_within items x t.rules.places v.places j.places is.places;
      }

  both_known : (r q : Result ⊤ PolicyFault) → (r >>= λ _. (q >>= λ _. Ok k)) ≡ ((r >>= λ _. q) >>= λ _. Ok k)
  both_known (Ok u) q = refl
  both_known (Err e) q = refl

  learnt_state : (s : RawStatement) → IsToldOf bytes net k items t → learnt bytes k (State s) ≡ ((each (step_known bytes t.known) s.ranked >>= λ _. arg_known bytes t.known s.from) >>= λ _. Ok k)
  learnt_state s told =
      rw (steps_like bytes net k t.known told.known.like s.ranked, arg_like bytes net k t.known told.known.like s.from)
      (both_known (each (step_known bytes t.known) s.ranked) (arg_known bytes t.known s.from))

  state_told : (s : RawStatement) (v : StatementRead) → IsStatement bytes net t.known s v → t.names ≡ Ok tt → IsToldOf bytes net k items t
      → IsToldOf bytes net k (items ++ State s ∷ []) (with_state t v)
  state_told s v is known told = record {
    of = told.of;
    rules = told.rules;
    names = learnt_next known told (State s) ∙ rw is.names (learnt_state s told);
    known = told.known;
    judged = λ ok. state_judged s v is known told;
  }

  -- ---- an item

  pub known_told : (x : Item) (v : ItemRead) → IsItem bytes net t.known x v → t.names ≡ Ok tt → IsToldOf bytes net k items t → IsTold bytes net (items ++ x ∷ []) (with_known_item bytes t v)
  known_told (Define name members) (read.Group v) is known told = rw is.name (group_told name members v.set is.set known told)
  known_told (Originate p ns) (read.Origin v) is known told = (k, origin_told p ns v v.at refl is known told)
  known_told (State s) (read.State v) is known told = (k, state_told s v is known told)
  known_told (Define name members) (read.Origin v) is known told = absurd is
  known_told (Define name members) (read.State v) is known told = absurd is
  known_told (Originate p ns) (read.Group v) is known told = absurd is
  known_told (Originate p ns) (read.State v) is known told = absurd is
  known_told (State s) (read.Group v) is known told = absurd is
  known_told (State s) (read.Origin v) is known told = absurd is

module _ (bytes : List ℕ) (net : PlainNet) (items : List Item) (t : PlainTold) where
  abbrev At : Item → ItemRead → Result ⊤ PolicyFault → Type 0
  At x v r = IsTold bytes net (items ++ x ∷ []) (unless_broken r t (with_known_item bytes t v))

  pub item_told : (x : Item) (v : ItemRead) → IsItem bytes net t.known x v → IsTold bytes net items t → IsTold bytes net (items ++ x ∷ []) (with_item bytes t v)
  item_told x v is (k, told) = by t.names refl
    where
      by : (r : Result ⊤ PolicyFault) → t.names ≡ r → IsTold bytes net (items ++ x ∷ []) (with_item bytes t v)
      by (Ok u) e = subst (At x v) (sym e) (known_told bytes net items k t x v is e told)
      by (Err f) e = subst (At x v) (sym e) (k, unknown_now bytes net items k t f e told x)
