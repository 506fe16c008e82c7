-- Ranked expressions are read from their words, level by level.
use Rattle.std.proofs.Common.{◌≡◌, ℕ, zero, suc, ◌+◌, ◌≤◌, max, List, [], ◌∷◌, ◌++◌, false, refl, ap, ◌∙◌, subst, arith, append_assoc}
use Rattle.std.specs.Prelude.{◌==◌}
use Rattle.std.specs.List.{AllByRecursion}
use Rattle.net_base.specs.Network.{PlainNet}
use Rattle.policy_grammar.specs.declared.lexeme.Lexeme.{Lexeme}
use Rattle.policy_grammar.specs.declared.symbol.Symbol.TheVariants as symbol
use Rattle.policy_grammar.specs.Raw.{Step, Step as step}
use Rattle.policy_grammar.specs.Symbols.{number_of}
use Rattle.policy_grammar.specs.Ranked.{Reader, ranked_with, inner_at, atom_with, unit_with}
use Rattle.policy_base.specs.declared.call.Call.{Call}
use Rattle.policy_base.specs.CallWords.{word_of}
use Rattle.policy_grammar.proofs.Symbols.{call_apart}
use Rattle.policy_base.specs.Policies.{Ranking, call, calls, prefer, either as choice, both, negated}
use Rattle.policy_text.specs.Printable.{open_brackets}
use Rattle.policy_text.proofs.Words.{Word, sign, AreWords, call_symbol, call_words, calls_words, ranking_words}
use Rattle.policy_text.proofs.Readings.{IsPast, either-here, either-not, passes}
use Rattle.policy_text.proofs.ReadCalls.{IsReadable, HasOne, Reads-call, Reads-calls}
use Rattle.policy_text.proofs.ReadRankings.{ReadsSteps, ReadsFrom, joins, Opens, open_side, closed, open_more}

abbrev pub Anywhere : List Word → Type 0
Anywhere ws = Unit {0}

-- what may follow an expression that has no brackets at a level: no operator that binds as strongly
abbrev pub BehindJoint : List Word → Type 0
BehindJoint ws = Anywhere ws × IsPast symbol.And ws

abbrev pub BehindChoice : List Word → Type 0
BehindChoice ws = BehindJoint ws × IsPast symbol.Or ws

abbrev pub BehindRanked : List Word → Type 0
BehindRanked ws = BehindChoice ws × IsPast symbol.Above ws

abbrev atoms : ℕ → Reader
atoms d = atom_with (inner_at d)

abbrev units : ℕ → Reader
units d = unit_with (inner_at d)

abbrev joints : ℕ → Reader
joints d = joins symbol.And (λ l. step.And) (units d)

abbrev choices : ℕ → Reader
choices d = joins symbol.Or (λ l. step.Or) (joints d)

abbrev pub rankeds : ℕ → Reader
rankeds d = joins symbol.Above (λ l. step.Above l.place) (choices d)

-- no call begins with `(` or `not`
not_open : (c : Call) → (number_of (call_symbol c) == number_of symbol.RoundOpen) ≡ false
not_open c = call_apart (word_of c) 16 (omega arith)

not_not : (c : Call) → (number_of (call_symbol c) == number_of symbol.Not) ≡ false
not_not c = call_apart (word_of c) 8 (omega arith)

module _ (bytes : List ℕ) (net : PlainNet) where
  abbrev JointOpens : ℕ → List Word → Ranking → Type 0
  JointOpens most v r = Opens bytes net symbol.And (λ l. step.And) units Anywhere most v r

  abbrev ChoiceOpens : ℕ → List Word → Ranking → Type 0
  ChoiceOpens most v r = Opens bytes net symbol.Or (λ l. step.Or) joints BehindJoint most v r

  abbrev RankedOpens : ℕ → List Word → Ranking → Type 0
  RankedOpens most v r = Opens bytes net symbol.Above (λ l. step.Above l.place) choices BehindChoice most v r

  choice_from : (most : ℕ) (v : List Word) (r : Ranking) → JointOpens most v r → ChoiceOpens most v r
  choice_from most v r f = open_side bytes net symbol.Or (λ l. step.Or) joints BehindJoint most v r (closed bytes net symbol.And (λ l. step.And) units Anywhere most v r f)

  ranked_from : (most : ℕ) (v : List Word) (r : Ranking) → ChoiceOpens most v r → RankedOpens most v r
  ranked_from most v r f = open_side bytes net symbol.Above (λ l. step.Above l.place) choices BehindChoice most v r (closed bytes net symbol.Or (λ l. step.Or) joints BehindJoint most v r f)

  joint_from : (most : ℕ) (v : List Word) (r : Ranking) → ReadsFrom bytes net units Anywhere most v r → JointOpens most v r
  joint_from most v r f = open_side bytes net symbol.And (λ l. step.And) units Anywhere most v r f

  ranked_closed : (most : ℕ) (v : List Word) (r : Ranking) → RankedOpens most v r → ReadsFrom bytes net rankeds BehindRanked most v r
  ranked_closed most v r f = closed bytes net symbol.Above (λ l. step.Above l.place) choices BehindChoice most v r f

  -- an expression in brackets
  bracketed : (most : ℕ) (v : List Word) (r : Ranking) → RankedOpens most v r → ReadsFrom bytes net atoms Anywhere (1 + most) (sign symbol.RoundOpen ∷ (v ++ sign symbol.RoundClose ∷ [])) r
  unfolding inner_at
  bracketed most v r f d out [] ws room are fits = absurd are
  bracketed most v r f zero out (l ∷ ls) ws room are fits = absurd (omega (arith, room))
  bracketed most v r f (suc d) out (l ∷ ls) ws room are fits =
      let inside : AreWords bytes ls (v ++ (sign symbol.RoundClose ∷ ws)) = subst (λ (u : List Word). AreWords bytes ls u) (append_assoc v (sign symbol.RoundClose ∷ []) ws) are.1 in
      let x = ranked_closed most v r f d out ls (sign symbol.RoundClose ∷ ws) (omega (arith, room)) inside (((tt, refl), refl), refl) in
      let rest = passes bytes symbol.RoundClose x.rest (sign symbol.RoundClose) ws x.left refl in
      record { out = x.out; rest = rest.rest; is = either-here bytes symbol.RoundOpen l ls (sign symbol.RoundOpen) _ _ are.0 refl ∙ rw (x.is, rest.is) refl; right = x.right; left = rest.left }

  -- what begins with no `not` is a unit as it stands
  unit_from : (most : ℕ) (v : List Word) (r : Ranking) → ((ws : List Word) → IsPast symbol.Not (v ++ ws)) → ReadsFrom bytes net atoms Anywhere most v r → ReadsFrom bytes net units Anywhere most v r
  unit_from most v r other f d out ls ws room are fits =
      let x = f d out ls ws room are fits in
      record { out = x.out; rest = x.rest; is = either-not bytes symbol.Not ls (v ++ ws) _ _ are (other ws) ∙ x.is; right = x.right; left = x.left }

  unit_not : (most : ℕ) (v : List Word) (a : Ranking) → ReadsFrom bytes net atoms Anywhere most v a → ReadsFrom bytes net units Anywhere most (sign symbol.Not ∷ v) (negated a)
  unit_not most v a f d out [] ws room are fits = absurd are
  unit_not most v a f d out (l ∷ ls) ws room are fits =
      let x = f d out ls ws room are.1 fits in
      record {
        out = x.out ++ step.Not ∷ [];
        rest = x.rest;
        is = either-here bytes symbol.Not l ls (sign symbol.Not) _ _ are.0 refl ∙ rw x.is refl;
        right = (x.right.0 ++ step.Not ∷ [], ap (λ (s : List Step). s ++ step.Not ∷ []) x.right.1 ∙ append_assoc out x.right.0 (step.Not ∷ []), (x.right.0, refl, x.right.2));
        left = x.left;
      }

  call_atom : (c : Call) → IsReadable bytes net c → (most : ℕ) → ReadsFrom bytes net atoms Anywhere most (call_words net c) (call c)
  call_atom c fine most d out ls ws room are fits =
      let x = Reads-call bytes net c fine ls ws are in
      record {
        out = out ++ step.Call x.out ∷ [];
        rest = x.rest;
        is = either-not bytes symbol.RoundOpen ls (call_words net c ++ ws) _ _ are (not_open c) ∙ rw x.is refl;
        right = (step.Call x.out ∷ [], refl, (x.out, refl, x.right));
        left = x.left;
      }

  calls_atom : (c : Call) (cs : List Call) → HasOne bytes net c → AllByRecursion (HasOne bytes net) cs → (most : ℕ)
      → ReadsFrom bytes net atoms Anywhere most (calls_words net (c ∷ cs)) (calls (c ∷ cs))
  calls_atom c cs one all most d out ls ws room are fits =
      let x = Reads-calls bytes net c cs one all ls ws are in
      record {
        out = out ++ step.Call x.out ∷ [];
        rest = x.rest;
        is = either-not bytes symbol.RoundOpen ls (calls_words net (c ∷ cs) ++ ws) _ _ are (not_open c) ∙ rw x.is refl;
        right = (step.Call x.out ∷ [], refl, (x.out, refl, x.right));
        left = x.left;
      }

  -- an expression is read at each level
  record AreRead (r : Ranking) : Type 0 where
    atom : ReadsFrom bytes net atoms Anywhere (open_brackets 5 r) (ranking_words net 5 r) r
    unit : ReadsFrom bytes net units Anywhere (open_brackets 4 r) (ranking_words net 4 r) r
    joint : JointOpens (open_brackets 3 r) (ranking_words net 3 r) r
    choice : ChoiceOpens (open_brackets 2 r) (ranking_words net 2 r) r
    ranked : RankedOpens (open_brackets 1 r) (ranking_words net 1 r) r

  abbrev pub IsReadableRanking : Ranking → Type 0
  IsReadableRanking (call c) = IsReadable bytes net c
  IsReadableRanking (calls []) = ⊥
  IsReadableRanking (calls (c ∷ cs)) = HasOne bytes net c × AllByRecursion (HasOne bytes net) cs
  IsReadableRanking (prefer a b) = IsReadableRanking a × IsReadableRanking b
  IsReadableRanking (choice a b) = IsReadableRanking a × IsReadableRanking b
  IsReadableRanking (both a b) = IsReadableRanking a × IsReadableRanking b
  IsReadableRanking (negated a) = IsReadableRanking a

  joint_closed : (b : Ranking) → AreRead b → ReadsFrom bytes net joints BehindJoint (open_brackets 3 b) (ranking_words net 3 b) b
  joint_closed b y = closed bytes net symbol.And (λ l. step.And) units Anywhere _ _ b y.joint

  choice_closed : (b : Ranking) → AreRead b → ReadsFrom bytes net choices BehindChoice (open_brackets 2 b) (ranking_words net 2 b) b
  choice_closed b y = closed bytes net symbol.Or (λ l. step.Or) joints BehindJoint _ _ b y.choice

  -- what is read where so many brackets may be open is read where more may
  roomier : (X : ℕ → List Step → List Lexeme → List Word → Type 0) (most more : ℕ) → most ≤ more → ((d : ℕ) (out : List Step) (ls : List Lexeme) (ws : List Word) → most ≤ d → X d out ls ws)
      → (d : ℕ) (out : List Step) (ls : List Lexeme) (ws : List Word) → more ≤ d → X d out ls ws
  roomier X most more less f d out ls ws room = f d out ls ws (omega (arith, less, room))

  -- what is read as a unit is read at each level above
  record FromUnit (most : ℕ) (v : List Word) (r : Ranking) : Type 0 where
    unit : ReadsFrom bytes net units Anywhere most v r
    joint : JointOpens most v r
    choice : ChoiceOpens most v r
    ranked : RankedOpens most v r

  from_unit : (most : ℕ) (v : List Word) (r : Ranking) → ReadsFrom bytes net units Anywhere most v r → FromUnit most v r
  from_unit most v r unit =
      let joint : JointOpens most v r = joint_from most v r unit in
      let choice : ChoiceOpens most v r = choice_from most v r joint in
      record { unit = unit; joint = joint; choice = choice; ranked = ranked_from most v r choice }

  -- what is read without brackets is read in brackets too
  in_brackets : (most : ℕ) (v : List Word) (r : Ranking) → RankedOpens most v r → FromUnit (1 + most) (sign symbol.RoundOpen ∷ (v ++ sign symbol.RoundClose ∷ [])) r
  in_brackets most v r whole =
      let w : List Word = sign symbol.RoundOpen ∷ (v ++ sign symbol.RoundClose ∷ []) in
      from_unit (1 + most) w r (unit_from (1 + most) w r (λ ws. refl) (bracketed most v r whole))

  AreRead-call : (c : Call) → IsReadable bytes net c → AreRead (call c)
  AreRead-call c fine =
      let most : ℕ = open_brackets 1 (call c) in
      let v : List Word = call_words net c in
      let atom = call_atom c fine most in
      let x = from_unit most v (call c) (unit_from most v (call c) (λ ws. not_not c) atom) in
      record { atom = atom; unit = x.unit; joint = x.joint; choice = x.choice; ranked = x.ranked }

  AreRead-calls : (c : Call) (cs : List Call) → HasOne bytes net c → AllByRecursion (HasOne bytes net) cs → AreRead (calls (c ∷ cs))
  AreRead-calls c cs one all =
      let v : List Word = calls_words net (c ∷ cs) in
      let atom = calls_atom c cs one all 1 in
      let x = from_unit 1 v (calls (c ∷ cs)) (unit_from 1 v (calls (c ∷ cs)) (λ ws. not_not c) atom) in
      record { atom = atom; unit = x.unit; joint = x.joint; choice = x.choice; ranked = x.ranked }

  AreRead-prefer : (a b : Ranking) → AreRead a → AreRead b → AreRead (prefer a b)
  AreRead-prefer a b x y =
      let most : ℕ = max (open_brackets 1 a) (open_brackets 2 b) in
      let v : List Word = ranking_words net 1 a ++ sign symbol.Above ∷ [] ++ ranking_words net 2 b in
      let whole : RankedOpens most v (prefer a b) =
      open_more bytes net symbol.Above (λ l. step.Above l.place) choices BehindChoice (prefer a b) a b (λ l ss ts p q. (ss, ts, l.place, refl, p, q))
      (open_brackets 1 a) (open_brackets 2 b) (ranking_words net 1 a) (ranking_words net 2 b) (λ ws. ((tt, refl), refl)) x.ranked (choice_closed b y) in
      let inside = in_brackets most v (prefer a b) whole in
      record { atom = bracketed most v (prefer a b) whole; unit = inside.unit; joint = inside.joint; choice = inside.choice; ranked = roomier _ _ _ (omega arith) whole }

  AreRead-choice : (a b : Ranking) → AreRead a → AreRead b → AreRead (choice a b)
  AreRead-choice a b x y =
      let most : ℕ = max (open_brackets 2 a) (open_brackets 3 b) in
      let v : List Word = ranking_words net 2 a ++ sign symbol.Or ∷ [] ++ ranking_words net 3 b in
      let whole : ChoiceOpens most v (choice a b) =
      open_more bytes net symbol.Or (λ l. step.Or) joints BehindJoint (choice a b) a b (λ l ss ts p q. (ss, ts, refl, p, q))
      (open_brackets 2 a) (open_brackets 3 b) (ranking_words net 2 a) (ranking_words net 3 b) (λ ws. (tt, refl)) x.choice (joint_closed b y) in
      let ranked : RankedOpens most v (choice a b) = ranked_from most v (choice a b) whole in
      let inside = in_brackets most v (choice a b) ranked in
      record { atom = bracketed most v (choice a b) ranked; unit = inside.unit; joint = inside.joint; choice = roomier _ _ _ (omega arith) whole; ranked = roomier _ _ _ (omega arith) ranked }

  AreRead-both : (a b : Ranking) → AreRead a → AreRead b → AreRead (both a b)
  AreRead-both a b x y =
      let most : ℕ = max (open_brackets 3 a) (open_brackets 4 b) in
      let v : List Word = ranking_words net 3 a ++ sign symbol.And ∷ [] ++ ranking_words net 4 b in
      let whole : JointOpens most v (both a b) =
      open_more bytes net symbol.And (λ l. step.And) units Anywhere (both a b) a b (λ l ss ts p q. (ss, ts, refl, p, q))
      (open_brackets 3 a) (open_brackets 4 b) (ranking_words net 3 a) (ranking_words net 4 b) (λ ws. tt) x.joint y.unit in
      let choice' : ChoiceOpens most v (both a b) = choice_from most v (both a b) whole in
      let ranked : RankedOpens most v (both a b) = ranked_from most v (both a b) choice' in
      record {
        atom = bracketed most v (both a b) ranked;
        unit = (in_brackets most v (both a b) ranked).unit;
        joint = roomier _ _ _ (omega arith) whole;
        choice = roomier _ _ _ (omega arith) choice';
        ranked = roomier _ _ _ (omega arith) ranked;
      }

  AreRead-negated : (a : Ranking) → AreRead a → AreRead (negated a)
  AreRead-negated a x =
      let most : ℕ = open_brackets 5 a in
      let v : List Word = sign symbol.Not ∷ ranking_words net 5 a in
      let whole = from_unit most v (negated a) (unit_not most (ranking_words net 5 a) a x.atom) in
      record {
        atom = bracketed most v (negated a) whole.ranked;
        unit = roomier _ _ _ (omega arith) whole.unit;
        joint = roomier _ _ _ (omega arith) whole.joint;
        choice = roomier _ _ _ (omega arith) whole.choice;
        ranked = roomier _ _ _ (omega arith) whole.ranked;
      }

  are_read : (r : Ranking) → IsReadableRanking r → AreRead r
  are_read (call c) fine = AreRead-call c fine
  are_read (calls []) fine = absurd fine
  are_read (calls (c ∷ cs)) fine = AreRead-calls c cs fine.0 fine.1
  are_read (prefer a b) fine = AreRead-prefer a b (are_read a fine.0) (are_read b fine.1)
  are_read (choice a b) fine = AreRead-choice a b (are_read a fine.0) (are_read b fine.1)
  are_read (both a b) fine = AreRead-both a b (are_read a fine.0) (are_read b fine.1)
  are_read (negated a) fine = AreRead-negated a (are_read a fine)

  -- an expression of at most 64 brackets is read from its words
  pub Reads-ranking : (r : Ranking) → IsReadableRanking r → open_brackets 1 r ≤ 64 → (ls : List Lexeme) (ws : List Word) → AreWords bytes ls (ranking_words net 1 r ++ ws) → BehindRanked ws
      → ReadsSteps bytes net r (ranked_with (inner_at 64) [] ls) [] ws
  Reads-ranking r fine few ls ws are behind = ranked_closed (open_brackets 1 r) (ranking_words net 1 r) r (are_read r fine).ranked 64 [] ls ws few are behind
