-- What reads expressions.
use Rattle.std.proofs.Common.{◌≡◌, ℕ, zero, suc, inl, inr, List, [], ◌∷◌, ◌++◌, refl, sym, ap, ◌∙◌, subst, append_assoc, append-nil}
use Rattle.policy_grammar.specs.declared.lexeme.Lexeme.{Lexeme}
use Rattle.policy_grammar.specs.declared.symbol.Symbol.TheVariants as symbol
use Rattle.policy_grammar.specs.Raw.{Step, Step as step}
use Rattle.policy_grammar.specs.Ranked.{Reader, atom_with, unit_with, joint_with, choice_with, ranked_with, inner_at}
use Rattle.grammar_law.specs.Grammar.{Rule, IsRanked, IsChoice, IsJoint, IsUnit, IsAtom}
use Rattle.grammar_law.proofs.Lookups.{Isnt, is_other}
use Rattle.grammar_law.proofs.Readers.{Passes, Stops, Known, Exact}
use Rattle.grammar_law.proofs.Tokens.{Nothing, NoToken, nothing, no_token}
use Rattle.grammar_law.proofs.Sequences.{Then, ThenPlain, then, then-reads, then-sound, then-stops, then-balanced}
use Rattle.grammar_law.proofs.Choices.{Choose, ChoosePlain, choose-reads, choose-sound, choose-stops, choose-balanced}
use Rattle.grammar_law.proofs.Lists.{stops_in_words}
use Rattle.grammar_law.proofs.Atoms.{Onto, Atom, ReadsAt, Encloses, Inner, atom-reads, atom-sound, atom-stops, atom-some, atom_head}
use Rattle.grammar_law.proofs.Balance.{atom_balanced}
use Rattle.grammar_law.proofs.Levels.{Family, Written, Operator, Joined, joined_at, Built, joined_written, joined_stops, Stands, Open, open_base, open_step, open_ends}
use Rattle.grammar_law.proofs.Nesting.{brackets}

-- ---- units

abbrev Negated : Family
Negated out = Then (Atom out) (λ y. Nothing (y ++ step.Not ∷ []))

abbrev NegatedPlain : List Step → Rule (List Step)
NegatedPlain out = ThenPlain (Onto out IsAtom) (λ y. NoToken (y ++ step.Not ∷ []))

abbrev negated : Reader → Reader
negated atom out = then (atom out) (λ y. nothing (y ++ step.Not ∷ []))

abbrev pub UnitBefore : Family
UnitBefore out = Choose symbol.Not (λ t. Negated out) (Atom out)

abbrev UnitPlain : List Step → Rule (List Step)
UnitPlain out = ChoosePlain symbol.Not (λ t. NegatedPlain out) (Onto out IsAtom)

atom_written : Written Atom IsAtom
atom_written = record {
  plain = λ out y ls l g. g;
  balanced = λ out n y ls ms l g fits. atom_balanced g.2 n ms fits;
  some = atom-some;
}

not_passes : Passes brackets symbol.Not
not_passes = brackets.passes symbol.Not (refl, refl)

unit_words : (out y : List Step) (ls : List Lexeme) → UnitPlain out y ls → Onto out IsUnit y ls
unit_words out y ls (inr p) = (p.0, p.1, IsUnit.atom p.2)
unit_words out y ls (inl (t, back, e, i, p)) =
    let whole : ls ≡ t ∷ p.1 = e ∙ ap (λ z. t ∷ z) (p.3 ∙ ap (λ z. p.1 ++ z) p.5.1 ∙ append-nil p.1) in
    let steps : y ≡ out ++ (p.4.0 ++ step.Not ∷ []) = p.5.0 ∙ ap (λ z. z ++ step.Not ∷ []) p.4.1 ∙ append_assoc out p.4.0 (step.Not ∷ []) in
    (p.4.0 ++ step.Not ∷ [], steps, subst (IsUnit (p.4.0 ++ step.Not ∷ [])) (sym whole) (IsUnit.not i p.4.2))

unit_written : Written UnitBefore IsUnit
unit_written = record {
  plain = λ out y ls l g. unit_words out y ls (plainly out y ls l g);
  balanced = λ out. choose-balanced brackets symbol.Not (λ t. Negated out) (Atom out) not_passes
      (λ t. then-balanced brackets (Atom out) (λ y. Nothing (y ++ step.Not ∷ [])) (atom_written.balanced out) (λ y. (no_token brackets (y ++ step.Not ∷ [])).known.balanced))
      (atom_written.balanced out);
  some = λ out. let s = atom-some out in (s.0, s.1, (s.2.0, s.2.1, IsUnit.atom s.2.2));
}
  where
    plainly : (out y : List Step) (ls : List Lexeme) (l : Lexeme) → UnitBefore out y ls l → UnitPlain out y ls
    plainly out y ls l (inl t) = inl t
    plainly out y ls l (inr t) = inr t.0

unit_at : (n : ℕ) (inner : Reader) → ReadsAt Atom n (atom_with inner) → ReadsAt UnitBefore n (unit_with inner)
unit_at n inner at = record {
  reads = λ out.
      choose-reads brackets n symbol.Not (λ t. Negated out) (Atom out) (λ t. negated (atom_with inner) out) (atom_with inner out) not_passes
      (λ t. then-reads brackets n (Atom out) (λ y. Nothing (y ++ step.Not ∷ [])) (atom_with inner out) (λ y. nothing (y ++ step.Not ∷ []))
      (atom_written.balanced out) (at.reads out) (λ y. (no_token brackets (y ++ step.Not ∷ [])).known.reads n))
      (at.reads out);
  sound = λ out.
      choose-sound symbol.Not (λ t. Negated out) (Atom out) (λ t. negated (atom_with inner) out) (atom_with inner out) refl
      (λ t. then-sound (Atom out) (λ y. Nothing (y ++ step.Not ∷ [])) (atom_with inner out) (λ y. nothing (y ++ step.Not ∷ [])) (at.sound out)
      (λ y. (no_token brackets (y ++ step.Not ∷ [])).known.sound n))
      (at.sound out);
}

-- ---- operators

abbrev and_sign : Operator
and_sign = record { sign = symbol.And; step = λ j. step.And; flat = (refl, refl); inner = refl }

abbrev or_sign : Operator
or_sign = record { sign = symbol.Or; step = λ j. step.Or; flat = (refl, refl); inner = refl }

abbrev above_sign : Operator
above_sign = record { sign = symbol.Above; step = λ j. step.Above j.place; flat = (refl, refl); inner = refl }

and_built : Built and_sign IsUnit IsJoint
and_built = record { base = λ c. IsJoint.unit c; step = λ r i c. IsJoint.and r i c }

or_built : Built or_sign IsJoint IsChoice
or_built = record { base = λ c. IsChoice.joint c; step = λ r i c. IsChoice.or r i c }

above_built : Built above_sign IsChoice IsRanked
above_built = record { base = λ c. IsRanked.choice c; step = λ r i c. IsRanked.above r i c }

abbrev JointBefore : Family
JointBefore = Joined and_sign UnitBefore

abbrev ChoiceBefore : Family
ChoiceBefore = Joined or_sign JointBefore

abbrev pub RankedBefore : Family
RankedBefore = Joined above_sign ChoiceBefore

joint_written : Written JointBefore IsJoint
joint_written = joined_written and_sign UnitBefore IsUnit IsJoint and_built unit_written

choice_written : Written ChoiceBefore IsChoice
choice_written = joined_written or_sign JointBefore IsJoint IsChoice or_built joint_written

ranked_written : Written RankedBefore IsRanked
ranked_written = joined_written above_sign ChoiceBefore IsChoice IsRanked above_built choice_written

-- ---- what is written stands before a token

unit_stands : Stands UnitBefore IsUnit (λ k. Unit {0})
unit_stands out k good xs ls (IsUnit.atom a) = inr ((xs, refl, a), atom_head k a)
unit_stands out k good xs ls (IsUnit.not {xs = ys} {n = t} {ts = ts} i a) =
    inl (t, ts, refl, i, (out ++ ys, ts, [], sym (append-nil ts), (ys, refl, a), (sym (append_assoc out ys (step.Not ∷ [])), refl)))

joint_open : (out : List Step) (k : Lexeme) {xs : List Step} {ls : List Lexeme} → IsJoint xs ls → Open and_sign UnitBefore out (out ++ xs) ls k
joint_open out k (IsJoint.unit c) = open_base and_sign UnitBefore IsUnit (λ k. Unit {0}) unit_stands out k tt c
joint_open out k (IsJoint.and {xs = xs} {ys = ys} {j = j} {ts = ts} {us = us} r i c) =
    open_step and_sign UnitBefore IsUnit (λ k. Unit {0}) unit_stands out j k i tt xs ys ts us (joint_open out j r) c

joint_stands : Stands JointBefore IsJoint (Isnt symbol.And)
joint_stands out k good xs ls c = open_ends and_sign UnitBefore out (out ++ xs) ls k good (joint_open out k c)

choice_open : (out : List Step) (k : Lexeme) → Isnt symbol.And k → {xs : List Step} {ls : List Lexeme} → IsChoice xs ls → Open or_sign JointBefore out (out ++ xs) ls k
choice_open out k good (IsChoice.joint c) = open_base or_sign JointBefore IsJoint (Isnt symbol.And) joint_stands out k good c
choice_open out k good (IsChoice.or {xs = xs} {ys = ys} {j = j} {ts = ts} {us = us} r i c) =
    open_step or_sign JointBefore IsJoint (Isnt symbol.And) joint_stands out j k i good xs ys ts us (choice_open out j (is_other symbol.Or symbol.And j i refl) r) c

abbrev EndsChoice : Lexeme → Type 0
EndsChoice k = Isnt symbol.And k × Isnt symbol.Or k

choice_stands : Stands ChoiceBefore IsChoice EndsChoice
choice_stands out k good xs ls c = open_ends or_sign JointBefore out (out ++ xs) ls k good.1 (choice_open out k good.0 c)

ranked_open : (out : List Step) (k : Lexeme) → EndsChoice k → {xs : List Step} {ls : List Lexeme} → IsRanked xs ls → Open above_sign ChoiceBefore out (out ++ xs) ls k
ranked_open out k good (IsRanked.choice c) = open_base above_sign ChoiceBefore IsChoice EndsChoice choice_stands out k good c
ranked_open out k good (IsRanked.above {xs = xs} {ys = ys} {j = j} {ts = ts} {us = us} r i c) =
    open_step above_sign ChoiceBefore IsChoice EndsChoice choice_stands out j k i good xs ys ts us
    (ranked_open out j (is_other symbol.Above symbol.And j i refl, is_other symbol.Above symbol.Or j i refl) r) c

-- no operator goes on here
abbrev pub EndsRanked : Lexeme → Type 0
EndsRanked k = EndsChoice k × Isnt symbol.Above k

pub ranked_stands : (out : List Step) (k : Lexeme) → EndsRanked k → {xs : List Step} {ls : List Lexeme} → IsRanked xs ls → RankedBefore out (out ++ xs) ls k
ranked_stands out k good {xs} {ls} r = open_ends above_sign ChoiceBefore out (out ++ xs) ls k good.1 (ranked_open out k good.0 r)

ranked_encloses : Encloses RankedBefore
ranked_encloses = record {
  plain = ranked_written.plain;
  before = λ out l i r.
      ranked_stands out l ((is_other symbol.RoundClose symbol.And l i refl, is_other symbol.RoundClose symbol.Or l i refl), is_other symbol.RoundClose symbol.Above l i refl) r;
}

-- ---- with room for each number of brackets

atom_at : (n : ℕ) → Inner RankedBefore n → ReadsAt Atom n (atom_with (inner_at n))
atom_at n inner = record { reads = atom-reads RankedBefore ranked_encloses n inner; sound = atom-sound RankedBefore ranked_encloses n inner }

joint_at : (n : ℕ) (inner : Reader) → ReadsAt Atom n (atom_with inner) → ReadsAt JointBefore n (joint_with inner)
joint_at n inner at = joined_at and_sign UnitBefore IsUnit unit_written n (unit_with inner) (unit_at n inner at)

choice_at : (n : ℕ) (inner : Reader) → ReadsAt Atom n (atom_with inner) → ReadsAt ChoiceBefore n (choice_with inner)
choice_at n inner at = joined_at or_sign JointBefore IsJoint joint_written n (joint_with inner) (joint_at n inner at)

ranked_from : (n : ℕ) (inner : Reader) → ReadsAt Atom n (atom_with inner) → ReadsAt RankedBefore n (ranked_with inner)
ranked_from n inner at = joined_at above_sign ChoiceBefore IsChoice choice_written n (choice_with inner) (choice_at n inner at)

ranked_at : (n : ℕ) → ReadsAt RankedBefore n (ranked_with (inner_at n))
ranked_at zero = ranked_from 0 (inner_at 0) (atom_at 0 tt)
ranked_at (suc n) = ranked_from (suc n) (inner_at (suc n)) (atom_at (suc n) (ranked_at n))

inner_known : (n : ℕ) → Inner RankedBefore n
inner_known zero = tt
inner_known (suc n) = ranked_at n

known_of : (G : Family) (C : Rule (List Step)) (f : ℕ → Reader) → Written G C → ((n : ℕ) → ReadsAt G n (f n)) → (out : List Step) → Known brackets (G out) (Onto out C) (λ n. f n out)
known_of G C f w at out = record {
  plain = w.plain out;
  balanced = w.balanced out;
  some = w.some out;
  reads = λ n. (at n).reads out;
  sound = λ n. (at n).sound out;
}

ranked_known : (out : List Step) → Known brackets (RankedBefore out) (Onto out IsRanked) (λ n. ranked_with (inner_at n) out)
ranked_known = known_of RankedBefore IsRanked (λ n. ranked_with (inner_at n)) ranked_written ranked_at

choice_known : (out : List Step) → Known brackets (ChoiceBefore out) (Onto out IsChoice) (λ n. choice_with (inner_at n) out)
choice_known = known_of ChoiceBefore IsChoice (λ n. choice_with (inner_at n)) choice_written (λ n. choice_at n (inner_at n) (atom_at n (inner_known n)))

joint_known : (out : List Step) → Known brackets (JointBefore out) (Onto out IsJoint) (λ n. joint_with (inner_at n) out)
joint_known = known_of JointBefore IsJoint (λ n. joint_with (inner_at n)) joint_written (λ n. joint_at n (inner_at n) (atom_at n (inner_known n)))

unit_known : (out : List Step) → Known brackets (UnitBefore out) (Onto out IsUnit) (λ n. unit_with (inner_at n) out)
unit_known = known_of UnitBefore IsUnit (λ n. unit_with (inner_at n)) unit_written (λ n. unit_at n (inner_at n) (atom_at n (inner_known n)))

atom_known : (out : List Step) → Known brackets (Atom out) (Onto out IsAtom) (λ n. atom_with (inner_at n) out)
atom_known = known_of Atom IsAtom (λ n. atom_with (inner_at n)) atom_written (λ n. atom_at n (inner_known n))

-- ---- where they stop

unit_stops : (n : ℕ) → ((out : List Step) → Stops brackets (Onto out IsAtom) n (λ m. atom_with (inner_at m) out)) → (out : List Step)
    → Stops brackets (Onto out IsUnit) n (λ m. unit_with (inner_at m) out)
unit_stops n stops out =
    stops_in_words brackets n (UnitPlain out) (Onto out IsUnit) (λ m. unit_with (inner_at m) out) (unit_words out)
    (choose-stops brackets n symbol.Not (λ t. NegatedPlain out) (Onto out IsAtom) (λ t m. negated (atom_with (inner_at m)) out) (λ m. atom_with (inner_at m) out) not_passes refl
    (λ t. then-stops brackets n (Atom out) (Onto out IsAtom) (λ y. NoToken (y ++ step.Not ∷ [])) (λ m. atom_with (inner_at m) out) (λ y m. nothing (y ++ step.Not ∷ []))
    (atom_known out) (stops out) (λ y. (no_token brackets (y ++ step.Not ∷ [])).known.some) (λ y. (no_token brackets (y ++ step.Not ∷ [])).stops n))
    (stops out))

ranked_stops_from : (n : ℕ) → ((out : List Step) → Stops brackets (Onto out IsAtom) n (λ m. atom_with (inner_at m) out)) → (out : List Step)
    → Stops brackets (Onto out IsRanked) n (λ m. ranked_with (inner_at m) out)
ranked_stops_from n atoms =
    let units = unit_stops n atoms in
    let joints = joined_stops and_sign UnitBefore IsUnit IsJoint and_built (λ m. unit_with (inner_at m)) unit_known n units in
    let choices = joined_stops or_sign JointBefore IsJoint IsChoice or_built (λ m. joint_with (inner_at m)) joint_known n joints in
    joined_stops above_sign ChoiceBefore IsChoice IsRanked above_built (λ m. choice_with (inner_at m)) choice_known n choices

ranked_stops : (n : ℕ) (out : List Step) → Stops brackets (Onto out IsRanked) n (λ m. ranked_with (inner_at m) out)
ranked_stops zero = ranked_stops_from 0 (atom-stops RankedBefore ranked_known 0 tt)
ranked_stops (suc n) = ranked_stops_from (suc n) (atom-stops RankedBefore ranked_known (suc n) (ranked_stops n))

pub ranked_exact : (out : List Step) → Exact brackets (RankedBefore out) (Onto out IsRanked) (λ n. ranked_with (inner_at n) out)
ranked_exact out = record { known = ranked_known out; stops = λ n. ranked_stops n out }
