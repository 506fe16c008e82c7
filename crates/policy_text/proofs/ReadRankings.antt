-- The sides of operators are read in turn.
use Rattle.std.proofs.Common.{◌≡◌, ℕ, zero, suc, ◌+◌, ◌≤◌, max, List, [], ◌∷◌, ◌++◌, length, map, Ok, refl, ◌∙◌, subst, arith, append_assoc, length-append}
use Rattle.net_base.specs.declared.place.Place.{Place}
use Rattle.net_base.specs.Network.{PlainNet}
use Rattle.net_base.specs.Steps.{◌>>=◌}
use Rattle.policy_grammar.specs.declared.lexeme.Lexeme.{Lexeme}
use Rattle.policy_grammar.specs.declared.symbol.Symbol.{Symbol}
use Rattle.policy_grammar.specs.Raw.{RawCall, Step, Step as step}
use Rattle.policy_grammar.specs.Reading.{Read, chain}
use Rattle.policy_grammar.specs.Ranked.{Reader, with_step}
use Rattle.policy_base.specs.Policies.{Ranking, call, calls, prefer, either as choice, both, negated}
use Rattle.policy_base.specs.CallWords.{word_of}
use Rattle.policy_text.specs.Values.{sets_in}
use Rattle.policy_text.proofs.Words.{Word, sign, AreWords}
use Rattle.policy_text.proofs.Readings.{IsPast, Reads, length-words, past-not, past-joint, chain_done, chain_more}
use Rattle.policy_text.proofs.ReadCalls.{IsRawCall, IsLoneCall, set_in}

abbrev pub AreSteps : List ℕ → PlainNet → Ranking → List Step → Type 0
AreSteps bytes net (call c) steps = (raw : RawCall) × (steps ≡ step.Call raw ∷ []) × IsLoneCall bytes net (word_of c) (sets_in c) raw
AreSteps bytes net (calls []) steps = ⊥
AreSteps bytes net (calls (c ∷ cs)) steps = (raw : RawCall) × (steps ≡ step.Call raw ∷ []) × IsRawCall bytes net (word_of c) (map set_in (c ∷ cs)) raw
AreSteps bytes net (prefer a b) steps = (ss : List Step) × (ts : List Step) × (p : Place) × (steps ≡ ss ++ ts ++ step.Above p ∷ []) × AreSteps bytes net a ss × AreSteps bytes net b ts
AreSteps bytes net (choice a b) steps = (ss : List Step) × (ts : List Step) × (steps ≡ ss ++ ts ++ step.Or ∷ []) × AreSteps bytes net a ss × AreSteps bytes net b ts
AreSteps bytes net (both a b) steps = (ss : List Step) × (ts : List Step) × (steps ≡ ss ++ ts ++ step.And ∷ []) × AreSteps bytes net a ss × AreSteps bytes net b ts
AreSteps bytes net (negated a) steps = (ss : List Step) × (steps ≡ ss ++ step.Not ∷ []) × AreSteps bytes net a ss

module _ (bytes : List ℕ) (net : PlainNet) where
  -- the steps of an expression are put behind those before
  abbrev pub ReadsSteps : Ranking → Read (List Step) → List Step → List Word → Type 0
  ReadsSteps r read out ws = Reads bytes read (λ steps. (ss : List Step) × (steps ≡ out ++ ss) × AreSteps bytes net r ss) ws

  -- a reader reads the expression from these words where so many brackets more may be open
  abbrev pub ReadsFrom : (ℕ → Reader) → (List Word → Type 0) → ℕ → List Word → Ranking → Type 0
  ReadsFrom reader Fits most v r = (d : ℕ) (out : List Step) (ls : List Lexeme) (ws : List Word) → most ≤ d → AreWords bytes ls (v ++ ws) → Fits ws → ReadsSteps r (reader d out ls) out ws

-- sides that are joined by an operator
abbrev pub link_of : (Lexeme → Step) → Reader → Lexeme → Reader
link_of mark side l out ls = with_step (mark l) (side out ls)

abbrev pub joins : Symbol → (Lexeme → Step) → Reader → Reader
joins op mark side out ls = side out ls >>= λ x. chain op (link_of mark side) (length x.1) x.0 x.1

-- what is read so far is the expression, and more sides may come
pub record IsOpen (bytes : List ℕ) (net : PlainNet) (op : Symbol) (mark : Lexeme → Step) (side : Reader) (r : Ranking) (read : Read (List Step)) (out : List Step) (ws : List Word) : Type 0 where
  pub count : ℕ
  pub rest : List Lexeme
  pub steps : List Step
  pub is : read ≡ chain op (link_of mark side) count (out ++ steps) rest
  pub room : length rest ≤ count
  pub right : AreSteps bytes net r steps
  pub left : AreWords bytes rest ws

module _ (bytes : List ℕ) (net : PlainNet) (op : Symbol) (mark : Lexeme → Step) (side : ℕ → Reader) (Fits : List Word → Type 0) where
  abbrev pub Opens : ℕ → List Word → Ranking → Type 0
  Opens most v r =
      (d : ℕ) (out : List Step) (ls : List Lexeme) (ws : List Word) → most ≤ d → AreWords bytes ls (v ++ ws) → Fits ws
      → IsOpen bytes net op mark (side d) r (joins op mark (side d) out ls) out ws

  -- one side alone
  pub open_side : (most : ℕ) (v : List Word) (r : Ranking) → ReadsFrom bytes net side Fits most v r → Opens most v r
  open_side most v r f d out ls ws room are fits =
      let x = f d out ls ws room are fits in
      record { count = length x.rest; rest = x.rest; steps = x.right.0; is = rw (x.is, x.right.1) refl; room = omega arith; right = x.right.2; left = x.left }

  -- no more sides
  pub closed : (most : ℕ) (v : List Word) (r : Ranking) → Opens most v r → ReadsFrom bytes net (λ d. joins op mark (side d)) (λ ws. Fits ws × IsPast op ws) most v r
  closed most v r f d out ls ws room are fits =
      let x = f d out ls ws room are fits.0 in
      record {
        out = out ++ x.steps;
        rest = x.rest;
        is = x.is
            ∙ chain_done op (link_of mark (side d)) x.count (out ++ x.steps) x.rest (past-not bytes op x.rest ws x.left fits.1);
        right = (x.steps, refl, x.right);
        left = x.left;
      }

  -- one side more
  module _ (whole a b : Ranking) (made : (l : Lexeme) (ss ts : List Step) → AreSteps bytes net a ss → AreSteps bytes net b ts → AreSteps bytes net whole (ss ++ ts ++ mark l ∷ [])) where
    side_more : (d : ℕ) (out : List Step) (read : Read (List Step)) (w : List Word) (ws : List Word) (most : ℕ) → ReadsFrom bytes net side Fits most w b → most ≤ d → Fits ws
        → (n : ℕ) (ls : List Lexeme) (ss : List Step) → read ≡ chain op (link_of mark (side d)) n (out ++ ss) ls → length ls ≤ n → AreSteps bytes net a ss → AreWords bytes ls (sign op ∷ (w ++ ws))
        → IsOpen bytes net op mark (side d) whole read out ws
    side_more d out read w ws most f room fits n [] ss is short right are = absurd are
    side_more d out read w ws most f room fits zero (l ∷ ls) ss is short right are = absurd (omega (arith, short))
    side_more d out read w ws most f room fits (suc n) (l ∷ ls) ss is short right are =
        let y = f d (out ++ ss) ls ws room are.1 fits in
        let ts : List Step = y.right.0 in
        let long : length ls ≡ length w + length ws = length-words bytes ls (w ++ ws) are.1 ∙ length-append w ws in
        let less : length y.rest ≡ length ws = length-words bytes y.rest ws y.left in
        let order : out ++ ss ++ ts ++ mark l ∷ [] ≡ out ++ (ss ++ ts ++ mark l ∷ []) = rw (append_assoc out ss ts, append_assoc out (ss ++ ts) (mark l ∷ [])) refl in
        let link : link_of mark (side d) l (out ++ ss) ls ≡ Ok (out ++ (ss ++ ts ++ mark l ∷ []), y.rest) = rw (y.is, y.right.1, order) refl in
        record {
          count = n;
          rest = y.rest;
          steps = ss ++ ts ++ mark l ∷ [];
          is = is ∙ chain_more op (link_of mark (side d)) n (out ++ ss) l ls y.rest (out ++ (ss ++ ts ++ mark l ∷ [])) (past-joint bytes op l ls are.0) link;
          room = omega (arith, short, long, less);
          right = made l ss ts right y.right.2;
          left = y.left;
        }

    pub open_more : (most most' : ℕ) (v w : List Word) → ((ws : List Word) → Fits (sign op ∷ ws)) → Opens most v a
        → ReadsFrom bytes net side Fits most' w b → Opens (max most most') (v ++ sign op ∷ [] ++ w) whole
    open_more most most' v w follow f g d out ls ws room are fits =
        let left : AreWords bytes ls (v ++ (sign op ∷ (w ++ ws))) =
        subst (λ (u : List Word). AreWords bytes ls u) (append_assoc (v ++ sign op ∷ []) w ws ∙ append_assoc v (sign op ∷ []) (w ++ ws)) are in
        let x = f d out ls (sign op ∷ (w ++ ws)) (omega (arith, room)) left (follow (w ++ ws)) in
        side_more d out (joins op mark (side d) out ls) w ws most' g (omega (arith, room)) fits x.count x.rest x.steps x.is x.room x.right x.left
