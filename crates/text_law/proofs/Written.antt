-- What has a value is written by the grammar, and the value is that of what is written.
use Rattle.std.proofs.Common.{◌≡◌, List, [], ◌∷◌, ◌++◌, map, None, refl, sym, ap, ap₂, subst, ◌∙◌, append_assoc}
use Rattle.net_base.specs.declared.loc.LocSet.{LocSet}
use Rattle.net_base.specs.Network.{PlainNet}
use Rattle.net_base.specs.SetOperations.{no_location}
use Rattle.policy_base.specs.declared.call.Call.TheVariants as calls
use Rattle.policy_words.specs.declared.word.CallWord.TheVariants.{Any, Drop, Internal, Link, Path, Of}
use Rattle.policy_base.specs.Policies.{Ranking, call as one_call}
use Rattle.policy_grammar.specs.declared.lexeme.Lexeme.{Lexeme}
use Rattle.policy_grammar.specs.declared.symbol.Symbol.{Symbol}
use Rattle.policy_grammar.specs.declared.symbol.Symbol.TheVariants as symbol
use Rattle.policy_grammar.specs.Raw.{Arg, Arg as arg, RawCall}
use Rattle.policy_values.specs.Built.{ranked_sets}
use Rattle.grammar_law.specs.Grammar.{IsMore, IsList, IsName as IsNameToken, IsNames, IsGroup as IsGroupOf, IsSet as IsSetOf, IsOne as IsOneOf, StandsAlone, front_place, IsCall as IsCallOf}
use Rattle.policy_law.specs.Senses.{Sense, located, set_of_names}
use Rattle.policy_law.specs.Values.{set_of}
use Rattle.text_law.specs.PolicyText.{IsName, union, AreNames, IsGroup, IsSet, IsOne, IsCall}
use Rattle.text_law.proofs.Parts.{union_from}
use Rattle.text_law.proofs.Calls.{call_value}

-- ---- lists

module _ {A B : Type 0} (joint : Symbol) (One : A → List Lexeme → Type 0) (Valued : B → List Lexeme → Type 0) (value : A → B)
    (each : (y : B) (ts : List Lexeme) → Valued y ts → (x : A) × One x ts × (y ≡ value x)) where
  pub more_written : {ys : List B} {ts : List Lexeme} → IsMore joint Valued ys ts → (xs : List A) × IsMore joint One xs ts × (ys ≡ map value xs)
  more_written IsMore.none = ([], IsMore.none, refl)
  more_written (IsMore.more {x = y} {ts = ts} i first rest) =
      let h = each y ts first in
      let t = more_written rest in
      (h.0 ∷ t.0, IsMore.more i h.1 t.1, ap₂ (λ (a : B) (bs : List B). a ∷ bs) h.2 t.2)

  pub list_written : {ys : List B} {ts : List Lexeme} → IsList joint Valued ys ts → (xs : List A) × IsList joint One xs ts × (ys ≡ map value xs)
  list_written (IsList.list {x = y} {ts = ts} first rest) =
      let h = each y ts first in
      let t = more_written rest in
      (h.0 ∷ t.0, IsList.list h.1 t.1, ap₂ (λ (a : B) (bs : List B). a ∷ bs) h.2 t.2)

module _ (net : PlainNet) (sense : Sense) where
  -- ---- names and sets

  name_written : (s : LocSet) (ts : List Lexeme) → IsName sense s ts → (n : Lexeme) × IsNameToken n ts × (s ≡ located (sense n))
  name_written s ts (IsName.name {n = n} i is) = (n, IsNameToken.name i, sym (ap located is))

  pub names_written : {s : LocSet} {ts : List Lexeme} → AreNames sense s ts → (names : List Lexeme) × IsNames names ts × (s ≡ set_of_names sense names)
  names_written (AreNames.names written) =
      let h = list_written symbol.Comma IsNameToken (IsName sense) (λ n. located (sense n)) name_written written in
      (h.0, h.1, ap union h.2 ∙ union_from sense no_location h.0)

  pub group_written : {s : LocSet} {ts : List Lexeme} → IsGroup sense s ts → (names : List Lexeme) × IsGroupOf names ts × (s ≡ set_of_names sense names)
  group_written (IsGroup.group o inside c) = let h = names_written inside in (h.0, IsGroupOf.group o h.1 c, h.2)

  set_written : (s : LocSet) (ts : List Lexeme) → IsSet net sense s ts → (a : Arg) × IsSetOf a ts × (s ≡ set_of net sense a)
  set_written s ts (IsSet.any i) = (arg.Any, IsSetOf.any i, refl)
  set_written s ts (IsSet.names inside) = let h = names_written inside in (arg.Names h.0, IsSetOf.names h.1, h.2)

  one_written : (s : LocSet) (ts : List Lexeme) → IsOne net sense s ts → (a : Arg) × IsOneOf a ts × (s ≡ set_of net sense a)
  one_written s ts (IsOne.any i) = (arg.Any, IsOneOf.any i, refl)
  one_written s ts (IsOne.name {s = t} inside) = let h = name_written t ts inside in (arg.Names (h.0 ∷ []), IsOneOf.name h.1, ap (λ (x : LocSet). union (x ∷ [])) h.2)
  one_written s ts (IsOne.group inside) = let h = group_written inside in (arg.Names h.0, IsOneOf.group h.1, h.2)

  -- ---- calls

  -- what is written as a call with this value
  pub record Called (r : Ranking) (ts : List Lexeme) : Type 0 where
    pub call : RawCall
    pub written : IsCallOf call ts
    pub value : r ≡ call_value net sense call

  pub call_written : {r : Ranking} {ts : List Lexeme} → IsCall net sense r ts → Called r ts
  call_written (IsCall.any i) = record { call = record { word = Any; args = []; above = None }; written = IsCallOf.alone StandsAlone.any i; value = refl }
  call_written (IsCall.drop i) = record { call = record { word = Drop; args = []; above = None }; written = IsCallOf.alone StandsAlone.drop i; value = refl }
  call_written (IsCall.internal i) = record { call = record { word = Internal; args = []; above = None }; written = IsCallOf.alone StandsAlone.internal i; value = refl }
  call_written (IsCall.sets {c = c} w o (IsList.list {x = s} {ts = ts} {us = us} first rest) e) =
      let h = set_written s ts first in
      let t = more_written symbol.Above IsSetOf (IsSet net sense) (set_of net sense) set_written rest in
      record {
        call = record { word = Of c; args = h.0 ∷ t.0; above = front_place us };
        written = IsCallOf.sets w o h.1 t.1 e;
        value = ap₂ (λ (a : LocSet) (bs : List LocSet). ranked_sets c (a ∷ bs)) h.2 t.2;
      }
  call_written (IsCall.link {a = a} {b = b} {ts = ts} {us = us} w o first m second e) =
      let h = one_written a ts first in
      let k = one_written b us second in
      record {
        call = record { word = Link; args = h.0 ∷ k.0 ∷ []; above = None };
        written = IsCallOf.link w o h.1 m k.1 e;
        value = ap₂ (λ (x y : LocSet). one_call (calls.Link x y)) h.2 k.2;
      }
  call_written (IsCall.path {w = w} {o = o} {m = m} {e = e} {a = a} {ts = ts} word begin first comma (IsList.list {x = b} {ts = us} {us = vs} second rest) end) =
      let h = one_written a ts first in
      let k = one_written b us second in
      let t = more_written symbol.Comma IsOneOf (IsOne net sense) (set_of net sense) one_written rest in
      let c : RawCall = record { word = Path; args = h.0 ∷ k.0 ∷ t.0; above = None } in
      record {
        call = c;
        written = subst (λ (ls : List Lexeme). IsCallOf c (w ∷ o ∷ ls ++ e ∷ [])) (append_assoc ts (m ∷ us) vs) (IsCallOf.path word begin h.1 comma k.1 t.1 end);
        value = ap₂ (λ (x : LocSet) (ys : List LocSet). one_call (calls.Path (x ∷ ys))) h.2 (ap₂ (λ (y : LocSet) (zs : List LocSet). y ∷ zs) k.2 t.2);
      }
