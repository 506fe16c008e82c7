-- Calls, with their values.
use Rattle.std.proofs.Common.{List, [], ◌∷◌, ◌++◌, map, None, sym, subst, append_assoc}
use Rattle.std.specs.List.{AllByRecursion}
use Rattle.net_base.specs.Network.{PlainNet}
use Rattle.policy_words.specs.declared.word.CallWord.TheVariants.{Path}
use Rattle.policy_base.specs.Policies.{Ranking}
use Rattle.policy_grammar.specs.declared.lexeme.Lexeme.{Lexeme}
use Rattle.policy_grammar.specs.declared.symbol.Symbol.TheVariants as symbol
use Rattle.policy_grammar.specs.Raw.{RawCall}
use Rattle.policy_values.specs.Built.{call_of}
use Rattle.grammar_law.specs.Grammar.{IsList, IsSet as IsSetOf, IsOne as IsOneOf, StandsAlone, IsCall as IsCallOf}
use Rattle.policy_law.specs.Senses.{Sense}
use Rattle.policy_law.specs.Texts.{AreKnown}
use Rattle.policy_law.specs.Values.{set_of}
use Rattle.text_law.specs.PolicyText.{IsSet, IsOne, IsCall}
use Rattle.text_law.proofs.Parts.{GoesOn, more_valued, set_valued, one_valued}

-- the value of a call
abbrev pub call_value : PlainNet → Sense → RawCall → Ranking
call_value net sense c = call_of c.word (map (set_of net sense) c.args)

module _ (net : PlainNet) (sense whole : Sense) (goes_on : GoesOn sense whole) where
  pub call_valued : {c : RawCall} {ts : List Lexeme} → IsCallOf c ts → AllByRecursion (AreKnown sense) c.args → IsCall net sense (call_value net whole c) ts
  call_valued (IsCallOf.alone StandsAlone.any i) known = IsCall.any i
  call_valued (IsCallOf.alone StandsAlone.drop i) known = IsCall.drop i
  call_valued (IsCallOf.alone StandsAlone.internal i) known = IsCall.internal i
  call_valued (IsCallOf.sets {x = x} {ts = ts} w o first rest c) known =
      IsCall.sets w o
      (IsList.list (set_valued sense whole goes_on net x ts first known.0)
      (more_valued symbol.Above IsSetOf (IsSet net sense) (AreKnown sense) (set_of net whole) (set_valued sense whole goes_on net) rest known.1)) c
  call_valued (IsCallOf.link {x = x} {y = y} {ts = ts} {us = us} w o first m second c) known =
      IsCall.link w o (one_valued sense whole goes_on net x ts first known.0) m (one_valued sense whole goes_on net y us second known.1.0) c
  call_valued (IsCallOf.path {w = w} {o = o} {m = m} {c = c} {x = x} {y = y} {zs = zs} {ts = ts} {us = us} {vs = vs} word open' first comma second rest close) known =
      let made : IsCall net sense (call_value net whole (record { word = Path; args = x ∷ y ∷ zs; above = None })) (w ∷ o ∷ ts ++ m ∷ (us ++ vs) ++ c ∷ []) =
      IsCall.path word open' (one_valued sense whole goes_on net x ts first known.0) comma
      (IsList.list (one_valued sense whole goes_on net y us second known.1.0)
      (more_valued symbol.Comma IsOneOf (IsOne net sense) (AreKnown sense) (set_of net whole) (one_valued sense whole goes_on net) rest known.1.1)) close in
      subst (λ (ls : List Lexeme). IsCall net sense (call_value net whole (record { word = Path; args = x ∷ y ∷ zs; above = None })) (w ∷ o ∷ ls ++ c ∷ []))
      (sym (append_assoc ts (m ∷ us) vs)) made
