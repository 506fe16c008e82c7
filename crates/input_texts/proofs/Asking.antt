-- A job that says a thing of texts, of which the first two are a topology and a policy for its network.
use Rattle.std.proofs.Common.{◌≡◌, ◌≢◌, ℕ, List, [], ◌∷◌}
use Rattle.net_base.specs.Network.{PlainNet, IsNet}
use Rattle.policy_base.specs.Policies.{IsPolicyOf, PlainPolicy}
use Rattle.policy_parser.proofs.FittingPolicies.{read_policies_fit}
use Rattle.topology.proofs.TextLaws.{net_read}
use Rattle.run_base.specs.declared.outcome.Status.TheVariants.{BadInput}
use Rattle.run_base.specs.Reading.{Holds, AllHeld, SaidOfTold}
use Rattle.run_base.specs.Said.{Said}
use Rattle.run_base.proofs.Jobs.{IsJob, IsJobSaid}
use Rattle.run_base.proofs.Told.{told_is}
use Rattle.input_texts.specs.Asked.{SpellFor}
use Rattle.input_texts.specs.Texts.{Alone, OfAllTexts, OfTwoTexts}
use Rattle.input_texts.proofs.Spelling.{OfSpelled, at_spelled, form_of, of_spelled, one_of_spelled}

-- what is spelled keeps the rules
pub net_of_spelled : {holds : Holds} {names : List (List ℕ)} {net : PlainNet} {policy : PlainPolicy} → SpellFor holds names net policy → IsNet net
net_of_spelled {holds} {names} {net} {policy} spell = net_read spell.topology net spell.net_spelled

pub policy_of_spelled : {holds : Holds} {names : List (List ℕ)} {net : PlainNet} {policy : PlainPolicy} → SpellFor holds names net policy → IsPolicyOf net policy
policy_of_spelled {holds} {names} {net} {policy} spell = read_policies_fit net spell.policy_text policy spell.policy_spelled

module _ (Next : List (List ℕ) → PlainNet → PlainPolicy → Said → Type 0) where
  -- ---- the form of what is said, and that it is one thing

  module _ (Refuses Checks : Type 0) where
    said_form : ((more : List (List ℕ)) (net : PlainNet) (policy : PlainPolicy) (what : Said) → Next more net policy what → IsJobSaid Refuses Checks what)
        → (bs : List (List ℕ)) (what : Said) → OfAllTexts Next bs what → IsJobSaid Refuses Checks what
    said_form each [] what h = absurd h
    said_form each (x ∷ []) what h = absurd h
    said_form each (x ∷ y ∷ more) what h = form_of (Next more) Refuses Checks (each more) x y what h

    one_said : ((more : List (List ℕ)) (net : PlainNet) (policy : PlainPolicy) → IsNet net → IsPolicyOf net policy → (one other : Said)
        → Next more net policy one → Next more net policy other → one ≡ other)
        → (bs : List (List ℕ)) (one other : Said) → OfAllTexts Next bs one → OfAllTexts Next bs other → one ≡ other
    one_said each [] one other a b = absurd a
    one_said each (x ∷ []) one other a b = absurd a
    one_said each (x ∷ y ∷ more) one other a b =
        one_of_spelled (Next more) x y (λ net policy net_is policy_is. each more net policy (net_read x net net_is) (read_policies_fit net y policy policy_is)) one other a b

    -- a job, where what follows has such a form and is one thing
    pub job_of : ((more : List (List ℕ)) (net : PlainNet) (policy : PlainPolicy) (what : Said) → Next more net policy what → IsJobSaid Refuses Checks what)
        → ((more : List (List ℕ)) (net : PlainNet) (policy : PlainPolicy) → IsNet net → IsPolicyOf net policy → (one other : Said)
        → Next more net policy one → Next more net policy other → one ≡ other)
        → IsJob Refuses Checks (OfAllTexts Next)
    job_of form one = record { form = said_form form; one = one_said one }

  -- ---- of which network and policy a thing is said

  module _ (holds : Holds) (names : List (List ℕ)) where
    pub record SaidFor (what : Said) : Type 0 where
      pub net : PlainNet
      pub policy : PlainPolicy
      pub spell : SpellFor holds names net policy
      pub says : Next spell.more net policy what

    said_of : (what : Said) (x y : List ℕ) (more : List (List ℕ)) → AllHeld holds names (x ∷ y ∷ more) → OfSpelled (Next more) x y what → SaidFor what
    said_of what x y more held of = record {
      net = of.net;
      policy = of.policy;
      spell = record { topology = x; policy_text = y; more = more; held = held; net_spelled = of.net_spelled; policy_spelled = of.policy_spelled };
      says = of.says;
    }

    -- it is said of some, where it isn't about the texts
    pub said_for : (what : Said) → what.status ≢ BadInput → (bs : List (List ℕ)) → AllHeld holds names bs → OfAllTexts Next bs what → SaidFor what
    said_for what lawful [] held says = absurd says
    said_for what lawful (x ∷ []) held says = absurd says
    said_for what lawful (x ∷ y ∷ more) held says = said_of what x y more held (of_spelled (Next more) x y what lawful says)

    -- and of those that are spelled, where the names are told
    pub told_says : (net : PlainNet) (policy : PlainPolicy) (what : Said) (spell : SpellFor holds names net policy) → SaidOfTold holds names (OfAllTexts Next) what → Next spell.more net policy what
    told_says net policy what spell said =
        at_spelled (Next spell.more) spell.topology spell.policy_text net policy what spell.net_spelled spell.policy_spelled
        (told_is holds names (OfAllTexts Next) (spell.topology ∷ spell.policy_text ∷ spell.more) what spell.held said)

-- ---- where there is no text more

module _ (Next : PlainNet → PlainPolicy → Said → Type 0) where
  alone_form : (Refuses Checks : Type 0) → ((net : PlainNet) (policy : PlainPolicy) (what : Said) → Next net policy what → IsJobSaid Refuses Checks what)
      → (more : List (List ℕ)) (net : PlainNet) (policy : PlainPolicy) (what : Said) → Alone Next more net policy what → IsJobSaid Refuses Checks what
  alone_form Refuses Checks each [] net policy what says = each net policy what says
  alone_form Refuses Checks each (x ∷ more) net policy what says = absurd says

  alone_one : ((net : PlainNet) (policy : PlainPolicy) (one other : Said) → Next net policy one → Next net policy other → one ≡ other)
      → (more : List (List ℕ)) (net : PlainNet) (policy : PlainPolicy) → IsNet net → IsPolicyOf net policy → (one other : Said)
      → Alone Next more net policy one → Alone Next more net policy other → one ≡ other
  alone_one each [] net policy rules fits one other a b = each net policy one other a b
  alone_one each (x ∷ more) net policy rules fits one other a b = absurd a

  pub job_of_two : (Refuses Checks : Type 0) → ((net : PlainNet) (policy : PlainPolicy) (what : Said) → Next net policy what → IsJobSaid Refuses Checks what)
      → ((net : PlainNet) (policy : PlainPolicy) (one other : Said) → Next net policy one → Next net policy other → one ≡ other) → IsJob Refuses Checks (OfTwoTexts Next)
  job_of_two Refuses Checks form one = job_of (Alone Next) Refuses Checks (alone_form Refuses Checks form) (alone_one one)

  -- what is said is said of the network and the policy
  pub alone : (more : List (List ℕ)) (net : PlainNet) (policy : PlainPolicy) (what : Said) → Alone Next more net policy what → Next net policy what
  alone [] net policy what says = says
  alone (x ∷ more) net policy what says = absurd says
