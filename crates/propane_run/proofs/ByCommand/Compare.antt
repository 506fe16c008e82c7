-- What a run of `compare` has written: the comparison of the policies that it read, or the limit that is passed.
use Rattle.std.proofs.Common.{◌≡◌, ◌≢◌, ◌⊎◌, ℕ, List, [], ◌∷◌, Option, inl, inr, refl, subst}
use Rattle.input_output.specs.Outside.{Rose}
use Rattle.net_base.specs.Network.{PlainNet, IsNet}
use Rattle.policy_base.specs.Policies.{IsPolicyOf, PlainPolicy}
use Rattle.policy_parser.proofs.FittingPolicies.{read_policies_fit}
use Rattle.policy_law.proofs.OriginSets.{origins_are_sets}
use Rattle.policy_law.proofs.Texts.{policies_are_meant, policy_is_spelled}
use Rattle.comparison_law.specs.Laws.{HaveSets}
use Rattle.comparison_maker.specs.declared.refusal.ComparisonRefusal.{ComparisonRefusal}
use Rattle.compare_jobs.specs.Compared.{IsPastLimit, SaysOfPolicies, SaysOfTexts}
use Rattle.compare_jobs.specs.Refused.{refusal_line}
use Rattle.compare_jobs.proofs.CompareLaws.{at_policies, ends_refused, ends_well, of_policies}
use Rattle.compare_jobs.proofs.Telling.{same_policies, told as differing, unchanged_texts, untold}
use Rattle.input_texts.proofs.Asking.{net_of_spelled}
use Rattle.input_texts.specs.Asked.{SpellFor}
use Rattle.run_base.specs.declared.outcome.Status.{Status}
use Rattle.run_base.specs.declared.outcome.Status.TheVariants.{BadInput, Done, NoMemory, Refused}
use Rattle.run_base.specs.Reading.{Holds, AllHeld, SaidOfTold}
use Rattle.run_base.specs.Said.{Said, text, line, Whole, Delivered}
use Rattle.run_base.proofs.Jobs.{err_is, out_is, status_is}
use Rattle.run_base.proofs.Sent.{Gives, line_sent, text_sent}
use Rattle.run_base.proofs.Told.{told_is}
use Rattle.propane_run.specs.declared.command.Command.{Command}
use Rattle.propane_run.specs.declared.command.Command.TheVariants.{Compare}
use Rattle.propane_run.specs.Asked.{AsksCompare}
use Rattle.propane_run.specs.Comparing.{ComparesRight, TellsComparisonLimit}
use Rattle.propane_run.specs.Run.{Comes, Job}
use Rattle.propane_run.specs.Words.{names_read}
use Rattle.propane_run.proofs.Asking.{asks_for, spells}

module _ (holds : Holds) (words : List (List ℕ)) where
  -- the command
  abbrev c : Command
  c = Compare

  -- of which policies a thing is said
  record SaidFor (what : Said) : Type 0 where
    net : PlainNet
    old : PlainPolicy
    new : PlainPolicy
    rules : IsNet net
    asked : AsksCompare holds words net old new
    says : SaysOfPolicies net old new what

  said_for : (what : Said) → what.status ≢ BadInput → Comes holds words c what → SaidFor what
  said_for what lawful comes =
      let f = of_policies comes.bytes what lawful comes.says in
      let P : List (List ℕ) → Type 0 = AllHeld holds (names_read words c) in
      let spell : SpellFor holds (names_read words c) f.net f.old = record {
        topology = f.topology;
        policy_text = f.old_text;
        more = f.new_text ∷ [];
        held = subst P f.texts comes.held;
        net_spelled = f.net_spelled;
        policy_spelled = f.old_spelled;
      } in
      record {
        net = f.net;
        old = f.old;
        new = f.new;
        rules = net_of_spelled spell;
        asked =
            record {
              asked = asks_for holds words c f.net f.old comes.is spell;
              new_text = f.new_text;
              more = refl;
              new_meant = policies_are_meant f.net f.new_text f.new f.new_spelled;
            };
        says = f.says;
      }

  -- the origins of what was read are sets
  old_sets : (net : PlainNet) (old new : PlainPolicy) → AsksCompare holds words net old new → HaveSets old
  old_sets net old new asks o at = origins_are_sets net asks.asked.policy_text old o asks.asked.policy_meant at

  new_sets : (net : PlainNet) (old new : PlainPolicy) → AsksCompare holds words net old new → HaveSets new
  new_sets net old new asks o at = origins_are_sets net asks.new_text new o asks.new_meant at

  module _ {S : Type 0} (taken : S → Option (List ℕ)) (before now : S) (b : List ℕ) (written : Whole taken b before now) where
    right_of : (net : PlainNet) (old new : PlainPolicy) → IsNet net → AsksCompare holds words net old new → SaysOfPolicies net old new (text b) → ComparesRight holds taken words before now
    right_of net old new rules asks (inl h) =
        record {
          net = net;
          old = old;
          new = new;
          asked = asks;
          bytes = h.0;
          written = rw (out_is _ _ h.2) at written;
          compared = h.1;
          unchanged = λ n fits is. unchanged_texts net old new h.0 n rules h.1 fits is;
          same = λ all. same_policies net old new h.0 rules (old_sets net old new asks) (new_sets net old new asks) h.1 all;
          untold = λ p prefix none. untold net old new h.0 p rules h.1 prefix none;
          told = λ x at changed. differing net old new h.0 x rules (old_sets net old new asks) (new_sets net old new asks) h.1 at changed;
        }
    right_of net old new rules asks (inr h) = absurd (let s = status_is _ _ h.2 in cc)

    -- what it writes is the comparison of what it read
    pub right : Comes holds words c (text b) → ComparesRight holds taken words before now
    right comes = let f = said_for (text b) (λ x. cc) comes in right_of f.net f.old f.new f.rules f.asked f.says

    limit_of : (net : PlainNet) (old new : PlainPolicy) → AsksCompare holds words net old new → SaysOfPolicies net old new (line Refused b) → TellsComparisonLimit holds taken words before now
    limit_of net old new asks (inl h) = absurd (let s = status_is _ _ h.2 in cc)
    limit_of net old new asks (inr h) =
        record { net = net; old = old; new = new; asked = asks; refusal = h.0; past = h.1; written = rw (err_is _ _ h.2) at written }

    -- a limit that is told is passed
    pub refused : Comes holds words c (line Refused b) → TellsComparisonLimit holds taken words before now
    refused comes = let f = said_for (line Refused b) (λ x. cc) comes in limit_of f.net f.old f.new f.asked f.says

  -- ---- where the inputs are told

  module _ (net : PlainNet) (old new : PlainPolicy) (asks : AsksCompare holds words net old new) {O E : Type 0} (ot : O → Option (List ℕ)) (of : O → ℕ)
      (et : E → Option (List ℕ)) (ef : E → ℕ) (out out' : O) (err err' : E) (ended : Status) where
    -- both policies fit the network
    old_kept : IsPolicyOf net old
    old_kept = let spell = spells holds words c net old asks.asked in read_policies_fit net spell.policy_text old spell.policy_spelled

    new_kept : IsPolicyOf net new
    new_kept = read_policies_fit net asks.new_text new (policy_is_spelled net asks.new_text new asks.new_meant)

    told : (wanted : Said) → SaidOfTold holds (names_read words c) (Job c) wanted → SaysOfPolicies net old new wanted
    told wanted said =
        let spell = spells holds words c net old asks.asked in
        let P : List (List ℕ) → Type 0 = λ more. AllHeld holds (names_read words c) (spell.topology ∷ spell.policy_text ∷ more) in
        at_policies spell.topology spell.policy_text asks.new_text net old new wanted spell.net_spelled spell.policy_spelled
        (policy_is_spelled net asks.new_text new asks.new_meant)
        (told_is holds (names_read words c) SaysOfTexts (spell.topology ∷ spell.policy_text ∷ asks.new_text ∷ []) wanted (subst P asks.more spell.held) said)

    done_by : ((e : ComparisonRefusal) → IsPastLimit net old new e → ⊥) → (Rose (of out) (of out') → ⊥) → (wanted : Said) → SaysOfPolicies net old new wanted
        → Delivered ot of et ef wanted out out' err err' ended → ended ≡ Done
    done_by none calm wanted says sent =
        let well = ends_well net old new wanted none says in
        let is = well.2 in
        text_sent ot of et ef out out' err err' ended well.0 calm (rw is at sent)

    pub compared_where : ((e : ComparisonRefusal) → IsPastLimit net old new e → ⊥) → (Rose (of out) (of out') → ⊥)
        → Gives ot of et ef out out' err err' ended (SaidOfTold holds (names_read words c) (Job c)) → (ended ≡ NoMemory) ⊎ (ended ≡ Done)
    compared_where none calm (inl m) = inl m
    compared_where none calm (inr w) = inr (done_by none calm w.0 (told w.0 w.1) w.2)

    pub limited_where : (e : ComparisonRefusal) → IsPastLimit net old new e → (Rose (ef err) (ef err') → ⊥)
        → Gives ot of et ef out out' err err' ended (SaidOfTold holds (names_read words c) (Job c))
        → (ended ≡ NoMemory) ⊎ (ended ≡ Refused) × Whole et (refusal_line net e) err err' × (out' ≡ out)
    limited_where e past calm (inl m) = inl m
    limited_where e past calm (inr w) =
        let is = ends_refused net old new old_kept new_kept e w.0 past (told w.0 w.1) in
        inr (line_sent ot of et ef out out' err err' ended Refused (refusal_line net e) calm (subst (λ x. Delivered ot of et ef x out out' err err' ended) is w.2))
