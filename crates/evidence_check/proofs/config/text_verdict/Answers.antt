use Rattle.std.proofs.Common.{List, ap, sym, subst, ◌∙◌, arith, refl}
use Rattle.std.specs.Prelude.{◌≡◌, ℕ}
use Rattle.std.proofs.lemmas.Bool.{true≢false}
use Rattle.policy_base.specs.Policies.{policy_of}
use Rattle.config_base.specs.Configs.{PlainConfig}
use Rattle.config_lines.specs.declared.edition.Edition.TheVariants.{Second}
use Rattle.config_text.specs.ConfigText.{config_text}
use Rattle.config_text.specs.Spelled.{Spells}
use Rattle.config_text.proofs.Lawful.{one_configuration}
use Rattle.text_parts.specs.Difference.{first_difference}
use Rattle.evidence_law.specs.Passes.{Passes}
use Rattle.evidence_check.proofs.AllRules.{are_classes, are_single, are_tags}
use Rattle.evidence_check.proofs.Fold.{holds}
use Rattle.evidence_check.proofs.config.text_verdict.Goals as goal

pub config_of-requires-clause-classes : goal.config_of-requires-clause-classes
config_of-requires-clause-classes c = are_classes c.args.net.now (policy_of c.args.policy.now) c.args.evidence.now c.requires c.known_policy.ensures

pub config_of-requires-clause-single : goal.config_of-requires-clause-single
config_of-requires-clause-single c = are_single c.args.net.now (policy_of c.args.policy.now) c.args.evidence.now c.requires

pub config_of-requires-clause-differ : goal.config_of-requires-clause-differ
config_of-requires-clause-differ c = are_tags c.args.net.now (policy_of c.args.policy.now) c.args.evidence.now c.requires

pub returns-then-is_same_text-clause-verdict : goal.returns-then-is_same_text-clause-verdict
returns-then-is_same_text-clause-verdict c = λ config spells.
    let net = c.args.net.now in
    let policy = policy_of c.args.policy.now in
    let cs = c.args.evidence.now in
    let made = c.in_ok-made.made in
    let there : Spells c.args.text.now made = subst (λ bytes. Spells bytes made) (sym c.deref.ensures.value ∙ c.is_same_text.ensures.0 c.if-is_same_text.true) c.in_ok-wanted.ensures.spells in
    let one : config ≡ made = one_configuration Second c.args.text.now config made spells there in
    subst (λ (d : PlainConfig). Passes net policy d cs) (sym one) (holds net policy cs made c.requires c.in_ok-made.ensures)

pub returns-then-is_same_text-clause-spells : goal.returns-then-is_same_text-clause-spells
returns-then-is_same_text-clause-spells c = λ _.
    let made = c.in_ok-made.made in
    (made, subst (λ bytes. Spells bytes made) (sym c.deref.ensures.value ∙ c.is_same_text.ensures.0 c.if-is_same_text.true) c.in_ok-wanted.ensures.spells)

pub block_of-requires : goal.block_of-requires
block_of-requires c =
    let count = c.in_ok-made.ensures.count in
    let few = c.known_net.ensures.routers in
    omega (arith, count, few)

pub returns-clause-verdict : goal.returns-clause-verdict
returns-clause-verdict c = λ config spells.
    let made = c.in_ok-made.made in
    let wanted = c.in_ok-wanted.ensures.text in
    let apart : made ≡ config → ⊥ = λ same. true≢false (sym (c.is_same_text.ensures.1 (c.deref.ensures.value ∙ wanted ∙ ap config_text same ∙ sym spells.written)) ∙ c.if-is_same_text.false) in
    record {
      earlier = c.requires;
      made = made;
      lines = c.in_ok-made.ensures;
      differs = apart;
      line = c.first_difference-line.ensures
          ∙ ap (λ (xs : List ℕ). first_difference xs c.args.text.now) (c.deref-2.ensures.value ∙ wanted)
          ∙ ap (λ (ys : List ℕ). first_difference (config_text made) ys) spells.written;
      router = c.block_of.ensures;
      no_case = refl;
      no_second = refl;
    }
