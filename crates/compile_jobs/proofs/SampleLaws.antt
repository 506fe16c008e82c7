-- The job of a sample.
use Rattle.std.proofs.Common.{◌≡◌, ℕ, List, [], sym, ◌∙◌, refl, subst}
use Rattle.net_base.specs.Network.{PlainNet}
use Rattle.policy_base.specs.Policies.{PlainPolicy}
use Rattle.config_base.specs.Configs.{PlainConfig}
use Rattle.evidence_base.specs.Made.{PlainCaseEvidence}
use Rattle.sample_network.specs.Network.{sample_net}
use Rattle.sample_network.specs.SamplePolicy.{sample_policy}
use Rattle.run_base.specs.Reading.{Holds}
use Rattle.run_base.specs.Said.{IsGiven, Said}
use Rattle.run_base.proofs.Jobs.{IsJob, err_is}
use Rattle.compile_jobs.specs.Compiling.{SaysOfCompiled}
use Rattle.compile_jobs.specs.Sampled.{SaysOfNumber, WritesSummary}
use Rattle.compile_jobs.proofs.Compiling.{AnyText, IsCompiler, any_text, compiled_form, one_of_compiled, refusal_said}

-- what is given of the network and the policy of the sample is given of its number
pub given_for : (n : ℕ) (net : PlainNet) (policy : PlainPolicy) → net ≡ sample_net n → policy ≡ sample_policy n → (what : Said)
    → IsGiven (SaysOfCompiled (WritesSummary n) net policy) what → IsGiven (SaysOfNumber n) what
given_for n net policy net_is policy_is what given =
    subst (λ (x : PlainNet). IsGiven (SaysOfCompiled (WritesSummary n) x (sample_policy n)) what) net_is
    (subst (λ (p : PlainPolicy). IsGiven (SaysOfCompiled (WritesSummary n) net p) what) policy_is given)

-- these are the network and the policy of the sample
abbrev pub AreSample : ℕ → PlainNet → PlainPolicy → Type 0
AreSample n net policy = (net ≡ sample_net n) × (policy ≡ sample_policy n)

-- evidence has one summary
one_text : (n : ℕ) (config : PlainConfig) (evidence : List PlainCaseEvidence) (one other : List ℕ) → WritesSummary n config evidence one → WritesSummary n config evidence other → one ≡ other
one_text n config evidence one other a b = a ∙ sym b

pub sample_job : (n : ℕ) (Refuses Checks : Type 0) → Refuses → IsJob Refuses Checks (λ bs. SaysOfNumber n)
sample_job n Refuses Checks refuses = record {
  form = λ bs what says. compiled_form (WritesSummary n) Refuses Checks refuses (sample_net n) (sample_policy n) what says;
  one = λ bs one other. one_of_compiled (WritesSummary n) (sample_net n) (sample_policy n) (λ config evidence compiled. one_text n config evidence) one other;
}

module _ (holds : Holds) (n : ℕ) where
  of_sample : (net : PlainNet) (policy : PlainPolicy) → AreSample n net policy → (what : Said) → SaysOfNumber n what → SaysOfCompiled AnyText net policy what
  of_sample net policy are what says =
      let any = any_text (WritesSummary n) (sample_net n) (sample_policy n) what says in
      subst (λ (p : PlainPolicy). SaysOfCompiled AnyText net p what) (sym are.1) (subst (λ (x : PlainNet). SaysOfCompiled AnyText x (sample_policy n) what) (sym are.0) any)

  pub sample_compiler : IsCompiler holds [] (λ bs. SaysOfNumber n) (AreSample n)
  sample_compiler = record {
    refusal = λ bs l held says.
        let r = refusal_said (WritesSummary n) (sample_net n) (sample_policy n) l says in
        record { net = sample_net n; policy = sample_policy n; asked = (refl, refl); refusal = r.0; refused = r.1; told = err_is _ _ r.2 };
    told = λ net policy are what says. of_sample net policy are what says;
  }
