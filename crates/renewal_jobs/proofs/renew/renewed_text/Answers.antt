use Rattle.std.proofs.Common.{inl, inr, refl, sym, subst}
use Rattle.policy_base.specs.Policies.{policy_of}
use Rattle.compile_jobs.specs.Written.{WritesPart}
use Rattle.compile_jobs.specs.declared.written.Part.{Part}
use Rattle.evidence_renewal.proofs.Making.{possible}
use Rattle.renewal_jobs.proofs.renew.renewed_text.Goals as goal

pub returns : goal.returns
returns c =
    let evidence = c.in_ok-evidence.evidence.cases in
    let renewed = c.in_ok-evidence.ensures in
    let there = possible c.args.net.now (policy_of c.args.policy.now) c.args.old.now evidence renewed c.known_net.ensures c.requires in
    let bytes = c.in_ok-print_evidence-in-Evidence.field-0.items in
    let writes : WritesPart c.args.part there.0 evidence bytes =
    subst (λ (p : Part). WritesPart p there.0 evidence bytes) (sym c.in-Evidence.is) c.in_ok-print_evidence-in-Evidence.ensures.text in
    inr (inl (there.0, evidence, bytes, record { evidence = renewed; lines = there.1 }, writes, refl))
