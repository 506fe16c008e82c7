use Rattle.std.proofs.Common.{sym, ap, ◌∙◌, subst}
use Rattle.std.specs.List.Sorted.{IsStrictlySortedBy}
use Rattle.std.specs.Ordering.{nat_cmp}
use Rattle.policy_base.specs.Policies.{policy_of}
use Rattle.least_prefixes.specs.Bounds.{has}
use Rattle.least_prefixes.specs.Classes.{AreLeast}
use Rattle.least_prefixes.proofs.Found.{found_least}
use Rattle.least_prefixes.proofs.search.least_prefixes.Goals as goal

pub returns : goal.returns
returns c = λ net kept kept_too.
    let old = policy_of c.args.old.now in
    let new = policy_of c.args.new.now in
    let order = subst (IsStrictlySortedBy nat_cmp) (sym c.deref.ensures.value) c.in_ok-bounds.ensures.order in
    subst (AreLeast old new) (sym (c.in_ok-least.ensures old new c.in_ok-asked.ensures))
    (found_least net old new kept kept_too c.deref.result.now order (λ x. ap (λ v. has v x) c.deref.ensures.value ∙ c.in_ok-bounds.ensures.same x))
