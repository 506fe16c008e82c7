use Rattle.std.proofs.Common.{◌≡◌, ◌∙◌, sym, ap, subst}
use Rattle.policy_base.specs.Policies.{policy_of}
use Rattle.evidence_base.specs.Made.{IsConfigOf}
use Rattle.config_maker.specs.Writing.{routers_of}
use Rattle.config_maker.proofs.Finish.{few_cases, made_kept, made_of_cases}
use Rattle.config_maker.proofs.make.config_of.Goals as goal

pub returns : goal.returns
returns c =
    let routers : c.in_ok-routers.routers ≡ routers_of c.args.net.now c.settle_hops.new.hops.items c.settle_announced.new.all.items =
    c.in_ok-routers.ensures.routers
    ∙ ap (λ hs. routers_of c.args.net.now hs c.deref-2.result.now) c.deref.ensures.value
    ∙ ap (routers_of c.args.net.now c.settle_hops.new.hops.items) c.deref-2.ensures.value in
    subst (IsConfigOf c.args.net.now (policy_of c.args.policy.now) c.args.evidence.now) (sym c.new.ensures)
    (made_of_cases c.args.net.now c.in_ok-routers.ensures.net (policy_of c.args.policy.now) c.args.evidence.now c.requires.classes
    c.in_ok-hops.ensures.graphs c.requires.single c.requires.differ c.in_ok-hops.hops.items c.settle_hops.new.hops.items c.in_ok-hops.ensures.hops
    c.in_ok-hops.ensures.fits c.in_ok-settle_hops.ensures.same c.in_ok-settle_hops.ensures.order
    c.in_ok-announced.announced.items c.settle_announced.new.all.items c.in_ok-announced.ensures c.settle_announced.ensures.same
    c.settle_announced.ensures.order c.in_ok-classes.classes c.in_ok-routers.routers c.in_ok-classes.ensures routers)

pub new-requires : goal.new-requires
new-requires c =
    let routers : c.in_ok-routers.routers ≡ routers_of c.args.net.now c.settle_hops.new.hops.items c.settle_announced.new.all.items =
    c.in_ok-routers.ensures.routers
    ∙ ap (λ hs. routers_of c.args.net.now hs c.deref-2.result.now) c.deref.ensures.value
    ∙ ap (routers_of c.args.net.now c.settle_hops.new.hops.items) c.deref-2.ensures.value in
    made_kept c.args.net.now c.in_ok-routers.ensures.net (policy_of c.args.policy.now) c.args.evidence.now c.requires.classes
    c.in_ok-hops.ensures.graphs c.requires.single c.requires.differ c.in_ok-hops.hops.items c.settle_hops.new.hops.items c.in_ok-hops.ensures.hops
    c.in_ok-hops.ensures.fits c.in_ok-settle_hops.ensures.same c.in_ok-settle_hops.ensures.order
    c.in_ok-announced.announced.items c.settle_announced.new.all.items c.in_ok-announced.ensures c.settle_announced.ensures.same
    c.settle_announced.ensures.order c.in_ok-classes.classes c.in_ok-routers.routers c.in_ok-classes.ensures routers

pub all_hops-requires : goal.all_hops-requires
all_hops-requires c = few_cases (policy_of c.args.policy.now) c.args.evidence.now c.requires.classes

pub all_announced-requires : goal.all_announced-requires
all_announced-requires c = few_cases (policy_of c.args.policy.now) c.args.evidence.now c.requires.classes
