use Rattle.std.proofs.Common.{ap, inl, inr, length, map, subst, sym, ◌++◌, ◌∙◌, List}
use Rattle.std.proofs.lemmas.Bool.{cases_lt}
use Rattle.policy_base.specs.Policies.{policy_of}
use Rattle.compare_base.specs.declared.pairs.Pair.{Pair}
use Rattle.policy_pairs.specs.Groups.{other_pair}
use Rattle.policy_pairs.specs.Pairs.{ArePairs}
use Rattle.policy_pairs.proofs.FoundPairs.{pairs_with_peers, pairs_without_peers}
use Rattle.policy_pairs.proofs.pairs.policy_pairs.Goals as goal

pub add_announced_pairs-requires-clause-kept : goal.add_announced_pairs-requires-clause-kept
add_announced_pairs-requires-clause-kept c = (c.args.net.now, c.requires.old, c.requires.new)

pub returns : goal.returns
returns c =
    let net = c.args.net.now in
    let old = policy_of c.args.old.now in
    let new = policy_of c.args.new.now in
    let front = c.in_ok-pairs.ensures in
    elim (cases_lt 0 (length net.peers)) [
      | inl some ↦
          let more = c.in_ok-add_announced_pairs.ensures.peers some in
          subst (ArePairs net old new) (sym (more.2 ∙ ap (λ (ps : List Pair). ps ++ map (other_pair old new) more.0) front.2))
          (pairs_with_peers net old new c.requires.old c.requires.new front.0 front.1 more.0 some more.1)
      | inr none ↦
          subst (ArePairs net old new) (sym (c.in_ok-add_announced_pairs.ensures.no_peers none ∙ front.2))
          (pairs_without_peers net old new c.requires.old c.requires.new front.0 front.1 none)
    ]
