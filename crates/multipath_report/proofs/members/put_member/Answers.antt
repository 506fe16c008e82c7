use Rattle.std.proofs.Common.{ap, sym, ◌∙◌}
use Rattle.std.specs.Prelude.{◌==◌, ◌&&◌, ◌||◌}
use Rattle.location_names.specs.Neighbours.{is_held}
use Rattle.multipath_report.specs.Members.{member_in}
use Rattle.multipath_report.proofs.Listing.{put_there}
use Rattle.multipath_report.proofs.members.put_member.Goals as goal

pub returns-then-is_member-clause-sets : goal.returns-then-is_member-clause-sets
returns-then-is_member-clause-sets c = λ x l.
    let m = member_in c.args.situation.now c.args.at c.args.next in
    let here = x == c.args.at && l == c.args.next in
    c.put.ensures.sets x l ∙ ap (λ b. is_held c.args.sets.now x l || b) (put_there m here (sym c.is_member.ensures ∙ c.if-is_member.true))
