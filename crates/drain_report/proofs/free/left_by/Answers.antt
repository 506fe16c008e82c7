use Rattle.std.proofs.Common.{◌≡◌, ℕ, Bool, true, false, ap, ◌∙◌}
use Rattle.std.specs.Prelude.{◌&&◌, not}
use Rattle.std.proofs.Math.Bool.{and-true}
use Rattle.net_base.specs.Network.{linked}
use Rattle.net_base.specs.Sets.{holds}
use Rattle.scenarios.specs.Links.{has_link}
use Rattle.scenarios.proofs.Members.{any-members}
use Rattle.drain_report.proofs.free.left_by.Goals as goal

bare : (l h x y : Bool) → l ≡ true → x ≡ false → y ≡ false → (l && not h && not x && not y) ≡ not h
bare l h x y a b c = rw (a, b, c) (and-true (not h && true) ∙ and-true (not h))

pub returns : goal.returns
returns c = λ a b on.
    let net = c.args.net.now in
    let left = c.new-3.result in
    let alive : (l : ℕ) → holds left.dead l ≡ false = λ l. c.new-3.ensures.dead l ∙ any-members c.new.result l ∙ c.new.ensures.holds l in
    bare (linked net a b) (has_link net left.cut a b) (holds left.dead a) (holds left.dead b) on (alive a) (alive b) ∙ ap not (c.new-3.ensures.cut a b on)
