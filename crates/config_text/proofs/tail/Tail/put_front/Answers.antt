use Rattle.std.proofs.Common.{◌≡◌, ℕ, ◌+◌, ◌-◌, ◌≤◌, List, ◌++◌, codes, length, drop, ap, ap₂, ◌∙◌, length-drop, arith}
use Rattle.std.specs.Fmt.{decimal}
use Rattle.config_text.proofs.Tails.{rest_before}
use Rattle.config_text.proofs.tail.Tail.put_front.Goals as goal

pub returns-clause-text : goal.returns-clause-text
returns-clause-text c =
    let bytes : List ℕ = c.self.inside.bytes in
    let end : ℕ = c.self.inside.start in
    let front = c.front.inside in
    let copied : c.copy_from_slice.new.self ≡ front.bytes = c.copy_from_slice.ensures.after in
    let room : 16 ≤ end = omega (arith, c.requires, ap length c.self.view_is, length-drop end bytes, c.self.told) in
    let back : end - 16 + (end - (end - 16)) ≡ end = omega (arith, room) in
    let begun : drop front.start c.copy_from_slice.new.self ≡ decimal c.args.front.now ++ codes ":0:" =
    ap (drop front.start) copied ∙ c.front.invariant.1 ∙ ap (λ n. decimal n ++ codes ":0:") c.front.view_is in
    rest_before (end - 16) (end - (end - 16)) front.start bytes c.copy_from_slice.new.self (omega (arith, c.self.invariant, c.self.told))
    (omega (arith, c.front.invariant.0, ap length copied, c.front.told))
    ∙ ap₂ (λ (u v : List ℕ). u ++ v) begun (ap (λ n. drop n bytes) back ∙ c.self.view_is)
