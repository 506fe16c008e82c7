use Rattle.std.proofs.Common.{ap, sym, ◌∙◌, ◌≡◌, ◌<◌, ◌≤◌, true, map, subst, length}
use Rattle.std.proofs.lemmas.Bool.{and_from}
use Rattle.std.proofs.lemmas.Result.{IfOk-weaker}
use Rattle.std.specs.List.{list_any}
use Rattle.std.specs.Prelude.{slice_index_or}
use Rattle.path_terms.specs.Joined.{is_whole}
use Rattle.path_terms.specs.Terms.{are_known, at, ascending, is_sound, node}
use Rattle.path_terms.specs.Values.{values}
use Rattle.path_terms.proofs.Joins.{joined-absorbed, joined-made, made-more, made-none, made-one, sound-term}
use Rattle.path_terms.proofs.Members.{known-settled, known-first}
use Rattle.path_terms.proofs.join.joined.Goals as goal

pub is_whole_among-requires : goal.is_whole_among-requires
is_whole_among-requires c =
    let k = length (values c.args.terms.now) in
    let known = known-settled k c.in_ok-all.all.items c.settle.new.numbers.items c.settle.ensures c.in_ok-all.ensures.known in
    record { known = subst (λ l. are_known k l ≡ true) (sym c.deref.ensures.value) known }

pub returns-then-is_whole_among-clause-made : goal.returns-then-is_whole_among-clause-made
returns-then-is_whole_among-clause-made c =
    let j = c.args.join in
    let vs = values c.args.terms.now in
    let ns = c.settle.new.numbers.items in
    let there = ap (λ l. list_any (is_whole j) (map (at vs) l)) (sym c.deref.ensures.value) ∙ sym c.is_whole_among.ensures ∙ c.if-is_whole_among.true in
    IfOk-weaker c.whole.result _ _
    (λ n e. e ∙ joined-absorbed j vs c.in_ok-all.all.items ns c.args.members.now c.settle.ensures c.in_ok-all.ensures.same there)
    c.whole.ensures.made

pub intern-requires : goal.intern-requires
intern-requires c =
    let k = length (values c.args.terms.now) in
    let ns = c.settle.new.numbers.items in
    let known = known-settled k c.in_ok-all.all.items ns c.settle.ensures c.in_ok-all.ensures.known in
    let sound = sound-term k c.args.join c.settle.new.numbers (and_from (are_known k ns) (ascending ns) known c.settle.ensures.0) in
    record { sound = subst (λ t. is_sound k t ≡ true) (sym c.term.ensures) sound }

pub returns-in-empty-clause-made : goal.returns-in-empty-clause-made
returns-in-empty-clause-made c =
    let j = c.args.join in
    let vs = values c.args.terms.now in
    let ns = c.settle.new.numbers.items in
    let there = ap (λ l. list_any (is_whole j) (map (at vs) l)) (sym c.deref.ensures.value) ∙ sym c.is_whole_among.ensures ∙ c.if-is_whole_among.false in
    let few = subst (λ l. length l < 1) c.as_slice.ensures.value c.in-empty.len_below in
    IfOk-weaker c.nothing.result _ _
    (λ n e. e ∙ made-none j vs ns few ∙ joined-made j vs c.in_ok-all.all.items ns c.args.members.now c.settle.ensures c.in_ok-all.ensures.same there)
    c.nothing.ensures.made

pub returns-in-len1-clause-made : goal.returns-in-len1-clause-made
returns-in-len1-clause-made c =
    let j = c.args.join in
    let vs = values c.args.terms.now in
    let ns = c.settle.new.numbers.items in
    let there = ap (λ l. list_any (is_whole j) (map (at vs) l)) (sym c.deref.ensures.value) ∙ sym c.is_whole_among.ensures ∙ c.if-is_whole_among.false in
    let some = subst (λ l. 1 ≤ length l) c.as_slice.ensures.value c.in-len1.len_at_least in
    let few = subst (λ l. length l < 2) c.as_slice.ensures.value c.in-len1.len_below in
    ap (λ l. at vs (slice_index_or l 0 0)) c.as_slice.ensures.value ∙ made-one j vs ns some few
    ∙ joined-made j vs c.in_ok-all.all.items ns c.args.members.now c.settle.ensures c.in_ok-all.ensures.same there

pub returns-in-len1-clause-known : goal.returns-in-len1-clause-known
returns-in-len1-clause-known c =
    let k = length (values c.args.terms.now) in
    let ns = c.settle.new.numbers.items in
    let some = subst (λ l. 1 ≤ length l) c.as_slice.ensures.value c.in-len1.len_at_least in
    let known = known-settled k c.in_ok-all.all.items ns c.settle.ensures c.in_ok-all.ensures.known in
    subst (λ l. slice_index_or l 0 0 < k) (sym c.as_slice.ensures.value) (known-first k ns some known)

pub returns-in_default-clause-made : goal.returns-in_default-clause-made
returns-in_default-clause-made c =
    let j = c.args.join in
    let vs = values c.args.terms.now in
    let all = c.settle.new.numbers in
    let there = ap (λ l. list_any (is_whole j) (map (at vs) l)) (sym c.deref.ensures.value) ∙ sym c.is_whole_among.ensures ∙ c.if-is_whole_among.false in
    let many = subst (λ l. 2 ≤ length l) c.as_slice.ensures.value c.in_default.len_at_least in
    let known = known-settled (length vs) c.in_ok-all.all.items all.items c.settle.ensures c.in_ok-all.ensures.known in
    IfOk-weaker c.intern.result _ _
    (λ n e. e ∙ ap (node vs) c.term.ensures ∙ made-more j vs all c.args.terms.now.apart many known c.settle.ensures.0
    ∙ joined-made j vs c.in_ok-all.all.items all.items c.args.members.now c.settle.ensures c.in_ok-all.ensures.same there)
    c.intern.ensures.made
