use Rattle.std.proofs.Common.{◌≡◌, ◌<◌, [], ◌∷◌, false, length, replicate, ap, sym, subst, ◌∙◌, arith}
use Rattle.std.specs.List.{AllByRecursion}
use Rattle.list_law.proofs.Each.{AllByRecursion-append_parts}
use Rattle.list_law.proofs.Items.{get_or-replicate_same}
use Rattle.std.proofs.lemmas.List.{length-replicate}
use Rattle.reach_prune.specs.Searches.{is_marked}
use Rattle.node_quotient.specs.Alike.{class_in}
use Rattle.node_quotient.specs.Rounds.{AreClasses}
use Rattle.node_quotient.specs.Partitions.{IsPartition}
use Rattle.node_quotient.proofs.Hits.{split_are_classes}
use Rattle.node_quotient.proofs.partition.split_classes.Goals as goal
use Rattle.node_quotient.proofs.partition.split_classes.Goals.{in-Some+in_ok-split_by, in_default}

pub loop-turn-init : goal.loop-turn-init
loop-turn-init c =
    let given : length c.args.classes.items ≡ length c.nodes-size.result.now = c.requires.given ∙ sym (ap length c.nodes-size.ensures.nodes) in
    let size = length c.nodes-size.result.now in
    let items : c.in_ok-marks.marks.items ≡ replicate size false = c.in_ok-marks.ensures.items_if_clones_equal (λ y clone. clone) in
    record {
      end = omega arith;
      marks = ap length items ∙ length-replicate size false;
      clear = λ n. ap (λ marks. is_marked marks n) items ∙ get_or-replicate_same size n false;
      partition = subst (λ n. IsPartition n c.in_ok-partition.partition) given c.in_ok-partition.ensures.partition;
      classes = subst (λ xs. AreClasses c.args.graph.now (class_in xs)) (sym c.in_ok-partition.ensures.classes) c.requires.classes;
    }

pub loop-turn-preserved : goal.loop-turn-preserved
loop-turn-preserved c =
    let g = c.args.graph.now in
    let inv = c.loop-turn.invariant in
    let size : length c.nodes-size.result.now ≡ length g.nodes = ap length c.nodes-size.ensures.nodes in
    let rows : length c.args.before.now ≡ length c.nodes-size.result.now = c.requires.size ∙ sym size in
    elim c.match-pop.branch [
      | in-Some+in_ok-split_by w ↦
          let old = subst (λ n. IsPartition n c.loop-turn.partition) size inv.partition in
          let new = subst (λ n. IsPartition n w.split_by.new.self) c.requires.size w.in_ok-split_by.ensures.partition in
          record {
            end = omega (arith, c.loop-turn-test.true);
            marks = rw w.marks-is (w.in_ok-split_by.ensures.marks ∙ rows);
            clear = rw w.marks-is w.in_ok-split_by.ensures.clear;
            partition = rw w.partition-is (subst (λ n. IsPartition n w.split_by.new.self) rows w.in_ok-split_by.ensures.partition);
            classes =
                rw w.partition-is
                (split_are_classes g c.requires.graph c.requires.single c.args.before.now c.requires.steps c.loop-turn.partition.classes.items
                c.loop-turn.partition.members.items old.groups inv.classes
                w.in-Some.class w.split_by.new.self.classes.items old.size new.size new.named w.in_ok-split_by.ensures.classes);
          }
      | in_default w ↦ record {
        end = omega (arith, c.loop-turn-test.true);
        marks = rw w.marks-is inv.marks;
        clear = rw w.marks-is inv.clear;
        partition = rw w.partition-is (record {
          size = inv.partition.size;
          rows = inv.partition.rows;
          waits = inv.partition.waits;
          met = inv.partition.met;
          waiting =
              (AllByRecursion-append_parts (λ n. n < length c.nodes-size.result.now) c.pop.new.self.items _
              (subst (AllByRecursion (λ n. n < length c.nodes-size.result.now)) w.in_default.ensures.items inv.partition.waiting)).0;
          named = inv.partition.named;
          groups = inv.partition.groups;
        });
        classes = rw w.partition-is inv.classes;
      }
    ]

pub split_by-requires-clause-class : goal.split_by-requires-clause-class
split_by-requires-clause-class c =
    let size = length c.nodes-size.result.now in
    let rows : length c.args.before.now ≡ size = c.requires.size ∙ sym (ap length c.nodes-size.ensures.nodes) in
    let waiting = subst (AllByRecursion (λ n. n < size)) c.in-Some.ensures.items c.loop-turn.invariant.partition.waiting in
    omega (arith, rows, (AllByRecursion-append_parts (λ n. n < size) c.pop.new.self.items (c.in-Some.class ∷ []) waiting).1.0)

pub split_by-requires-clause-partition : goal.split_by-requires-clause-partition
split_by-requires-clause-partition c =
    let inv = c.loop-turn.invariant.partition in
    let size = length c.nodes-size.result.now in
    let rows : size ≡ length c.args.before.now = ap length c.nodes-size.ensures.nodes ∙ sym c.requires.size in
    let waiting = subst (AllByRecursion (λ n. n < size)) c.in-Some.ensures.items inv.waiting in
    subst (λ n. IsPartition n (record {
      classes = c.loop-turn.partition.classes;
      members = c.loop-turn.partition.members;
      waiting = c.pop.new.self;
      waits = c.loop-turn.partition.waits;
      met = c.loop-turn.partition.met;
    })) rows (record {
      size = inv.size;
      rows = inv.rows;
      waits = inv.waits;
      met = inv.met;
      waiting = (AllByRecursion-append_parts (λ n. n < size) c.pop.new.self.items (c.in-Some.class ∷ []) waiting).0;
      named = inv.named;
      groups = inv.groups;
    })

pub returns-clause-size : goal.returns-clause-size
returns-clause-size c = c.loop-turn.invariant.partition.size ∙ ap length c.nodes-size.ensures.nodes

pub returns-clause-classes : goal.returns-clause-classes
returns-clause-classes c = c.loop-turn.invariant.classes
