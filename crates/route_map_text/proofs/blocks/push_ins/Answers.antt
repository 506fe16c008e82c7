use Rattle.std.proofs.Common.{arith}
use Rattle.config_base.specs.declared.config.Import.{Import}
use Rattle.config_text.specs.ConfigLines.{import_of}
use Rattle.route_map_text.proofs.PrintLaws.{entry_more}
use Rattle.route_map_text.proofs.blocks.push_ins.Goals as goal

pub loop-rule-preserved : goal.loop-rule-preserved
loop-rule-preserved c =
    let zero : Import = record { class = 0; tag = record { asn = 0; value = 0 }; set = record { asn = 0; value = 0 }; pref = 0 } in
    record {
      number = omega (arith, c.in_ok-number.ensures, c.loop-rule.invariant.number);
      text =
          entry_more (import_of c.args.peer) c.args.rules.now c.loop-rule.rule-index zero c.loop-rule.number c.args.text.now.items
          c.loop-rule.text.items c.push_in.new.text.items c.loop-rule-test.true c.loop-rule.invariant.number c.loop-rule.invariant.text
          c.in_ok-push_in.ensures;
    }
