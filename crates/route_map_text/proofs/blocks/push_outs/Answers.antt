use Rattle.std.proofs.Common.{arith}
use Rattle.config_base.specs.declared.config.Export.{Export}
use Rattle.config_lines.specs.declared.line.Line.TheVariants as line
use Rattle.route_map_text.proofs.PrintLaws.{entry_more}
use Rattle.route_map_text.proofs.blocks.push_outs.Goals as goal

pub loop-export-preserved : goal.loop-export-preserved
loop-export-preserved c =
    let zero : Export = record { class = 0; tag = record { asn = 0; value = 0 } } in
    record {
      number = omega (arith, c.in_ok-number.ensures, c.loop-export.invariant.number);
      text =
          entry_more line.Export c.args.exports.now c.loop-export.export-index zero c.loop-export.number c.args.text.now.items
          c.loop-export.text.items c.push_out.new.text.items c.loop-export-test.true c.loop-export.invariant.number c.loop-export.invariant.text
          c.in_ok-push_out.ensures;
    }
