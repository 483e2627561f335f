use Rattle.std.proofs.Common.{◌≡◌, ◌++◌, arith, length, rules, string_bytes}
use Rattle.papergrid_picture.specs.Frame.{Row}
use Rattle.papergrid_print.specs.Sheets.{sheet_line}
use Rattle.papergrid_print.specs.Printed.{table_sheet}
use Rattle.papergrid_print.proofs.Laid.{laid-begins, laid-ends}
use Rattle.papergrid_print.proofs.Writes.{on-pushed}
use Rattle.papergrid_print.proofs.printer.Printer.push_laid_line.Goals as goal

pub loop-j-init : goal.loop-j-init
loop-j-init g c =
    let sheet = table_sheet c.args.self.now in
    record {
      laid = λ some. laid-begins sheet c.args.flat.now c.requires.even c.args.empty.now some c.args.i c.args.y c.args.self.now.printable.columns (string_bytes c.args.out.now) _ c.as_str-left.ensures.value;
      utf8 = c.as_str-left.utf8;
    }

pub push_laid_part-requires-clause-laid : goal.push_laid_part-requires-clause-laid
push_laid_part-requires-clause-laid g c = (string_bytes c.args.out.now, c.loop-j.invariant.laid)

pub loop-j-preserved : goal.loop-j-preserved
loop-j-preserved g c = record {
  laid = c.in_ok-left.ensures (string_bytes c.args.out.now) c.loop-j.invariant.laid;
  utf8 = search rules;
}

pub returns : goal.returns
returns g c =
    let sheet = table_sheet c.args.self.now in
    let some = c.requires.empty_row in
    let end : c.loop-j.j ≡ length c.args.self.now.widths.now = omega (arith, c.loop-j-test.false, c.loop-j.auto.j-end) in
    let out = string_bytes c.loop-j.out in
    on-pushed c.push_str.result (string_bytes c.push_str.new.self) (out ++ c.loop-j.left.now) out (string_bytes c.args.out.now ++ sheet_line sheet (Row c.args.i) c.args.y)
    (laid-ends sheet c.args.flat.now c.requires.even c.args.empty.now some c.args.i c.args.y c.loop-j.j end (string_bytes c.args.out.now) out c.loop-j.left.now (c.loop-j.invariant.laid some)) c.push_str.ensures.bytes
