use Rattle.std.proofs.Common.{◌≡◌, ◌++◌, List, length, string_bytes, ap, subst, sym, ◌∙◌, arith, ℕ}
use Rattle.std.specs.Prelude.{IsUtf8}
use Rattle.std.proofs.lemmas.Str.{IsUtf8-string_bytes}
use Rattle.papergrid_print.specs.Printed.{table_sheet}
use Rattle.papergrid_print.proofs.LineSlots.{begun}
use Rattle.papergrid_print.proofs.WrittenBack.{written-back}
use Rattle.papergrid_print.proofs.printer.Printer.push_plain_cells.Goals as goal

pub write_plain_cells-column-requires-clause-line : goal.write_plain_cells-column-requires-clause-line
write_plain_cells-column-requires-clause-line g c =
    let bytes : c.into_bytes-line.result.items ≡ string_bytes c.replace.result = ap (λ v. v.items) c.into_bytes-line.ensures.value in
    let out = string_bytes c.args.out.now in
    let is : c.deref_mut.result.now ≡ out ++ string_bytes c.args.empty.now.line =
    c.deref_mut.ensures.value ∙ (bytes ∙ (ap string_bytes c.replace.ensures.value ∙ (c.in_ok-push_str.ensures.bytes ∙ ap (λ (l : List ℕ). out ++ l) c.deref.ensures))) in
    (out, begun (table_sheet c.args.self.now) c.args.flat.now c.requires.flat c.args.empty.now c.args.i c.requires.one_line.columns out c.deref_mut.result.now is)

pub text_of-requires : goal.text_of-requires
text_of-requires g c =
    let bytes : c.into_bytes-line.result.items ≡ string_bytes c.replace.result = ap (λ v. v.items) c.into_bytes-line.ensures.value in
    let new = c.write_plain_cells-column.new.line in
    let back = written-back c.into_bytes-line.result.len new c.into_bytes-line.result.items (omega (arith, c.write_plain_cells-column.auto.line, ap (λ (l : List ℕ). length l) c.deref_mut.ensures.value)) c.into_bytes-line.result.ok.0 in
    subst IsUtf8 (sym back) (c.write_plain_cells-column.ensures.text (subst IsUtf8 (sym (c.deref_mut.ensures.value ∙ bytes)) (IsUtf8-string_bytes c.replace.result)))

pub returns-clause-line : goal.returns-clause-line
returns-clause-line g c =
    let bytes : c.into_bytes-line.result.items ≡ string_bytes c.replace.result = ap (λ v. v.items) c.into_bytes-line.ensures.value in
    let out = string_bytes c.args.out.now in
    let is : c.deref_mut.result.now ≡ out ++ string_bytes c.args.empty.now.line =
    c.deref_mut.ensures.value ∙ (bytes ∙ (ap string_bytes c.replace.ensures.value ∙ (c.in_ok-push_str.ensures.bytes ∙ ap (λ (l : List ℕ). out ++ l) c.deref.ensures))) in
    let new = c.write_plain_cells-column.new.line in
    let back = written-back c.into_bytes-line.result.len new c.into_bytes-line.result.items (omega (arith, c.write_plain_cells-column.auto.line, ap (λ (l : List ℕ). length l) c.deref_mut.ensures.value)) c.into_bytes-line.result.ok.0 in
    let first = begun (table_sheet c.args.self.now) c.args.flat.now c.requires.flat c.args.empty.now c.args.i c.requires.one_line.columns out c.deref_mut.result.now is in
    λ some. c.text_of.ensures ∙ (back ∙ c.write_plain_cells-column.ensures.line out first some)
