use Rattle.std.proofs.Common.{◌≡◌, ◌+◌, ◌++◌, drop, string_bytes, take, ap, subst, sym, ◌∙◌, arith}
use Rattle.std.specs.String.Boundary.{IsSplitPoint}
use Rattle.std.proofs.lemmas.List.{drop-drop}
use Rattle.papergrid_cells.specs.Spaces.{HasSpaces}
use Rattle.papergrid_cells.proofs.WrittenTexts.{spaces-begin, spaces-end}
use Rattle.papergrid_print.proofs.Slots.{from-spaces}
use Rattle.papergrid_print.proofs.Writes.{on-pushed}
use Rattle.papergrid_print.proofs.printer.single_lines.write_columns.Goals as goal

pub lay_text-requires : goal.lay_text-requires
lay_text-requires c = subst (HasSpaces (string_bytes c.args.out.now) c.args.start) (sym c.if-text-width.true) c.requires.spaces

pub truncate-requires : goal.truncate-requires
truncate-requires c = λ _. spaces-begin _ _ _ c.requires.spaces

pub range_from-requires : goal.range_from-requires
range_from-requires c =
    let width = c.args.width in
    let same : 0 + width ≡ width = omega arith in
    let split = subst (IsSplitPoint c.args.empty.now) same (spaces-end _ 0 width (from-spaces _ _ _ c.requires.spaces c.requires.empty)) in
    λ some. (split.0, split.1 some)

pub returns : goal.returns
returns c =
    let bytes = string_bytes c.args.out.now in
    let start = c.args.start in
    let width = c.args.width in
    let text = c.args.text.now in
    let rest = c.range_from.result.now in
    let behind : rest ≡ drop (start + width) bytes = c.range_from.ensures.value ∙ (ap (drop width) c.requires.empty ∙ drop-drop width start bytes) in
    on-pushed c.push_str-2.result _ _ _ _
    (ap (λ l. l ++ rest) (c.in_ok-push_str.ensures.bytes ∙ ap (λ l. l ++ text) c.truncate.ensures.bytes) ∙ ap (λ l. (take start bytes ++ text) ++ l) behind)
    c.push_str-2.ensures.bytes
