use Rattle.std.proofs.Common.{◌≡◌, ◌+◌, ◌++◌, ◌<◌, Some, length, string_bytes, ap, sym, ◌∙◌, arith}
use Rattle.std.specs.List.{replace_range}
use Rattle.std.proofs.lemmas.Bool.Decides.{nat_tests}
use Rattle.std.proofs.lemmas.Result.{on_ok_weaker}
use Rattle.grid_config.specs.Colors.{color_of}
use Rattle.papergrid_cells.specs.Painting.{colored}
use Rattle.papergrid_cells.proofs.WrittenTexts.{for-prefix, for-suffix, for-text, in-parts, resized, spaces-begin, spaces-end, three-written}
use Rattle.papergrid_cells.proofs.EmptyRows.{some-shown}
use Rattle.papergrid_cells.proofs.empty_row.write_colored.Goals as goal

pub write_over-requires-clause-start : goal.write_over-requires-clause-start
write_over-requires-clause-start c =
    let some : 0 < length c.args.text.now = grind (arith, nat_tests, c.if-is_empty.false, c.is_empty.ensures) in
    let same = some-shown (color_of c.args.color) c.args.text.now some ∙ in-parts (color_of c.args.color) c.args.text.now c.get_prefix-prefix.ensures c.get_suffix-suffix.ensures in
    let has = resized (string_bytes c.args.out.now) c.args.start (ap (λ l. length l) same) c.requires.spaces in
    spaces-begin _ _ _ (for-prefix _ _ c.get_prefix-prefix.result.now c.args.text.now c.get_suffix-suffix.result.now has)

pub write_over-requires-clause-end : goal.write_over-requires-clause-end
write_over-requires-clause-end c =
    let some : 0 < length c.args.text.now = grind (arith, nat_tests, c.if-is_empty.false, c.is_empty.ensures) in
    let same = some-shown (color_of c.args.color) c.args.text.now some ∙ in-parts (color_of c.args.color) c.args.text.now c.get_prefix-prefix.ensures c.get_suffix-suffix.ensures in
    let has = resized (string_bytes c.args.out.now) c.args.start (ap (λ l. length l) same) c.requires.spaces in
    spaces-end _ _ _ (for-prefix _ _ c.get_prefix-prefix.result.now c.args.text.now c.get_suffix-suffix.result.now has)

pub write_over-requires-2-clause-start : goal.write_over-requires-2-clause-start
write_over-requires-2-clause-start c =
    let some : 0 < length c.args.text.now = grind (arith, nat_tests, c.if-is_empty.false, c.is_empty.ensures) in
    let same = some-shown (color_of c.args.color) c.args.text.now some ∙ in-parts (color_of c.args.color) c.args.text.now c.get_prefix-prefix.ensures c.get_suffix-suffix.ensures in
    let has = resized (string_bytes c.args.out.now) c.args.start (ap (λ l. length l) same) c.requires.spaces in
    spaces-begin _ _ _ (for-text _ _ c.get_prefix-prefix.result.now c.args.text.now c.get_suffix-suffix.result.now has c.in_ok-write_over.ensures)

pub write_over-requires-2-clause-end : goal.write_over-requires-2-clause-end
write_over-requires-2-clause-end c =
    let some : 0 < length c.args.text.now = grind (arith, nat_tests, c.if-is_empty.false, c.is_empty.ensures) in
    let same = some-shown (color_of c.args.color) c.args.text.now some ∙ in-parts (color_of c.args.color) c.args.text.now c.get_prefix-prefix.ensures c.get_suffix-suffix.ensures in
    let has = resized (string_bytes c.args.out.now) c.args.start (ap (λ l. length l) same) c.requires.spaces in
    spaces-end _ _ _ (for-text _ _ c.get_prefix-prefix.result.now c.args.text.now c.get_suffix-suffix.result.now has c.in_ok-write_over.ensures)

pub write_over-requires-3-clause-start : goal.write_over-requires-3-clause-start
write_over-requires-3-clause-start c =
    let some : 0 < length c.args.text.now = grind (arith, nat_tests, c.if-is_empty.false, c.is_empty.ensures) in
    let same = some-shown (color_of c.args.color) c.args.text.now some ∙ in-parts (color_of c.args.color) c.args.text.now c.get_prefix-prefix.ensures c.get_suffix-suffix.ensures in
    let has = resized (string_bytes c.args.out.now) c.args.start (ap (λ l. length l) same) c.requires.spaces in
    spaces-begin _ _ _ (for-suffix _ _ c.get_prefix-prefix.result.now c.args.text.now c.get_suffix-suffix.result.now has c.in_ok-write_over.ensures c.in_ok-write_over-2.ensures)

pub write_over-requires-3-clause-end : goal.write_over-requires-3-clause-end
write_over-requires-3-clause-end c =
    let some : 0 < length c.args.text.now = grind (arith, nat_tests, c.if-is_empty.false, c.is_empty.ensures) in
    let same = some-shown (color_of c.args.color) c.args.text.now some ∙ in-parts (color_of c.args.color) c.args.text.now c.get_prefix-prefix.ensures c.get_suffix-suffix.ensures in
    let has = resized (string_bytes c.args.out.now) c.args.start (ap (λ l. length l) same) c.requires.spaces in
    spaces-end _ _ _ (for-suffix _ _ c.get_prefix-prefix.result.now c.args.text.now c.get_suffix-suffix.result.now has c.in_ok-write_over.ensures c.in_ok-write_over-2.ensures)

pub returns : goal.returns
returns c =
    let bytes = string_bytes c.args.out.now in
    let text = c.args.text.now in
    let prefix = c.get_prefix-prefix.result.now in
    let suffix = c.get_suffix-suffix.result.now in
    let some : 0 < length text = grind (arith, nat_tests, c.if-is_empty.false, c.is_empty.ensures) in
    let same : colored (Some (color_of c.args.color)) text ≡ prefix ++ (text ++ suffix) =
    some-shown (color_of c.args.color) text some ∙ in-parts (color_of c.args.color) text c.get_prefix-prefix.ensures c.get_suffix-suffix.ensures in
    let has = resized bytes c.args.start (ap (λ l. length l) same) c.requires.spaces in
    on_ok_weaker c.write_over-3.result
    (λ third.
    three-written bytes c.args.start prefix text suffix has c.in_ok-write_over.ensures c.in_ok-write_over-2.ensures third
    ∙ ap (λ l. replace_range bytes c.args.start (c.args.start + length l) l) (sym same))
    c.write_over-3.ensures
