-- A block that fits wholly comes off the text; in one that does not the walk ends.
use Rattle.std.proofs.Common.{rules, ◌≡◌, ◌≤◌, ◌<◌, ◌+◌, ◌-◌, ◌++◌, ◌∷◌, ◌∙◌, ℕ, length, chars, encode_utf8_all, flat_map, List, ap, sym, subst, arith}
use Rattle.std.proofs.lemmas.Str.{chars-nil}
use Rattle.ansi_scan.specs.Pieces.{pieces}
use Rattle.ansi_str.specs.StyledText.{strip}
use Rattle.ansi_str.specs.Blocks.{Block, text_of_block}
use Rattle.ansi_str_search.proofs.TextLemmas.Utf8Pieces.{IsUtf8-shown_text}
use Rattle.ansi_str_search.proofs.Rests.{strip-fits}
use Rattle.grid_records_measure.specs.Filling.{fitting_front, front_columns, behind_front}
use Rattle.grid_records_measure.proofs.Filling.{lacking-none}
use Rattle.grid_records_measure.proofs.LinesAndBlocks.{shown-blocks}
use Rattle.grid_records_measure.proofs.Cuts.{all-fit, some-left, fits-on, stops-in, lacking-some, fitting_front-fits, fitting_front-longer}
use Rattle.grid_records_measure.proofs.cut.place_and_lacking.Goals as goal

pub loop-block-init : goal.loop-block-init
loop-block-init c =
    let width = c.args.width in
    let same : c.into_iter-block-iterator.result ≡ c.get_blocks-block-items.result = cc in
    let all = ap chars (ap (flat_map text_of_block) same ∙ shown-blocks c.args.text.now c.get_blocks-block-items.result c.get_blocks-block-items.ensures.blocks) in
    let place = ap (λ cs. length (encode_utf8_all (fitting_front width 0 cs))) all in
    record {
      goes = search rules;
      fits = omega arith;
      place = omega (arith, place);
      columns = ap (front_columns width 0) all;
      left = ap (behind_front width 0) all;
    }

-- the text of the blocks that are left begins with that of the next
next-shown : (blocks others : List Block) (block : Block) (shown : List ℕ) → blocks ≡ block ∷ others → shown ≡ text_of_block block → chars (flat_map text_of_block blocks) ≡ chars (shown ++ flat_map text_of_block others)
next-shown blocks others block shown steps is = ap chars (ap (flat_map text_of_block) steps ∙ ap (λ bytes. bytes ++ flat_map text_of_block others) (sym is))

pub overflow_add-place : goal.overflow_add-place
overflow_add-place c =
    let width = c.args.width in
    let used = c.loop-block.used in
    let shown = c.text-shown.result.now in
    let step = next-shown c.loop-block.block-iterator c.next.new.self c.in-Some-block.block shown c.in-Some-block.ensures.steps c.text-shown.ensures in
    let here = fitting_front-longer width used shown (flat_map text_of_block c.next.new.self) c.text-shown.utf8 in
    let left = ap (λ cs. length (encode_utf8_all (fitting_front width used cs))) step in
    let all = fitting_front-fits width 0 (strip (pieces c.args.text.now)) (IsUtf8-shown_text c.args.text.now c.utf8.text) in
    let fits : c.loop-block.place + c.fill-len.result.0 ≤ length c.args.text.now = omega (arith, here, left, all, strip-fits c.args.text.now, c.loop-block.invariant.place, c.fill-len.ensures.len) in
    search (rules, fits)

pub returns-then-len-shown : goal.returns-then-len-shown
returns-then-len-shown c =
    let width = c.args.width in
    let used = c.loop-block.used in
    let shown = c.text-shown.result.now in
    let step = next-shown c.loop-block.block-iterator c.next.new.self c.in-Some-block.block shown c.in-Some-block.ensures.steps c.text-shown.ensures in
    let short : length (encode_utf8_all (fitting_front width used (chars shown))) < length shown = omega (arith, c.if-len-shown.true, c.fill-len.ensures.len) in
    let stop = stops-in width used shown (flat_map text_of_block c.next.new.self) c.text-shown.utf8 (some-left width used shown c.text-shown.utf8 short) in
    let kept = ap (λ cs. length (encode_utf8_all (fitting_front width used cs))) step ∙ ap (λ cs. length (encode_utf8_all cs)) stop.kept in
    let columns = c.fill-len.ensures.columns ∙ sym stop.columns ∙ sym (ap (front_columns width used) step) ∙ c.loop-block.invariant.columns in
    let some = subst (λ left. 0 < length left) (sym (ap (behind_front width used) step) ∙ c.loop-block.invariant.left) stop.some in
    record {
      place = omega (arith, kept, c.loop-block.invariant.place, c.fill-len.ensures.len);
      left = ap (λ n. width - n) columns ∙ sym (lacking-some width (chars (strip (pieces c.args.text.now))) some);
    }

pub loop-block-preserved : goal.loop-block-preserved
loop-block-preserved c =
    let width = c.args.width in
    let used = c.loop-block.used in
    let shown = c.text-shown.result.now in
    let rest = flat_map text_of_block c.next.new.self in
    let step = next-shown c.loop-block.block-iterator c.next.new.self c.in-Some-block.block shown c.in-Some-block.ensures.steps c.text-shown.ensures in
    let long : length shown ≤ length (encode_utf8_all (fitting_front width used (chars shown))) = omega (arith, c.if-len-shown.false, c.fill-len.ensures.len) in
    let on = fits-on width used shown rest c.text-shown.utf8 (all-fit width used shown c.text-shown.utf8 long) in
    let columns = sym c.fill-len.ensures.columns in
    let len = ap (λ cs. length (encode_utf8_all (fitting_front width used cs))) step ∙ on.len ∙ ap (λ n. length (encode_utf8_all (fitting_front width used (chars shown))) + length (encode_utf8_all (fitting_front width n (chars rest)))) columns in
    record {
      goes = search rules;
      fits = c.fill-len.ensures.fits;
      place = omega (arith, len, c.loop-block.invariant.place, c.fill-len.ensures.len);
      columns = ap (λ n. front_columns width n (chars rest)) (sym columns) ∙ sym on.columns ∙ sym (ap (front_columns width used) step) ∙ c.loop-block.invariant.columns;
      left = ap (λ n. behind_front width n (chars rest)) (sym columns) ∙ sym on.left ∙ sym (ap (behind_front width used) step) ∙ c.loop-block.invariant.left;
    }

pub returns-clause-place : goal.returns-clause-place
returns-clause-place c =
    let none = ap (λ (blocks : List Block). length (encode_utf8_all (fitting_front c.args.width c.loop-block.used (chars (flat_map text_of_block blocks))))) c.in-None.ensures.steps.0 ∙ ap (λ cs. length (encode_utf8_all (fitting_front c.args.width c.loop-block.used cs))) chars-nil in
    omega (arith, none, c.loop-block.invariant.place)

pub returns-clause-left : goal.returns-clause-left
returns-clause-left c =
    let none = ap (λ (blocks : List Block). behind_front c.args.width c.loop-block.used (chars (flat_map text_of_block blocks))) c.in-None.ensures.steps.0 ∙ ap (behind_front c.args.width c.loop-block.used) chars-nil in
    sym (lacking-none c.args.width (chars (strip (pieces c.args.text.now))) (sym c.loop-block.invariant.left ∙ none))
