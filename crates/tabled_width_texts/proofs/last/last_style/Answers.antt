-- A block whose characters all fit comes off the text; in one of which some do not, the walk ends.
use Rattle.std.proofs.Common.{rules, ◌≡◌, ◌++◌, ◌∙◌, ℕ, List, Bool, ap, sym, arith, flat_map, chars, map, if◌then◌else◌}
use Rattle.ansi_scan.specs.Attributes.{Attributes, plain_attributes}
use Rattle.ansi_str_search.specs.Text.Blocks.{Block, styled_of_block}
use Rattle.tabled_width_texts.specs.Keeping.{last_kept}
use Rattle.tabled_width_texts.proofs.Keeping.{found, styled-blocks}
use Rattle.tabled_width_texts.proofs.last.last_style.Goals as goal

pub loop-block-init : goal.loop-block-init
loop-block-init c =
    let same : c.into_iter-block-iterator.result ≡ c.get_blocks-block-items.result = cc in
    let all = ap (flat_map styled_of_block) same ∙ styled-blocks c.args.text.now c.get_blocks-block-items.result c.get_blocks-block-items.ensures.blocks in
    record {
      goes = search rules;
      fits = omega arith;
      left = ap (last_kept c.args.width 0 plain_attributes) (sym all) ∙ ap (λ style. last_kept c.args.width 0 style (flat_map styled_of_block c.into_iter-block-iterator.result)) (sym c.plain-last.ensures);
    }

pub returns-then-not-whole : goal.returns-then-not-whole
returns-then-not-whole c =
    let l = c.loop-block in
    let it = c.past_piece-columns in
    let rest : List (ℕ × Attributes) = flat_map styled_of_block c.next.new.self in
    let next = ap (λ (blocks : List Block). last_kept c.args.width l.used l.last (flat_map styled_of_block blocks)) c.in-Some.ensures.steps in
    let stop = it.ensures.last rest ∙ ap (λ (b : Bool). if b then last_kept c.args.width it.result.0 it.result.1 rest else it.result.1) c.if-not-whole.true in
    let lent = λ (text : List ℕ) (style : Attributes). last_kept c.args.width l.used l.last (map (λ c. (c, style)) (chars text) ++ rest) in
    sym (found c.args.width c.args.text.now ∙ l.invariant.left ∙ next ∙ sym (ap (λ (text : List ℕ). lent text c.style.result.now) c.text.ensures ∙ ap (lent c.in-Some.block.text) c.style.ensures) ∙ stop)

pub loop-block-preserved : goal.loop-block-preserved
loop-block-preserved c =
    let l = c.loop-block in
    let it = c.past_piece-columns in
    let rest : List (ℕ × Attributes) = flat_map styled_of_block c.next.new.self in
    let next = ap (λ (blocks : List Block). last_kept c.args.width l.used l.last (flat_map styled_of_block blocks)) c.in-Some.ensures.steps in
    let on = it.ensures.last rest ∙ ap (λ (b : Bool). if b then last_kept c.args.width it.result.0 it.result.1 rest else it.result.1) c.if-not-whole.false in
    let lent = λ (text : List ℕ) (style : Attributes). last_kept c.args.width l.used l.last (map (λ c. (c, style)) (chars text) ++ rest) in
    record {
      goes = search rules;
      fits = it.ensures.fits;
      left = l.invariant.left ∙ next ∙ sym (ap (λ (text : List ℕ). lent text c.style.result.now) c.text.ensures ∙ ap (lent c.in-Some.block.text) c.style.ensures) ∙ on;
    }

pub returns : goal.returns
returns c =
    let l = c.loop-block in
    let none = ap (λ (blocks : List Block). last_kept c.args.width l.used l.last (flat_map styled_of_block blocks)) c.in-None.ensures.steps.0 in
    sym (found c.args.width c.args.text.now ∙ l.invariant.left ∙ none)
