use Rattle.std.proofs.Common.{◌≡◌, ℕ, ◌-◌, List, [], ◌∷◌, cond, false, ap, subst, sym, ◌∙◌}
use Rattle.std.specs.Prelude.{nat_eq, nat_lt}
use Rattle.std.proofs.lemmas.Bool.{ne_eqb}
use Rattle.std.proofs.lemmas.Result.{on_ok_weaker}
use Rattle.grid_config.specs.Looks.{look_of}
use Rattle.papergrid_picture.specs.CellLines.{cell_lines, cell_measures}
use Rattle.tabled_pool.specs.Boxes.Boxes.{BoxPart, Shown, cell_bytes, first_lines, from_line, text_box}
use Rattle.tabled_pool.specs.Boxes.Canvas.{Adds}
use Rattle.tabled_pool.specs.Boxes.Open.{measures_of, texts_of}
use Rattle.tabled_pool.specs.Boxes.Sizes.{widths_of}
use Rattle.tabled_pool.proofs.BoxesLemmas.Adding.{adds-as}
use Rattle.tabled_pool.proofs.BoxesLemmas.Sizes.{widths-text}
use Rattle.tabled_pool.proofs.boxes.text.draw_text.Goals as goal

pub returns : goal.returns
returns c =
    let look = look_of c.args.pen.now.cfg.now in
    let text = c.args.text.now in
    let shown = c.new-shown.result in
    let none : nat_eq c.args.width 0 ≡ false = ne_eqb c.args.width 0 c.if-width-eq0.false in
    let measures : measures_of shown ≡ cell_measures false false text = c.new-shown.ensures.measures ∙ (ap widths_of c.requires.measured ∙ widths-text text) in
    let texts : texts_of shown ≡ cell_lines false false text = c.new-shown.ensures.texts ∙ c.in_ok-lines_of.ensures in
    let lines : ℕ → List ℕ → List (List ℕ) → ℕ → List BoxPart = λ w ms ls y. Shown w (cell_bytes look ms ls w c.args.height y) ∷ [] in
    let drawn = λ (w : ℕ) (ms : List ℕ) (ls : List (List ℕ)). Adds c.args.lines.now c.draw_lines.new.lines (from_line c.args.top (first_lines c.args.height (lines w ms ls))) in
    let wanted : ℕ → List BoxPart = lines c.args.width (cell_measures false false text) (cell_lines false false text) in
    let line : ℕ → List BoxPart = (text_box look text).line c.args.pen.now.takers c.args.width c.args.height in
    on_ok_weaker {P = drawn shown.width (measures_of shown) (texts_of shown)} {Q = Adds c.args.lines.now c.draw_lines.new.lines (from_line c.args.top line)} c.draw_lines.result
    (λ adds.
    adds-as c.args.lines.now c.draw_lines.new.lines (from_line c.args.top (first_lines c.args.height wanted)) (from_line c.args.top line)
    (subst (λ ls. drawn c.args.width (cell_measures false false text) ls) texts (subst (λ ms. drawn c.args.width ms (texts_of shown)) measures (subst (λ w. drawn w (measures_of shown) (texts_of shown)) c.new-shown.ensures.width adds)))
    (λ k. ap (λ t. cond (nat_lt k c.args.top) [] (cond t [] (first_lines c.args.height wanted (k - c.args.top)))) (sym none)))
    c.draw_lines.ensures
