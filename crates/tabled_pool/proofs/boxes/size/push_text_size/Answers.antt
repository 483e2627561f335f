use Rattle.std.proofs.Common.{◌≡◌, ◌-◌, ◌∷◌, ◌++◌, false, length, set, ap, ◌∙◌, arith}
use Rattle.grid_config.specs.Looks.{look_of}
use Rattle.papergrid_picture.specs.Blocks.{greatest}
use Rattle.papergrid_picture.specs.CellLines.{cell_measures}
use Rattle.tabled_pool.specs.Boxes.Boxes.{text_box}
use Rattle.tabled_pool.specs.Boxes.Sizes.{line_sizes, padded, size_of}
use Rattle.tabled_pool.proofs.BoxesLemmas.Sizes.{text-count, text-end}
use Rattle.tabled_pool.proofs.boxes.size.push_text_size.Goals as goal

pub returns-clause-sizes : goal.returns-clause-sizes
returns-clause-sizes c =
    let look = look_of c.args.cfg.now in
    let text = c.args.text.now in
    let old = c.args.sizes.now.items in
    let now = c.push_line_sizes.new.sizes.items in
    let at : c.len-at.result ≡ length old = omega (arith, c.len-at.ensures, c.args.sizes.now.ok.0) in
    let long : c.len.result ≡ length now = omega (arith, c.len.ensures, c.push_line_sizes.new.sizes.ok.0) in
    let count : c.len.result - c.len-at.result - 1 ≡ length (cell_measures false false text) =
    omega (arith, at, long, text-count old c.push_size.new.sizes.items now text _ c.in_ok-push_size.ensures c.in_ok-columns.ensures.sizes) in
    let own : c.in_ok-size.size ≡ size_of (text_box look text) =
    c.in_ok-size.ensures.own
    ∙ (ap (λ w. padded look w (c.len.result - c.len-at.result - 1)) c.in_ok-columns.ensures.widest ∙ ap (padded look (greatest (cell_measures false false text))) count) in
    ap (λ n. set now n c.in_ok-size.size) at
    ∙ (text-end old c.push_size.new.sizes.items now text _ c.in_ok-size.size c.in_ok-push_size.ensures c.in_ok-columns.ensures.sizes
    ∙ ap (λ s. old ++ s ∷ line_sizes text) own)
