use Rattle.std.proofs.Common.{◌≡◌, ℕ, ◌++◌, List, length, map, ap, sym, ◌∙◌, arith}
use Rattle.std.specs.Prelude.{string_bytes}
use Rattle.std.specs.List.{range_with_len}
use Rattle.std.proofs.lemmas.List.{length-map}
use Rattle.grid_config.specs.Looks.{look_of}
use Rattle.tabled_pool.specs.Boxes.Canvas.{box_parts}
use Rattle.tabled_pool.specs.Boxes.Texts.{in_margins, joined_lines, printed_line}
use Rattle.tabled_pool.proofs.BoxesLemmas.RoundMargins.{line-added, mapped-twice}
use Rattle.tabled_pool.proofs.boxes.margins.push_lines.Goals as goal

pub loop-y-preserved : goal.loop-y-preserved
loop-y-preserved c =
    let look = look_of c.args.cfg.now in
    line-added (λ y. in_margins look (printed_line look (map box_parts c.args.lines.now) y)) c.loop-y.y (string_bytes c.args.out.now) (string_bytes c.loop-y.out) (string_bytes c.push_feed.new.out) (string_bytes c.push_between.new.out)
    c.loop-y.invariant c.in_ok-push_feed.ensures c.in_ok-push_between.ensures

pub returns : goal.returns
returns c =
    let look = look_of c.args.cfg.now in
    let lines = map box_parts c.args.lines.now in
    let print : ℕ → List ℕ = printed_line look lines in
    let done : c.loop-y.y ≡ length lines = omega (arith, length-map c.args.lines.now box_parts) in
    c.loop-y.invariant
    ∙ (ap (λ n. string_bytes c.args.out.now ++ joined_lines (map (λ y. in_margins look (print y)) (range_with_len 0 n))) done
    ∙ ap (λ l. string_bytes c.args.out.now ++ joined_lines l) (sym (mapped-twice (in_margins look) print (range_with_len 0 (length lines)))))
