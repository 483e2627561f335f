use Rattle.std.proofs.Common.{◌≡◌, ◌-◌, get_or, length, ap, sym, ◌∙◌, arith}
use Rattle.std.proofs.lemmas.Grind.{get_or_default_zero}
use Rattle.columns_table.specs.Ends.{start_behind}
use Rattle.columns_table.proofs.KeptEnds.{last-start}
use Rattle.columns_table.proofs.ends.CellEnds.push.Goals as goal

pub push_printable-requires-clause-bytes : goal.push_printable-requires-clause-bytes
push_printable-requires-clause-bytes c =
    let ends = c.self.inside in
    let starts = ends.starts.items in
    let place : c.len.result - 1 ≡ length starts - 1 = ap (λ n. n - 1) (c.len.ensures ∙ ends.starts.ok.0) in
    let last : c.index-start.result.now ≡ get_or starts (length starts - 1) 0 =
    c.index-start.ensures ∙ get_or_default_zero starts (c.len.result - 1) _ (omega (arith, place, c.self.invariant.0)) ∙ ap (λ k. get_or starts k 0) place in
    let same : c.index-start.result.now ≡ start_behind c.args.self.now = last ∙ sym (last-start ends.widths.items starts c.self.invariant.1) ∙ ap start_behind c.self.view_is in
    c.if-cell-saturating_sub.true ∙ c.saturating_sub.ensures ∙ ap (λ n. c.args.cell.end - n) same
