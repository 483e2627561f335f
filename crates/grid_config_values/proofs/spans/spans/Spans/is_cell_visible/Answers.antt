use Rattle.std.proofs.Common.{◌≡◌, IsTrue, ◌↔◌, is_none, subst, sym, arith}
use Rattle.grid_config_values.specs.Spans.Spans.{IsVisible}
use Rattle.grid_config_values.proofs.SpansLemmas.Owners.{search_decides}
use Rattle.grid_config_values.proofs.spans.spans.Spans.is_cell_visible.Goals as goal

pub returns : goal.returns
returns c =
    let same : c.is_none.result ≡ is_none c.holder_from.result = grind (arith, c.is_none.ensures) in
    subst (λ b. IsTrue b ↔ IsVisible c.args.self.now c.args.pos) (sym same)
    (search_decides c.args.self.now c.args.pos c.holder_from.result c.holder_from.ensures.found)
