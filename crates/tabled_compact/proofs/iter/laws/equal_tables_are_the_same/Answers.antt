-- Each part passes, and shows the same.
use Rattle.std.proofs.Common.{◌∷◌, [], refl}
use Rattle.grid_config.specs.Equality.{equal}
use Rattle.grid_config.proofs.Equality.{settings_pass, settings_same}
use Rattle.grid_config_values.proofs.Equality.{each_passes, passes_all}
use Rattle.tabled_compact.specs.contracts.iter.sizes.ShapePartialEq.TheImpl.{ghosts as shapes}
use Rattle.tabled_compact.proofs.IterLemmas.Equality.{shape_itself, shape_same}
use Rattle.tabled_compact.proofs.iter.laws.equal_tables_are_the_same.Goals as goal

pub returns-clause-equality : goal.returns-clause-equality
returns-clause-equality g c same a b e =
    let each = each_passes (g.I.PartialEq.eq a.records b.records) (equal a.config b.config ∷ shapes.eq a.shape b.shape ∷ []) e in
    let rows = same a.records b.records each.0 in
    let settings = settings_same a.config b.config each.1.0 in
    let shape = shape_same a.shape b.shape each.1.1 in
    λ i. record {
      rows = rows i;
      settings = settings i;
      columns = (shape i).columns;
      sniff = (shape i).sniff;
      kept = (shape i).kept;
      width = (shape i).width;
      height = (shape i).height;
    }

pub returns-clause-itself : goal.returns-clause-itself
returns-clause-itself g c same a =
    passes_all (g.I.PartialEq.eq a.records a.records) (equal a.config a.config ∷ shapes.eq a.shape a.shape ∷ []) (same a.records, (settings_pass a.config a.config refl, shape_itself a.shape))
