use Rattle.std.proofs.Common.{refl}
use Rattle.grid_config.specs.Looks.{look_of}
use Rattle.tabled.proofs.Again.{again}
use Rattle.tabled.proofs.table_of.TableOf.with_records.Goals as goal

pub returns : goal.returns
returns g c =
    let table = c.args.self.now in
    let texts = g.Q.RecordTexts.rows c.args.records in
    again texts texts (look_of table.config.settings) (look_of c.in_ok-config.config.settings) table.config.colors c.in_ok-config.config.colors table.dimension c.in_ok-dimension.dimension
    refl c.in_ok-config.ensures.look c.in_ok-config.ensures.colors c.in_ok-dimension.ensures.sizes
