use Rattle.std.proofs.Common.{refl}
use Rattle.grid_config.specs.Looks.{look_of}
use Rattle.tabled.proofs.Assembled.{assembled}
use Rattle.tabled.proofs.table_of.TableOf.new.Goals as goal

pub returns : goal.returns
returns g c =
    let texts = g.R.RecordTexts.rows c.args.records in
    assembled texts texts (look_of c.new_config.result.settings) c.new_config.result.colors c.default.result refl c.new_config.ensures.look c.new_config.ensures.colors c.default.ensures
