use Rattle.std.proofs.Common.{length}
use Rattle.tabled_text.specs.Rows.{text_rows}
use Rattle.tabled.proofs.Values.{value_pushed, wide_pushed}
use Rattle.tabled.proofs.makers.value_rows.Goals as goal

pub loop-item-preserved : goal.loop-item-preserved
loop-item-preserved g c =
    let rows = c.loop-item.rows.items in
    let more = c.push.new.self.items in
    let row = c.in_ok-fields_of.field-0 in
    record {
      rows = value_pushed rows more row c.in_ok-push.ensures.items g.T.Tabled.texts (text_rows c.args.before.items) c.loop-item.yielded c.in-Some.item c.loop-item.invariant.rows c.in_ok-fields_of.ensures.texts;
      wide = wide_pushed rows more row c.in_ok-push.ensures.items (length g.T.Tabled.names) c.loop-item.invariant.wide c.in_ok-fields_of.ensures.count;
    }
