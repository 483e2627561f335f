use Rattle.std.proofs.Common.{arith, map, string_bytes, sym, ◌∙◌}
use Rattle.std.proofs.lemmas.List.{length-map}
use Rattle.tabled.proofs.Naming.{named_pushed}
use Rattle.tabled.proofs.makers.named.push_named.Goals as goal

pub loop-index-preserved : goal.loop-index-preserved
loop-index-preserved c =
    let names = c.args.names.now in
    let texts = c.args.texts.now in
    named_pushed c.loop-index.rows.items c.push.new.self.items c.args.rows.now.items c.in_ok-pair.field-0 (map string_bytes names) (map string_bytes texts) c.loop-index.index c.text_at.result.now
    c.text_at-in-loop-index.result.now c.in_ok-push.ensures.items c.loop-index.invariant c.in_ok-pair.ensures c.text_at.ensures c.text_at-in-loop-index.ensures
    (omega (arith, c.loop-index-test.true, length-map names string_bytes)) (length-map names string_bytes ∙ c.requires ∙ sym (length-map texts string_bytes))
