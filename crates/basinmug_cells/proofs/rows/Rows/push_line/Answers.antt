-- The part has its place.
use Rattle.std.proofs.Common.{◌∙◌, ap, sym}
use Rattle.std.specs.Prelude.{slice_range}
use Rattle.basinmug_cells.specs.Held.{Held, with_cell}
use Rattle.basinmug_cells.specs.OwnTexts.{own_texts}
use Rattle.basinmug_cells.proofs.Held.{part-of, part-pushed}
use Rattle.basinmug_cells.proofs.rows.Rows.push_line.Goals as goal

pub invariant_of-self-in-Some : goal.invariant_of-self-in-Some
invariant_of-self-in-Some c =
    let rows = c.self.inside in
    let text = ap (λ (held : Held). held.text) (sym c.self.view_is) in
    let part = part-of rows.text.now c.args.self.now.text c.args.start c.args.end c.args.width text c.requires.ascending c.requires.start c.requires.end c.requires.line in
    (part-pushed rows.text.now (own_texts rows.own.items) rows.places.items rows.ends.items c.push.new.self.items c.in-Some.place c.args.start c.args.end c.args.width c.requires.ascending part
    c.in_ok-push-in-Some.ensures.items c.in-Some.ensures c.self.invariant).0

pub returns-in_ok-push-in-Some-clause-more : goal.returns-in_ok-push-in-Some-clause-more
returns-in_ok-push-in-Some-clause-more c =
    let rows = c.self.inside in
    let text = ap (λ (held : Held). held.text) (sym c.self.view_is) in
    let part = part-of rows.text.now c.args.self.now.text c.args.start c.args.end c.args.width text c.requires.ascending c.requires.start c.requires.end c.requires.line in
    (part-pushed rows.text.now (own_texts rows.own.items) rows.places.items rows.ends.items c.push.new.self.items c.in-Some.place c.args.start c.args.end c.args.width c.requires.ascending part
    c.in_ok-push-in-Some.ensures.items c.in-Some.ensures c.self.invariant).1
    ∙ ap (λ (held : Held). with_cell held (slice_range held.text c.args.start c.args.end)) c.self.view_is
