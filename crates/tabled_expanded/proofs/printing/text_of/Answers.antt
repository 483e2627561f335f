-- The head of one record more is given, and its lines come after the text.
use Rattle.std.proofs.Common.{◌∙◌, ◌++◌, ◌∷◌, [], List, ℕ, Ok, String, ap, arith, length, map, string_bytes, subst, sym}
use Rattle.std.specs.declared.alloc.Global.{Global}
use Rattle.std.proofs.lemmas.List.{length_push}
use Rattle.tabled_expanded.specs.Expanded.{feed_before, joined_lines, record_lines}
use Rattle.tabled_expanded.proofs.Heading.{heads_more}
use Rattle.tabled_expanded.proofs.OneMore.{record_more}
use Rattle.tabled_expanded.proofs.printing.text_of.Goals as goal

pub loop-number-preserved : goal.loop-number-preserved
loop-number-preserved g c =
    let l = c.loop-number in
    let heads = l.invariant.0 in
    let count = l.invariant.2 in
    let head = c.in_ok-head.head in
    let values = c.index-records-number.result in
    let gives = g.F.Template.gives c.args.template.now in
    let width = c.args.widths.0 in
    let values_width = c.args.widths.1 in
    let fields = map string_bytes c.args.fields.now in
    let given : gives (length heads) (Ok head) = subst (λ (n : ℕ). gives n (Ok head)) (sym count) c.in_ok-head.ensures in
    let lines = λ (text : List ℕ) (rows : List (List ℕ)). joined_lines (record_lines width values_width fields text rows) in (
      heads ++ string_bytes head ∷ [],
      heads_more gives heads head l.invariant.1 given,
      omega (arith, length_push heads (string_bytes head), count),
      c.in_ok-push_record.ensures
          ∙ ap (λ (bytes : List ℕ). bytes ++ lines c.deref.result.now (map string_bytes c.deref-in-loop-number.result.now)) c.in_ok-push_feed.ensures
          ∙ ap (λ (text : List ℕ). string_bytes l.text ++ feed_before l.number ++ lines text (map string_bytes c.deref-in-loop-number.result.now)) c.deref.ensures
          ∙ ap (λ (rows : List (String Global)). string_bytes l.text ++ feed_before l.number ++ lines (string_bytes head) (map string_bytes rows)) c.deref-in-loop-number.ensures.value
          ∙ record_more width values_width fields heads c.args.records.now l.number values (string_bytes head) (string_bytes l.text) count c.loop-number-test.true c.index-records-number.is l.invariant.3,
    )
