-- Where no name or no value is left, all lines are there.
use Rattle.std.proofs.Common.{List, ℕ, ◌++◌, ◌∙◌, None, ap, append-nil, refl, string_bytes, sym}
use Rattle.std.specs.Iterator.Adapters.{zip_first, zip_second}
use Rattle.std.specs.Slice.Iter.{iter_rest}
use Rattle.std.proofs.lemmas.Slice.Zip.{either_empty_from_Zip}
use Rattle.tabled_expanded.proofs.OneMore.{no_lines}
use Rattle.tabled_expanded.proofs.lines.push_fields.Goals as goal

pub returns : goal.returns
returns c =
    let l = c.loop-field in
    let none = either_empty_from_Zip l.field-iterator c.next.new.self None refl c.in-None.ensures.steps in
    let end = no_lines c.args.width (iter_rest (zip_first l.field-iterator)) (iter_rest (zip_second l.field-iterator)) none in
    sym (append-nil (string_bytes l.out)) ∙ sym (ap (λ (bytes : List ℕ). string_bytes l.out ++ bytes) end) ∙ l.invariant
