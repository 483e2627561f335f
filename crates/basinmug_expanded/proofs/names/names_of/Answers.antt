-- One name more.
use Rattle.std.proofs.Common.{◌∙◌, ◌++◌, ◌∷◌, ℕ, List, [], ap, ap₂, arith, map, string_bytes, sym}
use Rattle.std.proofs.lemmas.List.{map-append}
use Rattle.std.proofs.lemmas.List.FromFn.{map-range_with_len_more}
use Rattle.basinmug_expanded.specs.Columns.{name_of}
use Rattle.basinmug_expanded.proofs.names.names_of.Goals as goal

pub loop-field-preserved : goal.loop-field-preserved
loop-field-preserved g c =
    let k = c.loop-field.field in
    let name : ℕ → List ℕ = name_of c.args.has_header (g.H.CellRow.texts c.args.header) in
    ap (map string_bytes) c.in_ok-push.ensures.items
    ∙ (map-append string_bytes c.loop-field.names.items (c.in_ok-name_of.field-0 ∷ [])
    ∙ (ap₂ (λ (xs : List (List ℕ)) (x : List ℕ). xs ++ x ∷ []) c.loop-field.invariant c.in_ok-name_of.ensures ∙ sym (map-range_with_len_more name 0 k k (omega arith))))
