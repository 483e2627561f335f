-- The longest of the rows of texts is the longest of the vectors that hold them.
use Rattle.std.proofs.Common.{◌∙◌, sym, ap, ℕ, List, Vec, string_bytes, vec_items}
use Rattle.std.specs.declared.string.String.{String}
use Rattle.tabled_text.specs.Rows.{longest, row_items}
use Rattle.tabled_text.proofs.Longest.{longest_mapped}
use Rattle.tabled_text.proofs.builder.Builder.count_columns.Goals as goal

pub returns : goal.returns
returns c =
    c.longest_row.ensures
    ∙ ap (λ (rows : List (Vec (String _) _)). longest (row_items rows)) c.deref.ensures.value
    ∙ sym (longest_mapped string_bytes (vec_items c.self.inside.rows))
    ∙ ap (λ (rows : List (List (List ℕ))). longest rows) c.self.view_is
