-- The names of each kind are before those of the next.
use Rattle.std.proofs.Common.{◌∙◌, ap, ℕ, List, ◌++◌}
use Rattle.basinmug_run.specs.Picture.Names.{missing_names}
use Rattle.basinmug_run.specs.Picture.Rows.{header_of}
use Rattle.basinmug_run.proofs.laws.names_are_missing_in_turn.Goals as goal

pub returns : goal.returns
returns c = record {
  chosen = λ options count rows name others first.
      let header = header_of options.header rows in
      let behind = missing_names header options.alignments.items ++ missing_names header options.colors.items in
      (others ++ behind, ap (λ (names : List (List ℕ)). names ++ behind) first);
  aligned = λ options count rows name others none first.
      let header = header_of options.header rows in
      let colors = missing_names header options.colors.items in (
        others ++ colors,
        ap (λ (names : List (List ℕ)). names ++ (missing_names header options.alignments.items ++ colors)) none
            ∙ ap (λ (names : List (List ℕ)). names ++ colors) first,
      );
}
