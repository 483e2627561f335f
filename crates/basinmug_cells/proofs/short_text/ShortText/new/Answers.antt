-- What is given is known.
use Rattle.std.proofs.Common.{◌≡◌, subst, List, true, ℕ}
use Rattle.grid_records_traits.specs.Cells.{IsLineAt}
use Rattle.basinmug_cells.proofs.short_text.ShortText.new.Goals as goal

pub invariant_of-result : goal.invariant_of-result
invariant_of-result c =
    let is = c.in_ok-is_line.is_line in
    record {
      measured = record {
        are_lines = c.requires.lines;
        is_width = c.requires.width;
        whole = subst (λ (text : List ℕ). is ≡ true → (c.args.lines ≡ 1) × IsLineAt text 0 text) c.deref.ensures c.in_ok-is_line.ensures;
      };
    }
