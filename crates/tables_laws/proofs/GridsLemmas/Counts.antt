-- Texts of a class whose characters add up are counted by what each of them takes.
use Rattle.std.proofs.Common.{◌≡◌, ℕ, Bool, true, false, List, [], ◌∷◌, sym}
use Rattle.std.specs.List.{AllByRecursion}
use Rattle.ansi_str.specs.Characters.{shown_chars}
use Rattle.grid_records_measure.specs.Measures.{own_width}
use Rattle.grid_records_measure.specs.TextLines.{text_lines}
use Rattle.papergrid_picture.proofs.Shown.{IsClosedPart, lines-closed_parts}
use Rattle.tables_laws.specs.Grids.CountedLooks.{AddsUp}
use Rattle.tables_laws.specs.Grids.TextsOf.{IsTextOf}
use Rattle.tables_laws.proofs.CountsLemmas.Counts.{LineAdds, TextAdds, shown_line_of}
use Rattle.tables_laws.proofs.GridsLemmas.Lists.{list_all-weaker}
use Rattle.tables_laws.proofs.GridsLemmas.Texts.{IsPartOf, parts-of_text, trimmed-of}

module _ (p q : ℕ → Bool) (adds : AddsUp p) (weaker : (c : ℕ) → p c ≡ true → q c ≡ true) where
  line-adds : (line : List ℕ) → IsPartOf p line → LineAdds own_width q line
  line-adds line all = record { sum = sym (adds (shown_chars line) all); shown = list_all-weaker p q weaker (shown_chars line) all }

  shown-of : (trims : Bool) (part : List ℕ) → IsClosedPart part → IsPartOf p part → IsPartOf p (shown_line_of trims part)
  shown-of true part closed all = trimmed-of p part closed all
  shown-of false part closed all = all

  lines-add : (trims : Bool) (parts : List (List ℕ)) → AllByRecursion IsClosedPart parts → AllByRecursion (IsPartOf p) parts
      → AllByRecursion (λ line. LineAdds own_width q line × LineAdds own_width q (shown_line_of trims line)) parts
  lines-add trims [] closed all = tt
  lines-add trims (part ∷ parts) closed all =
      ((line-adds part all.0, line-adds (shown_line_of trims part) (shown-of trims part closed.0 all.0)), lines-add trims parts closed.1 all.1)

  pub text-adds : (trims : Bool) (text : List ℕ) → IsTextOf p text → TextAdds own_width q trims text
  text-adds trims text is = record { whole = is.whole; lines = lines-add trims (text_lines text) (lines-closed_parts text is.whole) (parts-of_text p text is) }
