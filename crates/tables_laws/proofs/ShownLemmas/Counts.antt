-- Texts that add up are counted by what each character costs, and texts of plain characters add up.
use Rattle.std.proofs.Common.{◌≡◌, ℕ, Bool, true, false, List, [], ◌∷◌, refl, ap, sym, subst, ◌∙◌, if◌then◌else◌}
use Rattle.std.specs.Prelude.{chars}
use Rattle.std.specs.List.{AllByRecursion, list_all}
use Rattle.std.specs.Str.{drop_trailing_whitespace, skip_leading_whitespace}
use Rattle.std.proofs.lemmas.Str.{IsUtf8-nil, chars-nil}
use Rattle.ansi_scan.specs.Sequences.{NoneBroken}
use Rattle.ansi_str_search.specs.Text.Characters.{shown_chars}
use Rattle.ansi_str_search.specs.Text.StyledText.{strip}
use Rattle.ansi_str_search.proofs.TextLemmas.Utf8Pieces.{IsUtf8-shown_text}
use Rattle.grid_records_measure.specs.Measures.{cost}
use Rattle.grid_records_measure.specs.PlainCharacters.{is_plain_character}
use Rattle.grid_records_measure.specs.TextLines.{text_lines}
use Rattle.grid_records_measure.specs.Trimming.{trimmed}
use Rattle.grid_records_measure.proofs.Plain.{line_cost-plain, measure-plain}
use Rattle.papergrid_picture.specs.Shown.{IsPlainlyShown}
use Rattle.papergrid_picture.proofs.Shown.{IsClosedPart, lines-closed_parts, pieces-nothing}
use Rattle.papergrid_picture.proofs.Stripped.{stripped}
use Rattle.papergrid_picture.proofs.Widths.{ArePlain, chars-trim, drop-plain, is_plain_or_feed, plain-parts, shown-trimmed, skip-plain}
use Rattle.tables_laws.specs.Shown.CountedTables.{AddsUp, AddsUpInLines, AddsUpTrimmed}
use Rattle.tables_laws.proofs.CountsLemmas.Counts.{LineAdds, TextAdds}

-- ---- of any characters

abbrev pub any : ℕ → Bool
any c = true

any-all : (cs : List ℕ) → list_all any cs ≡ true
any-all [] = refl
any-all (c ∷ cs) = any-all cs

line-adds : (line : List ℕ) → AddsUp line → LineAdds cost any line
line-adds line adds = record { sum = adds; shown = any-all (shown_chars line) }

lines-add : (trims : Bool) (lines : List (List ℕ)) → AllByRecursion (AddsUpTrimmed trims) lines → AllByRecursion (λ line. LineAdds cost any line × LineAdds cost any (if trims then trimmed line else line)) lines
lines-add trims [] all = tt
lines-add trims (line ∷ lines) all = ((line-adds line all.0.0, line-adds (if trims then trimmed line else line) all.0.1), lines-add trims lines all.1)

pub text-adds : (trims : Bool) (text : List ℕ) → AddsUpInLines trims text → TextAdds cost any trims text
text-adds trims text adds = record { whole = adds.whole; lines = lines-add trims (text_lines text) adds.lines }

-- ---- plain characters add up

pub plain-nothing : IsPlainlyShown []
plain-nothing = record {
  whole = record { utf8 = IsUtf8-nil; whole = subst NoneBroken (sym pieces-nothing) tt };
  plain = ap (λ ps. list_all is_plain_or_feed (chars (strip ps))) pieces-nothing ∙ ap (list_all is_plain_or_feed) chars-nil;
}

module _ (trims : Bool) where
  plain-adds : (part : List ℕ) → ArePlain (shown_chars part) → AddsUp part
  plain-adds part plain = line_cost-plain (shown_chars part) plain ∙ sym (measure-plain (shown_chars part) plain)

  trimmed-adds : (part : List ℕ) → IsClosedPart part → ArePlain (shown_chars part) → AddsUp (trimmed part)
  trimmed-adds part closed plain =
      let cs = shown_chars part in
      let front = skip_leading_whitespace cs in
      let shown : shown_chars (trimmed part) ≡ drop_trailing_whitespace front = ap chars (shown-trimmed part closed) ∙ chars-trim (stripped part) (IsUtf8-shown_text part closed.utf8) in
      plain-adds (trimmed part) (ap (list_all is_plain_character) shown ∙ drop-plain is_plain_character front (skip-plain is_plain_character cs plain))

  pub part-adds : (b : Bool) (part : List ℕ) → IsClosedPart part → ArePlain (shown_chars part) → AddsUpTrimmed b part
  part-adds true part closed plain = (plain-adds part plain, trimmed-adds part closed plain)
  part-adds false part closed plain = (plain-adds part plain, plain-adds part plain)

  parts-add : (ps : List (List ℕ)) → AllByRecursion IsClosedPart ps → AllByRecursion (λ part. ArePlain (chars (stripped part))) ps → AllByRecursion (AddsUpTrimmed trims) ps
  parts-add [] closed plain = tt
  parts-add (part ∷ ps) closed plain = (part-adds trims part closed.0 plain.0, parts-add ps closed.1 plain.1)

  pub plain-text-adds : (text : List ℕ) → IsPlainlyShown text → AddsUpInLines trims text
  plain-text-adds text is = record { whole = is.whole; lines = parts-add (text_lines text) (lines-closed_parts text is.whole) (plain-parts text is) }
