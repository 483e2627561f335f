-- The styled characters of a cut, and of a part after a place, are a slice of those of the text.
use Rattle.std.proofs.Common.{◌≡◌, ℕ, ◌-◌, ◌<◌, ◌≤◌, Bool, true, false, List, [], ◌∷◌, ◌++◌, length, map, refl, ap, sym, subst, ◌∙◌, arith}
use Rattle.std.specs.Prelude.{chars, if◌then◌else◌}
use Rattle.std.specs.Str.{IsUtf8, IsCharBoundary}
use Rattle.std.proofs.lemmas.Str.{chars-nil}
use Rattle.ansi_scan.specs.Sequences.{Piece, EachStands, ArePiecesOf, NoneBroken}
use Rattle.ansi_scan.specs.Joining.{is_text_kind}
use Rattle.ansi_scan.specs.Attributes.{Attributes, plain_attributes}
use Rattle.ansi_scan.proofs.Uniqueness.{Stands-some}
use Rattle.ansi_str.specs.StyledText.{text_of, strip, style_after, style_after_all, styled_from, styled}
use Rattle.ansi_str.specs.Parts.{from_place, before_place, through_place}
use Rattle.ansi_str.specs.Walking.{from_text}
use Rattle.ansi_str.specs.Cuts.{cut_part, later_part}
use Rattle.ansi_str.specs.Matches.{styled_slice}
use Rattle.ansi_str_search.proofs.Parts.{text_of-text, text_of-sequence}
use Rattle.ansi_str_search.proofs.PiecesAtPlaces.{through-inside, through-past, EachStands-from}
use Rattle.ansi_str_search.proofs.PlaceSums.{style-through_split}
use Rattle.ansi_str_search.proofs.Utf8.{EachUtf8, EachUtf8-pieces}
use Rattle.ansi_str_search.proofs.CharSlices.{styled-between}
use Rattle.ansi_str.proofs.WholeCuts.{later_part-shows}
use Rattle.ansi_str.proofs.WholeSlices.{cut-shows}

-- the sequences that come first show nothing, and the text after them is shown in their style
shown-behind : (style : Attributes) (n : ℕ) (ps : List Piece) → EachStands ps
    → styled_from style (through_place n ps) ≡ styled_from (style_after_all style (through_place 0 ps)) (through_place n (from_text ps))
shown-behind style n [] each = refl
shown-behind style n (p ∷ ps) each = by (is_text_kind p.kind) refl (shown-behind (style_after style p) n ps each.1)
  where
    by : (text : Bool) → is_text_kind p.kind ≡ text
        → styled_from (style_after style p) (through_place n ps) ≡ styled_from (style_after_all (style_after style p) (through_place 0 ps)) (through_place n (from_text ps))
        → styled_from style (through_place n (p ∷ ps)) ≡ styled_from (style_after_all style (through_place 0 (p ∷ ps))) (through_place n (from_text (p ∷ ps)))
    by true e others =
        let some : 0 < length (text_of p) = omega (arith, ap length (text_of-text p e), Stands-some p.kind p.bytes ps each.0) in
        ap (λ t. styled_from style (through_place n (if t then p ∷ ps else from_text ps))) (sym e)
        ∙ ap (λ found. styled_from (style_after_all style found) (through_place n (from_text (p ∷ ps)))) (sym (through-inside 0 p ps some))
    by false e others =
        let none_here : length (text_of p) ≡ 0 = ap length (text_of-sequence p e) in
        let over : length (text_of p) ≤ 0 = omega (arith, none_here) in
        let over_n : length (text_of p) ≤ n = omega (arith, none_here) in
        let front : 0 ≡ 0 - length (text_of p) = omega (arith, none_here) in
        let front_n : n - length (text_of p) ≡ n = omega (arith, none_here) in
        let behind = through_place n (from_text ps) in
        ap (styled_from style) (through-past n p ps over_n)
        ∙ ap (λ m. map (λ c. (c, style)) (chars (text_of p)) ++ styled_from (style_after style p) (through_place m ps)) front_n
        ∙ ap (λ bytes. map (λ c. (c, style)) (chars bytes) ++ styled_from (style_after style p) (through_place n ps)) (text_of-sequence p e)
        ∙ ap (λ cs. map (λ c. (c, style)) cs ++ styled_from (style_after style p) (through_place n ps)) chars-nil ∙ others
        ∙ ap (λ m. styled_from (style_after_all (style_after style p) (through_place m ps)) behind) front
        ∙ ap (λ found. styled_from (style_after_all style found) behind) (sym (through-past 0 p ps over))
        ∙ ap (λ t. styled_from (style_after_all style (through_place 0 (p ∷ ps))) (through_place n (if t then p ∷ ps else from_text ps))) (sym e)

module _ (text : List ℕ) (ps qs : List Piece) (a b : ℕ) (order : a ≤ b) (utf8 : IsUtf8 text) (of_text : ArePiecesOf text ps) (whole : NoneBroken ps)
    (first : IsCharBoundary (strip ps) a) (last : IsCharBoundary (strip ps) b) where
  each_utf8 : EachUtf8 ps
  each_utf8 = EachUtf8-pieces ps of_text.stand (subst IsUtf8 (sym of_text.joins) utf8)

  pub cut-slice : ArePiecesOf (cut_part a b ps) qs → styled qs ≡ styled_slice ps a b
  cut-slice of_cut = cut-shows text ps qs a b order of_text whole of_cut ∙ sym (styled-between ps a b order each_utf8 first last)

  pub later_part-slice_shown : ArePiecesOf (later_part a b ps) qs → styled qs ≡ styled_slice ps a b
  later_part-slice_shown of_part =
      let behind = from_place a ps in
      let known = style_after_all plain_attributes (before_place a ps) in
      later_part-shows text ps of_text whole a b order qs of_part
      ∙ ap (λ s. styled_from s (through_place (b - a) (from_text behind))) (style-through_split a plain_attributes ps)
      ∙ sym (shown-behind known (b - a) behind (EachStands-from a ps of_text.stand))
      ∙ sym (styled-between ps a b order each_utf8 first last)
