-- The part of a split before the first byte c that the text shows, and what is left after it.
use Rattle.std.proofs.Common.{◌≡◌, ℕ, ◌+◌, ◌-◌, ◌<◌, ◌≤◌, ◌==◌, Bool, true, false, List, [], ◌∷◌, ◌++◌, length, take, drop, refl, ap, sym, ◌∙◌, arith, Option, None, Some, if◌then◌else◌}
use Rattle.std.specs.Prelude.{unwrap_or}
use Rattle.std.proofs.lemmas.Bool.Decides.{nat_tests}
use Rattle.ansi_scan.specs.Sequences.{Piece, joined, EachStands}
use Rattle.ansi_scan.specs.Joining.{is_text_kind}
use Rattle.ansi_scan.specs.Pieces.{pieces, text_len}
use Rattle.ansi_scan.specs.Attributes.{Attributes, plain_attributes}
use Rattle.ansi_scan.specs.StartsAndEnds.{start_bytes, end_bytes}
use Rattle.ansi_scan.proofs.Existence.{ArePiecesOf-pieces}
use Rattle.ansi_scan.proofs.Uniqueness.{pieces-joined, Stands-some}
use Rattle.ansi_str_search.specs.Text.StyledText.{has_escape, text_of, strip, style_after, style_after_all}
use Rattle.ansi_str_search.specs.Parts.{from_place, before_place, through_place, dressed}
use Rattle.ansi_str_search.specs.PartsLeft.{first_match, passed_over, parts_left}
use Rattle.ansi_str_search.specs.Walking.{from_text, bytes_to, Lands}
use Rattle.ansi_str_search.proofs.Parts.{text_of-text, text_of-sequence}
use Rattle.ansi_str_search.proofs.PiecesAtPlaces.{EachStands-from, from-past, before-past, through-past, through-inside}
use Rattle.ansi_str_search.proofs.PlaceSums.{from-from, style-before_sum, through-all, style-through_split}
use Rattle.ansi_str_search.proofs.FirstMatch.{parts_left-found}
use Rattle.ansi_str_search.proofs.Finds.{text_some}
use Rattle.ansi_str_search.proofs.Walks.{from-plain, style-plain}
use Rattle.ansi_str_search.proofs.Rests.{rest_slice, slice_part, plain-end, strip-fits, match-fits, next-part}

-- ---- the sequences at a place are passed on the way after it

from-text_or : (m : ℕ) (p : Piece) (ps : List Piece) (is_text : Bool) → is_text_kind p.kind ≡ is_text → 0 < m → from_place m (from_text ps) ≡ from_place m ps → from_place m (from_text (p ∷ ps)) ≡ from_place m (p ∷ ps)
from-text_or m p ps true e some others = ap (λ t. from_place m (if t then p ∷ ps else from_text ps)) e
from-text_or m p ps false e some others =
    let len : length (text_of p) ≡ 0 = ap length (text_of-sequence p e) in
    let over : length (text_of p) ≤ m = omega (arith, len) in
    let same : m ≡ m - length (text_of p) = omega (arith, len) in
    ap (λ t. from_place m (if t then p ∷ ps else from_text ps)) e ∙ others ∙ ap (λ n. from_place n ps) same ∙ sym (from-past m p ps some over)

pub from-text : (m : ℕ) (ps : List Piece) → 0 < m → from_place m (from_text ps) ≡ from_place m ps
from-text m [] some = refl
from-text m (p ∷ ps) some = from-text_or m p ps (is_text_kind p.kind) refl some (from-text m ps some)

style-text_or : (m : ℕ) (style : Attributes) (p : Piece) (ps : List Piece) (is_text : Bool) → is_text_kind p.kind ≡ is_text → 0 < m → 0 < length p.bytes
    → ((s : Attributes) → style_after_all s (before_place m ps) ≡ style_after_all (style_after_all s (through_place 0 ps)) (before_place m (from_text ps)))
    → style_after_all style (before_place m (p ∷ ps)) ≡ style_after_all (style_after_all style (through_place 0 (p ∷ ps))) (before_place m (from_text (p ∷ ps)))
style-text_or m style p ps true e some bytes others =
    let len : length (text_of p) ≡ length p.bytes = ap length (text_of-text p e) in
    let inside_first : 0 < length (text_of p) = omega (arith, len, bytes) in
    ap (λ t. style_after_all style (before_place m (if t then p ∷ ps else from_text ps))) (sym e)
    ∙ ap (λ found. style_after_all (style_after_all style found) (before_place m (from_text (p ∷ ps)))) (sym (through-inside 0 p ps inside_first))
style-text_or m style p ps false e some bytes others =
    let len : length (text_of p) ≡ 0 = ap length (text_of-sequence p e) in
    let over : length (text_of p) ≤ m = omega (arith, len) in
    let low : length (text_of p) ≤ 0 = omega (arith, len) in
    let same : m - length (text_of p) ≡ m = omega (arith, len) in
    let none : 0 ≡ 0 - length (text_of p) = omega (arith, len) in
    ap (style_after_all style) (before-past m p ps some over) ∙ ap (λ n. style_after_all (style_after style p) (before_place n ps)) same ∙ others (style_after style p)
    ∙ ap (λ n. style_after_all (style_after_all (style_after style p) (through_place n ps)) (before_place m (from_text ps))) none
    ∙ ap (λ found. style_after_all (style_after_all style found) (before_place m (from_text ps))) (sym (through-past 0 p ps low))
    ∙ ap (λ t. style_after_all (style_after_all style (through_place 0 (p ∷ ps))) (before_place m (if t then p ∷ ps else from_text ps))) (sym e)

pub style-text : (m : ℕ) (style : Attributes) (ps : List Piece) → EachStands ps → 0 < m
    → style_after_all style (before_place m ps) ≡ style_after_all (style_after_all style (through_place 0 ps)) (before_place m (from_text ps))
style-text m style [] each some = refl
style-text m style (p ∷ ps) each some = style-text_or m style p ps (is_text_kind p.kind) refl some (Stands-some p.kind p.bytes ps each.0) (λ s. style-text m s ps each.1 some)

-- ---- the slice up to the byte

passed : (b : Bool) (c : ℕ) → passed_over b (c ∷ []) ≡ 0
passed true c = refl
passed false c = refl

module _ (c : ℕ) (rest : List ℕ) (style : Attributes) (end : List ℕ) (end_style : Attributes) (lands : Lands c rest style end end_style) where
  abbrev n : ℕ
  n = bytes_to c rest

  abbrev cut : List ℕ
  cut = joined (from_place n (pieces rest))

  abbrev cut_style : Attributes
  cut_style = style_after_all style (before_place n (pieces rest))

  cut-stands : EachStands (from_place n (pieces rest))
  cut-stands = EachStands-from n (pieces rest) (ArePiecesOf-pieces rest).stand

  cut-read : pieces cut ≡ from_place n (pieces rest)
  cut-read = pieces-joined (from_place n (pieces rest)) cut-stands

  beyond : pieces end ≡ from_text (pieces cut)
  beyond = lands.there ∙ ap from_text (sym cut-read)

  opened : end_style ≡ style_after_all cut_style (through_place 0 (pieces cut))
  opened = lands.known ∙ style-through_split n style (pieces rest) ∙ ap (λ ps. style_after_all cut_style (through_place 0 ps)) (sym cut-read)

  n-fits : n ≤ length (strip (pieces rest))
  n-fits = match-fits (c ∷ []) 0 (strip (pieces rest)) (first_match (c ∷ []) 0 (strip (pieces rest))) (length (strip (pieces rest))) n refl refl (omega arith)

  pub byte-slice : rest ≡ joined (through_place n (pieces rest)) ++ end
  byte-slice = rest_slice rest style n cut cut_style cut-read refl end end_style beyond opened

  pub byte-part : start_bytes style ++ (take (length rest - length end) rest ++ end_bytes end_style) ≡ dressed style (through_place n (pieces rest))
  byte-part = slice_part rest style n cut cut_style cut-read refl end end_style beyond opened

  pub byte-plain : has_escape rest ≡ false → style ≡ plain_attributes → end_style ≡ plain_attributes
  byte-plain gone plain =
      let shown = strip-fits rest in
      let h = n-fits in
      let fits : n ≤ length rest = omega (arith, shown, h) in
      plain-end rest style n cut cut_style cut-read refl gone end_style opened plain fits

  -- after the byte
  module _ (some : 0 < length end) where
    one-within : 1 ≤ text_len end
    one-within = text_some end lands.shows_text some

    pub byte-there : pieces (drop 1 end) ≡ from_place (n + 1) (pieces rest)
    byte-there =
        sym (from-plain end 1 one-within) ∙ ap (from_place 1) lands.there ∙ from-text 1 (from_place n (pieces rest)) (omega arith) ∙ sym (from-from n 1 (pieces rest))

    pub byte-known : end_style ≡ style_after_all style (before_place (n + 1) (pieces rest))
    byte-known =
        lands.known ∙ style-through_split n style (pieces rest)
        ∙ sym (style-plain end 1 one-within (style_after_all cut_style (through_place 0 (from_place n (pieces rest)))))
        ∙ ap (λ ps. style_after_all (style_after_all cut_style (through_place 0 (from_place n (pieces rest)))) (before_place 1 ps)) lands.there
        ∙ sym (style-text 1 cut_style (from_place n (pieces rest)) cut-stands (omega arith))
        ∙ sym (style-before_sum n 1 style (pieces rest))

    byte-found : Some n ≡ first_match (c ∷ []) 0 (strip (pieces rest))
    byte-found =
        let more : (length end == 0) ≡ false = grind (arith, nat_tests) in
        sym (lands.found ∙ ap (λ (t : Bool). if t then None else Some n) more)

    pub byte-next : (begun : Bool) → parts_left (c ∷ []) begun style (pieces rest) ≡ dressed style (through_place n (pieces rest)) ∷ parts_left (c ∷ []) true end_style (pieces (drop 1 end))
    byte-next begun = next-part (c ∷ []) begun rest style n (drop 1 end) end_style (byte-found ∙ ap (λ m. first_match (c ∷ []) m (strip (pieces rest))) (sym (passed begun c))) byte-there byte-known

  pub byte-last : (begun : Bool) → length end ≡ 0 → parts_left (c ∷ []) begun style (pieces rest) ≡ dressed style (through_place n (pieces rest)) ∷ []
  byte-last begun gone =
      let empty : (length end == 0) ≡ true = grind (arith, nat_tests) in
      let none : first_match (c ∷ []) 0 (strip (pieces rest)) ≡ None = lands.found ∙ ap (λ (t : Bool). if t then None else Some n) empty in
      let all : n ≡ length (strip (pieces rest)) = ap (λ (o : Option ℕ). unwrap_or o (length (strip (pieces rest)))) none in
      let over : length (strip (pieces rest)) ≤ n = omega (arith, all) in
      parts_left-found (c ∷ []) begun style (pieces rest) None (ap (λ m. first_match (c ∷ []) m (strip (pieces rest))) (passed begun c) ∙ none)
      ∙ ap (λ ps. dressed style ps ∷ []) (sym (through-all n (pieces rest) over))
