-- The pieces of a text in UTF-8, and the characters that they show.
use Rattle.std.proofs.Common.{◌≡◌, ℕ, ◌+◌, List, [], ◌∷◌, ◌++◌, length, map, refl, ap, sym, subst, ◌∙◌, arith}
use Rattle.std.specs.Prelude.{chars}
use Rattle.std.specs.List.{AllByRecursion}
use Rattle.std.specs.Str.{IsUtf8, IsCharBoundary}
use Rattle.std.proofs.Math.Seq.{take-append_seam, drop-append_seam}
use Rattle.std.proofs.lemmas.List.{map-append}
use Rattle.std.proofs.lemmas.Str.{chars-nil, chars-append, IsUtf8-nil, IsUtf8-append, IsUtf8-take, IsUtf8-drop}
use Rattle.ansi_scan.specs.declared.items.Kind.{Kind}
use Rattle.ansi_scan.specs.declared.items.Kind.TheVariants.{Text, Sgr, Csi, Osc, Esc, Str, Broken}
use Rattle.ansi_scan.specs.Sequences.{Piece, joined, EachStands, ArePiecesOf}
use Rattle.ansi_scan.specs.Pieces.{pieces}
use Rattle.ansi_scan.specs.Attributes.{Attributes, plain_attributes}
use Rattle.ansi_scan.proofs.Boundaries.{IsCharBoundary-behind}
use Rattle.ansi_scan.proofs.Existence.{ArePiecesOf-pieces}
use Rattle.ansi_str_search.specs.Text.StyledText.{shown, text_of, strip, style_after, styled_from, styled}

abbrev pub EachUtf8 : List Piece → Type 0
EachUtf8 ps = AllByRecursion (λ p. IsUtf8 p.bytes) ps

-- a text is UTF-8 in each of its pieces
pub EachUtf8-pieces : (ps : List Piece) → EachStands ps → IsUtf8 (joined ps) → EachUtf8 ps
EachUtf8-pieces [] each utf8 = tt
EachUtf8-pieces (p ∷ ps) each utf8 =
    let text = p.bytes ++ joined ps in
    let end : IsCharBoundary text (length {A = ℕ} [] + length p.bytes) = IsCharBoundary-behind p.kind p.bytes ps each.0 each.1 text [] utf8 refl in
    let same : length {A = ℕ} [] + length p.bytes ≡ length p.bytes = omega arith in
    let boundary : IsCharBoundary text (length p.bytes) = subst (λ n. IsCharBoundary text n) same end in (
      subst IsUtf8 (take-append_seam p.bytes (joined ps)) (IsUtf8-take text (length p.bytes) utf8 boundary),
      EachUtf8-pieces ps each.1 (subst IsUtf8 (drop-append_seam p.bytes (joined ps)) (IsUtf8-drop text (length p.bytes) utf8 boundary)),
    )

pub IsUtf8-joined : (ps : List Piece) → EachUtf8 ps → IsUtf8 (joined ps)
IsUtf8-joined [] each = IsUtf8-nil
IsUtf8-joined (p ∷ ps) each = IsUtf8-append p.bytes (joined ps) each.0 (IsUtf8-joined ps each.1)

IsUtf8-shown : (kind : Kind) (bytes : List ℕ) → IsUtf8 bytes → IsUtf8 (shown kind bytes)
IsUtf8-shown Text bytes utf8 = utf8
IsUtf8-shown Sgr bytes utf8 = IsUtf8-nil
IsUtf8-shown Csi bytes utf8 = IsUtf8-nil
IsUtf8-shown Osc bytes utf8 = IsUtf8-nil
IsUtf8-shown Esc bytes utf8 = IsUtf8-nil
IsUtf8-shown Str bytes utf8 = IsUtf8-nil
IsUtf8-shown Broken bytes utf8 = IsUtf8-nil

pub IsUtf8-text_of : (p : Piece) → IsUtf8 p.bytes → IsUtf8 (text_of p)
IsUtf8-text_of p utf8 = IsUtf8-shown p.kind p.bytes utf8

pub IsUtf8-strip : (ps : List Piece) → EachUtf8 ps → IsUtf8 (strip ps)
IsUtf8-strip [] each = IsUtf8-nil
IsUtf8-strip (p ∷ ps) each = IsUtf8-append (text_of p) (strip ps) (IsUtf8-text_of p each.0) (IsUtf8-strip ps each.1)

pub EachUtf8-of : (text : List ℕ) (ps : List Piece) → IsUtf8 text → ArePiecesOf text ps → EachUtf8 ps
EachUtf8-of text ps utf8 of_text = EachUtf8-pieces ps of_text.stand (subst IsUtf8 (sym of_text.joins) utf8)

-- what a text in UTF-8 shows is UTF-8
pub IsUtf8-stripped : (text : List ℕ) (ps : List Piece) → IsUtf8 text → ArePiecesOf text ps → IsUtf8 (strip ps)
IsUtf8-stripped text ps utf8 of_text = IsUtf8-strip ps (EachUtf8-of text ps utf8 of_text)

pub IsUtf8-shown_text : (text : List ℕ) → IsUtf8 text → IsUtf8 (strip (pieces text))
IsUtf8-shown_text text utf8 = IsUtf8-stripped text (pieces text) utf8 (ArePiecesOf-pieces text)

-- ---- the styled characters without their styles

characters-with_style : (style : Attributes) (cs : List ℕ) → map (λ (x : ℕ × Attributes). x.0) (map (λ c. (c, style)) cs) ≡ cs
characters-with_style style [] = refl
characters-with_style style (c ∷ cs) = ap (λ (others : List ℕ). c ∷ others) (characters-with_style style cs)

characters-from : (style : Attributes) (ps : List Piece) → EachUtf8 ps → map (λ (x : ℕ × Attributes). x.0) (styled_from style ps) ≡ chars (strip ps)
characters-from style [] each = sym chars-nil
characters-from style (p ∷ ps) each =
    map-append (λ (x : ℕ × Attributes). x.0) (map (λ c. (c, style)) (chars (text_of p))) (styled_from (style_after style p) ps)
    ∙ ap (λ cs. cs ++ map (λ (x : ℕ × Attributes). x.0) (styled_from (style_after style p) ps)) (characters-with_style style (chars (text_of p)))
    ∙ ap (λ cs. chars (text_of p) ++ cs) (characters-from (style_after style p) ps each.1)
    ∙ sym (chars-append (text_of p) (strip ps) (IsUtf8-text_of p each.0))

-- the characters that a text shows are those of the text without its sequences
pub styled-characters : (text : List ℕ) (ps : List Piece) → IsUtf8 text → ArePiecesOf text ps → map (λ (x : ℕ × Attributes). x.0) (styled ps) ≡ chars (strip ps)
styled-characters text ps utf8 of_text = characters-from plain_attributes ps (EachUtf8-of text ps utf8 of_text)
