-- The characters that a text shows, from either end.
use Rattle.std.proofs.Common.{◌≡◌, ◌≤◌, ℕ, false, List, [], ◌∷◌, ◌++◌, length, ap, sym, ◌∙◌, arith, append_assoc, append-nil, length-append}
use Rattle.std.specs.Prelude.{chars, encode_utf8}
use Rattle.std.specs.Char.{IsScalar}
use Rattle.std.specs.Str.{IsUtf8}
use Rattle.std.proofs.lemmas.Str.{chars-append, chars-nil, chars_past_char, encodes-chars, length-le-encodes, IsUtf8-encode}
use Rattle.std.proofs.Math.Utf8.{encodes}
use Rattle.ansi_scan.specs.declared.items.Kind.{Kind}
use Rattle.ansi_scan.specs.declared.items.Kind.TheVariants.{Text, Sgr, Csi, Osc, Esc, Str, Broken}
use Rattle.ansi_scan.specs.Sequences.{Piece, joined}
use Rattle.ansi_scan.specs.Pieces.{pieces}
use Rattle.ansi_scan.proofs.Existence.{ArePiecesOf-pieces}
use Rattle.ansi_str_search.specs.Text.StyledText.{has_escape, shown, text_of, strip}
use Rattle.ansi_str_search.specs.Text.Characters.{shown_chars}
use Rattle.ansi_str_search.proofs.TextLemmas.Utf8Pieces.{IsUtf8-shown_text}
use Rattle.ansi_str_search.proofs.TextLemmas.LastSequence.{strip-plain, strip-nothing}

-- what a text shows after its first item of text
pub shown_chars-first : (text first rest : List ℕ) → strip (pieces text) ≡ first ++ strip (pieces rest) → IsUtf8 first → shown_chars text ≡ chars first ++ shown_chars rest
shown_chars-first text first rest same utf8 = ap chars same ∙ chars-append first (strip (pieces rest)) utf8

-- what a text shows before its last item of text
pub shown_chars-last : (text rest last : List ℕ) → strip (pieces text) ≡ strip (pieces rest) ++ last → IsUtf8 rest → shown_chars text ≡ shown_chars rest ++ chars last
shown_chars-last text rest last same utf8 = ap chars same ∙ chars-append (strip (pieces rest)) last (IsUtf8-shown_text rest utf8)

-- a text without ESC shows its characters, and the empty text none
pub shown_chars-plain : (text : List ℕ) → has_escape text ≡ false → shown_chars text ≡ chars text
shown_chars-plain text none = ap chars (strip-plain text none)

pub shown_chars-nothing : shown_chars [] ≡ []
shown_chars-nothing = ap chars strip-nothing ∙ chars-nil

pub shown_chars-empty : (text : List ℕ) → length text ≡ 0 → shown_chars text ≡ []
shown_chars-empty [] empty = shown_chars-nothing
shown_chars-empty (b ∷ bs) empty = absurd (omega arith)

-- an empty text adds none
pub chars-behind_none : (cs behind : List ℕ) → length behind ≡ 0 → cs ++ chars behind ≡ cs
chars-behind_none cs [] empty = ap (λ ds. cs ++ ds) chars-nil ∙ append-nil cs
chars-behind_none cs (b ∷ bs) empty = absurd (omega arith)

-- the last character of a text
pub chars-before_char : (text before : List ℕ) (c : ℕ) → IsUtf8 before → IsScalar c → text ≡ before ++ encode_utf8 c → chars text ≡ chars before ++ c ∷ []
chars-before_char text before c utf8 scalar same =
    ap chars same
    ∙ chars-append before (encode_utf8 c) utf8
    ∙ ap (λ cs. chars before ++ cs) (chars_past_char (encode_utf8 c) [] c (IsUtf8-encode c scalar) (sym (append-nil (encode_utf8 c))) ∙ ap (λ cs. c ∷ cs) chars-nil)

-- ---- what is left of a text, between what is begun from either end

abbrev pub left_chars : List ℕ → List ℕ → List ℕ → List ℕ
left_chars front rest back = chars front ++ (shown_chars rest ++ chars back)

pub left_chars-new : (text : List ℕ) → left_chars [] text [] ≡ shown_chars text
left_chars-new text =
    ap (λ cs. cs ++ (shown_chars text ++ chars [])) chars-nil ∙ ap (λ cs. shown_chars text ++ cs) chars-nil ∙ append-nil (shown_chars text)

-- there are no more characters than bytes
length-shown : (kind : Kind) (bytes : List ℕ) → length (shown kind bytes) ≤ length bytes
length-shown Text bytes = omega arith
length-shown Sgr bytes = omega arith
length-shown Csi bytes = omega arith
length-shown Osc bytes = omega arith
length-shown Esc bytes = omega arith
length-shown Str bytes = omega arith
length-shown Broken bytes = omega arith

pub length-strip : (ps : List Piece) → length (strip ps) ≤ length (joined ps)
length-strip [] = omega arith
length-strip (p ∷ ps) =
    omega (arith, length-shown p.kind p.bytes, length-strip ps, length-append (text_of p) (strip ps), length-append p.bytes (joined ps))

pub length-shown_chars : (text : List ℕ) → IsUtf8 text → length (shown_chars text) ≤ length text
length-shown_chars text utf8 =
    let whole : length (joined (pieces text)) ≡ length text = ap length (ArePiecesOf-pieces text).joins in
    let size : length (encodes (shown_chars text)) ≡ length (strip (pieces text)) = ap length (encodes-chars (strip (pieces text)) (IsUtf8-shown_text text utf8)) in
    omega (arith, whole, size, length-strip (pieces text), length-le-encodes (shown_chars text))

-- from the front: the first item of text is begun
pub left_chars-first : (front rest back first behind left : List ℕ) (c : ℕ) → front ≡ [] → shown_chars rest ≡ chars first ++ shown_chars behind → chars first ≡ c ∷ chars left
    → left_chars front rest back ≡ c ∷ left_chars left behind back
left_chars-first front rest back first behind left c none shows begins =
    ap (λ bs. chars bs ++ (shown_chars rest ++ chars back)) none
    ∙ ap (λ cs. cs ++ (shown_chars rest ++ chars back)) chars-nil
    ∙ ap (λ cs. cs ++ chars back) (shows ∙ ap (λ cs. cs ++ shown_chars behind) begins)
    ∙ append_assoc (c ∷ chars left) (shown_chars behind) (chars back)

-- there is none, so nothing but what is begun from the back is left
pub left_chars-back : (front rest back first behind : List ℕ) → front ≡ [] → shown_chars rest ≡ chars first ++ shown_chars behind → first ≡ [] → (first ≡ [] → shown_chars behind ≡ [])
    → left_chars front rest back ≡ chars back
left_chars-back front rest back first behind none shows empty shows_none =
    let nothing : shown_chars rest ≡ [] = shows ∙ ap (λ bs. chars bs ++ shown_chars behind) empty ∙ ap (λ cs. cs ++ shown_chars behind) chars-nil ∙ shows_none empty in
    ap (λ bs. chars bs ++ (shown_chars rest ++ chars back)) none
    ∙ ap (λ cs. cs ++ (shown_chars rest ++ chars back)) chars-nil
    ∙ ap (λ cs. cs ++ chars back) nothing

pub left_chars-only_back : (front behind back : List ℕ) → front ≡ [] → shown_chars behind ≡ [] → left_chars front behind back ≡ chars back
left_chars-only_back front behind back none nothing =
    ap (λ bs. chars bs ++ (shown_chars behind ++ chars back)) none
    ∙ ap (λ cs. cs ++ (shown_chars behind ++ chars back)) chars-nil
    ∙ ap (λ cs. cs ++ chars back) nothing

-- from the back: the last item of text is begun
pub left_chars-last : (front rest back last before left : List ℕ) (c : ℕ) → back ≡ [] → shown_chars rest ≡ shown_chars before ++ chars last → chars last ≡ chars left ++ c ∷ []
    → left_chars front rest back ≡ left_chars front before left ++ c ∷ []
left_chars-last front rest back last before left c none shows ends =
    let behind : shown_chars rest ++ chars back ≡ (shown_chars before ++ chars left) ++ c ∷ [] =
    ap (λ bs. shown_chars rest ++ chars bs) none
    ∙ ap (λ cs. shown_chars rest ++ cs) chars-nil
    ∙ append-nil (shown_chars rest)
    ∙ shows
    ∙ ap (λ cs. shown_chars before ++ cs) ends
    ∙ sym (append_assoc (shown_chars before) (chars left) (c ∷ [])) in
    ap (λ cs. chars front ++ cs) behind ∙ sym (append_assoc (chars front) (shown_chars before ++ chars left) (c ∷ []))

-- there is none, so nothing but what is begun from the front is left
pub left_chars-only_front : (front before back : List ℕ) → back ≡ [] → shown_chars before ≡ [] → left_chars front before back ≡ chars front
left_chars-only_front front before back none nothing =
    ap (λ bs. chars front ++ (shown_chars before ++ chars bs)) none
    ∙ ap (λ cs. chars front ++ (shown_chars before ++ cs)) chars-nil
    ∙ ap (λ cs. chars front ++ (cs ++ [])) nothing
    ∙ append-nil (chars front)

pub left_chars-front : (front rest back last before : List ℕ) → back ≡ [] → shown_chars rest ≡ shown_chars before ++ chars last → last ≡ [] → (last ≡ [] → shown_chars before ≡ [])
    → left_chars front rest back ≡ chars front
left_chars-front front rest back last before none shows empty shows_none =
    left_chars-only_front front rest back none
    (shows ∙ ap (λ bs. shown_chars before ++ chars bs) empty ∙ ap (λ cs. shown_chars before ++ cs) chars-nil ∙ append-nil (shown_chars before) ∙ shows_none empty)
