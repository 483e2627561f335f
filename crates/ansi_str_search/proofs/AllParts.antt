-- The parts of a split, all together: their bounds, what they are without their sequences, and that lines are lines.
use Rattle.std.proofs.Common.{◌≡◌, ◌≢◌, ℕ, ◌+◌, ◌-◌, ◌<◌, ◌≤◌, ◌==◌, Bool, true, false, All, List, [], ◌∷◌, ◌++◌, length, map, take, slice_range, refl, ap, sym, subst, ◌∙◌, arith}
use Rattle.std.specs.Prelude.{if◌then◌else◌}
use Rattle.std.specs.List.{AllByRecursion, list_any}
use Rattle.std.proofs.lemmas.List.Elements.{All-from_recursion, All-map}
use Rattle.std.proofs.lemmas.List.Folds.{list_any_none}
use Rattle.std.proofs.lemmas.Simd.{map-map}
use Rattle.ansi_scan.specs.declared.items.Kind.{Kind}
use Rattle.ansi_scan.specs.declared.items.Kind.TheVariants.{Text}
use Rattle.ansi_scan.specs.Sequences.{Piece, joined, Stands, EachStands, ArePiecesOf, NoneBroken}
use Rattle.ansi_scan.specs.Joining.{is_text_kind}
use Rattle.ansi_scan.specs.Pieces.{pieces}
use Rattle.ansi_scan.specs.Attributes.{Attributes, plain_attributes}
use Rattle.ansi_scan.proofs.Existence.{ArePiecesOf-pieces}
use Rattle.ansi_scan.proofs.Uniqueness.{begins_with_escape}
use Rattle.ansi_str_search.specs.Text.StyledText.{has_escape, text_of, strip, style_after_all}
use Rattle.ansi_str_search.specs.Parts.{from_place, before_place, through_place, split_part}
use Rattle.ansi_str_search.specs.Matches.{AreMatchesFrom, AreMatches, bounds_between, split_bounds, text_parts, styled_parts}
use Rattle.ansi_str_search.specs.Lines.{IsClosedLine}
use Rattle.ansi_str_search.proofs.Parts.{style_by-text, text_of-text}
use Rattle.ansi_str_search.proofs.Styles.{split_part-slice}
use Rattle.ansi_str_search.proofs.PiecesAtPlaces.{none, inside, past, reach, from-inside, from-past, before-inside, before-past, through-inside, through-past, strip-from}
use Rattle.ansi_str_search.proofs.Dressed.{short, long, cut, IsClosed-split_part}
use Rattle.ansi_str_search.proofs.Slices.{strip-through, strip-split_part}
use Rattle.ansi_str_search.proofs.TextLemmas.Stripping.{escaped, strip-without_escape}
use Rattle.ansi_str_search.proofs.PlainParts.{plain_part}
use Rattle.ansi_str_search.proofs.Rests.{no_escape-behind}
use Rattle.ansi_str_search.proofs.Chars.{Without}
use Rattle.ansi_str_search.proofs.Utf8.{Occurs-fits, bounds-hold}
use Rattle.ansi_str_search.proofs.Cuts.{Without-unmatched}

-- ---- the bounds

abbrev IsWithin : List ℕ → (ℕ × ℕ) → Type 0
IsWithin text bound = (bound.0 ≤ bound.1) × (bound.1 ≤ length text)

bounds-within : (pattern text matches : List ℕ) → AreMatches pattern text matches → AllByRecursion (IsWithin text) (split_bounds pattern text matches)
bounds-within pattern text matches are =
    let start : 0 ≤ length text = omega arith in
    let same : 0 ≤ 0 = omega arith in
    let end : length text ≤ length text = omega arith in
    bounds-hold (IsWithin text) (λ n. n ≤ length text) pattern text (λ a b ordered _ fits. (ordered, fits))
    (λ at occurs. (occurs.boundary.0, Occurs-fits pattern text at occurs)) end 0 0 matches start same start are

pub bounds-in_order : (pattern text matches : List ℕ) → AreMatches pattern text matches
    → All (λ bound. (bound.0 ≤ bound.1) × (bound.1 ≤ length text)) (split_bounds pattern text matches)
bounds-in_order pattern text matches are = All-from_recursion (IsWithin text) (split_bounds pattern text matches) (bounds-within pattern text matches are)

pub map-same : {A B : Type 0} (P : A → Type 0) (f g : A → B) (xs : List A) → ((x : A) → P x → f x ≡ g x) → AllByRecursion P xs → map f xs ≡ map g xs
map-same P f g [] same all = refl
map-same P f g (x ∷ xs) same all = ap (λ y. y ∷ map f xs) (same x all.0) ∙ ap (λ ys. g x ∷ ys) (map-same P f g xs same all.1)

-- ---- without their sequences

pub strip-styled_parts : (pattern text : List ℕ) (ps : List Piece) (matches : List ℕ) → ArePiecesOf text ps → NoneBroken ps → AreMatches pattern (strip ps) matches
    → map (λ part. strip (pieces part)) (styled_parts ps (split_bounds pattern (strip ps) matches)) ≡ text_parts (strip ps) (split_bounds pattern (strip ps) matches)
strip-styled_parts pattern text ps matches of_text whole are =
    let bounds = split_bounds pattern (strip ps) matches in
    map-map (λ part. strip (pieces part)) (λ bound. split_part bound.0 bound.1 ps) bounds
    ∙ map-same (IsWithin (strip ps)) (λ bound. strip (pieces (split_part bound.0 bound.1 ps))) (λ bound. slice_range (strip ps) bound.0 bound.1) bounds
    (λ bound fits. strip-split_part text ps (pieces (split_part bound.0 bound.1 ps)) bound.0 bound.1 fits.0 of_text whole (ArePiecesOf-pieces (split_part bound.0 bound.1 ps)))
    (bounds-within pattern (strip ps) matches are)

-- ---- a text without ESC

abbrev AreTexts : List Piece → Type 0
AreTexts ps = AllByRecursion (λ p. is_text_kind p.kind ≡ true) ps

text_kind-without_escape : (kind : Kind) (bytes : List ℕ) (after : List Piece) (text : Bool) → is_text_kind kind ≡ text → Stands kind bytes after
    → has_escape (bytes ++ joined after) ≡ false → is_text_kind kind ≡ true
text_kind-without_escape kind bytes after true e stands gone = e
text_kind-without_escape kind bytes after false e stands gone =
    let other : kind ≢ Text = λ same. (let both : true ≡ false = ap is_text_kind (sym same) ∙ e in cc both) in
    let begins = begins_with_escape kind bytes after stands other in
    absurd (escaped bytes begins.0 (joined after) begins.1 gone)

AreTexts-stand : (ps : List Piece) → EachStands ps → has_escape (joined ps) ≡ false → AreTexts ps
AreTexts-stand [] each gone = tt
AreTexts-stand (p ∷ ps) each gone = (
  text_kind-without_escape p.kind p.bytes ps (is_text_kind p.kind) refl each.0 gone,
  AreTexts-stand ps each.1 (no_escape-behind (p.bytes ++ joined ps) p.bytes (joined ps) refl gone),
)

AreTexts-from : (n : ℕ) (ps : List Piece) → AreTexts ps → AreTexts (from_place n ps)
AreTexts-from n [] texts = tt
AreTexts-from n (p ∷ ps) texts = elim (reach n p) [
  | none e ↦ subst (λ m. AreTexts (from_place m (p ∷ ps))) (sym e) texts
  | inside some h ↦ subst AreTexts (sym (from-inside n p ps some h)) texts
  | past some h ↦ subst AreTexts (sym (from-past n p ps some h)) (AreTexts-from (n - length (text_of p)) ps texts.1)
]

AreTexts-before : (n : ℕ) (ps : List Piece) → AreTexts ps → AreTexts (before_place n ps)
AreTexts-before n [] texts = tt
AreTexts-before n (p ∷ ps) texts = elim (reach n p) [
  | none e ↦ subst (λ m. AreTexts (before_place m (p ∷ ps))) (sym e) tt
  | inside some h ↦ subst AreTexts (sym (before-inside n p ps some h)) (texts.0, tt)
  | past some h ↦ subst AreTexts (sym (before-past n p ps some h)) (texts.0, AreTexts-before (n - length (text_of p)) ps texts.1)
]

AreTexts-front : (n : ℕ) (p : Piece) (is_zero : Bool) → is_text_kind p.kind ≡ true → AreTexts (if is_zero then [] else record { kind = p.kind; bytes = take n p.bytes } ∷ [])
AreTexts-front n p true text = tt
AreTexts-front n p false text = (text, tt)

AreTexts-through : (n : ℕ) (ps : List Piece) → AreTexts ps → AreTexts (through_place n ps)
AreTexts-through n [] texts = tt
AreTexts-through n (p ∷ ps) texts = elim (cut n p) [
  | short h ↦ subst AreTexts (sym (through-inside n p ps h)) (AreTexts-front n p (n == 0) texts.0)
  | long h ↦ subst AreTexts (sym (through-past n p ps h)) (texts.0, AreTexts-through (n - length (text_of p)) ps texts.1)
]

style-texts : (style : Attributes) (ps : List Piece) → AreTexts ps → style_after_all style ps ≡ style
style-texts style [] texts = refl
style-texts style (p ∷ ps) texts = ap (λ s. style_after_all s ps) (style_by-text style p.kind p.bytes texts.0) ∙ style-texts style ps texts.1

joined-texts : (ps : List Piece) → AreTexts ps → joined ps ≡ strip ps
joined-texts [] texts = refl
joined-texts (p ∷ ps) texts = ap (λ bytes. bytes ++ joined ps) (sym (text_of-text p texts.0)) ∙ ap (λ bytes. text_of p ++ bytes) (joined-texts ps texts.1)

split_part-texts : (ps : List Piece) (a b : ℕ) → a ≤ b → AreTexts ps → split_part a b ps ≡ slice_range (strip ps) a b
split_part-texts ps a b ordered texts =
    let before = style_after_all plain_attributes (before_place a ps) in
    let slice = through_place (b - a) (from_place a ps) in
    let plain : before ≡ plain_attributes = style-texts plain_attributes (before_place a ps) (AreTexts-before a ps texts) in
    let are_texts : AreTexts slice = AreTexts-through (b - a) (from_place a ps) (AreTexts-from a ps texts) in
    split_part-slice a b ps ordered
    ∙ plain_part before (style_after_all before slice) (joined slice) plain (style-texts before slice are_texts ∙ plain)
    ∙ joined-texts slice are_texts ∙ strip-through (b - a) (from_place a ps) ∙ ap (take (b - a)) (strip-from a ps)

-- the parts of a text without ESC are its slices
pub styled_parts-without_escape : (pattern text : List ℕ) (ps : List Piece) (matches : List ℕ) → has_escape text ≡ false → ArePiecesOf text ps → AreMatches pattern text matches
    → styled_parts ps (split_bounds pattern text matches) ≡ text_parts text (split_bounds pattern text matches)
styled_parts-without_escape pattern text ps matches gone of_text are =
    let texts = AreTexts-stand ps of_text.stand (ap has_escape of_text.joins ∙ gone) in
    map-same (IsWithin text) (λ bound. split_part bound.0 bound.1 ps) (λ bound. slice_range text bound.0 bound.1) (split_bounds pattern text matches)
    (λ bound fits. split_part-texts ps bound.0 bound.1 fits.0 texts ∙ ap (λ bytes. slice_range bytes bound.0 bound.1) (strip-without_escape text ps of_text gone))
    (bounds-within pattern text matches are)

-- ---- a split at one ASCII character

-- what holds of each two places with no such character between them holds of the ends of each part
module _ (c : ℕ) (low : c < 128) (text : List ℕ) (P : (ℕ × ℕ) → Type 0) (each : (a b : ℕ) → a ≤ b → Without c (slice_range text a b) → P (a, b)) where
  bounds-without : (from : ℕ) (matches : List ℕ) → from ≤ length text → AreMatchesFrom (c ∷ []) text from matches → AllByRecursion P (bounds_between 1 from (length text) matches)
  bounds-without from [] fits never =
      let end : length text ≤ length text = omega arith in
      (each from (length text) fits (Without-unmatched c text from (length text) low end (λ other late _. never other late)), tt)
  bounds-without from (at ∷ others) fits are =
      let next : at + 1 ≤ length text = Occurs-fits (c ∷ []) text at are.0.occurs in
      let up_to : at ≤ length text = omega arith in
      (each from at are.0.not_before (Without-unmatched c text from at low up_to are.0.first), bounds-without (at + 1) others next are.1)

any-Without : (c : ℕ) (xs : List ℕ) → Without c xs → list_any (λ x. x == c) xs ≡ false
any-Without c xs without = list_any_none (λ x. x == c) xs (All-from_recursion (λ x. (x == c) ≡ false) xs without)

IsClosedLine-split_part : (text : List ℕ) (ps : List Piece) (a b : ℕ) → a ≤ b → ArePiecesOf text ps → NoneBroken ps → Without 0x0a (slice_range (strip ps) a b) → IsClosedLine (split_part a b ps)
IsClosedLine-split_part text ps a b ordered of_text whole without =
    let part = split_part a b ps in
    record {
      pieces = pieces part;
      of_line = ArePiecesOf-pieces part;
      closed = IsClosed-split_part text ps (pieces part) a b ordered of_text whole (ArePiecesOf-pieces part);
      one_line = any-Without 0x0a (strip (pieces part)) (subst (Without 0x0a) (sym (strip-split_part text ps (pieces part) a b ordered of_text whole (ArePiecesOf-pieces part))) without);
    }

-- the parts of a whole text between its line feeds are closed lines
pub All-closed_lines : (text : List ℕ) (ps : List Piece) (matches : List ℕ) → ArePiecesOf text ps → AreMatches (0x0a ∷ []) (strip ps) matches → NoneBroken ps
    → All IsClosedLine (styled_parts ps (split_bounds (0x0a ∷ []) (strip ps) matches))
All-closed_lines text ps matches of_text are whole =
    let low : 0x0a < 128 = omega arith in
    let start : 0 ≤ length (strip ps) = omega arith in
    let bounds = split_bounds (0x0a ∷ []) (strip ps) matches in
    let holds = λ (bound : ℕ × ℕ). IsClosedLine (split_part bound.0 bound.1 ps) in
    All-map IsClosedLine (λ bound. split_part bound.0 bound.1 ps) bounds (All-from_recursion holds bounds
    (bounds-without 0x0a low (strip ps) holds (λ a b ordered without. IsClosedLine-split_part text ps a b ordered of_text whole without) 0 matches start are))
