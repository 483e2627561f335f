-- Texts without their sequences.
use Rattle.std.proofs.Common.{◌≡◌, ◌≢◌, ℕ, Bool, true, false, ◌||◌, ◌&&◌, not, ◌==◌, List, [], ◌∷◌, ◌++◌, flat_map, refl, ap, sym, ◌∙◌, append-nil}
use Rattle.std.specs.Prelude.{IsTrue}
use Rattle.std.specs.List.{list_all}
use Rattle.std.proofs.lemmas.List.Concat.{flat_map-append}
use Rattle.std.proofs.lemmas.List.Folds.{list_any-append}
use Rattle.ansi_scan.specs.declared.items.Kind.{Kind}
use Rattle.ansi_scan.specs.declared.items.Kind.TheVariants.{Text, Sgr, Csi, Osc, Esc, Str, Broken}
use Rattle.ansi_scan.specs.Sequences.{Piece, escape, is_not_escape, joined, Stands, EachStands, ArePiecesOf}
use Rattle.ansi_scan.proofs.Uniqueness.{begins_with_escape}
use Rattle.ansi_str_search.specs.Text.StyledText.{has_escape, shown, strip}

-- a sequence shows nothing
pub shown-sequence : (kind : Kind) (bytes : List ℕ) → kind ≢ Text → shown kind bytes ≡ []
shown-sequence Text bytes other = absurd (other refl)
shown-sequence Sgr bytes other = refl
shown-sequence Csi bytes other = refl
shown-sequence Osc bytes other = refl
shown-sequence Esc bytes other = refl
shown-sequence Str bytes other = refl
shown-sequence Broken bytes other = refl

-- one more that gives nothing
pub flat_map-nothing : {A B : Type 0} (f : A → List B) (xs : List A) (x : A) → f x ≡ [] → flat_map f (xs ++ x ∷ []) ≡ flat_map f xs
flat_map-nothing f xs x none =
    flat_map-append f xs (x ∷ []) ∙ ap (λ ys. flat_map f xs ++ (ys ++ [])) none ∙ append-nil (flat_map f xs)

-- ---- a text without ESC

pub escaped : (bytes rest after : List ℕ) → bytes ≡ escape ∷ rest → has_escape (bytes ++ after) ≡ false → ⊥
escaped bytes rest after same none =
    let found : true ≡ false = ap (λ bs. has_escape (bs ++ after)) (sym same) ∙ none in
    cc found

shown-without_escape : (kind : Kind) (bytes : List ℕ) (after : List Piece) → Stands kind bytes after → has_escape (bytes ++ joined after) ≡ false → shown kind bytes ≡ bytes
shown-without_escape Text bytes after stands none = refl
shown-without_escape Sgr bytes after stands none = let begins = begins_with_escape Sgr bytes after stands (λ e. cc e) in absurd (escaped bytes begins.0 (joined after) begins.1 none)
shown-without_escape Csi bytes after stands none = let begins = begins_with_escape Csi bytes after stands (λ e. cc e) in absurd (escaped bytes begins.0 (joined after) begins.1 none)
shown-without_escape Osc bytes after stands none = let begins = begins_with_escape Osc bytes after stands (λ e. cc e) in absurd (escaped bytes begins.0 (joined after) begins.1 none)
shown-without_escape Esc bytes after stands none = let begins = begins_with_escape Esc bytes after stands (λ e. cc e) in absurd (escaped bytes begins.0 (joined after) begins.1 none)
shown-without_escape Str bytes after stands none = let begins = begins_with_escape Str bytes after stands (λ e. cc e) in absurd (escaped bytes begins.0 (joined after) begins.1 none)
shown-without_escape Broken bytes after stands none = let begins = begins_with_escape Broken bytes after stands (λ e. cc e) in absurd (escaped bytes begins.0 (joined after) begins.1 none)

strip-stands : (pieces : List Piece) → EachStands pieces → has_escape (joined pieces) ≡ false → strip pieces ≡ joined pieces
strip-stands [] stands none = refl
strip-stands (piece ∷ pieces) stands none =
    let here = shown-without_escape piece.kind piece.bytes pieces stands.0 none in
    let split = or_false (has_escape piece.bytes) (has_escape (joined pieces)) (sym (list_any-append (λ b. b == escape) piece.bytes (joined pieces)) ∙ none) in
    ap (λ bytes. bytes ++ strip pieces) here ∙ ap (λ bytes. piece.bytes ++ bytes) (strip-stands pieces stands.1 split)
  where
    or_false : (a b : Bool) → (a || b) ≡ false → b ≡ false
    or_false true b h = cc h
    or_false false b h = h

-- a text without ESC is its own strip
pub strip-without_escape : (text : List ℕ) (pieces : List Piece) → ArePiecesOf text pieces → has_escape text ≡ false → strip pieces ≡ text
strip-without_escape text pieces of_text none = strip-stands pieces of_text.stand (ap has_escape of_text.joins ∙ none) ∙ of_text.joins

-- ---- the strip has no ESC

escape_step : (is_escape others_plain others_have : Bool) → (not is_escape && others_plain) ≡ true → (others_plain ≡ true → others_have ≡ false) → (is_escape || others_have) ≡ false
escape_step true others_plain others_have plain others = cc plain
escape_step false others_plain others_have plain others = others plain

pub has_escape-plain : (bytes : List ℕ) → IsTrue (list_all is_not_escape bytes) → has_escape bytes ≡ false
has_escape-plain [] plain = refl
has_escape-plain (b ∷ bs) plain = escape_step (b == escape) (list_all is_not_escape bs) (has_escape bs) plain (has_escape-plain bs)

has_escape-shown : (kind : Kind) (bytes : List ℕ) (after : List Piece) → Stands kind bytes after → has_escape (shown kind bytes) ≡ false
has_escape-shown Text bytes after stands = has_escape-plain bytes stands.plain
has_escape-shown Sgr bytes after stands = refl
has_escape-shown Csi bytes after stands = refl
has_escape-shown Osc bytes after stands = refl
has_escape-shown Esc bytes after stands = refl
has_escape-shown Str bytes after stands = refl
has_escape-shown Broken bytes after stands = refl

has_escape-strip_stands : (pieces : List Piece) → EachStands pieces → has_escape (strip pieces) ≡ false
has_escape-strip_stands [] stands = refl
has_escape-strip_stands (piece ∷ pieces) stands =
    list_any-append (λ b. b == escape) (shown piece.kind piece.bytes) (strip pieces)
    ∙ ap (λ found. found || has_escape (strip pieces)) (has_escape-shown piece.kind piece.bytes pieces stands.0)
    ∙ has_escape-strip_stands pieces stands.1

-- no ESC is left without the sequences
pub has_escape-strip : (text : List ℕ) (pieces : List Piece) → ArePiecesOf text pieces → has_escape (strip pieces) ≡ false
has_escape-strip text pieces of_text = has_escape-strip_stands pieces of_text.stand

-- and nothing more to take away
pub strip-strip : (text : List ℕ) (pieces again : List Piece) → ArePiecesOf text pieces → ArePiecesOf (strip pieces) again → strip again ≡ strip pieces
strip-strip text pieces again of_text of_strip = strip-without_escape (strip pieces) again of_strip (has_escape-strip text pieces of_text)
