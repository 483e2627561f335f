-- The part of a split of a whole text, without its sequences.
use Rattle.std.proofs.Common.{◌≡◌, ℕ, zero, suc, ◌+◌, ◌-◌, ◌<◌, ◌≤◌, ◌==◌, Bool, true, false, List, [], ◌∷◌, ◌++◌, length, take, slice_range, refl, ap, sym, ◌∙◌, arith, append-nil, eqb-true}
use Rattle.std.specs.Prelude.{if◌then◌else◌}
use Rattle.std.proofs.Math.Seq.{take-append-add}
use Rattle.std.proofs.lemmas.List.{take-append-le}
use Rattle.ansi_scan.specs.Sequences.{Piece, ArePiecesOf, NoneBroken}
use Rattle.ansi_scan.specs.Attributes.{Attributes, plain_attributes}
use Rattle.ansi_scan.specs.StartsAndEnds.{start_sequences, end_sequences}
use Rattle.ansi_str_search.specs.Text.StyledText.{text_of, strip, style_after_all}
use Rattle.ansi_str_search.proofs.TextLemmas.LastSequence.{strip-append}
use Rattle.ansi_str_search.specs.Parts.{from_place, before_place, through_place, split_part}
use Rattle.ansi_str_search.proofs.Parts.{text_of-text}
use Rattle.ansi_str_search.proofs.PiecesAtPlaces.{has_text, through-inside, through-past, strip-from}
use Rattle.ansi_str_search.proofs.Dressed.{renditions, dressed_pieces, pieces_of_part, short, long, cut}

pub strip-renditions : (sequences : List (List ℕ)) → strip (renditions sequences) ≡ []
strip-renditions [] = refl
strip-renditions (bytes ∷ others) = strip-renditions others

pub strip-dressed_pieces : (style : Attributes) (slice : List Piece) → strip (dressed_pieces style slice) ≡ strip slice
strip-dressed_pieces style slice =
    let ends = renditions (end_sequences (style_after_all style slice)) in
    strip-append (renditions (start_sequences style)) (slice ++ ends)
    ∙ ap (λ bytes. bytes ++ strip (slice ++ ends)) (strip-renditions (start_sequences style))
    ∙ strip-append slice ends
    ∙ ap (λ bytes. strip slice ++ bytes) (strip-renditions (end_sequences (style_after_all style slice)))
    ∙ append-nil (strip slice)

take-append_past : (xs ys : List ℕ) (n : ℕ) → length xs ≤ n → take n (xs ++ ys) ≡ xs ++ take (n - length xs) ys
take-append_past xs ys n h =
    let sum : n ≡ length xs + (n - length xs) = omega arith in
    ap (λ m. take m (xs ++ ys)) sum ∙ take-append-add xs ys (n - length xs)

strip-front : (n : ℕ) (p : Piece) (none : Bool) → (n == 0) ≡ none → n < length (text_of p)
    → strip (if none then [] else record { kind = p.kind; bytes = take n p.bytes } ∷ []) ≡ take n (text_of p)
strip-front n p true e h = ap (λ m. take m (text_of p)) (sym (eqb-true n 0 e))
strip-front n p false e h =
    let text = has_text p n h in
    append-nil (text_of (record { kind = p.kind; bytes = take n p.bytes }))
    ∙ text_of-text (record { kind = p.kind; bytes = take n p.bytes }) text ∙ ap (take n) (sym (text_of-text p text))

pub strip-through : (n : ℕ) (ps : List Piece) → strip (through_place n ps) ≡ take n (strip ps)
strip-through zero [] = refl
strip-through (suc n) [] = refl
strip-through n (p ∷ ps) = elim (cut n p) [
  | short h ↦
      let fits : n ≤ length (text_of p) = omega arith in
      ap strip (through-inside n p ps h) ∙ strip-front n p (n == 0) refl h ∙ sym (take-append-le n (text_of p) (strip ps) fits)
  | long h ↦
      ap strip (through-past n p ps h) ∙ ap (λ bytes. text_of p ++ bytes) (strip-through (n - length (text_of p)) ps)
      ∙ sym (take-append_past (text_of p) (strip ps) n h)
]

-- a part without its sequences is the slice of the text without its own
pub strip-split_part : (text : List ℕ) (ps qs : List Piece) (a b : ℕ) → a ≤ b → ArePiecesOf text ps → NoneBroken ps → ArePiecesOf (split_part a b ps) qs
    → strip qs ≡ slice_range (strip ps) a b
strip-split_part text ps qs a b ordered of_text whole of_part =
    let style = style_after_all plain_attributes (before_place a ps) in
    let slice = through_place (b - a) (from_place a ps) in
    ap strip (pieces_of_part text ps qs a b ordered of_text whole of_part)
    ∙ strip-dressed_pieces style slice
    ∙ strip-through (b - a) (from_place a ps)
    ∙ ap (take (b - a)) (strip-from a ps)
