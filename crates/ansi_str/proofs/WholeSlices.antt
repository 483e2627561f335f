-- What a cut of a whole text shows.
use Rattle.std.proofs.Common.{◌≡◌, ◌≢◌, ℕ, ◌-◌, ◌≤◌, Bool, true, false, List, [], ◌∷◌, ◌++◌, length, map, take, slice_range, refl, ap, sym, subst, ◌∙◌, append-nil}
use Rattle.std.specs.Prelude.{chars, if◌then◌else◌}
use Rattle.std.proofs.lemmas.List.Sums.{fold-append}
use Rattle.std.proofs.lemmas.Str.{chars-nil}
use Rattle.ansi_scan.specs.declared.items.Kind.{Kind}
use Rattle.ansi_scan.specs.declared.items.Kind.TheVariants.{Text, Sgr, Csi, Osc, Esc, Str, Broken}
use Rattle.ansi_scan.specs.Sequences.{Piece, joined, Stands, EachStands, ArePiecesOf, NoneBroken}
use Rattle.ansi_scan.specs.Joining.{is_text_kind}
use Rattle.ansi_scan.specs.Attributes.{Attributes, plain_attributes}
use Rattle.ansi_scan.specs.StartsAndEnds.{end_bytes, end_sequences}
use Rattle.ansi_scan.proofs.Uniqueness.{ArePiecesOf-unique}
use Rattle.ansi_scan.proofs.Effects.{end_from_itself, end_bytes-sequences}
use Rattle.ansi_str.specs.StyledText.{text_of, strip, style_after, style_after_all, styled_from, styled, IsClosed}
use Rattle.ansi_str.specs.Parts.{from_place, before_place, through_place}
use Rattle.ansi_str.specs.Walking.{sequences}
use Rattle.ansi_str.specs.Cuts.{cut_part}
use Rattle.ansi_str.specs.Keeping.{sequences_among as only}
use Rattle.ansi_str_search.proofs.TextLemmas.LastSequence.{strip-append}
use Rattle.ansi_str_search.proofs.TextLemmas.Seams.{joined-append}
use Rattle.ansi_str_search.proofs.Parts.{text_of-sequence, style_by-text}
use Rattle.ansi_str_search.proofs.PiecesAtPlaces.{none, inside, past, reach, has_text, before-inside, before-past, EachStands-from, strip-from}
use Rattle.ansi_str_search.proofs.Dressed.{renditions, joined-renditions, ends_stand, styled_from-append, styled_from-renditions, style_after_all-renditions, EachStands-append, EachStands-through, NoneBroken-append, NoneBroken-renditions, NoneBroken-through, NoneBroken-from, NoTextFirst-renditions}
use Rattle.ansi_str_search.proofs.Slices.{strip-renditions, strip-through}
use Rattle.ansi_str.proofs.CutParts.{sequences-text, sequences-sequence, cut_part-slice, style-cut}

-- ---- the sequences, as pieces

module _ (p : Piece) (ps : List Piece) where
  only-text : is_text_kind p.kind ≡ true → only (p ∷ ps) ≡ only ps
  only-text e = ap (λ t. if t then only ps else p ∷ only ps) e

  only-sequence : is_text_kind p.kind ≡ false → only (p ∷ ps) ≡ p ∷ only ps
  only-sequence e = ap (λ t. if t then only ps else p ∷ only ps) e

joined-only : (ps : List Piece) → joined (only ps) ≡ sequences ps
joined-only [] = refl
joined-only (p ∷ ps) = by (is_text_kind p.kind) refl (joined-only ps)
  where
    by : (text : Bool) → is_text_kind p.kind ≡ text → joined (only ps) ≡ sequences ps → joined (only (p ∷ ps)) ≡ sequences (p ∷ ps)
    by true e others = ap joined (only-text p ps e) ∙ others ∙ sym (sequences-text p ps e)
    by false e others = ap joined (only-sequence p ps e) ∙ ap (λ bytes. p.bytes ++ bytes) others ∙ sym (sequences-sequence p ps e)

-- they set the style that the pieces set, and show nothing
style-only : (style : Attributes) (ps : List Piece) → style_after_all style (only ps) ≡ style_after_all style ps
style-only style [] = refl
style-only style (p ∷ ps) = by (is_text_kind p.kind) refl (λ other. style-only other ps)
  where
    by : (text : Bool) → is_text_kind p.kind ≡ text → ((other : Attributes) → style_after_all other (only ps) ≡ style_after_all other ps) → style_after_all style (only (p ∷ ps)) ≡ style_after_all style (p ∷ ps)
    by true e others = ap (style_after_all style) (only-text p ps e) ∙ others style ∙ ap (λ s. style_after_all s ps) (sym (style_by-text style p.kind p.bytes e))
    by false e others = ap (style_after_all style) (only-sequence p ps e) ∙ others (style_after style p)

abbrev in_style : Attributes → ℕ → (ℕ × Attributes)
in_style style c = (c, style)

shown-only : (style : Attributes) (ps : List Piece) → styled_from style (only ps) ≡ []
shown-only style [] = refl
shown-only style (p ∷ ps) = by (is_text_kind p.kind) refl (λ other. shown-only other ps)
  where
    by : (text : Bool) → is_text_kind p.kind ≡ text → ((other : Attributes) → styled_from other (only ps) ≡ []) → styled_from style (only (p ∷ ps)) ≡ []
    by true e others = ap (styled_from style) (only-text p ps e) ∙ others style
    by false e others =
        ap (styled_from style) (only-sequence p ps e)
        ∙ ap (λ bytes. map (in_style style) (chars bytes) ++ styled_from (style_after style p) (only ps)) (text_of-sequence p e)
        ∙ ap (λ cs. map (in_style style) cs ++ styled_from (style_after style p) (only ps)) chars-nil ∙ others (style_after style p)

strip-only : (ps : List Piece) → strip (only ps) ≡ []
strip-only [] = refl
strip-only (p ∷ ps) = by (is_text_kind p.kind) refl (strip-only ps)
  where
    by : (text : Bool) → is_text_kind p.kind ≡ text → strip (only ps) ≡ [] → strip (only (p ∷ ps)) ≡ []
    by true e others = ap strip (only-text p ps e) ∙ others
    by false e others = ap strip (only-sequence p ps e) ∙ ap (λ bytes. bytes ++ strip (only ps)) (text_of-sequence p e) ∙ others

-- a whole sequence is a piece before any pieces
Stands-anywhere : (kind : Kind) (bytes : List ℕ) (ps qs : List Piece) → Stands kind bytes ps → kind ≢ Broken → is_text_kind kind ≡ false → Stands kind bytes qs
Stands-anywhere Text bytes ps qs stands whole e = cc e
Stands-anywhere Sgr bytes ps qs stands whole e = stands
Stands-anywhere Csi bytes ps qs stands whole e = stands
Stands-anywhere Osc bytes ps qs stands whole e = stands
Stands-anywhere Esc bytes ps qs stands whole e = stands
Stands-anywhere Str bytes ps qs stands whole e = stands
Stands-anywhere Broken bytes ps qs stands whole e = absurd (whole refl)

-- the sequences before a place are pieces before any pieces
abbrev Stand : List Piece → List Piece → Type 0
Stand ps after = EachStands (only ps ++ after) × NoneBroken (only ps)

stand-first : (p : Piece) (ps qs after : List Piece) (text : Bool) → is_text_kind p.kind ≡ text → Stands p.kind p.bytes ps → p.kind ≢ Broken → Stand qs after → Stand (p ∷ qs) after
stand-first p ps qs after true e stands whole others = subst (λ found. EachStands (found ++ after) × NoneBroken found) (sym (only-text p qs e)) others
stand-first p ps qs after false e stands whole others =
    subst (λ found. EachStands (found ++ after) × NoneBroken found) (sym (only-sequence p qs e))
    ((Stands-anywhere p.kind p.bytes ps (only qs ++ after) stands whole e, others.0), (whole, others.1))

stand-before : (n : ℕ) (ps after : List Piece) → EachStands ps → NoneBroken ps → EachStands after → Stand (before_place n ps) after
stand-before n [] after each whole behind = (behind, tt)
stand-before n (p ∷ ps) after each whole behind = elim (reach n p) [
  | none e ↦ subst (λ m. Stand (before_place m (p ∷ ps)) after) (sym e) (behind, tt)
  | inside some h ↦
      subst (λ found. Stand found after) (sym (before-inside n p ps some h))
      (subst (λ found. EachStands (found ++ after) × NoneBroken found) (sym (only-text (record { kind = p.kind; bytes = _ }) [] (has_text p n h))) (behind, tt))
  | past some h ↦
      subst (λ found. Stand found after) (sym (before-past n p ps some h))
      (stand-first p ps (before_place (n - length (text_of p)) ps) after (is_text_kind p.kind) refl each.0 whole.0 (stand-before (n - length (text_of p)) ps after each.1 whole.1 behind))
]

module _ (text : List ℕ) (ps qs : List Piece) (a b : ℕ) (order : a ≤ b) (of_text : ArePiecesOf text ps) (whole : NoneBroken ps) (of_cut : ArePiecesOf (cut_part a b ps) qs) where
  abbrev before : List Piece
  before = only (before_place a ps)

  abbrev known : Attributes
  known = style_after_all plain_attributes (before_place a ps)

  abbrev slice : List Piece
  slice = through_place (b - a) (from_place a ps)

  abbrev open_style : Attributes
  open_style = style_after_all known slice

  abbrev ends : List Piece
  ends = renditions (end_sequences open_style)

  slice_whole : NoneBroken slice
  slice_whole = NoneBroken-through (b - a) (from_place a ps) (NoneBroken-from a ps whole)

  behind_stands : EachStands (slice ++ ends)
  behind_stands = EachStands-append slice ends
      (EachStands-through (b - a) (from_place a ps) (EachStands-from a ps of_text.stand) (NoneBroken-from a ps whole)) slice_whole
      (NoTextFirst-renditions (end_sequences open_style)) (ends_stand known slice)

  stand : Stand (before_place a ps) (slice ++ ends)
  stand = stand-before a ps (slice ++ ends) of_text.stand whole behind_stands

  cut-joined : joined (before ++ (slice ++ ends)) ≡ cut_part a b ps
  cut-joined =
      joined-append before (slice ++ ends) ∙ ap (λ bytes. bytes ++ joined (slice ++ ends)) (joined-only (before_place a ps))
      ∙ ap (λ bytes. sequences (before_place a ps) ++ bytes) (joined-append slice ends ∙ ap (λ bytes. joined slice ++ bytes) (joined-renditions (end_sequences open_style) ∙ sym (end_bytes-sequences open_style)))
      ∙ ap (λ s. sequences (before_place a ps) ++ (joined slice ++ end_bytes s)) (sym (style-cut a b plain_attributes ps order))
      ∙ sym (cut_part-slice a b ps order)

  its_pieces : qs ≡ before ++ (slice ++ ends)
  its_pieces = ArePiecesOf-unique (cut_part a b ps) qs (before ++ (slice ++ ends)) of_cut (record { joins = cut-joined; stand = stand.0 })

  pub cut-shows : styled qs ≡ styled_from known slice
  cut-shows =
      ap styled its_pieces ∙ styled_from-append plain_attributes before (slice ++ ends)
      ∙ ap (λ cs. cs ++ styled_from (style_after_all plain_attributes before) (slice ++ ends)) (shown-only plain_attributes (before_place a ps))
      ∙ ap (λ s. styled_from s (slice ++ ends)) (style-only plain_attributes (before_place a ps))
      ∙ styled_from-append known slice ends
      ∙ ap (λ cs. styled_from known slice ++ cs) (styled_from-renditions open_style (end_sequences open_style)) ∙ append-nil (styled_from known slice)

  pub cut-strip : strip qs ≡ slice_range (strip ps) a b
  cut-strip =
      ap strip its_pieces ∙ strip-append before (slice ++ ends)
      ∙ ap (λ bytes. bytes ++ strip (slice ++ ends)) (strip-only (before_place a ps))
      ∙ strip-append slice ends
      ∙ ap (λ bytes. strip slice ++ bytes) (strip-renditions (end_sequences open_style)) ∙ append-nil (strip slice)
      ∙ strip-through (b - a) (from_place a ps) ∙ ap (take (b - a)) (strip-from a ps)

  cut-plain : style_after_all plain_attributes (before ++ (slice ++ ends)) ≡ plain_attributes
  cut-plain =
      fold-append style_after plain_attributes before (slice ++ ends)
      ∙ ap (λ s. style_after_all s (slice ++ ends)) (style-only plain_attributes (before_place a ps))
      ∙ fold-append style_after known slice ends
      ∙ style_after_all-renditions open_style (end_sequences open_style) ∙ end_from_itself open_style

  pub cut-closed : IsClosed qs
  cut-closed = subst IsClosed (sym its_pieces) (record {
    none_broken = NoneBroken-append before (slice ++ ends) stand.1 (NoneBroken-append slice ends slice_whole (NoneBroken-renditions (end_sequences open_style)));
    plain = cut-plain;
  })
