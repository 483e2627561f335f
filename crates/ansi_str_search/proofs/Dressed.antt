-- What the part of a split of a whole text shows.
use Rattle.std.proofs.Common.{◌≡◌, ◌≢◌, ℕ, zero, suc, ◌-◌, ◌<◌, ◌≤◌, ◌==◌, nat_lt, Bool, true, false, All, List, [], ◌∷◌, ◌++◌, fold, length, map, take, IsSome, refl, ap, sym, subst, ◌∙◌, arith, append_assoc, append-nil, IsTrue}
use Rattle.std.specs.Prelude.{chars, if◌then◌else◌}
use Rattle.std.specs.List.{concat, list_all}
use Rattle.std.proofs.lemmas.Bool.{and_parts}
use Rattle.std.specs.Cmp.Derive.{both_true}
use Rattle.std.proofs.lemmas.Bool.Decides.{nat_tests}
use Rattle.std.proofs.lemmas.List.{length-take}
use Rattle.std.proofs.lemmas.List.Elements.{All-head, All-tail}
use Rattle.std.proofs.lemmas.List.Sums.{fold-append}
use Rattle.std.proofs.lemmas.Str.{chars-nil}
use Rattle.ansi_scan.specs.declared.items.Kind.{Kind}
use Rattle.ansi_scan.specs.declared.items.Kind.TheVariants.{Text, Sgr, Csi, Osc, Esc, Str, Broken}
use Rattle.ansi_scan.specs.Sequences.{Piece, joined, Stands, EachStands, ArePiecesOf, NoneBroken, NoTextFirst, is_not_escape}
use Rattle.ansi_scan.specs.Joining.{is_text_kind}
use Rattle.ansi_scan.specs.Attributes.{Attributes, IsRendition, plain_attributes}
use Rattle.ansi_scan.specs.Rendition.{applied, sgr_parameters}
use Rattle.ansi_scan.specs.StartsAndEnds.{start_bytes, start_sequences, end_sequences}
use Rattle.ansi_scan.proofs.Renditions.{IsSgr-if_read}
use Rattle.ansi_scan.proofs.Uniqueness.{ArePiecesOf-unique}
use Rattle.ansi_scan.proofs.Effects.{start_from_plain, end_from_itself, start_bytes-sequences, end_bytes-sequences, start_sequences_are_read, end_sequences_are_read}
use Rattle.ansi_scan.proofs.Kept.{IsRendition-plain, IsRendition-applied}
use Rattle.ansi_str_search.specs.Text.StyledText.{text_of, style_by, style_after, style_after_all, styled_from, styled, IsClosed}
use Rattle.ansi_str_search.proofs.TextLemmas.Seams.{joined-append}
use Rattle.ansi_str_search.specs.Parts.{from_place, before_place, through_place, split_part, dressed}
use Rattle.ansi_str_search.proofs.Parts.{text_of-text, text_of-sequence}
use Rattle.ansi_str_search.proofs.Styles.{split_part-slice}
use Rattle.ansi_str_search.proofs.PiecesAtPlaces.{none, inside, past, reach, has_text, from-inside, from-past, through-inside, through-past, EachStands-from}

-- ---- sequences as pieces

abbrev pub renditions : List (List ℕ) → List Piece
renditions [] = []
renditions (bytes ∷ others) = record { kind = Sgr; bytes = bytes } ∷ renditions others

abbrev pub IsRead : List ℕ → Type 0
IsRead bytes = IsSome (sgr_parameters bytes)

pub joined-renditions : (sequences : List (List ℕ)) → joined (renditions sequences) ≡ concat sequences
joined-renditions [] = refl
joined-renditions (bytes ∷ others) = ap (λ rest. bytes ++ rest) (joined-renditions others)

pub EachStands-renditions : (sequences : List (List ℕ)) (after : List Piece) → All IsRead sequences → EachStands after → EachStands (renditions sequences ++ after)
EachStands-renditions [] after all each = each
EachStands-renditions (bytes ∷ others) after all each =
    (IsSgr-if_read bytes (All-head IsRead bytes others all), EachStands-renditions others after (All-tail IsRead bytes others all) each)

pub NoTextFirst-renditions : (sequences : List (List ℕ)) → NoTextFirst (renditions sequences)
NoTextFirst-renditions [] = tt
NoTextFirst-renditions (bytes ∷ others) = λ same. cc same

pub NoneBroken-renditions : (sequences : List (List ℕ)) → NoneBroken (renditions sequences)
NoneBroken-renditions [] = tt
NoneBroken-renditions (bytes ∷ others) = ((λ same. cc same), NoneBroken-renditions others)

pub styled_from-renditions : (style : Attributes) (sequences : List (List ℕ)) → styled_from style (renditions sequences) ≡ []
styled_from-renditions style [] = refl
styled_from-renditions style (bytes ∷ others) =
    ap (λ cs. map (λ c. (c, style)) cs ++ styled_from (applied style bytes) (renditions others)) chars-nil
    ∙ styled_from-renditions (applied style bytes) others

pub style_after_all-renditions : (style : Attributes) (sequences : List (List ℕ)) → style_after_all style (renditions sequences) ≡ fold applied style sequences
style_after_all-renditions style [] = refl
style_after_all-renditions style (bytes ∷ others) = style_after_all-renditions (applied style bytes) others

-- ---- pieces after pieces

pub styled_from-append : (style : Attributes) (ps qs : List Piece) → styled_from style (ps ++ qs) ≡ styled_from style ps ++ styled_from (style_after_all style ps) qs
styled_from-append style [] qs = refl
styled_from-append style (p ∷ ps) qs =
    ap (λ rest. map (λ c. (c, style)) (chars (text_of p)) ++ rest) (styled_from-append (style_after style p) ps qs)
    ∙ sym (append_assoc (map (λ c. (c, style)) (chars (text_of p))) (styled_from (style_after style p) ps) (styled_from (style_after_all (style_after style p) ps) qs))

NoTextFirst-append : (ps after : List Piece) → NoTextFirst ps → NoTextFirst after → NoTextFirst (ps ++ after)
NoTextFirst-append [] after first behind = behind
NoTextFirst-append (p ∷ ps) after first behind = first

pub NoneBroken-append : (ps after : List Piece) → NoneBroken ps → NoneBroken after → NoneBroken (ps ++ after)
NoneBroken-append [] after first behind = behind
NoneBroken-append (p ∷ ps) after first behind = (first.0, NoneBroken-append ps after first.1 behind)

-- a piece that is not broken is a piece before others too, where they begin with no text either
pub Stands-before : (kind : Kind) (bytes : List ℕ) (ps qs : List Piece) → Stands kind bytes ps → kind ≢ Broken → (NoTextFirst ps → NoTextFirst qs) → Stands kind bytes qs
Stands-before Text bytes ps qs stands whole turn = record { some = stands.some; plain = stands.plain; ends = turn stands.ends }
Stands-before Sgr bytes ps qs stands whole turn = stands
Stands-before Csi bytes ps qs stands whole turn = stands
Stands-before Osc bytes ps qs stands whole turn = stands
Stands-before Esc bytes ps qs stands whole turn = stands
Stands-before Str bytes ps qs stands whole turn = stands
Stands-before Broken bytes ps qs stands whole turn = absurd (whole refl)

pub EachStands-append : (ps after : List Piece) → EachStands ps → NoneBroken ps → NoTextFirst after → EachStands after → EachStands (ps ++ after)
EachStands-append [] after each whole first behind = behind
EachStands-append (p ∷ ps) after each whole first behind = (
  Stands-before p.kind p.bytes ps (ps ++ after) each.0 whole.0 (λ ends. NoTextFirst-append ps after ends first),
  EachStands-append ps after each.1 whole.1 first behind,
)

-- ---- pieces up to a place

pub other_kind : (kind : Kind) → kind ≢ Text → is_text_kind kind ≡ false
other_kind Text other = absurd (other refl)
other_kind Sgr other = refl
other_kind Csi other = refl
other_kind Osc other = refl
other_kind Esc other = refl
other_kind Str other = refl
other_kind Broken other = refl

pub NoTextFirst-through : (n : ℕ) (ps : List Piece) → NoTextFirst ps → NoTextFirst (through_place n ps)
NoTextFirst-through n [] first = tt
NoTextFirst-through n (p ∷ ps) first =
    let empty : length (text_of p) ≡ 0 = ap length (text_of-sequence p (other_kind p.kind first)) in
    let over : length (text_of p) ≤ n = omega arith in
    subst NoTextFirst (sym (through-past n p ps over)) first

pub list_all-take : (p : ℕ → Bool) (n : ℕ) (xs : List ℕ) → IsTrue (list_all p xs) → IsTrue (list_all p (take n xs))
list_all-take p zero xs h = refl
list_all-take p (suc n) [] h = h
list_all-take p (suc n) (x ∷ xs) h =
    let parts = and_parts (p x) (list_all p xs) h in
    both_true parts.0 (list_all-take p n xs parts.1)

pub Stands-take : (kind : Kind) (bytes : List ℕ) (after : List Piece) (n : ℕ) → is_text_kind kind ≡ true → 0 < n → n < length bytes → Stands kind bytes after → Stands kind (take n bytes) []
Stands-take Text bytes after n e some h stands = record { some = omega (arith, length-take n bytes); plain = list_all-take is_not_escape n bytes stands.plain; ends = tt }
Stands-take Sgr bytes after n e some h stands = cc e
Stands-take Csi bytes after n e some h stands = cc e
Stands-take Osc bytes after n e some h stands = cc e
Stands-take Esc bytes after n e some h stands = cc e
Stands-take Str bytes after n e some h stands = cc e
Stands-take Broken bytes after n e some h stands = cc e

pub EachStands-front : (n : ℕ) (p : Piece) (after : List Piece) (is_zero : Bool) → (n == 0) ≡ is_zero → n < length (text_of p) → Stands p.kind p.bytes after
    → EachStands (if is_zero then [] else record { kind = p.kind; bytes = take n p.bytes } ∷ [])
EachStands-front n p after true e h stands = tt
EachStands-front n p after false e h stands =
    let text = has_text p n h in
    let size : length (text_of p) ≡ length p.bytes = ap length (text_of-text p text) in
    let some : 0 < n = grind (arith, nat_tests) in
    let shorter : n < length p.bytes = omega arith in
    (Stands-take p.kind p.bytes after n text some shorter stands, tt)

NoneBroken-front : (n : ℕ) (p : Piece) (is_zero : Bool) → p.kind ≢ Broken → NoneBroken (if is_zero then [] else record { kind = p.kind; bytes = take n p.bytes } ∷ [])
NoneBroken-front n p true whole = tt
NoneBroken-front n p false whole = (whole, tt)

-- how a number of bytes of text compares with a piece, where 0 is as any other
pub data Cut (n : ℕ) (p : Piece) : Type 0 where
  short : n < length (text_of p) → Cut n p
  long : length (text_of p) ≤ n → Cut n p

cut_at : (n : ℕ) (p : Piece) (is_short : Bool) → nat_lt n (length (text_of p)) ≡ is_short → Cut n p
cut_at n p true e = let h : n < length (text_of p) = grind (arith, nat_tests) in short h
cut_at n p false e = let h : length (text_of p) ≤ n = grind (arith, nat_tests) in long h

pub cut : (n : ℕ) (p : Piece) → Cut n p
cut n p = cut_at n p (nat_lt n (length (text_of p))) refl

pub EachStands-through : (n : ℕ) (ps : List Piece) → EachStands ps → NoneBroken ps → EachStands (through_place n ps)
EachStands-through n [] each whole = tt
EachStands-through n (p ∷ ps) each whole = elim (cut n p) [
  | short h ↦ subst EachStands (sym (through-inside n p ps h)) (EachStands-front n p ps (n == 0) refl h each.0)
  | long h ↦ subst EachStands (sym (through-past n p ps h)) (
    Stands-before p.kind p.bytes ps (through_place (n - length (text_of p)) ps) each.0 whole.0 (NoTextFirst-through (n - length (text_of p)) ps),
    EachStands-through (n - length (text_of p)) ps each.1 whole.1,
  )
]

pub NoneBroken-through : (n : ℕ) (ps : List Piece) → NoneBroken ps → NoneBroken (through_place n ps)
NoneBroken-through n [] whole = tt
NoneBroken-through n (p ∷ ps) whole = elim (cut n p) [
  | short h ↦ subst NoneBroken (sym (through-inside n p ps h)) (NoneBroken-front n p (n == 0) whole.0)
  | long h ↦ subst NoneBroken (sym (through-past n p ps h)) (whole.0, NoneBroken-through (n - length (text_of p)) ps whole.1)
]

pub NoneBroken-from : (n : ℕ) (ps : List Piece) → NoneBroken ps → NoneBroken (from_place n ps)
NoneBroken-from n [] whole = tt
NoneBroken-from n (p ∷ ps) whole = elim (reach n p) [
  | none e ↦ subst (λ m. NoneBroken (from_place m (p ∷ ps))) (sym e) whole
  | inside some h ↦ subst NoneBroken (sym (from-inside n p ps some h)) whole
  | past some h ↦ subst NoneBroken (sym (from-past n p ps some h)) (NoneBroken-from (n - length (text_of p)) ps whole.1)
]

-- ---- a slice between a start and an end

abbrev pub dressed_pieces : Attributes → List Piece → List Piece
dressed_pieces style slice =
    renditions (start_sequences style) ++ (slice ++ renditions (end_sequences (style_after_all style slice)))

module _ (style : Attributes) (slice : List Piece) where
  abbrev starts : List (List ℕ)
  starts = start_sequences style

  abbrev open_style : Attributes
  open_style = style_after_all style slice

  abbrev ends : List (List ℕ)
  ends = end_sequences open_style

  pub joined-dressed : joined (dressed_pieces style slice) ≡ dressed style slice
  joined-dressed =
      joined-append (renditions starts) (slice ++ renditions ends)
      ∙ ap (λ bytes. bytes ++ joined (slice ++ renditions ends)) (joined-renditions starts ∙ sym (start_bytes-sequences style))
      ∙ ap (λ bytes. start_bytes style ++ bytes) (joined-append slice (renditions ends)
      ∙ ap (λ bytes. joined slice ++ bytes) (joined-renditions ends ∙ sym (end_bytes-sequences open_style)))

  pub ends_stand : EachStands (renditions ends)
  ends_stand = subst EachStands (append-nil (renditions ends)) (EachStands-renditions ends [] (end_sequences_are_read open_style) tt)

  pub ArePiecesOf-dressed : IsRendition style → EachStands slice → NoneBroken slice → ArePiecesOf (dressed style slice) (dressed_pieces style slice)
  ArePiecesOf-dressed rendition each whole = record {
    joins = joined-dressed;
    stand = EachStands-renditions starts (slice ++ renditions ends) (start_sequences_are_read style rendition)
        (EachStands-append slice (renditions ends) each whole (NoTextFirst-renditions ends) ends_stand);
  }

  after_start : IsRendition style → style_after_all plain_attributes (renditions starts) ≡ style
  after_start rendition = style_after_all-renditions plain_attributes starts ∙ start_from_plain style rendition

  pub styled-dressed : IsRendition style → styled (dressed_pieces style slice) ≡ styled_from style slice
  styled-dressed rendition =
      styled_from-append plain_attributes (renditions starts) (slice ++ renditions ends)
      ∙ ap (λ cs. cs ++ styled_from (style_after_all plain_attributes (renditions starts)) (slice ++ renditions ends)) (styled_from-renditions plain_attributes starts)
      ∙ ap (λ s. styled_from s (slice ++ renditions ends)) (after_start rendition)
      ∙ styled_from-append style slice (renditions ends)
      ∙ ap (λ cs. styled_from style slice ++ cs) (styled_from-renditions open_style ends)
      ∙ append-nil (styled_from style slice)

  plain_behind : IsRendition style → style_after_all plain_attributes (dressed_pieces style slice) ≡ plain_attributes
  plain_behind rendition =
      fold-append style_after plain_attributes (renditions starts) (slice ++ renditions ends)
      ∙ ap (λ s. style_after_all s (slice ++ renditions ends)) (after_start rendition)
      ∙ fold-append style_after style slice (renditions ends)
      ∙ style_after_all-renditions open_style ends ∙ end_from_itself open_style

  pub IsClosed-dressed : IsRendition style → NoneBroken slice → IsClosed (dressed_pieces style slice)
  IsClosed-dressed rendition whole = record {
    none_broken = NoneBroken-append (renditions starts) (slice ++ renditions ends) (NoneBroken-renditions starts)
        (NoneBroken-append slice (renditions ends) whole (NoneBroken-renditions ends));
    plain = plain_behind rendition;
  }

-- ---- the part of a split

IsRendition-by : (style : Attributes) (kind : Kind) (bytes : List ℕ) → IsRendition style → IsRendition (style_by style kind bytes)
IsRendition-by style Text bytes h = h
IsRendition-by style Sgr bytes h = IsRendition-applied style bytes h
IsRendition-by style Csi bytes h = h
IsRendition-by style Osc bytes h = h
IsRendition-by style Esc bytes h = h
IsRendition-by style Str bytes h = h
IsRendition-by style Broken bytes h = h

pub IsRendition-after : (style : Attributes) (ps : List Piece) → IsRendition style → IsRendition (style_after_all style ps)
IsRendition-after style [] h = h
IsRendition-after style (p ∷ ps) h = IsRendition-after (style_after style p) ps (IsRendition-by style p.kind p.bytes h)

module _ (text : List ℕ) (ps qs : List Piece) (a b : ℕ) (ordered : a ≤ b) (of_text : ArePiecesOf text ps) (whole : NoneBroken ps) (of_part : ArePiecesOf (split_part a b ps) qs) where
  abbrev before : Attributes
  before = style_after_all plain_attributes (before_place a ps)

  abbrev slice : List Piece
  slice = through_place (b - a) (from_place a ps)

  pub rendition : IsRendition before
  rendition = IsRendition-after plain_attributes (before_place a ps) IsRendition-plain

  pub slice_whole : NoneBroken slice
  slice_whole = NoneBroken-through (b - a) (from_place a ps) (NoneBroken-from a ps whole)

  pub slice_stands : EachStands slice
  slice_stands = EachStands-through (b - a) (from_place a ps) (EachStands-from a ps of_text.stand) (NoneBroken-from a ps whole)

  pub pieces_of_part : qs ≡ dressed_pieces before slice
  pieces_of_part = ArePiecesOf-unique (split_part a b ps) qs (dressed_pieces before slice) of_part
      (subst (λ bytes. ArePiecesOf bytes (dressed_pieces before slice)) (sym (split_part-slice a b ps ordered)) (ArePiecesOf-dressed before slice rendition slice_stands slice_whole))

  pub styled-split_part : styled qs ≡ styled_from before slice
  styled-split_part = ap styled pieces_of_part ∙ styled-dressed before slice rendition

  pub IsClosed-split_part : IsClosed qs
  IsClosed-split_part = subst IsClosed (sym pieces_of_part) (IsClosed-dressed before slice rendition slice_whole)
