-- Bytes that show styled characters, and what they show one after the other.
use Rattle.std.proofs.Common.{◌≡◌, ◌<◌, ◌==◌, ℕ, zero, suc, ◌&&◌, Bool, true, false, cond, List, [], ◌∷◌, ◌++◌, map, take, drop, refl, ap, sym, subst, ◌∙◌, arith, append_assoc, append-nil}
use Rattle.std.specs.Prelude.{chars}
use Rattle.std.specs.List.{AllZip, join_with_byte, list_any, repeat}
use Rattle.std.specs.Str.{IsUtf8}
use Rattle.std.proofs.Math.Utf8.{encode}
use Rattle.std.proofs.lemmas.Bool.{and_parts, or_parts, or_from}
use Rattle.std.proofs.lemmas.List.{take-append-drop}
use Rattle.std.proofs.lemmas.List.Elements.{All-from_recursion}
use Rattle.std.proofs.lemmas.List.Folds.{list_any-append}
use Rattle.std.proofs.lemmas.Str.{chars-IsAscii, IsUtf8-append, IsUtf8-nil}
use Rattle.std.proofs.lemmas.Str.Ascii.{IsAscii-from_all}
use Rattle.ansi_scan.specs.declared.items.Kind.TheVariants.{Text}
use Rattle.ansi_scan.specs.Sequences.{Piece, ArePiecesOf}
use Rattle.ansi_scan.specs.Joining.{is_text_kind, put_before, put_all_before}
use Rattle.ansi_scan.specs.Attributes.{plain_attributes}
use Rattle.ansi_scan.proofs.Joins.{ArePiecesOf-append, NoneBroken-put_all_before}
use Rattle.ansi_scan.proofs.Uniqueness.{ArePiecesOf-unique}
use Rattle.ansi_str.specs.StyledText.{IsClosed, strip, style_after_all, styled, styled_from, text_of}
use Rattle.ansi_str.specs.Lines.{IsClosedLine}
use Rattle.ansi_str_search.proofs.Finds.{IsUtf8-byte}
use Rattle.ansi_str_search.proofs.Parts.{text_of-text}
use Rattle.ansi_str_search.proofs.Utf8.{EachUtf8-pieces}
use Rattle.grid_records_measure.specs.Cutting.{replacement}
use Rattle.grid_records_measure.specs.TextLines.{line_feed}
use Rattle.grid_records_measure.proofs.ShownCuts.{styled-put_all_before, style-put_all_before, fill_pieces, ArePiecesOf-fill, NoneBroken-fill, style-fill, styled-fill}
use Rattle.tabled_size_wrap.specs.Wrapping.{replacement_bytes}
use Rattle.tabled_size_wrap.specs.Showing.{Styled, in_plain, joined_lines}

-- ---- bytes without a line feed

abbrev pub feeds : List ℕ → Bool
feeds bytes = list_any (λ byte. byte == line_feed) bytes

pub feeds-both : (xs ys : List ℕ) → feeds (xs ++ ys) ≡ false → (feeds xs ≡ false) × (feeds ys ≡ false)
feeds-both xs ys none = or_parts (feeds xs) (feeds ys) (sym (list_any-append (λ byte. byte == line_feed) xs ys) ∙ none)

pub feeds-take : (n : ℕ) (bytes : List ℕ) → feeds bytes ≡ false → feeds (take n bytes) ≡ false
feeds-take n bytes none = (feeds-both (take n bytes) (drop n bytes) (ap feeds (take-append-drop n bytes) ∙ none)).0

pub feeds-drop : (n : ℕ) (bytes : List ℕ) → feeds bytes ≡ false → feeds (drop n bytes) ≡ false
feeds-drop n bytes none = (feeds-both (take n bytes) (drop n bytes) (ap feeds (take-append-drop n bytes) ∙ none)).1

-- ---- the text of pieces before others

strip-both : (p q : Piece) (qs : List Piece) (one : Bool) → is_text_kind p.kind && is_text_kind q.kind ≡ one
    → strip (cond one (record { kind = Text; bytes = p.bytes ++ q.bytes } ∷ qs) (p ∷ q ∷ qs)) ≡ text_of p ++ strip (q ∷ qs)
strip-both p q qs false e = refl
strip-both p q qs true e =
    let texts = and_parts (is_text_kind p.kind) (is_text_kind q.kind) e in
    append_assoc p.bytes q.bytes (strip qs)
    ∙ ap (λ bytes. p.bytes ++ (bytes ++ strip qs)) (sym (text_of-text q texts.1))
    ∙ ap (λ bytes. bytes ++ strip (q ∷ qs)) (sym (text_of-text p texts.0))

strip-put_before : (p : Piece) (qs : List Piece) → strip (put_before p qs) ≡ text_of p ++ strip qs
strip-put_before p [] = refl
strip-put_before p (q ∷ qs) = strip-both p q qs (is_text_kind p.kind && is_text_kind q.kind) refl

strip-put_all_before : (ps qs : List Piece) → strip (put_all_before ps qs) ≡ strip ps ++ strip qs
strip-put_all_before [] qs = refl
strip-put_all_before (p ∷ ps) qs =
    strip-put_before p (put_all_before ps qs) ∙ ap (λ bytes. text_of p ++ bytes) (strip-put_all_before ps qs)
    ∙ sym (append_assoc (text_of p) (strip ps) (strip qs))

-- ---- what bytes show

-- a closed text that shows these characters
pub record Shows (bytes : List ℕ) (characters : List Styled) : Type 0 where
  pub pieces : List Piece
  pub of_bytes : ArePiecesOf bytes pieces
  pub closed : IsClosed pieces
  pub utf8 : IsUtf8 bytes
  pub shown : styled pieces ≡ characters

pub Shows-nothing : Shows [] []
Shows-nothing = record { pieces = []; of_bytes = record { joins = refl; stand = tt }; closed = record { none_broken = tt; plain = refl }; utf8 = IsUtf8-nil; shown = refl }

pub Shows-both : (bytes others : List ℕ) (xs ys : List Styled) → Shows bytes xs → Shows others ys → Shows (bytes ++ others) (xs ++ ys)
Shows-both bytes others xs ys first second =
    let ps = first.pieces in
    let qs = second.pieces in
    record {
      pieces = put_all_before ps qs;
      of_bytes = ArePiecesOf-append bytes others ps qs first.of_bytes first.closed.none_broken second.of_bytes;
      closed = record {
        none_broken = NoneBroken-put_all_before ps qs first.closed.none_broken second.closed.none_broken;
        plain = style-put_all_before plain_attributes ps qs ∙ ap (λ style. style_after_all style qs) first.closed.plain ∙ second.closed.plain;
      };
      utf8 = IsUtf8-append bytes others first.utf8 second.utf8;
      shown =
          styled-put_all_before plain_attributes ps qs (EachUtf8-pieces ps first.of_bytes.stand (subst IsUtf8 (sym first.of_bytes.joins) first.utf8))
          ∙ ap (λ style. styled_from plain_attributes ps ++ styled_from style qs) first.closed.plain
          ∙ ap (λ cs. cs ++ styled qs) first.shown ∙ ap (λ cs. xs ++ cs) second.shown;
    }

-- what they show is what any pieces of them show
pub Shows-pieces : (bytes : List ℕ) (xs : List Styled) (qs : List Piece) → Shows bytes xs → ArePiecesOf bytes qs → styled qs ≡ xs
Shows-pieces bytes xs qs shows of_bytes = ap styled (ArePiecesOf-unique bytes qs shows.pieces of_bytes shows.of_bytes) ∙ shows.shown

-- ---- lines

-- a closed line that shows these characters
pub record ShowsLine (bytes : List ℕ) (characters : List Styled) : Type 0 where
  pub shows : Shows bytes characters
  pub one_line : feeds (strip shows.pieces) ≡ false

pub ShowsLine-nothing : ShowsLine [] []
unfolding Shows-nothing
ShowsLine-nothing = record { shows = Shows-nothing; one_line = refl }

pub ShowsLine-both : (bytes others : List ℕ) (xs ys : List Styled) → ShowsLine bytes xs → ShowsLine others ys → ShowsLine (bytes ++ others) (xs ++ ys)
unfolding Shows-both
ShowsLine-both bytes others xs ys first second = record {
  shows = Shows-both bytes others xs ys first.shows second.shows;
  one_line =
      ap feeds (strip-put_all_before first.shows.pieces second.shows.pieces)
      ∙ list_any-append (λ byte. byte == line_feed) (strip first.shows.pieces) (strip second.shows.pieces)
      ∙ or_from (feeds (strip first.shows.pieces)) (feeds (strip second.shows.pieces)) first.one_line second.one_line;
}

pub ShowsLine-closed : (bytes : List ℕ) (xs : List Styled) → ShowsLine bytes xs → IsClosedLine bytes
ShowsLine-closed bytes xs line = record { pieces = line.shows.pieces; of_line = line.shows.of_bytes; closed = line.shows.closed; one_line = line.one_line }

replacement-line : ShowsLine replacement_bytes (in_plain replacement ∷ [])
unfolding encode fill_pieces
replacement-line = record {
  shows = record {
    pieces = fill_pieces 1;
    of_bytes = ArePiecesOf-fill 1;
    closed = record { none_broken = NoneBroken-fill 1; plain = style-fill plain_attributes 1 };
    utf8 = (replacement ∷ [], (refl, refl));
    shown = styled-fill plain_attributes 1;
  };
  one_line = refl;
}

pub replacements-line : (n : ℕ) → ShowsLine (repeat n replacement_bytes) (repeat n (in_plain replacement ∷ []))
replacements-line zero = ShowsLine-nothing
replacements-line (suc n) = ShowsLine-both replacement_bytes (repeat n replacement_bytes) (in_plain replacement ∷ []) (repeat n (in_plain replacement ∷ [])) replacement-line (replacements-line n)

-- ---- lines joined by line feeds

feed-shows : Shows (line_feed ∷ []) (in_plain line_feed ∷ [])
feed-shows =
    let low : line_feed < 128 = omega arith in
    record {
      pieces = record { kind = Text; bytes = line_feed ∷ [] } ∷ [];
      of_bytes = record { joins = refl; stand = (record { some = omega arith; plain = refl; ends = tt }, tt) };
      closed = record { none_broken = (λ same. cc same, tt); plain = refl };
      utf8 = IsUtf8-byte line_feed low;
      shown = append-nil (map (λ c. (c, plain_attributes)) (chars (line_feed ∷ []))) ∙ ap (map (λ c. (c, plain_attributes))) (chars-IsAscii (line_feed ∷ []) (IsAscii-from_all (line_feed ∷ []) (All-from_recursion (λ b. b < 128) (line_feed ∷ []) (low, tt))));
    }

pub joined-shows : (lines : List (List ℕ)) (shown : List (List Styled)) → AllZip ShowsLine lines shown → Shows (join_with_byte line_feed lines) (joined_lines shown)
joined-shows [] [] all = Shows-nothing
joined-shows [] (x ∷ xs) all = absurd all
joined-shows (line ∷ lines) [] all = absurd all
joined-shows (line ∷ []) (x ∷ []) all = subst (Shows line) (sym (append-nil x)) all.0.shows
joined-shows (line ∷ []) (x ∷ y ∷ ys) all = absurd all.1
joined-shows (line ∷ next ∷ lines) (x ∷ []) all = absurd all.1
joined-shows (line ∷ next ∷ lines) (x ∷ y ∷ ys) all =
    Shows-both line (line_feed ∷ join_with_byte line_feed (next ∷ lines)) x (in_plain line_feed ∷ joined_lines (y ∷ ys)) all.0.shows
    (Shows-both (line_feed ∷ []) (join_with_byte line_feed (next ∷ lines)) (in_plain line_feed ∷ []) (joined_lines (y ∷ ys)) feed-shows (joined-shows (next ∷ lines) (y ∷ ys) all.1))
