-- What glyphs and fills show, in a colour and without.
use Rattle.std.proofs.Common.{◌≡◌, ◌≢◌, ◌==◌, ◌||◌, ◌<◌, ℕ, suc, Bool, true, false, List, [], ◌∷◌, ◌++◌, Option, None, Some, length, map, get_or, refl, ap, sym, subst, ◌∙◌, arith, append-nil, ne_eqb}
use Rattle.std.specs.Prelude.{encode_utf8, encode_utf8_all, flat_map}
use Rattle.std.specs.Char.{is_control}
use Rattle.std.specs.List.{AllByRecursion, list_any}
use Rattle.std.proofs.lemmas.List.Folds.{list_any-append}
use Rattle.std.proofs.lemmas.Str.{inside_one}
use Rattle.ansi_scan.specs.Attributes.{Attributes}
use Rattle.ansi_scan.specs.Joining.{put_all_before}
use Rattle.ansi_scan.specs.Pieces.{pieces}
use Rattle.ansi_scan.specs.Sequences.{Piece, escape}
use Rattle.ansi_scan.proofs.Existence.{ArePiecesOf-pieces}
use Rattle.ansi_scan.proofs.Joins.{ArePiecesOf-append}
use Rattle.ansi_scan.proofs.Uniqueness.{pieces-ArePiecesOf}
use Rattle.ansi_str_search.specs.Text.StyledText.{style_after_all, styled_from}
use Rattle.ansi_str_search.proofs.TextLemmas.Utf8Pieces.{EachUtf8-of}
use Rattle.grid_config.specs.Colors.{Color}
use Rattle.grid_records_measure.specs.TextLines.{is_line_feed, line_feed}
use Rattle.grid_records_measure.proofs.ShownCuts.{styled-put_all_before}
use Rattle.papergrid_picture.specs.Colors.ColoredLines.{with_painted_lines}
use Rattle.papergrid_picture.specs.Colors.ColoredPicture.{opened_by}
use Rattle.papergrid_picture.proofs.ColorsLemmas.Lines.{ShowsHere-painted}
use Rattle.papergrid_picture.specs.Picture.{blank}
use Rattle.papergrid_picture.specs.Reading.{painted}
use Rattle.papergrid_picture.specs.Shown.{BeginsNoSequence, Styled, in_plain}
use Rattle.papergrid_picture.specs.Tables.{in_bytes}
use Rattle.papergrid_picture.proofs.Shown.{ShowsHere, ShowsHere-append, ShowsHere-character, ShowsHere-nothing, chars-one, pieces-character, pieces-nothing}
use Rattle.tabled_steps.specs.States.{State}
use Rattle.tables_laws.specs.Shown.ClosingLooks.{ClosesIfSet, IsNoControl}
use Rattle.tables_laws.specs.Shown.ShownTables.{in_styles}

-- ---- characters that are no controls

other-than : (control c : ℕ) → is_control control ≡ true → IsNoControl c → c ≢ control
other-than control c is_one is same = let clash : false ≡ true = sym is.no_control ∙ ap is_control same ∙ is_one in absurd (cc clash)

pub no_control-begins : (c : ℕ) → IsNoControl c → BeginsNoSequence c
no_control-begins c is = record { scalar = is.scalar; no_escape = other-than escape c refl is }

pub no_control-feed : (c : ℕ) → IsNoControl c → is_line_feed c ≡ false
no_control-feed c is = ne_eqb c line_feed (other-than line_feed c refl is)

pub IsNoControl-blank : IsNoControl blank
IsNoControl-blank = record { scalar = refl; no_control = refl }

-- ---- bytes of characters without a line feed

abbrev pub has_feed : List ℕ → Bool
has_feed bytes = list_any (λ byte. byte == line_feed) bytes

no-byte : (bytes : List ℕ) → ((k : ℕ) → k < length bytes → get_or bytes k 0 ≢ line_feed) → has_feed bytes ≡ false
no-byte [] none = refl
no-byte (b ∷ bs) none =
    ap (λ t. t || has_feed bs) (ne_eqb b line_feed (none 0 (omega arith)))
    ∙ no-byte bs (λ k inside. none (suc k) (omega (arith, inside)))

not-feed : (c : ℕ) → is_line_feed c ≡ false → c ≢ line_feed
not-feed c none same = let clash : false ≡ true = sym none ∙ ap is_line_feed same in absurd (cc clash)

no-feed-one : (c : ℕ) → c ≢ line_feed → has_feed (encode_utf8 c) ≡ false
no-feed-one c other = no-byte (encode_utf8 c) (λ k inside same.
    let low : get_or (encode_utf8 c) k 0 < 128 = omega (arith, same) in
    other (inside_one c [] (encode_utf8 c) k (sym (append-nil (encode_utf8 c))) inside low ∙ same))

pub no-feed-all : (cs : List ℕ) → AllByRecursion (λ c. is_line_feed c ≡ false) cs → has_feed (encode_utf8_all cs) ≡ false
no-feed-all [] all = refl
no-feed-all (c ∷ cs) all =
    list_any-append (λ byte. byte == line_feed) (encode_utf8 c) (encode_utf8_all cs)
    ∙ ap (λ t. t || has_feed (encode_utf8_all cs)) (no-feed-one c (not-feed c all.0))
    ∙ no-feed-all cs all.1

-- ---- glyphs and fills

abbrev pub plainly : List ℕ → List Styled
plainly cs = flat_map (λ c. in_plain c ∷ []) cs

shows-signs : (cs : List ℕ) → AllByRecursion IsNoControl cs → ShowsHere (flat_map encode_utf8 cs) (plainly cs)
shows-signs [] all = ShowsHere-nothing
shows-signs (c ∷ cs) all = ShowsHere-append (encode_utf8 c) (flat_map encode_utf8 cs) (in_plain c ∷ []) (plainly cs) (ShowsHere-character c (no_control-begins c all.0)) (shows-signs cs all.1)

-- read from a style they have it
styled-signs : (style : Attributes) (cs : List ℕ) → AllByRecursion IsNoControl cs → styled_from style (pieces (flat_map encode_utf8 cs)) ≡ map (λ (x : Styled). (x.0, style)) (plainly cs)
styled-signs style [] all = ap (styled_from style) pieces-nothing
styled-signs style (c ∷ cs) all =
    let is = no_control-begins c all.0 in
    let bytes = encode_utf8 c in
    let rest = flat_map encode_utf8 cs in
    let one = ShowsHere-character c is in
    let both : pieces (bytes ++ rest) ≡ put_all_before (pieces bytes) (pieces rest) =
    pieces-ArePiecesOf (bytes ++ rest) (put_all_before (pieces bytes) (pieces rest))
    (ArePiecesOf-append bytes rest (pieces bytes) (pieces rest) (ArePiecesOf-pieces bytes) one.closed.none_broken (ArePiecesOf-pieces rest)) in
    ap (styled_from style) both
    ∙ styled-put_all_before style (pieces bytes) (pieces rest) (EachUtf8-of bytes (pieces bytes) one.utf8 (ArePiecesOf-pieces bytes))
    ∙ ap (λ (ps : List Piece). styled_from style ps ++ styled_from (style_after_all style ps) (pieces rest)) (pieces-character c is)
    ∙ ap (λ (xs : List ℕ). (map (λ x. (x, style)) xs ++ []) ++ styled_from style (pieces rest)) (chars-one c is.scalar)
    ∙ ap (λ (xs : List Styled). (c, style) ∷ xs) (styled-signs style cs all.1)

module _ (s : State) where
  abbrev first : List ℕ → Option Color → List ℕ
  first bytes color = painted (with_painted_lines (in_bytes s.look s.rows) s.colors) color bytes

  same-paint : (color : Color) (bytes : List ℕ) → first bytes (Some color) ≡ painted (in_bytes s.look s.rows) (Some color) bytes
  same-paint color [] = refl
  same-paint color (b ∷ bs) = refl

  pub signs-show : (color : Option Color) (cs : List ℕ) → ClosesIfSet color → AllByRecursion IsNoControl cs
      → ShowsHere (painted (with_painted_lines (in_bytes s.look s.rows) s.colors) color (flat_map encode_utf8 cs)) (painted (in_styles s) color (plainly cs))
  signs-show None cs closes all = shows-signs cs all
  signs-show (Some color) [] closes all = ShowsHere-nothing
  signs-show (Some color) (c ∷ cs) closes all =
      let bytes = flat_map encode_utf8 (c ∷ cs) in
      subst (λ (found : List ℕ). ShowsHere found (painted (in_styles s) (Some color) (plainly (c ∷ cs)))) (sym (same-paint color bytes))
      (subst (ShowsHere (painted (in_bytes s.look s.rows) (Some color) bytes)) (styled-signs (opened_by color) (c ∷ cs) all)
      (ShowsHere-painted color closes s.look s.rows bytes (plainly (c ∷ cs)) (shows-signs (c ∷ cs) all)))
