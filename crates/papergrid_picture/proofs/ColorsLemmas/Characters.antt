-- The characters of a picture in colours, and its line feeds.
use Rattle.std.proofs.Common.{◌≡◌, ℕ, Bool, true, false, cond, All, List, [], ◌∷◌, ◌++◌, Option, None, Some, map, drop, get_or, refl, ap, sym, subst, ◌∙◌, eq-eqb}
use Rattle.std.specs.Prelude.{chars, encode_utf8_all}
use Rattle.std.specs.List.{AllByRecursion, onto_first, slice_split}
use Rattle.std.proofs.lemmas.List.{map-append}
use Rattle.std.proofs.lemmas.List.Elements.{All-from_recursion}
use Rattle.std.proofs.lemmas.Simd.{map-map}
use Rattle.ansi_scan.specs.Sequences.{Piece}
use Rattle.ansi_scan.specs.Pieces.{pieces}
use Rattle.ansi_scan.specs.Attributes.{Attributes, plain_attributes}
use Rattle.ansi_str_search.specs.Text.StyledText.{shown, style_after, styled_from}
use Rattle.grid_config_values.specs.declared.position.Position.{Position}
use Rattle.grid_config.specs.Colors.{Color}
use Rattle.grid_config.specs.Looks.{Look}
use Rattle.grid_records_measure.specs.TextLines.{is_line_feed, line_feed}
use Rattle.papergrid_picture.specs.CellLines.{kept_lines, those}
use Rattle.papergrid_picture.specs.Reading.{Reading, painted}
use Rattle.papergrid_picture.specs.Tables.{in_bytes}
use Rattle.papergrid_picture.specs.Shown.{AreWholeTexts, KeepsLineEnds, Styled, character_of, in_items, in_plain, item_grid, styled_picture, styled_texts}
use Rattle.papergrid_picture.proofs.Items.{Anything, colored-anyhow, shows-anything}
use Rattle.papergrid_picture.proofs.Related.{All-append, All-get_or, related-items}
use Rattle.papergrid_picture.proofs.Shown.{All-drop, All-take}
use Rattle.papergrid_picture.specs.Colors.ColoredPicture.{colored_picture, in_colors, line_in, opened_by}
use Rattle.papergrid_picture.proofs.ColorsLemmas.Cells.{line-shown}
use Rattle.papergrid_picture.proofs.ColorsLemmas.Pictures.{items-left}

map-itself : (xs : List ℕ) → map (λ c. c) xs ≡ xs
map-itself [] = refl
map-itself (x ∷ xs) = ap (λ ys. x ∷ ys) (map-itself xs)

-- which characters a line shows does not depend on the style before it
pub characters-from : (style other : Attributes) (ps : List Piece) → map character_of (styled_from style ps) ≡ map character_of (styled_from other ps)
characters-from style other [] = refl
characters-from style other (p ∷ ps) =
    let cs = chars (shown p.kind p.bytes) in
    let alone : (s : Attributes) → map character_of (map (λ c. (c, s)) cs) ≡ cs = λ s. map-map character_of (λ c. (c, s)) cs ∙ map-itself cs in
    map-append character_of (map (λ c. (c, style)) cs) (styled_from (style_after style p) ps)
    ∙ ap (λ front. front ++ map character_of (styled_from (style_after style p) ps)) (alone style ∙ sym (alone other))
    ∙ ap (λ rest. map character_of (map (λ c. (c, other)) cs) ++ rest) (characters-from (style_after style p) (style_after other p) ps)
    ∙ sym (map-append character_of (map (λ c. (c, other)) cs) (styled_from (style_after other p) ps))

module _ (look : Look) (rows : List (List (List ℕ))) (colors : Position → Option Color) (widths heights : List ℕ) (texts : AreWholeTexts rows) (keeps : KeepsLineEnds look) where
  abbrev colored : Reading Styled
  colored = in_colors look (styled_texts rows) rows colors

  abbrev uncolored_items : Reading Styled
  uncolored_items = in_items character_of in_plain look (styled_texts rows)

  line-characters : (cell : Position) (k : ℕ) → map character_of (colored.line cell k) ≡ map character_of (uncolored_items.line cell k)
  line-characters cell k = by (colors cell)
    where
      by : (color : Option Color) → map character_of (line_in color ((in_bytes look rows).line cell k) (uncolored_items.line cell k)) ≡ map character_of (uncolored_items.line cell k)
      by None = refl
      by (Some color) =
          characters-from (opened_by color) plain_attributes (pieces ((in_bytes look rows).line cell k))
          ∙ ap (map character_of) (line-shown look rows widths heights texts keeps cell k).shown

  left : (color : Option Color) (items : List Styled) → painted uncolored_items color items ≡ items
  left None items = refl
  left (Some color) [] = refl
  left (Some color) (x ∷ xs) = refl

  pub characters-colored : map character_of (colored_picture look (styled_texts rows) rows colors widths heights) ≡ map character_of (styled_picture look (styled_texts rows) widths heights)
  characters-colored =
      related-items (λ (a b : List Styled). map character_of a ≡ map character_of b) refl
      (λ a c b d first others. map-append character_of a c ∙ ap (λ cs. cs ++ map character_of c) first ∙ ap (λ cs. map character_of b ++ cs) others ∙ sym (map-append character_of b d))
      colored uncolored_items Anything
      (λ color a b any is. ap (map character_of) (items-left look rows colors color a) ∙ is ∙ ap (map character_of) (sym (left color b)))
      Anything (λ c any. refl) tt (item_grid character_of in_plain look (styled_texts rows) widths heights) line-characters (λ cell. tt)
      (shows-anything look) (colored-anyhow look) tt

  -- ---- line feeds

  abbrev NoFeed : ℕ → Type 0
  NoFeed c = is_line_feed c ≡ false

  abbrev FeedIsPlain : Styled → Type 0
  FeedIsPlain x = x.0 ≡ line_feed → x.1 ≡ plain_attributes

  onto-first : (x : Styled) (parts : List (List Styled)) → NoFeed x.0 → AllByRecursion (AllByRecursion (λ (y : Styled). NoFeed y.0)) parts → AllByRecursion (AllByRecursion (λ (y : Styled). NoFeed y.0)) (onto_first x parts)
  onto-first x [] here all = ((here, tt), tt)
  onto-first x (part ∷ parts) here all = ((here, all.0), all.1)

  split-feeds : (xs : List Styled) → AllByRecursion (AllByRecursion (λ (y : Styled). NoFeed y.0)) (slice_split (λ x. is_line_feed x.0) xs)
  split-feeds [] = (tt, tt)
  split-feeds (x ∷ xs) = by (is_line_feed x.0) refl (split-feeds xs)
    where
      by : (test : Bool) → is_line_feed x.0 ≡ test → AllByRecursion (AllByRecursion (λ (y : Styled). NoFeed y.0)) (slice_split (λ (y : Styled). is_line_feed y.0) xs)
          → AllByRecursion (AllByRecursion (λ (y : Styled). NoFeed y.0)) (cond test ([] ∷ slice_split (λ (y : Styled). is_line_feed y.0) xs) (onto_first x (slice_split (λ (y : Styled). is_line_feed y.0) xs)))
      by true is rest = (tt, rest)
      by false is rest = onto-first x (slice_split (λ (y : Styled). is_line_feed y.0) xs) is rest

  line-feeds : (cell : Position) (k : ℕ) → AllByRecursion (λ (y : Styled). NoFeed y.0) (uncolored_items.line cell k)
  line-feeds cell k =
      let text = get_or (get_or (styled_texts rows) cell.row []) cell.col [] in
      let lines = slice_split (λ (x : Styled). is_line_feed x.0) text in
      let kept = kept_lines (look.trim_vertical cell) (map (λ line. encode_utf8_all (map character_of line)) lines) in
      All-get_or (AllByRecursion (λ (y : Styled). NoFeed y.0)) (those kept lines) k []
      (All-take (AllByRecursion (λ (y : Styled). NoFeed y.0)) kept.1 (drop kept.0 lines) (All-drop (AllByRecursion (λ (y : Styled). NoFeed y.0)) kept.0 lines (split-feeds text))) tt

  to-characters : (xs : List Styled) → AllByRecursion (λ (y : Styled). NoFeed y.0) xs → AllByRecursion NoFeed (map character_of xs)
  to-characters [] all = tt
  to-characters (x ∷ xs) all = (all.0, to-characters xs all.1)

  from-characters : (xs : List Styled) → AllByRecursion NoFeed (map character_of xs) → AllByRecursion FeedIsPlain xs
  from-characters [] all = tt
  from-characters (x ∷ xs) all = (λ is. let clash : false ≡ true = sym all.0 ∙ eq-eqb x.0 line_feed is in absurd (cc clash), from-characters xs all.1)

  pub feeds-plain : All FeedIsPlain (colored_picture look (styled_texts rows) rows colors widths heights)
  feeds-plain =
      All-from_recursion FeedIsPlain (colored_picture look (styled_texts rows) rows colors widths heights)
      (related-items (λ (a b : List Styled). AllByRecursion FeedIsPlain a) tt
      (λ a c b d first others. All-append FeedIsPlain a c first others)
      colored colored Anything
      (λ color a b any all. subst (AllByRecursion FeedIsPlain) (sym (items-left look rows colors color a)) all)
      Anything (λ c any. ((λ is. refl), tt)) tt (item_grid character_of in_plain look (styled_texts rows) widths heights)
      (λ cell k. from-characters (colored.line cell k) (subst (AllByRecursion NoFeed) (sym (line-characters cell k)) (to-characters (uncolored_items.line cell k) (line-feeds cell k)))) (λ cell. tt)
      (shows-anything look) (colored-anyhow look) tt)
