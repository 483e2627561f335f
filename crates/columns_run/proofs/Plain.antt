-- What a narrow style is, by the tests of it.
use Rattle.std.proofs.Common.{◌≡◌, ℕ, ◌==◌, ◌&&◌, Bool, true, false, if◌then◌else◌, [], Option, None, Some, eqb-true, length, refl, ap, sym, ◌∙◌}
use Rattle.std.proofs.lemmas.Bool.{and_from, and_parts}
use Rattle.std.proofs.lemmas.List.{nil_from_length}
use Rattle.std.specs.Prelude.{IfSome}
use Rattle.std.specs.Char.{IsScalar, is_control}
use Rattle.grid_config.specs.Compact.{Compact, each_side, map_borders}
use Rattle.grid_config.specs.Looks.{compact_look}
use Rattle.grid_config.specs.Settings.{color_if, color_if_set, side_colors_if}
use Rattle.grid_config.specs.Colors.{Color, is_no_color, no_color}
use Rattle.grid_config_values.specs.Glyphs.{BoundaryKind, First, Between, Last, along_column, crossing, in_row, no_borders}
use Rattle.grid_config_values.specs.declared.borders.Borders.{Borders}
use Rattle.grid_config_values.specs.declared.sides.Indent.{Indent}
use Rattle.grid_config_values.specs.declared.sides.Sides.{Sides}
use Rattle.grid_records_measure.specs.PlainCharacters.{is_one_column}
use Rattle.grid_records_measure.proofs.Plain.{one-column}
use Rattle.papergrid_picture.specs.Shown.{IsBare, BeginsNoSequence, OnEachSide, ShowsOnly, WritesNothing}
use Rattle.papergrid_picture.proofs.Shown.{BeginsNoSequence-space}
use Rattle.columns_run.specs.Narrow.{GlyphsAre, HasNarrowGlyphs, HasNarrowSettings, IsNarrowCharacter, are_borders_uncolored, are_sides_uncolored, are_three_uncolored, is_uncolored}
use Rattle.program_options.specs.Columns.Settings.{default_settings}

-- a plain character is shown
pub shown-plain : (c : ℕ) → IsNarrowCharacter c → BeginsNoSequence c
shown-plain c is = record { scalar = is.scalar; no_escape = λ same. let clash : true ≡ false = sym (ap is_control same) ∙ is.no_control in cc clash }

pub plain-space : IsNarrowCharacter 0x20
plain-space = record { scalar = refl; one_column = one-column 0x20 refl; no_control = refl }

if-shown : (glyph : Option ℕ) → IfSome glyph IsNarrowCharacter → IfSome glyph BeginsNoSequence
if-shown None is = tt
if-shown (Some c) is = shown-plain c is

sides-shown : (sides : Sides Indent) → OnEachSide (λ indent. IsNarrowCharacter indent.fill) sides → OnEachSide (λ indent. BeginsNoSequence indent.fill) sides
sides-shown sides is = (shown-plain sides.left.fill is.0, shown-plain sides.right.fill is.1, shown-plain sides.top.fill is.2, shown-plain sides.bottom.fill is.3)

-- colours that are none
if-nothing : (color : Option Color) → color ≡ None → WritesNothing color
if-nothing None e = tt
if-nothing (Some color) e = absurd (cc e)

no-texts : (color : Color) → is_no_color color ≡ true → color ≡ no_color
no-texts color e =
    let parts = and_parts (length color.prefix == 0) (length color.suffix == 0) e in
    ap (λ prefix. record { prefix = prefix; suffix = color.suffix }) (nil_from_length color.prefix (eqb-true (length color.prefix) 0 parts.0))
    ∙ ap (λ suffix. record { prefix = []; suffix = suffix }) (nil_from_length color.suffix (eqb-true (length color.suffix) 0 parts.1))

set-nothing : (color : Option Color) → color_if_set color ≡ None → WritesNothing color
set-nothing None e = tt
set-nothing (Some color) e = step (is_no_color color) refl e where
  step : (b : Bool) → is_no_color color ≡ b → (if b then None else Some color) ≡ None → color ≡ no_color
  step true is e = no-texts color is
  step false is e = absurd (cc e)

sides-nothing : (sides : Sides Color) → side_colors_if sides ≡ each_side None → OnEachSide WritesNothing (side_colors_if sides)
sides-nothing sides e = (
  if-nothing (color_if sides.left) (ap (λ (s : Sides (Option Color)). s.left) e),
  if-nothing (color_if sides.right) (ap (λ (s : Sides (Option Color)). s.right) e),
  if-nothing (color_if sides.top) (ap (λ (s : Sides (Option Color)). s.top) e),
  if-nothing (color_if sides.bottom) (ap (λ (s : Sides (Option Color)). s.bottom) e),
)

crossing-set : (borders : Borders Color) (row column : BoundaryKind) → crossing (map_borders color_if_set borders) row column ≡ color_if_set (crossing borders row column)
crossing-set borders First First = refl
crossing-set borders First Between = refl
crossing-set borders First Last = refl
crossing-set borders Between First = refl
crossing-set borders Between Between = refl
crossing-set borders Between Last = refl
crossing-set borders Last First = refl
crossing-set borders Last Between = refl
crossing-set borders Last Last = refl

along-set : (borders : Borders Color) (kind : BoundaryKind) → along_column (map_borders color_if_set borders) kind ≡ color_if_set (along_column borders kind)
along-set borders First = refl
along-set borders Between = refl
along-set borders Last = refl

row-set : (borders : Borders Color) (kind : BoundaryKind) → in_row (map_borders color_if_set borders) kind ≡ color_if_set (in_row borders kind)
row-set borders First = refl
row-set borders Between = refl
row-set borders Last = refl

crossing-none : (row column : BoundaryKind) → crossing (no_borders {T = Color}) row column ≡ None
crossing-none First First = refl
crossing-none First Between = refl
crossing-none First Last = refl
crossing-none Between First = refl
crossing-none Between Between = refl
crossing-none Between Last = refl
crossing-none Last First = refl
crossing-none Last Between = refl
crossing-none Last Last = refl

along-none : (kind : BoundaryKind) → along_column (no_borders {T = Color}) kind ≡ None
along-none First = refl
along-none Between = refl
along-none Last = refl

row-none : (kind : BoundaryKind) → in_row (no_borders {T = Color}) kind ≡ None
row-none First = refl
row-none Between = refl
row-none Last = refl

-- glyphs by their places
module _ (P : ℕ → Type 0) (borders : Borders ℕ) (are : GlyphsAre P borders) where
  crossing-plain : (row column : BoundaryKind) → IfSome (crossing borders row column) P
  crossing-plain First First = are.0.0
  crossing-plain First Between = are.0.1
  crossing-plain First Last = are.0.2
  crossing-plain Between First = are.1.0
  crossing-plain Between Between = are.1.1
  crossing-plain Between Last = are.1.2
  crossing-plain Last First = are.2.0
  crossing-plain Last Between = are.2.1
  crossing-plain Last Last = are.2.2

  along-plain : (kind : BoundaryKind) → IfSome (along_column borders kind) P
  along-plain First = are.3.0
  along-plain Between = are.3.1
  along-plain Last = are.3.2

  row-plain : (kind : BoundaryKind) → IfSome (in_row borders kind) P
  row-plain First = are.4.0
  row-plain Between = are.4.1
  row-plain Last = are.4.2

-- a style shows nothing but its characters, and spaces
pub shown-only : (P : ℕ → Type 0) (style : Compact) → GlyphsAre P style.borders → OnEachSide (λ indent. P indent.fill) style.margin → OnEachSide (λ indent. P indent.fill) style.padding → P 0x20
    → ShowsOnly P (compact_look style)
shown-only P style glyphs margin padding space = record {
  crossings = crossing-plain P style.borders glyphs;
  along_columns = along-plain P style.borders glyphs;
  in_rows = row-plain P style.borders glyphs;
  margins = margin;
  paddings = λ _. padding;
  justification = λ _. space;
}

-- a narrow style shows nothing but its characters
pub bare : (style : Compact) → HasNarrowGlyphs style → IsBare (compact_look style)
unfolding HasNarrowGlyphs
bare style narrow =
    let borders = style.borders_color in
    let none = narrow.uncolored.borders in
    record {
      shown = record {
        crossings = λ row column. if-shown (crossing style.borders row column) (crossing-plain IsNarrowCharacter style.borders narrow.glyphs row column);
        along_columns = λ kind. if-shown (along_column style.borders kind) (along-plain IsNarrowCharacter style.borders narrow.glyphs kind);
        in_rows = λ kind. if-shown (in_row style.borders kind) (row-plain IsNarrowCharacter style.borders narrow.glyphs kind);
        margins = sides-shown style.margin narrow.margin;
        paddings = λ _. sides-shown style.padding narrow.padding;
        justification = λ _. BeginsNoSequence-space;
      };
      no_colors = record {
        crossings = λ row column. set-nothing (crossing borders row column) (sym (crossing-set borders row column) ∙ ap (λ (b : Borders Color). crossing b row column) none ∙ crossing-none row column);
        along_columns = λ kind. set-nothing (along_column borders kind) (sym (along-set borders kind) ∙ ap (λ (b : Borders Color). along_column b kind) none ∙ along-none kind);
        in_rows = λ kind. set-nothing (in_row borders kind) (sym (row-set borders kind) ∙ ap (λ (b : Borders Color). in_row b kind) none ∙ row-none kind);
        margins = sides-nothing style.margin_color narrow.uncolored.margin;
        paddings = λ _. sides-nothing style.padding_color narrow.uncolored.padding;
        justification = λ _. tt;
      };
    }

-- ---- no colour, as a test

if-test : (color : Color) → is_no_color color ≡ true → color_if color ≡ None
if-test color e = ap (λ b. if b then None else Some color) e

if-none : (color : Color) → color_if color ≡ None → is_no_color color ≡ true
if-none color e = step (is_no_color color) refl e where
  step : (b : Bool) → is_no_color color ≡ b → (if b then None else Some color) ≡ None → is_no_color color ≡ true
  step true is e = is
  step false is e = absurd (cc e)

set-test : (color : Option Color) → is_uncolored color ≡ true → color_if_set color ≡ None
set-test None e = refl
set-test (Some color) e = if-test color e

set-none : (color : Option Color) → color_if_set color ≡ None → is_uncolored color ≡ true
set-none None e = refl
set-none (Some color) e = if-none color e

sides-test : (sides : Sides Color) → are_sides_uncolored sides ≡ true → side_colors_if sides ≡ each_side None
sides-test sides e =
    let first = and_parts (is_no_color sides.left) (is_no_color sides.right && (is_no_color sides.top && is_no_color sides.bottom)) e in
    let second = and_parts (is_no_color sides.right) (is_no_color sides.top && is_no_color sides.bottom) first.1 in
    let third = and_parts (is_no_color sides.top) (is_no_color sides.bottom) second.1 in
    (λ k. record { left = if-test sides.left first.0 k; right = if-test sides.right second.0 k; top = if-test sides.top third.0 k; bottom = if-test sides.bottom third.1 k })

sides-none : (sides : Sides Color) → side_colors_if sides ≡ each_side None → are_sides_uncolored sides ≡ true
sides-none sides e =
    and_from (is_no_color sides.left) (is_no_color sides.right && (is_no_color sides.top && is_no_color sides.bottom)) (if-none sides.left (ap (λ (s : Sides (Option Color)). s.left) e))
    (and_from (is_no_color sides.right) (is_no_color sides.top && is_no_color sides.bottom) (if-none sides.right (ap (λ (s : Sides (Option Color)). s.right) e))
    (and_from (is_no_color sides.top) (is_no_color sides.bottom) (if-none sides.top (ap (λ (s : Sides (Option Color)). s.top) e)) (if-none sides.bottom (ap (λ (s : Sides (Option Color)). s.bottom) e))))

three-test : (a b c : Option Color) → are_three_uncolored a b c ≡ true → (color_if_set a ≡ None) × (color_if_set b ≡ None) × (color_if_set c ≡ None)
three-test a b c e =
    let first = and_parts (is_uncolored a) (is_uncolored b && is_uncolored c) e in
    let second = and_parts (is_uncolored b) (is_uncolored c) first.1 in
    (set-test a first.0, set-test b second.0, set-test c second.1)

three-none : (a b c : Option Color) → color_if_set a ≡ None → color_if_set b ≡ None → color_if_set c ≡ None → are_three_uncolored a b c ≡ true
three-none a b c one two three =
    and_from (is_uncolored a) (is_uncolored b && is_uncolored c) (set-none a one) (and_from (is_uncolored b) (is_uncolored c) (set-none b two) (set-none c three))

module _ (b : Borders Color) where
  abbrev T1 : Bool
  T1 = are_three_uncolored b.top_left b.top_intersection b.top_right

  abbrev T2 : Bool
  T2 = are_three_uncolored b.left_intersection b.intersection b.right_intersection

  abbrev T3 : Bool
  T3 = are_three_uncolored b.bottom_left b.bottom_intersection b.bottom_right

  abbrev T4 : Bool
  T4 = are_three_uncolored b.top b.horizontal b.bottom

  abbrev T5 : Bool
  T5 = are_three_uncolored b.left b.vertical b.right

  borders-test : are_borders_uncolored b ≡ true → map_borders color_if_set b ≡ no_borders
  borders-test e =
      let p1 = and_parts T1 (T2 && (T3 && (T4 && T5))) e in
      let p2 = and_parts T2 (T3 && (T4 && T5)) p1.1 in
      let p3 = and_parts T3 (T4 && T5) p2.1 in
      let p4 = and_parts T4 T5 p3.1 in
      let t1 = three-test b.top_left b.top_intersection b.top_right p1.0 in
      let t2 = three-test b.left_intersection b.intersection b.right_intersection p2.0 in
      let t3 = three-test b.bottom_left b.bottom_intersection b.bottom_right p3.0 in
      let t4 = three-test b.top b.horizontal b.bottom p4.0 in
      let t5 = three-test b.left b.vertical b.right p4.1 in
      (λ k. record {
        top = t4.0 k;
        top_left = t1.0 k;
        top_right = t1.2 k;
        top_intersection = t1.1 k;
        bottom = t4.2 k;
        bottom_left = t3.0 k;
        bottom_right = t3.2 k;
        bottom_intersection = t3.1 k;
        horizontal = t4.1 k;
        left_intersection = t2.0 k;
        right_intersection = t2.2 k;
        intersection = t2.1 k;
        vertical = t5.1 k;
        left = t5.0 k;
        right = t5.2 k;
      })

  borders-none : map_borders color_if_set b ≡ no_borders → are_borders_uncolored b ≡ true
  borders-none e =
      and_from T1 (T2 && (T3 && (T4 && T5))) (three-none b.top_left b.top_intersection b.top_right (ap (λ (x : Borders Color). x.top_left) e) (ap (λ (x : Borders Color). x.top_intersection) e) (ap (λ (x : Borders Color). x.top_right) e))
      (and_from T2 (T3 && (T4 && T5)) (three-none b.left_intersection b.intersection b.right_intersection (ap (λ (x : Borders Color). x.left_intersection) e) (ap (λ (x : Borders Color). x.intersection) e) (ap (λ (x : Borders Color). x.right_intersection) e))
      (and_from T3 (T4 && T5) (three-none b.bottom_left b.bottom_intersection b.bottom_right (ap (λ (x : Borders Color). x.bottom_left) e) (ap (λ (x : Borders Color). x.bottom_intersection) e) (ap (λ (x : Borders Color). x.bottom_right) e))
      (and_from T4 T5 (three-none b.top b.horizontal b.bottom (ap (λ (x : Borders Color). x.top) e) (ap (λ (x : Borders Color). x.horizontal) e) (ap (λ (x : Borders Color). x.bottom) e))
      (three-none b.left b.vertical b.right (ap (λ (x : Borders Color). x.left) e) (ap (λ (x : Borders Color). x.vertical) e) (ap (λ (x : Borders Color). x.right) e)))))

-- the style is narrow where each of its settings is
pub narrow-settings : (style : Compact) → HasNarrowSettings style → HasNarrowGlyphs style
unfolding HasNarrowGlyphs
narrow-settings style are = record {
  glyphs = are.0;
  margin = are.1;
  padding = are.2;
  uncolored = record { margin = sides-test style.margin_color are.3; padding = sides-test style.padding_color are.4; borders = borders-test style.borders_color are.5 };
}

pub settings-narrow : (style : Compact) → HasNarrowGlyphs style → HasNarrowSettings style
unfolding HasNarrowGlyphs
settings-narrow style narrow = (
  narrow.glyphs,
  narrow.margin,
  narrow.padding,
  sides-none style.margin_color narrow.uncolored.margin,
  sides-none style.padding_color narrow.uncolored.padding,
  borders-none style.borders_color narrow.uncolored.borders,
)

-- ---- the style of `Options::new`

plain-ascii : (c : ℕ) → is_one_column c ≡ true → IsScalar c → is_control c ≡ false → IsNarrowCharacter c
plain-ascii c one scalar no_control = record { scalar = scalar; one_column = one-column c one; no_control = no_control }

pub default-narrow_glyphs : HasNarrowGlyphs default_settings
unfolding HasNarrowGlyphs
default-narrow_glyphs =
    let dash = plain-ascii 0x2d refl refl refl in
    let bar = plain-ascii 0x7c refl refl refl in
    let plus = plain-ascii 0x2b refl refl refl in
    let space = plain-ascii 0x20 refl refl refl in
    record {
      glyphs = ((plus, plus, plus), (plus, plus, plus), (plus, plus, plus), (dash, dash, dash), (bar, bar, bar));
      margin = (space, space, space, space);
      padding = (space, space, space, space);
      uncolored = record { margin = refl; padding = refl; borders = refl };
    }

-- the characters of the default style take one column in every text
pub default-narrow : ShowsOnly (λ c. BeginsNoSequence c × (is_one_column c ≡ true)) (compact_look default_settings)
default-narrow =
    let dash : BeginsNoSequence 0x2d × (is_one_column 0x2d ≡ true) = (shown-plain 0x2d (plain-ascii 0x2d refl refl refl), refl) in
    let bar : BeginsNoSequence 0x7c × (is_one_column 0x7c ≡ true) = (shown-plain 0x7c (plain-ascii 0x7c refl refl refl), refl) in
    let plus : BeginsNoSequence 0x2b × (is_one_column 0x2b ≡ true) = (shown-plain 0x2b (plain-ascii 0x2b refl refl refl), refl) in
    let space : BeginsNoSequence 0x20 × (is_one_column 0x20 ≡ true) = (BeginsNoSequence-space, refl) in
    shown-only (λ c. BeginsNoSequence c × (is_one_column c ≡ true)) default_settings
    ((plus, plus, plus), (plus, plus, plus), (plus, plus, plus), (dash, dash, dash), (bar, bar, bar)) (space, space, space, space) (space, space, space, space) space
