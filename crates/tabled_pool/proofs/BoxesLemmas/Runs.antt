-- Glyphs that are held back are printed where their run ends.
use Rattle.std.proofs.Common.{◌≡◌, ℕ, Bool, true, false, cond, List, [], ◌∷◌, ◌++◌, Option, map, refl, ap, sym, ◌∙◌, append_assoc, append-nil, flat_map}
use Rattle.std.specs.Prelude.{◌&&◌, encode_utf8}
use Rattle.std.specs.List.{filter}
use Rattle.std.specs.Option.{option_map}
use Rattle.std.proofs.lemmas.List.Concat.{flat_map-append}
use Rattle.std.proofs.lemmas.List.Folds.{flat_map-map}
use Rattle.grid_config.specs.Colors.{color_of}
use Rattle.grid_config.specs.declared.colors.borrowed.ANSIStr.{ANSIStr}
use Rattle.papergrid_cells.specs.Painting.{without_cells, colored, glyph_part}
use Rattle.papergrid_cells.specs.declared.painting.GlyphRun.{GlyphRun}
use Rattle.papergrid_picture.specs.Blocks.{Part}
use Rattle.papergrid_picture.specs.Reading.{continues, is_glyph, is_drawn, line_items, run_items, same_color, onto_color_runs as onto_piece_runs, color_runs as piece_runs}
use Rattle.tabled_pool.specs.Boxes.Crossings.{Shape}
use Rattle.tabled_pool.specs.Boxes.Runs.{color_runs, goes_on, held_shapes, line_bytes, onto_color_runs, part_shape, run_bytes, text_with}

-- ---- runs of pieces are runs of shapes

both : (a b c : Bool) → cond a (cond b c false) false ≡ (a && (b && c))
both true true c = refl
both true false c = refl
both false b c = refl

pieces-onto : (piece : Part) (runs : List (List Part)) → onto_color_runs (part_shape piece) (map (map part_shape) runs) ≡ map (map part_shape) (onto_piece_runs piece runs)
pieces-onto piece [] = refl
pieces-onto piece ([] ∷ runs) = refl
pieces-onto piece ((next ∷ run) ∷ runs) =
    ap (λ t. cond t ((part_shape piece ∷ part_shape next ∷ map part_shape run) ∷ map (map part_shape) runs) ((part_shape piece ∷ []) ∷ (part_shape next ∷ map part_shape run) ∷ map (map part_shape) runs))
    (both (is_glyph piece.content) (is_glyph next.content) (same_color piece.color next.color))
    ∙ at-cond (continues piece next)
  where
    at-cond : (t : Bool) → cond t ((part_shape piece ∷ part_shape next ∷ map part_shape run) ∷ map (map part_shape) runs) ((part_shape piece ∷ []) ∷ (part_shape next ∷ map part_shape run) ∷ map (map part_shape) runs)
        ≡ map (map part_shape) (cond t ((piece ∷ next ∷ run) ∷ runs) ((piece ∷ []) ∷ (next ∷ run) ∷ runs))
    at-cond true = refl
    at-cond false = refl

pieces-runs : (pieces : List Part) → color_runs (map part_shape pieces) ≡ map (map part_shape) (piece_runs pieces)
pieces-runs [] = refl
pieces-runs (piece ∷ pieces) = ap (onto_color_runs (part_shape piece)) (pieces-runs pieces) ∙ pieces-onto piece (piece_runs pieces)

pieces-run : (run : List Part) → run_bytes (map part_shape run) ≡ run_items without_cells run
pieces-run [] = refl
pieces-run (piece ∷ run) = ap (colored piece.color) (flat_map-map (λ (s : Shape). s.bytes) part_shape (piece ∷ run))

pieces-bytes : (runs : List (List Part)) → flat_map run_bytes (map (map part_shape) runs) ≡ flat_map (run_items without_cells) runs
pieces-bytes [] = refl
pieces-bytes (run ∷ runs) =
    ap (λ l. l ++ flat_map run_bytes (map (map part_shape) runs)) (pieces-run run) ∙ ap (λ l. run_items without_cells run ++ l) (pieces-bytes runs)

pub held-bytes : (held : List GlyphRun) → line_bytes (held_shapes held) ≡ line_items without_cells (map glyph_part held)
held-bytes held =
    let pieces = filter is_drawn (map glyph_part held) in
    ap (flat_map run_bytes) (pieces-runs pieces) ∙ pieces-bytes (piece_runs pieces)

-- ---- a shape that is alone

onto-some : (shape : Shape) (runs : List (List Shape)) → (run : List Shape) × ((rest : List (List Shape)) × (onto_color_runs shape runs ≡ (shape ∷ run) ∷ rest))
onto-some shape [] = ([], ([], refl))
onto-some shape ([] ∷ runs) = ([], (runs, refl))
onto-some shape ((next ∷ run) ∷ runs) = at-cond (goes_on shape next)
  where
    at-cond : (t : Bool) → (one : List Shape) × ((rest : List (List Shape)) × (cond t ((shape ∷ next ∷ run) ∷ runs) ((shape ∷ []) ∷ (next ∷ run) ∷ runs) ≡ (shape ∷ one) ∷ rest))
    at-cond true = (next ∷ run, (runs, refl))
    at-cond false = ([], ((next ∷ run) ∷ runs, refl))

module _ (s : Shape) (alone : s.joins ≡ false) where
  onto-alone : (shapes : List Shape) → onto_color_runs s (color_runs shapes) ≡ (s ∷ []) ∷ color_runs shapes
  onto-alone [] = refl
  onto-alone (shape ∷ shapes) =
      let some = onto-some shape (color_runs shapes) in
      let run = some.0 in
      let rest = some.1.0 in
      let is : color_runs (shape ∷ shapes) ≡ (shape ∷ run) ∷ rest = some.1.1 in
      ap (onto_color_runs s) is
      ∙ (ap (λ j. cond (cond j (cond shape.joins (same_color s.color shape.color) false) false) ((s ∷ shape ∷ run) ∷ rest) ((s ∷ []) ∷ (shape ∷ run) ∷ rest)) alone
      ∙ ap (λ runs. (s ∷ []) ∷ runs) (sym is))

  none-goes : (a : Bool) → cond a false false ≡ false
  none-goes true = refl
  none-goes false = refl

  onto-before : (x : Shape) (runs behind : List (List Shape)) → onto_color_runs x (runs ++ ((s ∷ []) ∷ behind)) ≡ onto_color_runs x runs ++ ((s ∷ []) ∷ behind)
  onto-before x [] behind =
      let ends : goes_on x s ≡ false = ap (λ j. cond x.joins (cond j (same_color x.color s.color) false) false) alone ∙ none-goes x.joins in
      ap (λ t. cond t ((x ∷ s ∷ []) ∷ behind) ((x ∷ []) ∷ (s ∷ []) ∷ behind)) ends
  onto-before x ([] ∷ runs) behind = refl
  onto-before x ((next ∷ run) ∷ runs) behind = at-cond (goes_on x next)
    where
      at-cond : (t : Bool) → cond t ((x ∷ next ∷ run) ∷ (runs ++ ((s ∷ []) ∷ behind))) ((x ∷ []) ∷ (next ∷ run) ∷ (runs ++ ((s ∷ []) ∷ behind)))
          ≡ cond t ((x ∷ next ∷ run) ∷ runs) ((x ∷ []) ∷ (next ∷ run) ∷ runs) ++ ((s ∷ []) ∷ behind)
      at-cond true = refl
      at-cond false = refl

  runs-parted : (before behind : List Shape) → color_runs (before ++ s ∷ behind) ≡ color_runs before ++ ((s ∷ []) ∷ color_runs behind)
  runs-parted [] behind = onto-alone behind
  runs-parted (x ∷ before) behind = ap (onto_color_runs x) (runs-parted before behind) ∙ onto-before x (color_runs before) (color_runs behind)

  parted-bytes : (held : List GlyphRun) (behind : List Shape) → line_bytes (held_shapes held ++ s ∷ behind) ≡ line_items without_cells (map glyph_part held) ++ (colored s.color s.bytes ++ line_bytes behind)
  parted-bytes held behind =
      ap (flat_map run_bytes) (runs-parted (held_shapes held) behind)
      ∙ (flat_map-append run_bytes (color_runs (held_shapes held)) ((s ∷ []) ∷ color_runs behind)
      ∙ (ap (λ l. l ++ (run_bytes (s ∷ []) ++ line_bytes behind)) (held-bytes held)
      ∙ ap (λ l. line_items without_cells (map glyph_part held) ++ (colored s.color l ++ line_bytes behind)) (append-nil s.bytes)))

  -- what was held back is printed, and then what is alone
  pub with-alone : (out mid new : List ℕ) (held : List GlyphRun) → mid ≡ out ++ line_items without_cells (map glyph_part held) → new ≡ mid ++ colored s.color s.bytes
      → (behind : List Shape) → text_with new [] behind ≡ text_with out held (s ∷ behind)
  with-alone out mid new held first second behind =
      let items = line_items without_cells (map glyph_part held) in
      let bytes = colored s.color s.bytes in
      ap (λ l. l ++ line_bytes behind) (second ∙ ap (λ l. l ++ bytes) first)
      ∙ (append_assoc (out ++ items) bytes (line_bytes behind)
      ∙ (append_assoc out items (bytes ++ line_bytes behind)
      ∙ ap (λ l. out ++ l) (sym (parted-bytes held behind))))

-- ---- one glyph of one column

module _ (character : ℕ) (color : Option ANSIStr) where
  abbrev run : GlyphRun
  run = record { character = character; width = 1; color = color }

  abbrev shape : Bool → Shape
  shape joins = record { bytes = encode_utf8 character; color = option_map color_of color; joins = joins }

  one-held : held_shapes (run ∷ []) ≡ shape true ∷ []
  one-held = ap (λ (bytes : List ℕ). record { bytes = bytes; color = option_map color_of color; joins = true } ∷ []) (append-nil (encode_utf8 character))

  -- and printed by itself it is coloured by itself
  pub one-printed : line_items without_cells (glyph_part run ∷ []) ≡ colored (option_map color_of color) (encode_utf8 character)
  one-printed =
      sym (held-bytes (run ∷ []))
      ∙ (ap line_bytes one-held
      ∙ (append-nil (colored (option_map color_of color) (encode_utf8 character ++ []))
      ∙ ap (colored (option_map color_of color)) (append-nil (encode_utf8 character))))
