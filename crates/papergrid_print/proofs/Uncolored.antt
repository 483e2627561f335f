-- Glyphs without a colour: no colour goes on from them in what follows.
use Rattle.std.proofs.Common.{◌≡◌, ℕ, Bool, true, false, cond, List, [], ◌∷◌, ◌++◌, Option, None, Some, map, refl, ap, sym, subst, ◌∙◌, append_assoc, append-nil, replicate, arith}
use Rattle.std.specs.Prelude.{◌==◌, ◌&&◌, not, flat_map, is_none}
use Rattle.std.specs.List.{filter}
use Rattle.std.specs.Option.{option_map}
use Rattle.std.proofs.lemmas.Bool.{and_parts}
use Rattle.std.proofs.lemmas.Bool.Decides.{nat_tests}
use Rattle.std.proofs.lemmas.List.Concat.{flat_map-cons}
use Rattle.grid_config.specs.Colors.{Color, color_of}
use Rattle.papergrid_picture.specs.Blocks.{Part}
use Rattle.papergrid_picture.specs.Reading.{Reading, color_runs, continues, is_drawn, is_glyph, line_items, onto_color_runs, painted, part_items, run_items, same_color}
use Rattle.papergrid_cells.specs.Painting.{are_uncolored, glyph_part}
use Rattle.papergrid_cells.specs.declared.painting.GlyphRun.{GlyphRun}

not-false : (b : Bool) → not b ≡ false → b ≡ true
not-false true is = refl
not-false false is = sym is

same-none : (other : Option Color) → same_color None other ≡ true → other ≡ None
same-none None same = refl
same-none (Some color) same = absurd (cc)

no-color : {S T : Type 0} (f : S → T) (color : Option S) → is_none color ≡ true → option_map f color ≡ None
no-color f None none = refl
no-color f (Some color) none = absurd (cc)

-- a part without a colour goes on in none that has one
goes-on-bare : (part next : Part) → part.color ≡ None → continues part next ≡ true → next.color ≡ None
goes-on-bare part next bare goes =
    let same = (and_parts (is_glyph next.content) (same_color part.color next.color) (and_parts (is_glyph part.content) (is_glyph next.content && same_color part.color next.color) goes).1).1 in
    same-none next.color (subst (λ (c : Option Color). same_color c next.color ≡ true) bare same)

module _ (reading : Reading ℕ) where
  abbrev own : Part → List ℕ
  own part = part_items reading part

  abbrev shown : List (List Part) → List ℕ
  shown runs = flat_map (run_items reading) runs

  bare-run : (part : Part) (parts : List Part) → part.color ≡ None → run_items reading (part ∷ parts) ≡ flat_map own (part ∷ parts)
  bare-run part parts bare = ap (λ (c : Option Color). painted reading c (flat_map own (part ∷ parts))) bare

  bare-one : (part : Part) → part.color ≡ None → run_items reading (part ∷ []) ≡ own part
  bare-one part bare = bare-run part [] bare ∙ (flat_map-cons own part [] ∙ append-nil (own part))

  onto-bare : (part : Part) (runs : List (List Part)) → part.color ≡ None → shown (onto_color_runs part runs) ≡ own part ++ shown runs
  onto-bare part [] bare = flat_map-cons (run_items reading) (part ∷ []) [] ∙ ap (λ l. l ++ shown []) (bare-one part bare)
  onto-bare part ([] ∷ runs) bare =
      flat_map-cons (run_items reading) (part ∷ []) runs
      ∙ (ap (λ l. l ++ shown runs) (bare-one part bare)
      ∙ ap (λ l. own part ++ l) (sym (flat_map-cons (run_items reading) [] runs)))
  onto-bare part ((next ∷ run) ∷ runs) bare = by (continues part next) refl
    where
      by : (b : Bool) → continues part next ≡ b → shown (cond b ((part ∷ next ∷ run) ∷ runs) ((part ∷ []) ∷ (next ∷ run) ∷ runs)) ≡ own part ++ shown ((next ∷ run) ∷ runs)
      by true goes =
          flat_map-cons (run_items reading) (part ∷ next ∷ run) runs
          ∙ (ap (λ l. l ++ shown runs)
          (bare-run part (next ∷ run) bare ∙ (flat_map-cons own part (next ∷ run) ∙ ap (λ l. own part ++ l) (sym (bare-run next run (goes-on-bare part next bare goes)))))
          ∙ (append_assoc (own part) (run_items reading (next ∷ run)) (shown runs)
          ∙ ap (λ l. own part ++ l) (sym (flat_map-cons (run_items reading) (next ∷ run) runs))))
      by false goes = flat_map-cons (run_items reading) (part ∷ []) ((next ∷ run) ∷ runs) ∙ ap (λ l. l ++ shown ((next ∷ run) ∷ runs)) (bare-one part bare)

  bare-cons : (part : Part) (parts : List Part) → (is_drawn part ≡ false → own part ≡ []) → part.color ≡ None → line_items reading (part ∷ parts) ≡ own part ++ line_items reading parts
  bare-cons part parts hidden bare = by (is_drawn part) refl
    where
      by : (b : Bool) → is_drawn part ≡ b → shown (color_runs (cond b (part ∷ filter is_drawn parts) (filter is_drawn parts))) ≡ own part ++ line_items reading parts
      by true is = onto-bare part (color_runs (filter is_drawn parts)) bare
      by false is = ap (λ l. l ++ line_items reading parts) (sym (hidden is))

  hidden-glyph : (glyph : GlyphRun) → is_drawn (glyph_part glyph) ≡ false → own (glyph_part glyph) ≡ []
  hidden-glyph glyph is =
      let none : glyph.width ≡ 0 = grind (arith, nat_tests, not-false (glyph.width == 0) is) in
      ap (λ width. flat_map reading.item (replicate width glyph.character)) none

  one-by-one : (glyphs : List GlyphRun) (rest : List Part) → are_uncolored glyphs ≡ true
      → line_items reading (map glyph_part glyphs ++ rest) ≡ flat_map own (map glyph_part glyphs) ++ line_items reading rest
  one-by-one [] rest all = refl
  one-by-one (glyph ∷ glyphs) rest all =
      let parts = and_parts (is_none glyph.color) (are_uncolored glyphs) all in
      bare-cons (glyph_part glyph) (map glyph_part glyphs ++ rest) (hidden-glyph glyph) (no-color color_of glyph.color parts.0)
      ∙ (ap (λ l. own (glyph_part glyph) ++ l) (one-by-one glyphs rest parts.1)
      ∙ (sym (append_assoc (own (glyph_part glyph)) (flat_map own (map glyph_part glyphs)) (line_items reading rest))
      ∙ ap (λ l. l ++ line_items reading rest) (sym (flat_map-cons own (glyph_part glyph) (map glyph_part glyphs)))))

  -- what follows them is shown as by itself
  pub uncolored-before : (glyphs : List GlyphRun) (rest : List Part) → are_uncolored glyphs ≡ true
      → line_items reading (map glyph_part glyphs ++ rest) ≡ line_items reading (map glyph_part glyphs) ++ line_items reading rest
  uncolored-before glyphs rest all =
      let alone : line_items reading (map glyph_part glyphs) ≡ flat_map own (map glyph_part glyphs) =
      ap (line_items reading) (sym (append-nil (map glyph_part glyphs))) ∙ (one-by-one glyphs [] all ∙ append-nil (flat_map own (map glyph_part glyphs))) in
      one-by-one glyphs rest all ∙ ap (λ l. l ++ line_items reading rest) (sym alone)
