-- The text of a table by its lines.
use Rattle.std.proofs.Common.{◌≡◌, ℕ, zero, suc, ◌+◌, ◌==◌, false, cond, List, [], ◌∷◌, ◌++◌, Option, map, refl, ap, sym, ◌∙◌, arith, append-nil, lit<}
use Rattle.std.specs.Prelude.{encode_utf8, flat_map}
use Rattle.std.specs.List.{join_with_byte, range_with_len}
use Rattle.std.proofs.lemmas.Bool.Decides.{nat_tests}
use Rattle.std.proofs.lemmas.Str.{encode_ascii}
use Rattle.grid_config_values.specs.declared.position.Position.{Position}
use Rattle.grid_config.specs.Colors.{Color}
use Rattle.grid_config.specs.Looks.{Look}
use Rattle.grid_records_measure.specs.TextLines.{line_feed}
use Rattle.papergrid_picture.specs.Frame.{frame_of, line_count}
use Rattle.papergrid_picture.specs.Tables.{table_line, table_lines, table_text}

module _ (line : ℕ → List ℕ) where
  abbrev fed : ℕ → List ℕ
  fed y = cond (y == 0) [] (encode_utf8 line_feed) ++ line y

  fed-later : (y : ℕ) → fed (suc y) ≡ line_feed ∷ line (suc y)
  fed-later y =
      let later : (suc y == 0) ≡ false = grind (arith, nat_tests) in
      ap (λ b. cond b [] (encode_utf8 line_feed) ++ line (suc y)) later ∙ ap (λ bytes. bytes ++ line (suc y)) (encode_ascii line_feed (lit< tt))

  joined-behind : (n y : ℕ) (first : List ℕ) → first ++ flat_map fed (range_with_len (suc y) n) ≡ join_with_byte line_feed (first ∷ map line (range_with_len (suc y) n))
  joined-behind zero y first = append-nil first
  joined-behind (suc n) y first =
      let next : suc y + 1 ≡ suc (suc y) = omega arith in
      ap (λ from. first ++ (fed (suc y) ++ flat_map fed (range_with_len from n))) next
      ∙ ap (λ bytes. first ++ (bytes ++ flat_map fed (range_with_len (suc (suc y)) n))) (fed-later y)
      ∙ ap (λ bytes. first ++ (line_feed ∷ bytes)) (joined-behind n (suc y) (line (suc y)))
      ∙ ap (λ from. first ++ (line_feed ∷ join_with_byte line_feed (line (suc y) ∷ map line (range_with_len from n)))) (sym next)

  lines-joined : (n : ℕ) → flat_map fed (range_with_len 0 n) ≡ join_with_byte line_feed (map line (range_with_len 0 n))
  lines-joined zero = refl
  lines-joined (suc n) = joined-behind n 0 (line 0)

module _ (look : Look) (rows : List (List (List ℕ))) (colors : Position → Option Color) (widths heights : List ℕ) where
  pub table_lines-joined : (n : ℕ) → table_lines look rows colors widths heights n ≡ join_with_byte line_feed (map (table_line look rows colors widths heights) (range_with_len 0 n))
  table_lines-joined n = lines-joined (table_line look rows colors widths heights) n

  pub table_text-joined : table_text look rows colors widths heights ≡ join_with_byte line_feed (map (table_line look rows colors widths heights) (range_with_len 0 (line_count (frame_of look widths heights))))
  table_text-joined = table_lines-joined (line_count (frame_of look widths heights))
