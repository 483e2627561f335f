-- The glyphs of styles: of ASCII, and box drawing characters of the Unicode Standard, U+2500 to U+257F.
use Rattle.std.specs.Prelude.{ℕ, Some}
use Rattle.grid_config_values.specs.declared.borders.Borders.{Borders}

-- `-` along rows, `|` along columns, `+` where they meet
abbrev pub ascii : Borders ℕ
ascii = record {
  top = Some 0x2d;
  top_left = Some 0x2b;
  top_right = Some 0x2b;
  top_intersection = Some 0x2b;
  bottom = Some 0x2d;
  bottom_left = Some 0x2b;
  bottom_right = Some 0x2b;
  bottom_intersection = Some 0x2b;
  horizontal = Some 0x2d;
  left_intersection = Some 0x2b;
  right_intersection = Some 0x2b;
  intersection = Some 0x2b;
  vertical = Some 0x7c;
  left = Some 0x7c;
  right = Some 0x7c;
}

-- light lines
abbrev pub modern : Borders ℕ
modern = record {
  top = Some 0x2500;
  top_left = Some 0x250c;
  top_right = Some 0x2510;
  top_intersection = Some 0x252c;
  bottom = Some 0x2500;
  bottom_left = Some 0x2514;
  bottom_right = Some 0x2518;
  bottom_intersection = Some 0x2534;
  horizontal = Some 0x2500;
  left_intersection = Some 0x251c;
  right_intersection = Some 0x2524;
  intersection = Some 0x253c;
  vertical = Some 0x2502;
  left = Some 0x2502;
  right = Some 0x2502;
}

-- double lines
abbrev pub extended : Borders ℕ
extended = record {
  top = Some 0x2550;
  top_left = Some 0x2554;
  top_right = Some 0x2557;
  top_intersection = Some 0x2566;
  bottom = Some 0x2550;
  bottom_left = Some 0x255a;
  bottom_right = Some 0x255d;
  bottom_intersection = Some 0x2569;
  horizontal = Some 0x2550;
  left_intersection = Some 0x2560;
  right_intersection = Some 0x2563;
  intersection = Some 0x256c;
  vertical = Some 0x2551;
  left = Some 0x2551;
  right = Some 0x2551;
}
