-- Tables in the style that `Wanted::new` has, worked out by hand.
use Rattle.std.proofs.Common.{◌≡◌, ℕ, List, [], Bool, true, false, refl, ap, ◌∙◌}
use Rattle.std.specs.Prelude.{◌∷◌, codes, None}
use Rattle.std.specs.Fmt.{digits}
use Rattle.std.specs.Str.{chars}
use Rattle.std.proofs.Math.Utf8.{encode}
use Rattle.ansi_scan.specs.Attributes.{plain_attributes}
use Rattle.ansi_scan.specs.Pieces.{pieces, first_pieces, leading_piece, at_escape, sequence_front, opened, control_from, string_from, escape_from}
use Rattle.ansi_scan.specs.Rendition.{applied, after_parameters}
use Rattle.ansi_scan.specs.StartsAndEnds.{start_bytes, start_sequences, end_bytes, end_sequences}
use Rattle.columns_asked.specs.DrawnTables.{asked_characters, asked_items, asked_text, asked_widths, resized_cells, resized_rows}
use Rattle.columns_asked.specs.Shrunk.{shrunk_list}
use Rattle.columns_asked.specs.Worked.{cuts, no_width, wraps}
use Rattle.columns_asked.specs.declared.asked.WidthLimit.{WidthLimit}
use Rattle.columns_asked.specs.Colors.ColoredTables.{colored_text}
use Rattle.columns_asked.specs.Colors.ColumnColors.{cell_color}
use Rattle.columns_asked.specs.Colors.Worked.{bold, green, only, red}
use Rattle.program_options.specs.Columns.Settings.{default_settings}
use Rattle.grid_config.specs.Colors.{Color}
use Rattle.grid_config.specs.Compact.{Compact}
use Rattle.grid_config_values.specs.Spans.Spans.{extent_at}
use Rattle.grid_records_estimate.specs.Estimates.{track_sizes}
use Rattle.grid_records_estimate.specs.Sizes.{table_heights, table_widths}
use Rattle.grid_records_measure.specs.TextLines.{text_height, text_lines, text_width}
use Rattle.tabled_size_priority.specs.declared.choice.Choice.{Choice}
use Rattle.tabled_size_priority.specs.declared.choice.Choice.TheVariants.{None as InTurns, MaxLeft}
use Rattle.columns_asked.specs.Bytes.{cut_at, wrapped_text}
use Rattle.unicode_width.specs.Width.{alone, char_width, past_emoji, step, str_width}
use Rattle.columns_run.specs.Rows.{cell_parts, rows_of}
use Rattle.columns_run.specs.DrawnTables.{output_of, table_characters}
use Rattle.columns_run.specs.Wanted.{Wanted, default_wanted}
use Rattle.columns_run.proofs.Colors.{output-uncolored}

-- no width, whatever else is requested
abbrev pub natural : Bool → Bool → Choice → WidthLimit
natural truncate keep_words priority = record { width = None; truncate = truncate; keep_words = keep_words; priority = priority }

abbrev pub characters_under : List ℕ → Compact → WidthLimit → List ℕ
characters_under characters style asked = asked_characters style asked (rows_of (λ c. c) characters)

abbrev pub output_under : List ℕ → Compact → WidthLimit → List ℕ
output_under input style asked = asked_text style asked (cell_parts input)

abbrev pub colored_under : List ℕ → Compact → WidthLimit → List (ℕ × Color) → List ℕ
colored_under input style asked colors = colored_text style asked (cell_color colors) (cell_parts input)

-- a table of these characters, and of these bytes
abbrev pub HasCharacters : List ℕ → List ℕ → Type 0
HasCharacters characters out = (truncate keep_words : Bool) (priority : Choice) → characters_under characters default_settings (natural truncate keep_words priority) ≡ out

abbrev pub HasOutput : List ℕ → List ℕ → Type 0
HasOutput input out = (truncate keep_words : Bool) (priority : Choice) → output_under input default_settings (natural truncate keep_words priority) ≡ out

module _ (wanted : Wanted) (is : wanted.style ≡ default_settings) where
  module _ (none : wanted.limit.width ≡ None) where
    natural_is : wanted.limit ≡ natural wanted.limit.truncate wanted.limit.keep_words wanted.limit.priority
    natural_is = ap (λ width. record wanted.limit { width = width }) none

    pub table_is : (characters out : List ℕ) → HasCharacters characters out → table_characters wanted characters ≡ out
    unfolding table_characters
    table_is characters out e =
        ap (λ style. characters_under characters style wanted.limit) is ∙ ap (characters_under characters default_settings) natural_is ∙ e wanted.limit.truncate wanted.limit.keep_words wanted.limit.priority

    pub output_is : (input out : List ℕ) → HasOutput input out → wanted.colors ≡ [] → output_of wanted input ≡ out
    output_is input out e uncolored =
        output-uncolored wanted input uncolored
        ∙ ap (λ style. output_under input style wanted.limit) is ∙ ap (output_under input default_settings) natural_is ∙ e wanted.limit.truncate wanted.limit.keep_words wanted.limit.priority

pub asked_is : (asked : WidthLimit) (input out : List ℕ) → output_under input default_settings asked ≡ out → output_of (default_wanted asked []) input ≡ out
asked_is asked input out e = output-uncolored (default_wanted asked []) input refl ∙ e

-- with colours of columns
pub colored_is : (asked : WidthLimit) (colors : List (ℕ × Color)) (input out : List ℕ) → colored_under input default_settings asked colors ≡ out → output_of (default_wanted asked colors) input ≡ out
unfolding output_of
colored_is asked colors input out e = e

pub empty : HasCharacters [] ([])
unfolding asked_items resized_cells asked_widths table_widths table_heights track_sizes text_width text_height extent_at str_width step past_emoji pieces first_pieces leading_piece chars encode
empty truncate keep_words priority = refl

pub two_by_two : HasCharacters (codes "a\tb\n1\t2\n") (codes "+---+---+\n| a | b |\n+---+---+\n| 1 | 2 |\n+---+---+\n")
unfolding asked_items resized_cells asked_widths table_widths table_heights track_sizes text_width text_height extent_at str_width step past_emoji pieces first_pieces leading_piece chars encode
two_by_two truncate keep_words priority = refl

pub short_row : HasCharacters (codes "a\tb\nc\n") (codes "+---+---+\n| a | b |\n+---+---+\n| c |   |\n+---+---+\n")
unfolding asked_items resized_cells asked_widths table_widths table_heights track_sizes text_width text_height extent_at str_width step past_emoji pieces first_pieces leading_piece chars encode
short_row truncate keep_words priority = refl

pub longer_row : HasCharacters (codes "a\nbcd\te\tf\n") (codes "+-----+---+---+\n| a   |   |   |\n+-----+---+---+\n| bcd | e | f |\n+-----+---+---+\n")
unfolding asked_items resized_cells asked_widths table_widths table_heights track_sizes text_width text_height extent_at str_width step past_emoji pieces first_pieces leading_piece chars encode
longer_row truncate keep_words priority = refl

pub empty_row : HasCharacters (codes "\n") (codes "+--+\n|  |\n+--+\n")
unfolding asked_items resized_cells asked_widths table_widths table_heights track_sizes text_width text_height extent_at str_width step past_emoji pieces first_pieces leading_piece chars encode
empty_row truncate keep_words priority = refl

pub two_empty_rows : HasCharacters (codes "\n\n") (codes "+--+\n|  |\n+--+\n|  |\n+--+\n")
unfolding asked_items resized_cells asked_widths table_widths table_heights track_sizes text_width text_height extent_at str_width step past_emoji pieces first_pieces leading_piece chars encode
two_empty_rows truncate keep_words priority = refl

pub empty_last_row : HasCharacters (codes "a\n\n") (codes "+---+\n| a |\n+---+\n|   |\n+---+\n")
unfolding asked_items resized_cells asked_widths table_widths table_heights track_sizes text_width text_height extent_at str_width step past_emoji pieces first_pieces leading_piece chars encode
empty_last_row truncate keep_words priority = refl

pub empty_middle_row : HasCharacters (codes "a\n\nb") (codes "+---+\n| a |\n+---+\n|   |\n+---+\n| b |\n+---+\n")
unfolding asked_items resized_cells asked_widths table_widths table_heights track_sizes text_width text_height extent_at str_width step past_emoji pieces first_pieces leading_piece chars encode
empty_middle_row truncate keep_words priority = refl

pub lone_tab : HasCharacters (codes "\t") (codes "+--+--+\n|  |  |\n+--+--+\n")
unfolding asked_items resized_cells asked_widths table_widths table_heights track_sizes text_width text_height extent_at str_width step past_emoji pieces first_pieces leading_piece chars encode
lone_tab truncate keep_words priority = refl

pub tab_at_end : HasCharacters (codes "a\t\n") (codes "+---+--+\n| a |  |\n+---+--+\n")
unfolding asked_items resized_cells asked_widths table_widths table_heights track_sizes text_width text_height extent_at str_width step past_emoji pieces first_pieces leading_piece chars encode
tab_at_end truncate keep_words priority = refl

pub no_final_line_feed : HasCharacters (codes "a\tb") (codes "+---+---+\n| a | b |\n+---+---+\n")
unfolding asked_items resized_cells asked_widths table_widths table_heights track_sizes text_width text_height extent_at str_width step past_emoji pieces first_pieces leading_piece chars encode
no_final_line_feed truncate keep_words priority = refl

pub carriage_return : HasCharacters (codes "a\r\n") (codes "+----+\n| a\r |\n+----+\n")
unfolding asked_items resized_cells asked_widths table_widths table_heights track_sizes text_width text_height extent_at str_width step past_emoji pieces first_pieces leading_piece chars encode
carriage_return truncate keep_words priority = refl

pub two_cells : HasOutput (codes "\u{1b}[31mab\tc\n") (codes "+----+---+\n| \u{1b}[31mab\u{1b}[39m | \u{1b}[31mc\u{1b}[39m |\n+----+---+\n")
unfolding asked_text resized_rows asked_widths table_widths table_heights track_sizes text_width text_height extent_at str_width step past_emoji pieces first_pieces leading_piece chars encode text_lines at_escape sequence_front opened control_from string_from escape_from applied after_parameters plain_attributes start_bytes start_sequences end_bytes end_sequences digits
two_cells truncate keep_words priority = refl

pub two_lines : HasOutput (codes "\u{1b}[1ma\nb\u{1b}[0m\n") (codes "+---+\n| \u{1b}[1ma\u{1b}[22m |\n+---+\n| \u{1b}[1mb\u{1b}[0m |\n+---+\n")
unfolding asked_text resized_rows asked_widths table_widths table_heights track_sizes text_width text_height extent_at str_width step past_emoji pieces first_pieces leading_piece chars encode text_lines at_escape sequence_front opened control_from string_from escape_from applied after_parameters plain_attributes start_bytes start_sequences end_bytes end_sequences digits
two_lines truncate keep_words priority = refl

pub lone_sequence : HasOutput (codes "\u{1b}[31m") ([])
unfolding asked_text resized_rows asked_widths table_widths table_heights track_sizes text_width text_height extent_at str_width step past_emoji pieces first_pieces leading_piece chars encode text_lines at_escape sequence_front opened control_from string_from escape_from applied after_parameters plain_attributes start_bytes start_sequences end_bytes end_sequences digits
lone_sequence truncate keep_words priority = refl

pub tab_in_a_string : HasOutput (codes "\u{1b}]0;a\tb\u{7}x\n") (codes "+---+\n| \u{1b}]0;a\tb\u{7}x |\n+---+\n")
unfolding asked_text resized_rows asked_widths table_widths table_heights track_sizes text_width text_height extent_at str_width step past_emoji pieces first_pieces leading_piece chars encode text_lines at_escape sequence_front opened control_from string_from escape_from applied after_parameters plain_attributes start_bytes start_sequences end_bytes end_sequences digits
tab_in_a_string truncate keep_words priority = refl

pub same_color_twice : HasOutput (codes "\u{1b}[31ma\u{1b}[31mb\n") (codes "+----+\n| \u{1b}[31ma\u{1b}[31mb\u{1b}[39m |\n+----+\n")
unfolding asked_text resized_rows asked_widths table_widths table_heights track_sizes text_width text_height extent_at str_width step past_emoji pieces first_pieces leading_piece chars encode text_lines at_escape sequence_front opened control_from string_from escape_from applied after_parameters plain_attributes start_bytes start_sequences end_bytes end_sequences digits
same_color_twice truncate keep_words priority = refl

pub out_wrapped : output_under (codes "\u{1b}[31m123456\u{1b}[0m\n") default_settings (wraps 6 false InTurns) ≡ codes "+----+\n| \u{1b}[31m12\u{1b}[39m |\n| \u{1b}[31m34\u{1b}[39m |\n| \u{1b}[31m56\u{1b}[0m |\n+----+\n"
unfolding asked_text resized_rows asked_widths shrunk_list wrapped_text cut_at table_widths table_heights track_sizes text_width text_height extent_at str_width char_width alone step past_emoji pieces first_pieces leading_piece at_escape sequence_front opened control_from string_from escape_from text_lines applied after_parameters plain_attributes start_bytes start_sequences end_bytes end_sequences digits chars encode
out_wrapped = refl

pub out_wrapped_behind : output_under (codes "\u{1b}[31m12\u{1b}[0m34\n") default_settings (wraps 6 false InTurns) ≡ codes "+----+\n| \u{1b}[31m12\u{1b}[0m |\n| 34 |\n+----+\n"
unfolding asked_text resized_rows asked_widths shrunk_list wrapped_text cut_at table_widths table_heights track_sizes text_width text_height extent_at str_width char_width alone step past_emoji pieces first_pieces leading_piece at_escape sequence_front opened control_from string_from escape_from text_lines applied after_parameters plain_attributes start_bytes start_sequences end_bytes end_sequences digits chars encode
out_wrapped_behind = refl

pub out_cut : output_under (codes "\u{1b}[31m123456\u{1b}[0m\n") default_settings (cuts 6) ≡ codes "+----+\n| \u{1b}[31m12\u{1b}[39m |\n+----+\n"
unfolding asked_text resized_rows asked_widths shrunk_list wrapped_text cut_at table_widths table_heights track_sizes text_width text_height extent_at str_width char_width alone step past_emoji pieces first_pieces leading_piece at_escape sequence_front opened control_from string_from escape_from text_lines applied after_parameters plain_attributes start_bytes start_sequences end_bytes end_sequences digits chars encode
out_cut = refl

pub out_words : output_under (codes "111 234 1\n") default_settings (wraps 8 true InTurns) ≡ codes "+------+\n| 111  |\n| 234  |\n| 1    |\n+------+\n"
unfolding asked_text resized_rows asked_widths shrunk_list wrapped_text cut_at table_widths table_heights track_sizes text_width text_height extent_at str_width char_width alone step past_emoji pieces first_pieces leading_piece at_escape sequence_front opened control_from string_from escape_from text_lines applied after_parameters plain_attributes start_bytes start_sequences end_bytes end_sequences digits chars encode
out_words = refl

pub out_nothing : output_under (codes "ab\tc\n") default_settings (wraps 0 false InTurns) ≡ codes "+--+--+\n|  |  |\n+--+--+\n"
unfolding asked_text resized_rows asked_widths shrunk_list wrapped_text cut_at table_widths table_heights track_sizes text_width text_height extent_at str_width char_width alone step past_emoji pieces first_pieces leading_piece at_escape sequence_front opened control_from string_from escape_from text_lines applied after_parameters plain_attributes start_bytes start_sequences end_bytes end_sequences digits chars encode
out_nothing = refl

pub out_in_turns : output_under (codes "aaaa\tbb\n") default_settings (wraps 11 false InTurns) ≡ codes "+-----+---+\n| aaa | b |\n| a   | b |\n+-----+---+\n"
unfolding asked_text resized_rows asked_widths shrunk_list wrapped_text cut_at table_widths table_heights track_sizes text_width text_height extent_at str_width char_width alone step past_emoji pieces first_pieces leading_piece at_escape sequence_front opened control_from string_from escape_from text_lines applied after_parameters plain_attributes start_bytes start_sequences end_bytes end_sequences digits chars encode
out_in_turns = refl

pub out_widest : output_under (codes "aaaa\tbb\n") default_settings (wraps 11 false MaxLeft) ≡ codes "+----+----+\n| aa | bb |\n| aa |    |\n+----+----+\n"
unfolding asked_text resized_rows asked_widths shrunk_list wrapped_text cut_at table_widths table_heights track_sizes text_width text_height extent_at str_width char_width alone step past_emoji pieces first_pieces leading_piece at_escape sequence_front opened control_from string_from escape_from text_lines applied after_parameters plain_attributes start_bytes start_sequences end_bytes end_sequences digits chars encode
out_widest = refl

pub out_natural : output_under (codes "ab\n") default_settings (wraps 6 false InTurns) ≡ codes "+----+\n| ab |\n+----+\n"
unfolding asked_text resized_rows asked_widths shrunk_list wrapped_text cut_at table_widths table_heights track_sizes text_width text_height extent_at str_width char_width alone step past_emoji pieces first_pieces leading_piece at_escape sequence_front opened control_from string_from escape_from text_lines applied after_parameters plain_attributes start_bytes start_sequences end_bytes end_sequences digits chars encode
out_natural = refl

pub out_wide : output_under (codes "ab\n") default_settings (wraps 100 false InTurns) ≡ codes "+----+\n| ab |\n+----+\n"
unfolding asked_text resized_rows asked_widths shrunk_list wrapped_text cut_at table_widths table_heights track_sizes text_width text_height extent_at str_width char_width alone step past_emoji pieces first_pieces leading_piece at_escape sequence_front opened control_from string_from escape_from text_lines applied after_parameters plain_attributes start_bytes start_sequences end_bytes end_sequences digits chars encode
out_wide = refl

pub color_one_column : colored_under (codes "a\tb\n") default_settings no_width (only 1 red) ≡ codes "+---+---+\n| a | \u{1b}[31mb\u{1b}[39m |\n+---+---+\n"
unfolding colored_text resized_rows asked_widths shrunk_list wrapped_text cut_at table_widths table_heights track_sizes text_width text_height extent_at str_width char_width alone step past_emoji pieces first_pieces leading_piece at_escape sequence_front opened control_from string_from escape_from text_lines applied after_parameters plain_attributes start_bytes start_sequences end_bytes end_sequences digits chars encode
color_one_column = refl

pub color_cleared : colored_under (codes "\u{1b}[1mab\u{1b}[0mc\n") default_settings no_width (only 0 red) ≡ codes "+-----+\n| \u{1b}[31m\u{1b}[1mab\u{1b}[0mc\u{1b}[39m |\n+-----+\n"
unfolding colored_text resized_rows asked_widths shrunk_list wrapped_text cut_at table_widths table_heights track_sizes text_width text_height extent_at str_width char_width alone step past_emoji pieces first_pieces leading_piece at_escape sequence_front opened control_from string_from escape_from text_lines applied after_parameters plain_attributes start_bytes start_sequences end_bytes end_sequences digits chars encode
color_cleared = refl

pub color_both : colored_under (codes "\u{1b}[1mab\n") default_settings no_width (only 0 red) ≡ codes "+----+\n| \u{1b}[31m\u{1b}[1mab\u{1b}[22m\u{1b}[39m |\n+----+\n"
unfolding colored_text resized_rows asked_widths shrunk_list wrapped_text cut_at table_widths table_heights track_sizes text_width text_height extent_at str_width char_width alone step past_emoji pieces first_pieces leading_piece at_escape sequence_front opened control_from string_from escape_from text_lines applied after_parameters plain_attributes start_bytes start_sequences end_bytes end_sequences digits chars encode
color_both = refl

pub color_wrapped : colored_under (codes "1234\n") default_settings (wraps 6 false InTurns) (only 0 red) ≡ codes "+----+\n| \u{1b}[31m12\u{1b}[39m |\n| \u{1b}[31m34\u{1b}[39m |\n+----+\n"
unfolding colored_text resized_rows asked_widths shrunk_list wrapped_text cut_at table_widths table_heights track_sizes text_width text_height extent_at str_width char_width alone step past_emoji pieces first_pieces leading_piece at_escape sequence_front opened control_from string_from escape_from text_lines applied after_parameters plain_attributes start_bytes start_sequences end_bytes end_sequences digits chars encode
color_wrapped = refl

pub color_cut : colored_under (codes "1234\n") default_settings (cuts 6) (only 0 red) ≡ codes "+----+\n| \u{1b}[31m12\u{1b}[39m |\n+----+\n"
unfolding colored_text resized_rows asked_widths shrunk_list wrapped_text cut_at table_widths table_heights track_sizes text_width text_height extent_at str_width char_width alone step past_emoji pieces first_pieces leading_piece at_escape sequence_front opened control_from string_from escape_from text_lines applied after_parameters plain_attributes start_bytes start_sequences end_bytes end_sequences digits chars encode
color_cut = refl

pub color_empty : colored_under (codes "\ta\n") default_settings no_width (only 0 red) ≡ codes "+--+---+\n|  | a |\n+--+---+\n"
unfolding colored_text resized_rows asked_widths shrunk_list wrapped_text cut_at table_widths table_heights track_sizes text_width text_height extent_at str_width char_width alone step past_emoji pieces first_pieces leading_piece at_escape sequence_front opened control_from string_from escape_from text_lines applied after_parameters plain_attributes start_bytes start_sequences end_bytes end_sequences digits chars encode
color_empty = refl

pub color_outside : colored_under (codes "a\n") default_settings no_width (only 5 red) ≡ codes "+---+\n| a |\n+---+\n"
unfolding colored_text resized_rows asked_widths shrunk_list wrapped_text cut_at table_widths table_heights track_sizes text_width text_height extent_at str_width char_width alone step past_emoji pieces first_pieces leading_piece at_escape sequence_front opened control_from string_from escape_from text_lines applied after_parameters plain_attributes start_bytes start_sequences end_bytes end_sequences digits chars encode
color_outside = refl

pub color_last : colored_under (codes "a\n") default_settings no_width ((0, red) ∷ (1, bold) ∷ (0, green) ∷ []) ≡ codes "+---+\n| \u{1b}[32ma\u{1b}[39m |\n+---+\n"
unfolding colored_text resized_rows asked_widths shrunk_list wrapped_text cut_at table_widths table_heights track_sizes text_width text_height extent_at str_width char_width alone step past_emoji pieces first_pieces leading_piece at_escape sequence_front opened control_from string_from escape_from text_lines applied after_parameters plain_attributes start_bytes start_sequences end_bytes end_sequences digits chars encode
color_last = refl
