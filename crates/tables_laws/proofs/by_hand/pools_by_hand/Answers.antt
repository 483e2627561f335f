-- The tables are computed.
use Rattle.std.specs.Fmt.{digits}
use Rattle.std.specs.Str.{chars}
use Rattle.std.specs.Prelude.{max}
use Rattle.std.proofs.Common.{◌≡◌, ◌≤◌, ◌-◌, ◌^◌, ℕ, [], arith, refl, subst, sym}
use Rattle.std.proofs.Math.Utf8.{encode}
use Rattle.unicode_width.specs.Width.{alone, char_width, past_emoji, step, str_width}
use Rattle.ansi_scan.specs.Pieces.{at_escape, control_from, escape_from, first_pieces, leading_piece, opened, pieces, sequence_front, string_from}
use Rattle.ansi_scan.specs.Attributes.{plain_attributes}
use Rattle.ansi_scan.specs.Rendition.{after_parameters, applied}
use Rattle.ansi_scan.specs.StartsAndEnds.{end_bytes, end_sequences, start_bytes, start_sequences}
use Rattle.grid_records_estimate.specs.Estimates.{track_sizes}
use Rattle.grid_records_measure.specs.TextLines.{text_height, text_lines, text_width}
use Rattle.tabled_size_wrap.specs.Bytes.{cut_at, wrapped_text}
use Rattle.tabled_compact.specs.Tables.{begun_settings}
use Rattle.tabled_options.specs.Multiline.Multiline.{over}
use Rattle.tabled_options.specs.Options.{spaced_sides}
use Rattle.tabled_pool.specs.Boxes.Texts.{total_height, total_width}
use Rattle.tabled_pool.specs.Boxes.Values.{Text}
use Rattle.tabled_pool.specs.Pools.{Pool, begun as begun_pool, look_of_pool, own_box}
use Rattle.tabled_steps.specs.Sizes.{natural_heights, natural_widths}
use Rattle.tables_laws.proofs.by_hand.pools_by_hand.Goals as goal

pub returns-clause-new : goal.returns-clause-new
unfolding natural_widths natural_heights track_sizes cut_at wrapped_text text_width text_height text_lines str_width char_width alone step past_emoji pieces first_pieces leading_piece at_escape sequence_front opened control_from string_from escape_from applied after_parameters plain_attributes start_bytes start_sequences end_bytes end_sequences digits chars encode
returns-clause-new c = refl

pub returns-clause-no_rows : goal.returns-clause-no_rows
unfolding natural_widths natural_heights track_sizes cut_at wrapped_text text_width text_height text_lines str_width char_width alone step past_emoji pieces first_pieces leading_piece at_escape sequence_front opened control_from string_from escape_from applied after_parameters plain_attributes start_bytes start_sequences end_bytes end_sequences digits chars encode
returns-clause-no_rows c = refl

pub returns-clause-shared_lines : goal.returns-clause-shared_lines
unfolding natural_widths natural_heights track_sizes cut_at wrapped_text text_width text_height text_lines str_width char_width alone step past_emoji pieces first_pieces leading_piece at_escape sequence_front opened control_from string_from escape_from applied after_parameters plain_attributes start_bytes start_sequences end_bytes end_sequences digits chars encode
returns-clause-shared_lines c = refl

-- ---- a box of three lines below a margin

abbrev below-margin : ℕ → Pool
below-margin size = record (begun_pool (Text [])) { settings = over (record begun_settings { margin = spaced_sides 0 0 size 0 }) }

abbrev size-of : Pool → ℕ
size-of pool = max (total_width (look_of_pool pool) pool.takers (own_box pool)) (total_height (look_of_pool pool) pool.takers (own_box pool))

greatest-size : size-of (below-margin (2 ^ 64 - 4)) ≡ 2 ^ 64 - 1
unfolding natural_widths natural_heights track_sizes cut_at wrapped_text text_width text_height text_lines str_width char_width alone step past_emoji pieces first_pieces leading_piece at_escape sequence_front opened control_from string_from escape_from applied after_parameters plain_attributes start_bytes start_sequences end_bytes end_sequences digits chars encode
greatest-size = refl

one-more : size-of (below-margin (2 ^ 64 - 3)) ≡ 2 ^ 64
unfolding natural_widths natural_heights track_sizes cut_at wrapped_text text_width text_height text_lines str_width char_width alone step past_emoji pieces first_pieces leading_piece at_escape sequence_front opened control_from string_from escape_from applied after_parameters plain_attributes start_bytes start_sequences end_bytes end_sequences digits chars encode
one-more = refl

pub returns-clause-highest : goal.returns-clause-highest
returns-clause-highest c = λ passes. let past : 2 ^ 64 ≤ 2 ^ 64 - 1 = subst (λ (n : ℕ). 2 ^ 64 ≤ n) greatest-size passes in absurd (omega (arith, past))

pub returns-clause-too_high : goal.returns-clause-too_high
returns-clause-too_high c = subst (λ (n : ℕ). 2 ^ 64 ≤ n) (sym one-more) (omega arith)
