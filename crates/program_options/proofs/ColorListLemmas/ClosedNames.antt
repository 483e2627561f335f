-- The colours that have names close.
use Rattle.std.proofs.Common.{◌≡◌, ◌<◌, ℕ, true, List, [], ◌∷◌, codes, refl}
use Rattle.std.specs.Prelude.{IsUtf8, nat_lt}
use Rattle.std.specs.List.{AllByRecursion, list_all}
use Rattle.std.specs.Fmt.{digits}
use Rattle.std.specs.Str.{chars}
use Rattle.std.proofs.Math.Utf8.{encode}
use Rattle.std.proofs.lemmas.Bool.{and_parts, ltb-true}
use Rattle.std.proofs.lemmas.List.Elements.{All-from_recursion}
use Rattle.std.proofs.lemmas.Str.{IsUtf8-from_ascii}
use Rattle.std.proofs.lemmas.Str.Ascii.{IsAscii-from_all}
use Rattle.ansi_scan.specs.Pieces.{pieces, first_pieces, leading_piece, at_escape, sequence_front, opened, control_from, string_from, escape_from}
use Rattle.ansi_scan.specs.Attributes.{plain_attributes}
use Rattle.ansi_scan.specs.Rendition.{applied, after_parameters}
use Rattle.ansi_scan.proofs.Existence.{ArePiecesOf-pieces}
use Rattle.ansi_str_search.specs.Text.StyledText.{style_after_all}
use Rattle.grid_config.specs.Ansi.Closing.{AreSequences, Clears}
use Rattle.grid_config.specs.Ansi.Colors.{Color}
use Rattle.papergrid_picture.specs.Colors.ClosingColors.{IsClosing}
use Rattle.program_options.specs.ColorList.Names.{named_colors, color_of_texts}

-- texts of ASCII
low : (bytes : List ℕ) → list_all (λ b. nat_lt b 128) bytes ≡ true → AllByRecursion (λ b. b < 128) bytes
low [] all = tt
low (b ∷ bs) all = let parts = and_parts (nat_lt b 128) (list_all (λ b. nat_lt b 128) bs) all in (ltb-true b 128 parts.0, low bs parts.1)

ascii : (bytes : List ℕ) → list_all (λ b. nat_lt b 128) bytes ≡ true → IsUtf8 bytes
ascii bytes all = IsUtf8-from_ascii bytes (IsAscii-from_all bytes (All-from_recursion (λ b. b < 128) bytes (low bytes all)))

-- a colour of two such texts, by what its pieces do
closed : (prefix suffix : List ℕ) → list_all (λ b. nat_lt b 128) prefix ≡ true → list_all (λ b. nat_lt b 128) suffix ≡ true → AreSequences (pieces prefix) → AreSequences (pieces suffix)
    → Clears (style_after_all plain_attributes (pieces prefix)) (pieces suffix) → IsClosing (color_of_texts prefix suffix)
closed prefix suffix first second before behind clears = record {
  prefix_text = ascii prefix first;
  suffix_text = ascii suffix second;
  closes = record {
    prefix = pieces prefix;
    of_prefix = ArePiecesOf-pieces prefix;
    prefix_form = before;
    suffix = pieces suffix;
    of_suffix = ArePiecesOf-pieces suffix;
    suffix_form = behind;
    clears = clears;
  };
}

-- each by computation
pub names-close : AllByRecursion (λ (row : List ℕ × Color). IsClosing row.1) named_colors
unfolding pieces first_pieces leading_piece at_escape sequence_front opened control_from string_from escape_from applied after_parameters plain_attributes digits chars encode
names-close = (closed (codes "\u{1b}[30m") (codes "\u{1b}[39m") refl refl (record { whole = ((λ e. cc e), tt); no_text = ((λ e. cc e), tt) }) (record { whole = ((λ e. cc e), tt); no_text = ((λ e. cc e), tt) }) (record { from_plain = refl; from_style = refl }), (closed (codes "\u{1b}[31m") (codes "\u{1b}[39m") refl refl (record { whole = ((λ e. cc e), tt); no_text = ((λ e. cc e), tt) }) (record { whole = ((λ e. cc e), tt); no_text = ((λ e. cc e), tt) }) (record { from_plain = refl; from_style = refl }), (closed (codes "\u{1b}[32m") (codes "\u{1b}[39m") refl refl (record { whole = ((λ e. cc e), tt); no_text = ((λ e. cc e), tt) }) (record { whole = ((λ e. cc e), tt); no_text = ((λ e. cc e), tt) }) (record { from_plain = refl; from_style = refl }), (closed (codes "\u{1b}[33m") (codes "\u{1b}[39m") refl refl (record { whole = ((λ e. cc e), tt); no_text = ((λ e. cc e), tt) }) (record { whole = ((λ e. cc e), tt); no_text = ((λ e. cc e), tt) }) (record { from_plain = refl; from_style = refl }), (closed (codes "\u{1b}[34m") (codes "\u{1b}[39m") refl refl (record { whole = ((λ e. cc e), tt); no_text = ((λ e. cc e), tt) }) (record { whole = ((λ e. cc e), tt); no_text = ((λ e. cc e), tt) }) (record { from_plain = refl; from_style = refl }), (closed (codes "\u{1b}[35m") (codes "\u{1b}[39m") refl refl (record { whole = ((λ e. cc e), tt); no_text = ((λ e. cc e), tt) }) (record { whole = ((λ e. cc e), tt); no_text = ((λ e. cc e), tt) }) (record { from_plain = refl; from_style = refl }), (closed (codes "\u{1b}[36m") (codes "\u{1b}[39m") refl refl (record { whole = ((λ e. cc e), tt); no_text = ((λ e. cc e), tt) }) (record { whole = ((λ e. cc e), tt); no_text = ((λ e. cc e), tt) }) (record { from_plain = refl; from_style = refl }), (closed (codes "\u{1b}[37m") (codes "\u{1b}[39m") refl refl (record { whole = ((λ e. cc e), tt); no_text = ((λ e. cc e), tt) }) (record { whole = ((λ e. cc e), tt); no_text = ((λ e. cc e), tt) }) (record { from_plain = refl; from_style = refl }), (closed (codes "\u{1b}[1m") (codes "\u{1b}[22m") refl refl (record { whole = ((λ e. cc e), tt); no_text = ((λ e. cc e), tt) }) (record { whole = ((λ e. cc e), tt); no_text = ((λ e. cc e), tt) }) (record { from_plain = refl; from_style = refl }), (closed (codes "\u{1b}[4m") (codes "\u{1b}[24m") refl refl (record { whole = ((λ e. cc e), tt); no_text = ((λ e. cc e), tt) }) (record { whole = ((λ e. cc e), tt); no_text = ((λ e. cc e), tt) }) (record { from_plain = refl; from_style = refl }), tt))))))))))
