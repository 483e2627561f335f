-- Pieces, matches and parts are computed.
use Rattle.std.specs.Fmt.{digits}
use Rattle.std.specs.Prelude.{codes}
use Rattle.std.proofs.Common.{[], ◌∷◌, refl}
use Rattle.ansi_scan.specs.declared.items.Kind.TheVariants.{Text, Sgr, Esc, Broken}
use Rattle.ansi_scan.specs.Pieces.{pieces, first_pieces, leading_piece, at_escape, sequence_front, opened, control_from, string_from, escape_from}
use Rattle.ansi_scan.specs.Attributes.{plain_attributes}
use Rattle.ansi_scan.specs.Rendition.{applied, after_parameters}
use Rattle.ansi_scan.specs.StartsAndEnds.{start_bytes, start_sequences, end_bytes, end_sequences}
use Rattle.ansi_str_search.specs.PartsLeft.{first_match}
use Rattle.ansi_str_search.proofs.MatchLists.{matches_from}
use Rattle.ansi_str_search.proofs.Worked.{AreParts-worked}
use Rattle.ansi_str_search.proofs.laws.worked_splits.Goals as goal

pub returns-clause-empty_pattern : goal.returns-clause-empty_pattern
unfolding pieces first_pieces leading_piece at_escape sequence_front opened control_from string_from escape_from matches_from first_match applied after_parameters plain_attributes start_bytes start_sequences end_bytes end_sequences digits
returns-clause-empty_pattern c = AreParts-worked (codes "\u{1b}[1ma") []
    (record { kind = Sgr; bytes = codes "\u{1b}[1m" } ∷ record { kind = Text; bytes = codes "a" } ∷ [])
    (0 ∷ 1 ∷ []) (codes "\u{1b}[1m\u{1b}[22m" ∷ codes "\u{1b}[1ma\u{1b}[22m" ∷ codes "\u{1b}[1m\u{1b}[22m" ∷ []) refl refl refl

pub returns-clause-within_match : goal.returns-clause-within_match
unfolding pieces first_pieces leading_piece at_escape sequence_front opened control_from string_from escape_from matches_from first_match applied after_parameters plain_attributes start_bytes start_sequences end_bytes end_sequences digits
returns-clause-within_match c = AreParts-worked (codes "4\u{1b}[1m56") (codes "45")
    (record { kind = Text; bytes = codes "4" } ∷ record { kind = Sgr; bytes = codes "\u{1b}[1m" } ∷ record { kind = Text; bytes = codes "56" } ∷ [])
    (0 ∷ []) ([] ∷ codes "\u{1b}[1m6\u{1b}[22m" ∷ []) refl refl refl

pub returns-clause-beside_match : goal.returns-clause-beside_match
unfolding pieces first_pieces leading_piece at_escape sequence_front opened control_from string_from escape_from matches_from first_match applied after_parameters plain_attributes start_bytes start_sequences end_bytes end_sequences digits
returns-clause-beside_match c = AreParts-worked (codes "a\u{1b}[31m,\u{1b}[0mb") (codes ",")
    (record { kind = Text; bytes = codes "a" } ∷ record { kind = Sgr; bytes = codes "\u{1b}[31m" } ∷ record { kind = Text; bytes = codes "," }
    ∷ record { kind = Sgr; bytes = codes "\u{1b}[0m" } ∷ record { kind = Text; bytes = codes "b" } ∷ [])
    (1 ∷ []) (codes "a\u{1b}[31m\u{1b}[39m" ∷ codes "\u{1b}[31m\u{1b}[0mb" ∷ []) refl refl refl

pub returns-clause-broken : goal.returns-clause-broken
unfolding pieces first_pieces leading_piece at_escape sequence_front opened control_from string_from escape_from matches_from first_match applied after_parameters plain_attributes start_bytes start_sequences end_bytes end_sequences digits
returns-clause-broken c = AreParts-worked (codes "a\u{1b}\nb") (codes "\n")
    (record { kind = Text; bytes = codes "a" } ∷ record { kind = Broken; bytes = codes "\u{1b}" } ∷ record { kind = Text; bytes = codes "\nb" } ∷ [])
    (1 ∷ []) (codes "a\u{1b}" ∷ codes "b" ∷ []) refl refl refl

pub returns-clause-within_sequence : goal.returns-clause-within_sequence
unfolding pieces first_pieces leading_piece at_escape sequence_front opened control_from string_from escape_from matches_from first_match applied after_parameters plain_attributes start_bytes start_sequences end_bytes end_sequences digits
returns-clause-within_sequence c = AreParts-worked (codes "a\u{1b},b") (codes ",")
    (record { kind = Text; bytes = codes "a" } ∷ record { kind = Esc; bytes = codes "\u{1b},b" } ∷ [])
    ([]) (codes "a\u{1b},b" ∷ []) refl refl refl
