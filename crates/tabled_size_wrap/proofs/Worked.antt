-- Wraps and cuts, worked out step by step.
use Rattle.std.proofs.Common.{◌≡◌, ◌<◌, ℕ, suc, ◌+◌, ◌&&◌, nat_le, nat_lt, if◌then◌else◌, Bool, true, false, List, [], ◌∷◌, ◌++◌, length, refl, ap, sym, subst, ◌∙◌, arith}
use Rattle.std.specs.Prelude.{chars, encode_utf8_all}
use Rattle.std.specs.List.{join_with_byte}
use Rattle.std.proofs.Math.Utf8.{scalars}
use Rattle.std.proofs.lemmas.List.Sums.{sum_by-cons}
use Rattle.std.proofs.lemmas.Str.{chars-encodes}
use Rattle.ansi_scan.specs.Sequences.{Piece, ArePiecesOf}
use Rattle.ansi_scan.specs.Pieces.{pieces}
use Rattle.ansi_scan.proofs.Existence.{ArePiecesOf-pieces}
use Rattle.ansi_str.specs.StyledText.{strip}
use Rattle.ansi_str.specs.Matches.{split_bounds, styled_parts}
use Rattle.ansi_str_search.proofs.MatchLists.{matches_from, AreMatches-worked}
use Rattle.grid_records_measure.specs.Cutting.{IsCutAt, cut_bytes}
use Rattle.grid_records_measure.specs.Filling.{fitting_front, behind_front, has_room, used_behind}
use Rattle.grid_records_measure.specs.Measures.{cost, line_cost}
use Rattle.grid_records_measure.specs.TextLines.{line_feed}
use Rattle.grid_records_measure.proofs.Filling.{IsLongestFront-fitting_front}
use Rattle.grid_records_measure.proofs.Plain.{two-columns}
use Rattle.tabled_size_wrap.specs.Units.{LineUnit, character_unit, line_units, unit_len}
use Rattle.tabled_size_wrap.specs.Wrapping.{IsWrapped, line_part, lines_of_runs, replacement_bytes}
use Rattle.tabled_size_wrap.specs.Runs.{wrapped_lines, runs_of}
use Rattle.tabled_size_wrap.specs.Worked.{WrapsTo, CutsTo}
use Rattle.tabled_size_wrap.proofs.Wraps.{is-wrapped}
use Rattle.grid_records_measure.proofs.Cuts.{cut_at-one}
use Rattle.tabled_size_wrap.proofs.Bytes.{wrapped_text-one}

-- U+1F633, which takes two columns
abbrev pub wide : ℕ
wide = 0x1F633

pub wide-cost : cost wide ≡ 2
wide-cost = let two = two-columns wide refl in omega (arith, two)

pub wide-unit : character_unit wide ≡ record { text = wide ∷ []; cost = 2 }
wide-unit = ap (λ n. record { text = wide ∷ []; cost = n }) wide-cost

pub wide-columns : line_cost (wide ∷ []) ≡ 2
wide-columns = sum_by-cons cost wide [] ∙ ap (λ n. n + 0) wide-cost

-- the first of two fills all columns of a line of three but one
first-room : has_room 3 0 wide ≡ true
first-room = ap (λ n. nat_le (0 + n) 3) wide-cost

second-room : has_room 3 (used_behind 0 wide) wide ≡ false
second-room = ap (λ n. nat_lt (0 + n) 3 && nat_le (0 + n + n) 3) wide-cost

pub wide-fitting_front : (cs : List ℕ) → fitting_front 3 0 (wide ∷ wide ∷ cs) ≡ wide ∷ []
wide-fitting_front cs =
    ap (λ (t : Bool). if t then wide ∷ fitting_front 3 (used_behind 0 wide) (wide ∷ cs) else []) first-room
    ∙ ap (λ (t : Bool). wide ∷ (if t then wide ∷ fitting_front 3 (used_behind (used_behind 0 wide) wide) cs else [])) second-room

pub wide-behind : (cs : List ℕ) → behind_front 3 0 (wide ∷ wide ∷ cs) ≡ wide ∷ cs
wide-behind cs =
    ap (λ (t : Bool). if t then behind_front 3 (used_behind 0 wide) (wide ∷ cs) else wide ∷ wide ∷ cs) first-room
    ∙ ap (λ (t : Bool). if t then behind_front 3 (used_behind (used_behind 0 wide) wide) cs else wide ∷ cs) second-room

-- a line of these pieces, of these characters, of these units
pub line-worked : (width : ℕ) (keep_words : Bool) (line : List ℕ) (ps : List Piece) (cs : List ℕ) (us : List LineUnit) (lines : List (List ℕ)) → pieces line ≡ ps → strip ps ≡ encode_utf8_all cs → scalars cs ≡ true
    → line_units width keep_words cs ≡ us → lines_of_runs unit_len (line_part ps) replacement_bytes width 0 (runs_of width us) ≡ lines → wrapped_lines width keep_words (pieces line) ≡ lines
line-worked width keep_words line ps cs us lines are spelled good units shown =
    ap (wrapped_lines width keep_words) are
    ∙ ap (λ found. lines_of_runs unit_len (line_part ps) replacement_bytes width 0 (runs_of width (line_units width keep_words found))) (ap chars spelled ∙ chars-encodes cs good)
    ∙ ap (λ (found : List LineUnit). lines_of_runs unit_len (line_part ps) replacement_bytes width 0 (runs_of width found)) units ∙ shown

-- a text of one line
pub wraps-worked : (width : ℕ) (keep_words : Bool) (text line wrapped : List ℕ) (ps : List Piece) (lines : List (List ℕ)) → 0 < width → pieces text ≡ ps
    → matches_from (suc (length (strip ps))) (line_feed ∷ []) (strip ps) 0 ≡ [] → styled_parts ps (split_bounds (line_feed ∷ []) (strip ps) []) ≡ line ∷ []
    → wrapped_lines width keep_words (pieces line) ≡ lines → join_with_byte line_feed (lines ++ []) ≡ wrapped → WrapsTo width keep_words text wrapped
wraps-worked width keep_words text line wrapped ps lines some are found parts same_lines joined =
    let of_text : ArePiecesOf text ps = subst (ArePiecesOf text) are (ArePiecesOf-pieces text) in
    let is : IsWrapped width keep_words ps wrapped = is-wrapped width keep_words ps wrapped (line ∷ []) some
    (record { matches = []; are_matches = AreMatches-worked (line_feed ∷ []) (strip ps) [] found; are_parts = sym parts })
    (sym (ap (λ (ls : List (List ℕ)). join_with_byte line_feed (ls ++ [])) same_lines ∙ joined)) in
    record { pieces = ps; of_text = of_text; is_wrapped = is; is_function = sym (wrapped_text-one width keep_words text wrapped ps of_text is) }

-- a cut after these characters
pub cuts-worked : (width : ℕ) (text cut : List ℕ) (ps : List Piece) (cs kept left : List ℕ) → pieces text ≡ ps → strip ps ≡ encode_utf8_all cs → scalars cs ≡ true
    → fitting_front width 0 cs ≡ kept → behind_front width 0 cs ≡ left → cut_bytes width ps kept left ≡ cut → CutsTo width text cut
cuts-worked width text cut ps cs kept left are spelled good kept_are left_are cut_is =
    let found : chars (strip ps) ≡ cs = ap chars spelled ∙ chars-encodes cs good in
    let longest = IsLongestFront-fitting_front width (chars (strip ps)) in
    let of_text : ArePiecesOf text ps = subst (ArePiecesOf text) are (ArePiecesOf-pieces text) in
    let is : IsCutAt width ps cut = (
      fitting_front width 0 (chars (strip ps)),
      behind_front width 0 (chars (strip ps)),
      longest,
      sym (ap (λ (xs : List ℕ). cut_bytes width ps xs (behind_front width 0 (chars (strip ps)))) (ap (fitting_front width 0) found ∙ kept_are)
          ∙ ap (λ (xs : List ℕ). cut_bytes width ps kept xs) (ap (behind_front width 0) found ∙ left_are) ∙ cut_is),
    ) in
    record { pieces = ps; of_text = of_text; is_cut = is; is_function = sym (cut_at-one width text cut ps of_text is) }
