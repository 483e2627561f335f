-- A table's text with a line feed after its last line is all its lines, each with a line feed after it.
use Rattle.std.proofs.Common.{◌≡◌, ◌==◌, ℕ, zero, suc, Bool, true, List, [], ◌∷◌, ◌++◌, map, refl, ap, sym, ◌∙◌, arith, append_assoc, if◌then◌else◌}
use Rattle.std.specs.Prelude.{flat_map}
use Rattle.std.specs.List.{filter, join_with_byte, range_with_len}
use Rattle.ansi_scan.proofs.Comparing.{not_zero}
use Rattle.grid_records_measure.specs.TextLines.{line_feed}
use Rattle.papergrid_picture.proofs.Joins.{table_text-joined}
use Rattle.tabled.specs.Writing.{chosen_lines, ended_text}
use Rattle.tabled_steps.specs.States.{State}
use Rattle.tabled_list.specs.Stripping.Printing.{drawn_heights, drawn_widths}
use Rattle.tabled_list.specs.Stripping.Totals.{drawn_height, drawn_line}
use Rattle.tables_laws.proofs.ShownLemmas.ChosenLines.{chosen-ended, ended, ended-joined}

join-last : (x : List ℕ) (ls : List (List ℕ)) → join_with_byte line_feed ((x ∷ ls) ++ [] ∷ []) ≡ join_with_byte line_feed (x ∷ ls) ++ line_feed ∷ []
join-last x [] = refl
join-last x (l ∷ ls) = ap (λ (bytes : List ℕ). x ++ (line_feed ∷ bytes)) (join-last l ls) ∙ sym (append_assoc x (line_feed ∷ join_with_byte line_feed (l ∷ ls)) (line_feed ∷ []))

all-filtered : (ys : List ℕ) → filter (λ _. true) ys ≡ ys
all-filtered [] = refl
all-filtered (y ∷ ys) = ap (λ others. y ∷ others) (all-filtered ys)

ended-lines : (line : ℕ → List ℕ) (n : ℕ)
    → join_with_byte line_feed (map line (range_with_len 0 n)) ++ (if n == 0 then [] else line_feed ∷ []) ≡ flat_map (ended line) (range_with_len 0 n)
ended-lines line zero = refl
ended-lines line (suc n) =
    let lines = map line (range_with_len 1 n) in
    ap (λ (b : Bool). join_with_byte line_feed (line 0 ∷ lines) ++ (if b then [] else line_feed ∷ [])) (not_zero (suc n) (omega arith))
    ∙ sym (join-last (line 0) lines)
    ∙ sym (ended-joined line (range_with_len 0 (suc n)))

pub ended-chosen : (s : State) → ended_text s ≡ chosen_lines (λ _. true) s
ended-chosen s =
    let n = drawn_height s in
    ap (λ (text : List ℕ). text ++ (if n == 0 then [] else line_feed ∷ [])) (table_text-joined s.look s.rows s.colors (drawn_widths s) (drawn_heights s))
    ∙ ended-lines (drawn_line s) n
    ∙ ap (flat_map (ended (drawn_line s))) (sym (all-filtered (range_with_len 0 n)))
    ∙ sym (chosen-ended s (λ _. true))
