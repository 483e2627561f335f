-- What is passed on the way to the end of a cell.
use Rattle.std.proofs.Common.{◌≡◌, ◌≢◌, ℕ, ◌+◌, ◌&&◌, Bool, true, false, List, [], ◌∷◌, ◌++◌, chars, length, take, drop, refl, ap, sym, subst, ◌∙◌, arith, append-nil, append_assoc, length-append}
use Rattle.std.specs.Prelude.{IsTrue}
use Rattle.std.specs.Int.{is_in_range}
use Rattle.std.specs.List.{prefix_len, list_all}
use Rattle.std.proofs.lemmas.Bool.{and_parts}
use Rattle.std.proofs.lemmas.List.{length-take, take-append-drop}
use Rattle.ansi_scan.specs.Sequences.{Piece, NoneBroken, EachStands, joined}
use Rattle.ansi_scan.specs.Joining.{is_text_kind}
use Rattle.ansi_scan.specs.Pieces.{pieces}
use Rattle.ansi_scan.specs.Attributes.{Attributes, IsRendition}
use Rattle.ansi_scan.specs.StartsAndEnds.{start_bytes, end_bytes}
use Rattle.ansi_scan.specs.declared.items.Kind.TheVariants.{Broken}
use Rattle.ansi_scan.proofs.Existence.{ArePiecesOf-pieces}
use Rattle.ansi_scan.proofs.Joins.{list_all-append}
use Rattle.ansi_scan.proofs.Runs.{list_all-take_run}
use Rattle.ansi_scan.proofs.Uniqueness.{pieces-joined}
use Rattle.ansi_str.proofs.CutSteps.{slice-bytes}
use Rattle.ansi_str_search.proofs.Dressed.{Stands-before}
use Rattle.ansi_str_search.proofs.Parts.{text_of-sequence}
use Rattle.ansi_str_search.proofs.Starts.{end-shows, start-shows}
use Rattle.ansi_str_search.proofs.TextLemmas.Stripping.{has_escape-plain}
use Rattle.ansi_str_search.specs.Text.StyledText.{has_escape, strip}
use Rattle.grid_records_measure.specs.Measures.{are_printable, measure}
use Rattle.grid_records_measure.proofs.PrintableWidth.{measure-printable}
use Rattle.papergrid_picture.proofs.Stripped.{Leaves, Leaves-append}
use Rattle.columns_run.specs.Ends.{is_cell_text, EndsPass}
use Rattle.columns_run.specs.Rows.{stripped}
use Rattle.columns_run.specs.Styled.{part_between}
use Rattle.columns_run.proofs.Ends.{run-fits}
use Rattle.columns_run.proofs.Places.{IsWhole-without_escape, stripped-without_escape}
use Rattle.columns_run.proofs.Whole.{pieces-whole, bytes_without_escape}

-- over bytes of a cell
pub Passes-run : (text left : List ℕ) (k : ℕ) (printable : Bool) → k ≡ prefix_len is_cell_text text → left ≡ drop k text → printable ≡ are_printable (take k text) → EndsPass text left k printable
Passes-run text left k printable is_run is_left tested =
    let run = take k text in
    let plain : has_escape run ≡ false =
    has_escape-plain run (bytes_without_escape run (ap (λ n. list_all is_cell_text (take n text)) is_run ∙ list_all-take_run is_cell_text text)) in
    let shown : stripped run ≡ run = stripped-without_escape run plain in
    record {
      slice = run;
      parted = sym (ap (λ bytes. run ++ bytes) is_left ∙ take-append-drop k text);
      none_broken = pieces-whole run (IsWhole-without_escape run plain);
      counted = omega (arith, ap length shown, length-take k text, run-fits text k is_run);
      each = λ is. ap are_printable shown ∙ sym tested ∙ is;
    }

-- over a sequence
pub Passes-sequence : (text behind : List ℕ) (first : Piece) → pieces text ≡ first ∷ pieces behind → is_text_kind first.kind ≡ false → first.kind ≢ Broken → EndsPass text behind 0 true
Passes-sequence text behind first read is_sequence good =
    let stands : EachStands (first ∷ pieces behind) = subst EachStands read (ArePiecesOf-pieces text).stand in
    let one : pieces (joined (first ∷ [])) ≡ first ∷ [] = pieces-joined (first ∷ []) (Stands-before first.kind first.bytes (pieces behind) [] stands.0 good (λ _. tt), tt) in
    let gone : stripped (joined (first ∷ [])) ≡ [] = ap strip one ∙ ap (λ bytes. bytes ++ []) (text_of-sequence first is_sequence) in
    record {
      slice = joined (first ∷ []);
      parted =
          sym (ap (λ bytes. bytes ++ behind) (append-nil first.bytes)
          ∙ ap (λ bytes. first.bytes ++ bytes) (sym (ArePiecesOf-pieces behind).joins) ∙ ap joined (sym read) ∙ (ArePiecesOf-pieces text).joins);
      none_broken = subst NoneBroken (sym one) (good, tt);
      counted = ap length (sym gone);
      each = λ _. ap are_printable gone;
    }

both : (p q : Bool) → IsTrue (p && q) → IsTrue p × IsTrue q
both p q is = and_parts p q is

-- over both, one after the other
pub Passes-then : (text middle end : List ℕ) (m n : ℕ) (p q : Bool) → EndsPass text middle m p → EndsPass middle end n q → EndsPass text end (m + n) (p && q)
Passes-then text middle end m n p q first second =
    let a = first.slice in
    let b = second.slice in
    let leaves = Leaves-append a b (stripped a) (stripped b) (record { whole = first.none_broken; left = refl }) (record { whole = second.none_broken; left = refl }) in
    let counted_first = first.counted in
    let counted_second = second.counted in
    record {
      slice = a ++ b;
      parted = first.parted ∙ ap (λ bytes. a ++ bytes) second.parted ∙ sym (append_assoc a b end);
      none_broken = leaves.whole;
      counted = omega (arith, counted_first, counted_second, ap length leaves.left, length-append (stripped a) (stripped b));
      each = λ is.
          ap are_printable leaves.left
          ∙ list_all-append (is_in_range 0x20 0x7E) (stripped a) (stripped b) (first.each (both p q is).0) (second.each (both p q is).1);
    }

-- over a sequence first
pub Passes-behind : (text behind end : List ℕ) (n : ℕ) (q : Bool) → EndsPass text behind 0 true → EndsPass behind end n q → EndsPass text end n q
Passes-behind text behind end n q first second =
    let same : 0 + n ≡ n = omega arith in
    subst (λ size. EndsPass text end size q) same (Passes-then text behind end 0 n true q first second)

-- a part that shows printable characters takes a column for each
pub measure-passed : (rest end : List ℕ) (style end_style : Attributes) (size : ℕ) (printable : Bool) → IsRendition style → EndsPass rest end size printable → IsTrue printable
    → measure (chars (stripped (part_between rest style end end_style))) ≡ size
measure-passed rest end style end_style size printable rendition passes is =
    let slice = passes.slice in
    let begin = start-shows style (pieces (start_bytes style)) rendition (ArePiecesOf-pieces (start_bytes style)) in
    let finish = end-shows end_style (pieces (end_bytes end_style)) (ArePiecesOf-pieces (end_bytes end_style)) in
    let inner : Leaves (slice ++ end_bytes end_style) (stripped slice ++ []) =
    Leaves-append slice (end_bytes end_style) (stripped slice) [] (record { whole = passes.none_broken; left = refl }) (record { whole = finish.1; left = finish.0 }) in
    let all = Leaves-append (start_bytes style) (slice ++ end_bytes end_style) [] (stripped slice ++ []) (record { whole = begin.1; left = begin.0 }) inner in
    ap (λ bytes. measure (chars (stripped (start_bytes style ++ (bytes ++ end_bytes end_style))))) (slice-bytes rest slice end passes.parted)
    ∙ ap (λ shown. measure (chars shown)) (all.left ∙ append-nil (stripped slice))
    ∙ measure-printable (stripped slice) (passes.each is)
    ∙ sym passes.counted
