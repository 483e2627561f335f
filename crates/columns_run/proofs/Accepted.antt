-- A text that has a table has one without its sequences.
use Rattle.std.proofs.Common.{◌≡◌, ◌≢◌, ◌↔◌, ℕ, true, false, List, [], ◌∷◌, ◌++◌, refl, ap, sym, subst, ◌∙◌}
use Rattle.std.specs.Prelude.{chars}
use Rattle.ansi_scan.specs.declared.items.Kind.{Kind}
use Rattle.ansi_scan.specs.declared.items.Kind.TheVariants.{Text, Sgr, Csi, Osc, Esc, Str, Broken}
use Rattle.ansi_scan.specs.Sequences.{Piece, joined, Stands, EachStands, ArePiecesOf, NoneBroken, IsWhole}
use Rattle.ansi_scan.specs.Pieces.{pieces}
use Rattle.ansi_scan.proofs.Existence.{ArePiecesOf-pieces}
use Rattle.ansi_scan.proofs.Uniqueness.{pieces-ArePiecesOf}
use Rattle.ansi_str.specs.StyledText.{has_escape, strip}
use Rattle.ansi_str_search.proofs.TextLemmas.Stripping.{has_escape-strip, strip-without_escape}
use Rattle.ansi_str_search.proofs.Rests.{no_escape-behind}
use Rattle.columns_asked.specs.DrawnTables.{AskedInRange, too_wide}
use Rattle.columns_run.specs.DrawnTables.{TableInRange, encoded_cells, wide_cell}
use Rattle.columns_run.specs.Rows.{stripped}
use Rattle.columns_run.specs.Run.{HasTable}
use Rattle.columns_run.specs.Wanted.{Wanted}
use Rattle.ansi_str_search.proofs.TextLemmas.Utf8Pieces.{IsUtf8-stripped}

-- a broken piece holds an ESC
not_broken : (kind : Kind) (bytes : List ℕ) (after : List Piece) → Stands kind bytes after → has_escape (bytes ++ joined after) ≡ false → kind ≢ Broken
not_broken Text bytes after stands gone = λ same. cc same
not_broken Sgr bytes after stands gone = λ same. cc same
not_broken Csi bytes after stands gone = λ same. cc same
not_broken Osc bytes after stands gone = λ same. cc same
not_broken Esc bytes after stands gone = λ same. cc same
not_broken Str bytes after stands gone = λ same. cc same
not_broken Broken bytes after stands gone =
    let found : true ≡ false = ap (λ bs. has_escape (bs ++ joined after)) (sym stands.spelled) ∙ gone in
    λ same. cc found

none_broken : (ps : List Piece) → EachStands ps → has_escape (joined ps) ≡ false → NoneBroken ps
none_broken [] each gone = tt
none_broken (p ∷ ps) each gone = (
  not_broken p.kind p.bytes ps each.0 gone,
  none_broken ps each.1 (no_escape-behind (joined (p ∷ ps)) p.bytes (joined ps) refl gone),
)

IsWhole-plain : (text : List ℕ) → has_escape text ≡ false → IsWhole text
IsWhole-plain text gone =
    let are = ArePiecesOf-pieces text in
    record { pieces = pieces text; of_text = are; none_broken = none_broken (pieces text) are.stand (ap has_escape are.joins ∙ gone) }

-- what is stripped twice is what is stripped once
stripped-strip : (input : List ℕ) (ps : List Piece) → ArePiecesOf input ps → stripped input ≡ stripped (strip ps)
stripped-strip input ps of_input =
    ap strip (pieces-ArePiecesOf input ps of_input) ∙ sym (strip-without_escape (strip ps) (pieces (strip ps)) (ArePiecesOf-pieces (strip ps)) (has_escape-strip input ps of_input))

pub fits-strip : (wanted : Wanted) (input : List ℕ) (ps : List Piece) → ArePiecesOf input ps → (TableInRange wanted (strip ps) ↔ TableInRange wanted input)
unfolding TableInRange
fits-strip wanted input ps of_input =
    let Fits : List ℕ → Type 0 = λ bytes. AskedInRange wanted.style wanted.limit (encoded_cells (chars bytes)) in
    let same = stripped-strip input ps of_input in
    (λ fits. subst Fits (sym same) fits, λ fits. subst Fits same fits)

pub wide_cell-strip : (wanted : Wanted) (input : List ℕ) (ps : List Piece) → ArePiecesOf input ps → wide_cell wanted (strip ps) ≡ wide_cell wanted input
unfolding wide_cell
wide_cell-strip wanted input ps of_input =
    ap (λ bytes. too_wide wanted.style wanted.limit (encoded_cells (chars bytes))) (sym (stripped-strip input ps of_input))

pub HasTable-strip : (wanted : Wanted) (input : List ℕ) (ps : List Piece) → ArePiecesOf input ps → HasTable wanted input → HasTable wanted (strip ps)
HasTable-strip wanted input ps of_input has = (
  IsUtf8-stripped input ps has.0 of_input,
  IsWhole-plain (strip ps) (has_escape-strip input ps of_input),
  (fits-strip wanted input ps of_input).1 has.2,
  wide_cell-strip wanted input ps of_input ∙ has.3,
)
