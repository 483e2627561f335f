-- Printable ASCII takes a column a byte.
use Rattle.std.proofs.Common.{◌≡◌, ℕ, ◌+◌, ◌<◌, ◌≤◌, zero, suc, true, false, List, [], ◌∷◌, ◌++◌, length, get_or, refl, ap, sym, ◌∙◌, arith, append_assoc, append-nil, length-append}
use Rattle.std.specs.Prelude.{◌&&◌, chars}
use Rattle.std.specs.Int.{is_in_range}
use Rattle.std.proofs.lemmas.Bool.{and_parts}
use Rattle.std.proofs.lemmas.List.Folds.{list_all-append as list_all-both}
use Rattle.std.proofs.lemmas.Bool.Decides.{nat_tests}
use Rattle.std.proofs.lemmas.Str.{chars-IsAscii}
use Rattle.unicode_width.proofs.Rules.{str_width-printable}
use Rattle.ansi_scan.specs.Pieces.{pieces}
use Rattle.ansi_scan.proofs.Existence.{ArePiecesOf-pieces}
use Rattle.ansi_scan.proofs.Joins.{list_all-append}
use Rattle.ansi_str_search.specs.Text.StyledText.{strip}
use Rattle.ansi_str_search.proofs.TextLemmas.ShownCharacters.{length-strip}
use Rattle.grid_records_measure.specs.Measures.{are_printable, measure}

in_range-ascii : (b : ℕ) → is_in_range 0x20 0x7E b ≡ true → b < 128
in_range-ascii b h = grind (arith, nat_tests)

pub printable-ascii : (bytes : List ℕ) → are_printable bytes ≡ true → (i : ℕ) → get_or bytes i 0 < 128
printable-ascii [] h i = omega arith
printable-ascii (b ∷ bs) h zero = in_range-ascii b (and_parts (is_in_range 0x20 0x7E b) (are_printable bs) h).0
printable-ascii (b ∷ bs) h (suc i) = printable-ascii bs (and_parts (is_in_range 0x20 0x7E b) (are_printable bs) h).1 i

-- printable ASCII takes a column a byte
pub measure-printable : (bytes : List ℕ) → are_printable bytes ≡ true → measure (chars bytes) ≡ length bytes
measure-printable bytes h = ap measure (chars-IsAscii bytes (printable-ascii bytes h)) ∙ str_width-printable false bytes h

-- ---- item by item

-- so many bytes of what a text shows are passed, all of them printable, and this is left
pub record IsPassed (width : ℕ) (rest text : List ℕ) : Type 0 where
  pub passed : List ℕ
  pub shows : strip (pieces text) ≡ passed ++ strip (pieces rest)
  pub printable : are_printable passed ≡ true
  pub counted : width ≡ length passed

pub IsPassed-start : (text : List ℕ) → IsPassed 0 text text
IsPassed-start text = record { passed = []; shows = refl; printable = refl; counted = refl }

-- an item of text
pub IsPassed-text : (width : ℕ) (rest text bytes behind : List ℕ) → IsPassed width rest text → strip (pieces rest) ≡ bytes ++ strip (pieces behind) → are_printable bytes ≡ true → IsPassed (width + length bytes) behind text
IsPassed-text width rest text bytes behind is shows printable = record {
  passed = is.passed ++ bytes;
  shows = is.shows ∙ ap (λ bs. is.passed ++ bs) shows ∙ sym (append_assoc is.passed bytes (strip (pieces behind)));
  printable = list_all-append (is_in_range 0x20 0x7E) is.passed bytes is.printable printable;
  counted = (let sum : width + length bytes ≡ length (is.passed ++ bytes) = omega (arith, is.counted, length-append is.passed bytes) in sum);
}

-- an item of text that has something else
pub not-printable : (width : ℕ) (rest text bytes behind : List ℕ) → IsPassed width rest text → strip (pieces rest) ≡ bytes ++ strip (pieces behind) → are_printable bytes ≡ false → are_printable (strip (pieces text)) ≡ false
not-printable width rest text bytes behind is shows other =
    let left = strip (pieces behind) in
    ap are_printable (is.shows ∙ ap (λ bs. is.passed ++ bs) shows)
    ∙ list_all-both (is_in_range 0x20 0x7E) is.passed (bytes ++ left)
    ∙ ap (λ b. b && are_printable (bytes ++ left)) is.printable
    ∙ list_all-both (is_in_range 0x20 0x7E) bytes left
    ∙ ap (λ b. b && are_printable left) other

-- any other item
pub IsPassed-other : (width : ℕ) (rest text behind : List ℕ) → IsPassed width rest text → strip (pieces rest) ≡ strip (pieces behind) → IsPassed width behind text
IsPassed-other width rest text behind is shows = record { passed = is.passed; shows = is.shows ∙ ap (λ bs. is.passed ++ bs) shows; printable = is.printable; counted = is.counted }

-- at the end
pub IsPassed-end : (width : ℕ) (rest text : List ℕ) → IsPassed width rest text → strip (pieces rest) ≡ [] → width ≡ measure (chars (strip (pieces text)))
IsPassed-end width rest text is none =
    let all : strip (pieces text) ≡ is.passed = is.shows ∙ ap (λ bs. is.passed ++ bs) none ∙ append-nil is.passed in
    is.counted ∙ sym (ap (λ bs. measure (chars bs)) all ∙ measure-printable is.passed is.printable)

-- no more bytes are passed than the text has
pub IsPassed-fits : (width : ℕ) (rest text bytes behind : List ℕ) → IsPassed width rest text → strip (pieces rest) ≡ bytes ++ strip (pieces behind) → width + length bytes ≤ length text
IsPassed-fits width rest text bytes behind is shows =
    omega (
      arith,
      is.counted,
      ap length is.shows,
      length-append is.passed (strip (pieces rest)),
      ap length shows,
      length-append bytes (strip (pieces behind)),
      length-strip (pieces text),
      ap length (ArePiecesOf-pieces text).joins,
    )
