-- The lines of a text, wrapped one after the other.
use Rattle.std.proofs.Common.{◌≡◌, ◌<◌, ℕ, zero, suc, Bool, true, false, List, [], ◌∷◌, ◌++◌, length, map, flat_map, length-append, if◌then◌else◌, refl, ap, sym, subst, ◌∙◌, arith, append_assoc, append-nil}
use Rattle.std.specs.Prelude.{chars, Ok, Result, Some}
use Rattle.std.specs.declared.borrow.CowStr.{CowStr}
use Rattle.std.specs.Cow.{cow_str_bytes}
use Rattle.ansi_str.specs.Splitting.{GivesPart, PartsLeft}
use Rattle.std.specs.List.{AllZip, join_with_byte}
use Rattle.std.proofs.lemmas.Str.{chars-nil}
use Rattle.ansi_scan.specs.Sequences.{Piece}
use Rattle.ansi_scan.specs.Pieces.{pieces}
use Rattle.ansi_str.specs.StyledText.{strip}
use Rattle.grid_records_measure.specs.TextLines.{AreLinesOf, line_feed}
use Rattle.tabled_size_wrap.specs.Units.{line_units, unit_len}
use Rattle.tabled_size_wrap.specs.Wrapping.{line_part, replacement_bytes, lines_of_runs, AreWrappedLines, IsWrapped}
use Rattle.tabled_size_wrap.specs.Runs.{runs_of, wrapped_lines}
use Rattle.tabled_size_wrap.proofs.Runs.{some-runs, some-shown, join-cons}
use Rattle.tabled_size_wrap.proofs.Longest.{runs-are, runs-one}
use Rattle.grid_records_measure.proofs.LinesAndBlocks.{lines-there, lines-unique}

pub no-bytes : (bytes : List ℕ) → length bytes ≡ 0 → bytes ≡ []
no-bytes [] none = refl
no-bytes (b ∷ bs) none = absurd (omega (arith, none))

no-units : (width : ℕ) (keep_words : Bool) → line_units width keep_words [] ≡ []
no-units width true = refl
no-units width false = refl

-- a line that shows no text is one part
pub wrapped_lines-nothing : (width : ℕ) (keep_words : Bool) (line : List Piece) → strip line ≡ [] → join_with_byte line_feed (wrapped_lines width keep_words line) ≡ line_part line 0 0
wrapped_lines-nothing width keep_words line none =
    let lines : List ℕ → List ℕ = λ cs. join_with_byte line_feed (lines_of_runs unit_len (line_part line) replacement_bytes width 0 (runs_of width (line_units width keep_words cs))) in
    ap lines (ap chars none ∙ chars-nil)
    ∙ ap (λ us. join_with_byte line_feed (lines_of_runs unit_len (line_part line) replacement_bytes width 0 (runs_of width us))) (no-units width keep_words)

-- ---- line by line

module _ (width : ℕ) (keep_words : Bool) where
  abbrev wrapped_one : List ℕ → List (List ℕ)
  wrapped_one line = wrapped_lines width keep_words (pieces line)

  -- what is still to be written of the lines that are left; after others a line feed comes first
  abbrev pub lines_left : Bool → List (List ℕ) → List ℕ
  lines_left false lines = join_with_byte line_feed (flat_map wrapped_one lines)
  lines_left true lines = flat_map (λ line. line_feed ∷ join_with_byte line_feed (wrapped_one line)) lines

  some-wrapped : (line : List ℕ) → 0 < length (wrapped_one line)
  some-wrapped line = some-shown (line_part (pieces line)) replacement_bytes width 0 (runs_of width (line_units width keep_words (chars (strip (pieces line))))) (some-runs width 0 (line_units width keep_words (chars (strip (pieces line)))))

  join-both : (xs ys : List (List ℕ)) → 0 < length xs → 0 < length ys → join_with_byte line_feed (xs ++ ys) ≡ join_with_byte line_feed xs ++ line_feed ∷ join_with_byte line_feed ys
  join-both [] ys some more = absurd (omega (arith, some))
  join-both (x ∷ []) ys some more = join-cons line_feed x ys more
  join-both (x ∷ y ∷ xs) ys some more =
      let others : 0 < length (y ∷ xs) = omega arith in
      ap (λ (bytes : List ℕ). x ++ line_feed ∷ bytes) (join-both (y ∷ xs) ys others more)
      ∙ sym (append_assoc x (line_feed ∷ join_with_byte line_feed (y ∷ xs)) (line_feed ∷ join_with_byte line_feed ys))

  first-line : (lines : List (List ℕ)) (line : List ℕ) → join_with_byte line_feed (flat_map wrapped_one (line ∷ lines)) ≡ join_with_byte line_feed (wrapped_one line) ++ lines_left true lines
  first-line [] line = ap (join_with_byte line_feed) (append-nil (wrapped_one line)) ∙ sym (append-nil (join_with_byte line_feed (wrapped_one line)))
  first-line (next ∷ lines) line =
      let others : 0 < length (flat_map wrapped_one (next ∷ lines)) = omega (arith, some-wrapped next, length-append (wrapped_one next) (flat_map wrapped_one lines)) in
      join-both (wrapped_one line) (flat_map wrapped_one (next ∷ lines)) (some-wrapped line) others
      ∙ ap (λ (bytes : List ℕ). join_with_byte line_feed (wrapped_one line) ++ line_feed ∷ bytes) (first-line lines next)

  -- a line more, after the line feed where others came before it
  pub line-more : (begun : Bool) (out fed written line : List ℕ) (lines : List (List ℕ)) (all : List ℕ) → fed ≡ out ++ (if begun then line_feed ∷ [] else [])
      → written ≡ fed ++ join_with_byte line_feed (wrapped_one line) → out ++ lines_left begun (line ∷ lines) ≡ all → written ++ lines_left true lines ≡ all
  line-more true out fed written line lines all a b so-far =
      ap (λ (bytes : List ℕ). bytes ++ lines_left true lines) (b ∙ ap (λ (bytes : List ℕ). bytes ++ join_with_byte line_feed (wrapped_one line)) a)
      ∙ append_assoc (out ++ line_feed ∷ []) (join_with_byte line_feed (wrapped_one line)) (lines_left true lines)
      ∙ append_assoc out (line_feed ∷ []) (join_with_byte line_feed (wrapped_one line) ++ lines_left true lines)
      ∙ so-far
  line-more false out fed written line lines all a b so-far =
      ap (λ (bytes : List ℕ). bytes ++ lines_left true lines) (b ∙ ap (λ (bytes : List ℕ). bytes ++ join_with_byte line_feed (wrapped_one line)) (a ∙ append-nil out))
      ∙ append_assoc out (join_with_byte line_feed (wrapped_one line)) (lines_left true lines)
      ∙ ap (λ (bytes : List ℕ). out ++ bytes) (sym (first-line lines line))
      ∙ so-far

  pub line-last : (begun : Bool) (out all : List ℕ) (lines : List (List ℕ)) → lines ≡ [] → out ++ lines_left begun lines ≡ all → out ≡ all
  line-last true out all lines none so-far = sym (append-nil out) ∙ sym (ap (λ (ls : List (List ℕ)). out ++ lines_left true ls) none) ∙ so-far
  line-last false out all lines none so-far = sym (append-nil out) ∙ sym (ap (λ (ls : List (List ℕ)). out ++ lines_left false ls) none) ∙ so-far

  all-wrapped : 0 < width → (lines : List (List ℕ)) → AllZip (λ line others. AreWrappedLines width keep_words (pieces line) others) lines (map wrapped_one lines)
  all-wrapped some [] = tt
  all-wrapped some (line ∷ lines) =
      let units = line_units width keep_words (chars (strip (pieces line))) in
      ((runs_of width units, runs-are width some units, refl), all-wrapped some lines)

  flat-wrapped : (lines : List (List ℕ)) → flat_map (λ others. others) (map wrapped_one lines) ≡ flat_map wrapped_one lines
  flat-wrapped [] = refl
  flat-wrapped (line ∷ lines) = ap (λ (others : List (List ℕ)). wrapped_one line ++ others) (flat-wrapped lines)

pub is-wrapped : (width : ℕ) (keep_words : Bool) (ps : List Piece) (bytes : List ℕ) (lines : List (List ℕ)) → 0 < width → AreLinesOf ps lines
    → bytes ≡ join_with_byte line_feed (flat_map (wrapped_one width keep_words) lines) → IsWrapped width keep_words ps bytes
is-wrapped zero keep_words ps bytes lines some are same = absurd (omega (arith, some))
is-wrapped (suc n) keep_words ps bytes lines some are same =
    (lines, map (wrapped_one (suc n) keep_words) lines, are, all-wrapped (suc n) keep_words some lines, same ∙ sym (ap (join_with_byte line_feed) (flat-wrapped (suc n) keep_words lines)))

pub wrapped-nothing : (width : ℕ) (keep_words : Bool) (ps : List Piece) (bytes : List ℕ) → width ≡ 0 → bytes ≡ [] → IsWrapped width keep_words ps bytes
wrapped-nothing zero keep_words ps bytes zero-width none = none
wrapped-nothing (suc n) keep_words ps bytes zero-width none = absurd (omega (arith, zero-width))

-- ---- the lines that `get_lines` gives

pub next-line : {E Z : Type 0} (old new : PartsLeft) (answer : Result (CowStr Z) E) (part : CowStr Z) → GivesPart old (Some answer) new → answer ≡ Ok part → old.parts ≡ cow_str_bytes part ∷ new.parts
next-line {E} {Z} old new answer part gives was =
    let step = subst (λ v. GivesPart {E = E} {Z = Z} old (Some v) new) was gives in
    step.1.0

-- ---- there is one text

pub wrapped-there : (width : ℕ) (keep_words : Bool) (ps : List Piece) → (bytes : List ℕ) × IsWrapped width keep_words ps bytes
wrapped-there zero keep_words ps = ([], refl)
wrapped-there (suc n) keep_words ps =
    let found = lines-there ps in (
      join_with_byte line_feed (flat_map (wrapped_one (suc n) keep_words) found.0),
      is-wrapped (suc n) keep_words ps (join_with_byte line_feed (flat_map (wrapped_one (suc n) keep_words) found.0)) found.0 (omega arith) found.1 refl,
    )

wrapped_lines-one : (width : ℕ) (keep_words : Bool) (line : List Piece) (lines others : List (List ℕ)) → AreWrappedLines width keep_words line lines → AreWrappedLines width keep_words line others → lines ≡ others
wrapped_lines-one width keep_words line lines others a b =
    let same = runs-one width (line_units width keep_words (chars (strip line))) a.0 b.0 a.1 b.1 in
    a.2 ∙ ap (lines_of_runs unit_len (line_part line) replacement_bytes width 0) same ∙ sym b.2

all-one : (width : ℕ) (keep_words : Bool) (lines : List (List ℕ)) (xs ys : List (List (List ℕ))) → AllZip (λ line others. AreWrappedLines width keep_words (pieces line) others) lines xs
    → AllZip (λ line others. AreWrappedLines width keep_words (pieces line) others) lines ys → xs ≡ ys
all-one width keep_words [] [] [] a b = refl
all-one width keep_words [] [] (y ∷ ys) a b = absurd b
all-one width keep_words [] (x ∷ xs) ys a b = absurd a
all-one width keep_words (line ∷ lines) [] ys a b = absurd a
all-one width keep_words (line ∷ lines) (x ∷ xs) [] a b = absurd b
all-one width keep_words (line ∷ lines) (x ∷ xs) (y ∷ ys) a b =
    ap (λ (first : List (List ℕ)). first ∷ xs) (wrapped_lines-one width keep_words (pieces line) x y a.0 b.0)
    ∙ ap (λ (rest : List (List (List ℕ))). y ∷ rest) (all-one width keep_words lines xs ys a.1 b.1)

pub wrapped-one : (width : ℕ) (keep_words : Bool) (ps : List Piece) (bytes others : List ℕ) → IsWrapped width keep_words ps bytes → IsWrapped width keep_words ps others → bytes ≡ others
wrapped-one zero keep_words ps bytes others a b = a ∙ sym b
wrapped-one (suc n) keep_words ps bytes others a b =
    let lines = lines-unique ps a.0 b.0 a.2 b.2 in
    let here = subst (λ ls. AllZip (λ line found. AreWrappedLines (suc n) keep_words (pieces line) found) ls a.1) lines a.3 in
    a.4 ∙ ap (λ (found : List (List (List ℕ))). join_with_byte line_feed (flat_map (λ ls. ls) found)) (all-one (suc n) keep_words b.0 a.1 b.1 here b.3) ∙ sym b.4
