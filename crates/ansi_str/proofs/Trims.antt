-- Prefixes, suffixes and white space, taken away from a text.
use Rattle.std.proofs.Common.{◌≡◌, ℕ, ◌+◌, ◌-◌, ◌≤◌, nat_le, Bool, true, false, List, ◌++◌, length, take, drop, Result, Ok, Err, refl, ap, sym, subst, ◌∙◌, arith, length-append}
use Rattle.std.specs.Prelude.{slice_range}
use Rattle.std.proofs.Math.Seq.{drop-append_seam, take-append_seam}
use Rattle.std.specs.Char.{is_not_whitespace}
use Rattle.std.specs.Str.{IsUtf8, IsCharBoundary, IsTrimStart, IsTrimEnd, NoCharPasses, trim, trim_start, trim_end}
use Rattle.std.proofs.lemmas.Bool.Decides.{nat_tests}
use Rattle.std.proofs.lemmas.List.{length-drop, length-take, drop_all, take_all, drop-drop, take-append-drop}
use Rattle.std.proofs.lemmas.Str.{IsCharBoundary-start, IsCharBoundary-from_drop, IsCharBoundary-from_take, IsCharBoundary-from_rest}
use Rattle.std.specs.Prelude.{IfOk}
use Rattle.std.specs.Cow.{cow_str_bytes}
use Rattle.std.specs.declared.borrow.CowStr.{CowStr}
use Rattle.ansi_scan.specs.Sequences.{Piece, ArePiecesOf}
use Rattle.ansi_scan.specs.Pieces.{pieces}
use Rattle.ansi_str.specs.StyledText.{strip}
use Rattle.ansi_str.specs.Searches.{BeginsWith}
use Rattle.ansi_str.specs.Keeping.{IsTrimmed, IsTrimmedAt, kept}
use Rattle.ansi_str_search.proofs.Searches.{of_pieces}
use Rattle.ansi_str_search.proofs.FirstMatch.{Occurs-ends}

-- a text can be cut after a prefix
pub begins-cut : (p text : List ℕ) → IsUtf8 p → IsUtf8 text → BeginsWith p text → IsCharBoundary text (length p)
begins-cut p text utf8 utf8_text begins =
    let none : 0 + length p ≡ length p = omega arith in
    subst (IsCharBoundary text) none
    (Occurs-ends p text 0 utf8 utf8_text (record { behind = begins.0; stands = begins.1; boundary = IsCharBoundary-start text utf8_text }))

-- ---- a text in three parts

module _ (text before left behind : List ℕ) (parted : text ≡ before ++ (left ++ behind)) where
  abbrev a : ℕ
  a = length before

  abbrev b : ℕ
  b = length before + length left

  pub drop_before : drop a text ≡ left ++ behind
  drop_before = ap (drop a) parted ∙ drop-append_seam before (left ++ behind)

  pub take_before : take a text ≡ before
  take_before = ap (take a) parted ∙ take-append_seam before (left ++ behind)

  pub drop_both : drop b text ≡ behind
  drop_both = sym (drop-drop (length left) a text) ∙ ap (drop (length left)) drop_before ∙ drop-append_seam left behind

  pub between : slice_range text a b ≡ left
  between =
      let size : b - a ≡ length left = omega arith in
      ap (λ n. take n (drop a text)) size ∙ ap (take (length left)) drop_before ∙ take-append_seam left behind

  pub sizes : length text ≡ length before + (length left + length behind)
  sizes = ap length parted ∙ length-append before (left ++ behind) ∙ ap (λ n. length before + n) (length-append left behind)

-- a trimmed text, by its places
pub record TrimsFromTo (text : List ℕ) (a b : ℕ) : Type 0 where
  pub ordered : a ≤ b
  pub within : b ≤ length text
  pub before : NoCharPasses is_not_whitespace (take a text)
  pub behind : NoCharPasses is_not_whitespace (drop b text)
  pub begins : drop a text ≡ trim_start text
  pub left : slice_range text a b ≡ trim text

pub by_places : (text : List ℕ) (a b : ℕ) → IsTrimmedAt text a b → TrimsFromTo text a b
by_places text a b at =
    let w = at.before in
    let m = trim text in
    let v = at.behind in
    record {
      ordered = omega (arith, at.from, at.to);
      within = omega (arith, at.to, sizes text w m v at.parted);
      before = subst (NoCharPasses is_not_whitespace) (sym (ap (λ n. take n text) at.from ∙ take_before text w m v at.parted)) at.white_before;
      behind = subst (NoCharPasses is_not_whitespace) (sym (ap (λ n. drop n text) at.to ∙ drop_both text w m v at.parted)) at.white_behind;
      begins = ap (λ n. drop n text) at.from ∙ drop_before text w m v at.parted ∙ sym at.started;
      left = ap (λ n. slice_range text n b) at.from ∙ ap (slice_range text (length w)) at.to ∙ between text w m v at.parted;
    }

-- ---- white space

-- n bytes are left out, or all
left_out : (n : ℕ) (xs : List ℕ) (fits : Bool) → nat_le n (length xs) ≡ fits → (drop (length xs - length (drop n xs)) xs ≡ drop n xs) × (take (length xs - length (drop n xs)) xs ≡ take n xs)
left_out n xs true e =
    let fits : n ≤ length xs = grind (arith, nat_tests) in
    let same : length xs - length (drop n xs) ≡ n = omega (arith, fits, length-drop n xs) in
    (ap (λ m. drop m xs) same, ap (λ m. take m xs) same)
left_out n xs false e =
    let long : length xs ≤ n = grind (arith, nat_tests) in
    let all : length xs ≤ length xs - length (drop n xs) = omega (arith, long, length-drop n xs) in
    (drop_all (length xs - length (drop n xs)) xs all ∙ sym (drop_all n xs long), take_all (length xs - length (drop n xs)) xs all ∙ sym (take_all n xs long))

module _ (text left r : List ℕ) (start : IsTrimStart text left) (is_left : left ≡ trim_start text) (end : IsTrimEnd left r) (is_r : r ≡ trim_end left) where
  abbrev from : ℕ
  from = length text - length left

  same_from : from ≡ length text - length (drop start.0 text)
  same_from = ap (λ bytes. length text - length bytes) start.1

  pub left-behind : drop from text ≡ left
  left-behind = ap (λ m. drop m text) same_from ∙ (left_out start.0 text (nat_le start.0 (length text)) refl).0 ∙ sym start.1

  left-before : take from text ≡ take start.0 text
  left-before = ap (λ m. take m text) same_from ∙ (left_out start.0 text (nat_le start.0 (length text)) refl).1

  r_is : take (length r) left ≡ r
  r_is = ap (λ m. take m left) end.4 ∙ sym end.1

  r_fits : from + length r ≤ length text
  r_fits = omega (arith, start.4, end.4, end.5)

  left-parted : left ≡ r ++ drop end.0 left
  left-parted = sym (take-append-drop end.0 left) ∙ ap (λ front. front ++ drop end.0 left) (sym end.1)

  r_is-trim : r ≡ trim text
  r_is-trim = is_r ∙ ap trim_end is_left

  front_size : from ≡ length (take from text)
  front_size = omega (arith, length-take from text, r_fits)

  pub IsTrimmedAt-both : IsTrimmedAt text from (from + length r)
  IsTrimmedAt-both =
      let behind = drop end.0 left in
      let started : left ≡ trim text ++ behind = left-parted ∙ ap (λ front. front ++ behind) r_is-trim in
      record {
        before = take from text;
        behind = behind;
        parted = sym (take-append-drop from text) ∙ ap (λ rest. take from text ++ rest) (left-behind ∙ started);
        started = sym is_left ∙ started;
        white_before = subst (NoCharPasses is_not_whitespace) (sym left-before) start.2;
        white_behind = end.2;
        from = front_size;
        to = omega (arith, front_size, ap length r_is-trim);
      }

  pub from-cut : IsUtf8 left → IsCharBoundary text from
  from-cut utf8 = IsCharBoundary-from_drop text from (omega arith) (subst IsUtf8 (sym left-behind) utf8)

  pub to-cut : IsUtf8 left → IsUtf8 r → IsCharBoundary text (from + length r)
  to-cut utf8 utf8_r =
      IsCharBoundary-from_rest text from (length r) (omega arith) (subst (λ bytes. IsCharBoundary bytes (length r)) (sym left-behind)
      (IsCharBoundary-from_take left (length r) utf8 (omega (arith, end.4, end.5)) (subst IsUtf8 (sym r_is) utf8_r)))

-- ---- the answer, for the pieces of a text

pub all_trimmed : {Z E : Type 0} (text : List ℕ) (a b : ℕ) → IsTrimmedAt (strip (pieces text)) a b → (r : Result (CowStr Z) E) → IfOk r (λ left. cow_str_bytes left ≡ kept a b (pieces text))
    → IfOk r (λ left. (ps : List Piece) → ArePiecesOf text ps → IsTrimmed ps (cow_str_bytes left))
all_trimmed text a b trimmed (Ok left) e = of_pieces (λ ps. IsTrimmed ps (cow_str_bytes left)) text (a, b, trimmed, e)
all_trimmed text a b trimmed (Err fault) e = tt
