-- What is found in bytes that have the first line whole is found in each text that begins with them.
use Rattle.std.proofs.Common.{◌≡◌, ◌∙◌, ◌⊎◌, ◌+◌, ◌-◌, ◌<◌, ◌==◌, ◌&&◌, ◌||◌, ◌≤◌, inl, inr, ℕ, Bool, false, true, cond, List, [], ◌∷◌, ◌++◌, ap, ap₂, arith, eqb-true, if◌then◌else◌, length, length-append, nat_lt, not, refl, slice_index, subst, sym, take}
use Rattle.std.specs.Prelude.{Option, None, Some, max}
use Rattle.std.specs.List.{filter, list_any, prefix_len}
use Rattle.std.proofs.lemmas.Bool.{and_parts, cases_lt, false≢true, or_cases}
use Rattle.std.proofs.lemmas.List.{get_or_append_left, take_all}
use Rattle.std.proofs.lemmas.List.Elements.{filter-append}
use Rattle.std.proofs.lemmas.List.Sums.{fold-append}
use Rattle.std.proofs.Math.Seq.{take-append-add}
use Rattle.ansi_scan.specs.Sequences.{escape}
use Rattle.ansi_scan.specs.Styles.Rendition.{is_numeric}
use Rattle.basinmug_delimiter.specs.Bytes.{carriage_return, is_candidate, is_line_end, line_feed, quote}
use Rattle.basinmug_delimiter.specs.Choosing.{chosen, delimiter_in}
use Rattle.basinmug_delimiter.specs.Counting.{counts_of, is_byte, is_comma, plus}
use Rattle.basinmug_delimiter.specs.Finding.{found_by, found_in, unnamed_delimiter}
use Rattle.basinmug_delimiter.specs.FirstLines.{HasFirstLine}
use Rattle.basinmug_delimiter.specs.Preamble.{begins_naming, text_after_mark, can_delimit, ends_line, is_mark, named_delimiter}
use Rattle.basinmug_delimiter.specs.Names.{means_tab}
use Rattle.basinmug_delimiter.specs.Places.{covered_at, outside_at, outside_from, outside_of, is_counted}
use Rattle.basinmug_delimiter.specs.Sequences.{len_after_opener, opens, rendition_len}
use Rattle.basinmug_delimiter.specs.States.{next_state, next_unquoted, is_ended, is_quoted, state_after}
use Rattle.basinmug_delimiter.proofs.FirstLines.{mark-more}
use Rattle.basinmug_delimiter.proofs.Walks.{ended-only, none-after, none-plus, stays-ended}
use Rattle.basinmug_delimiter.specs.declared.counts.Counts.{Counts}
use Rattle.basinmug_delimiter.specs.declared.places.Place.{Place}
use Rattle.basinmug_delimiter.specs.declared.state.State.{State}
use Rattle.basinmug_delimiter.specs.declared.state.State.TheVariants.{Before, FieldStart, Field, Quoted, AfterQuote, Ended}

-- ---- line ends

ends-are : (b : ℕ) → is_line_end b ≡ true → (b ≡ carriage_return) ⊎ (b ≡ line_feed)
ends-are b is = elim (or_cases (b == carriage_return) (b == line_feed) is) [
  | inl first ↦ inl (eqb-true b carriage_return first)
  | inr second ↦ inr (eqb-true b line_feed second)
]

-- what holds of both holds of each
of-ends : (P : ℕ → Type 0) (b : ℕ) → is_line_end b ≡ true → P 0x0d → P 0x0a → P b
of-ends P b is first second = elim (ends-are b is) [
  | inl same ↦ subst P (sym same) first
  | inr same ↦ subst P (sym same) second
]

numeric-no-end : (b : ℕ) → is_numeric b ≡ true → is_line_end b ≡ false
numeric-no-end b numeric =
    elim (is_line_end b) as (λ (ends : Bool). is_line_end b ≡ ends → ends ≡ false) [
      | true ↦ λ is. absurd (of-ends (λ b. is_numeric b ≡ true → ⊥) b is (λ e. false≢true e) (λ e. false≢true e) numeric)
      | false ↦ λ is. refl
    ] refl

-- one of them is after the first
behind-other : (first others : Bool) → first ≡ false → first || others ≡ true → others ≡ true
behind-other true others other some = absurd (false≢true (sym other))
behind-other false others other some = some

-- ---- the line is open until one comes

open-outside : (opens_here : Bool) (b : ℕ) → is_line_end b ≡ false → is_ended (next_unquoted opens_here b) ≡ false
open-outside opens_here b other =
    ap (λ (ends : Bool). is_ended (if ends then Ended else (if opens_here && (b == quote) then Quoted else (if is_candidate b then FieldStart else Field)))) other
    ∙ (elim (opens_here && (b == quote)) as (λ (quoted : Bool). is_ended (if quoted then Quoted else (if is_candidate b then FieldStart else Field)) ≡ false) [
      | true ↦ refl
      | false ↦ elim (is_candidate b) as (λ (candidate : Bool). is_ended (if candidate then FieldStart else Field) ≡ false) [
        | true ↦ refl
        | false ↦ refl
      ]
    ])

open-behind : (s : State) (b : ℕ) → is_ended s ≡ false → is_line_end b ≡ false → is_ended (next_state true s b) ≡ false
open-behind Before b before_end other = ap (λ (ends : Bool). is_ended (if ends then Before else next_unquoted true b)) other ∙ open-outside true b other
open-behind FieldStart b before_end other = open-outside true b other
open-behind Field b before_end other = open-outside false b other
open-behind Quoted b before_end other =
    elim (b == quote) as (λ (closes : Bool). is_ended (if closes then AfterQuote else Quoted) ≡ false) [
      | true ↦ refl
      | false ↦ refl
    ]
open-behind AfterQuote b before_end other =
    elim (b == quote) as (λ (again : Bool). is_ended (if again then Quoted else next_unquoted false b) ≡ false) [
      | true ↦ refl
      | false ↦ open-outside false b other
    ]
open-behind Ended b before_end other = absurd (false≢true (sym before_end))

has-end : (s : State) (text : List ℕ) → is_ended s ≡ false → is_ended (state_after true s text) ≡ true → list_any is_line_end text ≡ true
has-end s [] before_end ended = absurd (false≢true (sym before_end ∙ ended))
has-end s (b ∷ rest) before_end ended =
    elim (is_line_end b) as (λ (ends : Bool). is_line_end b ≡ ends → ends || list_any is_line_end rest ≡ true) [
      | true ↦ λ is. refl
      | false ↦ λ other. has-end (next_state true s b) rest (open-behind s b before_end other) ended
    ] refl

-- ---- sequences go over no line end

numeric-more : (xs ys : List ℕ) → list_any is_line_end xs ≡ true → (prefix_len is_numeric (xs ++ ys) ≡ prefix_len is_numeric xs) × (prefix_len is_numeric xs < length xs)
numeric-more [] ys none = absurd (false≢true none)
numeric-more (x ∷ xs) ys some =
    elim (is_numeric x) as
    (λ (numeric : Bool). is_numeric x ≡ numeric → (cond numeric (1 + prefix_len is_numeric (xs ++ ys)) 0 ≡ cond numeric (1 + prefix_len is_numeric xs) 0) × (cond numeric (1 + prefix_len is_numeric xs) 0 < length (x ∷ xs))) [
      | true ↦
          λ is.
          let more = numeric-more xs ys (behind-other (is_line_end x) (list_any is_line_end xs) (numeric-no-end x is) some) in
          let below = more.1 in
          (ap (λ (n : ℕ). 1 + n) more.0, omega (arith, below))
      | false ↦ λ is. (refl, omega arith)
    ] refl

opener-more : (xs ys : List ℕ) → list_any is_line_end xs ≡ true → len_after_opener (xs ++ ys) ≡ len_after_opener xs
opener-more xs ys some =
    let more = numeric-more xs ys some in
    let n = prefix_len is_numeric xs in
    ap (λ (k : ℕ). if slice_index (xs ++ ys) k == 0x6d then k + 3 else 0) more.0
    ∙ ap (λ (byte : ℕ). if byte == 0x6d then n + 3 else 0) (get_or_append_left xs ys 0 n more.1)

rendition-more : (b : ℕ) (text rest : List ℕ) → list_any is_line_end text ≡ true → rendition_len (b ∷ (text ++ rest)) ≡ rendition_len (b ∷ text)
rendition-more b [] rest none = absurd (false≢true none)
rendition-more b (c ∷ text) rest some =
    elim (opens b c) as (λ (opener : Bool). opens b c ≡ opener → (if opener then len_after_opener (text ++ rest) else 0) ≡ (if opener then len_after_opener text else 0)) [
      | true ↦
          λ is.
          let second : c ≡ 0x5b = eqb-true c 0x5b (and_parts (b == escape) (c == 0x5b) is).1 in
          let other : is_line_end c ≡ false = ap is_line_end second in
          opener-more text rest (behind-other (is_line_end c) (list_any is_line_end text) other some)
      | false ↦ λ is. refl
    ] refl

end-no-rendition : (b : ℕ) (xs : List ℕ) → is_line_end b ≡ true → rendition_len (b ∷ xs) ≡ 0
end-no-rendition b [] is = refl
end-no-rendition b (c ∷ xs) is = of-ends (λ b. rendition_len (b ∷ c ∷ xs) ≡ 0) b is refl refl

-- ---- counts

counts-append : (xs ys : List Place) → counts_of (xs ++ ys) ≡ plus (counts_of xs) (counts_of ys)
counts-append xs ys = λ i. record {
  tabs = counted (is_byte 0x09) i;
  commas = counted is_comma i;
  semicolons = counted (is_byte 0x3b) i;
  bars = counted (is_byte 0x7c) i;
}
  where
    counted : (p : Place → Bool) → length (filter p (xs ++ ys)) ≡ length (filter p xs) + length (filter p ys)
    counted p = ap length (filter-append p xs ys) ∙ length-append (filter p xs) (filter p ys)

end-counts-none : (stand : State) (covered before b after : ℕ) → is_line_end b ≡ true → counts_of (outside_at stand covered (record { before = before; here = b; after = after })) ≡ counts_of []
end-counts-none stand covered before b after is =
    elim (is_counted stand covered) as (λ (outside : Bool). counts_of (if outside then record { before = before; here = b; after = after } ∷ [] else []) ≡ counts_of []) [
      | true ↦ of-ends (λ b. counts_of (record { before = before; here = b; after = after } ∷ []) ≡ counts_of []) b is refl refl
      | false ↦ refl
    ]

first-more : (text rest : List ℕ) → list_any is_line_end text ≡ true → slice_index (text ++ rest) 0 ≡ slice_index text 0
first-more [] rest none = absurd (false≢true none)
first-more (c ∷ text) rest some = refl

module _ (rest : List ℕ) where
  counts-more : (s : State) (covered before : ℕ) (text : List ℕ) → is_ended s ≡ false → is_ended (state_after true s text) ≡ true
      → counts_of (outside_from true s covered before (text ++ rest)) ≡ counts_of (outside_from true s covered before text)
  counts-more s covered before [] before_end ended = absurd (false≢true (sym before_end ∙ ended))
  counts-more s covered before (b ∷ text) before_end ended =
      let next = next_state true s b in
      let place : ℕ → Place = λ after. record { before = before; here = b; after = after } in
      let from : ℕ → ℕ → List ℕ → Counts = λ cover after bytes. counts_of (outside_at s cover (place after) ++ outside_from true next (cover - 1) b bytes) in
      elim (is_line_end b) as (λ (ends : Bool). is_line_end b ≡ ends →
      counts_of (outside_from true s covered before (b ∷ (text ++ rest))) ≡ counts_of (outside_from true s covered before (b ∷ text))) [
        | false ↦
            λ other.
            let open_next = open-behind s b before_end other in
            let some = has-end next text open_next ended in
            let cover = covered_at covered (b ∷ text) in
            let same_cover : covered_at covered (b ∷ (text ++ rest)) ≡ cover = ap (max covered) (rendition-more b text rest some) in
            let here = outside_at s cover (place (slice_index text 0)) in
            ap₂ (λ (cover after : ℕ). from cover after (text ++ rest)) same_cover (first-more text rest some)
            ∙ (counts-append here (outside_from true next (cover - 1) b (text ++ rest))
            ∙ (ap (plus (counts_of here)) (counts-more next (cover - 1) b text open_next ended)
            ∙ sym (counts-append here (outside_from true next (cover - 1) b text))))
        | true ↦
            λ is.
            let cover = max covered 0 in
            let alone = λ (after : ℕ) (bytes : List ℕ).
            counts-append (outside_at s cover (place after)) (outside_from true next (cover - 1) b bytes)
            ∙ (ap (λ counts. plus counts (counts_of (outside_from true next (cover - 1) b bytes))) (end-counts-none s cover before b after is)
            ∙ none-plus (counts_of (outside_from true next (cover - 1) b bytes))) in
            let both : counts_of (outside_from true next (cover - 1) b (text ++ rest)) ≡ counts_of (outside_from true next (cover - 1) b text) =
            elim (is_ended next) as (λ (over : Bool). is_ended next ≡ over → counts_of (outside_from true next (cover - 1) b (text ++ rest)) ≡ counts_of (outside_from true next (cover - 1) b text)) [
              | true ↦
                  λ over.
                  let none = λ (bytes : List ℕ). ap (λ (s : State). outside_from true s (cover - 1) b bytes) (ended-only next over) ∙ none-after true (cover - 1) b bytes in
                  ap counts_of (none (text ++ rest) ∙ sym (none text))
              | false ↦ λ goes_on. counts-more next (cover - 1) b text goes_on ended
            ] refl in
            ap (λ (n : ℕ). from (max covered n) (slice_index (text ++ rest) 0) (text ++ rest)) (end-no-rendition b (text ++ rest) is)
            ∙ (alone (slice_index (text ++ rest) 0) (text ++ rest)
            ∙ (both ∙ (sym (alone (slice_index text 0) text) ∙ sym (ap (λ (n : ℕ). from (max covered n) (slice_index text 0) text) (end-no-rendition b text is)))))
      ] refl

  -- the first line chooses the same
  chosen-more : (text : List ℕ) → is_ended (state_after true Before text) ≡ true → delimiter_in (text ++ rest) ≡ delimiter_in text
  chosen-more text ended =
      let over = ended-only (state_after true Before text) ended in
      let stands : state_after true Before (text ++ rest) ≡ Ended =
      fold-append (next_state true) Before text rest ∙ (ap (λ (s : State). state_after true s rest) over ∙ stays-ended true rest) in
      ap (λ (s : State). chosen (counts_of (outside_of (not (is_quoted s)) (text ++ rest)))) stands
      ∙ (ap chosen (counts-more Before 0 0 text refl ended)
      ∙ sym (ap (λ (s : State). chosen (counts_of (outside_of (not (is_quoted s)) text))) over))

-- ---- a line that names the delimiter

none-of : (x : Bool) → not x ≡ true → x ≡ false
none-of true other = absurd (false≢true other)
none-of false other = refl

unnamed : (a b c d e : ℕ) (rest : List ℕ) → list_any is_line_end (a ∷ b ∷ c ∷ d ∷ e ∷ []) ≡ true → named_delimiter (a ∷ b ∷ c ∷ d ∷ e ∷ rest) ≡ None
unnamed a b c d e rest some =
    elim (begins_naming a b c d && (can_delimit e && ends_line rest)) as
    (λ (names : Bool). begins_naming a b c d && (can_delimit e && ends_line rest) ≡ names → (if names then Some e else None) ≡ None) [
      | true ↦
          λ is.
          let whole = and_parts (begins_naming a b c d) (can_delimit e && ends_line rest) is in
          let first = and_parts (a == 0x73) ((b == 0x65) && ((c == 0x70) && (d == 0x3d))) whole.0 in
          let second = and_parts (b == 0x65) ((c == 0x70) && (d == 0x3d)) first.1 in
          let third = and_parts (c == 0x70) (d == 0x3d) second.1 in
          let byte = (and_parts (can_delimit e) (ends_line rest) whole.1).0 in
          let no_quote = (and_parts (nat_lt e 0x80) (not (e == quote) && (not (e == line_feed) && not (e == carriage_return))) byte).1 in
          let no_end = (and_parts (not (e == quote)) (not (e == line_feed) && not (e == carriage_return)) no_quote).1 in
          let neither = and_parts (not (e == line_feed)) (not (e == carriage_return)) no_end in
          let last : is_line_end e ≡ false = ap₂ (λ (x y : Bool). x || y) (none-of (e == carriage_return) neither.1) (none-of (e == line_feed) neither.0) in
          absurd (false≢true
          (behind-other (is_line_end e) false last
          (behind-other (is_line_end d) (is_line_end e || false) (ap is_line_end (eqb-true d 0x3d third.1))
          (behind-other (is_line_end c) (is_line_end d || (is_line_end e || false)) (ap is_line_end (eqb-true c 0x70 third.0))
          (behind-other (is_line_end b) (is_line_end c || (is_line_end d || (is_line_end e || false))) (ap is_line_end (eqb-true b 0x65 second.0))
          (behind-other (is_line_end a) (is_line_end b || (is_line_end c || (is_line_end d || (is_line_end e || false)))) (ap is_line_end (eqb-true a 0x73 first.0)) some))))))
      | false ↦ λ other. refl
    ] refl

named-none : (text : List ℕ) → list_any is_line_end (take 5 text) ≡ true → named_delimiter text ≡ None
named-none [] some = refl
named-none (a ∷ []) some = refl
named-none (a ∷ b ∷ []) some = refl
named-none (a ∷ b ∷ c ∷ []) some = refl
named-none (a ∷ b ∷ c ∷ d ∷ []) some = refl
named-none (a ∷ b ∷ c ∷ d ∷ e ∷ rest) some = unnamed a b c d e rest some

named-long : (text rest : List ℕ) → 5 < length text → named_delimiter (text ++ rest) ≡ named_delimiter text
named-long [] rest long = absurd (omega (arith, long))
named-long (a ∷ []) rest long = absurd (omega (arith, long))
named-long (a ∷ b ∷ []) rest long = absurd (omega (arith, long))
named-long (a ∷ b ∷ c ∷ []) rest long = absurd (omega (arith, long))
named-long (a ∷ b ∷ c ∷ d ∷ []) rest long = absurd (omega (arith, long))
named-long (a ∷ b ∷ c ∷ d ∷ e ∷ []) rest long = absurd (omega (arith, long))
named-long (a ∷ b ∷ c ∷ d ∷ e ∷ f ∷ text) rest long = refl

any-front : (xs ys : List ℕ) → list_any is_line_end xs ≡ true → list_any is_line_end (xs ++ ys) ≡ true
any-front [] ys none = absurd (false≢true none)
any-front (x ∷ xs) ys some =
    elim (is_line_end x) as (λ (ends : Bool). is_line_end x ≡ ends → ends || list_any is_line_end (xs ++ ys) ≡ true) [
      | true ↦ λ is. refl
      | false ↦ λ other. any-front xs ys (behind-other (is_line_end x) (list_any is_line_end xs) other some)
    ] refl

named-more : (text rest : List ℕ) → is_ended (state_after true Before text) ≡ true → named_delimiter (text ++ rest) ≡ named_delimiter text
named-more text rest ended =
    let some = has-end Before text refl ended in
    elim (cases_lt 5 (length text)) [
      | inl long ↦ named-long text rest long
      | inr short ↦
          let n = 5 - length text in
          let five : 5 ≡ length text + n = omega (arith, short) in
          let front : take 5 (text ++ rest) ≡ text ++ take n rest = ap (λ (k : ℕ). take k (text ++ rest)) five ∙ take-append-add text rest n in
          named-none (text ++ rest) (ap (list_any is_line_end) front ∙ any-front text (take n rest) some)
          ∙ sym (named-none text (ap (list_any is_line_end) (take_all 5 text short) ∙ some))
    ]

-- ---- what is found

mark-shorter : (bytes : List ℕ) → length (text_after_mark bytes) ≤ length bytes
mark-shorter [] = omega arith
mark-shorter (a ∷ []) = omega arith
mark-shorter (a ∷ b ∷ []) = omega arith
mark-shorter (a ∷ b ∷ c ∷ rest) =
    elim (is_mark a b c) as (λ (marked : Bool). length (if marked then rest else a ∷ b ∷ c ∷ rest) ≤ length (a ∷ b ∷ c ∷ rest)) [
      | true ↦ omega arith
      | false ↦ omega arith
    ]

pub found-more : (front rest : List ℕ) (file : Option (List ℕ)) → HasFirstLine front → found_in (front ++ rest) file ≡ found_in front file
found-more front rest file whole =
    let text = text_after_mark front in
    let grown : text_after_mark (front ++ rest) ≡ text ++ rest = mark-more front rest whole.told in
    let all = length-append front rest in
    let long = length-append text rest in
    let short = mark-shorter front in
    let at : length (front ++ rest) - length (text ++ rest) ≡ length front - length text = omega (arith, all, long, short) in
    let unnamed_same : unnamed_delimiter (text ++ rest) file ≡ unnamed_delimiter text file =
    elim (means_tab file) as (λ (tabs : Bool). (if tabs then 0x09 else delimiter_in (text ++ rest)) ≡ (if tabs then 0x09 else delimiter_in text)) [
      | true ↦ refl
      | false ↦ chosen-more rest text whole.ended
    ] in
    ap (λ (of : List ℕ). found_by (named_delimiter of) (length (front ++ rest) - length of) of file) grown
    ∙ (ap₂ (λ (named : Option ℕ) (place : ℕ). found_by named place (text ++ rest) file) (named-more text rest whole.ended) at
    ∙ same-text (named_delimiter text) (length front - length text) text file unnamed_same)
  where
    same-text : (named : Option ℕ) (place : ℕ) (text : List ℕ) (file : Option (List ℕ)) → unnamed_delimiter (text ++ rest) file ≡ unnamed_delimiter text file
        → found_by named place (text ++ rest) file ≡ found_by named place text file
    same-text None place text file same = ap (λ (d : ℕ). record { delimiter = d; start = 0 }) same
    same-text (Some d) place text file same = refl
