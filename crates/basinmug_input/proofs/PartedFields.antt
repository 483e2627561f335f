-- How the machine reads a text field by field, and past line ends.
use Rattle.std.proofs.Common.{◌≡◌, ◌≢◌, ◌∙◌, ◌+◌, ◌-◌, ◌<◌, ◌≤◌, ℕ, zero, suc, Bool, true, false, List, [], ◌∷◌, ◌++◌, Option, Some, None, inl, inr, fold, length, take, drop, get_or, refl, sym, ap, subst, arith}
use Rattle.std.proofs.lemmas.Bool.{cases_Bool, cases_lt, eqb-true, false≢true, ne_eqb}
use Rattle.std.proofs.lemmas.Bool.Decides.{nat_tests}
use Rattle.std.proofs.lemmas.List.{drop-drop, drop_all, drop_more, get_or-drop, length-drop, take_rest}
use Rattle.std.proofs.lemmas.List.Sums.{prefix_len-le-length, prefix_len_passes, prefix_len_stops}
use Rattle.std.proofs.lemmas.Str.{IsCharBoundary-after_ascii, IsCharBoundary-before_ascii, IsCharBoundary-end}
use Rattle.std.specs.Str.{IsCharBoundary}
use Rattle.std.specs.List.{list_all, prefix_len}
use Rattle.std.specs.Prelude.{◌==◌, ◌||◌, not, IsUtf8, if◌then◌else◌}
use Rattle.ansi_scan.proofs.Runs.{list_all-take_run, prefix_len-fail, prefix_len-pass}
use Rattle.csv.proofs.ReadFacts.{part-rest, run-copies}
use Rattle.csv.specs.Machine.{Read, Runs, after_end, carriage_return, field_after, fields_after, in_field, is_end, line_feed, next_record, start_field, step}
use Rattle.csv.specs.declared.parser.Action.{Action}
use Rattle.csv.specs.declared.parser.Action.TheVariants as act
use Rattle.csv.specs.declared.parser.Config.{Config}
use Rattle.csv.specs.declared.parser.State.{State}
use Rattle.csv.specs.declared.parser.State.TheVariants as st
use Rattle.csv.specs.declared.parser.Terminator.TheVariants as term
use Rattle.basinmug_input.specs.Places.{EndsInQuotes}
use Rattle.basinmug_input.specs.Reading.{SoFar, nothing, read_on, settings}
use Rattle.basinmug_input.specs.Parts.{IsFieldAt, IsQuoteAt, PartsFields, ReadsAs, ends_quoted, is_between_fields, is_line_end, is_no_quote, is_of_field, is_quoted, quote}
use Rattle.basinmug_input.proofs.Cleans.{both, neither}
use Rattle.basinmug_input.proofs.Quotes.{state-with}

pub no-true : (p : Bool) → not p ≡ true → p ≡ false
no-true true h = sym h
no-true false h = refl

pub no-false : (p : Bool) → not p ≡ false → p ≡ true
no-false true h = refl
no-false false h = sym h

pub or-right : (p q : Bool) → (p || q) ≡ true → p ≡ false → q ≡ true
or-right true q h none = absurd (false≢true (sym none))
or-right false q h none = h

line_end-ascii : (b : ℕ) → is_line_end b ≡ true → b < 128
line_end-ascii b h = grind (arith, nat_tests)

between_fields-ascii : (d b : ℕ) → d < 128 → is_between_fields d b ≡ true → b < 128
between_fields-ascii d b low h =
    elim (cases_Bool (b == d)) [
      | inl is ↦ let same = eqb-true b d is in omega (arith, same, low)
      | inr other ↦ line_end-ascii b (or-right (b == d) (is_line_end b) h other)
    ]

-- the record that begins at `at` has these fields and ends at `end`, where the next is looked for
pub record Ends (d : ℕ) (text : List ℕ) (at end : ℕ) (fields : List (List ℕ)) : Type 0 where
  pub state : State
  pub left : List ℕ
  pub read : next_record (settings d) st.StartRecord [] [] (drop at text) ≡ Some (fields, state, left)
  pub next : next_record (settings d) state [] [] left ≡ next_record (settings d) st.StartRecord [] [] (drop end text)
  pub quoted : ends_quoted (settings d) st.StartRecord (drop at text) ≡ ends_quoted (settings d) st.StartRecord (drop end text)

-- ---- what one byte does

-- the record that is read where a byte does this
abbrev by : Config → State × Action → List (List ℕ) → List ℕ → ℕ → List ℕ → Option Read
by cfg r fields field c rest =
    if is_end r.1 then Some (fields_after r.1 fields field, r.0, rest) else next_record cfg r.0 (fields_after r.1 fields field) (field_after r.1 c field) rest

pub next-by : (cfg : Config) (s : State) (r : State × Action) (fields : List (List ℕ)) (field : List ℕ) (c : ℕ) (rest : List ℕ) → step cfg s c ≡ r
    → next_record cfg s fields field (c ∷ rest) ≡ by cfg r fields field c rest
unfolding next_record
next-by cfg s r fields field c rest e = ap (λ (q : State × Action). by cfg q fields field c rest) e

pub open-by : (cfg : Config) (s : State) (r : State × Action) (c : ℕ) (rest : List ℕ) → step cfg s c ≡ r
    → ends_quoted cfg s (c ∷ rest) ≡ ends_quoted cfg r.0 rest
open-by cfg s r c rest e = ap (λ (q : State × Action). ends_quoted cfg q.0 rest) e

-- one after the other
pub both-read : {cfg : Config} {s t u : State} {fs gs hs : List (List ℕ)} {f g h xs ys zs : List ℕ} → ReadsAs cfg s fs f xs t gs g ys → ReadsAs cfg t gs g ys u hs h zs → ReadsAs cfg s fs f xs u hs h zs
both-read first second = record { next = first.next ∙ second.next; quoted = first.quoted ∙ second.quoted }

-- the same text
pub same-text : (cfg : Config) (s : State) (fields : List (List ℕ)) (field xs ys : List ℕ) → xs ≡ ys → ReadsAs cfg s fields field xs s fields field ys
same-text cfg s fields field xs ys e = record { next = ap (λ (of : List ℕ). next_record cfg s fields field of) e; quoted = ap (λ (of : List ℕ). ends_quoted cfg s of) e }

-- in a field, after the test of the delimiter
abbrev undivided : ℕ → State × Action
undivided c = if is_line_end c then (after_end term.CRLF c, act.EndRecord) else (st.InField, act.Copy)

divided : (d c : ℕ) (b : Bool) → (c == d) ≡ b → step (settings d) st.InField c ≡ (if b then (st.StartField, act.EndField) else undivided c)
divided d c b e = ap (λ (b : Bool). if b then (st.StartField, act.EndField) else undivided c) e

ended : (c : ℕ) (b : Bool) → is_line_end c ≡ b → undivided c ≡ (if b then (after_end term.CRLF c, act.EndRecord) else (st.InField, act.Copy))
ended c b e = ap (λ (b : Bool). if b then (after_end term.CRLF c, act.EndRecord) else (st.InField, act.Copy)) e

joins : (d c : ℕ) → is_of_field d c ≡ true → step (settings d) st.InField c ≡ (st.InField, act.Copy)
joins d c h =
    let none = neither (c == d) (is_line_end c) (no-true (is_between_fields d c) h) in
    divided d c false none.0 ∙ ended c false none.1

pub runs : (d : ℕ) (x : List ℕ) → list_all (is_of_field d) x ≡ true → Runs (settings d) st.InField x
unfolding Runs
runs d [] h = tt
runs d (c ∷ x) h =
    let each = both (is_of_field d c) (list_all (is_of_field d) x) h in
    (joins d c each.0, runs d x each.1)

-- in quotes
stays-quoted : (d c : ℕ) → (c == quote) ≡ false → step (settings d) st.InQuoted c ≡ (st.InQuoted, act.Copy)
stays-quoted d c e = ap (λ (b : Bool). if b then (st.AfterQuote, act.Skip) else (st.InQuoted, act.Copy)) e

pub runs-quoted : (d : ℕ) (x : List ℕ) → list_all is_no_quote x ≡ true → Runs (settings d) st.InQuoted x
unfolding Runs
runs-quoted d [] h = tt
runs-quoted d (c ∷ x) h =
    let each = both (is_no_quote c) (list_all is_no_quote x) h in
    (stays-quoted d c (no-true (c == quote) each.0), runs-quoted d x each.1)

-- bytes that only join a field
open-copies : (cfg : Config) (s : State) (x tail : List ℕ) → Runs cfg s x → ends_quoted cfg s (x ++ tail) ≡ ends_quoted cfg s tail
unfolding Runs
open-copies cfg s [] tail h = refl
open-copies cfg s (b ∷ rest) tail h = open-by cfg s (s, act.Copy) b (rest ++ tail) h.0 ∙ open-copies cfg s rest tail h.1

copies : (cfg : Config) (s : State) (fields : List (List ℕ)) (x tail : List ℕ) → Runs cfg s x → ReadsAs cfg s fields [] (x ++ tail) s fields x tail
copies cfg s fields x tail h = record { next = run-copies cfg s fields [] x tail h; quoted = open-copies cfg s x tail h }

-- ---- where a field begins

same-step : (cfg : Config) (s t : State) (fields : List (List ℕ)) (field : List ℕ) (c : ℕ) (rest : List ℕ) → step cfg s c ≡ step cfg t c
    → ReadsAs cfg s fields field (c ∷ rest) t fields field (c ∷ rest)
same-step cfg s t fields field c rest e = record {
  next = next-by cfg s (step cfg t c) fields field c rest e ∙ sym (next-by cfg t (step cfg t c) fields field c rest refl);
  quoted = open-by cfg s (step cfg t c) c rest e;
}

pub field-step : (d c : ℕ) → (c == quote) ≡ false → start_field (settings d) c ≡ in_field (settings d) c
field-step d c e = ap (λ (b : Bool). if b then (st.InQuoted, act.Skip) else in_field (settings d) c) e

pub behind-step : (d c : ℕ) → (c == quote) ≡ false → step (settings d) st.AfterQuote c ≡ in_field (settings d) c
behind-step d c e = ap (λ (b : Bool). if b then (st.InQuoted, act.Copy) else in_field (settings d) c) e

pub nothing-left : (d : ℕ) (fields : List (List ℕ)) (field : List ℕ) → ReadsAs (settings d) st.StartField fields field [] st.InField fields field []
unfolding next_record
nothing-left d fields field = record { next = refl; quoted = refl }

pub nothing-behind : (d : ℕ) (fields : List (List ℕ)) (field : List ℕ) → ReadsAs (settings d) st.AfterQuote fields field [] st.InField fields field []
unfolding next_record
nothing-behind d fields field = record { next = refl; quoted = refl }

-- what is read from a place on is what is read of its byte and the rest; or there is nothing
module _ (d : ℕ) (s t : State) (fields : List (List ℕ)) (field text : List ℕ) (at : ℕ) where
  from-place : (at < length text → step (settings d) s (get_or text at 0) ≡ step (settings d) t (get_or text at 0))
      → (ReadsAs (settings d) s fields field [] t fields field [])
      → ReadsAs (settings d) s fields field (drop at text) t fields field (drop at text)
  from-place steps none =
      elim (cases_lt at (length text)) [
        | inl below ↦ (let split = drop_more text at 0 below in
            subst (λ (of : List ℕ). ReadsAs (settings d) s fields field of t fields field of) (sym split)
            (same-step (settings d) s t fields field (get_or text at 0) (drop (at + 1) text) (steps below)))
        | inr above ↦ subst (λ (of : List ℕ). ReadsAs (settings d) s fields field of t fields field of) (sym (drop_all at text above)) none
      ]

-- a field that begins with no quote begins as it goes on
pub field-begins : (d : ℕ) (fields : List (List ℕ)) (text : List ℕ) (at : ℕ) → (at < length text → (get_or text at 0 == quote) ≡ false)
    → ReadsAs (settings d) st.StartField fields [] (drop at text) st.InField fields [] (drop at text)
field-begins d fields text at none =
    from-place d st.StartField st.InField fields [] text at (λ below. field-step d (get_or text at 0) (none below)) (nothing-left d fields [])

record-step : (d c : ℕ) → is_line_end c ≡ false → step (settings d) st.StartRecord c ≡ start_field (settings d) c
record-step d c e = ap (λ (b : Bool). if b then (st.StartRecord, act.Skip) else start_field (settings d) c) e

-- the record that begins at a byte, where no line end is, is read from its first field on
pub reads-first : (d : ℕ) (text : List ℕ) (at : ℕ) → at < length text → is_line_end (get_or text at 0) ≡ false
    → ReadsAs (settings d) st.StartRecord [] [] (drop at text) st.StartField [] [] (drop at text)
reads-first d text at below no_end =
    subst (λ (of : List ℕ). ReadsAs (settings d) st.StartRecord [] [] of st.StartField [] [] of) (sym (drop_more text at 0 below))
    (same-step (settings d) st.StartRecord st.StartField [] [] (get_or text at 0) (drop (at + 1) text) (record-step d (get_or text at 0) no_end))

-- ---- line ends

skips : (d c : ℕ) (rest : List ℕ) → is_line_end c ≡ true → ReadsAs (settings d) st.StartRecord [] [] (c ∷ rest) st.StartRecord [] [] rest
skips d c rest e =
    let skip : step (settings d) st.StartRecord c ≡ (st.StartRecord, act.Skip) = ap (λ (b : Bool). if b then (st.StartRecord, act.Skip) else start_field (settings d) c) e in
    record {
      next = next-by (settings d) st.StartRecord (st.StartRecord, act.Skip) [] [] c rest skip;
      quoted = open-by (settings d) st.StartRecord (st.StartRecord, act.Skip) c rest skip;
    }

-- line ends are skipped before a record
pub behind-line_ends : (d : ℕ) (xs : List ℕ) → ReadsAs (settings d) st.StartRecord [] [] xs st.StartRecord [] [] (drop (prefix_len is_line_end xs) xs)
behind-line_ends d [] = same-text (settings d) st.StartRecord [] [] [] [] refl
behind-line_ends d (c ∷ xs) =
    elim (cases_Bool (is_line_end c)) [
      | inl is ↦
          both-read (skips d c xs is)
          (both-read (behind-line_ends d xs)
          (same-text (settings d) st.StartRecord [] [] (drop (prefix_len is_line_end xs) xs) (drop (prefix_len is_line_end (c ∷ xs)) (c ∷ xs)) (ap (λ n. drop n (c ∷ xs)) (sym (prefix_len-pass is_line_end c xs is)))))
      | inr other ↦ same-text (settings d) st.StartRecord [] [] (c ∷ xs) (drop (prefix_len is_line_end (c ∷ xs)) (c ∷ xs)) (ap (λ n. drop n (c ∷ xs)) (sym (prefix_len-fail is_line_end c xs other)))
    ]

second : (p q : Bool) → q ≡ true → (p || q) ≡ true
second true q h = refl
second false q h = h

return-step : (d c : ℕ) (b : Bool) → (c == line_feed) ≡ b → step (settings d) st.AfterCr c ≡ step (settings d) st.StartRecord c
return-step d c true e =
    ap (λ (b : Bool). if b then (st.StartRecord, act.Skip) else step (settings d) st.StartRecord c) e
    ∙ sym (ap (λ (b : Bool). if b then (st.StartRecord, act.Skip) else start_field (settings d) c) (second (c == carriage_return) (c == line_feed) e))
return-step d c false e = ap (λ (b : Bool). if b then (st.StartRecord, act.Skip) else step (settings d) st.StartRecord c) e

behind-return : (d : ℕ) (xs : List ℕ) → ReadsAs (settings d) st.AfterCr [] [] xs st.StartRecord [] [] xs
unfolding next_record
behind-return d [] = record { next = refl; quoted = refl }
behind-return d (c ∷ xs) = same-step (settings d) st.AfterCr st.StartRecord [] [] c xs (return-step d c (c == line_feed) refl)

behind-either : (d : ℕ) (b : Bool) (xs : List ℕ) → ReadsAs (settings d) (if b then st.AfterCr else st.StartRecord) [] [] xs st.StartRecord [] [] xs
behind-either d true xs = behind-return d xs
behind-either d false xs = same-text (settings d) st.StartRecord [] [] xs xs refl

-- after the end of a record the next is looked for as after any line end
pub behind-end : (d c : ℕ) (rest : List ℕ) → is_line_end c ≡ true → ReadsAs (settings d) (after_end term.CRLF c) [] [] rest st.StartRecord [] [] (c ∷ rest)
behind-end d c rest e =
    let skip = skips d c rest e in
    both-read (behind-either d (c == carriage_return) rest) (record { next = sym skip.next; quoted = sym skip.quoted })

-- ---- what ends a field

pub at-delimiter : (d c : ℕ) (fields : List (List ℕ)) (field rest : List ℕ) → (c == d) ≡ true
    → ReadsAs (settings d) st.InField fields field (c ∷ rest) st.StartField (fields ++ field ∷ []) [] rest
at-delimiter d c fields field rest e = record {
  next = next-by (settings d) st.InField (st.StartField, act.EndField) fields field c rest (divided d c true e);
  quoted = open-by (settings d) st.InField (st.StartField, act.EndField) c rest (divided d c true e);
}

line-step : (d c : ℕ) → (c == d) ≡ false → is_line_end c ≡ true → step (settings d) st.InField c ≡ (after_end term.CRLF c, act.EndRecord)
line-step d c other is = divided d c false other ∙ ended c true is

pub at-line_end : (d c : ℕ) (fields : List (List ℕ)) (field rest : List ℕ) → (c == d) ≡ false → is_line_end c ≡ true
    → next_record (settings d) st.InField fields field (c ∷ rest) ≡ Some (fields ++ field ∷ [], after_end term.CRLF c, rest)
at-line_end d c fields field rest other is = next-by (settings d) st.InField (after_end term.CRLF c, act.EndRecord) fields field c rest (line-step d c other is)

pub at-the_end : (d : ℕ) (fields : List (List ℕ)) (field : List ℕ)
    → next_record (settings d) st.InField fields field [] ≡ Some (fields ++ field ∷ [], st.StartRecord, [])
unfolding next_record
at-the_end d fields field = refl

-- ---- a field outside quotes, which begins at a byte and has so many

-- where no byte of a field is, something separates fields, or the text ends
pub stops-at : (d : ℕ) (text : List ℕ) (at : ℕ) → prefix_len (is_of_field d) (drop at text) ≡ 0 → at < length text → is_between_fields d (get_or text at 0) ≡ true
stops-at d text at none below =
    let size = length-drop at text in
    let inside : prefix_len (is_of_field d) (drop at text) < length (drop at text) = omega (arith, size, none, below) in
    let here : at ≡ at + 0 = omega arith in
    no-false (is_between_fields d (get_or text at 0))
    (ap (λ k. is_of_field d (get_or text k 0)) here ∙ sym (ap (is_of_field d) (get_or-drop at text 0 0))
    ∙ ap (λ k. is_of_field d (get_or (drop at text) k 0)) (sym none) ∙ prefix_len_stops (is_of_field d) (drop at text) 0 inside)

-- a place before what separates fields is between characters, and so is the end of the text
pub boundary-before : (d : ℕ) (text : List ℕ) (at : ℕ) → d < 128 → at ≤ length text → (at < length text → is_between_fields d (get_or text at 0) ≡ true) → IsCharBoundary text at
boundary-before d text at low within stops =
    elim (cases_lt at (length text)) [
      | inl below ↦ IsCharBoundary-before_ascii text at below (between_fields-ascii d (get_or text at 0) low (stops below))
      | inr above ↦ let same : length text ≡ at = omega (arith, within, above) in subst (λ k. IsCharBoundary text k) same (IsCharBoundary-end text)
    ]

module _ (d : ℕ) (text : List ℕ) (start n : ℕ) (is : n ≡ prefix_len (is_of_field d) (drop start text)) where
  all : list_all (is_of_field d) (take n (drop start text)) ≡ true
  all = subst (λ k. list_all (is_of_field d) (take k (drop start text)) ≡ true) (sym is) (list_all-take_run (is_of_field d) (drop start text))

  field-read : (fields : List (List ℕ)) → ReadsAs (settings d) st.InField fields [] (drop start text) st.InField fields (take n (drop start text)) (drop (start + n) text)
  field-read fields =
      both-read (same-text (settings d) st.InField fields [] (drop start text) (take n (drop start text) ++ drop (start + n) text) (part-rest start n text))
      (copies (settings d) st.InField fields (take n (drop start text)) (drop (start + n) text) (runs d (take n (drop start text)) all))

  -- what follows it separates fields or records
  between_fields-behind : start + n < length text → is_between_fields d (get_or text (start + n) 0) ≡ true
  between_fields-behind below =
      let size = length-drop start text in
      let inside : prefix_len (is_of_field d) (drop start text) < length (drop start text) = omega (arith, size, is, below) in
      let stops = prefix_len_stops (is_of_field d) (drop start text) 0 inside in
      no-false (is_between_fields d (get_or text (start + n) 0))
      (ap (λ k. is_of_field d (get_or text (start + k) 0)) is ∙ ap (is_of_field d) (sym (get_or-drop start text (prefix_len (is_of_field d) (drop start text)) 0)) ∙ stops)

  pub open-field : start + n ≤ length text → (start < length text → (get_or text start 0 == quote) ≡ false) → IsFieldAt d text start (start + n) (take n (drop start text))
  open-field within none = record {
    read = λ fields. both-read (field-begins d fields text start none) (field-read fields);
    stops = between_fields-behind;
    upward = omega arith;
    within = within;
  }

-- ---- a field in quotes, whose bytes begin after the first quote

quote-opens : (d : ℕ) (fields : List (List ℕ)) (c : ℕ) (rest : List ℕ) → c ≡ quote → ReadsAs (settings d) st.StartField fields [] (c ∷ rest) st.InQuoted fields [] rest
quote-opens d fields c rest e =
    let skip : step (settings d) st.StartField c ≡ (st.InQuoted, act.Skip) = ap (λ k. step (settings d) st.StartField k) e in
    record {
      next = next-by (settings d) st.StartField (st.InQuoted, act.Skip) fields [] c rest skip;
      quoted = open-by (settings d) st.StartField (st.InQuoted, act.Skip) c rest skip;
    }

quote-closes : (d : ℕ) (fields : List (List ℕ)) (field : List ℕ) (c : ℕ) (rest : List ℕ) → c ≡ quote → ReadsAs (settings d) st.InQuoted fields field (c ∷ rest) st.AfterQuote fields field rest
quote-closes d fields field c rest e =
    let skip : step (settings d) st.InQuoted c ≡ (st.AfterQuote, act.Skip) = ap (λ k. step (settings d) st.InQuoted k) e in
    record {
      next = next-by (settings d) st.InQuoted (st.AfterQuote, act.Skip) fields field c rest skip;
      quoted = open-by (settings d) st.InQuoted (st.AfterQuote, act.Skip) c rest skip;
    }

no-quote : (d b : ℕ) → PartsFields d → is_between_fields d b ≡ true → (b == quote) ≡ false
no-quote d b parts is =
    elim (cases_Bool (b == d)) [
      | inl same ↦ ne_eqb b quote (λ e. parts.no_quote (sym (eqb-true b d same) ∙ e))
      | inr other ↦ (let line = or-right (b == d) (is_line_end b) is other in grind (arith, nat_tests))
    ]

module _ (d : ℕ) (text : List ℕ) (start n : ℕ) (is : n ≡ prefix_len is_no_quote (drop (start + 1) text)) (opened : IsQuoteAt text start) (closed : IsQuoteAt text (start + 1 + n)) where
  quoted-all : list_all is_no_quote (take n (drop (start + 1) text)) ≡ true
  quoted-all = subst (λ k. list_all is_no_quote (take k (drop (start + 1) text)) ≡ true) (sym is) (list_all-take_run is_no_quote (drop (start + 1) text))

  module _ (parts : PartsFields d) (stops : start + 1 + n + 1 < length text → is_between_fields d (get_or text (start + 1 + n + 1) 0) ≡ true) where
    quoted-read : (fields : List (List ℕ)) → ReadsAs (settings d) st.StartField fields [] (drop start text) st.InField fields (take n (drop (start + 1) text)) (drop (start + 1 + n + 1) text)
    quoted-read fields =
        let field = take n (drop (start + 1) text) in
        let first = both-read (same-text (settings d) st.StartField fields [] (drop start text) (get_or text start 0 ∷ drop (start + 1) text) (drop_more text start 0 opened.0))
        (quote-opens d fields (get_or text start 0) (drop (start + 1) text) opened.1) in
        let inside = both-read (same-text (settings d) st.InQuoted fields [] (drop (start + 1) text) (field ++ drop (start + 1 + n) text) (part-rest (start + 1) n text))
        (copies (settings d) st.InQuoted fields field (drop (start + 1 + n) text) (runs-quoted d field quoted-all)) in
        let last = both-read (same-text (settings d) st.InQuoted fields field (drop (start + 1 + n) text) (get_or text (start + 1 + n) 0 ∷ drop (start + 1 + n + 1) text) (drop_more text (start + 1 + n) 0 closed.0))
        (quote-closes d fields field (get_or text (start + 1 + n) 0) (drop (start + 1 + n + 1) text) closed.1) in
        let behind = from-place d st.AfterQuote st.InField fields field text (start + 1 + n + 1)
        (λ below. behind-step d (get_or text (start + 1 + n + 1) 0) (no-quote d (get_or text (start + 1 + n + 1) 0) parts (stops below)))
        (nothing-behind d fields field) in
        both-read first (both-read inside (both-read last behind))

    pub quoted-field : IsFieldAt d text start (start + 1 + n + 1) (take n (drop (start + 1) text))
    quoted-field =
        let below = closed.0 in
        record {
          read = quoted-read;
          stops = stops;
          upward = omega arith;
          within = omega (arith, below);
        }

-- a quote is between characters
pub quote-boundaries : (text : List ℕ) (at : ℕ) → IsQuoteAt text at → IsUtf8 text → IsCharBoundary text at × IsCharBoundary text (at + 1)
quote-boundaries text at is utf8 =
    let same = is.1 in
    let low : get_or text at 0 < 128 = omega (arith, same) in
    (IsCharBoundary-before_ascii text at is.0 low, IsCharBoundary-after_ascii text at utf8 is.0 low)

-- ---- a record, field by field

module _ (d : ℕ) (text : List ℕ) (start end : ℕ) (field : List ℕ) (is : IsFieldAt d text start end field) where
  -- a record that begins with no line end has some bytes
  pub ends-above : (at : ℕ) → at ≤ start → at < length text → is_line_end (get_or text at 0) ≡ false
      → (end < length text → (get_or text end 0 == d) ≡ false) → at < end
  ends-above at low inside no_end other =
      let upward = is.upward in
      elim (cases_lt at end) [
        | inl above ↦ above
        | inr back ↦
            let same : at ≡ end = omega (arith, low, back, upward) in
            let below : end < length text = omega (arith, same, inside) in
            let line = or-right (get_or text end 0 == d) (is_line_end (get_or text end 0)) (is.stops below) (other below) in
            absurd (false≢true (sym (subst (λ k. is_line_end (get_or text k 0) ≡ false) same no_end) ∙ line))
      ]

  module _ (at : ℕ) (fields : List (List ℕ)) (read : ReadsAs (settings d) st.StartRecord [] [] (drop at text) st.StartField fields [] (drop start text)) where
    through : ReadsAs (settings d) st.StartRecord [] [] (drop at text) st.InField fields field (drop end text)
    through = both-read read (is.read fields)

    pub ends-at_end : end ≡ length text → Ends d text at end (fields ++ field ∷ [])
    ends-at_end same =
        let none : drop end text ≡ [] = drop_all end text (omega (arith, same)) in
        record {
          state = st.StartRecord;
          left = [];
          read = through.next ∙ ap (λ (xs : List ℕ). next_record (settings d) st.InField fields field xs) none ∙ at-the_end d fields field;
          next = ap (λ (xs : List ℕ). next_record (settings d) st.StartRecord [] [] xs) (sym none);
          quoted = through.quoted ∙ ap (λ (xs : List ℕ). ends_quoted (settings d) st.InField xs) none ∙ ap (λ (xs : List ℕ). ends_quoted (settings d) st.StartRecord xs) (sym none);
        }

    pub ends-at_line : end < length text → (get_or text end 0 == d) ≡ false → Ends d text at end (fields ++ field ∷ [])
    ends-at_line below other =
        let c = get_or text end 0 in
        let rest = drop (end + 1) text in
        let line = or-right (c == d) (is_line_end c) (is.stops below) other in
        let split : drop end text ≡ c ∷ rest = drop_more text end 0 below in
        let behind = behind-end d c rest line in
        record {
          state = after_end term.CRLF c;
          left = rest;
          read = through.next ∙ ap (λ (xs : List ℕ). next_record (settings d) st.InField fields field xs) split ∙ at-line_end d c fields field rest other line;
          next = behind.next ∙ ap (λ (xs : List ℕ). next_record (settings d) st.StartRecord [] [] xs) (sym split);
          quoted = through.quoted ∙ ap (λ (xs : List ℕ). ends_quoted (settings d) st.InField xs) split
              ∙ open-by (settings d) st.InField (after_end term.CRLF c, act.EndRecord) c rest (line-step d c other line)
              ∙ behind.quoted ∙ ap (λ (xs : List ℕ). ends_quoted (settings d) st.StartRecord xs) (sym split);
        }

    pub goes-on : end < length text → (get_or text end 0 == d) ≡ true
        → ReadsAs (settings d) st.StartRecord [] [] (drop at text) st.StartField (fields ++ field ∷ []) [] (drop (end + 1) text)
    goes-on below is_delimiter =
        let c = get_or text end 0 in
        let rest = drop (end + 1) text in
        let split : drop end text ≡ c ∷ rest = drop_more text end 0 below in
        both-read through (both-read (same-text (settings d) st.InField fields field (drop end text) (c ∷ rest) split) (at-delimiter d c fields field rest is_delimiter))

-- ---- line ends before a record

-- the next record is looked for after the line ends that are here
pub record IsBehind (d : ℕ) (text : List ℕ) (at to : ℕ) : Type 0 where
  pub read : ReadsAs (settings d) st.StartRecord [] [] (drop at text) st.StartRecord [] [] (drop to text)
  pub within : to ≤ length text
  pub boundary : IsCharBoundary text to
  pub no_line_end : to < length text → is_line_end (get_or text to 0) ≡ false

module _ (d : ℕ) (text : List ℕ) (at n : ℕ) (is : n ≡ prefix_len is_line_end (drop at text)) where
  no-more : at + n < length text → is_line_end (get_or text (at + n) 0) ≡ false
  no-more below =
      let size = length-drop at text in
      let inside : prefix_len is_line_end (drop at text) < length (drop at text) = omega (arith, size, is, below) in
      ap (λ k. is_line_end (get_or text (at + k) 0)) is
      ∙ ap is_line_end (sym (get_or-drop at text (prefix_len is_line_end (drop at text)) 0))
      ∙ prefix_len_stops is_line_end (drop at text) 0 inside

  last-passes : (k : ℕ) → k + 1 ≡ n → is_line_end (get_or text (at + k) 0) ≡ true
  last-passes k last =
      let below : k < prefix_len is_line_end (drop at text) = omega (arith, is, last) in
      ap is_line_end (sym (get_or-drop at text k 0)) ∙ prefix_len_passes is_line_end (drop at text) k 0 below

  cut-behind : (m : ℕ) → n ≡ m → at + n ≤ length text → IsUtf8 text → IsCharBoundary text at → IsCharBoundary text (at + n)
  cut-behind zero none within utf8 cut = let same : at ≡ at + n = omega (arith, none) in subst (λ k. IsCharBoundary text k) same cut
  cut-behind (suc k) some within utf8 cut =
      let last : k + 1 ≡ n = omega (arith, some) in
      let below : at + k < length text = omega (arith, last, within) in
      let next : at + k + 1 ≡ at + n = omega (arith, last) in
      subst (λ k. IsCharBoundary text k) next (IsCharBoundary-after_ascii text (at + k) utf8 below (line_end-ascii (get_or text (at + k) 0) (last-passes k last)))

  not-past : at ≤ length text → at + n ≤ length text
  not-past low =
      let few = prefix_len-le-length is_line_end (drop at text) in
      let size = length-drop at text in
      omega (arith, low, is, few, size)

  pub behind-here : at ≤ length text → IsUtf8 text → IsCharBoundary text at → IsBehind d text at (at + n)
  behind-here low utf8 cut = record {
    read = both-read (behind-line_ends d (drop at text))
        (same-text (settings d) st.StartRecord [] [] (drop (prefix_len is_line_end (drop at text)) (drop at text)) (drop (at + n) text) (ap (λ k. drop k (drop at text)) (sym is) ∙ drop-drop n at text));
    within = not-past low;
    boundary = cut-behind n refl (not-past low) utf8 cut;
    no_line_end = no-more;
  }

-- their number, counted in what is left of the bytes of a text
pub line_ends-bytes : (text bytes : List ℕ) (at n : ℕ) → bytes ≡ text → n ≡ prefix_len is_line_end (take (length bytes - at) (drop at bytes))
    → n ≡ prefix_len is_line_end (drop at text)
line_ends-bytes text bytes at n same is =
    is ∙ ap (prefix_len is_line_end) (take_rest bytes at) ∙ ap (λ (of : List ℕ). prefix_len is_line_end (drop at of)) same

-- ---- records, one after the other

pub none-left : (d : ℕ) → next_record (settings d) st.StartRecord [] [] [] ≡ None
unfolding next_record
none-left d = refl

-- ---- quotes that are not closed

ends-quoted : (cfg : Config) (r : SoFar) (text : List ℕ) → (fold (read_on cfg) r text).state ≡ st.InQuoted → ends_quoted cfg r.state text ≡ true
ends-quoted cfg r [] e = ap is_quoted e
ends-quoted cfg r (c ∷ text) e =
    let next = step cfg r.state c in
    ap (λ s. ends_quoted cfg s text) (sym (state-with next.1 next.0 r c)) ∙ ends-quoted cfg (read_on cfg r c) text e

-- a text that is read to its end outside quotes does not end in quotes
pub closed-text : (d : ℕ) (text : List ℕ) → ends_quoted (settings d) st.StartRecord text ≡ ends_quoted (settings d) st.StartRecord [] → ¬ (EndsInQuotes (settings d) text)
closed-text d text none ends = false≢true (sym none ∙ ends-quoted (settings d) nothing text ends)
