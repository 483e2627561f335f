-- The first line of a text, and what comes after it.
use Rattle.std.proofs.Common.{◌≡◌, ◌<◌, ◌==◌, ℕ, suc, ◌+◌, ◌-◌, Bool, true, false, cond, Option, Some, None, unwrap_or, List, [], ◌∷◌, ◌++◌, length, slice_index, take, drop, refl, ap, sym, subst, ◌∙◌, arith, append-nil, append_assoc, if◌then◌else◌}
use Rattle.std.specs.List.{slice_split, onto_first}
use Rattle.std.specs.Option.{option_map}
use Rattle.std.proofs.Math.Seq.{take-length}
use Rattle.std.proofs.lemmas.Bool.Decides.{nat_tests}
use Rattle.std.proofs.lemmas.List.{nil_from_length, take-append-drop}
use Rattle.ansi_scan.specs.declared.items.Kind.{Kind}
use Rattle.ansi_scan.specs.declared.items.Kind.TheVariants.{Text, Sgr, Csi, Osc, Esc, Str, Broken}
use Rattle.ansi_scan.specs.Sequences.{Piece, EachStands, NoTextFirst, Stands, escape, joined}
use Rattle.ansi_scan.specs.Pieces.{pieces}
use Rattle.ansi_scan.specs.Attributes.{plain_attributes}
use Rattle.ansi_scan.proofs.Existence.{ArePiecesOf-pieces}
use Rattle.ansi_scan.proofs.Uniqueness.{pieces-joined}
use Rattle.ansi_str.specs.StyledText.{strip, text_of}
use Rattle.ansi_str.specs.Parts.{through_place}
use Rattle.ansi_str.specs.PartsLeft.{first_match, matches_first}
use Rattle.ansi_str.specs.Walking.{bytes_to}
use Rattle.ansi_str_search.proofs.PiecesAtPlaces.{strip-from, through-inside, through-past}
use Rattle.ansi_str_search.proofs.Dressed.{NoTextFirst-through, EachStands-front, short, long, cut}
use Rattle.ansi_str_search.proofs.Slices.{strip-through}
use Rattle.ansi_str_search.proofs.ByteParts.{byte-slice, byte-there}
use Rattle.ansi_str.proofs.CutSteps.{slice-bytes}
use Rattle.grid_records_measure.specs.TextLines.{line_feed, is_line_feed, shown_lines}
use Rattle.grid_records_measure.specs.RawLines.{IsFromLineFeed}

-- ---- a prefix of the pieces of a text are pieces too, also of a text that is not whole

-- the bytes of a prefix are a prefix of the bytes
record IsFrontOf (front all : List ℕ) : Type 0 where
  more : List ℕ
  parted : all ≡ front ++ more

front-piece : (n : ℕ) (bytes rest : List ℕ) (kind : Kind) (is_zero : Bool)
    → IsFrontOf (joined (cond is_zero [] (record { kind = kind; bytes = take n bytes } ∷ []))) (bytes ++ rest)
front-piece n bytes rest kind true = record { more = bytes ++ rest; parted = refl }
front-piece n bytes rest kind false = record {
  more = drop n bytes ++ rest;
  parted =
      ap (λ all. all ++ rest) (sym (take-append-drop n bytes))
      ∙ append_assoc (take n bytes) (drop n bytes) rest
      ∙ ap (λ front. front ++ (drop n bytes ++ rest)) (sym (append-nil (take n bytes)));
}

joined-through : (n : ℕ) (ps : List Piece) → IsFrontOf (joined (through_place n ps)) (joined ps)
joined-through n [] = record { more = []; parted = refl }
joined-through n (p ∷ ps) = elim (cut n p) [
  | short h ↦ subst (λ (front : List Piece). IsFrontOf (joined front) (p.bytes ++ joined ps)) (sym (through-inside n p ps h)) (front-piece n p.bytes (joined ps) p.kind (n == 0))
  | long h ↦
      let m = n - length (text_of p) in
      let rest = joined-through m ps in
      subst (λ (front : List Piece). IsFrontOf (joined front) (p.bytes ++ joined ps)) (sym (through-past n p ps h)) (record {
        more = rest.more;
        parted = ap (λ bytes. p.bytes ++ bytes) rest.parted ∙ sym (append_assoc p.bytes (joined (through_place m ps)) rest.more);
      })
]

Stands-shorter : (kind : Kind) (bytes : List ℕ) (ps qs : List Piece) → Stands kind bytes ps → (NoTextFirst ps → NoTextFirst qs) → IsFrontOf (joined qs) (joined ps) → Stands kind bytes qs
Stands-shorter Text bytes ps qs stands turn front = record { some = stands.some; plain = stands.plain; ends = turn stands.ends }
Stands-shorter Sgr bytes ps qs stands turn front = stands
Stands-shorter Csi bytes ps qs stands turn front = stands
Stands-shorter Osc bytes ps qs stands turn front = stands
Stands-shorter Esc bytes ps qs stands turn front = stands
Stands-shorter Str bytes ps qs stands turn front = stands
Stands-shorter Broken bytes ps qs stands turn front = record {
  spelled = stands.spelled;
  no_form = λ kind form after has e.
      stands.no_form kind form (after ++ front.more) has
      (ap (λ bs. escape ∷ bs) front.parted ∙ ap (λ bs. bs ++ front.more) e ∙ append_assoc form after front.more);
}

EachStands-through : (n : ℕ) (ps : List Piece) → EachStands ps → EachStands (through_place n ps)
EachStands-through n [] each = tt
EachStands-through n (p ∷ ps) each = elim (cut n p) [
  | short h ↦ subst EachStands (sym (through-inside n p ps h)) (EachStands-front n p ps (n == 0) refl h each.0)
  | long h ↦
      let m = n - length (text_of p) in
      subst EachStands (sym (through-past n p ps h)) (
        Stands-shorter p.kind p.bytes ps (through_place m ps) each.0 (NoTextFirst-through m ps) (joined-through m ps),
        EachStands-through m ps each.1,
      )
]

-- ---- the first line feed among some bytes

matches-line_feed : (b : ℕ) (bs : List ℕ) → matches_first (line_feed ∷ []) (b ∷ bs) ≡ is_line_feed b
matches-line_feed b bs = grind (arith, nat_tests)

-- the parts at the line feeds, where the first one is found at this place
abbrev SplitsAt : Option ℕ → List (List ℕ) → List ℕ → Type 0
SplitsAt None parts bs = parts ≡ bs ∷ []
SplitsAt (Some n) parts bs = parts ≡ take n bs ∷ slice_split is_line_feed (drop (n + 1) bs)

splits-step : (b : ℕ) (bs : List ℕ) (here : Bool) (found : Option ℕ) → SplitsAt found (slice_split is_line_feed bs) bs
    → SplitsAt (cond here (Some 0) (option_map (λ n. suc n) found)) (cond here ([] ∷ slice_split is_line_feed bs) (onto_first b (slice_split is_line_feed bs))) (b ∷ bs)
splits-step b bs true found rest = refl
splits-step b bs false None rest = ap (onto_first b) rest
splits-step b bs false (Some n) rest =
    let next : n + 1 ≡ suc n = omega arith in
    let more : suc n + 1 ≡ suc (n + 1) = omega arith in
    ap (onto_first b) rest ∙ ap (λ k. (b ∷ take n bs) ∷ slice_split is_line_feed (drop k (b ∷ bs))) (sym more)

splits-at : (bs : List ℕ) → SplitsAt (first_match (line_feed ∷ []) 0 bs) (slice_split is_line_feed bs) bs
unfolding first_match
splits-at [] = refl
splits-at (b ∷ bs) =
    subst (λ (t : Bool). SplitsAt (cond t (Some 0) (option_map (λ n. suc n) (first_match (line_feed ∷ []) 0 bs))) (slice_split is_line_feed (b ∷ bs)) (b ∷ bs))
    (sym (matches-line_feed b bs))
    (splits-step b bs (is_line_feed b) (first_match (line_feed ∷ []) 0 bs) (splits-at bs))

splits-where : (found : Option ℕ) (bs : List ℕ) → first_match (line_feed ∷ []) 0 bs ≡ found → SplitsAt found (slice_split is_line_feed bs) bs
splits-where found bs e = subst (λ o. SplitsAt o (slice_split is_line_feed bs) bs) e (splits-at bs)

-- ---- the first line

-- a list with its first element taken off
first-and-others : (rest others : List ℕ) (b : ℕ) → 0 < length rest → slice_index rest 0 ≡ b → others ≡ drop 1 rest → rest ≡ b ∷ others
first-and-others [] others b some first is_others = absurd (omega arith)
first-and-others (a ∷ rest) others b some first is_others = ap (λ c. c ∷ rest) first ∙ ap (λ bs. b ∷ bs) (sym is_others)

module _ (text rest : List ℕ) (from : IsFromLineFeed text rest) where
  abbrev n : ℕ
  n = bytes_to line_feed text

  line-shown : (line : List ℕ) → line ≡ take (length text - length rest) text → strip (pieces line) ≡ take n (strip (pieces text))
  line-shown line is_line =
      let slice = through_place n (pieces text) in
      let bytes : line ≡ joined slice = is_line ∙ slice-bytes text (joined slice) rest (byte-slice line_feed text plain_attributes rest from.0 from.1) in
      ap (λ of. strip (pieces of)) bytes
      ∙ ap strip (pieces-joined slice (EachStands-through n (pieces text) (ArePiecesOf-pieces text).stand))
      ∙ strip-through n (pieces text)

  pub line-last : (line : List ℕ) → line ≡ take (length text - length rest) text → length rest ≡ 0 → shown_lines (pieces text) ≡ strip (pieces line) ∷ []
  line-last line is_line empty =
      let none : (length rest == 0) ≡ true = grind (arith, nat_tests) in
      let found : first_match (line_feed ∷ []) 0 (strip (pieces text)) ≡ None = from.1.found ∙ ap (λ (t : Bool). if t then None else Some n) none in
      let all : n ≡ length (strip (pieces text)) = ap (λ (o : Option ℕ). unwrap_or o (length (strip (pieces text)))) found in
      splits-where None (strip (pieces text)) found
      ∙ ap (λ part. part ∷ []) (sym (line-shown line is_line ∙ ap (λ k. take k (strip (pieces text))) all ∙ take-length (strip (pieces text))))

  pub line-more : (line behind : List ℕ) → line ≡ take (length text - length rest) text → behind ≡ drop 1 rest → 0 < length rest
      → shown_lines (pieces text) ≡ strip (pieces line) ∷ shown_lines (pieces behind)
  line-more line behind is_line is_behind some =
      let more : (length rest == 0) ≡ false = grind (arith, nat_tests) in
      let found : first_match (line_feed ∷ []) 0 (strip (pieces text)) ≡ Some n = from.1.found ∙ ap (λ (t : Bool). if t then None else Some n) more in
      let there : strip (pieces behind) ≡ drop (n + 1) (strip (pieces text)) =
      ap (λ of. strip (pieces of)) is_behind ∙ ap strip (byte-there line_feed text plain_attributes rest from.0 from.1 some) ∙ strip-from (n + 1) (pieces text) in
      splits-where (Some n) (strip (pieces text)) found
      ∙ ap (λ part. part ∷ slice_split is_line_feed (drop (n + 1) (strip (pieces text)))) (sym (line-shown line is_line))
      ∙ ap (λ bytes. strip (pieces line) ∷ slice_split is_line_feed bytes) (sym there)

  pub front-is : (front : List ℕ) × (text ≡ front ++ rest)
  front-is = (joined (through_place n (pieces text)), byte-slice line_feed text plain_attributes rest from.0 from.1)

  line-is_front : (line : List ℕ) → line ≡ take (length text - length rest) text → line ≡ front-is.0
  line-is_front line is_line = is_line ∙ slice-bytes text front-is.0 rest front-is.1

  pub whole-last : (line : List ℕ) → line ≡ take (length text - length rest) text → length rest ≡ 0 → text ≡ line
  whole-last line is_line empty =
      front-is.1 ∙ ap (λ bs. front-is.0 ++ bs) (nil_from_length rest empty) ∙ append-nil front-is.0 ∙ sym (line-is_front line is_line)

  pub whole-more : (line behind : List ℕ) → line ≡ take (length text - length rest) text → behind ≡ drop 1 rest → 0 < length rest → text ≡ line ++ line_feed ∷ behind
  whole-more line behind is_line is_behind some =
      front-is.1 ∙ ap (λ bs. bs ++ rest) (sym (line-is_front line is_line))
      ∙ ap (λ bs. line ++ bs) (first-and-others rest behind line_feed some (from.1.at some) is_behind)
