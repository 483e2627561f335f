-- Lists over numbers that come one after the other, and lines of which each has a line feed after it.
use Rattle.std.proofs.Common.{◌≡◌, ◌∙◌, ap, sym, ℕ, zero, suc, ◌+◌, ◌-◌, ◌≤◌, List, [], ◌∷◌, ◌++◌, add-one, add-zero, append_assoc, append-nil, arith, map}
use Rattle.std.specs.List.{flat_map, range_with_len}
use Rattle.std.proofs.lemmas.List.Concat.{flat_map-append}
use Rattle.std.proofs.lemmas.List.FromFn.{map-range_with_len_more}
use Rattle.grid_records_measure.specs.TextLines.{line_feed}
use Rattle.basinmug_expanded.specs.Records.{ended_lines}

one-more : (from count : ℕ) → range_with_len from (suc count) ≡ range_with_len from count ++ (from + count) ∷ []
one-more from zero = ap (λ (n : ℕ). n ∷ []) (sym (add-zero from))
one-more from (suc count) =
    ap (λ (ns : List ℕ). from ∷ ns) (one-more (from + 1) count ∙ ap (λ (n : ℕ). range_with_len (from + 1) count ++ n ∷ []) (omega arith))

-- the numbers below one more
pub next-number : (n : ℕ) → range_with_len 0 (n + 1) ≡ range_with_len 0 n ++ n ∷ []
next-number n = ap (range_with_len 0) (add-one n) ∙ one-more 0 n ∙ ap (λ (m : ℕ). range_with_len 0 n ++ m ∷ []) (omega arith)

-- the numbers below, and those from there on
pub split-numbers : (from front behind : ℕ) → range_with_len from (front + behind) ≡ range_with_len from front ++ range_with_len (from + front) behind
split-numbers from zero behind =
    let none : zero + behind ≡ behind = omega arith in
    let same : from ≡ from + zero = omega arith in
    ap (range_with_len from) none ∙ ap (λ (n : ℕ). range_with_len n behind) same
split-numbers from (suc front) behind =
    let one : suc front + behind ≡ suc (front + behind) = omega arith in
    let same : (from + 1) + front ≡ from + suc front = omega arith in
    ap (range_with_len from) one
    ∙ ap (λ (ns : List ℕ). from ∷ ns) (split-numbers (from + 1) front behind ∙ ap (λ (n : ℕ). range_with_len (from + 1) front ++ range_with_len n behind) same)

-- what the next number has comes after what those below it have
pub next-of : {A : Type 0} (f : ℕ → List A) (n : ℕ) → flat_map f (range_with_len 0 (n + 1)) ≡ flat_map f (range_with_len 0 n) ++ f n
next-of f n =
    ap (flat_map f) (next-number n) ∙ flat_map-append f (range_with_len 0 n) (n ∷ []) ∙ ap (λ it. flat_map f (range_with_len 0 n) ++ it) (append-nil (f n))

pub ended-append : (a b : List (List ℕ)) → ended_lines (a ++ b) ≡ ended_lines a ++ ended_lines b
ended-append a b = flat_map-append (λ line. line ++ line_feed ∷ []) a b

-- the lines of one number more are appended
pub lines-more : (f : ℕ → List (List ℕ)) (n : ℕ) (start old new : List ℕ) → old ≡ start ++ ended_lines (flat_map f (range_with_len 0 n)) → new ≡ old ++ ended_lines (f n)
    → new ≡ start ++ ended_lines (flat_map f (range_with_len 0 (n + 1)))
lines-more f n start old new before grown =
    let first = flat_map f (range_with_len 0 n) in
    grown ∙ ap (λ (bytes : List ℕ). bytes ++ ended_lines (f n)) before ∙ append_assoc start (ended_lines first) (ended_lines (f n))
    ∙ ap (λ (bytes : List ℕ). start ++ bytes) (sym (ended-append first (f n)) ∙ ap ended_lines (sym (next-of f n)))

-- the line of one number more is appended
pub line-more : (f : ℕ → List ℕ) (n : ℕ) (start old new : List ℕ) → old ≡ start ++ ended_lines (map f (range_with_len 0 n)) → new ≡ old ++ (f n ++ line_feed ∷ [])
    → new ≡ start ++ ended_lines (map f (range_with_len 0 (n + 1)))
line-more f n start old new before grown =
    let first = map f (range_with_len 0 n) in
    grown ∙ ap (λ (bytes : List ℕ). bytes ++ (f n ++ line_feed ∷ [])) before ∙ append_assoc start (ended_lines first) (f n ++ line_feed ∷ [])
    ∙ ap (λ (bytes : List ℕ). start ++ (ended_lines first ++ bytes)) (sym (append-nil (f n ++ line_feed ∷ [])))
    ∙ ap (λ (bytes : List ℕ). start ++ bytes) (sym (ended-append first (f n ∷ [])) ∙ ap ended_lines (sym (map-range_with_len_more f 0 n n (omega arith))))

-- all numbers are those below one, that one, and those after it
pub all-of : {A : Type 0} (f : ℕ → List A) (n all : ℕ) → n + 1 ≤ all → flat_map f (range_with_len 0 all) ≡ (flat_map f (range_with_len 0 n) ++ f n) ++ flat_map f (range_with_len (n + 1) (all - (n + 1)))
all-of f n all less =
    let count = all - (n + 1) in
    let counted : all ≡ (n + 1) + count = omega (arith, less) in
    let same : 0 + (n + 1) ≡ n + 1 = omega arith in
    ap (λ (k : ℕ). flat_map f (range_with_len 0 k)) counted
    ∙ ap (flat_map f) (split-numbers 0 (n + 1) count)
    ∙ flat_map-append f (range_with_len 0 (n + 1)) (range_with_len (0 + (n + 1)) count)
    ∙ ap (λ it. it ++ flat_map f (range_with_len (0 + (n + 1)) count)) (next-of f n)
    ∙ ap (λ (k : ℕ). (flat_map f (range_with_len 0 n) ++ f n) ++ flat_map f (range_with_len k count)) same

-- a rule, and after it the lines of all numbers
pub behind-rule : (f : ℕ → List (List ℕ)) (n all : ℕ) (rule start old new : List ℕ) → n ≡ all → old ≡ start ++ rule ++ line_feed ∷ [] → new ≡ old ++ ended_lines (flat_map f (range_with_len 0 n))
    → new ≡ start ++ ended_lines (rule ∷ flat_map f (range_with_len 0 all))
behind-rule f n all rule start old new same ruled grown =
    let rest = ended_lines (flat_map f (range_with_len 0 n)) in
    grown ∙ ap (λ (bytes : List ℕ). bytes ++ rest) (ruled ∙ append_assoc start rule (line_feed ∷ [])) ∙ append_assoc start (rule ++ line_feed ∷ []) rest
    ∙ ap (λ (k : ℕ). start ++ ended_lines (rule ∷ flat_map f (range_with_len 0 k))) same

-- the lines of one number more come after those of the numbers below it
pub ended-next : (f : ℕ → List (List ℕ)) (n : ℕ) → ended_lines (flat_map f (range_with_len 0 n)) ++ ended_lines (f n) ≡ ended_lines (flat_map f (range_with_len 0 (n + 1)))
ended-next f n = sym (ended-append (flat_map f (range_with_len 0 n)) (f n)) ∙ ap ended_lines (sym (next-of f n))

-- all lines are those of the numbers below one, those of that one, and more
pub ended-all : (f : ℕ → List (List ℕ)) (n all : ℕ) → n + 1 ≤ all
    → ended_lines (flat_map f (range_with_len 0 all)) ≡ (ended_lines (flat_map f (range_with_len 0 n)) ++ ended_lines (f n)) ++ ended_lines (flat_map f (range_with_len (n + 1) (all - (n + 1))))
ended-all f n all less =
    let before = flat_map f (range_with_len 0 n) in
    let behind = flat_map f (range_with_len (n + 1) (all - (n + 1))) in
    ap ended_lines (all-of f n all less) ∙ ended-append (before ++ f n) behind ∙ ap (λ (bytes : List ℕ). bytes ++ ended_lines behind) (ended-append before (f n))
