-- The lines of a text, taken one after the other, and lines that are joined.
use Rattle.std.proofs.Common.{◌≡◌, ◌∙◌, ap, refl, sym, subst, ℕ, Bool, true, false, List, [], ◌∷◌, ◌++◌, append_assoc, append-nil, flat_map, map, if◌then◌else◌}
use Rattle.std.specs.Prelude.{IfOk, Ok, Err, Result, Some, codes, string_bytes}
use Rattle.std.specs.Cow.{cow_str_bytes}
use Rattle.std.specs.List.{filter, join_by}
use Rattle.std.specs.declared.alloc.Global.{Global}
use Rattle.std.specs.declared.borrow.CowStr.{CowStr}
use Rattle.std.specs.declared.string.String.{String}
use Rattle.std.proofs.lemmas.List.{map-append}
use Rattle.ansi_str.specs.Splitting.{GivesPart, PartsLeft}
use Rattle.basinmug_columns.specs.Fitting.Fitting.{joined_lines, line_if}

-- the line that comes is the first of those that were left
pub next-line : {E Z : Type 0} (old new : PartsLeft) (answer : Result (CowStr Z) E) (part : CowStr Z) → GivesPart old (Some answer) new → answer ≡ Ok part → old.parts ≡ cow_str_bytes part ∷ new.parts
next-line {E} {Z} old new answer part gives was =
    let step = subst (λ v. GivesPart {E = E} {Z = Z} old (Some v) new) was gives in
    step.1.0

-- what a line becomes is pushed
pub one-more : (f : List ℕ → List ℕ) (items new : List (String Global)) (made : String Global) (line : List ℕ) (left rest all : List (List ℕ)) → new ≡ items ++ made ∷ [] → string_bytes made ≡ f line → left ≡ line ∷ rest
    → map string_bytes items ++ map f left ≡ all → map string_bytes new ++ map f rest ≡ all
one-more f items new made line left rest all pushed is come so_far =
    ap (λ (it : List (List ℕ)). it ++ map f rest) (ap (map string_bytes) pushed ∙ map-append string_bytes items (made ∷ []) ∙ ap (λ (text : List ℕ). map string_bytes items ++ text ∷ []) is)
    ∙ append_assoc (map string_bytes items) (f line ∷ []) (map f rest)
    ∙ ap (λ (lines : List (List ℕ)). map string_bytes items ++ map f lines) (sym come) ∙ so_far

seen-first : (seen : Bool) (line : List ℕ) (rest : List (List ℕ)) → line_if seen line ++ rest ≡ if seen then line ∷ rest else rest
seen-first true line rest = refl
seen-first false line rest = refl

-- a line is pushed where it is wanted
pub filtered-more : (test : List ℕ → Bool) (old new : List (List ℕ)) (line : List ℕ) (left rest all : List (List ℕ)) → new ≡ old ++ line_if (test line) line → left ≡ line ∷ rest → old ++ filter test left ≡ all
    → new ++ filter test rest ≡ all
filtered-more test old new line left rest all pushed come so_far =
    ap (λ (it : List (List ℕ)). it ++ filter test rest) pushed ∙ append_assoc old (line_if (test line) line) (filter test rest)
    ∙ ap (λ (lines : List (List ℕ)). old ++ lines) (seen-first (test line) line (filter test rest)) ∙ ap (λ (lines : List (List ℕ)). old ++ filter test lines) (sym come) ∙ so_far

-- none is left
pub all-come : (made : List (List ℕ)) (left all : List (List ℕ)) (f : List (List ℕ) → List (List ℕ)) → f [] ≡ [] → left ≡ [] → made ++ f left ≡ all → made ≡ all
all-come made left all f none over so_far = sym (append-nil made) ∙ ap (λ (lines : List (List ℕ)). made ++ lines) (sym (ap f over ∙ none)) ∙ so_far

joined-map : (items : List (String Global)) → join_by string_bytes (codes "\n") items ≡ joined_lines (map string_bytes items)
joined-map [] = refl
joined-map (item ∷ items) = ap (λ (rest : List ℕ). string_bytes item ++ rest) (behind items)
  where
    behind : (items : List (String Global)) → flat_map (λ item. codes "\n" ++ string_bytes item) items ≡ flat_map (λ line. codes "\n" ++ line) (map string_bytes items)
    behind [] = refl
    behind (item ∷ items) = ap (λ (rest : List ℕ). (codes "\n" ++ string_bytes item) ++ rest) (behind items)

pub joined-told : {E : Type 0} (r : Result (String Global) E) (items lent : List (String Global)) (lines : List (List ℕ)) → lent ≡ items → map string_bytes items ≡ lines → IfOk r (λ t. string_bytes t ≡ join_by string_bytes (codes "\n") lent)
    → IfOk r (λ t. string_bytes t ≡ joined_lines lines)
joined-told (Ok t) items lent lines same are told = told ∙ joined-map lent ∙ ap (λ (it : List (String Global)). joined_lines (map string_bytes it)) same ∙ ap joined_lines are
joined-told (Err e) items lent lines same are told = tt

-- the same text by another name
pub told : {E : Type 0} (r : Result (String Global) E) (one other : List ℕ) → one ≡ other → IfOk r (λ out. string_bytes out ≡ one) → IfOk r (λ out. string_bytes out ≡ other)
told (Ok out) one other same is = is ∙ same
told (Err e) one other same is = tt
