-- Lists with one more.
use Rattle.std.proofs.Common.{◌≡◌, ◌∙◌, ◌++◌, ◌||◌, ◌==◌, ℕ, ap, ap₂, refl, sym, Bool, true, false, not, List, [], ◌∷◌, Option, None, Some, map}
use Rattle.std.specs.Prelude.{option_and_then, if◌then◌else◌}
use Rattle.std.specs.Borrow.{Bor}
use Rattle.std.proofs.lemmas.List.{map-append}
use Rattle.std.specs.List.{list_any}
use Rattle.std.specs.Option.{option_map}
use Rattle.program_options.specs.ColorList.Listed.{all_of, has_twice}
use Rattle.program_options.specs.ColorList.Steps.{with_one_more}

abbrev and_one : {X : Type 0} → Option (List X) → Option X → Option (List X)
and_one found x = option_and_then (λ xs. with_one_more xs x) found

cons-one : {X : Type 0} (y : X) (found : Option (List X)) (x : Option X) → option_map (λ xs. y ∷ xs) (and_one found x) ≡ and_one (option_map (λ xs. y ∷ xs) found) x
cons-one y None x = refl
cons-one y (Some xs) None = refl
cons-one y (Some xs) (Some x) = refl

-- all of a list, and of one more
pub all_of-push : {X : Type 0} (xs : List (Option X)) (x : Option X) → all_of (xs ++ x ∷ []) ≡ and_one (all_of xs) x
all_of-push [] None = refl
all_of-push [] (Some x) = refl
all_of-push (None ∷ xs) x = refl
all_of-push {X} (Some y ∷ xs) x = ap (option_map (λ (ys : List X). y ∷ ys)) (all_of-push xs x) ∙ cons-one y (all_of xs) x

-- what the parts so far give, and one part more
pub parts-push : {X : Type 0} (gives : List ℕ → Option X) (parts : List (Bor (List ℕ))) (part : Bor (List ℕ)) (found : Option (List X))
    → found ≡ all_of (map gives (map (λ item. item.now) parts))
    → and_one found (gives part.now) ≡ all_of (map gives (map (λ item. item.now) (parts ++ part ∷ [])))
parts-push {X} gives parts part found is =
    ap (λ (o : Option (List X)). and_one o (gives part.now)) is
    ∙ (sym (all_of-push (map gives (map (λ item. item.now) parts)) (gives part.now))
    ∙ ap all_of (sym (ap (map gives) (map-append (λ (item : Bor (List ℕ)). item.now) parts (part ∷ [])) ∙ map-append gives (map (λ item. item.now) parts) (part.now ∷ []))))

pub any-push : {X : Type 0} (p : X → Bool) (xs : List X) (x : X) → list_any p (xs ++ x ∷ []) ≡ (p x || list_any p xs)
any-push p [] x = refl
any-push {X} p (y ∷ xs) x = ap (λ (b : Bool). p y || b) (any-push p xs x) ∙ swapped (p y) (p x) (list_any p xs)
  where
    swapped : (a b c : Bool) → (a || (b || c)) ≡ (b || (a || c))
    swapped true true c = refl
    swapped true false c = refl
    swapped false true c = refl
    swapped false false c = refl

-- a number occurs twice among some and one more: it does among the some, or they have that one
twice-push : (numbers : List ℕ) (number : ℕ) → has_twice (numbers ++ number ∷ []) ≡ (list_any (λ other. other == number) numbers || has_twice numbers)
twice-push [] number = refl
twice-push (first ∷ rest) number =
    ap (λ (b : Bool). b || has_twice (rest ++ number ∷ [])) (any-push (λ other. first == other) rest number)
    ∙ (ap (λ (b : Bool). (first == number || list_any (λ other. first == other) rest) || b) (twice-push rest number)
    ∙ apart (first == number) (list_any (λ other. first == other) rest) (list_any (λ other. other == number) rest) (has_twice rest))
  where
    apart : (a b c d : Bool) → ((a || b) || (c || d)) ≡ ((a || c) || (b || d))
    apart true true true d = refl
    apart true true false d = refl
    apart true false true d = refl
    apart true false false d = refl
    apart false true true d = refl
    apart false true false d = refl
    apart false false true d = refl
    apart false false false d = refl

-- and whether it does so far decides whether it does with one more
pub twice-step : (numbers : List ℕ) (number : ℕ) (before met is_new : Bool) → before ≡ has_twice numbers → met ≡ list_any (λ other. other == number) numbers
    → is_new ≡ not met → (if is_new then before else true) ≡ has_twice (numbers ++ number ∷ [])
twice-step numbers number before met is_new so_far known new =
    ap (λ (b : Bool). if b then before else true) new ∙ (either met before ∙ (ap₂ (λ (a b : Bool). a || b) known so_far ∙ sym (twice-push numbers number)))
  where
    either : (a b : Bool) → (if not a then b else true) ≡ (a || b)
    either true b = refl
    either false b = refl
