-- Lists with one item more.
use Rattle.std.proofs.Common.{◌≡◌, ◌∙◌, ◌++◌, ◌||◌, ℕ, ap, ap₂, refl, sym, Bool, true, false, not, List, [], ◌∷◌, Option, None, Some, map}
use Rattle.std.specs.Prelude.{option_and_then, if◌then◌else◌}
use Rattle.std.specs.Borrow.{Bor}
use Rattle.program_options.specs.declared.basinmug.ColumnName.{ColumnName}
use Rattle.std.proofs.lemmas.List.{map-append}
use Rattle.std.specs.List.{list_any}
use Rattle.std.specs.Option.{option_map}
use Rattle.program_options.specs.ColorList.Listed.{all_of}
use Rattle.program_options.specs.ColorList.Steps.{with_one_more}
use Rattle.basinmug_values.specs.Lists.{Column, column_of_name, has_twice, is_same, item_of, items_of, listed, seen_items, unless_twice}

abbrev and_one : {X : Type 0} → Option (List X) → Option X → Option (List X)
and_one found x = option_and_then (λ xs. with_one_more xs x) found

cons-one : {X : Type 0} (y : X) (found : Option (List X)) (x : Option X) → option_map (λ xs. y ∷ xs) (and_one found x) ≡ and_one (option_map (λ xs. y ∷ xs) found) x
cons-one y None x = refl
cons-one y (Some xs) None = refl
cons-one y (Some xs) (Some x) = refl

-- all of a list, and of one more
pub all_of-push : {X : Type 0} (xs : List (Option X)) (x : Option X) → all_of (xs ++ x ∷ []) ≡ option_and_then (λ ys. with_one_more ys x) (all_of xs)
all_of-push [] None = refl
all_of-push [] (Some x) = refl
all_of-push (None ∷ xs) x = refl
all_of-push {X} (Some y ∷ xs) x = ap (option_map (λ (ys : List X). y ∷ ys)) (all_of-push xs x) ∙ cons-one y (all_of xs) x

-- the items of the parts so far, and of one part more
pub items-push : {T : Type 0} (value_of : List ℕ → Option T) (parts : List (Bor (List ℕ))) (part : Bor (List ℕ)) (found : Option (List (Column × T)))
    → found ≡ all_of (map (item_of value_of) (map (λ item. item.now) parts))
    → option_and_then (λ items. with_one_more items (item_of value_of part.now)) found ≡ all_of (map (item_of value_of) (map (λ item. item.now) (parts ++ part ∷ [])))
items-push {T} value_of parts part found is =
    ap (λ (o : Option (List (Column × T))). and_one o (item_of value_of part.now)) is
    ∙ (sym (all_of-push (map (item_of value_of) (map (λ item. item.now) parts)) (item_of value_of part.now))
    ∙ ap all_of (sym (ap (map (item_of value_of)) (map-append (λ (item : Bor (List ℕ)). item.now) parts (part ∷ [])) ∙ map-append (item_of value_of) (map (λ item. item.now) parts) (part.now ∷ []))))

pub any-push : {X : Type 0} (p : X → Bool) (xs : List X) (x : X) → list_any p (xs ++ x ∷ []) ≡ (p x || list_any p xs)
any-push p [] x = refl
any-push {X} p (y ∷ xs) x = ap (λ (b : Bool). p y || b) (any-push p xs x) ∙ swapped (p y) (p x) (list_any p xs)
  where
    swapped : (a b c : Bool) → (a || (b || c)) ≡ (b || (a || c))
    swapped true true c = refl
    swapped true false c = refl
    swapped false true c = refl
    swapped false false c = refl

-- a column occurs twice among some and one more: it does among the some, or they have that one
pub twice-push : (columns : List Column) (column : Column) → has_twice (columns ++ column ∷ []) ≡ (list_any (λ other. is_same other column) columns || has_twice columns)
twice-push [] column = refl
twice-push (first ∷ rest) column =
    ap (λ (b : Bool). b || has_twice (rest ++ column ∷ [])) (any-push (is_same first) rest column)
    ∙ (ap (λ (b : Bool). (is_same first column || list_any (is_same first) rest) || b) (twice-push rest column)
    ∙ apart (is_same first column) (list_any (is_same first) rest) (list_any (λ other. is_same other column) rest) (has_twice rest))
  where
    apart : (a b c d : Bool) → ((a || b) || (c || d)) ≡ ((a || c) || (b || d))
    apart true true true d = refl
    apart true true false d = refl
    apart true false true d = refl
    apart true false false d = refl
    apart false true true d = refl
    apart false true false d = refl
    apart false false true d = refl
    apart false false false d = refl

-- and whether it does so far decides whether it does with one more
pub twice-step : (columns : List Column) (column : Column) (before met is_new : Bool) → before ≡ has_twice columns → met ≡ list_any (λ other. is_same other column) columns
    → is_new ≡ not met → (if is_new then before else true) ≡ has_twice (columns ++ column ∷ [])
twice-step columns column before met is_new so_far known new =
    ap (λ (b : Bool). if b then before else true) new ∙ (either met before ∙ (ap₂ (λ (a b : Bool). a || b) known so_far ∙ sym (twice-push columns column)))
  where
    either : (a b : Bool) → (if not a then b else true) ≡ (a || b)
    either true b = refl
    either false b = refl

columns-seen : {T : Type 0} (given : List (ColumnName × T)) → map (λ item. item.0) (seen_items given) ≡ map (λ item. column_of_name item.0) given
columns-seen [] = refl
columns-seen (item ∷ given) = ap (λ (rest : List Column). column_of_name item.0 ∷ rest) (columns-seen given)

-- a list whose items are these
pub listed-found : {T : Type 0} (value_of : List ℕ → Option T) (text : List ℕ) (given : List (ColumnName × T)) (twice : Bool) → Some (seen_items given) ≡ items_of value_of text
    → twice ≡ has_twice (map (λ item. column_of_name item.0) given) → (if twice then None else Some (seen_items given)) ≡ listed value_of text
listed-found {T} value_of text given twice found is =
    ap (λ (b : Bool). if b then None else Some (seen_items given)) is
    ∙ (ap (λ (columns : List Column). if has_twice columns then None else Some (seen_items given)) (sym (columns-seen given))
    ∙ ap (option_and_then (unless_twice {T = T})) found)
