-- What holds of each element of a list.
use Rattle.std.proofs.Common.{◌≡◌, ℕ, zero, suc, List, [], ◌∷◌, ◌++◌, map, get_or, refl, ap, ◌∙◌}
use Rattle.std.specs.List.{AllByRecursion}

pub AllByRecursion-append : {A : Type 0} (P : A → Type 0) (xs ys : List A) → AllByRecursion P xs → AllByRecursion P ys → AllByRecursion P (xs ++ ys)
AllByRecursion-append P [] ys first second = second
AllByRecursion-append P (x ∷ xs) ys first second = (first.0, AllByRecursion-append P xs ys first.1 second)

pub AllByRecursion-map : {A B : Type 0} (P : B → Type 0) (f : A → B) → ((x : A) → P (f x)) → (xs : List A) → AllByRecursion P (map f xs)
AllByRecursion-map P f all [] = tt
AllByRecursion-map P f all (x ∷ xs) = (all x, AllByRecursion-map P f all xs)

pub AllByRecursion-map_of : {A B : Type 0} (Q : A → Type 0) (P : B → Type 0) (f : A → B) → ((x : A) → Q x → P (f x)) → (xs : List A) → AllByRecursion Q xs → AllByRecursion P (map f xs)
AllByRecursion-map_of Q P f all [] each = tt
AllByRecursion-map_of Q P f all (x ∷ xs) each = (all x each.0, AllByRecursion-map_of Q P f all xs each.1)

pub AllByRecursion-keeps : {A : Type 0} (Q P : A → Type 0) → ((x : A) → Q x → P x) → (xs : List A) → AllByRecursion Q xs → AllByRecursion P xs
AllByRecursion-keeps Q P all [] each = tt
AllByRecursion-keeps Q P all (x ∷ xs) each = (all x each.0, AllByRecursion-keeps Q P all xs each.1)

pub map-same : {A B : Type 0} (P : A → Type 0) (f g : A → B) → ((x : A) → P x → f x ≡ g x) → (xs : List A) → AllByRecursion P xs → map f xs ≡ map g xs
map-same P f g same [] all = refl
map-same P f g same (x ∷ xs) all = ap (λ y. y ∷ map f xs) (same x all.0) ∙ ap (λ ys. g x ∷ ys) (map-same P f g same xs all.1)

pub AllByRecursion-get_or : {A : Type 0} (P : A → Type 0) (xs : List A) (i : ℕ) (d : A) → AllByRecursion P xs → P d → P (get_or xs i d)
AllByRecursion-get_or P [] i d all default = default
AllByRecursion-get_or P (x ∷ xs) zero d all default = all.0
AllByRecursion-get_or P (x ∷ xs) (suc i) d all default = AllByRecursion-get_or P xs i d all.1 default
