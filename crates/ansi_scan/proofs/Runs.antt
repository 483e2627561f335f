-- Runs at the start of a list, whose elements pass a test.
use Rattle.std.proofs.Common.{◌≡◌, ◌+◌, ℕ, suc, Bool, true, false, List, [], ◌∷◌, ◌++◌, length, take, drop, refl, ap, sym, ◌∙◌, subst, inl, inr, arith}
use Rattle.std.specs.List.{list_all, prefix_len}
use Rattle.std.specs.Cmp.Derive.{both_true}
use Rattle.std.proofs.lemmas.Bool.{and_parts, cases_Bool, cond-true, cond-false}

-- an element that passes makes the run longer by one
pub prefix_len-pass : {X : Type 0} (p : X → Bool) (x : X) (xs : List X) → p x ≡ true → prefix_len p (x ∷ xs) ≡ suc (prefix_len p xs)
prefix_len-pass p x xs passes =
    let more : 1 + prefix_len p xs ≡ suc (prefix_len p xs) = omega arith in
    cond-true (p x) (1 + prefix_len p xs) 0 passes ∙ more

-- an element that does not pass ends the run
pub prefix_len-fail : {X : Type 0} (p : X → Bool) (x : X) (xs : List X) → p x ≡ false → prefix_len p (x ∷ xs) ≡ 0
prefix_len-fail p x xs stops = cond-false (p x) (1 + prefix_len p xs) 0 stops

-- a run is as long as the list after which nothing passes
pub prefix_len-run : {X : Type 0} (p : X → Bool) (xs ys : List X) → list_all p xs ≡ true → prefix_len p ys ≡ 0 → prefix_len p (xs ++ ys) ≡ length xs
prefix_len-run p [] ys each stops = stops
prefix_len-run p (x ∷ xs) ys each stops =
    let parts = and_parts (p x) (list_all p xs) each in
    let rest : prefix_len p (xs ++ ys) ≡ length xs = prefix_len-run p xs ys parts.1 stops in
    prefix_len-pass p x (xs ++ ys) parts.0 ∙ ap suc rest

-- each element of the run passes
pub list_all-take_run : {X : Type 0} (p : X → Bool) (xs : List X) → list_all p (take (prefix_len p xs) xs) ≡ true
list_all-take_run p [] = refl
list_all-take_run {X} p (x ∷ xs) =
    let Passes : ℕ → Type 0 = λ n. list_all p (take n (x ∷ xs)) ≡ true in
    elim (cases_Bool (p x)) [
      | inl passes ↦ subst Passes (sym (prefix_len-pass p x xs passes)) (both_true passes (list_all-take_run p xs))
      | inr stops ↦ subst Passes (sym (prefix_len-fail p x xs stops)) refl
    ]

-- after the run nothing passes
pub prefix_len-drop_run : {X : Type 0} (p : X → Bool) (xs : List X) → prefix_len p (drop (prefix_len p xs) xs) ≡ 0
prefix_len-drop_run p [] = refl
prefix_len-drop_run p (x ∷ xs) =
    let Stops : ℕ → Type 0 = λ n. prefix_len p (drop n (x ∷ xs)) ≡ 0 in
    elim (cases_Bool (p x)) [
      | inl passes ↦ subst Stops (sym (prefix_len-pass p x xs passes)) (prefix_len-drop_run p xs)
      | inr stops ↦ subst Stops (sym (prefix_len-fail p x xs stops)) (prefix_len-fail p x xs stops)
    ]
