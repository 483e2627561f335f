-- The line that is sought among those that are left.
use Rattle.std.proofs.Common.{◌≡◌, ◌∙◌, ◌≤◌, ◌<◌, ◌+◌, ◌-◌, ℕ, zero, suc, List, [], ◌∷◌, add-one, ap, arith, drop, get_or, refl, subst, sym}
use Rattle.std.proofs.lemmas.List.{get_or-drop}
use Rattle.std.specs.Str.{chars}
use Rattle.unicode_width.specs.Width.{str_width}
use Rattle.grid_records_measure.specs.TextLines.{line_measure}
use Rattle.std.specs.Prelude.{None, Ok, Result, Some}
use Rattle.std.specs.declared.borrow.CowStr.{CowStr}
use Rattle.std.specs.Cow.{cow_str_bytes}
use Rattle.grid_records_measure.specs.Splitting.{GivesPart, PartsLeft}

-- the line that comes is sought where none is to be passed over
pub line_found : {E Z : Type 0} (old new first made : PartsLeft) (answer : Result (CowStr Z) E) (part : CowStr Z) (before index : ℕ) (lines : List (List ℕ)) →
    GivesPart old (Some answer) new → answer ≡ Ok part → before ≡ 0 → get_or old.parts before [] ≡ get_or first.parts index [] → first ≡ made → made.parts ≡ lines →
    cow_str_bytes part ≡ get_or lines index []
line_found {E} {Z} old new first made answer part before index lines gives was first_now sought same all =
    let step = subst (λ v. GivesPart {E = E} {Z = Z} old (Some v) new) was gives in
    let here : get_or old.parts before [] ≡ cow_str_bytes part = ap (λ v. get_or old.parts v []) first_now ∙ ap (λ v. get_or v 0 []) step.1.0 in
    sym here ∙ sought ∙ ap (λ v. get_or v.parts index []) same ∙ ap (λ v. get_or v index []) all

-- no line is left, so there is none with this number
pub line_lacking : (E Z : Type 0) (old new first made : PartsLeft) (before index : ℕ) (lines : List (List ℕ)) →
    GivesPart {E = E} {Z = Z} old None new → get_or old.parts before [] ≡ get_or first.parts index [] → first ≡ made → made.parts ≡ lines →
    [] ≡ get_or lines index []
line_lacking E Z old new first made before index lines gives sought same all =
    let here : get_or old.parts before [] ≡ [] = ap (λ v. get_or v before []) gives.1.0 in
    sym here ∙ sought ∙ ap (λ v. get_or v.parts index []) same ∙ ap (λ v. get_or v index []) all

-- the first of what is left comes off
pub left_next : {A : Type 0} (lines : List A) (i : ℕ) (line : A) (others : List A) → drop i lines ≡ line ∷ others → drop (i + 1) lines ≡ others
left_next [] zero line others is = cc
left_next [] (suc i) line others is = cc
left_next (first ∷ lines) zero line others is = cc
left_next (first ∷ lines) (suc i) line others is = rw add-one (rw add-one at (left_next lines i line others is))

from_left : {A : Type 0} (lines : List A) (i index : ℕ) (d : A) → i ≤ index → get_or lines index d ≡ get_or (drop i lines) (index - i) d
from_left lines i index d le =
    let same : index ≡ i + (index - i) = omega arith in
    ap (λ k. get_or lines k d) same ∙ sym (get_or-drop i lines (index - i) d)

-- the first of what is left has the number of those before it
pub left_at : {A : Type 0} (lines : List A) (i index : ℕ) (line d : A) (others : List A) → drop i lines ≡ line ∷ others → i ≤ index → index ≤ i → get_or lines index d ≡ line
left_at lines i index line d others is le ge =
    let none : index - i ≡ 0 = omega arith in
    from_left lines i index d le ∙ ap (λ k. get_or (drop i lines) k d) none ∙ ap (λ v. get_or v 0 d) is

-- after the last there is none
pub left_last : {A : Type 0} (lines : List A) (i index : ℕ) (line d : A) → drop i lines ≡ line ∷ [] → i < index → get_or lines index d ≡ d
left_last lines i index line d is lt =
    let some : index - i ≡ suc (index - i - 1) = omega arith in
    from_left lines i index d (omega arith) ∙ ap (λ k. get_or (drop i lines) k d) some ∙ ap (λ v. get_or v (suc (index - i - 1)) d) is

-- the empty line takes no columns
pub no_columns : line_measure [] ≡ 0
unfolding str_width chars
no_columns = refl
