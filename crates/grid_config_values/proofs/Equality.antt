-- `==`, as it is derived, is equality of all fields.
use Rattle.std.proofs.Common.{◌≡◌, ℕ, Bool, true, false, ◌&&◌, ◌==◌, Option, None, Some, List, [], ◌∷◌, refl, ap, arith, ◌∙◌}
use Rattle.std.proofs.Math.Bool.{beq}
use Rattle.std.specs.Option.{option_eq, option_map}
use Rattle.std.proofs.lemmas.Bool.{and_parts, eqb-true}
use Rattle.std.proofs.lemmas.Bool.Decides.{nat_tests}
use Rattle.grid_config_values.specs.declared.borders.Border.{Border}
use Rattle.grid_config_values.specs.declared.borders.Borders.{Borders}
use Rattle.grid_config_values.specs.declared.sides.Indent.{Indent}
use Rattle.grid_config_values.specs.declared.sides.Sides.{Sides}

-- the same number, or none, passes `==`
abbrev pub number_eq : ℕ → ℕ → Bool
number_eq m n = m == n

pub number_passes : (m n : ℕ) → m ≡ n → (m == n) ≡ true
number_passes m n e = grind (arith, nat_tests)

pub numbers_pass : (a b : Option ℕ) → a ≡ b → option_eq number_eq a b ≡ true
numbers_pass None None e = refl
numbers_pass None (Some n) e = cc
numbers_pass (Some m) None e = cc
numbers_pass (Some m) (Some n) e = let same : m ≡ n = cc in number_passes m n same

-- `==` of switches
pub switch_same : (a b : Bool) → beq a b ≡ true → a ≡ b
switch_same true true e = refl
switch_same true false e = cc
switch_same false true e = cc
switch_same false false e = refl

pub switch_passes : (a b : Bool) → a ≡ b → beq a b ≡ true
switch_passes true true e = refl
switch_passes true false e = cc
switch_passes false true e = cc
switch_passes false false e = refl

-- a chain of tests that passes has each pass
abbrev pub all_pass : Bool → List Bool → Bool
all_pass t [] = t
all_pass t (u ∷ others) = t && all_pass u others

abbrev pub EachPasses : Bool → List Bool → Type 0
EachPasses t [] = t ≡ true
EachPasses t (u ∷ others) = (t ≡ true) × EachPasses u others

pub each_passes : (t : Bool) (others : List Bool) → all_pass t others ≡ true → EachPasses t others
each_passes t [] e = e
each_passes t (u ∷ others) e =
    let parts = and_parts t (all_pass u others) e in
    (parts.0, each_passes u others parts.1)

abbrev pub indent_eq : Indent → Indent → Bool
indent_eq a b = a.size == b.size && a.fill == b.fill

pub indent_same : (a b : Indent) → indent_eq a b ≡ true → a ≡ b
indent_same a b e =
    let parts = and_parts (a.size == b.size) (a.fill == b.fill) e in
    λ i. record { size = eqb-true a.size b.size parts.0 i; fill = eqb-true a.fill b.fill parts.1 i }

pub passes_all : (t : Bool) (others : List Bool) → EachPasses t others → all_pass t others ≡ true
passes_all t [] e = e
passes_all t (u ∷ others) e = ap (λ b. b && all_pass u others) e.0 ∙ passes_all u others e.1

-- what passes `==` shows the same by this function
abbrev pub ShowsSame : {X V : Type 0} → (X → X → Bool) → (X → V) → Type 0
ShowsSame {X} E show = (x y : X) → E x y ≡ true → show x ≡ show y

pub option_same : {T U : Type 0} (E : T → T → Bool) (show : T → U) → ShowsSame E show → ShowsSame (option_eq E) (option_map show)
option_same E show same None None e = refl
option_same E show same None (Some y) e = cc
option_same E show same (Some x) None e = cc
option_same E show same (Some x) (Some y) e = ap Some (same x y e)

-- and shows itself, where the parts do
pub same_option : {T : Type 0} (E : T → T → Bool) → ((x y : T) → E x y ≡ true → x ≡ y) → (x y : Option T) → option_eq E x y ≡ true → x ≡ y
same_option E same None None e = refl
same_option E same None (Some y) e = cc
same_option E same (Some x) None e = cc
same_option E same (Some x) (Some y) e = ap Some (same x y e)

-- what shows the same by this function passes `==`
abbrev pub SameShown : {X V : Type 0} → (X → X → Bool) → (X → V) → Type 0
SameShown {X} E show = (x y : X) → show x ≡ show y → E x y ≡ true

pub option_passes : {T U : Type 0} (E : T → T → Bool) (show : T → U) → SameShown E show → SameShown (option_eq E) (option_map show)
option_passes E show passes None None e = refl
option_passes E show passes None (Some y) e = cc
option_passes E show passes (Some x) None e = cc
option_passes E show passes (Some x) (Some y) e = let inside : show x ≡ show y = cc in passes x y inside

-- sides and borders with what each part shows
abbrev pub shown_sides : {T U : Type 0} → (T → U) → Sides T → Sides U
shown_sides show s = record { left = show s.left; right = show s.right; top = show s.top; bottom = show s.bottom }

abbrev pub shown_borders : {T U : Type 0} → (Option T → Option U) → Borders T → Borders U
shown_borders show b = record {
  top = show b.top;
  top_left = show b.top_left;
  top_right = show b.top_right;
  top_intersection = show b.top_intersection;
  bottom = show b.bottom;
  bottom_left = show b.bottom_left;
  bottom_right = show b.bottom_right;
  bottom_intersection = show b.bottom_intersection;
  horizontal = show b.horizontal;
  left_intersection = show b.left_intersection;
  right_intersection = show b.right_intersection;
  intersection = show b.intersection;
  vertical = show b.vertical;
  left = show b.left;
  right = show b.right;
}

-- `==` of sides, and then of borders, by that of their parts
abbrev pub sides_eq : {T : Type 0} → (T → T → Bool) → Sides T → Sides T → Bool
sides_eq E a b = all_pass (E a.left b.left) (E a.right b.right ∷ E a.top b.top ∷ E a.bottom b.bottom ∷ [])

pub sides_same : {T U : Type 0} (E : T → T → Bool) (show : T → U) → ShowsSame E show → (a b : Sides T) → sides_eq E a b ≡ true → shown_sides show a ≡ shown_sides show b
sides_same E show same a b e =
    let each = each_passes (E a.left b.left) (E a.right b.right ∷ E a.top b.top ∷ E a.bottom b.bottom ∷ []) e in
    λ i. record { left = same a.left b.left each.0 i; right = same a.right b.right each.1.0 i; top = same a.top b.top each.1.1.0 i; bottom = same a.bottom b.bottom each.1.1.1 i }

pub sides_passes : {T U : Type 0} (E : T → T → Bool) (show : T → U) → SameShown E show → (a b : Sides T) → shown_sides show a ≡ shown_sides show b → sides_eq E a b ≡ true
sides_passes {U = U} E show passes a b e =
    passes_all (E a.left b.left) (E a.right b.right ∷ E a.top b.top ∷ E a.bottom b.bottom ∷ [])
    (passes a.left b.left (ap (λ (s : Sides U). s.left) e), (passes a.right b.right (ap (λ (s : Sides U). s.right) e), (passes a.top b.top (ap (λ (s : Sides U). s.top) e), passes a.bottom b.bottom (ap (λ (s : Sides U). s.bottom) e))))

abbrev other_tests : {T : Type 0} → (T → T → Bool) → Borders T → Borders T → List Bool
other_tests E a b = option_eq E a.top_left b.top_left ∷ option_eq E a.top_right b.top_right ∷ option_eq E a.top_intersection b.top_intersection ∷ option_eq E a.bottom b.bottom ∷ option_eq E a.bottom_left b.bottom_left ∷ option_eq E a.bottom_right b.bottom_right ∷ option_eq E a.bottom_intersection b.bottom_intersection ∷ option_eq E a.horizontal b.horizontal ∷ option_eq E a.left_intersection b.left_intersection ∷ option_eq E a.right_intersection b.right_intersection ∷ option_eq E a.intersection b.intersection ∷ option_eq E a.vertical b.vertical ∷ option_eq E a.left b.left ∷ option_eq E a.right b.right ∷ []

abbrev pub borders_eq : {T : Type 0} → (T → T → Bool) → Borders T → Borders T → Bool
borders_eq E a b = all_pass (option_eq E a.top b.top) (other_tests E a b)

pub borders_same : {T U : Type 0} (E : T → T → Bool) (show : Option T → Option U) → ShowsSame (option_eq E) show → (a b : Borders T) → borders_eq E a b ≡ true → shown_borders show a ≡ shown_borders show b
borders_same E show same a b e =
    let each = each_passes (option_eq E a.top b.top) (other_tests E a b) e in
    λ i. record {
      top = same a.top b.top each.0 i;
      top_left = same a.top_left b.top_left each.1.0 i;
      top_right = same a.top_right b.top_right each.1.1.0 i;
      top_intersection = same a.top_intersection b.top_intersection each.1.1.1.0 i;
      bottom = same a.bottom b.bottom each.1.1.1.1.0 i;
      bottom_left = same a.bottom_left b.bottom_left each.1.1.1.1.1.0 i;
      bottom_right = same a.bottom_right b.bottom_right each.1.1.1.1.1.1.0 i;
      bottom_intersection = same a.bottom_intersection b.bottom_intersection each.1.1.1.1.1.1.1.0 i;
      horizontal = same a.horizontal b.horizontal each.1.1.1.1.1.1.1.1.0 i;
      left_intersection = same a.left_intersection b.left_intersection each.1.1.1.1.1.1.1.1.1.0 i;
      right_intersection = same a.right_intersection b.right_intersection each.1.1.1.1.1.1.1.1.1.1.0 i;
      intersection = same a.intersection b.intersection each.1.1.1.1.1.1.1.1.1.1.1.0 i;
      vertical = same a.vertical b.vertical each.1.1.1.1.1.1.1.1.1.1.1.1.0 i;
      left = same a.left b.left each.1.1.1.1.1.1.1.1.1.1.1.1.1.0 i;
      right = same a.right b.right each.1.1.1.1.1.1.1.1.1.1.1.1.1.1 i;
    }

pub borders_passes : {T U : Type 0} (E : T → T → Bool) (show : Option T → Option U) → SameShown (option_eq E) show → (a b : Borders T) → shown_borders show a ≡ shown_borders show b → borders_eq E a b ≡ true
borders_passes {U = U} E show passes a b e =
    passes_all (option_eq E a.top b.top) (other_tests E a b)
    (passes a.top b.top (ap (λ (s : Borders U). s.top) e), (passes a.top_left b.top_left (ap (λ (s : Borders U). s.top_left) e), (passes a.top_right b.top_right (ap (λ (s : Borders U). s.top_right) e), (passes a.top_intersection b.top_intersection (ap (λ (s : Borders U). s.top_intersection) e), (passes a.bottom b.bottom (ap (λ (s : Borders U). s.bottom) e), (passes a.bottom_left b.bottom_left (ap (λ (s : Borders U). s.bottom_left) e), (passes a.bottom_right b.bottom_right (ap (λ (s : Borders U). s.bottom_right) e), (passes a.bottom_intersection b.bottom_intersection (ap (λ (s : Borders U). s.bottom_intersection) e), (passes a.horizontal b.horizontal (ap (λ (s : Borders U). s.horizontal) e), (passes a.left_intersection b.left_intersection (ap (λ (s : Borders U). s.left_intersection) e), (passes a.right_intersection b.right_intersection (ap (λ (s : Borders U). s.right_intersection) e), (passes a.intersection b.intersection (ap (λ (s : Borders U). s.intersection) e), (passes a.vertical b.vertical (ap (λ (s : Borders U). s.vertical) e), (passes a.left b.left (ap (λ (s : Borders U). s.left) e), passes a.right b.right (ap (λ (s : Borders U). s.right) e)))))))))))))))

-- `==` of a border by that of its glyphs
abbrev corner_tests : {T : Type 0} → (T → T → Bool) → Border T → Border T → List Bool
corner_tests E a b = option_eq E a.bottom b.bottom ∷ option_eq E a.left b.left ∷ option_eq E a.right b.right ∷ option_eq E a.left_top_corner b.left_top_corner ∷ option_eq E a.left_bottom_corner b.left_bottom_corner ∷ option_eq E a.right_top_corner b.right_top_corner ∷ option_eq E a.right_bottom_corner b.right_bottom_corner ∷ []

abbrev pub border_eq : {T : Type 0} → (T → T → Bool) → Border T → Border T → Bool
border_eq E a b = all_pass (option_eq E a.top b.top) (corner_tests E a b)

pub border_same : {T : Type 0} (E : T → T → Bool) → ((x y : Option T) → option_eq E x y ≡ true → x ≡ y) → (a b : Border T) → border_eq E a b ≡ true → a ≡ b
border_same E same a b e =
    let each = each_passes (option_eq E a.top b.top) (corner_tests E a b) e in
    λ i. record {
      top = same a.top b.top each.0 i;
      bottom = same a.bottom b.bottom each.1.0 i;
      left = same a.left b.left each.1.1.0 i;
      right = same a.right b.right each.1.1.1.0 i;
      left_top_corner = same a.left_top_corner b.left_top_corner each.1.1.1.1.0 i;
      left_bottom_corner = same a.left_bottom_corner b.left_bottom_corner each.1.1.1.1.1.0 i;
      right_top_corner = same a.right_top_corner b.right_top_corner each.1.1.1.1.1.1.0 i;
      right_bottom_corner = same a.right_bottom_corner b.right_bottom_corner each.1.1.1.1.1.1.1 i;
    }
