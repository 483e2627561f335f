-- What the definitions of a sequence and of its parameters say, case by case.
use Rattle.std.proofs.Common.{◌≡◌, ℕ, suc, ◌+◌, ◌-◌, ◌<◌, ◌≤◌, Bool, true, false, ◌&&◌, ◌||◌, Option, None, Some, List, [], ◌∷◌, ◌++◌, refl, ap, ◌∙◌, sym, subst, arith, fold, take, length, get_or, nat_le, ◌==◌, if◌then◌else◌}
use Rattle.std.specs.Prelude.{IsTrue, slice_index, slice_range}
use Rattle.std.specs.List.{list_all}
use Rattle.std.proofs.lemmas.Bool.{and_parts, leb-true, eqb-true, true≢false}
use Rattle.std.proofs.lemmas.List.{take_more, take_all}
use Rattle.ansi_scan.specs.declared.style.next.Layer.{Layer}
use Rattle.ansi_scan.specs.declared.style.next.Layer.TheVariants.{Foreground, Background, Underline}
use Rattle.ansi_scan.specs.declared.style.next.Next.TheVariants.{Code, Form, Index, Red, Nothing}
use Rattle.ansi_scan.specs.Styles.Attributes.{Attributes, after_code}
use Rattle.ansi_scan.specs.Styles.Rendition.{is_numeric, sgr_parameters, Effect, OfCode, layer_of, effects, effects_of_color, effects_of_index, effects_of_rgb, with_color, after_effect, after_parameters}
use Rattle.ansi_scan.specs.Styles.NextParameter.{next_after_code, reading_after}
use Rattle.ansi_scan.specs.declared.style.color.AnsiColor.TheVariants.{Bit8, Bit24}
use Rattle.ansi_scan.specs.Styles.ColorForms.{is_color_code, indexed_color, direct_color, color_at_front, after_color}
use Rattle.ansi_scan.specs.Styles.Sequences.{layer_code}

-- one of three values, or the fourth where no test holds
last_choice : {V : Type 0} (t u v : Bool) (x y z w : V) → (t || u || v) ≡ false → (if t then x else (if u then y else (if v then z else w))) ≡ w
last_choice true u v x y z w none = absurd (true≢false none)
last_choice false true v x y z w none = absurd (true≢false none)
last_choice false false true x y z w none = absurd (true≢false none)
last_choice false false false x y z w none = refl

no_layer : (code : ℕ) → is_color_code code ≡ false → layer_of code ≡ None
no_layer code other =
    last_choice (code == 38) (code == 48) (code == 58) (Some Foreground) (Some Background) (Some Underline) None other

code_next : (code : ℕ) → is_color_code code ≡ false → next_after_code code ≡ Code
code_next code other =
    last_choice (code == 38) (code == 48) (code == 58) (Form Foreground) (Form Background) (Form Underline) Code other

effects-code : (code : ℕ) (others : List (Option ℕ)) → is_color_code code ≡ false → effects (Some code ∷ others) ≡ OfCode code ∷ effects others
effects-code code others other =
    ap (λ layer. elim layer as (λ o. List Effect) [ None ↦ OfCode code ∷ effects others | Some layer ↦ effects_of_color layer others ]) (no_layer code other)

-- what holds at 38, 48 and 58 and at every other code holds at each
by_color_code : (P : ℕ → Type 0) (code : ℕ) → P 38 → P 48 → P 58 → (is_color_code code ≡ false → P code) → P code
by_color_code P code at_38 at_48 at_58 otherwise = from_38 (code == 38) refl
  where
    at_code : (n : ℕ) → P n → (code == n) ≡ true → P code
    at_code n here e = subst P (sym (eqb-true code n e)) here

    from_58 : (t : Bool) → (code == 58) ≡ t → (code == 38) ≡ false → (code == 48) ≡ false → P code
    from_58 true e f g = at_code 58 at_58 e
    from_58 false e f g = otherwise (rw (f, g, e) refl)

    from_48 : (t : Bool) → (code == 48) ≡ t → (code == 38) ≡ false → P code
    from_48 true e f = at_code 48 at_48 e
    from_48 false e f = from_58 (code == 58) refl f e

    from_38 : (t : Bool) → (code == 38) ≡ t → P code
    from_38 true e = at_code 38 at_38 e
    from_38 false e = from_48 (code == 48) refl e

-- ---- one parameter after the other

-- after a colour that is not of the form nothing has an effect
nothing_more : (a : Attributes) (parameters : List (Option ℕ)) → (fold reading_after (a, Nothing) parameters).0 ≡ a
nothing_more a [] = refl
nothing_more a (None ∷ others) = nothing_more a others
nothing_more a (Some n ∷ others) = nothing_more a others

mutual
  read_codes : (a : Attributes) (parameters : List (Option ℕ)) → (fold reading_after (a, Code) parameters).0 ≡ fold after_effect a (effects parameters)
  read_codes a [] = refl
  read_codes a (None ∷ others) = read_codes a others
  read_codes a (Some code ∷ others) =
      by_color_code (λ n. (fold reading_after (a, Code) (Some n ∷ others)).0 ≡ fold after_effect a (effects (Some n ∷ others))) code
      (read_color a Foreground others) (read_color a Background others) (read_color a Underline others)
      (λ other. ap (λ next. (fold reading_after (after_code a code, next) others).0) (code_next code other)
      ∙ (read_codes (after_code a code) others ∙ ap (λ each. fold after_effect a each) (sym (effects-code code others other))))

  read_color : (a : Attributes) (layer : Layer) (parameters : List (Option ℕ)) → (fold reading_after (a, Form layer) parameters).0 ≡ fold after_effect a (effects_of_color layer parameters)
  read_color a layer [] = refl
  read_color a layer (None ∷ others) = nothing_more a others
  read_color a layer (Some form ∷ others) =
      elim (form == 5) as (λ t. (fold reading_after (a, (if t then Index layer else (if form == 2 then Red layer else Nothing))) others).0
      ≡ fold after_effect a (if t then effects_of_index layer others else (if form == 2 then effects_of_rgb layer others else []))) [
        | true ↦ read_index a layer others
        | false ↦ elim (form == 2) as (λ t. (fold reading_after (a, (if t then Red layer else Nothing)) others).0
            ≡ fold after_effect a (if t then effects_of_rgb layer others else [])) [
              | true ↦ read_rgb a layer others
              | false ↦ nothing_more a others
            ]
      ]

  read_index : (a : Attributes) (layer : Layer) (parameters : List (Option ℕ)) → (fold reading_after (a, Index layer) parameters).0 ≡ fold after_effect a (effects_of_index layer parameters)
  read_index a layer [] = refl
  read_index a layer (None ∷ others) = nothing_more a others
  read_index a layer (Some n ∷ others) = read_codes (with_color a layer (Bit8 n)) others

  read_rgb : (a : Attributes) (layer : Layer) (parameters : List (Option ℕ)) → (fold reading_after (a, Red layer) parameters).0 ≡ fold after_effect a (effects_of_rgb layer parameters)
  read_rgb a layer [] = refl
  read_rgb a layer (None ∷ others) = nothing_more a others
  read_rgb a layer (Some r ∷ []) = refl
  read_rgb a layer (Some r ∷ None ∷ others) = nothing_more a others
  read_rgb a layer (Some r ∷ Some g ∷ []) = refl
  read_rgb a layer (Some r ∷ Some g ∷ None ∷ others) = nothing_more a others
  read_rgb a layer (Some r ∷ Some g ∷ Some b ∷ others) = read_codes (with_color a layer (Bit24 r g b)) others

-- reading parameters one by one, with what the next one is kept, gives what they do
pub fold-reading_after : (a : Attributes) (parameters : List (Option ℕ)) → (fold reading_after (a, Code) parameters).0 ≡ after_parameters a parameters
unfolding after_parameters
fold-reading_after a parameters = read_codes a parameters

-- ---- the effects in order

pub after_parameters-nil : (a : Attributes) → after_parameters a [] ≡ a
unfolding after_parameters
after_parameters-nil a = refl

pub after_parameters-none : (a : Attributes) (others : List (Option ℕ)) → after_parameters a (None ∷ others) ≡ after_parameters a others
unfolding after_parameters
after_parameters-none a others = refl

pub after_parameters-code : (a : Attributes) (code : ℕ) (others : List (Option ℕ)) → is_color_code code ≡ false → after_parameters a (Some code ∷ others) ≡ after_parameters (after_code a code) others
unfolding after_parameters
after_parameters-code a code others other = ap (λ each. fold after_effect a each) (effects-code code others other)

after_index : (a : Attributes) (layer : Layer) (parameters : List (Option ℕ)) → fold after_effect a (effects_of_index layer parameters) ≡ after_color a layer (indexed_color parameters)
unfolding after_parameters
after_index a layer [] = refl
after_index a layer (None ∷ others) = refl
after_index a layer (Some n ∷ others) = refl

after_rgb : (a : Attributes) (layer : Layer) (parameters : List (Option ℕ)) → fold after_effect a (effects_of_rgb layer parameters) ≡ after_color a layer (direct_color parameters)
unfolding after_parameters
after_rgb a layer [] = refl
after_rgb a layer (None ∷ others) = refl
after_rgb a layer (Some r ∷ []) = refl
after_rgb a layer (Some r ∷ None ∷ others) = refl
after_rgb a layer (Some r ∷ Some g ∷ []) = refl
after_rgb a layer (Some r ∷ Some g ∷ None ∷ others) = refl
after_rgb a layer (Some r ∷ Some g ∷ Some b ∷ others) = refl

after_form : (a : Attributes) (layer : Layer) (parameters : List (Option ℕ)) → fold after_effect a (effects_of_color layer parameters) ≡ after_color a layer (color_at_front parameters)
after_form a layer [] = refl
after_form a layer (None ∷ others) = refl
after_form a layer (Some form ∷ others) =
    elim (form == 5) as (λ t. fold after_effect a (if t then effects_of_index layer others else (if form == 2 then effects_of_rgb layer others else []))
    ≡ after_color a layer (if t then indexed_color others else (if form == 2 then direct_color others else None))) [
      | true ↦ after_index a layer others
      | false ↦ elim (form == 2) as (λ t. fold after_effect a (if t then effects_of_rgb layer others else [])
          ≡ after_color a layer (if t then direct_color others else None)) [
            | true ↦ after_rgb a layer others
            | false ↦ refl
          ]
    ]

pub after_parameters-color : (a : Attributes) (layer : Layer) (others : List (Option ℕ)) → after_parameters a (Some (layer_code layer) ∷ others) ≡ after_color a layer (color_at_front others)
unfolding after_parameters
after_parameters-color a Foreground others = after_form a Foreground others
after_parameters-color a Background others = after_form a Background others
after_parameters-color a Underline others = after_form a Underline others

-- a list and its last element
front_and_last : (bytes : List ℕ) → 0 < length bytes → bytes ≡ take (length bytes - 1) bytes ++ get_or bytes (length bytes - 1) 0 ∷ []
front_and_last bytes some =
    sym (take_all (length bytes - 1 + 1) bytes (omega arith)) ∙ take_more bytes (length bytes - 1) 0 (omega arith)

-- a value that is there only under a test
chosen : {V : Type 0} (t : Bool) (value other : V) → (if t then Some value else None) ≡ Some other → (t ≡ true) × (value ≡ other)
chosen true value other e = (refl, cc)
chosen false value other e = cc

-- the bytes, where the test of their parts holds
sequence_of_parts : (bytes : List ℕ) → 3 ≤ length bytes → slice_index bytes 0 ≡ 27 → slice_index bytes 1 ≡ 91
    → slice_index bytes (length bytes - 1) ≡ 109 → bytes ≡ 27 ∷ 91 ∷ (slice_range bytes 2 (length bytes - 1) ++ 109 ∷ [])
sequence_of_parts [] long escape bracket last = absurd (omega arith)
sequence_of_parts (x ∷ []) long escape bracket last = absurd (omega arith)
sequence_of_parts (x ∷ y ∷ rest) long escape bracket last =
    let some : 0 < length rest = omega arith in
    let before : length rest - 1 ≡ length (x ∷ y ∷ rest) - 1 - 2 = omega arith in
    let place : suc (suc (length rest - 1)) ≡ length (x ∷ y ∷ rest) - 1 = omega arith in
    let ends : get_or rest (length rest - 1) 0 ≡ 109 = ap (λ k. get_or (x ∷ y ∷ rest) k 0) place ∙ last in
    ap (λ first. first ∷ y ∷ rest) escape
    ∙ (ap (λ second. 27 ∷ second ∷ rest) bracket
    ∙ ap (λ others. 27 ∷ 91 ∷ others) (front_and_last rest some
    ∙ (ap (λ final. take (length rest - 1) rest ++ final ∷ []) ends
    ∙ ap (λ k. take k rest ++ 109 ∷ []) before)))

pub sequence_from-sgr_parameters : (bytes parameters : List ℕ) → sgr_parameters bytes ≡ Some parameters
    → (bytes ≡ 27 ∷ 91 ∷ (parameters ++ 109 ∷ [])) × IsTrue (list_all is_numeric parameters)
sequence_from-sgr_parameters bytes parameters e =
    let last = length bytes - 1 in
    let between = slice_range bytes 2 last in
    let test_long = nat_le 3 (length bytes) in
    let test_escape = slice_index bytes 0 == 27 in
    let test_bracket = slice_index bytes 1 == 91 in
    let test_last = slice_index bytes last == 109 in
    let test_all = list_all is_numeric between in
    let both = chosen (test_long && test_escape && test_bracket && test_last && test_all) between parameters e in
    let five = and_parts (test_long && test_escape && test_bracket && test_last) test_all both.0 in
    let four = and_parts (test_long && test_escape && test_bracket) test_last five.0 in
    let three = and_parts (test_long && test_escape) test_bracket four.0 in
    let two = and_parts test_long test_escape three.0 in (
      sequence_of_parts bytes (leb-true 3 (length bytes) two.0) (eqb-true (slice_index bytes 0) 27 two.1) (eqb-true (slice_index bytes 1) 91 three.1) (eqb-true (slice_index bytes last) 109 four.1)
          ∙ ap (λ middle. 27 ∷ 91 ∷ (middle ++ 109 ∷ [])) both.1,
      ap (list_all is_numeric) (sym both.1) ∙ five.1,
    )
