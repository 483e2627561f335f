-- `==` of the shapes of tables, as it is derived, is equality of all five values.
use Rattle.std.proofs.Common.{◌≡◌, ℕ, Bool, true, ◌==◌, List, [], ◌∷◌, refl, arith}
use Rattle.std.specs.Option.{option_eq}
use Rattle.std.proofs.lemmas.Bool.{eqb-true}
use Rattle.std.proofs.lemmas.Bool.Decides.{nat_tests}
use Rattle.grid_config_values.proofs.Equality.{each_passes, passes_all, option_passes, same_option}
use Rattle.tabled_compact.specs.contracts.iter.sizes.ShapePartialEq.TheImpl.{ghosts as shapes}
use Rattle.tabled_compact.specs.declared.iter.sizes.Shape.{Shape}

abbrev number_eq : ℕ → ℕ → Bool
number_eq m n = m == n

number_passes : (m n : ℕ) → m ≡ n → number_eq m n ≡ true
number_passes m n e = grind (arith, nat_tests)

-- the tests after that of the columns
abbrev other_tests : Shape → Shape → List Bool
other_tests a b = (a.sniff == b.sniff) ∷ option_eq number_eq a.kept b.kept ∷ option_eq number_eq a.width b.width ∷ option_eq number_eq a.height b.height ∷ []

pub shape_same : (a b : Shape) → shapes.eq a b ≡ true → a ≡ b
shape_same a b e =
    let each = each_passes (option_eq number_eq a.columns b.columns) (other_tests a b) e in
    λ i. record {
      columns = same_option number_eq eqb-true a.columns b.columns each.0 i;
      sniff = eqb-true a.sniff b.sniff each.1.0 i;
      kept = same_option number_eq eqb-true a.kept b.kept each.1.1.0 i;
      width = same_option number_eq eqb-true a.width b.width each.1.1.1.0 i;
      height = same_option number_eq eqb-true a.height b.height each.1.1.1.1 i;
    }

pub shape_itself : (a : Shape) → shapes.eq a a ≡ true
shape_itself a =
    passes_all (option_eq number_eq a.columns a.columns) (other_tests a a) (
      option_passes number_eq (λ n. n) number_passes a.columns a.columns refl,
      (
        number_passes a.sniff a.sniff refl,
        (
          option_passes number_eq (λ n. n) number_passes a.kept a.kept refl,
          (
            option_passes number_eq (λ n. n) number_passes a.width a.width refl,
            option_passes number_eq (λ n. n) number_passes a.height a.height refl,
          ),
        ),
      ),
    )
