-- What is compared as equal is the same.
use Rattle.std.proofs.Common.{◌≡◌, ◌∙◌, sym, refl, ap, ℕ, List, [], ◌∷◌, Less, Greater, Equal, nat_cmp, Ordering, arith, true, true≢false}
use Rattle.std.proofs.lemmas.Bool.Decides.{nat_tests}
use Rattle.std.specs.Cmp.Lexicographic.{slice_cmp}
use Rattle.std.specs.Ordering.{ordering_then, is_eq}
use Rattle.tabled_pool.specs.Boxes.Values.{Nesting, Text, Beside, Stacked, Nestings, NoMore, Member}
use Rattle.tabled_pool.specs.Boxes.Order.{compared, all_compared}

pub equal_is : (o : Ordering) → is_eq o ≡ true → o ≡ Equal
equal_is Equal h = refl
equal_is Less h = absurd (true≢false (sym h))
equal_is Greater h = absurd (true≢false (sym h))

pub first_equal : (o p : Ordering) → ordering_then o p ≡ Equal → o ≡ Equal
first_equal Equal p h = refl
first_equal Less p h = h
first_equal Greater p h = h

pub second_equal : (o p : Ordering) → ordering_then o p ≡ Equal → p ≡ Equal
second_equal Equal p h = h
second_equal Less p h = absurd (true≢false (sym (ap is_eq h)))
second_equal Greater p h = absurd (true≢false (sym (ap is_eq h)))

number_same : (x y : ℕ) → nat_cmp x y ≡ Equal → x ≡ y
number_same x y h = grind (arith, nat_tests)

number_itself : (x : ℕ) → nat_cmp x x ≡ Equal
number_itself x = grind (arith, nat_tests)

text_same : (a b : List ℕ) → slice_cmp nat_cmp a b ≡ Equal → a ≡ b
text_same [] [] h = refl
text_same [] (y ∷ ys) h = absurd (true≢false (sym (ap is_eq h)))
text_same (x ∷ xs) [] h = absurd (true≢false (sym (ap is_eq h)))
text_same (x ∷ xs) (y ∷ ys) h = λ i. number_same x y (first_equal _ (slice_cmp nat_cmp xs ys) h) i ∷ text_same xs ys (second_equal (nat_cmp x y) _ h) i

text_itself : (a : List ℕ) → slice_cmp nat_cmp a a ≡ Equal
text_itself [] = refl
text_itself (x ∷ xs) = (λ i. ordering_then (number_itself x i) (slice_cmp nat_cmp xs xs)) ∙ text_itself xs

mutual
  pub nesting_same : (a b : Nesting) → compared a b ≡ Equal → a ≡ b
  nesting_same (Beside a) (Beside b) h = ap Beside (nestings_same a b h)
  nesting_same (Beside a) (Stacked b) h = absurd (true≢false (sym (ap is_eq h)))
  nesting_same (Beside a) (Text b) h = absurd (true≢false (sym (ap is_eq h)))
  nesting_same (Stacked a) (Beside b) h = absurd (true≢false (sym (ap is_eq h)))
  nesting_same (Stacked a) (Stacked b) h = ap Stacked (nestings_same a b h)
  nesting_same (Stacked a) (Text b) h = absurd (true≢false (sym (ap is_eq h)))
  nesting_same (Text a) (Beside b) h = absurd (true≢false (sym (ap is_eq h)))
  nesting_same (Text a) (Stacked b) h = absurd (true≢false (sym (ap is_eq h)))
  nesting_same (Text a) (Text b) h = ap Text (text_same a b h)

  nestings_same : (a b : Nestings) → all_compared a b ≡ Equal → a ≡ b
  nestings_same NoMore NoMore h = refl
  nestings_same NoMore (Member b right) h = absurd (true≢false (sym (ap is_eq h)))
  nestings_same (Member a left) NoMore h = absurd (true≢false (sym (ap is_eq h)))
  nestings_same (Member a left) (Member b right) h =
      λ i. Member (nesting_same a b (first_equal (compared a b) (all_compared left right) h) i) (nestings_same left right (second_equal (compared a b) (all_compared left right) h) i)

mutual
  nesting_itself : (a : Nesting) → compared a a ≡ Equal
  nesting_itself (Beside a) = nestings_itself a
  nesting_itself (Stacked a) = nestings_itself a
  nesting_itself (Text a) = text_itself a

  nestings_itself : (a : Nestings) → all_compared a a ≡ Equal
  nestings_itself NoMore = refl
  nestings_itself (Member a left) = (λ i. ordering_then (nesting_itself a i) (all_compared left left)) ∙ nestings_itself left

pub nesting_equal : (a b : Nesting) → a ≡ b → compared a b ≡ Equal
nesting_equal a b h = sym (λ i. compared a (h i)) ∙ nesting_itself a
