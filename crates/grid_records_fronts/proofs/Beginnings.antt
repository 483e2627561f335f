-- Characters that a text begins with, and more after them.
use Rattle.std.proofs.Common.{◌≡◌, ℕ, zero, suc, ◌<◌, ◌&&◌, true, List, [], ◌∷◌, ◌++◌, length, refl, ap, sym, subst, ◌∙◌, arith, append_assoc, append-nil, length-append}
use Rattle.std.specs.Str.{IsUtf8, all_scalars}
use Rattle.std.proofs.lemmas.Bool.Decides.{nat_tests}
use Rattle.std.proofs.Math.Utf8.{encode, encodes}
use Rattle.std.proofs.lemmas.List.Folds.{list_all-append}
use Rattle.std.proofs.lemmas.Str.{IsUtf8-past_char, encodes-append, length-le-encodes}
use Rattle.grid_records_measure.specs.SimpleCharacters.{takes}
use Rattle.grid_records_fronts.specs.Emoji.{is_element, joiner, zwj_sequence}
use Rattle.grid_records_fronts.specs.Fronts.{Begins, BeginsWithElement, BeginsWithJoined, BeginsWithOther}

both-scalars : (cs ds : List ℕ) → all_scalars cs ≡ true → all_scalars ds ≡ true → all_scalars (cs ++ ds) ≡ true
both-scalars [] ds one two = two
both-scalars (c ∷ cs) ds one two = grind (arith, both-scalars cs ds, one, two)

pub begins-both : (text between rest cs ds : List ℕ) → Begins text cs between → Begins between ds rest → Begins text (cs ++ ds) rest
begins-both text between rest cs ds one two = record {
  parts = one.parts ∙ ap (λ l. encodes cs ++ l) two.parts ∙ sym (append_assoc (encodes cs) (encodes ds) rest) ∙ ap (λ l. l ++ rest) (sym (encodes-append cs ds));
  scalar = both-scalars cs ds one.scalar two.scalar;
}

-- ---- a simple character by itself

pub scalar-one : (c columns : ℕ) → takes c columns ≡ true → all_scalars (c ∷ []) ≡ true
scalar-one c zero h = grind (arith, nat_tests, h)
scalar-one c (suc zero) h = grind (arith, nat_tests, h)
scalar-one c (suc (suc zero)) h = grind (arith, nat_tests, h)
scalar-one c (suc (suc (suc n))) h = absurd (cc h)

pub parts-one : (text rest : List ℕ) (c : ℕ) → text ≡ encode c ++ rest → text ≡ encodes (c ∷ []) ++ rest
parts-one text rest c parts = parts ∙ ap (λ l. l ++ rest) (sym (append-nil (encode c)))

-- ---- after characters

-- what comes after characters is text
rest-utf8 : (text cs rest : List ℕ) → IsUtf8 text → text ≡ encodes cs ++ rest → IsUtf8 rest
rest-utf8 text [] rest utf8 parts = subst IsUtf8 parts utf8
rest-utf8 text (c ∷ cs) rest utf8 parts =
    let split = parts ∙ append_assoc (encode c) (encodes cs) rest in
    rest-utf8 (encodes cs ++ rest) cs rest (IsUtf8-past_char text (encodes cs ++ rest) c utf8 split) refl

pub begins-utf8 : (text cs rest : List ℕ) → IsUtf8 text → Begins text cs rest → IsUtf8 rest
begins-utf8 text cs rest utf8 known = rest-utf8 text cs rest utf8 known.parts

pub begins-shorter : (text cs rest : List ℕ) → 0 < length cs → Begins text cs rest → length rest < length text
begins-shorter text cs rest some known = omega (arith, some, length-le-encodes cs, ap length known.parts, length-append (encodes cs) rest)

-- ---- emoji, one after the other

pub joined-one : (text rest : List ℕ) → BeginsWithElement text rest → BeginsWithJoined text rest
joined-one text rest known = record {
  first = known.characters;
  others = [];
  begins = subst (λ cs. Begins text cs rest) (sym (append-nil known.characters)) known.begins;
  elements = ap (λ b. b && true) known.element;
}

joined-push : (first other : List ℕ) (others : List (List ℕ)) → zwj_sequence first others ++ joiner ∷ other ≡ zwj_sequence first (others ++ other ∷ [])
joined-push first other [] = ap (λ l. l ++ joiner ∷ other) (append-nil first) ∙ ap (λ l. first ++ joiner ∷ l) (sym (append-nil other))
joined-push first other (next ∷ others) =
    append_assoc first (joiner ∷ zwj_sequence next others) (joiner ∷ other) ∙ ap (λ l. first ++ joiner ∷ l) (joined-push next other others)

pub joined-more : (text rest behind : List ℕ) → BeginsWithJoined text rest → BeginsWithOther rest behind → BeginsWithJoined text behind
joined-more text rest behind known more = record {
  first = known.first;
  others = known.others ++ more.characters ∷ [];
  begins = subst (λ cs. Begins text cs behind) (joined-push known.first more.characters known.others) (begins-both text rest behind (zwj_sequence known.first known.others) (joiner ∷ more.characters) known.begins more.begins);
  elements = list_all-append is_element (known.first ∷ known.others) (more.characters ∷ []) ∙ ap (λ b. b && (is_element more.characters && true)) known.elements ∙ ap (λ b. b && true) more.element;
}
