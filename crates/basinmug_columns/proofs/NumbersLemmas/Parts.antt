-- Where a text of two parts is cut.
use Rattle.std.proofs.Common.{◌≡◌, ◌∙◌, ap, ap₂, refl, sym, ℕ, ◌+◌, Bool, true, false, cond, ◌&&◌, ◌||◌, List, [], ◌∷◌, drop}
use Rattle.std.specs.List.{list_all, prefix_len, take_while}
use Rattle.std.proofs.Math.Bool.{or-false}
use Rattle.std.proofs.Math.Numerals.{one-add}
use Rattle.std.proofs.lemmas.List.Sums.{take_while-cons}
use Rattle.basinmug_columns.specs.Numbers.Numbers.{followed_by, is_empty, is_one, or_nothing}
use Rattle.basinmug_columns.specs.Numbers.Scans.{behind, first_byte_passes, without_one}

-- ---- truth values

and-or : (a b r : Bool) → ((a || b) && r) ≡ ((a && r) || (b && r))
and-or true true true = refl
and-or true true false = refl
and-or true false true = refl
and-or true false false = refl
and-or false b r = refl

apart : (a b r x y : Bool) → (((a || b) && r) || (x || y)) ≡ (((a && r) || x) || ((b && r) || y))
apart true true true x y = refl
apart true false true true y = refl
apart true false true false y = refl
apart true true false true y = refl
apart true true false false y = refl
apart true false false true y = refl
apart true false false false y = refl
apart false true true true y = refl
apart false true true false true = refl
apart false true true false false = refl
apart false true false x y = refl
apart false false r x y = refl

regroup : (a b c d e : Bool) → (((a && b) && c) || ((a && d) || e)) ≡ ((a && ((b && c) || d)) || e)
regroup true true true d e = refl
regroup true true false true e = refl
regroup true true false false e = refl
regroup true false c true e = refl
regroup true false c false e = refl
regroup false b c d e = refl

and-false : (a b : Bool) → ((a && false) || b) ≡ b
and-false true b = refl
and-false false b = refl

and-assoc : (a b c : Bool) → ((a && b) && c) ≡ (a && (b && c))
and-assoc true b c = refl
and-assoc false b c = refl

never : (a b : Bool) → (a ≡ true → b ≡ true) → b ≡ false → a ≡ false
never true b implies is = sym (implies refl) ∙ is
never false b implies is = refl

and-right : (a b : Bool) → (a && b) ≡ true → b ≡ true
and-right true b is = is
and-right false true is = refl
and-right false false is = is

-- ---- cuts

-- no prefix, no text
pub followed-none : (front rest : List ℕ → Bool) (text : List ℕ) → ((more : List ℕ) → front more ≡ false) → followed_by front rest text ≡ false
followed-none front rest [] none = ap (λ (b : Bool). b && rest []) (none [])
followed-none front rest (byte ∷ bytes) none =
    ap₂ (λ (a b : Bool). (a && rest (byte ∷ bytes)) || b) (none []) (followed-none (λ more. front (byte ∷ more)) rest bytes (λ more. none (byte ∷ more)))

-- an empty prefix
pub followed-empty : (rest : List ℕ → Bool) (text : List ℕ) → followed_by is_empty rest text ≡ rest text
followed-empty rest [] = refl
followed-empty rest (byte ∷ bytes) = ap (λ (b : Bool). rest (byte ∷ bytes) || b) (followed-none (λ more. false) rest bytes (λ more. refl)) ∙ or-false (rest (byte ∷ bytes))

-- the one prefix or the other
pub followed-either : (one other rest : List ℕ → Bool) (text : List ℕ)
    → followed_by (λ more. one more || other more) rest text ≡ (followed_by one rest text || followed_by other rest text)
followed-either one other rest [] = and-or (one []) (other []) (rest [])
followed-either one other rest (byte ∷ bytes) =
    ap (λ (b : Bool). ((one [] || other []) && rest (byte ∷ bytes)) || b) (followed-either (λ more. one (byte ∷ more)) (λ more. other (byte ∷ more)) rest bytes)
    ∙ apart (one []) (other []) (rest (byte ∷ bytes)) (followed_by (λ more. one (byte ∷ more)) rest bytes) (followed_by (λ more. other (byte ∷ more)) rest bytes)

-- a prefix, or nothing
pub followed-optional : (front rest : List ℕ → Bool) (text : List ℕ) → followed_by (or_nothing front) rest text ≡ (rest text || followed_by front rest text)
followed-optional front rest text =
    followed-either is_empty front rest text ∙ ap (λ (b : Bool). b || followed_by front rest text) (followed-empty rest text)

-- a prefix that is of a kind only on a condition
pub followed-if : (holds : Bool) (front rest : List ℕ → Bool) (text : List ℕ) → followed_by (λ more. holds && front more) rest text ≡ (holds && followed_by front rest text)
followed-if true front rest text = refl
followed-if false front rest text = followed-none (λ more. false) rest text (λ more. refl)

-- of three parts it is the same which two are taken together
pub followed-together : (first second third : List ℕ → Bool) (text : List ℕ)
    → followed_by (followed_by first second) third text ≡ followed_by first (followed_by second third) text
followed-together first second third [] = and-assoc (first []) (second []) (third [])
followed-together first second third (byte ∷ bytes) =
    let firsts : List ℕ → Bool = λ more. first (byte ∷ more) in
    let seconds : List ℕ → Bool = λ more. second (byte ∷ more) in
    ap (λ (b : Bool). ((first [] && second []) && third (byte ∷ bytes)) || b)
    (followed-either (λ more. first [] && seconds more) (followed_by firsts second) third bytes
    ∙ ap₂ (λ (a b : Bool). a || b) (followed-if (first []) seconds third bytes) (followed-together firsts second third bytes))
    ∙ regroup (first []) (second []) (third (byte ∷ bytes)) (followed_by seconds third bytes) (followed_by firsts (followed_by second third) bytes)

-- one byte first
pub followed-one : (kind : ℕ → Bool) (rest : List ℕ → Bool) (text : List ℕ) → followed_by (is_one kind) rest text ≡ (first_byte_passes kind text && rest (drop 1 text))
followed-one kind rest [] = refl
followed-one kind rest (byte ∷ bytes) = followed-if (kind byte) is_empty rest bytes ∙ ap (λ (b : Bool). kind byte && b) (followed-empty rest bytes)

-- one byte first or none, where the rest does not begin with such a byte
pub followed-without : (kind : ℕ → Bool) (rest : List ℕ → Bool) (text : List ℕ) → ((byte : ℕ) (bytes : List ℕ) → kind byte ≡ true → rest (byte ∷ bytes) ≡ false)
    → followed_by (or_nothing (is_one kind)) rest text ≡ rest (without_one kind text)
followed-without kind rest [] stops = refl
followed-without kind rest (byte ∷ bytes) stops =
    followed-optional (is_one kind) rest (byte ∷ bytes)
    ∙ (ap (λ (b : Bool). rest (byte ∷ bytes) || b) (followed-one kind rest (byte ∷ bytes)) ∙ by (kind byte) refl)
  where
    by : (is : Bool) → kind byte ≡ is → (rest (byte ∷ bytes) || (is && rest bytes)) ≡ rest (cond is bytes (byte ∷ bytes))
    by true is = ap (λ (b : Bool). b || rest bytes) (stops byte bytes is)
    by false is = or-false (rest (byte ∷ bytes))

pub behind-cons : (kind : ℕ → Bool) (byte : ℕ) (bytes : List ℕ) → behind kind (byte ∷ bytes) ≡ cond (kind byte) (behind kind bytes) (byte ∷ bytes)
behind-cons kind byte bytes = by (kind byte)
  where
    by : (is : Bool) → drop (cond is (1 + prefix_len kind bytes) 0) (byte ∷ bytes) ≡ cond is (drop (prefix_len kind bytes) bytes) (byte ∷ bytes)
    by true = ap (λ (n : ℕ). drop n (byte ∷ bytes)) (one-add (prefix_len kind bytes))
    by false = refl

-- a prefix of bytes of a kind alone, where the rest does not begin with such a byte, is the longest such prefix
pub followed-longest : (kind : ℕ → Bool) (front rest : List ℕ → Bool) (text : List ℕ)
    → ((more : List ℕ) → front more ≡ true → list_all kind more ≡ true)
    → ((byte : ℕ) (bytes : List ℕ) → kind byte ≡ true → rest (byte ∷ bytes) ≡ false)
    → followed_by front rest text ≡ (front (take_while kind text) && rest (behind kind text))
followed-longest kind front rest [] only stops = refl
followed-longest kind front rest (byte ∷ bytes) only stops =
    by (kind byte) refl (followed-longest kind (λ more. front (byte ∷ more)) rest bytes (λ more fits. and-right (kind byte) (list_all kind more) (only (byte ∷ more) fits)) stops)
    ∙ sym (ap₂ (λ (whole more : List ℕ). front whole && rest more) (take_while-cons kind byte bytes) (behind-cons kind byte bytes))
  where
    by : (is : Bool) → kind byte ≡ is
        → followed_by (λ more. front (byte ∷ more)) rest bytes ≡ (front (byte ∷ take_while kind bytes) && rest (behind kind bytes))
        → ((front [] && rest (byte ∷ bytes)) || followed_by (λ more. front (byte ∷ more)) rest bytes)
        ≡ (front (cond is (byte ∷ take_while kind bytes) []) && rest (cond is (behind kind bytes) (byte ∷ bytes)))
    by true is further =
        ap₂ (λ (a b : Bool). (front [] && a) || b) (stops byte bytes is) further
        ∙ and-false (front []) (front (byte ∷ take_while kind bytes) && rest (behind kind bytes))
    by false is further =
        ap (λ (b : Bool). (front [] && rest (byte ∷ bytes)) || b)
        (followed-none (λ more. front (byte ∷ more)) rest bytes
        (λ more. never (front (byte ∷ more)) (list_all kind (byte ∷ more)) (only (byte ∷ more)) (ap (λ (b : Bool). b && list_all kind more) is)))
        ∙ or-false (front [] && rest (byte ∷ bytes))
