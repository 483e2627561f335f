-- What holds of the one of two ways that is taken.
use Rattle.std.proofs.Common.{◌≡◌, ◌⊎◌, inl, inr, sym, subst, Bool, true, false, Result, Ok, Err}
use Rattle.std.specs.Prelude.{IfErr, IfOk, MatchBool, OnErr}

pub first : (b : Bool) (P Q : Type 0) → b ≡ true → P → MatchBool b P Q
first b P Q is p = subst (λ (it : Bool). MatchBool it P Q) (sym is) p

pub second : (b : Bool) (P Q : Type 0) → b ≡ false → Q → MatchBool b P Q
second b P Q is q = subst (λ (it : Bool). MatchBool it P Q) (sym is) q

module _ {T E : Type 0} (b : Bool) where
  pub ok-first : (r : Result T E) (P Q : T → Type 0) → b ≡ true → IfOk r P → IfOk r (λ it. MatchBool b (P it) (Q it))
  ok-first (Ok x) P Q is p = first b (P x) (Q x) is p
  ok-first (Err e) P Q is p = tt

  pub ok-second : (r : Result T E) (P Q : T → Type 0) → b ≡ false → IfOk r Q → IfOk r (λ it. MatchBool b (P it) (Q it))
  ok-second (Ok x) P Q is q = second b (P x) (Q x) is q
  ok-second (Err e) P Q is q = tt

  pub err-first : (r : Result T E) (P Q : E → Type 0) → b ≡ true → IfErr r P → IfErr r (λ it. MatchBool b (P it) (Q it))
  err-first (Ok x) P Q is p = tt
  err-first (Err e) P Q is p = first b (P e) (Q e) is p

  pub err-second : (r : Result T E) (P Q : E → Type 0) → b ≡ false → IfErr r Q → IfErr r (λ it. MatchBool b (P it) (Q it))
  err-second (Ok x) P Q is q = tt
  err-second (Err e) P Q is q = second b (P e) (Q e) is q

  -- or something else
  pub front-first : (r : Result T E) (Same P Q : Type 0) → b ≡ true → OnErr r (Same ⊎ P) → OnErr r (Same ⊎ MatchBool b P Q)
  front-first (Ok x) Same P Q is p = tt
  front-first (Err e) Same P Q is (inl same) = inl same
  front-first (Err e) Same P Q is (inr p) = inr (first b P Q is p)

  pub front-second : (r : Result T E) (Same P Q : Type 0) → b ≡ false → OnErr r (Same ⊎ Q) → OnErr r (Same ⊎ MatchBool b P Q)
  front-second (Ok x) Same P Q is q = tt
  front-second (Err e) Same P Q is (inl same) = inl same
  front-second (Err e) Same P Q is (inr q) = inr (second b P Q is q)
