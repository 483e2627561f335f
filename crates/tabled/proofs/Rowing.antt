-- Each row with its texts, one more.
use Rattle.std.proofs.Common.{List, [], ◌∷◌, ◌++◌}
use Rattle.std.specs.List.{AllZip}

pub all_pushed : {A B : Type 0} (R : A → B → Type 0) (xs : List A) (ys : List B) (x : A) (y : B) → AllZip R xs ys → R x y → AllZip R (xs ++ x ∷ []) (ys ++ y ∷ [])
all_pushed R [] [] x y all here = (here, tt)
all_pushed R [] (b ∷ ys) x y all here = absurd all
all_pushed R (a ∷ xs) [] x y all here = absurd all
all_pushed R (a ∷ xs) (b ∷ ys) x y all here = (all.0, all_pushed R xs ys x y all.1 here)
