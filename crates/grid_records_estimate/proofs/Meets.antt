-- One need met, and one after the other.
use Rattle.std.proofs.Common.{◌≡◌, ℕ, zero, suc, ◌+◌, ◌-◌, ◌^◌, ◌<◌, ◌≤◌, Bool, true, false, if◌then◌else◌, List, [], ◌∷◌, ◌++◌, length, sum, take, drop, get_or, refl, ap, sym, ◌∙◌, subst, arith, fold, Result, Ok, Err, IfErr, IsErrAnd, OnOk, OnErr}
use Rattle.std.proofs.lemmas.List.{take-append-drop, get_or-append-add}
use Rattle.std.proofs.lemmas.List.Sums.{fold-append, fold_more}
use Rattle.std.specs.List.{filter, range_with_len}
use Rattle.grid_config_values.specs.declared.fault.Fault.{Fault}
use Rattle.grid_records_estimate.specs.declared.need.Need.{Need}
use Rattle.grid_records_estimate.specs.Estimates.{boundaries_within, meet, with_shares}
use Rattle.grid_records_estimate.specs.Collecting.{HasBetween, PassesMax}
use Rattle.grid_records_estimate.proofs.Growing.{Grows-meet_all, PassesMax-Grows}

pub OnOk-implies : {T E P Q : Type 0} (r : Result T E) → (P → Q) → OnOk r P → OnOk r Q
OnOk-implies (Ok x) f p = f p
OnOk-implies (Err e) f p = p

pub OnErr-implies : {T E P Q : Type 0} (r : Result T E) → (P → Q) → OnErr r P → OnErr r Q
OnErr-implies (Ok x) f p = p
OnErr-implies (Err e) f p = f p

-- an error that is passed on
pub IfErr-told : {T : Type 0} (r : Result T Fault) (fault : Fault) (P : Fault → Type 0) → IsErrAnd r (λ e. e ≡ fault) → P fault → IfErr r P
IfErr-told (Ok value) fault P told h = tt
IfErr-told (Err e) fault P told h = subst P (sym told) h

pub OnErr-always : {T E P : Type 0} (r : Result T E) → P → OnErr r P
OnErr-always (Ok x) p = tt
OnErr-always (Err e) p = p

-- numbers at which a test gives one answer
kept : (f : ℕ → Bool) (b : Bool) (a n : ℕ) → ((i : ℕ) → a ≤ i → i < a + n → f i ≡ b) → length (filter f (range_with_len a n)) ≡ (if b then n else 0)
kept f true a zero same = refl
kept f false a zero same = refl
kept f b a (suc n) same = grind (arith, same a, kept f b (a + 1) n (λ i low high. same i (omega arith) (omega arith)))

module _ (has_boundary : ℕ → Bool) where
  pub boundaries_within-is : (tracks : ℕ) (between : Bool) (need : Need) → HasBetween has_boundary tracks between → 0 < need.length → need.first + need.length ≤ tracks
      → boundaries_within has_boundary need ≡ (if between then need.length - 1 else 0)
  boundaries_within-is tracks between need same some fit =
      kept has_boundary between (need.first + 1) (need.length - 1) (λ i low high. same i (omega arith) (omega arith))

  -- what is put back into all sizes, where the tracks of the need were a part of them
  pub meet-put_back : (between : Bool) (sizes new : List ℕ) (need : Need) (k held boundaries lack : ℕ)
      → HasBetween has_boundary (length sizes) between → 0 < need.length → need.first + need.length ≤ length sizes → k ≡ need.length
      → held ≡ sum (take k (drop need.first sizes)) → boundaries ≡ (if between then need.length - 1 else 0)
      → lack ≡ need.size - (held + boundaries) → new ≡ with_shares lack (take k (drop need.first sizes))
      → take need.first sizes ++ (new ++ drop k (drop need.first sizes)) ≡ meet has_boundary sizes need
  meet-put_back between sizes new need k held boundaries lack inner some fit same holds counts lacks shared =
      let rest = drop need.first sizes in
      let all : lack ≡ need.size - (sum (take k rest) + boundaries_within has_boundary need) =
      lacks ∙ ap (λ n. need.size - (n + boundaries)) holds
      ∙ ap (λ n. need.size - (sum (take k rest) + n)) (counts ∙ sym (boundaries_within-is (length sizes) between need inner some fit)) in
      ap (λ part. take need.first sizes ++ (part ++ drop k rest)) shared
      ∙ ap (λ n. take need.first sizes ++ (with_shares n (take k rest) ++ drop k rest)) all
      ∙ ap (λ n. take need.first sizes ++ (with_shares (need.size - (sum (take n rest) + boundaries_within has_boundary need)) (take n rest) ++ drop n rest)) same

  -- a size that passes the greatest `usize` in that part does so among all
  pub PassesMax-put_back : (before part behind : List ℕ) → PassesMax part → PassesMax (before ++ (part ++ behind))
  PassesMax-put_back before part behind p =
      (length before + p.0, rw (get_or-append-add before (part ++ behind) p.0 0) (left part p.0 p.1)) where
        left : (part : List ℕ) (k : ℕ) → 2 ^ 64 ≤ get_or part k 0 → 2 ^ 64 ≤ get_or (part ++ behind) k 0
        left [] k h = absurd (omega arith)
        left (x ∷ xs) zero h = h
        left (x ∷ xs) (suc k) h = left xs k h

  -- where a need among some can't be met, nor can they all
  pub PassesMax-later : (sizes : List ℕ) (needs : List Need) (i : ℕ) (d : Need) → i < length needs
      → PassesMax (meet has_boundary (fold (meet has_boundary) sizes (take i needs)) (get_or needs i d))
      → PassesMax (fold (meet has_boundary) sizes needs)
  PassesMax-later sizes needs i d inside p =
      let f = meet has_boundary in
      let front = take (i + 1) needs in
      let behind = drop (i + 1) needs in
      let first : PassesMax (fold f sizes front) = rw (fold_more f sizes needs i d inside) p in
      let all : fold f sizes needs ≡ fold f (fold f sizes front) behind =
      ap (fold f sizes) (sym (take-append-drop (i + 1) needs)) ∙ fold-append f sizes front behind in
      let later : PassesMax (fold f (fold f sizes front) behind) =
      PassesMax-Grows (fold f sizes front) (fold f (fold f sizes front) behind) (Grows-meet_all has_boundary (fold f sizes front) behind) first in
      let P : List ℕ → Type 0 = λ xs. PassesMax xs in
      subst P (sym all) later
