-- A text that is written after another.
use Rattle.std.proofs.Common.{◌≡◌, ◌⊎◌, ◌∙◌, ◌+◌, ℕ, List, [], ◌++◌, Option, Result, Ok, Err, append-nil, append_assoc, arith, ap, inl, inr, length, subst, sym, take}
use Rattle.std.proofs.Math.Seq.{take-append-add, take-append_seam}
use Rattle.std.specs.Prelude.{OnErr, OnOk}
use Rattle.std.proofs.lemmas.List.{take-append-le, take_all}
use Rattle.std.proofs.lemmas.Bool.{cases_lt}
use Rattle.std.specs.Io.KnownBytes.{Appends}
use Rattle.tabled_output.specs.declared.building.BuildFault.{BuildFault}
use Rattle.tabled_output.specs.Counts.{inner_of}
use Rattle.tabled_output.specs.Streams.{AppendsFront}
use Rattle.tabled_output.specs.declared.counted.Counted.{Counted}
use Rattle.std.proofs.KnownBytes.{Appends-nil, Appends-trans}
use Rattle.tabled_output.proofs.WrittenPieces.{front-taken}

-- a prefix of a text is one of a longer text
pub front-of-more : (old new : Option (List ℕ)) (text more : List ℕ) → AppendsFront old new text → AppendsFront old new (text ++ more)
front-of-more old new text more (n, taken) =
    elim (cases_lt n (length text)) as (λ _. AppendsFront old new (text ++ more)) [
      | inl less ↦ (n, subst (Appends old new) (sym (take-append-le n text more (omega (arith, less)))) taken)
      | inr past ↦ (length text, subst (Appends old new) (take_all n text (omega (arith, past)) ∙ sym (take-append_seam text more)) taken)
    ]

module _ {T : Type 0} (contents : T → Option (List ℕ)) (text more : List ℕ) (a b c : Counted T) where
  -- a prefix of a text after another
  pub front-behind : Appends (contents (inner_of a)) (contents (inner_of b)) text → (front rest : List ℕ) → Appends (contents (inner_of b)) (contents (inner_of c)) front → front ++ rest ≡ more
      → AppendsFront (contents (inner_of a)) (contents (inner_of c)) (text ++ more)
  front-behind whole front rest taken is =
      front-taken contents (text ++ more) (text ++ front) rest a c (Appends-trans (contents (inner_of a)) (contents (inner_of b)) (contents (inner_of c)) text front whole taken) (append_assoc text front rest ∙ ap (λ l. text ++ l) is)

-- all of a text is a prefix of it
whole-front : (old new : Option (List ℕ)) (text : List ℕ) → Appends old new text → AppendsFront old new text
whole-front old new text whole = (length text, subst (Appends old new) (sym (take_all (length text) text (omega arith))) whole)

-- nothing is a prefix of any text
pub no-front : (old : Option (List ℕ)) (text : List ℕ) → AppendsFront old old text
no-front old text = (0, Appends-nil old)

-- a prefix of what is after a whole text
pub front-behind-whole : (old mid new : Option (List ℕ)) (text more : List ℕ) → Appends old mid text → AppendsFront mid new more → AppendsFront old new (text ++ more)
front-behind-whole old mid new text more whole (n, taken) =
    (length text + n, subst (Appends old new) (sym (take-append-add text more n)) (Appends-trans old mid new text (take n more) whole taken))

-- a text all of which was taken
pub passed-whole : (old new : Option (List ℕ)) (text front : List ℕ) → Appends old new front → front ++ [] ≡ text → Appends old new text
passed-whole old new text front taken is = subst (Appends old new) (sym (append-nil front) ∙ is) taken

-- a prefix of a text was taken
pub stopped-before : {T : Type 0} (contents : T → Option (List ℕ)) (text : List ℕ) (a b : Counted T) (front rest : List ℕ) → Appends (contents (inner_of a)) (contents (inner_of b)) front → front ++ rest ≡ text
    → AppendsFront (contents (inner_of a)) (contents (inner_of b)) text
stopped-before contents text a b front rest taken is = front-taken contents text front rest a b taken is

on-ok-map : {T E : Type 0} (r : Result T E) (P Q : Type 0) → (P → Q) → OnOk r P → OnOk r Q
on-ok-map (Ok x) P Q to p = to p
on-ok-map (Err e) P Q to p = tt

module _ (r : Result (Unit {0}) BuildFault) (old mid new : Option (List ℕ)) (text more : List ℕ) (whole : Appends old mid text) where
  -- what is written after a whole text
  pub all-behind : OnOk r (Appends mid new more) → OnOk r (Appends old new (text ++ more))
  all-behind behind = on-ok-map r _ _ (λ it. Appends-trans old mid new text more whole it) behind

module _ {T : Type 0} (contents : T → Option (List ℕ)) (Fits : Type 0) (text : List ℕ) (a b : Counted T) where
  -- what is written of a text is a prefix of it
  any-front : (r : Result (Unit {0}) BuildFault) → OnOk r (Appends (contents (inner_of a)) (contents (inner_of b)) text)
      → OnErr r ((b ≡ a) ⊎ (Fits × AppendsFront (contents (inner_of a)) (contents (inner_of b)) text)) → AppendsFront (contents (inner_of a)) (contents (inner_of b)) text
  any-front (Ok done) whole front = whole-front _ _ text whole
  any-front (Err fault) whole (inl same) = subst (λ (c : Counted T). AppendsFront (contents (inner_of a)) (contents (inner_of c)) text) (sym same) (no-front (contents (inner_of a)) text)
  any-front (Err fault) whole (inr front) = front.1

  -- or of what is after a whole text
  pub front-behind-first : (r : Result (Unit {0}) BuildFault) (old : Option (List ℕ)) (first : List ℕ) → Appends old (contents (inner_of a)) first → OnOk r (Appends (contents (inner_of a)) (contents (inner_of b)) text)
      → OnErr r ((b ≡ a) ⊎ (Fits × AppendsFront (contents (inner_of a)) (contents (inner_of b)) text)) → AppendsFront old (contents (inner_of b)) (first ++ text)
  front-behind-first r old first before whole front = front-behind-whole old _ _ first text before (any-front r whole front)
