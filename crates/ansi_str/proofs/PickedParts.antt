-- Edits of a text: one, the parts that it picks, and several.
use Rattle.std.proofs.Common.{◌≡◌, ℕ, zero, suc, ◌≤◌, List, [], ◌∷◌, drop, Option, None, Some, Result, Ok, Err, refl, sym, subst, inl, inr, ◌∙◌, arith}
use Rattle.std.specs.Prelude.{IfOk, MatchOption, slice_get}
use Rattle.std.specs.Borrow.{Bor}
use Rattle.std.specs.Option.{option_transpose}
use Rattle.std.specs.Cow.{cow_str_bytes}
use Rattle.std.specs.declared.borrow.CowStr.{CowStr}
use Rattle.ansi_scan.specs.Sequences.{Piece, ArePiecesOf}
use Rattle.ansi_scan.specs.Pieces.{pieces}
use Rattle.ansi_scan.proofs.Existence.{ArePiecesOf-pieces}
use Rattle.ansi_str.specs.declared.edits.Edit.{Edit}
use Rattle.ansi_str.specs.declared.edits.Edit.TheVariants.{Part}
use Rattle.ansi_str.specs.Splitting.{PartsLeft, GivesPart}
use Rattle.ansi_str.specs.Matches.{AreParts}
use Rattle.ansi_str.specs.Edits.{FailsOf, LeavesOf, TakesTo, TakeInTurn, OneFails}

-- what is said of all pieces of a text is said of its pieces
pub at_pieces : {T E : Type 0} (text : List ℕ) (P : T → List Piece → Type 0) (r : Result T E) → IfOk r (λ found. (ps : List Piece) → ArePiecesOf text ps → P found ps) → IfOk r (λ found. P found (pieces text))
at_pieces text P (Ok found) all = all (pieces text) (ArePiecesOf-pieces text)
at_pieces text P (Err fault) all = tt

-- ---- the parts of a split

-- the list after i elements begins with the one of this number, or there is none
pub slice_get-dropped : {X : Type 0} (xs : List X) (i : ℕ) (x : X) (rest : List X) → drop i xs ≡ x ∷ rest → slice_get xs i ≡ Some x
slice_get-dropped [] zero x rest e = cc e
slice_get-dropped [] (suc i) x rest e = cc e
slice_get-dropped (y ∷ ys) zero x rest e = cc e
slice_get-dropped (y ∷ ys) (suc i) x rest e = slice_get-dropped ys i x rest e

pub slice_get-none : {X : Type 0} (xs : List X) (k i : ℕ) → k ≤ i → drop k xs ≡ [] → slice_get xs i ≡ None
slice_get-none [] k i low e = refl
slice_get-none (y ∷ ys) zero i low e = cc e
slice_get-none (y ∷ ys) (suc k) zero low e = absurd (omega (arith, low))
slice_get-none (y ∷ ys) (suc k) (suc i) low e = slice_get-none ys k i (omega (arith, low)) e

pub drop-next : {X : Type 0} (xs : List X) (i : ℕ) (x : X) (rest : List X) → drop i xs ≡ x ∷ rest → drop (suc i) xs ≡ rest
drop-next [] zero x rest e = cc e
drop-next [] (suc i) x rest e = cc e
drop-next (y ∷ ys) zero x rest e = cc e
drop-next (y ∷ ys) (suc i) x rest e = drop-next ys i x rest e

-- ---- several edits

-- what the edits that are left do to what is left of the text, all edits do to the text
pub record Edited (edits : List Edit) (text : List ℕ) (edits_left : List Edit) (now : List ℕ) : Type 0 where
  pub leave : (left : List ℕ) → TakeInTurn edits_left now left → TakeInTurn edits text left
  pub fail : OneFails edits_left now → OneFails edits text

pub Edited-start : (edits : List Edit) (text now : List ℕ) → now ≡ text → Edited edits text edits now
Edited-start edits text now same = record {
  leave = λ left taken. subst (λ bytes. TakeInTurn edits bytes left) same taken;
  fail = λ fails. subst (OneFails edits) same fails;
}

module _ (edits : List Edit) (text : List ℕ) (edit : Edit) (others : List Edit) (now : List ℕ) (edited : Edited edits text (edit ∷ others) now) where
  pub Edited-next : (next : List ℕ) → LeavesOf edit (pieces now) next → Edited edits text others next
  Edited-next next leaves =
      let takes : TakesTo edit now next = record { pieces = pieces now; of_text = ArePiecesOf-pieces now; leaves = leaves } in
      record {
        leave = λ left taken. edited.leave left (next, takes, taken);
        fail = λ fails. edited.fail (inr (next, takes, fails));
      }

  pub Edited-fails : FailsOf edit (pieces now) → OneFails edits text
  Edited-fails fails = edited.fail (inl (record { pieces = pieces now; of_text = ArePiecesOf-pieces now; fails = fails }))

pub Edited-end : (edits : List Edit) (text now : List ℕ) → Edited edits text [] now → TakeInTurn edits text now
Edited-end edits text now edited = edited.leave now refl

-- ---- what one edit answers

-- it fails, or leaves this
abbrev pub Answers : {Z : Type 0} → Edit → List Piece → Option (CowStr Z) → Type 0
Answers edit ps found = MatchOption found (FailsOf edit ps) (λ left. LeavesOf edit ps (cow_str_bytes left))

module _ {Z E : Type 0} where
  pub Answers-part : (pattern : Bor (List ℕ)) (index : ℕ) (ps : List Piece) (all : List (List ℕ)) (old new : PartsLeft) (found : Option (Result (CowStr Z) E)) → AreParts pattern.now ps all → old.parts ≡ drop index all → GivesPart old found new
      → IfOk (option_transpose found) (Answers (Part pattern index) ps)
  Answers-part pattern index ps all old new None parts left gives = let same : index ≤ index = omega arith in (all, parts, slice_get-none all index index same (sym left ∙ gives.1.0))
  Answers-part pattern index ps all old new (Some (Ok part)) parts left gives = (all, parts, slice_get-dropped all index (cow_str_bytes part) new.parts (sym left ∙ gives.1.0))
  Answers-part pattern index ps all old new (Some (Err fault)) parts left gives = tt

  -- the part that came was the first
  pub GivesPart-came : (old new : PartsLeft) (r : Result (CowStr Z) E) (part : CowStr Z) → GivesPart old (Some r) new → r ≡ Ok part → old.parts ≡ cow_str_bytes part ∷ new.parts
  GivesPart-came old new r part gives same =
      let came = subst (λ found. GivesPart old (Some found) new) same gives in came.1.0
