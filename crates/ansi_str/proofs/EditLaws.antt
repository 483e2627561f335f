-- Edits in turn: two lists of them, and that they leave one text.
use Rattle.std.proofs.Common.{◌≡◌, ◌-◌, ◌⊎◌, ℕ, List, [], ◌∷◌, ◌++◌, Option, Some, None, length, drop, refl, ap, sym, subst, inl, inr, ◌∙◌, arith}
use Rattle.std.specs.Prelude.{slice_get, slice_range}
use Rattle.std.proofs.lemmas.List.{length-drop, length-take}
use Rattle.ansi_scan.specs.Sequences.{Piece}
use Rattle.ansi_scan.proofs.Uniqueness.{ArePiecesOf-unique}
use Rattle.ansi_str.specs.declared.edits.Edit.{Edit}
use Rattle.ansi_str.specs.declared.edits.Edit.TheVariants.{Cut, Left, Right, Part, Prefix, Suffix, Trim}
use Rattle.ansi_str.specs.StyledText.{strip}
use Rattle.ansi_str.specs.Keeping.{IsTrimmed, kept}
use Rattle.ansi_str.specs.Matches.{AreParts, split_bounds, styled_parts}
use Rattle.ansi_str.specs.Edits.{FailsOf, LeavesOf, TakesTo, FailsAt, TakeInTurn, OneFails}
use Rattle.ansi_str_search.proofs.MatchLists.{AreMatches-unique}
use Rattle.ansi_str.proofs.Trims.{TrimsFromTo, by_places}

-- ---- one text

one_part : (a b : List ℕ) (found : Option (List ℕ)) → found ≡ Some a → found ≡ Some b → a ≡ b
one_part a b found of_a of_b = let same : Some a ≡ Some b = sym of_a ∙ of_b in cc same

AreParts-unique : (pattern : List ℕ) (ps : List Piece) (parts others : List (List ℕ)) → AreParts pattern ps parts → AreParts pattern ps others → parts ≡ others
AreParts-unique pattern ps parts others of_parts of_others =
    of_parts.are_parts ∙ ap (λ matches. styled_parts ps (split_bounds pattern (strip ps) matches)) (AreMatches-unique pattern (strip ps) of_parts.matches of_others.matches of_parts.are_matches of_others.are_matches)
    ∙ sym of_others.are_parts

module _ (text : List ℕ) (a b c d : ℕ) (here : TrimsFromTo text a b) (there : TrimsFromTo text c d) where
  same_start : a ≡ c
  same_start =
      let same : length (drop a text) ≡ length (drop c text) = ap length (here.begins ∙ sym there.begins) in
      omega (arith, same, length-drop a text, length-drop c text, here.ordered, here.within, there.ordered, there.within)

  slice_len : (from to : ℕ) → TrimsFromTo text from to → length (slice_range text from to) ≡ to - from
  slice_len from to at = let size = length-take (to - from) (drop from text) in omega (arith, size, length-drop from text, at.ordered, at.within)

  same_end : b ≡ d
  same_end =
      let same : length (slice_range text a b) ≡ length (slice_range text c d) = ap length (here.left ∙ sym there.left) in
      omega (arith, same, slice_len a b here, slice_len c d there, same_start, here.ordered, there.ordered)

IsTrimmed-unique : (ps : List Piece) (left other : List ℕ) → IsTrimmed ps left → IsTrimmed ps other → left ≡ other
IsTrimmed-unique ps left other (a, b, here, is_left) (c, d, there, is_other) =
    let of_left = by_places (strip ps) a b here in
    let of_other = by_places (strip ps) c d there in
    is_left ∙ ap (λ n. kept n b ps) (same_start (strip ps) a b c d of_left of_other) ∙ ap (λ n. kept c n ps) (same_end (strip ps) a b c d of_left of_other) ∙ sym is_other

LeavesOf-unique : (edit : Edit) (ps : List Piece) (left other : List ℕ) → LeavesOf edit ps left → LeavesOf edit ps other → left ≡ other
LeavesOf-unique (Cut start end) ps left other leaves also = leaves.1 ∙ sym also.1
LeavesOf-unique (Left mid) ps left other leaves also = leaves.1 ∙ sym also.1
LeavesOf-unique (Right mid) ps left other leaves also = leaves.1 ∙ sym also.1
LeavesOf-unique (Part pattern index) ps left other leaves also =
    one_part left other (slice_get leaves.0 index) leaves.2
    (subst (λ parts. slice_get parts index ≡ Some other) (AreParts-unique pattern.now ps also.0 leaves.0 also.1 leaves.1) also.2)
LeavesOf-unique (Prefix prefix) ps left other leaves also = leaves.1 ∙ sym also.1
LeavesOf-unique (Suffix suffix) ps left other leaves also = leaves.1 ∙ sym also.1
LeavesOf-unique Trim ps left other leaves also = IsTrimmed-unique ps left other leaves also

TakesTo-unique : (edit : Edit) (text left other : List ℕ) → TakesTo edit text left → TakesTo edit text other → left ≡ other
TakesTo-unique edit text left other takes also =
    LeavesOf-unique edit takes.pieces left other takes.leaves
    (subst (λ (ps : List Piece). LeavesOf edit ps other) (ArePiecesOf-unique text also.pieces takes.pieces also.of_text takes.of_text) also.leaves)

pub TakeInTurn-unique : (edits : List Edit) (text left other : List ℕ) → TakeInTurn edits text left → TakeInTurn edits text other → left ≡ other
TakeInTurn-unique [] text left other takes also = takes ∙ sym also
TakeInTurn-unique (edit ∷ edits) text left other (next, takes, behind) (also_next, also, also_behind) =
    TakeInTurn-unique edits next left other behind (subst (λ bytes. TakeInTurn edits bytes other) (TakesTo-unique edit text also_next next also takes) also_behind)

-- ---- no edit fails that leaves a text

LeavesOf-fails : (edit : Edit) (ps : List Piece) (left : List ℕ) → LeavesOf edit ps left → ¬ (FailsOf edit ps)
LeavesOf-fails (Cut start end) ps left leaves fails = absurd (fails leaves.0)
LeavesOf-fails (Left mid) ps left leaves fails = absurd (fails leaves.0)
LeavesOf-fails (Right mid) ps left leaves fails = absurd (fails leaves.0)
LeavesOf-fails (Part pattern index) ps left leaves fails =
    let none = subst (λ parts. slice_get parts index ≡ None) (AreParts-unique pattern.now ps fails.0 leaves.0 fails.1 leaves.1) fails.2 in
    let both : Some left ≡ None = sym leaves.2 ∙ none in cc both
LeavesOf-fails (Prefix prefix) ps left leaves fails = absurd (fails leaves.0)
LeavesOf-fails (Suffix suffix) ps left leaves fails = absurd (fails leaves.0)
LeavesOf-fails Trim ps left leaves fails = fails

TakesTo-fails : (edit : Edit) (text left : List ℕ) → TakesTo edit text left → ¬ (FailsAt edit text)
TakesTo-fails edit text left takes fails =
    LeavesOf-fails edit takes.pieces left takes.leaves (subst (λ (ps : List Piece). FailsOf edit ps) (ArePiecesOf-unique text fails.pieces takes.pieces fails.of_text takes.of_text) fails.fails)

pub TakeInTurn-fails : (edits : List Edit) (text left : List ℕ) → TakeInTurn edits text left → ¬ (OneFails edits text)
TakeInTurn-fails [] text left takes fails = fails
TakeInTurn-fails (edit ∷ edits) text left (next, takes, behind) (inl fails) = TakesTo-fails edit text next takes fails
TakeInTurn-fails (edit ∷ edits) text left (next, takes, behind) (inr (other, also, fails)) =
    TakeInTurn-fails edits next left behind (subst (OneFails edits) (TakesTo-unique edit text other next also takes) fails)

-- ---- one list after another

pub TakeInTurn-split : (first second : List Edit) (text left : List ℕ) → TakeInTurn (first ++ second) text left → (next : List ℕ) × TakeInTurn first text next × TakeInTurn second next left
TakeInTurn-split [] second text left takes = (text, refl, takes)
TakeInTurn-split (edit ∷ first) second text left (between, takes, behind) =
    let others = TakeInTurn-split first second between left behind in (others.0, (between, takes, others.1), others.2)

pub TakeInTurn-append : (first second : List Edit) (text left next : List ℕ) → TakeInTurn first text next → TakeInTurn second next left → TakeInTurn (first ++ second) text left
TakeInTurn-append [] second text left next takes also = subst (λ bytes. TakeInTurn second bytes left) takes also
TakeInTurn-append (edit ∷ first) second text left next (between, takes, behind) also = (between, takes, TakeInTurn-append first second between left next behind also)

abbrev FailsIn : List Edit → List Edit → List ℕ → Type 0
FailsIn first second text = OneFails first text ⊎ ((next : List ℕ) × TakeInTurn first text next × OneFails second next)

pub OneFails-split : (first second : List Edit) (text : List ℕ) → OneFails (first ++ second) text → FailsIn first second text
OneFails-split [] second text fails = inr (text, refl, fails)
OneFails-split (edit ∷ first) second text (inl fails) = inl (inl fails)
OneFails-split (edit ∷ first) second text (inr (between, takes, fails)) = by (OneFails-split first second between fails)
  where
    by : FailsIn first second between → FailsIn (edit ∷ first) second text
    by (inl early) = inl (inr (between, takes, early))
    by (inr (next, others, late)) = inr (next, (between, takes, others), late)

pub OneFails-append : (first second : List Edit) (text : List ℕ) → FailsIn first second text → OneFails (first ++ second) text
OneFails-append [] second text (inl fails) = absurd fails
OneFails-append [] second text (inr (next, same, fails)) = subst (OneFails second) same fails
OneFails-append (edit ∷ first) second text (inl (inl fails)) = inl fails
OneFails-append (edit ∷ first) second text (inl (inr (between, takes, fails))) = inr (between, takes, OneFails-append first second between (inl fails))
OneFails-append (edit ∷ first) second text (inr (next, (between, takes, others), fails)) = inr (between, takes, OneFails-append first second between (inr (next, others, fails)))
