-- The pieces of what is kept of a whole text.
use Rattle.std.proofs.Common.{◌≡◌, ◌≢◌, ℕ, ◌+◌, ◌-◌, ◌<◌, ◌==◌, Bool, true, false, List, [], ◌∷◌, ◌++◌, length, drop, slice_range, refl, ap, sym, subst, ◌∙◌, arith, eqb-true, if◌then◌else◌, IsTrue}
use Rattle.std.specs.List.{list_all}
use Rattle.std.proofs.lemmas.Bool.Decides.{nat_tests}
use Rattle.ansi_scan.specs.declared.items.Kind.{Kind}
use Rattle.ansi_scan.specs.declared.items.Kind.TheVariants.{Text, Sgr, Csi, Osc, Esc, Str, Broken}
use Rattle.ansi_scan.specs.Sequences.{Piece, joined, Stands, EachStands, ArePiecesOf, NoneBroken, NoTextFirst, is_not_escape}
use Rattle.ansi_scan.specs.Joining.{is_text_kind}
use Rattle.ansi_scan.proofs.Uniqueness.{ArePiecesOf-unique}
use Rattle.ansi_str.specs.StyledText.{text_of, strip}
use Rattle.ansi_str.specs.Parts.{taken_piece, taken}
use Rattle.ansi_str.specs.Keeping.{kept, sequences_among}
use Rattle.ansi_str_search.proofs.Parts.{text_of-text, text_of-sequence, taken_piece-text, taken_piece-sequence}
use Rattle.ansi_str_search.proofs.PiecesAtPlaces.{list_all-drop}
use Rattle.ansi_str_search.proofs.Dressed.{Stands-before, list_all-take, other_kind}
use Rattle.ansi_str_search.proofs.Merges.{slice_both}
use Rattle.ansi_str.proofs.Keeps.{empty_slice}

-- a piece of text, where that is not empty
abbrev pub text_if : List ℕ → Bool → List Piece
text_if bytes true = []
text_if bytes false = record { kind = Text; bytes = bytes } ∷ []

abbrev pub of_kind : Bool → ℕ → ℕ → Piece → List Piece
of_kind true a b p = text_if (slice_range p.bytes a b) (length (slice_range p.bytes a b) == 0)
of_kind false a b p = p ∷ []

abbrev pub kept_pieces : ℕ → ℕ → ℕ → List Piece → List Piece
kept_pieces a b place [] = []
kept_pieces a b place (p ∷ ps) = of_kind (is_text_kind p.kind) (a - place) (b - place) p ++ kept_pieces a b (place + length (text_of p)) ps

-- ---- their bytes, and what they show

pub no_bytes : (bytes : List ℕ) → (length bytes == 0) ≡ true → bytes ≡ []
no_bytes [] e = refl
no_bytes (b ∷ bs) e = let none : length (b ∷ bs) ≡ 0 = eqb-true (length (b ∷ bs)) 0 e in absurd (omega (arith, none))

joined-text_if : (bytes : List ℕ) (rest : List Piece) (none : Bool) → (length bytes == 0) ≡ none → joined (text_if bytes none ++ rest) ≡ bytes ++ joined rest
joined-text_if bytes rest true e = ap (λ bs. bs ++ joined rest) (sym (no_bytes bytes e))
joined-text_if bytes rest false e = refl

strip-text_if : (bytes : List ℕ) (rest : List Piece) (none : Bool) → (length bytes == 0) ≡ none → strip (text_if bytes none ++ rest) ≡ bytes ++ strip rest
strip-text_if bytes rest true e = ap (λ bs. bs ++ strip rest) (sym (no_bytes bytes e))
strip-text_if bytes rest false e = refl

joined-of_kind : (a b place : ℕ) (p : Piece) (rest : List Piece) (text : Bool) → is_text_kind p.kind ≡ text
    → joined (of_kind text (a - place) (b - place) p ++ rest) ≡ taken_piece (λ _. true) a b place p ++ joined rest
joined-of_kind a b place p rest true e =
    let slice = slice_range p.bytes (a - place) (b - place) in
    joined-text_if slice rest (length slice == 0) refl ∙ ap (λ bytes. bytes ++ joined rest) (sym (taken_piece-text (λ _. true) a b place p e))
joined-of_kind a b place p rest false e = ap (λ bytes. bytes ++ joined rest) (sym (taken_piece-sequence (λ _. true) a b place p true e refl))

joined-kept : (a b place : ℕ) (ps : List Piece) → joined (kept_pieces a b place ps) ≡ taken (λ _. true) a b place ps
joined-kept a b place [] = refl
joined-kept a b place (p ∷ ps) =
    joined-of_kind a b place p (kept_pieces a b (place + length (text_of p)) ps) (is_text_kind p.kind) refl
    ∙ ap (λ bytes. taken_piece (λ _. true) a b place p ++ bytes) (joined-kept a b (place + length (text_of p)) ps)

strip-of_kind : (a b : ℕ) (p : Piece) (rest : List Piece) (text : Bool) → is_text_kind p.kind ≡ text
    → strip (of_kind text a b p ++ rest) ≡ slice_range (text_of p) a b ++ strip rest
strip-of_kind a b p rest true e =
    let slice = slice_range p.bytes a b in
    strip-text_if slice rest (length slice == 0) refl ∙ ap (λ bytes. slice_range bytes a b ++ strip rest) (sym (text_of-text p e))
strip-of_kind a b p rest false e =
    ap (λ bytes. bytes ++ strip rest) (text_of-sequence p e ∙ sym (ap (λ bytes. slice_range bytes a b) (text_of-sequence p e) ∙ empty_slice a b [] refl))

strip-kept : (a b place : ℕ) (ps : List Piece) → strip (kept_pieces a b place ps) ≡ slice_range (strip ps) (a - place) (b - place)
strip-kept a b place [] = sym (empty_slice (a - place) (b - place) [] refl)
strip-kept a b place (p ∷ ps) =
    let from : a - (place + length (text_of p)) ≡ a - place - length (text_of p) = omega arith in
    let to : b - (place + length (text_of p)) ≡ b - place - length (text_of p) = omega arith in
    strip-of_kind (a - place) (b - place) p (kept_pieces a b (place + length (text_of p)) ps) (is_text_kind p.kind) refl
    ∙ ap (λ bytes. slice_range (text_of p) (a - place) (b - place) ++ bytes)
    (strip-kept a b (place + length (text_of p)) ps ∙ ap (λ n. slice_range (strip ps) n (b - (place + length (text_of p)))) from ∙ ap (slice_range (strip ps) (a - place - length (text_of p))) to)
    ∙ sym (slice_both (text_of p) (strip ps) (a - place) (b - place))

-- ---- the relation allows them as before

NoTextFirst-kept : (a b place : ℕ) (ps : List Piece) → NoTextFirst ps → NoTextFirst (kept_pieces a b place ps)
NoTextFirst-kept a b place [] first = tt
NoTextFirst-kept a b place (p ∷ ps) first =
    subst (λ t. NoTextFirst (of_kind t (a - place) (b - place) p ++ kept_pieces a b (place + length (text_of p)) ps)) (sym (other_kind p.kind first)) first

some_bytes : (bytes : List ℕ) → (length bytes == 0) ≡ false → 0 < length bytes
some_bytes bytes e = grind (arith, nat_tests)

stand-text_if : (bytes : List ℕ) (rest : List Piece) (none : Bool) → (length bytes == 0) ≡ none → IsTrue (list_all is_not_escape bytes) → NoTextFirst rest → EachStands rest → EachStands (text_if bytes none ++ rest)
stand-text_if bytes rest true e plain first each = each
stand-text_if bytes rest false e plain first each = (record { some = some_bytes bytes e; plain = plain; ends = first }, each)

-- the bytes of a text are plain, and no text follows it
plain_text : (kind : Kind) (bytes : List ℕ) (after : List Piece) → is_text_kind kind ≡ true → Stands kind bytes after → IsTrue (list_all is_not_escape bytes) × NoTextFirst after
plain_text Text bytes after e stands = (stands.plain, stands.ends)
plain_text Sgr bytes after e stands = cc e
plain_text Csi bytes after e stands = cc e
plain_text Osc bytes after e stands = cc e
plain_text Esc bytes after e stands = cc e
plain_text Str bytes after e stands = cc e
plain_text Broken bytes after e stands = cc e

stand-of_kind : (a b : ℕ) (p : Piece) (ps rest : List Piece) (text : Bool) → is_text_kind p.kind ≡ text → Stands p.kind p.bytes ps → p.kind ≢ Broken → (NoTextFirst ps → NoTextFirst rest) → EachStands rest
    → EachStands (of_kind text a b p ++ rest)
stand-of_kind a b p ps rest true e stands whole turn each =
    let slice = slice_range p.bytes a b in
    let own = plain_text p.kind p.bytes ps e stands in
    stand-text_if slice rest (length slice == 0) refl (list_all-take is_not_escape (b - a) (drop a p.bytes) (list_all-drop is_not_escape a p.bytes own.0)) (turn own.1) each
stand-of_kind a b p ps rest false e stands whole turn each = (Stands-before p.kind p.bytes ps rest stands whole turn, each)

EachStands-kept : (a b place : ℕ) (ps : List Piece) → EachStands ps → NoneBroken ps → EachStands (kept_pieces a b place ps)
EachStands-kept a b place [] each whole = tt
EachStands-kept a b place (p ∷ ps) each whole =
    let next = place + length (text_of p) in
    stand-of_kind (a - place) (b - place) p ps (kept_pieces a b next ps) (is_text_kind p.kind) refl each.0 whole.0 (NoTextFirst-kept a b next ps) (EachStands-kept a b next ps each.1 whole.1)

-- ---- none is broken, and the sequences are the same

whole-text_if : (bytes : List ℕ) (rest : List Piece) (none : Bool) → NoneBroken rest → NoneBroken (text_if bytes none ++ rest)
whole-text_if bytes rest true whole = whole
whole-text_if bytes rest false whole = ((λ same. cc same), whole)

whole-of_kind : (a b : ℕ) (p : Piece) (rest : List Piece) (text : Bool) → p.kind ≢ Broken → NoneBroken rest → NoneBroken (of_kind text a b p ++ rest)
whole-of_kind a b p rest true first whole = let slice = slice_range p.bytes a b in whole-text_if slice rest (length slice == 0) whole
whole-of_kind a b p rest false first whole = (first, whole)

NoneBroken-kept : (a b place : ℕ) (ps : List Piece) → NoneBroken ps → NoneBroken (kept_pieces a b place ps)
NoneBroken-kept a b place [] whole = tt
NoneBroken-kept a b place (p ∷ ps) whole =
    let next = place + length (text_of p) in
    whole-of_kind (a - place) (b - place) p (kept_pieces a b next ps) (is_text_kind p.kind) whole.0 (NoneBroken-kept a b next ps whole.1)

sequences_among-text_if : (bytes : List ℕ) (rest : List Piece) (none : Bool) → sequences_among (text_if bytes none ++ rest) ≡ sequences_among rest
sequences_among-text_if bytes rest true = refl
sequences_among-text_if bytes rest false = refl

sequences_among-of_kind : (a b : ℕ) (p : Piece) (ps rest : List Piece) (text : Bool) → is_text_kind p.kind ≡ text → sequences_among rest ≡ sequences_among ps → sequences_among (of_kind text a b p ++ rest) ≡ sequences_among (p ∷ ps)
sequences_among-of_kind a b p ps rest true e same =
    let slice = slice_range p.bytes a b in
    sequences_among-text_if slice rest (length slice == 0) ∙ same ∙ sym (ap (λ t. if t then sequences_among ps else p ∷ sequences_among ps) e)
sequences_among-of_kind a b p ps rest false e same =
    ap (λ t. if t then sequences_among rest else p ∷ sequences_among rest) e ∙ ap (λ others. p ∷ others) same ∙ sym (ap (λ t. if t then sequences_among ps else p ∷ sequences_among ps) e)

sequences_among-kept : (a b place : ℕ) (ps : List Piece) → sequences_among (kept_pieces a b place ps) ≡ sequences_among ps
sequences_among-kept a b place [] = refl
sequences_among-kept a b place (p ∷ ps) =
    let next = place + length (text_of p) in
    sequences_among-of_kind (a - place) (b - place) p ps (kept_pieces a b next ps) (is_text_kind p.kind) refl (sequences_among-kept a b next ps)

-- ---- the pieces of what is kept

module _ (a b : ℕ) (text : List ℕ) (ps left : List Piece) (of_text : ArePiecesOf text ps) (whole : NoneBroken ps) (of_left : ArePiecesOf (kept a b ps) left) where
  pub pieces_kept : left ≡ kept_pieces a b 0 ps
  pieces_kept = ArePiecesOf-unique (kept a b ps) left (kept_pieces a b 0 ps) of_left (record { joins = joined-kept a b 0 ps; stand = EachStands-kept a b 0 ps of_text.stand whole })

  pub kept_shown : strip left ≡ slice_range (strip ps) a b
  kept_shown =
      let from : a - 0 ≡ a = omega arith in
      let to : b - 0 ≡ b = omega arith in
      ap strip pieces_kept ∙ strip-kept a b 0 ps ∙ ap (λ n. slice_range (strip ps) n (b - 0)) from ∙ ap (slice_range (strip ps) a) to

  pub kept_sequences : sequences_among left ≡ sequences_among ps
  kept_sequences = ap sequences_among pieces_kept ∙ sequences_among-kept a b 0 ps

  pub kept_whole : NoneBroken left
  kept_whole = subst NoneBroken (sym pieces_kept) (NoneBroken-kept a b 0 ps whole)
