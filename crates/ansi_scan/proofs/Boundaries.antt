-- A text can be cut at the places of its items, of which there are no more than bytes.
use Rattle.std.proofs.Common.{◌≡◌, ◌≢◌, ◌+◌, ◌<◌, ◌≤◌, ℕ, List, [], ◌∷◌, ◌++◌, length, get_or, All, refl, ap, sym, ◌∙◌, subst, arith, append_assoc, length-append}
use Rattle.std.specs.List.{AllByRecursion}
use Rattle.std.specs.Str.{IsUtf8, IsCharBoundary}
use Rattle.std.proofs.lemmas.Str.{IsCharBoundary-start, IsCharBoundary-end, IsCharBoundary-before_ascii, IsCharBoundary-after_ascii}
use Rattle.std.proofs.lemmas.List.Elements.{All-from_recursion}
use Rattle.ansi_scan.specs.declared.items.Kind.{Kind}
use Rattle.ansi_scan.specs.declared.items.Kind.TheVariants.{Text, Sgr, Csi, Osc, Esc, Str, Broken}
use Rattle.ansi_scan.specs.Sequences.{Piece, escape, joined, NoTextFirst, Stands, EachStands, ArePiecesOf}
use Rattle.ansi_scan.specs.Places.{placed, CanBeCutAround}
use Rattle.ansi_scan.proofs.Forms.{EndsAscii, EndsAscii-HasForm}
use Rattle.ansi_scan.proofs.Uniqueness.{begins_with_escape, Stands-some}

-- every piece but a text ends with an ASCII byte
pub EndsAscii-Stands : (kind : Kind) (bytes : List ℕ) (after : List Piece) → Stands kind bytes after → kind ≢ Text → EndsAscii bytes
EndsAscii-Stands Text bytes after stands other = absurd (other refl)
EndsAscii-Stands Sgr bytes after stands other = EndsAscii-HasForm Sgr bytes stands
EndsAscii-Stands Csi bytes after stands other = EndsAscii-HasForm Csi bytes stands
EndsAscii-Stands Osc bytes after stands other = EndsAscii-HasForm Osc bytes stands
EndsAscii-Stands Esc bytes after stands other = EndsAscii-HasForm Esc bytes stands
EndsAscii-Stands Str bytes after stands other = EndsAscii-HasForm Str bytes stands
EndsAscii-Stands Broken bytes after stands other = record { body = []; last = escape; spelled = stands.spelled; ascii = omega arith }

-- the byte after some others
pub get_or-behind : (before : List ℕ) (b : ℕ) (after : List ℕ) → get_or (before ++ b ∷ after) (length before) 0 ≡ b
get_or-behind [] b after = refl
get_or-behind (c ∷ before) b after = get_or-behind before b after

-- a text can be cut after an ASCII byte
pub IsCharBoundary-behind_ascii : (text body : List ℕ) (last : ℕ) (after : List ℕ) → IsUtf8 text → text ≡ body ++ last ∷ after → last < 128 → IsCharBoundary text (length body + 1)
IsCharBoundary-behind_ascii text body last after utf8 spelled ascii =
    let here : get_or text (length body) 0 ≡ last = ap (λ t. get_or t (length body) 0) spelled ∙ get_or-behind body last after in
    let len : length text ≡ length body + length (last ∷ after) = ap length spelled ∙ length-append body (last ∷ after) in
    IsCharBoundary-after_ascii text (length body) utf8 (omega (arith, len)) (omega (arith, here))

-- a text can be cut before an ASCII byte
pub IsCharBoundary-at_ascii : (text body : List ℕ) (next : ℕ) (after : List ℕ) → text ≡ body ++ next ∷ after → next < 128 → IsCharBoundary text (length body)
IsCharBoundary-at_ascii text body next after spelled ascii =
    let here : get_or text (length body) 0 ≡ next = ap (λ t. get_or t (length body) 0) spelled ∙ get_or-behind body next after in
    let len : length text ≡ length body + length (next ∷ after) = ap length spelled ∙ length-append body (next ∷ after) in
    IsCharBoundary-before_ascii text (length body) (omega (arith, len)) (omega (arith, here))

-- a text can be cut after a text piece
pub IsCharBoundary-behind_text : (text before : List ℕ) (after : List Piece) → text ≡ before ++ joined after → EachStands after → NoTextFirst after → IsCharBoundary text (length before)
IsCharBoundary-behind_text text before [] spelled each none_first =
    let len : length text ≡ length before + 0 = ap length spelled ∙ length-append before [] in
    let same : length text ≡ length before = omega (arith, len) in
    subst (λ n. IsCharBoundary text n) same (IsCharBoundary-end text)
IsCharBoundary-behind_text text before (p ∷ ps) spelled each none_first =
    let starts = begins_with_escape p.kind p.bytes ps each.0 none_first in
    IsCharBoundary-at_ascii text before escape (starts.0 ++ joined ps) (spelled ∙ ap (λ bs. before ++ (bs ++ joined ps)) starts.1) (omega arith)

-- a text can be cut after any other piece
pub IsCharBoundary-behind_other : (text before bytes after : List ℕ) → IsUtf8 text → text ≡ before ++ (bytes ++ after) → EndsAscii bytes → IsCharBoundary text (length before + length bytes)
IsCharBoundary-behind_other text before bytes after utf8 spelled ends =
    let spelled' : text ≡ (before ++ ends.body) ++ ends.last ∷ after =
    spelled ∙ ap (λ bs. before ++ (bs ++ after)) ends.spelled ∙ ap (λ bs. before ++ bs) (append_assoc ends.body (ends.last ∷ []) after) ∙ sym (append_assoc before ends.body (ends.last ∷ after)) in
    let len : length (before ++ ends.body) + 1 ≡ length before + length bytes =
    omega (arith, length-append before ends.body, ap length ends.spelled ∙ length-append ends.body (ends.last ∷ [])) in
    subst (λ n. IsCharBoundary text n) len (IsCharBoundary-behind_ascii text (before ++ ends.body) ends.last after utf8 spelled' ends.ascii)

-- a text can be cut after each piece
pub IsCharBoundary-behind : (kind : Kind) (bytes : List ℕ) (after : List Piece) → Stands kind bytes after → EachStands after → (text before : List ℕ) → IsUtf8 text → text ≡ before ++ (bytes ++ joined after) → IsCharBoundary text (length before + length bytes)
IsCharBoundary-behind Text bytes after stands each text before utf8 spelled =
    let spelled' : text ≡ (before ++ bytes) ++ joined after = spelled ∙ sym (append_assoc before bytes (joined after)) in
    subst (λ n. IsCharBoundary text n) (length-append before bytes) (IsCharBoundary-behind_text text (before ++ bytes) after spelled' each stands.ends)
IsCharBoundary-behind Sgr bytes after stands each text before utf8 spelled = IsCharBoundary-behind_other text before bytes (joined after) utf8 spelled (EndsAscii-Stands Sgr bytes after stands (λ same. cc same))
IsCharBoundary-behind Csi bytes after stands each text before utf8 spelled = IsCharBoundary-behind_other text before bytes (joined after) utf8 spelled (EndsAscii-Stands Csi bytes after stands (λ same. cc same))
IsCharBoundary-behind Osc bytes after stands each text before utf8 spelled = IsCharBoundary-behind_other text before bytes (joined after) utf8 spelled (EndsAscii-Stands Osc bytes after stands (λ same. cc same))
IsCharBoundary-behind Esc bytes after stands each text before utf8 spelled = IsCharBoundary-behind_other text before bytes (joined after) utf8 spelled (EndsAscii-Stands Esc bytes after stands (λ same. cc same))
IsCharBoundary-behind Str bytes after stands each text before utf8 spelled = IsCharBoundary-behind_other text before bytes (joined after) utf8 spelled (EndsAscii-Stands Str bytes after stands (λ same. cc same))
IsCharBoundary-behind Broken bytes after stands each text before utf8 spelled = IsCharBoundary-behind_other text before bytes (joined after) utf8 spelled (EndsAscii-Stands Broken bytes after stands (λ same. cc same))

-- the text can be cut at both ends of each item after some bytes
pub CanBeCutAround-placed : (text before : List ℕ) (ps : List Piece) → IsUtf8 text → text ≡ before ++ joined ps → EachStands ps → IsCharBoundary text (length before) → AllByRecursion (CanBeCutAround text) (placed (length before) ps)
CanBeCutAround-placed text before [] utf8 spelled each start = tt
CanBeCutAround-placed text before (p ∷ ps) utf8 spelled each start =
    let end : IsCharBoundary text (length before + length p.bytes) = IsCharBoundary-behind p.kind p.bytes ps each.0 each.1 text before utf8 spelled in
    let len : length (before ++ p.bytes) ≡ length before + length p.bytes = length-append before p.bytes in
    let Cuts : ℕ → Type 0 = λ n. AllByRecursion (CanBeCutAround text) (placed n ps) in
    let rest : Cuts (length (before ++ p.bytes)) =
    CanBeCutAround-placed text (before ++ p.bytes) ps utf8 (spelled ∙ sym (append_assoc before p.bytes (joined ps))) each.1 (subst (λ n. IsCharBoundary text n) (sym len) end) in
    (record { in_order = omega arith; start = start; end = end }, subst Cuts len rest)

-- the text can be cut at both ends of each item
pub All-CanBeCutAround : (text : List ℕ) (ps : List Piece) → IsUtf8 text → ArePiecesOf text ps → All (CanBeCutAround text) (placed 0 ps)
All-CanBeCutAround text ps utf8 are =
    All-from_recursion (CanBeCutAround text) (placed 0 ps) (CanBeCutAround-placed text [] ps utf8 (sym are.joins) are.stand (IsCharBoundary-start text utf8))

-- there are no more items than bytes
pub length-placed : (place : ℕ) (ps : List Piece) → EachStands ps → length (placed place ps) ≤ length (joined ps)
length-placed place [] each = omega arith
length-placed place (p ∷ ps) each =
    omega (arith, length-placed (place + length p.bytes) ps each.1, Stands-some p.kind p.bytes ps each.0, length-append p.bytes (joined ps))
