-- A text has no other pieces than those that the function makes.
use Rattle.std.proofs.Common.{◌≡◌, ◌≢◌, ◌<◌, ℕ, unwrap_or, List, [], ◌∷◌, ◌++◌, length, take, drop, refl, ap, sym, ◌∙◌, arith, length-append}
use Rattle.std.proofs.Math.Seq.{take-append_seam, drop-append_seam}
use Rattle.ansi_scan.specs.declared.items.Kind.{Kind}
use Rattle.ansi_scan.specs.declared.items.Kind.TheVariants.{Text, Sgr, Csi, Osc, Esc, Str, Broken}
use Rattle.ansi_scan.specs.Sequences.{Piece, escape, joined, is_not_escape, NoTextFirst, HasForm, NoFormBegins, Stands, EachStands, ArePiecesOf}
use Rattle.ansi_scan.specs.Pieces.{text_len, sequence_front, at_escape, leading_piece, first_pieces, pieces}
use Rattle.ansi_scan.proofs.Forms.{HasForm-starts, HasForm-some, sequence_front-HasForm, found-NoFormBegins}
use Rattle.ansi_scan.proofs.Runs.{prefix_len-run}
use Rattle.ansi_scan.proofs.Fronts.{leading_piece-text, leading_piece-escape, pieces-step}

-- every piece but a text begins with an ESC
pub begins_with_escape : (kind : Kind) (bytes : List ℕ) (after : List Piece) → Stands kind bytes after → kind ≢ Text → (rest : List ℕ) × (bytes ≡ escape ∷ rest)
begins_with_escape Text bytes after stands other = absurd (other refl)
begins_with_escape Sgr bytes after stands other = HasForm-starts Sgr bytes stands
begins_with_escape Csi bytes after stands other = HasForm-starts Csi bytes stands
begins_with_escape Osc bytes after stands other = HasForm-starts Osc bytes stands
begins_with_escape Esc bytes after stands other = HasForm-starts Esc bytes stands
begins_with_escape Str bytes after stands other = HasForm-starts Str bytes stands
begins_with_escape Broken bytes after stands other = ([], stands.spelled)

-- where no Text piece comes first, the pieces begin with an ESC or are none
pub text_len-joined : (ps : List Piece) → EachStands ps → NoTextFirst ps → text_len (joined ps) ≡ 0
text_len-joined [] each none_first = refl
text_len-joined (p ∷ ps) each none_first =
    let starts = begins_with_escape p.kind p.bytes ps each.0 none_first in
    ap (λ bs. text_len (bs ++ joined ps)) starts.1

-- a piece is never empty
pub Stands-some : (kind : Kind) (bytes : List ℕ) (after : List Piece) → Stands kind bytes after → 0 < length bytes
Stands-some Text bytes after stands = stands.some
Stands-some Sgr bytes after stands = HasForm-some Sgr bytes stands
Stands-some Csi bytes after stands = HasForm-some Csi bytes stands
Stands-some Osc bytes after stands = HasForm-some Osc bytes stands
Stands-some Esc bytes after stands = HasForm-some Esc bytes stands
Stands-some Str bytes after stands = HasForm-some Str bytes stands
Stands-some Broken bytes after stands = let len : length bytes ≡ 1 = ap length stands.spelled in omega (arith, len)

-- at an ESC the function finds the sequence that begins there
pub at_escape-HasForm : (kind : Kind) (bytes after : List ℕ) → HasForm kind bytes → at_escape (bytes ++ after) ≡ (kind, length bytes)
unfolding at_escape
at_escape-HasForm kind bytes after has = ap (λ found. unwrap_or found (Broken, 1)) (sequence_front-HasForm kind bytes after has)

-- or that none does
pub at_escape-NoFormBegins : (bytes rest : List ℕ) → bytes ≡ escape ∷ [] → NoFormBegins (escape ∷ rest) → at_escape (bytes ++ rest) ≡ (Broken, length bytes)
unfolding at_escape
at_escape-NoFormBegins bytes rest spelled none =
    ap (λ bs. at_escape (bs ++ rest)) spelled
    ∙ ap (λ found. unwrap_or found (Broken, 1)) (found-NoFormBegins rest (sequence_front (escape ∷ rest)) refl none)
    ∙ ap (λ bs. (Broken, length bs)) (sym spelled)

-- at an ESC the function finds the piece that begins there
pub at_escape-stands : (kind : Kind) (bytes : List ℕ) (after : List Piece) → Stands kind bytes after → EachStands after → kind ≢ Text → at_escape (bytes ++ joined after) ≡ (kind, length bytes)
at_escape-stands Text bytes after stands each other = absurd (other refl)
at_escape-stands Sgr bytes after stands each other = at_escape-HasForm Sgr bytes (joined after) stands
at_escape-stands Csi bytes after stands each other = at_escape-HasForm Csi bytes (joined after) stands
at_escape-stands Osc bytes after stands each other = at_escape-HasForm Osc bytes (joined after) stands
at_escape-stands Esc bytes after stands each other = at_escape-HasForm Esc bytes (joined after) stands
at_escape-stands Str bytes after stands each other = at_escape-HasForm Str bytes (joined after) stands
at_escape-stands Broken bytes after stands each other = at_escape-NoFormBegins bytes (joined after) stands.spelled stands.no_form

-- a piece other than a text is found at the start
pub leading_piece-other : (kind : Kind) (bytes : List ℕ) (after : List Piece) → Stands kind bytes after → EachStands after → kind ≢ Text → leading_piece (bytes ++ joined after) ≡ (kind, length bytes)
leading_piece-other kind bytes after stands each other =
    let starts = begins_with_escape kind bytes after stands other in
    let stops : text_len (bytes ++ joined after) ≡ 0 = ap (λ bs. text_len (bs ++ joined after)) starts.1 in
    leading_piece-escape (bytes ++ joined after) stops ∙ at_escape-stands kind bytes after stands each other

-- a piece is found at the start
pub leading_piece-stands : (kind : Kind) (bytes : List ℕ) (after : List Piece) → Stands kind bytes after → EachStands after → leading_piece (bytes ++ joined after) ≡ (kind, length bytes)
leading_piece-stands Text bytes after stands each =
    let len : text_len (bytes ++ joined after) ≡ length bytes = prefix_len-run is_not_escape bytes (joined after) stands.plain (text_len-joined after each stands.ends) in
    let some : 0 < text_len (bytes ++ joined after) = omega (arith, len, stands.some) in
    leading_piece-text (bytes ++ joined after) some ∙ ap (λ n. (Text, n)) len
leading_piece-stands Sgr bytes after stands each = leading_piece-other Sgr bytes after stands each (λ same. cc same)
leading_piece-stands Csi bytes after stands each = leading_piece-other Csi bytes after stands each (λ same. cc same)
leading_piece-stands Osc bytes after stands each = leading_piece-other Osc bytes after stands each (λ same. cc same)
leading_piece-stands Esc bytes after stands each = leading_piece-other Esc bytes after stands each (λ same. cc same)
leading_piece-stands Str bytes after stands each = leading_piece-other Str bytes after stands each (λ same. cc same)
leading_piece-stands Broken bytes after stands each = leading_piece-other Broken bytes after stands each (λ same. cc same)

-- pieces that the relation allows are those that the function makes of them
pub pieces-joined : (ps : List Piece) → EachStands ps → pieces (joined ps) ≡ ps
unfolding pieces first_pieces
pieces-joined [] each = refl
pieces-joined (p ∷ ps) each =
    let bytes : List ℕ = p.bytes ++ joined ps in
    let found : leading_piece (p.bytes ++ joined ps) ≡ (p.kind, length p.bytes) = leading_piece-stands p.kind p.bytes ps each.0 each.1 in
    let nonempty : 0 < length (p.bytes ++ joined ps) = omega (arith, length-append p.bytes (joined ps), Stands-some p.kind p.bytes ps each.0) in
    let Step : (Kind × ℕ) → List Piece = λ f. record { kind = f.0; bytes = take f.1 (p.bytes ++ joined ps) } ∷ pieces (drop f.1 (p.bytes ++ joined ps)) in
    let own : take (length p.bytes) (p.bytes ++ joined ps) ≡ p.bytes = take-append_seam p.bytes (joined ps) in
    let left : drop (length p.bytes) (p.bytes ++ joined ps) ≡ joined ps = drop-append_seam p.bytes (joined ps) in
    pieces-step (p.bytes ++ joined ps) nonempty
    ∙ ap Step found
    ∙ ap (λ bs. record { kind = p.kind; bytes = bs } ∷ pieces (drop (length p.bytes) (p.bytes ++ joined ps))) own
    ∙ ap (λ bs. p ∷ pieces bs) left
    ∙ ap (λ qs. p ∷ qs) (pieces-joined ps each.1)

-- pieces of a text are those that the function makes of it
pub pieces-ArePiecesOf : (text : List ℕ) (ps : List Piece) → ArePiecesOf text ps → pieces text ≡ ps
pieces-ArePiecesOf text ps are = ap pieces (sym are.joins) ∙ pieces-joined ps are.stand

-- a text has one list of pieces
pub ArePiecesOf-unique : (text : List ℕ) (ps qs : List Piece) → ArePiecesOf text ps → ArePiecesOf text qs → ps ≡ qs
ArePiecesOf-unique text ps qs first second = sym (pieces-ArePiecesOf text ps first) ∙ pieces-ArePiecesOf text qs second
