-- The reads of a byte, one after the other, and that there are three at most for each byte.
use Rattle.std.proofs.Common.{◌≡◌, ◌+◌, ◌*◌, ◌<◌, ◌≤◌, ◌==◌, ℕ, suc, Bool, true, false, Option, Some, None, IfSome, IfNone, unwrap_or, List, [], ◌∷◌, ◌++◌, length, take, drop, get_or, min, cond, refl, ap, sym, ◌∙◌, subst, inl, inr, arith, length-append}
use Rattle.std.specs.List.{list_all, prefix_len}
use Rattle.std.proofs.lemmas.Bool.{and_parts, cases_Bool, cond-true, cond-false}
use Rattle.std.proofs.lemmas.Bool.Decides.{nat_tests}
use Rattle.std.proofs.lemmas.List.{drop_more, length-take-le}
use Rattle.ansi_scan.specs.declared.items.Kind.{Kind}
use Rattle.ansi_scan.specs.declared.items.Kind.TheVariants.{Text, Sgr, Csi, Osc, Esc, Str, Broken}
use Rattle.ansi_scan.specs.Sequences.{Piece, escape, joined, is_parameter, is_intermediate, is_not_escape, opens_string, HasForm, Stands, EachStands}
use Rattle.ansi_scan.specs.Pieces.{text_len, is_in_string, string_end, string_from, leading_piece, pieces}
use Rattle.ansi_scan.specs.Reads.{and_next, control_reads, string_end_reads, string_reads, escape_reads, opened_reads, tried_reads, piece_reads, reads_over}
use Rattle.ansi_scan.proofs.ByteClasses.{is_not_escape-parameter, is_not_escape-intermediate, is_not_escape-inside, is_not_escape-opens_string}
use Rattle.ansi_scan.proofs.Existence.{ArePiecesOf-pieces}
use Rattle.ansi_scan.proofs.Forms.{HasForm-starts}
use Rattle.ansi_scan.proofs.Fronts.{behind_first, leading_piece-in_range, pieces-step}
use Rattle.ansi_scan.proofs.Runs.{prefix_len-pass, prefix_len-fail}

-- after some bytes of a control sequence, of which the flag says that all are parameter bytes
abbrev pub control_reads_from : Bool → List ℕ → ℕ
control_reads_from parameters bytes = cond parameters (control_reads bytes) (and_next (prefix_len is_intermediate bytes) bytes)

-- a byte of the string, and what is after it
pub string_reads-step : (bell_ends : Bool) (bytes : List ℕ) (i : ℕ) → i < length bytes → is_in_string bell_ends (get_or bytes i 0) ≡ true → i + string_reads bell_ends (drop i bytes) ≡ i + 1 + string_reads bell_ends (drop (i + 1) bytes)
string_reads-step bell_ends bytes i within inside =
    let b = get_or bytes i 0 in
    let bs = drop (i + 1) bytes in
    let run : prefix_len (is_in_string bell_ends) (b ∷ bs) ≡ suc (prefix_len (is_in_string bell_ends) bs) = prefix_len-pass (is_in_string bell_ends) b bs inside in
    let here : string_reads bell_ends (drop i bytes) ≡ suc (prefix_len (is_in_string bell_ends) bs) + string_end_reads (drop (prefix_len (is_in_string bell_ends) bs) bs) =
    ap (string_reads bell_ends) (drop_more bytes i 0 within) ∙ ap (λ n. n + string_end_reads (drop n (b ∷ bs))) run in
    omega (arith, here)

pub string_from-step : (bell_ends : Bool) (bytes : List ℕ) (i : ℕ) → i < length bytes → is_in_string bell_ends (get_or bytes i 0) ≡ true → string_from i bell_ends (drop i bytes) ≡ string_from (i + 1) bell_ends (drop (i + 1) bytes)
unfolding string_from
string_from-step bell_ends bytes i within inside =
    ap (string_from i bell_ends) (drop_more bytes i 0 within)
    ∙ cond-true (is_in_string bell_ends (get_or bytes i 0)) (string_from (i + 1) bell_ends (drop (i + 1) bytes)) (string_end i bell_ends (get_or bytes i 0) (drop (i + 1) bytes)) inside

-- two bytes more, of a piece that begins with an ESC
pub piece_reads-more : (kind : Kind) (n m : ℕ) (behind : List ℕ) → piece_reads kind (n + m) behind ≡ piece_reads kind n behind + m
piece_reads-more Text n m behind = omega arith
piece_reads-more Sgr n m behind = refl
piece_reads-more Csi n m behind = refl
piece_reads-more Osc n m behind = refl
piece_reads-more Esc n m behind = refl
piece_reads-more Str n m behind = refl
piece_reads-more Broken n m behind = omega arith

-- the reads by a sequence, or by what was tried in vain, with the read of its ESC
pub piece_reads-found : (found : Option (Kind × ℕ)) (bytes : List ℕ) (old new : ℕ) → ((behind : List ℕ) → IfSome found (λ f. new + 1 ≡ old + 1 + piece_reads f.0 f.1 behind)) → IfNone found (new ≡ old + 1 + tried_reads (drop 1 bytes)) → new ≡ old + piece_reads (unwrap_or found (Broken, 1)).0 (unwrap_or found (Broken, 1)).1 (drop (unwrap_or found (Broken, 1)).1 bytes)
piece_reads-found (Some f) bytes old new some none = omega (arith, some (drop f.1 bytes))
piece_reads-found None bytes old new some none = omega (arith, none)

-- the first piece, and those after it
pub reads_over-step : (bytes : List ℕ) (f : Kind × ℕ) (rest : List ℕ) → 0 < length bytes → f ≡ leading_piece bytes → rest ≡ drop f.1 bytes → reads_over (pieces bytes) ≡ piece_reads f.0 f.1 (drop f.1 bytes) + reads_over (pieces rest)
unfolding pieces
reads_over-step bytes f rest nonempty is_front is_rest =
    let Step : (Kind × ℕ) → ℕ → List ℕ → ℕ = λ g n behind. piece_reads g.0 n behind + reads_over (pieces (drop g.1 bytes)) in
    let own : length (take (leading_piece bytes).1 bytes) ≡ (leading_piece bytes).1 = length-take-le (leading_piece bytes).1 bytes (leading_piece-in_range bytes nonempty) in
    let behind : joined (pieces (behind_first bytes)) ≡ behind_first bytes = (ArePiecesOf-pieces (behind_first bytes)).joins in
    ap reads_over (pieces-step bytes nonempty)
    ∙ ap (λ n. Step (leading_piece bytes) n (joined (pieces (behind_first bytes)))) own
    ∙ ap (λ bs. Step (leading_piece bytes) (leading_piece bytes).1 bs) behind
    ∙ ap (λ (g : Kind × ℕ). Step g g.1 (drop g.1 bytes)) (sym is_front)
    ∙ ap (λ bs. piece_reads f.0 f.1 (drop f.1 bytes) + reads_over (pieces bs)) (sym is_rest)

-- a run of what passes one test, and then of what passes a wider one
pub prefix_len-within : {X : Type 0} (p q : X → Bool) → ((x : X) → p x ≡ true → q x ≡ true) → (xs : List X) → prefix_len p xs + prefix_len q (drop (prefix_len p xs) xs) ≡ prefix_len q xs
prefix_len-within p q wider [] = refl
prefix_len-within {X} p q wider (x ∷ xs) =
    let Is : ℕ → Type 0 = λ n. n + prefix_len q (drop n (x ∷ xs)) ≡ prefix_len q (x ∷ xs) in
    elim (cases_Bool (p x)) [
      | inl passes ↦ subst Is (sym (prefix_len-pass p x xs passes)) (omega (arith, prefix_len-within p q wider xs, prefix_len-pass q x xs (wider x passes)))
      | inr stops ↦ subst Is (sym (prefix_len-fail p x xs stops)) (let none : 0 + prefix_len q (x ∷ xs) ≡ prefix_len q (x ∷ xs) = omega arith in none)
    ]

-- what is read after an opener ends at the byte after the next ESC
pub control_reads-few : (bytes : List ℕ) → control_reads bytes ≤ text_len bytes + 1
control_reads-few bytes =
    let behind = drop (prefix_len is_parameter bytes) bytes in
    omega (arith, prefix_len-within is_parameter is_not_escape is_not_escape-parameter bytes, prefix_len-within is_intermediate is_not_escape is_not_escape-intermediate behind)

pub string_end_reads-few : (bytes : List ℕ) → string_end_reads bytes ≤ 2
string_end_reads-few [] = omega arith
string_end_reads-few (b ∷ bs) =
    let Few : ℕ → Type 0 = λ n. 1 + n ≤ 2 in
    elim (cases_Bool (b == escape)) [
      | inl is ↦ subst Few (sym (cond-true (b == escape) (min 1 (length bs)) 0 is)) (omega arith)
      | inr is_not ↦ subst Few (sym (cond-false (b == escape) (min 1 (length bs)) 0 is_not)) (omega arith)
    ]

pub string_reads-few : (bell_ends : Bool) (bytes : List ℕ) → string_reads bell_ends bytes ≤ text_len bytes + 2
string_reads-few bell_ends bytes =
    omega (arith, prefix_len-within (is_in_string bell_ends) is_not_escape (is_not_escape-inside bell_ends) bytes, string_end_reads-few (drop (prefix_len (is_in_string bell_ends) bytes) bytes))

pub escape_reads-few : (bytes : List ℕ) → escape_reads bytes ≤ text_len bytes + 1
escape_reads-few bytes = omega (arith, prefix_len-within is_intermediate is_not_escape is_not_escape-intermediate bytes)

-- after a byte that is no opener nothing more is read, and an opener is no ESC
pub opened_reads-few : (opener : ℕ) (rest : List ℕ) → 1 + opened_reads opener rest ≤ text_len (opener ∷ rest) + 2
opened_reads-few opener rest =
    let Few : ℕ → Type 0 = λ n. 1 + n ≤ text_len (opener ∷ rest) + 2 in
    let one : is_not_escape opener ≡ true → text_len (opener ∷ rest) ≡ 1 + text_len rest = λ plain. omega (arith, prefix_len-pass is_not_escape opener rest plain) in
    let third = cond (is_intermediate opener) (escape_reads rest) 0 in
    let second = cond (opens_string opener) (string_reads false rest) third in
    let first = cond (opener == 0x5d) (string_reads true rest) second in
    elim (cases_Bool (opener == 0x5b)) [
      | inl is ↦ subst Few (sym (cond-true (opener == 0x5b) (control_reads rest) first is)) (let plain : is_not_escape opener ≡ true = grind (arith, nat_tests, is) in omega (arith, control_reads-few rest, one plain))
      | inr not_1 ↦ subst Few (sym (cond-false (opener == 0x5b) (control_reads rest) first not_1)) (elim (cases_Bool (opener == 0x5d)) [
        | inl is ↦ subst Few (sym (cond-true (opener == 0x5d) (string_reads true rest) second is)) (let plain : is_not_escape opener ≡ true = grind (arith, nat_tests, is) in omega (arith, string_reads-few true rest, one plain))
        | inr not_2 ↦ subst Few (sym (cond-false (opener == 0x5d) (string_reads true rest) second not_2)) (elim (cases_Bool (opens_string opener)) [
          | inl is ↦ subst Few (sym (cond-true (opens_string opener) (string_reads false rest) third is)) (omega (arith, string_reads-few false rest, one (is_not_escape-opens_string opener is)))
          | inr not_3 ↦ subst Few (sym (cond-false (opens_string opener) (string_reads false rest) third not_3)) (elim (cases_Bool (is_intermediate opener)) [
            | inl is ↦ subst Few (sym (cond-true (is_intermediate opener) (escape_reads rest) 0 is)) (omega (arith, escape_reads-few rest, one (is_not_escape-intermediate opener is)))
            | inr not_4 ↦ subst Few (sym (cond-false (is_intermediate opener) (escape_reads rest) 0 not_4)) (omega arith)
          ])
        ])
      ])
    ]

pub tried_reads-few : (bytes : List ℕ) → tried_reads bytes ≤ text_len bytes + 2
tried_reads-few [] = omega arith
tried_reads-few (opener ∷ rest) = opened_reads-few opener rest

-- plain bytes before others
pub text_len-behind : (bytes more : List ℕ) → list_all is_not_escape bytes ≡ true → text_len (bytes ++ more) ≡ length bytes + text_len more
text_len-behind [] more plain = omega arith
text_len-behind (b ∷ bs) more plain =
    let parts = and_parts (is_not_escape b) (list_all is_not_escape bs) plain in
    omega (arith, prefix_len-pass is_not_escape b (bs ++ more) parts.0, text_len-behind bs more parts.1)

-- no other byte comes before a piece that begins with an ESC
pub text_len-escape : (bytes rest more : List ℕ) → bytes ≡ escape ∷ rest → text_len (bytes ++ more) ≡ 0
text_len-escape bytes rest more is = ap (λ bs. text_len (bs ++ more)) is

-- one piece more. After a broken ESC the bytes up to the next are read once more, and so are that ESC and the byte
-- after it; of these, three reads are left
pub reads_over-sequence : (kind : Kind) (bytes : List ℕ) (ps : List Piece) → HasForm kind bytes → reads_over ps + text_len (joined ps) ≤ 3 * length (joined ps) → length bytes + reads_over ps + text_len (bytes ++ joined ps) ≤ 3 * length (bytes ++ joined ps)
reads_over-sequence kind bytes ps has few =
    let starts = HasForm-starts kind bytes has in
    omega (arith, few, text_len-escape bytes starts.0 (joined ps) starts.1, length-append bytes (joined ps))

pub reads_over-piece : (kind : Kind) (bytes : List ℕ) (ps : List Piece) → Stands kind bytes ps → reads_over ps + text_len (joined ps) ≤ 3 * length (joined ps) → piece_reads kind (length bytes) (joined ps) + reads_over ps + text_len (bytes ++ joined ps) ≤ 3 * length (bytes ++ joined ps)
reads_over-piece Text bytes ps stands few =
    omega (arith, few, stands.some, text_len-behind bytes (joined ps) stands.plain, length-append bytes (joined ps))
reads_over-piece Sgr bytes ps stands few = reads_over-sequence Sgr bytes ps stands few
reads_over-piece Csi bytes ps stands few = reads_over-sequence Csi bytes ps stands few
reads_over-piece Osc bytes ps stands few = reads_over-sequence Osc bytes ps stands few
reads_over-piece Esc bytes ps stands few = reads_over-sequence Esc bytes ps stands few
reads_over-piece Str bytes ps stands few = reads_over-sequence Str bytes ps stands few
reads_over-piece Broken bytes ps stands few =
    omega (arith, few, tried_reads-few (joined ps), ap length stands.spelled, text_len-escape bytes [] (joined ps) stands.spelled, length-append bytes (joined ps))

-- all pieces
pub reads_over-text : (ps : List Piece) → EachStands ps → reads_over ps + text_len (joined ps) ≤ 3 * length (joined ps)
reads_over-text [] stand = omega arith
reads_over-text (p ∷ ps) stand = reads_over-piece p.kind p.bytes ps (stand.0) (reads_over-text ps stand.1)

-- three reads at most for each byte of a text
pub reads_over-few : (bytes : List ℕ) → reads_over (pieces bytes) ≤ 3 * length bytes
reads_over-few bytes =
    let are = ArePiecesOf-pieces bytes in
    omega (arith, reads_over-text (pieces bytes) are.stand, ap length are.joins)
