-- Each sequence is found at the start of a text, whatever follows it.
use Rattle.std.proofs.Common.{◌≡◌, ◌+◌, ◌==◌, ◌⊎◌, ℕ, suc, Bool, true, false, ◌&&◌, ◌||◌, not, cond, Option, Some, None, List, [], ◌∷◌, ◌++◌, length, refl, ap, sym, ◌∙◌, subst, inl, inr, arith, append_assoc, length-append}
use Rattle.std.specs.List.{list_all}
use Rattle.std.specs.Option.{option_map}
use Rattle.std.specs.Cmp.Derive.{both_true}
use Rattle.std.proofs.lemmas.Bool.{and_parts, or_left, or_right, or_parts, or_from, cond-true, cond-false, cases_Bool, not-true}
use Rattle.ansi_scan.specs.declared.items.Kind.{Kind}
use Rattle.ansi_scan.specs.declared.items.Kind.TheVariants.{Sgr, Csi, Osc, Esc, Str}
use Rattle.ansi_scan.specs.Sequences.{escape, bell, string_terminator, is_parameter, is_intermediate, is_final, is_escape_final, is_command_byte, opens_string, opens_longer, IsControlSequence, IsSgr, IsOsc, IsStr, IsEsc}
use Rattle.ansi_scan.specs.Styles.Rendition.{is_numeric}
use Rattle.ansi_scan.specs.Pieces.{control_from, is_in_string, string_end, string_from, escape_from, behind_opener, opened, sequence_front}
use Rattle.ansi_scan.proofs.ByteClasses.{is_parameter-numeric, is_parameter-final, is_intermediate-final, is_intermediate-escape_final, opens_string-bracket, opens_string-closing_bracket, opens_longer-intermediate}

-- ---- control sequences

-- numeric bytes are parameter bytes
pub list_all-numeric : (ps : List ℕ) → list_all is_numeric ps ≡ true → list_all is_parameter ps ≡ true
list_all-numeric [] each = refl
list_all-numeric (p ∷ ps) each =
    let parts = and_parts (is_numeric p) (list_all is_numeric ps) each in
    both_true (is_parameter-numeric p parts.0) (list_all-numeric ps parts.1)

-- a byte that goes on
pub control_from-on : (len : ℕ) (numeric parameters : Bool) (b : ℕ) (bs : List ℕ) → (parameters && is_parameter b || is_intermediate b) ≡ true → control_from len numeric parameters (b ∷ bs) ≡ control_from (len + 1) (numeric && is_numeric b) (parameters && is_parameter b) bs
unfolding control_from
control_from-on len numeric parameters b bs goes_on =
    cond-true (parameters && is_parameter b || is_intermediate b)
    (control_from (len + 1) (numeric && is_numeric b) (parameters && is_parameter b) bs)
    (cond (is_final b) (Some (cond (numeric && b == 0x6d) Sgr Csi, len + 1)) None)
    goes_on

-- a byte that does not
pub control_from-off : (len : ℕ) (numeric parameters : Bool) (b : ℕ) (bs : List ℕ) → (parameters && is_parameter b || is_intermediate b) ≡ false → control_from len numeric parameters (b ∷ bs) ≡ cond (is_final b) (Some (cond (numeric && b == 0x6d) Sgr Csi, len + 1)) None
unfolding control_from
control_from-off len numeric parameters b bs ends =
    cond-false (parameters && is_parameter b || is_intermediate b)
    (control_from (len + 1) (numeric && is_numeric b) (parameters && is_parameter b) bs)
    (cond (is_final b) (Some (cond (numeric && b == 0x6d) Sgr Csi, len + 1)) None)
    ends

-- a final byte ends the sequence
pub control_from-final : (len : ℕ) (numeric parameters : Bool) (b : ℕ) (bs : List ℕ) → is_final b ≡ true → control_from len numeric parameters (b ∷ bs) ≡ Some (cond (numeric && b == 0x6d) Sgr Csi, len + 1)
control_from-final len numeric parameters b bs final =
    let ends : (parameters && is_parameter b || is_intermediate b) ≡ false =
    or_from (parameters && is_parameter b) (is_intermediate b) (grind (arith, is_parameter-final b final)) (is_intermediate-final b final) in
    control_from-off len numeric parameters b bs ends
    ∙ cond-true (is_final b) (Some (cond (numeric && b == 0x6d) Sgr Csi, len + 1)) None final

-- numeric bytes are gone through
pub control_from-numeric : (len : ℕ) (ps rest : List ℕ) → list_all is_numeric ps ≡ true → control_from len true true (ps ++ rest) ≡ control_from (len + length ps) true true rest
control_from-numeric len [] rest each =
    let same : len ≡ len + 0 = omega arith in
    ap (λ n. control_from n true true rest) same
control_from-numeric len (p ∷ ps) rest each =
    let parts = and_parts (is_numeric p) (list_all is_numeric ps) each in
    let parameter : is_parameter p ≡ true = is_parameter-numeric p parts.0 in
    let longer : (len + 1) + length ps ≡ len + suc (length ps) = omega arith in
    control_from-on len true true p (ps ++ rest) (or_left (is_parameter p) (is_intermediate p) parameter)
    ∙ ap (λ n. control_from (len + 1) n (is_parameter p) (ps ++ rest)) parts.0
    ∙ ap (λ n. control_from (len + 1) true n (ps ++ rest)) parameter
    ∙ control_from-numeric (len + 1) ps rest parts.1
    ∙ ap (λ n. control_from n true true rest) longer

-- a control sequence is found, as Sgr or as Csi, with this length
pub record EndsControl (found : Option (Kind × ℕ)) (len : ℕ) : Type 0 where
  pub kind : Kind
  pub gives : found ≡ Some (kind, len)
  pub either : (kind ≡ Sgr) ⊎ (kind ≡ Csi)

pub control_from-ends : (len : ℕ) (numeric parameters : Bool) (final : ℕ) (rest : List ℕ) → is_final final ≡ true → EndsControl (control_from len numeric parameters (final ∷ rest)) (len + 1)
control_from-ends len numeric parameters final rest ends =
    let gives = control_from-final len numeric parameters final rest ends in
    elim (cases_Bool (numeric && final == 0x6d)) [
      | inl sgr ↦ record { kind = Sgr; gives = gives ∙ ap (λ b. Some (cond b Sgr Csi, len + 1)) sgr; either = inl refl }
      | inr csi ↦ record { kind = Csi; gives = gives ∙ ap (λ b. Some (cond b Sgr Csi, len + 1)) csi; either = inr refl }
    ]

pub EndsControl-on : (len : ℕ) (numeric parameters : Bool) (b : ℕ) (bs : List ℕ) (n m : ℕ) → (parameters && is_parameter b || is_intermediate b) ≡ true → n ≡ m → EndsControl (control_from (len + 1) (numeric && is_numeric b) (parameters && is_parameter b) bs) n → EndsControl (control_from len numeric parameters (b ∷ bs)) m
EndsControl-on len numeric parameters b bs n m goes_on same ends = record {
  kind = ends.kind;
  gives = control_from-on len numeric parameters b bs goes_on ∙ ends.gives ∙ ap (λ k. Some (ends.kind, k)) same;
  either = ends.either;
}

-- intermediate bytes are gone through
pub control_from-intermediates : (len : ℕ) (numeric parameters : Bool) (is : List ℕ) (final : ℕ) (rest : List ℕ) → list_all is_intermediate is ≡ true → is_final final ≡ true → EndsControl (control_from len numeric parameters (is ++ final ∷ rest)) (len + (length is + 1))
control_from-intermediates len numeric parameters [] final rest each ends =
    let same : len + 1 ≡ len + (0 + 1) = omega arith in
    subst (λ n. EndsControl (control_from len numeric parameters (final ∷ rest)) n) same (control_from-ends len numeric parameters final rest ends)
control_from-intermediates len numeric parameters (i ∷ is) final rest each ends =
    let parts = and_parts (is_intermediate i) (list_all is_intermediate is) each in
    EndsControl-on len numeric parameters i (is ++ final ∷ rest) ((len + 1) + (length is + 1)) (len + (suc (length is) + 1))
    (or_right (parameters && is_parameter i) (is_intermediate i) parts.0)
    (omega arith)
    (control_from-intermediates (len + 1) (numeric && is_numeric i) (parameters && is_parameter i) is final rest parts.1 ends)

-- parameter bytes are gone through
pub control_from-parameters : (len : ℕ) (numeric : Bool) (ps is : List ℕ) (final : ℕ) (rest : List ℕ) → list_all is_parameter ps ≡ true → list_all is_intermediate is ≡ true → is_final final ≡ true → EndsControl (control_from len numeric true (ps ++ (is ++ final ∷ rest))) (len + (length ps + (length is + 1)))
control_from-parameters len numeric [] is final rest each each_is ends =
    let same : len + (length is + 1) ≡ len + (0 + (length is + 1)) = omega arith in
    subst (λ n. EndsControl (control_from len numeric true (is ++ final ∷ rest)) n) same (control_from-intermediates len numeric true is final rest each_is ends)
control_from-parameters len numeric (p ∷ ps) is final rest each each_is ends =
    let parts = and_parts (is_parameter p) (list_all is_parameter ps) each in
    let Ends_ : Bool → Type 0 = λ b. EndsControl (control_from (len + 1) (numeric && is_numeric p) b (ps ++ (is ++ final ∷ rest))) ((len + 1) + (length ps + (length is + 1))) in
    EndsControl-on len numeric true p (ps ++ (is ++ final ∷ rest)) ((len + 1) + (length ps + (length is + 1))) (len + (suc (length ps) + (length is + 1)))
    (or_left (is_parameter p) (is_intermediate p) parts.0)
    (omega arith)
    (subst Ends_ (sym parts.0) (control_from-parameters (len + 1) (numeric && is_numeric p) ps is final rest parts.1 each_is ends))

-- what is found after ESC and `[`
pub sequence_front-control : (bs : List ℕ) (kind : Kind) (n : ℕ) → control_from 0 true true bs ≡ Some (kind, n) → sequence_front (escape ∷ 0x5b ∷ bs) ≡ Some (kind, n + 2)
unfolding sequence_front opened
sequence_front-control bs kind n found = ap (λ o. option_map (λ (f : Kind × ℕ). (f.0, f.1 + 2)) o) found

-- an Sgr is found
pub sequence_front-Sgr : (form after : List ℕ) → IsSgr form → sequence_front (form ++ after) ≡ Some (Sgr, length form)
sequence_front-Sgr form after sgr =
    let ps : List ℕ = sgr.parameters in
    let found : control_from 0 true true (ps ++ 0x6d ∷ after) ≡ Some (Sgr, (0 + length ps) + 1) =
    control_from-numeric 0 ps (0x6d ∷ after) sgr.each_numeric ∙ control_from-final (0 + length ps) true true 0x6d after refl in
    let spelled : form ++ after ≡ escape ∷ 0x5b ∷ (ps ++ 0x6d ∷ after) =
    ap (λ bs. bs ++ after) sgr.spelled ∙ ap (λ bs. escape ∷ 0x5b ∷ bs) (append_assoc ps (0x6d ∷ []) after) in
    let len : ((0 + length ps) + 1) + 2 ≡ length form = omega (arith, ap length sgr.spelled, length-append ps (0x6d ∷ [])) in
    ap sequence_front spelled
    ∙ sequence_front-control (ps ++ 0x6d ∷ after) Sgr ((0 + length ps) + 1) found
    ∙ ap (λ n. Some (Sgr, n)) len

-- a control sequence is found, as Sgr or as Csi
pub EndsControl-sequence_front : (form after : List ℕ) → IsControlSequence form → EndsControl (sequence_front (form ++ after)) (length form)
EndsControl-sequence_front form after control =
    let ps : List ℕ = control.parameters in
    let is : List ℕ = control.intermediates in
    let found = control_from-parameters 0 true ps is control.final after control.each_parameter control.each_intermediate control.ends in
    let spelled : form ++ after ≡ escape ∷ 0x5b ∷ (ps ++ (is ++ control.final ∷ after)) =
    ap (λ bs. bs ++ after) control.spelled
    ∙ ap (λ bs. escape ∷ 0x5b ∷ bs) (append_assoc ps (is ++ control.final ∷ []) after)
    ∙ ap (λ bs. escape ∷ 0x5b ∷ (ps ++ bs)) (append_assoc is (control.final ∷ []) after) in
    let len : (0 + (length ps + (length is + 1))) + 2 ≡ length form =
    omega (arith, ap length control.spelled, length-append ps (is ++ control.final ∷ []), length-append is (control.final ∷ [])) in
    record {
      kind = found.kind;
      gives = ap sequence_front spelled
          ∙ sequence_front-control (ps ++ (is ++ control.final ∷ after)) found.kind (0 + (length ps + (length is + 1))) found.gives
          ∙ ap (λ n. Some (found.kind, n)) len;
      either = found.either;
    }

-- ---- strings

-- the bytes of a string are gone through
pub string_from-inside : (len : ℕ) (bell_ends : Bool) (string rest : List ℕ) → list_all (is_in_string bell_ends) string ≡ true → string_from len bell_ends (string ++ rest) ≡ string_from (len + length string) bell_ends rest
unfolding string_from
string_from-inside len bell_ends [] rest each =
    let same : len ≡ len + 0 = omega arith in
    ap (λ n. string_from n bell_ends rest) same
string_from-inside len bell_ends (b ∷ string) rest each =
    let parts = and_parts (is_in_string bell_ends b) (list_all (is_in_string bell_ends) string) each in
    let longer : (len + 1) + length string ≡ len + suc (length string) = omega arith in
    cond-true (is_in_string bell_ends b) (string_from (len + 1) bell_ends (string ++ rest)) (string_end len bell_ends b (string ++ rest)) parts.0
    ∙ string_from-inside (len + 1) bell_ends string rest parts.1
    ∙ ap (λ n. string_from n bell_ends rest) longer

-- BELL ends a string where it may
pub string_from-bell : (len : ℕ) (rest : List ℕ) → string_from len true (bell ∷ rest) ≡ Some (len + 1)
unfolding string_from
string_from-bell len rest = refl

-- STRING TERMINATOR ends each string
pub string_from-terminator : (len : ℕ) (bell_ends : Bool) (rest : List ℕ) → string_from len bell_ends (escape ∷ 0x5c ∷ rest) ≡ Some (len + 2)
unfolding string_from
string_from-terminator len true rest = refl
string_from-terminator len false rest = refl

-- a string with its end is found
pub string_from-bell_ended : (string after : List ℕ) → list_all is_command_byte string ≡ true → string_from 0 true (string ++ bell ∷ after) ≡ Some (length string + 1)
string_from-bell_ended string after each =
    let same : (0 + length string) + 1 ≡ length string + 1 = omega arith in
    string_from-inside 0 true string (bell ∷ after) each ∙ string_from-bell (0 + length string) after ∙ ap (λ n. Some n) same

pub string_from-terminated : (bell_ends : Bool) (string after : List ℕ) → list_all (is_in_string bell_ends) string ≡ true → string_from 0 bell_ends (string ++ escape ∷ 0x5c ∷ after) ≡ Some (length string + 2)
string_from-terminated bell_ends string after each =
    let same : (0 + length string) + 2 ≡ length string + 2 = omega arith in
    string_from-inside 0 bell_ends string (escape ∷ 0x5c ∷ after) each ∙ string_from-terminator (0 + length string) bell_ends after ∙ ap (λ n. Some n) same

-- what is found after ESC and `]`
pub sequence_front-command : (bs : List ℕ) (n : ℕ) → string_from 0 true bs ≡ Some n → sequence_front (escape ∷ 0x5d ∷ bs) ≡ Some (Osc, n + 2)
unfolding sequence_front opened
sequence_front-command bs n found = ap (λ o. behind_opener Osc o) found

-- what is found after ESC and a byte that opens a string
pub sequence_front-string : (opener : ℕ) (bs : List ℕ) (n : ℕ) → opens_string opener ≡ true → string_from 0 false bs ≡ Some n → sequence_front (escape ∷ opener ∷ bs) ≡ Some (Str, n + 2)
unfolding sequence_front opened
sequence_front-string opener bs n opens found =
    cond-false (opener == 0x5b) _ _ (opens_string-bracket opener opens)
    ∙ cond-false (opener == 0x5d) _ _ (opens_string-closing_bracket opener opens)
    ∙ cond-true (opens_string opener) _ _ opens
    ∙ ap (λ o. behind_opener Str o) found

-- an operating system command is found
pub sequence_front-Osc : (form after : List ℕ) → IsOsc form → sequence_front (form ++ after) ≡ Some (Osc, length form)
sequence_front-Osc form after osc =
    let string : List ℕ = osc.string in
    elim osc.ends [
      | inl by_bell ↦
          (let own : form ≡ escape ∷ 0x5d ∷ (string ++ bell ∷ []) = osc.spelled ∙ ap (λ e. escape ∷ 0x5d ∷ (string ++ e)) by_bell in
          let spelled : form ++ after ≡ escape ∷ 0x5d ∷ (string ++ bell ∷ after) =
          ap (λ bs. bs ++ after) own ∙ ap (λ bs. escape ∷ 0x5d ∷ bs) (append_assoc string (bell ∷ []) after) in
          let len : (length string + 1) + 2 ≡ length form = omega (arith, ap length own, length-append string (bell ∷ [])) in
          ap sequence_front spelled
          ∙ sequence_front-command (string ++ bell ∷ after) (length string + 1) (string_from-bell_ended string after osc.each_byte)
          ∙ ap (λ n. Some (Osc, n)) len)
      | inr by_terminator ↦
          (let own : form ≡ escape ∷ 0x5d ∷ (string ++ string_terminator) = osc.spelled ∙ ap (λ e. escape ∷ 0x5d ∷ (string ++ e)) by_terminator in
          let spelled : form ++ after ≡ escape ∷ 0x5d ∷ (string ++ escape ∷ 0x5c ∷ after) =
          ap (λ bs. bs ++ after) own ∙ ap (λ bs. escape ∷ 0x5d ∷ bs) (append_assoc string string_terminator after) in
          let len : (length string + 2) + 2 ≡ length form = omega (arith, ap length own, length-append string string_terminator) in
          ap sequence_front spelled
          ∙ sequence_front-command (string ++ escape ∷ 0x5c ∷ after) (length string + 2) (string_from-terminated true string after osc.each_byte)
          ∙ ap (λ n. Some (Osc, n)) len)
    ]

-- any other control string is found
pub sequence_front-Str : (form after : List ℕ) → IsStr form → sequence_front (form ++ after) ≡ Some (Str, length form)
sequence_front-Str form after str =
    let string : List ℕ = str.string in
    let spelled : form ++ after ≡ escape ∷ str.opener ∷ (string ++ escape ∷ 0x5c ∷ after) =
    ap (λ bs. bs ++ after) str.spelled ∙ ap (λ bs. escape ∷ str.opener ∷ bs) (append_assoc string string_terminator after) in
    let len : (length string + 2) + 2 ≡ length form = omega (arith, ap length str.spelled, length-append string string_terminator) in
    ap sequence_front spelled
    ∙ sequence_front-string str.opener (string ++ escape ∷ 0x5c ∷ after) (length string + 2) str.opens (string_from-terminated false string after str.each_byte)
    ∙ ap (λ n. Some (Str, n)) len

-- ---- escape sequences

-- intermediate bytes and a final byte are found
pub escape_from-found : (len : ℕ) (is : List ℕ) (final : ℕ) (rest : List ℕ) → list_all is_intermediate is ≡ true → is_escape_final final ≡ true → escape_from len (is ++ final ∷ rest) ≡ Some (len + (length is + 1))
unfolding escape_from
escape_from-found len [] final rest each ends =
    let same : len + 1 ≡ len + (0 + 1) = omega arith in
    cond-false (is_intermediate final) (escape_from (len + 1) rest) (cond (is_escape_final final) (Some (len + 1)) None) (is_intermediate-escape_final final ends)
    ∙ cond-true (is_escape_final final) (Some (len + 1)) None ends
    ∙ ap (λ n. Some n) same
escape_from-found len (i ∷ is) final rest each ends =
    let parts = and_parts (is_intermediate i) (list_all is_intermediate is) each in
    let same : (len + 1) + (length is + 1) ≡ len + (suc (length is) + 1) = omega arith in
    cond-true (is_intermediate i) (escape_from (len + 1) (is ++ final ∷ rest)) (cond (is_escape_final i) (Some (len + 1)) None) parts.0
    ∙ escape_from-found (len + 1) is final rest parts.1 ends
    ∙ ap (λ n. Some n) same

-- where the byte opens nothing longer, the rest of the cases
pub opened-short : (opener : ℕ) (rest : List ℕ) → opens_longer opener ≡ false → opened opener rest ≡ cond (is_intermediate opener) (behind_opener Esc (escape_from 0 rest)) (cond (is_escape_final opener) (Some (Esc, 2)) None)
unfolding opened
opened-short opener rest short =
    let first = or_parts (opener == 0x5b) (opener == 0x5d || opens_string opener) short in
    let second = or_parts (opener == 0x5d) (opens_string opener) first.1 in
    cond-false (opener == 0x5b) _ _ first.0
    ∙ cond-false (opener == 0x5d) _ _ second.0
    ∙ cond-false (opens_string opener) _ _ second.1

-- an escape sequence is found
pub opened-Esc : (is : List ℕ) (final : ℕ) (after : List ℕ) → list_all is_intermediate is ≡ true → is_escape_final final ≡ true → (is ≡ [] → not (opens_longer final) ≡ true) → sequence_front (escape ∷ (is ++ final ∷ after)) ≡ Some (Esc, length is + 2)
unfolding sequence_front
opened-Esc [] final after each ends alone =
    opened-short final after (not-true (opens_longer final) (alone refl))
    ∙ cond-false (is_intermediate final) (behind_opener Esc (escape_from 0 after)) (cond (is_escape_final final) (Some (Esc, 2)) None) (is_intermediate-escape_final final ends)
    ∙ cond-true (is_escape_final final) (Some (Esc, 2)) None ends
opened-Esc (i ∷ is) final after each ends alone =
    let parts = and_parts (is_intermediate i) (list_all is_intermediate is) each in
    let same : (0 + (length is + 1)) + 2 ≡ suc (length is) + 2 = omega arith in
    opened-short i (is ++ final ∷ after) (opens_longer-intermediate i parts.0)
    ∙ cond-true (is_intermediate i) (behind_opener Esc (escape_from 0 (is ++ final ∷ after))) (cond (is_escape_final i) (Some (Esc, 2)) None) parts.0
    ∙ ap (λ o. behind_opener Esc o) (escape_from-found 0 is final after parts.1 ends)
    ∙ ap (λ n. Some (Esc, n)) same

pub sequence_front-Esc : (form after : List ℕ) → IsEsc form → sequence_front (form ++ after) ≡ Some (Esc, length form)
sequence_front-Esc form after esc =
    let is : List ℕ = esc.intermediates in
    let spelled : form ++ after ≡ escape ∷ (is ++ esc.final ∷ after) =
    ap (λ bs. bs ++ after) esc.spelled ∙ ap (λ bs. escape ∷ bs) (append_assoc is (esc.final ∷ []) after) in
    let len : length is + 2 ≡ length form = omega (arith, ap length esc.spelled, length-append is (esc.final ∷ [])) in
    ap sequence_front spelled
    ∙ opened-Esc is esc.final after esc.each_intermediate esc.ends esc.alone
    ∙ ap (λ n. Some (Esc, n)) len
