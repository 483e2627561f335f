-- What comes after the ESC of a sequence, and which sequences hold a second ESC.
use Rattle.std.proofs.Common.{◌≡◌, ◌+◌, ◌<◌, ℕ, suc, Bool, true, false, List, [], ◌∷◌, ◌++◌, length, refl, ap, ◌∙◌, inl, inr, arith, append_assoc, length-append}
use Rattle.std.specs.List.{list_all}
use Rattle.std.specs.Cmp.Derive.{both_true}
use Rattle.std.proofs.lemmas.Bool.{and_parts}
use Rattle.std.proofs.lemmas.Bool.Decides.{nat_tests}
use Rattle.ansi_scan.specs.declared.items.Kind.{Kind}
use Rattle.ansi_scan.specs.declared.items.Kind.TheVariants.{Text, Sgr, Csi, Osc, Esc, Str, Broken}
use Rattle.ansi_scan.specs.Sequences.{escape, bell, string_terminator, is_not_escape, is_parameter, is_intermediate, is_final, is_escape_final, is_string_byte, is_command_byte, opens_string, HasForm}
use Rattle.ansi_scan.specs.Rendition.{is_numeric}
use Rattle.ansi_scan.proofs.Joins.{list_all-append}
use Rattle.ansi_str_search.specs.Text.Cutting.{IsOpenString}

-- ---- bytes other than ESC

pub list_all-weaker : (p q : ℕ → Bool) → ((b : ℕ) → p b ≡ true → q b ≡ true) → (bs : List ℕ) → list_all p bs ≡ true → list_all q bs ≡ true
list_all-weaker p q weaker [] each = refl
list_all-weaker p q weaker (b ∷ bs) each =
    let parts = and_parts (p b) (list_all p bs) each in
    both_true (weaker b parts.0) (list_all-weaker p q weaker bs parts.1)

is_not_escape-numeric : (b : ℕ) → is_numeric b ≡ true → is_not_escape b ≡ true
is_not_escape-numeric b is_one = grind (arith, nat_tests)

is_not_escape-parameter : (b : ℕ) → is_parameter b ≡ true → is_not_escape b ≡ true
is_not_escape-parameter b is_one = grind (arith, nat_tests)

is_not_escape-intermediate : (b : ℕ) → is_intermediate b ≡ true → is_not_escape b ≡ true
is_not_escape-intermediate b is_one = grind (arith, nat_tests)

is_not_escape-final : (b : ℕ) → is_final b ≡ true → is_not_escape b ≡ true
is_not_escape-final b is_one = grind (arith, nat_tests)

is_not_escape-escape_final : (b : ℕ) → is_escape_final b ≡ true → is_not_escape b ≡ true
is_not_escape-escape_final b is_one = grind (arith, nat_tests)

is_not_escape-string : (b : ℕ) → is_string_byte b ≡ true → is_not_escape b ≡ true
is_not_escape-string b is_one = grind (arith, nat_tests)

is_not_escape-command : (b : ℕ) → is_command_byte b ≡ true → is_not_escape b ≡ true
is_not_escape-command b is_one = grind (arith, nat_tests)

is_not_escape-opener : (b : ℕ) → opens_string b ≡ true → is_not_escape b ≡ true
is_not_escape-opener b is_one = grind (arith, nat_tests)

-- an open string holds no ESC
pub plain-open : (opener : ℕ) (string : List ℕ) → IsOpenString opener string → list_all is_not_escape (opener ∷ string) ≡ true
plain-open opener string (inl command) =
    both_true (ap is_not_escape command.0) (list_all-weaker is_command_byte is_not_escape is_not_escape-command string command.1)
plain-open opener string (inr other) =
    both_true (is_not_escape-opener opener other.0) (list_all-weaker is_string_byte is_not_escape is_not_escape-string string other.1)

-- ---- the tail of a sequence

-- after its ESC a sequence has no other, or it is a string that STRING TERMINATOR ends
pub data Tail (form : List ℕ) : Type 0 where
  plain_tail : (tail : List ℕ) → form ≡ escape ∷ tail → list_all is_not_escape tail ≡ true → Tail form
  string_tail : (opener : ℕ) (string : List ℕ) → form ≡ escape ∷ ((opener ∷ string) ++ string_terminator) → IsOpenString opener string → Tail form

pub Tail-HasForm : (kind : Kind) (form : List ℕ) → HasForm kind form → Tail form
Tail-HasForm Text form has = absurd has
Tail-HasForm Sgr form has =
    plain_tail (0x5b ∷ (has.parameters ++ 0x6d ∷ [])) has.spelled
    (list_all-append is_not_escape has.parameters (0x6d ∷ []) (list_all-weaker is_numeric is_not_escape is_not_escape-numeric has.parameters has.each_numeric) refl)
Tail-HasForm Csi form has =
    let control = has.control in
    plain_tail (0x5b ∷ (control.parameters ++ (control.intermediates ++ control.final ∷ []))) control.spelled
    (list_all-append is_not_escape control.parameters (control.intermediates ++ control.final ∷ [])
    (list_all-weaker is_parameter is_not_escape is_not_escape-parameter control.parameters control.each_parameter)
    (list_all-append is_not_escape control.intermediates (control.final ∷ [])
    (list_all-weaker is_intermediate is_not_escape is_not_escape-intermediate control.intermediates control.each_intermediate)
    (both_true (is_not_escape-final control.final control.ends) refl)))
Tail-HasForm Osc form has = elim has.ends [
  | inl by_bell ↦ plain_tail (0x5d ∷ (has.string ++ bell ∷ [])) (has.spelled ∙ ap (λ e. escape ∷ 0x5d ∷ (has.string ++ e)) by_bell)
      (list_all-append is_not_escape has.string (bell ∷ []) (list_all-weaker is_command_byte is_not_escape is_not_escape-command has.string has.each_byte) refl)
  | inr terminated ↦ string_tail 0x5d has.string (has.spelled ∙ ap (λ e. escape ∷ 0x5d ∷ (has.string ++ e)) terminated) (inl (refl, has.each_byte))
]
Tail-HasForm Esc form has =
    plain_tail (has.intermediates ++ has.final ∷ []) has.spelled
    (list_all-append is_not_escape has.intermediates (has.final ∷ [])
    (list_all-weaker is_intermediate is_not_escape is_not_escape-intermediate has.intermediates has.each_intermediate)
    (both_true (is_not_escape-escape_final has.final has.ends) refl))
Tail-HasForm Str form has = string_tail has.opener has.string has.spelled (inr (has.opens, has.each_byte))
Tail-HasForm Broken form has = absurd has

-- ---- a second ESC within a sequence

pub heads : {X : Type 0} {x y : X} {xs ys : List X} → x ∷ xs ≡ y ∷ ys → x ≡ y
heads same = cc same

pub tails : {X : Type 0} {x y : X} {xs ys : List X} → x ∷ xs ≡ y ∷ ys → xs ≡ ys
tails same = cc same

-- ESC is not plain
pub no_escape : (b : ℕ) (bs : List ℕ) → escape ≡ b → list_all is_not_escape (b ∷ bs) ≡ true → ⊥
no_escape b bs is plain =
    let both : false ≡ true = ap is_not_escape is ∙ (and_parts (is_not_escape b) (list_all is_not_escape bs) plain).0 in
    cc both

-- bytes without ESC reach no ESC after them
plain-short : (front behind tail after : List ℕ) → list_all is_not_escape tail ≡ true → front ++ escape ∷ behind ≡ tail ++ after → length front < length tail → ⊥
plain-short front behind [] after plain same longer = absurd (omega (arith, longer))
plain-short [] behind (t ∷ ts) after plain same longer = no_escape t ts (heads same) plain
plain-short (b ∷ bs) behind (t ∷ ts) after plain same longer =
    plain-short bs behind ts after (and_parts (is_not_escape t) (list_all is_not_escape ts) plain).1 (tails same) (omega (arith, longer))

-- the second ESC of a string is that of its terminator
pub record IsTerminated (front behind string after : List ℕ) : Type 0 where
  pub front_is : front ≡ string
  pub behind_is : behind ≡ 0x5c ∷ after

-- ESC and `\` hold no ESC but the first
terminator : (front behind after : List ℕ) → front ++ escape ∷ behind ≡ escape ∷ 0x5c ∷ after → length front < 2 → IsTerminated front behind [] after
terminator [] behind after same longer = record { front_is = refl; behind_is = tails same }
terminator (b ∷ []) behind after same longer =
    let is : escape ≡ 0x5c = heads (tails same) in
    absurd (omega (arith, is))
terminator (b ∷ c ∷ bs) behind after same longer = absurd (omega (arith, longer))

terminated : (front behind string after : List ℕ) → list_all is_not_escape string ≡ true → front ++ escape ∷ behind ≡ string ++ (escape ∷ 0x5c ∷ after) → length front < length string + 2 → IsTerminated front behind string after
terminated front behind [] after plain same longer = terminator front behind after same (omega (arith, longer))
terminated [] behind (s ∷ ss) after plain same longer = absurd (no_escape s ss (heads same) plain)
terminated (b ∷ bs) behind (s ∷ ss) after plain same longer =
    let others = terminated bs behind ss after (and_parts (is_not_escape s) (list_all is_not_escape ss) plain).1 (tails same) (omega (arith, longer)) in
    record { front_is = ap (λ c. c ∷ bs) (heads same) ∙ ap (λ cs. s ∷ cs) others.front_is; behind_is = others.behind_is }

-- a sequence at the start of the bytes that holds an ESC after them
pub record Reaches (front behind : List ℕ) : Type 0 where
  pub kind : Kind
  pub form : List ℕ
  pub after : List ℕ
  pub has : HasForm kind form
  pub spelled : front ++ escape ∷ behind ≡ form ++ after
  pub longer : length front < length form

-- such a sequence is a string, and the ESC begins its terminator
pub record EndsString (front behind : List ℕ) (r : Reaches (escape ∷ front) behind) : Type 0 where
  pub opener : ℕ
  pub string : List ℕ
  pub front_is : front ≡ opener ∷ string
  pub behind_is : behind ≡ 0x5c ∷ r.after
  pub opened : IsOpenString opener string
  pub form_is : r.form ≡ escape ∷ ((opener ∷ string) ++ string_terminator)

EndsString-Tail : (front behind : List ℕ) (r : Reaches (escape ∷ front) behind) → Tail r.form → EndsString front behind r
EndsString-Tail front behind r (plain_tail tail form_is plain) =
    let whole : escape ∷ (front ++ escape ∷ behind) ≡ escape ∷ (tail ++ r.after) = r.spelled ∙ ap (λ bs. bs ++ r.after) form_is in
    let len : length r.form ≡ suc (length tail) = ap length form_is in
    absurd (plain-short front behind tail r.after plain (tails whole) (omega (arith, len, r.longer)))
EndsString-Tail front behind r (string_tail opener string form_is opened) =
    let whole : escape ∷ (front ++ escape ∷ behind) ≡ escape ∷ (((opener ∷ string) ++ string_terminator) ++ r.after) = r.spelled ∙ ap (λ bs. bs ++ r.after) form_is in
    let same : front ++ escape ∷ behind ≡ (opener ∷ string) ++ (escape ∷ 0x5c ∷ r.after) = tails whole ∙ append_assoc (opener ∷ string) string_terminator r.after in
    let len : length r.form ≡ suc (length ((opener ∷ string) ++ string_terminator)) = ap length form_is in
    let is = terminated front behind (opener ∷ string) r.after (plain-open opener string opened) same
    (omega (arith, len, r.longer, length-append (opener ∷ string) string_terminator)) in
    record { opener = opener; string = string; front_is = is.front_is; behind_is = is.behind_is; opened = opened; form_is = form_is }

pub EndsString-Reaches : (front behind : List ℕ) (r : Reaches (escape ∷ front) behind) → EndsString front behind r
EndsString-Reaches front behind r = EndsString-Tail front behind r (Tail-HasForm r.kind r.form r.has)
