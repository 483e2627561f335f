-- What all forms of sequences have in common.
use Rattle.std.proofs.Common.{◌≡◌, ◌≢◌, ◌<◌, ℕ, suc, Option, Some, None, List, [], ◌∷◌, ◌++◌, length, take, refl, ap, sym, ◌∙◌, subst, inl, inr, arith, append_assoc}
use Rattle.std.proofs.Math.Seq.{take-append_seam}
use Rattle.ansi_scan.specs.declared.items.Kind.{Kind}
use Rattle.ansi_scan.specs.declared.items.Kind.TheVariants.{Text, Sgr, Csi, Osc, Esc, Str, Broken}
use Rattle.ansi_scan.specs.Sequences.{Piece, escape, bell, string_terminator, IsSgr, IsCsi, HasForm, NoFormBegins, Stands}
use Rattle.ansi_scan.specs.Pieces.{sequence_front}
use Rattle.ansi_scan.proofs.ByteClasses.{is_final-ascii, is_escape_final-ascii}
use Rattle.ansi_scan.proofs.Complete.{sequence_front-Sgr, EndsControl-sequence_front, sequence_front-Osc, sequence_front-Str, sequence_front-Esc}
use Rattle.ansi_scan.proofs.Sound.{FormAtFront, FormAtFront-sequence_front}

-- each begins with an ESC
pub HasForm-starts : (kind : Kind) (form : List ℕ) → HasForm kind form → (rest : List ℕ) × (form ≡ escape ∷ rest)
HasForm-starts Text form has = absurd has
HasForm-starts Sgr form has = (0x5b ∷ (has.parameters ++ 0x6d ∷ []), has.spelled)
HasForm-starts Csi form has = (0x5b ∷ (has.control.parameters ++ (has.control.intermediates ++ has.control.final ∷ [])), has.control.spelled)
HasForm-starts Osc form has = (0x5d ∷ (has.string ++ has.ending), has.spelled)
HasForm-starts Esc form has = (has.intermediates ++ has.final ∷ [], has.spelled)
HasForm-starts Str form has = (has.opener ∷ (has.string ++ string_terminator), has.spelled)
HasForm-starts Broken form has = absurd has

-- none is empty
pub HasForm-some : (kind : Kind) (form : List ℕ) → HasForm kind form → 0 < length form
HasForm-some kind form has = let len : length form ≡ suc (length (HasForm-starts kind form has).0) = ap length (HasForm-starts kind form has).1 in omega (arith, len)

-- none is a text
pub HasForm-other : (kind : Kind) (form : List ℕ) → HasForm kind form → kind ≢ Text
HasForm-other kind form has same = let Has : Kind → Type 0 = λ k. HasForm k form in subst Has same has

-- each is a piece, whatever follows it
pub Stands-HasForm : (kind : Kind) (form : List ℕ) (after : List Piece) → HasForm kind form → Stands kind form after
Stands-HasForm Text form after has = absurd has
Stands-HasForm Sgr form after has = has
Stands-HasForm Csi form after has = has
Stands-HasForm Osc form after has = has
Stands-HasForm Esc form after has = has
Stands-HasForm Str form after has = has
Stands-HasForm Broken form after has = absurd has

-- ---- the last byte

-- the last of the bytes is ASCII
pub record EndsAscii (bytes : List ℕ) : Type 0 where
  pub body : List ℕ
  pub last : ℕ
  pub spelled : bytes ≡ body ++ last ∷ []
  pub ascii : last < 128

-- each sequence ends with an ASCII byte
pub EndsAscii-HasForm : (kind : Kind) (form : List ℕ) → HasForm kind form → EndsAscii form
EndsAscii-HasForm Text form has = absurd has
EndsAscii-HasForm Sgr form has = record { body = escape ∷ 0x5b ∷ has.parameters; last = 0x6d; spelled = has.spelled; ascii = omega arith }
EndsAscii-HasForm Csi form has = record {
  body = escape ∷ 0x5b ∷ (has.control.parameters ++ has.control.intermediates);
  last = has.control.final;
  spelled = has.control.spelled ∙ ap (λ bs. escape ∷ 0x5b ∷ bs) (sym (append_assoc has.control.parameters has.control.intermediates (has.control.final ∷ [])));
  ascii = is_final-ascii has.control.final has.control.ends;
}
EndsAscii-HasForm Osc form has =
    elim has.ends [
      | inl by_bell ↦ record {
        body = escape ∷ 0x5d ∷ has.string;
        last = bell;
        spelled = has.spelled ∙ ap (λ e. escape ∷ 0x5d ∷ (has.string ++ e)) by_bell;
        ascii = omega arith;
      }
      | inr terminated ↦ record {
        body = escape ∷ 0x5d ∷ (has.string ++ escape ∷ []);
        last = 0x5c;
        spelled = has.spelled ∙ ap (λ e. escape ∷ 0x5d ∷ (has.string ++ e)) terminated ∙ ap (λ bs. escape ∷ 0x5d ∷ bs) (sym (append_assoc has.string (escape ∷ []) (0x5c ∷ [])));
        ascii = omega arith;
      }
    ]
EndsAscii-HasForm Esc form has = record { body = escape ∷ has.intermediates; last = has.final; spelled = has.spelled; ascii = is_escape_final-ascii has.final has.ends }
EndsAscii-HasForm Str form has = record {
  body = escape ∷ has.opener ∷ (has.string ++ escape ∷ []);
  last = 0x5c;
  spelled = has.spelled ∙ ap (λ bs. escape ∷ has.opener ∷ bs) (sym (append_assoc has.string (escape ∷ []) (0x5c ∷ [])));
  ascii = omega arith;
}
EndsAscii-HasForm Broken form has = absurd has

-- ---- a form is found exactly where it is

-- two fronts of one list that are equally long are the same
pub same_front : (xs ys zs ws : List ℕ) → xs ++ ys ≡ zs ++ ws → length xs ≡ length zs → xs ≡ zs
same_front xs ys zs ws same len =
    sym (take-append_seam xs ys) ∙ ap (λ bs. take (length xs) bs) same ∙ ap (λ n. take n (zs ++ ws)) len ∙ take-append_seam zs ws

-- what is found in bytes that begin with an ESC
pub FormAtFront-starts : (bytes rest : List ℕ) (found : Kind × ℕ) → bytes ≡ escape ∷ rest → sequence_front bytes ≡ Some found → FormAtFront bytes found
FormAtFront-starts bytes rest found starts is =
    let At : List ℕ → Type 0 = λ bs. FormAtFront bs found in
    subst At (sym starts) (FormAtFront-sequence_front rest found (ap sequence_front (sym starts) ∙ is))

-- a control sequence that is no Sgr is not found as one
pub sequence_front-not_Sgr : (form after : List ℕ) → IsCsi form → sequence_front (form ++ after) ≡ Some (Sgr, length form) → ⊥
sequence_front-not_Sgr form after csi is =
    let starts = HasForm-starts Csi form csi in
    let found : FormAtFront (form ++ after) (Sgr, length form) = FormAtFront-starts (form ++ after) (starts.0 ++ after) (Sgr, length form) (ap (λ bs. bs ++ after) starts.1) is in
    let same : found.form ≡ form = sym (same_front form after found.form found.after found.spelled found.counted) in
    csi.other (subst IsSgr same found.has)

-- each sequence is found, whatever follows it
pub sequence_front-HasForm : (kind : Kind) (form after : List ℕ) → HasForm kind form → sequence_front (form ++ after) ≡ Some (kind, length form)
sequence_front-HasForm Text form after has = absurd has
sequence_front-HasForm Sgr form after has = sequence_front-Sgr form after has
sequence_front-HasForm Csi form after has =
    let found = EndsControl-sequence_front form after has.control in
    elim found.either [
      | inl sgr ↦ absurd (sequence_front-not_Sgr form after has (found.gives ∙ ap (λ kind. Some (kind, length form)) sgr))
      | inr csi ↦ found.gives ∙ ap (λ kind. Some (kind, length form)) csi
    ]
sequence_front-HasForm Osc form after has = sequence_front-Osc form after has
sequence_front-HasForm Esc form after has = sequence_front-Esc form after has
sequence_front-HasForm Str form after has = sequence_front-Str form after has
sequence_front-HasForm Broken form after has = absurd has

-- where nothing is found, there is no sequence
pub NoFormBegins-None : (bytes : List ℕ) → sequence_front bytes ≡ None → NoFormBegins bytes
NoFormBegins-None bytes none = λ kind form after has starts.
    (let both : None ≡ Some (kind, length form) = sym none ∙ ap sequence_front starts ∙ sequence_front-HasForm kind form after has in
    cc both)

-- where there is no sequence, nothing is found
pub found-NoFormBegins : (rest : List ℕ) (found : Option (Kind × ℕ)) → sequence_front (escape ∷ rest) ≡ found → NoFormBegins (escape ∷ rest) → found ≡ None
found-NoFormBegins rest None is none = refl
found-NoFormBegins rest (Some f) is none =
    let at : FormAtFront (escape ∷ rest) f = FormAtFront-sequence_front rest f is in
    absurd (none f.0 at.form at.after at.has at.spelled)
