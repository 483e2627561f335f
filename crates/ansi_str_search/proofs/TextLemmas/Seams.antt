-- The pieces of a text and those of a text after it that begins with ESC.
use Rattle.std.proofs.Common.{◌≡◌, ◌≢◌, ◌==◌, ◌≤◌, ℕ, true, false, List, [], ◌∷◌, ◌++◌, length, take, drop, refl, ap, sym, ◌∙◌, subst, inl, inr, arith, append_assoc}
use Rattle.std.proofs.lemmas.Bool.{cases_lt, cond-false}
use Rattle.std.proofs.lemmas.List.{take-append-drop, take-append-le}
use Rattle.std.proofs.Math.Seq.{take-append_seam}
use Rattle.ansi_scan.specs.declared.items.Kind.{Kind}
use Rattle.ansi_scan.specs.declared.items.Kind.TheVariants.{Text, Sgr, Csi, Osc, Esc, Str, Broken}
use Rattle.ansi_scan.specs.Sequences.{Piece, escape, string_terminator, opens_string, joined, NoTextFirst, HasForm, NoFormBegins, Stands, EachStands, ArePiecesOf}
use Rattle.ansi_scan.proofs.ByteClasses.{opens_string-closing_bracket}
use Rattle.ansi_scan.proofs.Forms.{Stands-HasForm}
use Rattle.ansi_str_search.specs.Text.Cutting.{IsOpenString, EndsOpen, EndsNoString, string_kind}
use Rattle.ansi_str_search.proofs.TextLemmas.Tails.{heads, no_escape, Reaches, EndsString-Reaches}

-- no sequence that begins in the text holds the ESC after it
abbrev pub NoneReaches : List ℕ → List ℕ → Type 0
NoneReaches text behind = (before inside : List ℕ) → text ≡ before ++ escape ∷ inside → Reaches (escape ∷ inside) behind → ⊥

-- the same of what comes after some bytes
NoneReaches-behind : (bytes text behind : List ℕ) → NoneReaches (bytes ++ text) behind → NoneReaches text behind
NoneReaches-behind bytes text behind none = λ before inside same r.
    none (bytes ++ before) inside (ap (λ bs. bytes ++ bs) same ∙ sym (append_assoc bytes before (escape ∷ inside))) r

pub joined-append : (ps qs : List Piece) → joined (ps ++ qs) ≡ joined ps ++ joined qs
joined-append [] qs = refl
joined-append (p ∷ ps) qs = ap (λ bs. p.bytes ++ bs) (joined-append ps qs) ∙ sym (append_assoc p.bytes (joined ps) (joined qs))

-- a text piece doesn't begin with ESC
no_text-kind : (kind : Kind) (bytes : List ℕ) (after : List Piece) (behind : List ℕ) → Stands kind bytes after → bytes ++ joined after ≡ escape ∷ behind → kind ≢ Text
no_text-kind Text [] after behind stands same = absurd (omega (arith, stands.some))
no_text-kind Text (b ∷ bs) after behind stands same =
    absurd (no_escape b bs (sym (heads same)) stands.plain)
no_text-kind Sgr bytes after behind stands same = λ e. cc e
no_text-kind Csi bytes after behind stands same = λ e. cc e
no_text-kind Osc bytes after behind stands same = λ e. cc e
no_text-kind Esc bytes after behind stands same = λ e. cc e
no_text-kind Str bytes after behind stands same = λ e. cc e
no_text-kind Broken bytes after behind stands same = λ e. cc e

no_text-escape : (qs : List Piece) (behind : List ℕ) → EachStands qs → joined qs ≡ escape ∷ behind → NoTextFirst qs
no_text-escape [] behind each same = tt
no_text-escape (q ∷ qs) behind each same = no_text-kind q.kind q.bytes qs behind each.0 same

no_text-seam : (ps qs : List Piece) (behind : List ℕ) → NoTextFirst ps → EachStands qs → joined qs ≡ escape ∷ behind → NoTextFirst (ps ++ qs)
no_text-seam [] qs behind none each same = no_text-escape qs behind each same
no_text-seam (p ∷ ps) qs behind none each same = none

-- a prefix of two lists that is no longer than the first is a prefix of the first
front_of : (xs ys zs ws : List ℕ) → xs ++ ys ≡ zs ++ ws → length zs ≤ length xs → xs ≡ zs ++ drop (length zs) xs
front_of xs ys zs ws same fits =
    let own : take (length zs) xs ≡ zs = sym (take-append-le (length zs) xs ys fits) ∙ ap (λ bs. take (length zs) bs) same ∙ take-append_seam zs ws in
    sym (take-append-drop (length zs) xs) ∙ ap (λ bs. bs ++ drop (length zs) xs) own

-- a broken ESC stays broken
no_form-seam : (inside behind : List ℕ) → NoFormBegins (escape ∷ inside) → (Reaches (escape ∷ inside) behind → ⊥) → NoFormBegins (escape ∷ (inside ++ escape ∷ behind))
no_form-seam inside behind none no_reach = λ kind form after has same.
    elim (cases_lt (length (escape ∷ inside)) (length form)) [
      | inl longer ↦ no_reach (record { kind = kind; form = form; after = after; has = has; spelled = same; longer = longer })
      | inr fits ↦ none kind form (drop (length form) (escape ∷ inside)) has (front_of (escape ∷ inside) (escape ∷ behind) form after same fits)
    ]

Stands-seam : (kind : Kind) (bytes : List ℕ) (ps qs : List Piece) (behind : List ℕ) → Stands kind bytes ps → EachStands qs → joined qs ≡ escape ∷ behind → NoneReaches (bytes ++ joined ps) behind → Stands kind bytes (ps ++ qs)
Stands-seam Text bytes ps qs behind stands each same none = record { some = stands.some; plain = stands.plain; ends = no_text-seam ps qs behind stands.ends each same }
Stands-seam Sgr bytes ps qs behind stands each same none = stands
Stands-seam Csi bytes ps qs behind stands each same none = stands
Stands-seam Osc bytes ps qs behind stands each same none = stands
Stands-seam Esc bytes ps qs behind stands each same none = stands
Stands-seam Str bytes ps qs behind stands each same none = stands
Stands-seam Broken bytes ps qs behind stands each same none =
    let NoForm : List ℕ → Type 0 = λ bs. NoFormBegins (escape ∷ bs) in
    record {
      spelled = stands.spelled;
      no_form = subst NoForm (sym (joined-append ps qs ∙ ap (λ bs. joined ps ++ bs) same))
          (no_form-seam (joined ps) behind stands.no_form (none [] (joined ps) (ap (λ bs. bs ++ joined ps) stands.spelled)));
    }

EachStands-seam : (ps qs : List Piece) (behind : List ℕ) → EachStands ps → EachStands qs → joined qs ≡ escape ∷ behind → NoneReaches (joined ps) behind → EachStands (ps ++ qs)
EachStands-seam [] qs behind each each_behind same none = each_behind
EachStands-seam (p ∷ ps) qs behind each each_behind same none = (
  Stands-seam p.kind p.bytes ps qs behind each.0 each_behind same none,
  EachStands-seam ps qs behind each.1 each_behind same (NoneReaches-behind p.bytes (joined ps) behind none),
)

-- where no sequence reaches over it, an ESC separates a text into two
pub ArePiecesOf-seam : (text behind : List ℕ) (ps qs : List Piece) → ArePiecesOf text ps → ArePiecesOf (escape ∷ behind) qs → NoneReaches text behind → ArePiecesOf (text ++ escape ∷ behind) (ps ++ qs)
ArePiecesOf-seam text behind ps qs are are_behind none =
    let None : List ℕ → Type 0 = λ bs. NoneReaches bs behind in
    record {
      joins = joined-append ps qs ∙ ap (λ bs. bs ++ joined qs) are.joins ∙ ap (λ bs. text ++ bs) are_behind.joins;
      stand = EachStands-seam ps qs behind are.stand are_behind.stand are_behind.joins (subst None (sym are.joins) none);
    }

-- none does where the ESC ends no string
NoneReaches-EndsNoString : (text behind : List ℕ) → EndsNoString text behind → NoneReaches text behind
NoneReaches-EndsNoString text behind ends_none = λ before inside same r.
    (let ends = EndsString-Reaches inside behind r in
    let opened : EndsOpen text = record {
      before = before;
      opener = ends.opener;
      string = ends.string;
      spelled = same ∙ ap (λ bs. before ++ escape ∷ bs) ends.front_is;
      opened = ends.opened;
    } in
    ends_none opened r.after ends.behind_is)

pub ArePiecesOf-apart : (text behind : List ℕ) (ps qs : List Piece) → ArePiecesOf text ps → ArePiecesOf (escape ∷ behind) qs → EndsNoString text behind → ArePiecesOf (text ++ escape ∷ behind) (ps ++ qs)
ArePiecesOf-apart text behind ps qs are are_behind ends_none = ArePiecesOf-seam text behind ps qs are are_behind (NoneReaches-EndsNoString text behind ends_none)

-- ---- a string with its end

-- what an ESC and this byte open is an operating system command, or another string
pub HasForm-open : (opener : ℕ) (string : List ℕ) → IsOpenString opener string → HasForm (string_kind opener) (escape ∷ opener ∷ (string ++ string_terminator))
HasForm-open opener string (inl command) =
    let Has : ℕ → Type 0 = λ b. HasForm (string_kind b) (escape ∷ b ∷ (string ++ string_terminator)) in
    subst Has (sym command.0) (record { string = string; ending = string_terminator; spelled = refl; each_byte = command.1; ends = inr refl })
HasForm-open opener string (inr other) =
    let Has : Kind → Type 0 = λ kind. HasForm kind (escape ∷ opener ∷ (string ++ string_terminator)) in
    let kind : Str ≡ string_kind opener = sym (cond-false (opener == 0x5d) Osc Str (opens_string-closing_bracket opener other.0)) in
    subst Has kind (record { opener = opener; string = string; spelled = refl; opens = other.0; each_byte = other.1 })

-- what opens a string is not the byte that ends one
pub no_end : (opener : ℕ) (string : List ℕ) → IsOpenString opener string → opener ≢ 0x5c
no_end opener string (inl command) = λ is. (let both : 0x5d ≡ 0x5c = sym command.0 ∙ is in omega (arith, both))
no_end opener string (inr other) = λ is. (let both : false ≡ true = ap opens_string (sym is) ∙ other.0 in cc both)

-- the pieces of a text that begins with a sequence
pub ArePiecesOf-form : (kind : Kind) (form after : List ℕ) (qs : List Piece) → HasForm kind form → ArePiecesOf after qs → ArePiecesOf (form ++ after) (record { kind = kind; bytes = form } ∷ qs)
ArePiecesOf-form kind form after qs has are = record {
  joins = ap (λ bs. form ++ bs) are.joins;
  stand = (Stands-HasForm kind form qs has, are.stand);
}

pub ArePiecesOf-string : (before string behind : List ℕ) (opener : ℕ) (ps qs : List Piece) → IsOpenString opener string → ArePiecesOf before ps → ArePiecesOf behind qs
    → ArePiecesOf (before ++ ((escape ∷ opener ∷ (string ++ string_terminator)) ++ behind)) (ps ++ record { kind = string_kind opener; bytes = escape ∷ opener ∷ (string ++ string_terminator) } ∷ qs)
ArePiecesOf-string before string behind opener ps qs opened are are_behind =
    ArePiecesOf-apart before (opener ∷ ((string ++ string_terminator) ++ behind)) ps (record { kind = string_kind opener; bytes = escape ∷ opener ∷ (string ++ string_terminator) } ∷ qs) are
    (ArePiecesOf-form (string_kind opener) (escape ∷ opener ∷ (string ++ string_terminator)) behind qs (HasForm-open opener string opened) are_behind)
    (λ _ after same. no_end opener string opened (heads same))
