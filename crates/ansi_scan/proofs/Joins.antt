-- The pieces of a whole text and of the text after it are the pieces of both.
use Rattle.std.proofs.Common.{◌≡◌, ◌≢◌, ℕ, Bool, true, ◌&&◌, List, [], ◌∷◌, ◌++◌, refl, ap, sym, ◌∙◌, arith, append_assoc, length-append}
use Rattle.std.specs.List.{list_all}
use Rattle.std.specs.Cmp.Derive.{both_true}
use Rattle.std.proofs.lemmas.Bool.{and_parts, cond_both}
use Rattle.ansi_scan.specs.declared.items.Kind.{Kind}
use Rattle.ansi_scan.specs.declared.items.Kind.TheVariants.{Text, Sgr, Csi, Osc, Esc, Str, Broken}
use Rattle.ansi_scan.specs.Sequences.{Piece, joined, is_not_escape, IsText, Stands, EachStands, ArePiecesOf, NoneBroken, IsWhole}
use Rattle.ansi_scan.specs.Joining.{is_text_kind, put_before, put_all_before}

-- all of two lists pass
pub list_all-append : (p : ℕ → Bool) (xs ys : List ℕ) → list_all p xs ≡ true → list_all p ys ≡ true → list_all p (xs ++ ys) ≡ true
list_all-append p [] ys each_x each_y = each_y
list_all-append p (x ∷ xs) ys each_x each_y =
    let parts = and_parts (p x) (list_all p xs) each_x in
    both_true parts.0 (list_all-append p xs ys parts.1 each_y)

-- two texts, one after the other
pub IsText-append : (xs ys : List ℕ) (between after : List Piece) → IsText xs between → IsText ys after → IsText (xs ++ ys) after
IsText-append xs ys between after x y = record {
  some = omega (arith, length-append xs ys, x.some);
  plain = list_all-append is_not_escape xs ys x.plain y.plain;
  ends = y.ends;
}

-- a text, put before a piece and those after it
pub EachStands-text_before : (bytes : List ℕ) (between : List Piece) (kind : Kind) (first : List ℕ) (after : List Piece) → IsText bytes between → Stands kind first after → EachStands after → EachStands (put_before (record { kind = Text; bytes = bytes }) (record { kind = kind; bytes = first } ∷ after))
EachStands-text_before bytes between Text first after text stands each = (IsText-append bytes first between after text stands, each)
EachStands-text_before bytes between Sgr first after text stands each = (record { some = text.some; plain = text.plain; ends = λ same. cc same }, (stands, each))
EachStands-text_before bytes between Csi first after text stands each = (record { some = text.some; plain = text.plain; ends = λ same. cc same }, (stands, each))
EachStands-text_before bytes between Osc first after text stands each = (record { some = text.some; plain = text.plain; ends = λ same. cc same }, (stands, each))
EachStands-text_before bytes between Esc first after text stands each = (record { some = text.some; plain = text.plain; ends = λ same. cc same }, (stands, each))
EachStands-text_before bytes between Str first after text stands each = (record { some = text.some; plain = text.plain; ends = λ same. cc same }, (stands, each))
EachStands-text_before bytes between Broken first after text stands each = (record { some = text.some; plain = text.plain; ends = λ same. cc same }, (stands, each))

-- a piece that is not Broken, put before pieces that the relation allows
pub EachStands-put_before : (kind : Kind) (bytes : List ℕ) (between after : List Piece) → Stands kind bytes between → kind ≢ Broken → EachStands after → EachStands (put_before (record { kind = kind; bytes = bytes }) after)
EachStands-put_before Text bytes between [] stands whole each = (record { some = stands.some; plain = stands.plain; ends = tt }, tt)
EachStands-put_before Text bytes between (q ∷ qs) stands whole each = EachStands-text_before bytes between q.kind q.bytes qs stands each.0 each.1
EachStands-put_before Sgr bytes between [] stands whole each = (stands, tt)
EachStands-put_before Sgr bytes between (q ∷ qs) stands whole each = (stands, each)
EachStands-put_before Csi bytes between [] stands whole each = (stands, tt)
EachStands-put_before Csi bytes between (q ∷ qs) stands whole each = (stands, each)
EachStands-put_before Osc bytes between [] stands whole each = (stands, tt)
EachStands-put_before Osc bytes between (q ∷ qs) stands whole each = (stands, each)
EachStands-put_before Esc bytes between [] stands whole each = (stands, tt)
EachStands-put_before Esc bytes between (q ∷ qs) stands whole each = (stands, each)
EachStands-put_before Str bytes between [] stands whole each = (stands, tt)
EachStands-put_before Str bytes between (q ∷ qs) stands whole each = (stands, each)
EachStands-put_before Broken bytes between after stands whole each = absurd (whole refl)

-- joined, nothing changes
pub joined-put_before : (p : Piece) (after : List Piece) → joined (put_before p after) ≡ p.bytes ++ joined after
joined-put_before p [] = refl
joined-put_before p (q ∷ qs) =
    cond_both (is_text_kind p.kind && is_text_kind q.kind) (record { kind = Text; bytes = p.bytes ++ q.bytes } ∷ qs) (p ∷ q ∷ qs)
    (λ (ps : List Piece). joined ps ≡ p.bytes ++ (q.bytes ++ joined qs))
    (λ _. append_assoc p.bytes q.bytes (joined qs))
    (λ _. refl)

pub joined-put_all_before : (ps after : List Piece) → joined (put_all_before ps after) ≡ joined ps ++ joined after
joined-put_all_before [] after = refl
joined-put_all_before (p ∷ ps) after =
    joined-put_before p (put_all_before ps after)
    ∙ ap (λ bs. p.bytes ++ bs) (joined-put_all_before ps after)
    ∙ sym (append_assoc p.bytes (joined ps) (joined after))

-- where none of the first is Broken, the relation allows all
pub EachStands-put_all_before : (ps after : List Piece) → EachStands ps → NoneBroken ps → EachStands after → EachStands (put_all_before ps after)
EachStands-put_all_before [] after each none each_after = each_after
EachStands-put_all_before (p ∷ ps) after each none each_after =
    EachStands-put_before p.kind p.bytes ps (put_all_before ps after) each.0 none.0 (EachStands-put_all_before ps after each.1 none.1 each_after)

-- a text of which no piece is Broken, and the text after it
pub ArePiecesOf-append : (text other : List ℕ) (ps qs : List Piece) → ArePiecesOf text ps → NoneBroken ps → ArePiecesOf other qs → ArePiecesOf (text ++ other) (put_all_before ps qs)
ArePiecesOf-append text other ps qs are none others = record {
  joins = joined-put_all_before ps qs ∙ ap (λ bs. bs ++ joined qs) are.joins ∙ ap (λ bs. text ++ bs) others.joins;
  stand = EachStands-put_all_before ps qs are.stand none others.stand;
}

-- what is not Broken stays so
pub NoneBroken-put_before : (p : Piece) (after : List Piece) → p.kind ≢ Broken → NoneBroken after → NoneBroken (put_before p after)
NoneBroken-put_before p [] other none = (other, tt)
NoneBroken-put_before p (q ∷ qs) other none =
    cond_both (is_text_kind p.kind && is_text_kind q.kind) (record { kind = Text; bytes = p.bytes ++ q.bytes } ∷ qs) (p ∷ q ∷ qs)
    NoneBroken
    (λ _. (λ same. cc same, none.1))
    (λ _. (other, none))

pub NoneBroken-put_all_before : (ps after : List Piece) → NoneBroken ps → NoneBroken after → NoneBroken (put_all_before ps after)
NoneBroken-put_all_before [] after none none_after = none_after
NoneBroken-put_all_before (p ∷ ps) after none none_after = NoneBroken-put_before p (put_all_before ps after) none.0 (NoneBroken-put_all_before ps after none.1 none_after)

-- two whole texts make a whole text
pub IsWhole-append : (text other : List ℕ) → IsWhole text → IsWhole other → IsWhole (text ++ other)
IsWhole-append text other first second = record {
  pieces = put_all_before first.pieces second.pieces;
  of_text = ArePiecesOf-append text other first.pieces second.pieces first.of_text first.none_broken second.of_text;
  none_broken = NoneBroken-put_all_before first.pieces second.pieces first.none_broken second.none_broken;
}
