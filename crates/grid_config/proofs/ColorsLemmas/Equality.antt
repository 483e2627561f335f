-- `==` of borrowed colours, as it is derived, is equality of both texts.
use Rattle.std.proofs.Common.{◌≡◌, Bool, true, ◌&&◌, refl, ap, ◌∙◌, sym}
use Rattle.std.specs.Str.{bytes_eq}
use Rattle.std.specs.Ordering.{is_eq}
use Rattle.std.specs.declared.cmp.Ordering.{Ordering}
use Rattle.std.specs.declared.cmp.Ordering.TheVariants.{Less, Equal, Greater}
use Rattle.std.proofs.lemmas.Bool.{and_parts}
use Rattle.std.proofs.lemmas.Slice.Eq.{bytes_eq-Decides}
use Rattle.grid_config.specs.contracts.colors.borrowed.ANSIStrOrd.TheImpl.Laws.{matches_eq-law}
use Rattle.grid_config.specs.declared.colors.borrowed.ANSIStr.{ANSIStr}
use Rattle.grid_config.specs.Ansi.Colors.{Color, color_of}
use Rattle.grid_config.specs.Ansi.Equality.{equal, compared}

pub equal_texts : (a b : ANSIStr) → equal a b ≡ true → color_of a ≡ color_of b
equal_texts a b e =
    let parts = and_parts (bytes_eq a.prefix.now b.prefix.now) (bytes_eq a.suffix.now b.suffix.now) e in
    let prefix = (bytes_eq-Decides a.prefix.now b.prefix.now).0 parts.0 in
    let suffix = (bytes_eq-Decides a.suffix.now b.suffix.now).0 parts.1 in
    λ i. record { prefix = prefix i; suffix = suffix i }

both : (s t : Bool) → s ≡ true → t ≡ true → (s && t) ≡ true
both s t p q = ap (λ b. b && t) p ∙ q

pub same_texts : (a b : ANSIStr) → color_of a ≡ color_of b → equal a b ≡ true
same_texts a b e =
    both (bytes_eq a.prefix.now b.prefix.now) (bytes_eq a.suffix.now b.suffix.now)
    ((bytes_eq-Decides a.prefix.now b.prefix.now).1 (ap (λ (color : Color). color.prefix) e))
    ((bytes_eq-Decides a.suffix.now b.suffix.now).1 (ap (λ (color : Color). color.suffix) e))

pub equal_shows : (o : Ordering) → is_eq o ≡ true → o ≡ Equal
equal_shows Less e = cc
equal_shows Equal e = refl
equal_shows Greater e = cc

-- the order finds equal what `==` does
pub compared_equal : (a b : ANSIStr) → compared a b ≡ Equal → color_of a ≡ color_of b
compared_equal a b e = equal_texts a b (matches_eq-law a b ∙ ap is_eq e)

pub compared_same : (a b : ANSIStr) → color_of a ≡ color_of b → compared a b ≡ Equal
compared_same a b e = equal_shows (compared a b) (sym (matches_eq-law a b) ∙ same_texts a b e)
