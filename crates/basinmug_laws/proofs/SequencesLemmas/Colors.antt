-- The colours that have names close, and each puts in two sequences that take effect under `Colors`.
use Rattle.std.proofs.Common.{◌≡◌, ◌∙◌, ◌&&◌, ◌||◌, ℕ, Bool, true, false, List, [], ◌∷◌, Option, Some, refl, ap, subst, ⊎_elim, if◌then◌else◌, option_map}
use Rattle.std.specs.Prelude.{IfSome, bytes_eq, find}
use Rattle.std.specs.List.{AllByRecursion, list_all}
use Rattle.std.proofs.lemmas.Bool.{and_parts, or_cases}
use Rattle.std.proofs.lemmas.Slice.Eq.{bytes_eq-Decides}
use Rattle.grid_config.specs.Colors.{Color}
use Rattle.papergrid_picture.specs.Colors.ClosingColors.{IsClosing}
use Rattle.papergrid_picture.proofs.Items.{All-keeps}
use Rattle.program_options.proofs.ColorListLemmas.ClosedNames.{names-close}
use Rattle.program_options.specs.ColorList.Names.{named_colors}
use Rattle.program_options.specs.declared.basinmug.ColumnName.{ColumnName}
use Rattle.basinmug_run.specs.declared.options.Options.{Options}
use Rattle.basinmug_input.specs.Renditions.{is_kept_rendition}
use Rattle.basinmug_laws.specs.Controls.Written.{HaveNamedColors, IsNamed, is_put_in}

-- ---- colours that have names

-- it closes, and each of its ends is one sequence that takes effect under `Colors`
pub record IsKeptColor (color : Color) : Type 0 where
  pub closing : IsClosing color
  pub prefix : is_kept_rendition color.prefix ≡ true
  pub suffix : is_kept_rendition color.suffix ≡ true

abbrev ends_kept : List ℕ × Color → Bool
ends_kept row = is_kept_rendition row.1.prefix && is_kept_rendition row.1.suffix

rows-kept : (rows : List (List ℕ × Color)) → AllByRecursion (λ (row : List ℕ × Color). IsClosing row.1) rows → list_all ends_kept rows ≡ true → AllByRecursion (λ (row : List ℕ × Color). IsKeptColor row.1) rows
rows-kept [] closing kept = tt
rows-kept (row ∷ rows) closing kept =
    let parts = and_parts (ends_kept row) (list_all ends_kept rows) kept in
    let both = and_parts (is_kept_rendition row.1.prefix) (is_kept_rendition row.1.suffix) parts.0 in
    (record { closing = closing.0; prefix = both.0; suffix = both.1 }, rows-kept rows closing.1 parts.1)

found-kept : (rows : List (List ℕ × Color)) (test : List ℕ × Color → Bool) → AllByRecursion (λ (row : List ℕ × Color). IsKeptColor row.1) rows
    → IfSome (option_map (λ (row : List ℕ × Color). row.1) (find test rows)) IsKeptColor
found-kept [] test all = tt
found-kept (row ∷ rows) test all = by (found-kept rows test all.1) (test row)
  where
    by : IfSome (option_map (λ (row : List ℕ × Color). row.1) (find test rows)) IsKeptColor → (b : Bool) → IfSome (option_map (λ (row : List ℕ × Color). row.1) (if b then Some row else find test rows)) IsKeptColor
    by others true = all.0
    by others false = others

pub named-kept : (color : Color) → IsNamed color → IsKeptColor color
named-kept color (name, is) = subst (λ (found : Option Color). IfSome found IsKeptColor) is (found-kept named_colors (λ row. bytes_eq row.0 name) (rows-kept named_colors names-close refl))

abbrev pub AreKept : List (ColumnName × Color) → Type 0
AreKept colors = AllByRecursion (λ (pair : ColumnName × Color). IsKeptColor pair.1) colors

pub all-kept : (options : Options) → HaveNamedColors options → AreKept options.colors.items
all-kept options named = All-keeps (λ (pair : ColumnName × Color). IsNamed pair.1) (λ (pair : ColumnName × Color). IsKeptColor pair.1) (λ pair is. named-kept pair.1 is) options.colors.items named

-- ---- what they put in

-- both ends are put in by these colours
pub record IsAsked (colors : List (ColumnName × Color)) (color : Color) : Type 0 where
  pub kept : IsKeptColor color
  pub first : is_put_in colors color.prefix ≡ true
  pub last : is_put_in colors color.suffix ≡ true

or-first : (a b : Bool) → a ≡ true → (a || b) ≡ true
or-first a b is = ap (λ t. t || b) is

or-last : (a b : Bool) → b ≡ true → (a || b) ≡ true
or-last true b is = refl
or-last false b is = is

same-bytes : (bytes : List ℕ) → bytes_eq bytes bytes ≡ true
same-bytes bytes = (bytes_eq-Decides bytes bytes).1 refl

pub all-asked : (colors : List (ColumnName × Color)) → AreKept colors → AllByRecursion (λ (pair : ColumnName × Color). IsAsked colors pair.1) colors
all-asked [] kept = tt
all-asked (pair ∷ colors) kept = (
  record {
    kept = kept.0;
    first = or-first (bytes_eq pair.1.prefix pair.1.prefix || bytes_eq pair.1.prefix pair.1.suffix) (is_put_in colors pair.1.prefix)
        (or-first (bytes_eq pair.1.prefix pair.1.prefix) (bytes_eq pair.1.prefix pair.1.suffix) (same-bytes pair.1.prefix));
    last = or-first (bytes_eq pair.1.suffix pair.1.prefix || bytes_eq pair.1.suffix pair.1.suffix) (is_put_in colors pair.1.suffix)
        (or-last (bytes_eq pair.1.suffix pair.1.prefix) (bytes_eq pair.1.suffix pair.1.suffix) (same-bytes pair.1.suffix));
  },
  All-keeps (λ (other : ColumnName × Color). IsAsked colors other.1) (λ (other : ColumnName × Color). IsAsked (pair ∷ colors) other.1) (λ other is. more other.1 is) colors (all-asked colors kept.1),
)
  where
    more : (color : Color) → IsAsked colors color → IsAsked (pair ∷ colors) color
    more color is = record {
      kept = is.kept;
      first = or-last (bytes_eq color.prefix pair.1.prefix || bytes_eq color.prefix pair.1.suffix) (is_put_in colors color.prefix) is.first;
      last = or-last (bytes_eq color.suffix pair.1.prefix || bytes_eq color.suffix pair.1.suffix) (is_put_in colors color.suffix) is.last;
    }

pub put-kept : (colors : List (ColumnName × Color)) → AreKept colors → (bytes : List ℕ) → is_put_in colors bytes ≡ true → is_kept_rendition bytes ≡ true
put-kept [] kept bytes put = cc put
put-kept (pair ∷ colors) kept bytes put =
    ⊎_elim
    (λ here. ⊎_elim
    (λ first. ap is_kept_rendition ((bytes_eq-Decides bytes pair.1.prefix).0 first) ∙ kept.0.prefix)
    (λ last. ap is_kept_rendition ((bytes_eq-Decides bytes pair.1.suffix).0 last) ∙ kept.0.suffix)
    (or_cases (bytes_eq bytes pair.1.prefix) (bytes_eq bytes pair.1.suffix) here))
    (λ others. put-kept colors kept.1 bytes others)
    (or_cases (bytes_eq bytes pair.1.prefix || bytes_eq bytes pair.1.suffix) (is_put_in colors bytes) put)
