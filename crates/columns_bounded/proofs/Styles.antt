-- The styles that have a number are narrow.
use Rattle.std.proofs.Common.{ℕ, zero, suc, List, [], ◌∷◌, get_or}
use Rattle.std.specs.List.{AllByRecursion}
use Rattle.columns_bounded.specs.Requests.{styles}
use Rattle.program_options.specs.Columns.Settings.{settings_with}
use Rattle.columns_run.proofs.NarrowStyles.{narrow-ascii, narrow-extended, narrow-modern, narrow-none, with-narrow}
use Rattle.columns_run.specs.Narrow.{GlyphsAre, HasNarrowGlyphs, IsNarrowCharacter}
use Rattle.tabled_glyphs.specs.Glyphs.{ascii}

-- what holds of each of a list, and of the default, holds of the one at a number
at-any : {T : Type 0} (Q : T → Type 0) (table : List T) (default : T) → AllByRecursion Q table → Q default → (n : ℕ) → Q (get_or table n default)
at-any Q [] default each by_default n = by_default
at-any Q (row ∷ table) default each by_default zero = each.0
at-any Q (row ∷ table) default each by_default (suc n) = at-any Q table default each.1 by_default n

-- the style of each number
pub numbered-narrow : (n : ℕ) → HasNarrowGlyphs (settings_with (get_or styles n ascii))
numbered-narrow n = with-narrow (get_or styles n ascii) (at-any (GlyphsAre IsNarrowCharacter) styles ascii (narrow-ascii, (narrow-modern, (narrow-extended, (narrow-none, tt)))) narrow-ascii n)
