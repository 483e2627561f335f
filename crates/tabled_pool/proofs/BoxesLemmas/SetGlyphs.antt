-- A glyph is what is set, or a space.
use Rattle.std.proofs.Common.{ℕ, Option, Some, None, refl, inl, inr}
use Rattle.std.specs.Prelude.{encode_utf8, unwrap_or}
use Rattle.papergrid_picture.specs.Picture.{blank}
use Rattle.tabled_pool.specs.Boxes.SetGlyphs.{IsSetOrSpace}

pub set-or-space : (set : Option ℕ) → IsSetOrSpace set (encode_utf8 (unwrap_or set blank))
set-or-space (Some character) = inl (character, refl, refl)
set-or-space None = inr (refl, refl)
