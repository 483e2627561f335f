-- Which colours are closed, by the tests of the code.
use Rattle.std.proofs.Common.{◌≡◌, ℕ, Bool, true, List, subst, sym, ◌↔◌}
use Rattle.std.specs.Prelude.{IsTrue}
use Rattle.ansi_scan.specs.Sequences.{Piece, ArePiecesOf}
use Rattle.ansi_scan.specs.Pieces.{pieces}
use Rattle.ansi_scan.proofs.Existence.{ArePiecesOf-pieces}
use Rattle.ansi_scan.specs.Attributes.{Attributes, plain_attributes}
use Rattle.ansi_str_search.specs.Text.StyledText.{style_after_all}
use Rattle.grid_config.specs.Ansi.Closing.{AreSequences, Clears, Closes}

pub Closes-decides : (prefix suffix : List ℕ) (style : Attributes) (clears prefix_form suffix_form : Bool)
    → ((ps : List Piece) → ArePiecesOf prefix ps → IsTrue prefix_form ↔ AreSequences ps) → prefix_form ≡ true
    → ((qs : List Piece) → ArePiecesOf suffix qs → IsTrue suffix_form ↔ AreSequences qs) → suffix_form ≡ true
    → ((ps : List Piece) → ArePiecesOf prefix ps → style ≡ style_after_all plain_attributes ps)
    → ((qs : List Piece) → ArePiecesOf suffix qs → IsTrue clears ↔ Clears style qs)
    → IsTrue clears ↔ Closes (record { prefix = prefix; suffix = suffix })
Closes-decides prefix suffix style clears prefix_form suffix_form of_prefix prefix_is of_suffix suffix_is leaves decides =
    let ps = pieces prefix in
    let are = ArePiecesOf-pieces prefix in
    let qs = pieces suffix in
    let be = ArePiecesOf-pieces suffix in (
      λ h. record {
        prefix = ps;
        of_prefix = are;
        prefix_form = (of_prefix ps are).0 prefix_is;
        suffix = qs;
        of_suffix = be;
        suffix_form = (of_suffix qs be).0 suffix_is;
        clears = subst (λ (s : Attributes). Clears s qs) (leaves ps are) ((decides qs be).0 h);
      },
      λ closes. (decides closes.suffix closes.of_suffix).1
          (subst (λ (s : Attributes). Clears s closes.suffix) (sym (leaves closes.prefix closes.of_prefix)) closes.clears),
    )
