use Rattle.std.proofs.Common.{◌≡◌, ◌∙◌, ℕ, ap, List, refl, subst, sym}
use Rattle.std.specs.Prelude.{IfOk, string_bytes}
use Rattle.ansi_scan.specs.Pieces.{pieces}
use Rattle.ansi_scan.specs.Sequences.{ArePiecesOf, Piece}
use Rattle.ansi_scan.proofs.Uniqueness.{pieces-ArePiecesOf}
use Rattle.ansi_str.specs.StyledText.{strip}
use Rattle.grid_config.specs.Settings.{Settings}
use Rattle.grid_config_values.specs.Spans.Spans.{ArePositive}
use Rattle.tabled.specs.Printing.{FitsOrFails, printed}
use Rattle.tabled.specs.Tables.{state_under, table_state}
use Rattle.tabled_list.specs.Stripping.Stripping.{stripped_state, uncolored_state}
use Rattle.tabled_list.proofs.StrippingLemmas.StrippedTables.{printed-stripped}
use Rattle.tabled.proofs.Stripping.{of_ok_weaker}
use Rattle.tabled.proofs.table_of.TableOf.to_string.Goals as goal

pub returns-clause-text : goal.returns-clause-text
returns-clause-text g c =
    subst (λ (settings : Settings). IfOk c.text_under.result (λ text. string_bytes text ≡ printed (state_under g.R.RecordTexts.rows c.args.self.now settings))) c.spanned.ensures c.text_under.ensures.text

pub returns-clause-table : goal.returns-clause-table
returns-clause-table g c =
    subst (λ (settings : Settings). FitsOrFails (state_under g.R.RecordTexts.rows c.args.self.now settings) c.text_under.result) c.spanned.ensures c.text_under.ensures.table

pub returns-clause-settings : goal.returns-clause-settings
returns-clause-settings g c = record {
  settings = c.args.self.now.config.settings;
  look = refl;
  spans = subst (λ (settings : Settings). ArePositive settings.spans) c.spanned.ensures c.text_under.ensures.positive;
}

pub returns-clause-stripped : goal.returns-clause-stripped
returns-clause-stripped g c = λ bare whole silent.
    let state = table_state g.R.RecordTexts.rows c.args.self.now in
    of_ok_weaker (λ text. string_bytes text ≡ printed state) (λ text. (ps : List Piece) → ArePiecesOf (string_bytes text) ps → strip ps ≡ printed (uncolored_state (stripped_state state))) c.text_under.result
    (λ text same ps of_text. ap strip (sym (pieces-ArePiecesOf (string_bytes text) ps of_text)) ∙ ap (λ (bytes : List ℕ). strip (pieces bytes)) same ∙ printed-stripped state bare whole silent) (returns-clause-text g c)
