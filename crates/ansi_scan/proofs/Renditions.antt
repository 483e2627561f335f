-- The kind Sgr and what a style reads.
use Rattle.std.specs.Prelude.{◌≡◌, ℕ, false, true, None, Some, is_some, IsSome, List}
use Rattle.std.proofs.Common.{refl, ◌∙◌, ap}
use Rattle.ansi_scan.specs.Styles.Attributes.{Attributes}
use Rattle.ansi_scan.specs.Styles.Rendition.{applied, sgr_parameters}
use Rattle.ansi_scan.proofs.StyleLemmas.Effects.{applied-other}
use Rattle.ansi_scan.proofs.StyleLemmas.Forms.{sequence_from-sgr_parameters}
use Rattle.ansi_scan.proofs.StyleLemmas.Reading.{sgr_parameters-sequence}
use Rattle.ansi_scan.specs.Sequences.{IsSgr}

pub IsSgr-read : (bytes : List ℕ) → IsSgr bytes → IsSome (sgr_parameters bytes)
IsSgr-read bytes sgr =
    ap is_some (ap sgr_parameters sgr.spelled ∙ sgr_parameters-sequence sgr.parameters sgr.each_numeric)

-- bytes with parameters are of the kind
IsSgr-parameters : (bytes parameters : List ℕ) → sgr_parameters bytes ≡ Some parameters → IsSgr bytes
IsSgr-parameters bytes parameters e = let form = sequence_from-sgr_parameters bytes parameters e in
    record { parameters = parameters; spelled = form.0; each_numeric = form.1 }

pub IsSgr-if_read : (bytes : List ℕ) → IsSome (sgr_parameters bytes) → IsSgr bytes
IsSgr-if_read bytes =
    elim (sgr_parameters bytes) as (λ r. sgr_parameters bytes ≡ r → IsSome r → IsSgr bytes) [
      | None ↦ λ e some. absurd (let both : false ≡ true = some in cc both)
      | Some parameters ↦ λ e some. IsSgr-parameters bytes parameters e
    ] refl

pub applied-not_sgr : (a : Attributes) (bytes : List ℕ) → ¬ IsSgr bytes → applied a bytes ≡ a
applied-not_sgr a bytes not =
    elim (sgr_parameters bytes) as (λ r. sgr_parameters bytes ≡ r → applied a bytes ≡ a) [
      | None ↦ λ e. applied-other a bytes e
      | Some parameters ↦ λ e. absurd (not (IsSgr-parameters bytes parameters e))
    ] refl
