-- Why a request, or a list of colours, is refused.
use Rattle.std.specs.Prelude.{◌≡◌, ℕ, List, Option, None}
use Rattle.columns_bounded.specs.Requests.{IsAccepted, IsRefusedAs, colors_in}
use Rattle.columns_bounded.specs.declared.fault.AnswerFault.{AnswerFault}
use Rattle.columns_bounded.specs.declared.fault.AnswerFault.TheVariants.{Request as OfRequest, Colors as OfColors, Text as OfText, OverMaxSize}
use Rattle.columns_bounded.specs.declared.request.Request.{Request}
use Rattle.program_options.specs.declared.columns.fault.RunFault.TheVariants.{Memory}

-- the list does not have the form, or memory ran out
abbrev pub IsRefusedList : Option (List ℕ) → AnswerFault → Type 0
IsRefusedList list OfColors = colors_in list ≡ None
IsRefusedList list (OfRequest fault) = ⊥
IsRefusedList list OverMaxSize = ⊥
IsRefusedList list (OfText fault) = fault ≡ Memory

-- a number of the request has no meaning; or all have one, and the list does not have the form, or memory ran out
abbrev pub IsRefusedRequest : Request → Option (List ℕ) → AnswerFault → Type 0
IsRefusedRequest request list (OfRequest fault) = IsRefusedAs request fault
IsRefusedRequest request list fault = IsAccepted request × IsRefusedList list fault
