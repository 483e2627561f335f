use Rattle.basinmug_bounded.proofs.OfFaults.{of-fault}
use Rattle.basinmug_bounded.specs.CellOutputs.{IsCellsPrinted}
use Rattle.basinmug_bounded.specs.Requests.{delimiter_in, head_in}
use Rattle.basinmug_bounded.specs.Texts.{IsTextPrinted}
use Rattle.basinmug_bounded.proofs.laws.first_faults_are_reported.Goals as goal

pub returns-clause-text : goal.returns-clause-text
returns-clause-text c = λ request which first lists given old new status answer.
    of-fault request which first lists (λ options outcome. IsTextPrinted options (delimiter_in request.delimiter) (head_in request.head) given request.max_size old new outcome) old new status answer

pub returns-clause-cells : goal.returns-clause-cells
returns-clause-cells c = λ request which first lists all old new status answer.
    of-fault request which first lists (λ options outcome. IsCellsPrinted options (head_in request.head) all request.max_size old new outcome) old new status answer
