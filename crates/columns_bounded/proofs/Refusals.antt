-- The first number of a request without a meaning decides the status, and no other request is refused by one of these.
use Rattle.std.proofs.Common.{◌≡◌, ◌≢◌, ◌∙◌, ◌<◌, ◌≤◌, ℕ, List, [], ◌∷◌, Option, Result, Ok, Err, ap, arith, refl, sym, eqb, leb, ltb, if◌then◌else◌}
use Rattle.std.specs.List.{AllByRecursion}
use Rattle.std.proofs.lemmas.Bool.{eq-eqb, le-leb, le-ltb, lt-leb, lt-ltb, ne_eqb}
use Rattle.columns_bounded.specs.Answers.{IsOutcome, answer_of, request_status, status_of, text_status}
use Rattle.columns_bounded.specs.Requests.{IsAccepted, IsRefusedAs}
use Rattle.columns_bounded.specs.Worked.{IsRefusedBy, IsTaken, asks, numbers, tells}
use Rattle.columns_bounded.specs.declared.fault.AnswerFault.{AnswerFault}
use Rattle.columns_bounded.specs.declared.fault.AnswerFault.TheVariants.{Request as OfRequest, Colors as OfColors, Text as OfText, OverMaxSize}
use Rattle.columns_bounded.specs.declared.request.Request.{Request}
use Rattle.columns_bounded.specs.declared.request.RequestFault.{RequestFault}
use Rattle.columns_bounded.specs.declared.request.RequestFault.TheVariants.{Version, Style, Priority, Truncate, KeepWords, Reserved}
use Rattle.program_options.specs.declared.columns.fault.RunFault.{RunFault}
use Rattle.program_options.specs.declared.columns.fault.RunFault.TheVariants.{Read, ReadTooLong, NotUtf8, Escape, Range, LineTooWide, Write, WriteZero, Memory}

module _ (request : Request) where
  -- ---- the numbers, one after the other

  abbrev by_keep_words : ℕ
  by_keep_words = if leb request.keep_words 1 then 38 else 37

  abbrev by_truncate : ℕ
  by_truncate = if leb request.truncate 1 then by_keep_words else 36

  abbrev by_priority : ℕ
  by_priority = if ltb request.priority 5 then by_truncate else 35

  abbrev by_style : ℕ
  by_style = if ltb request.style 4 then by_priority else 34

  abbrev by_version : ℕ
  by_version = if eqb request.version 1 then by_style else 33

  version-taken : request.version ≡ 1 → by_version ≡ by_style
  version-taken is = ap (λ b. if b then by_style else 33) (eq-eqb request.version 1 is)

  style-taken : request.style < 4 → by_style ≡ by_priority
  style-taken below = ap (λ b. if b then by_priority else 34) (lt-ltb request.style 4 below)

  priority-taken : request.priority < 5 → by_priority ≡ by_truncate
  priority-taken below = ap (λ b. if b then by_truncate else 35) (lt-ltb request.priority 5 below)

  truncate-taken : request.truncate ≤ 1 → by_truncate ≡ by_keep_words
  truncate-taken below = ap (λ b. if b then by_keep_words else 36) (le-leb request.truncate 1 below)

  -- the status of an error is that of the numbers
  status-is : (fault : RequestFault) → IsRefusedAs request fault → by_version ≡ request_status fault
  status-is Version refused = ap (λ b. if b then by_style else 33) (ne_eqb request.version 1 refused)
  status-is Style refused = version-taken refused.0 ∙ ap (λ b. if b then by_priority else 34) (le-ltb request.style 4 refused.1)
  status-is Priority refused = version-taken refused.0 ∙ style-taken refused.1 ∙ ap (λ b. if b then by_truncate else 35) (le-ltb request.priority 5 refused.2)
  status-is Truncate refused =
      version-taken refused.0 ∙ style-taken refused.1 ∙ priority-taken refused.2 ∙ ap (λ b. if b then by_keep_words else 36) (lt-leb request.truncate 1 refused.3)
  status-is KeepWords refused =
      version-taken refused.0 ∙ style-taken refused.1 ∙ priority-taken refused.2 ∙ truncate-taken refused.3
      ∙ ap (λ b. if b then 38 else 37) (lt-leb request.keep_words 1 refused.4)
  status-is Reserved refused =
      version-taken refused.0 ∙ style-taken refused.1 ∙ priority-taken refused.2 ∙ truncate-taken refused.3
      ∙ ap (λ b. if b then 38 else 37) (le-leb request.keep_words 1 refused.4)

  -- ---- one that is accepted has no such number

  pub accepted-clash : (fault : RequestFault) → IsAccepted request → IsRefusedAs request fault → ⊥
  accepted-clash Version accepted refused = refused accepted.version
  accepted-clash Style accepted refused = let below : request.style < 4 = accepted.style in let above : 4 ≤ request.style = refused.1 in omega (arith, below, above)
  accepted-clash Priority accepted refused = let below : request.priority < 5 = accepted.priority in let above : 5 ≤ request.priority = refused.2 in omega (arith, below, above)
  accepted-clash Truncate accepted refused = omega (arith, accepted.truncate, refused.3)
  accepted-clash KeepWords accepted refused = omega (arith, accepted.keep_words, refused.4)
  accepted-clash Reserved accepted refused = refused.5 accepted.reserved

  module _ (list : Option (List ℕ)) (text old new : List ℕ) where
    accepted-text : (fault : RunFault) → IsOutcome request list text old new (Err (OfText fault)) → IsAccepted request
    accepted-text (NotUtf8 at) called = called.0
    accepted-text (Escape at) called = called.0
    accepted-text Range called = called.0
    accepted-text (LineTooWide row column) called = called.0
    accepted-text Memory called = called.0
    accepted-text ReadTooLong called = called.0
    accepted-text Read called = called.0
    accepted-text Write called = called.0
    accepted-text WriteZero called = called.0

  -- ---- what is reported

  pub refused-told : (fault : RequestFault) → IsRefusedAs request fault → IsRefusedBy (request_status fault) request
  refused-told fault refused list text old new status answer told = by told.outcome told.called_for told.told told.told_beside
    where
      by : (outcome : Result ℕ AnswerFault) → IsOutcome request list text old new outcome → status ≡ status_of outcome → answer ≡ answer_of outcome →
          (status ≡ request_status fault) × (new ≡ old) × (answer ≡ tells 0 0 0 0)
      by (Ok size) called is beside = absurd (accepted-clash fault called.0 refused)
      by (Err (OfRequest other)) called is beside = (is ∙ sym (status-is other called.0) ∙ status-is fault refused, called.1, beside)
      by (Err OfColors) called is beside = absurd (accepted-clash fault called.0 refused)
      by (Err OverMaxSize) called is beside = absurd (accepted-clash fault called.0 refused)
      by (Err (OfText other)) called is beside = absurd (accepted-clash fault (accepted-text list text old new other called) refused)

-- ---- statuses of other outcomes

text-status-small : (fault : RunFault) → text_status fault < 33
text-status-small (NotUtf8 at) = omega arith
text-status-small (Escape at) = omega arith
text-status-small Range = omega arith
text-status-small (LineTooWide row column) = omega arith
text-status-small Memory = omega arith
text-status-small ReadTooLong = omega arith
text-status-small Read = omega arith
text-status-small Write = omega arith
text-status-small WriteZero = omega arith

apart : (status : ℕ) → (33 ≤ status → status ≤ 38 → ⊥) → AllByRecursion (λ number. status ≢ number) (33 ∷ 34 ∷ 35 ∷ 36 ∷ 37 ∷ 38 ∷ [])
apart status outside =
    let other : (number : ℕ) → 33 ≤ number → number ≤ 38 → status ≢ number = λ number least most is. outside (omega (arith, least, is)) (omega (arith, most, is)) in (
      other 33 (omega arith) (omega arith),
      (
        other 34 (omega arith) (omega arith),
        (
          other 35 (omega arith) (omega arith),
          (other 36 (omega arith) (omega arith), (other 37 (omega arith) (omega arith), (other 38 (omega arith) (omega arith), tt))),
        ),
      ),
    )

taken-told : (request : Request) → IsAccepted request → IsTaken request
taken-told request accepted list text old new status answer told = by told.outcome told.called_for told.told
  where
    by : (outcome : Result ℕ AnswerFault) → IsOutcome request list text old new outcome → status ≡ status_of outcome → AllByRecursion (λ number. status ≢ number) (33 ∷ 34 ∷ 35 ∷ 36 ∷ 37 ∷ 38 ∷ [])
    by (Ok size) called is = apart status (λ least most. omega (arith, is, least))
    by (Err (OfRequest fault)) called is = absurd (accepted-clash request fault accepted called.0)
    by (Err OfColors) called is = apart status (λ least most. omega (arith, is, most))
    by (Err OverMaxSize) called is = apart status (λ least most. omega (arith, is, least))
    by (Err (OfText fault)) called is = apart status (λ least most. omega (arith, is, least, text-status-small fault))

-- requests of numbers with a meaning
pub asks-taken : (style width priority truncate keep_words : ℕ) → style < 4 → priority < 5 → truncate ≤ 1 → keep_words ≤ 1 → IsTaken (asks style width priority truncate keep_words)
asks-taken style width priority truncate keep_words one two three four =
    taken-told (asks style width priority truncate keep_words) (record { version = refl; style = one; priority = two; truncate = three; keep_words = four; reserved = (refl, refl) })

-- and of each greatest size
pub sizes-taken : (width max_size : ℕ) → IsTaken (numbers 1 3 4 1 1 0 (0 ∷ 0 ∷ 0 ∷ []) width max_size)
sizes-taken width max_size =
    taken-told (numbers 1 3 4 1 1 0 (0 ∷ 0 ∷ 0 ∷ []) width max_size)
    (record { version = refl; style = omega arith; priority = omega arith; truncate = omega arith; keep_words = omega arith; reserved = (refl, refl) })
