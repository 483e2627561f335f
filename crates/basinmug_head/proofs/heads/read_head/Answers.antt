-- The prefix and what is read after it are the head of a text.
use Rattle.std.proofs.Common.{rules, ◌≡◌, ◌∙◌, ◌⊎◌, ◌≤◌, ◌-◌, ◌++◌, IsErrOf, arith, length, length-append, inl, inr, ℕ, List, [], Bool, ap, refl, subst, sym, false, true}
use Rattle.std.specs.Io.KnownBytes.{Consumes, IsAtEnd}
use Rattle.std.specs.Prelude.{IfSome, Option, None, Some, option_copied}
use Rattle.std.proofs.KnownBytes.{Consumes-trans}
use Rattle.std.proofs.lemmas.List.{append-nil}
use Rattle.tabled_output.specs.Counts.{inner_of, pieces_read_of}
use Rattle.tabled_output.specs.Streams.{ConsumesSome}
use Rattle.tabled_output.specs.declared.reading.ReadFault.TheVariants.{TooLong}
use Rattle.basinmug_delimiter.specs.declared.Found.{Found}
use Rattle.basinmug_head.specs.Fronts.{IsFront, TellsFields}
use Rattle.basinmug_head.specs.Heads.{IsCut, IsHeadIn, IsHeadOf, IsWhole, asked_or_found}
use Rattle.basinmug_head.proofs.Pieces.{given-both}
use Rattle.basinmug_head.proofs.Walks.{head-is, left-behind}
use Rattle.basinmug_head.proofs.heads.read_head.Goals as goal

-- where the prefix is all, nothing is after it; else it says what is between fields
told-by : (asked : Option ℕ) (mid : Option (List ℕ)) (front more rest : List ℕ) (ended : Bool) → (ended ≡ true → IsAtEnd mid) × (ended ≡ false → TellsFields asked front)
    → (ended ≡ true → more ≡ []) → (IsAtEnd mid → rest ≡ []) → (more ++ rest ≡ []) ⊎ TellsFields asked front
told-by asked mid front more rest true told none behind = inl (ap (λ (of : List ℕ). of ++ rest) (none refl) ∙ behind (told.0 refl))
told-by asked mid front more rest false told none behind = inr (told.1 refl)

kept-by : (found : Found) (count : ℕ) (all bytes rest : List ℕ) (mid new : Option (List ℕ)) (ended : Bool) → (ended ≡ true → IsAtEnd mid) → (IsAtEnd mid → rest ≡ []) → (IsAtEnd new → rest ≡ [])
    → IsCut found count all bytes ⊎ (IsWhole found count all bytes × (ended ≡ false → IsAtEnd new)) → IsCut found count all bytes ⊎ (IsWhole found count all bytes × (rest ≡ []))
kept-by found count all bytes rest mid new ended told at_mid at_new (inl cut) = inl cut
kept-by found count all bytes rest mid new true told at_mid at_new (inr whole) = inr (whole.0, at_mid (told refl))
kept-by found count all bytes rest mid new false told at_mid at_new (inr whole) = inr (whole.0, at_new (whole.1 refl))

head-of : (asked : Option ℕ) (file : Option (List ℕ)) (count : ℕ) (old mid new : Option (List ℕ)) (front bytes : List ℕ) (ended : Bool) (found : Found)
    → found ≡ asked_or_found asked front file → IsFront old mid asked front ended → IsHeadIn mid new found count front ended bytes → IfSome old (IsHeadOf asked file count bytes found)
head-of asked file count None mid new front bytes ended found is fronts head = tt
head-of asked file count (Some left) mid new front bytes ended found is fronts head =
    let (rest, parts, at_mid, at_new) = left-behind left mid new front head.more fronts.consumed head.consumed in
    subst (IsHeadOf asked file count bytes found) (sym parts)
    (head-is asked file count front head.more bytes rest found is (told-by asked mid front head.more rest ended fronts.told head.no_more at_mid)
    (kept-by found count (front ++ head.more) bytes rest mid new ended fronts.told.0 at_mid at_new head.kept))

pub returns-clause-head : goal.returns-clause-head
returns-clause-head g c =
    let is = c.asked_or_found-found.ensures.found ∙ ap (λ (of : List ℕ). asked_or_found c.args.asked of (option_copied c.args.file)) c.as_slice.ensures.value in
    head-of c.args.asked (option_copied c.args.file) c.args.records (g.R.Read.remaining (inner_of c.args.reader.now)) (g.R.Read.remaining (inner_of c.read_front.new.reader)) (g.R.Read.remaining (inner_of c.read_records.new.reader))
    c.in_ok-front.front.bytes.items c.in_ok-bytes.bytes.items c.in_ok-front.front.ended c.asked_or_found-found.result is c.in_ok-front.ensures.front c.in_ok-bytes.ensures.head

pub returns-clause-some_text : goal.returns-clause-some_text
returns-clause-some_text g c =
    let is = c.asked_or_found-found.ensures.found ∙ ap (λ (of : List ℕ). asked_or_found c.args.asked of (option_copied c.args.file)) c.as_slice.ensures.value in
    let front = c.in_ok-front.front.bytes.items in
    let ended = c.in_ok-front.front.ended in
    let fronts = c.in_ok-front.ensures.front in
    let head = c.in_ok-bytes.ensures.head in
    let found = c.asked_or_found-found.result in
    let mid = g.R.Read.remaining (inner_of c.read_front.new.reader) in
    let new = g.R.Read.remaining (inner_of c.read_records.new.reader) in
    let all = front ++ head.more in (
      all,
      Consumes-trans _ _ _ _ _ fronts.consumed head.consumed,
      subst (IsHeadOf c.args.asked (option_copied c.args.file) c.args.records c.in_ok-bytes.bytes.items found) (append-nil all)
          (head-is c.args.asked (option_copied c.args.file) c.args.records front head.more c.in_ok-bytes.bytes.items [] found is
          (told-by c.args.asked mid front head.more [] ended fronts.told head.no_more (λ _. refl))
          (kept-by found c.args.records all c.in_ok-bytes.bytes.items [] mid new ended fronts.told.0 (λ _. refl) (λ _. refl) head.kept)),
    )

-- what the reader gave in all
both-long : (old mid new : Option (List ℕ)) (front : List ℕ) (reads limit : ℕ) → Consumes old mid front → reads ≤ length front → reads ≤ limit → ConsumesSome mid new (λ more. limit - reads ≤ length more)
    → ConsumesSome old new (λ bytes. limit ≤ length bytes)
both-long old mid new front reads limit first some most (more, then, enough) =
    let long = length-append front more in (front ++ more, Consumes-trans _ _ _ _ _ first then, omega (arith, long, some, most, enough))

pub returns-in_err-bytes-clause-long_text : goal.returns-in_err-bytes-clause-long_text
returns-in_err-bytes-clause-long_text g c = λ long.
    let told : IsErrOf c.read_records.result TooLong = search rules in
    both-long (g.R.Read.remaining (inner_of c.args.reader.now)) (g.R.Read.remaining (inner_of c.read_front.new.reader)) (g.R.Read.remaining (inner_of c.read_records.new.reader))
    c.in_ok-front.front.bytes.items c.in_ok-front.front.reads c.args.limit
    c.in_ok-front.ensures.front.consumed c.in_ok-front.ensures.some_text c.in_ok-front.ensures.most (c.read_records.ensures.long_text told)

pub returns-clause-most : goal.returns-clause-most
returns-clause-most g c =
    given-both (pieces_read_of c.args.reader.now) (pieces_read_of c.read_front.new.reader) (pieces_read_of c.read_records.new.reader) c.in_ok-front.front.reads (c.args.limit - c.in_ok-front.front.reads) c.args.limit
    c.args.reader.now.in_range (search rules) c.in_ok-front.ensures.reads c.read_records.ensures.most

pub returns-in_err-bytes-clause-most : goal.returns-in_err-bytes-clause-most
returns-in_err-bytes-clause-most g c =
    given-both (pieces_read_of c.args.reader.now) (pieces_read_of c.read_front.new.reader) (pieces_read_of c.read_records.new.reader) c.in_ok-front.front.reads (c.args.limit - c.in_ok-front.front.reads) c.args.limit
    c.args.reader.now.in_range (search rules) c.in_ok-front.ensures.reads c.read_records.ensures.most
