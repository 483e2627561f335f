-- The records of a text are what is read of it.
use Rattle.std.proofs.Common.{◌≡◌, ◌∙◌, ◌+◌, ◌≤◌, ℕ, zero, suc, Bool, true, false, List, [], ◌∷◌, ◌++◌, Option, Some, None, length, refl, sym, ap, subst, arith}
use Rattle.std.proofs.lemmas.List.{append_assoc, append-nil}
use Rattle.std.specs.Prelude.{fold, if◌then◌else◌}
use Rattle.csv.specs.Machine.{Read, ends_at_end, field_after, fields_after, is_end, next_record, step}
use Rattle.csv.specs.Reading.{AreRecords, Reached, records, records_from, records_next}
use Rattle.csv.specs.declared.parser.Action.{Action}
use Rattle.csv.specs.declared.parser.Action.TheVariants as act
use Rattle.csv.specs.declared.parser.Config.{Config}
use Rattle.csv.specs.declared.parser.State.{State}
use Rattle.csv.specs.declared.parser.State.TheVariants as st
use Rattle.basinmug_input.specs.Reading.{SoFar, all_read, nothing, read_of, read_on, with_byte}

-- rows of fields
abbrev Rows : Type 0
Rows = List (List (List ℕ))

-- the records of a text whose next record is this one, or that has none
abbrev pub Next : Config → Option Read → Rows → Type 0
Next cfg None rows = rows ≡ []
Next cfg (Some p) rows = (rest : Rows) × (rows ≡ p.0 ∷ rest) × AreRecords cfg p.1 p.2 rest

pub are-of : (cfg : Config) (s : State) (xs : List ℕ) (rows : Rows) (o : Option Read) → next_record cfg s [] [] xs ≡ o → Next cfg o rows → AreRecords cfg s xs rows
unfolding Reached
are-of cfg s xs rows None e none = subst (λ (of : Rows). AreRecords cfg s xs of) (sym none) (s, xs, (refl, refl), e)
are-of cfg s xs rows (Some p) e n =
    let (rest, is, are) = n in
    let (s2, ys, reached, none) = are in
    subst (λ (of : Rows). AreRecords cfg s xs of) (sym is) (s2, ys, (p, e, refl, reached), none)

pub next-of : (cfg : Config) (s : State) (xs : List ℕ) (rows : Rows) → AreRecords cfg s xs rows → Next cfg (next_record cfg s [] [] xs) rows
unfolding Reached
next-of cfg s xs [] are =
    let (s2, ys, reached, none) = are in
    let e : next_record cfg s [] [] xs ≡ None = rw (reached.0, reached.1) none in
    subst (λ (o : Option Read). Next cfg o []) (sym e) refl
next-of cfg s xs (r ∷ rows) are =
    let (s2, ys, reached, none) = are in
    let (p, e, is, more) = reached in
    subst (λ (o : Option Read). Next cfg o (r ∷ rows)) (sym e) (rows, ap (λ (x : List (List ℕ)). x ∷ rows) is, (s2, ys, more, none))

-- ---- a text has records

-- what the end of a text gives
abbrev at_end : Bool → List (List ℕ) → List ℕ → Option Read
at_end b fields field = if b then Some (fields ++ (field ∷ []), st.StartRecord, []) else None

-- what a byte gives that does this
abbrev behind : Config → State → Action → List (List ℕ) → List ℕ → ℕ → List ℕ → Option Read
behind cfg s a fields field c rest =
    if is_end a then Some (fields_after a fields field, s, rest) else next_record cfg s (fields_after a fields field) (field_after a c field) rest

exist-end : (cfg : Config) (b : Bool) (fields : List (List ℕ)) (field : List ℕ) → (rows : Rows) × Next cfg (at_end b fields field) rows
unfolding next_record Reached
exist-end cfg true fields field = ((fields ++ field ∷ []) ∷ [], ([], refl, (st.StartRecord, [], (refl, refl), refl)))
exist-end cfg false fields field = ([], refl)

exist-behind : (cfg : Config) (s : State) (a : Action) (fields : List (List ℕ)) (field : List ℕ) (c : ℕ) (rest : List ℕ)
    → ((s2 : State) (fields2 : List (List ℕ)) (field2 : List ℕ) → (rows : Rows) × Next cfg (next_record cfg s2 fields2 field2 rest) rows)
    → (rows : Rows) × Next cfg (behind cfg s a fields field c rest) rows
exist-behind cfg s act.Skip fields field c rest more = more s fields field
exist-behind cfg s act.Copy fields field c rest more = more s fields (field ++ c ∷ [])
exist-behind cfg s act.EndField fields field c rest more = more s (fields ++ field ∷ []) []
exist-behind cfg s act.EndRecord fields field c rest more =
    let (rows, n) = more s [] [] in
    ((fields ++ field ∷ []) ∷ rows, (rows, refl, are-of cfg s rest rows (next_record cfg s [] [] rest) refl n))

pub exist : (cfg : Config) (s : State) (fields : List (List ℕ)) (field xs : List ℕ) → (rows : Rows) × Next cfg (next_record cfg s fields field xs) rows
unfolding next_record
exist cfg s fields field [] = exist-end cfg (ends_at_end s) fields field
exist cfg s fields field (c ∷ rest) =
    exist-behind cfg (step cfg s c).0 (step cfg s c).1 fields field c rest (λ s2 fields2 field2. exist cfg s2 fields2 field2 rest)

-- ---- these are what is read

no-more : (cfg : Config) (rows : Rows) → AreRecords cfg st.StartRecord [] rows → rows ≡ []
unfolding next_record
no-more cfg rows are = next-of cfg st.StartRecord [] rows are

read-end : (cfg : Config) (b : Bool) (ended : Rows) (fields : List (List ℕ)) (field : List ℕ) (rows : Rows) → Next cfg (at_end b fields field) rows
    → (if b then ended ++ (fields ++ field ∷ []) ∷ [] else ended) ≡ ended ++ rows
read-end cfg true ended fields field rows n =
    let (rest, is, are) = n in
    ap (λ (of : Rows). ended ++ of) (sym (is ∙ ap (λ (of : Rows). (fields ++ field ∷ []) ∷ of) (no-more cfg rest are)))
read-end cfg false ended fields field rows n = sym (append-nil ended) ∙ ap (λ (of : Rows). ended ++ of) (sym n)

read-behind : (cfg : Config) (s : State) (a : Action) (r : SoFar) (c : ℕ) (rest : List ℕ) (rows : Rows)
    → ((r2 : SoFar) (rows2 : Rows) → Next cfg (next_record cfg r2.state r2.fields r2.field rest) rows2 → all_read (fold (read_on cfg) r2 rest) ≡ r2.ended ++ rows2)
    → Next cfg (behind cfg s a r.fields r.field c rest) rows
    → all_read (fold (read_on cfg) (with_byte a s r c) rest) ≡ r.ended ++ rows
read-behind cfg s act.Skip r c rest rows more n = more (with_byte act.Skip s r c) rows n
read-behind cfg s act.Copy r c rest rows more n = more (with_byte act.Copy s r c) rows n
read-behind cfg s act.EndField r c rest rows more n = more (with_byte act.EndField s r c) rows n
read-behind cfg s act.EndRecord r c rest rows more n =
    let (behind, is, are) = n in
    let row : List (List ℕ) = r.fields ++ r.field ∷ [] in
    more (with_byte act.EndRecord s r c) behind (next-of cfg s rest behind are)
    ∙ append_assoc r.ended (row ∷ []) behind
    ∙ ap (λ (of : Rows). r.ended ++ of) (sym is)

pub read-next : (cfg : Config) (r : SoFar) (xs : List ℕ) (rows : Rows) → Next cfg (next_record cfg r.state r.fields r.field xs) rows
    → all_read (fold (read_on cfg) r xs) ≡ r.ended ++ rows
unfolding next_record
read-next cfg r [] rows n = read-end cfg (ends_at_end r.state) r.ended r.fields r.field rows n
read-next cfg r (c ∷ rest) rows n =
    read-behind cfg (step cfg r.state c).0 (step cfg r.state c).1 r c rest rows (λ r2 rows2. read-next cfg r2 rest rows2) n

-- ---- and these are its list

none-left : (cfg : Config) (n : ℕ) → records_from cfg n st.StartRecord [] ≡ []
unfolding records_from next_record
none-left cfg zero = refl
none-left cfg (suc n) = refl

listed-end : (cfg : Config) (b : Bool) (fields : List (List ℕ)) (field : List ℕ) (n : ℕ) (rows : Rows) → Next cfg (at_end b fields field) rows
    → records_next (records_from cfg n) (at_end b fields field) ≡ rows
listed-end cfg true fields field n rows next =
    let (rest, is, are) = next in
    ap (λ (of : Rows). (fields ++ field ∷ []) ∷ of) (none-left cfg n ∙ sym (no-more cfg rest are)) ∙ sym is
listed-end cfg false fields field n rows next = sym next

-- what follows a record
listed-record : (cfg : Config) (s : State) (rest : List ℕ) (rows : Rows) (n : ℕ) → length rest + 1 ≤ n
    → ((m : ℕ) → length rest ≤ m → Next cfg (next_record cfg s [] [] rest) rows → records_next (records_from cfg m) (next_record cfg s [] [] rest) ≡ rows)
    → Next cfg (next_record cfg s [] [] rest) rows → records_from cfg n s rest ≡ rows
unfolding records_from
listed-record cfg s rest rows zero le more next = absurd (omega (arith, le))
listed-record cfg s rest rows (suc m) le more next = more m (omega (arith, le)) next

listed-behind : (cfg : Config) (s : State) (a : Action) (fields : List (List ℕ)) (field : List ℕ) (c : ℕ) (rest : List ℕ) (n : ℕ) (rows : Rows) → length rest + 1 ≤ n
    → ((s2 : State) (fields2 : List (List ℕ)) (field2 : List ℕ) (rows2 : Rows) (m : ℕ) → length rest ≤ m → Next cfg (next_record cfg s2 fields2 field2 rest) rows2
    → records_next (records_from cfg m) (next_record cfg s2 fields2 field2 rest) ≡ rows2)
    → Next cfg (behind cfg s a fields field c rest) rows
    → records_next (records_from cfg n) (behind cfg s a fields field c rest) ≡ rows
listed-behind cfg s act.Skip fields field c rest n rows le more next = more s fields field rows n (omega (arith, le)) next
listed-behind cfg s act.Copy fields field c rest n rows le more next = more s fields (field ++ c ∷ []) rows n (omega (arith, le)) next
listed-behind cfg s act.EndField fields field c rest n rows le more next = more s (fields ++ field ∷ []) [] rows n (omega (arith, le)) next
listed-behind cfg s act.EndRecord fields field c rest n rows le more next =
    let (behind, is, are) = next in
    let row : List (List ℕ) = fields ++ field ∷ [] in
    ap (λ (of : Rows). row ∷ of) (listed-record cfg s rest behind n le (λ m low is_next. more s [] [] behind m low is_next) (next-of cfg s rest behind are)) ∙ sym is

pub listed : (cfg : Config) (s : State) (fields : List (List ℕ)) (field xs : List ℕ) (rows : Rows) (n : ℕ) → length xs ≤ n → Next cfg (next_record cfg s fields field xs) rows
    → records_next (records_from cfg n) (next_record cfg s fields field xs) ≡ rows
unfolding next_record
listed cfg s fields field [] rows n le next = listed-end cfg (ends_at_end s) fields field n rows next
listed cfg s fields field (c ∷ rest) rows n le next =
    listed-behind cfg (step cfg s c).0 (step cfg s c).1 fields field c rest n rows (omega (arith, le)) (λ s2 fields2 field2 rows2 m low is_next. listed cfg s2 fields2 field2 rest rows2 m low is_next) next

-- the records of a text are its list
pub records-only : (cfg : Config) (text : List ℕ) (rows : Rows) → AreRecords cfg st.StartRecord text rows → records cfg text ≡ rows
unfolding records_from
records-only cfg text rows are =
    let more : length text + 1 ≡ suc (length text) = omega arith in
    subst (λ n. records_from cfg n st.StartRecord text ≡ rows) (sym more)
    (listed cfg st.StartRecord [] [] text rows (length text) (omega arith) (next-of cfg st.StartRecord text rows are))

-- and are what is read of it
pub records-read : (cfg : Config) (text : List ℕ) → records cfg text ≡ all_read (read_of cfg text)
records-read cfg text =
    let (rows, n) = exist cfg st.StartRecord [] [] text in
    records-only cfg text rows (are-of cfg st.StartRecord text rows (next_record cfg st.StartRecord [] [] text) refl n) ∙ sym (read-next cfg nothing text rows n)

-- ---- the first records of a text, and those after them

reached-all : (cfg : Config) (s : State) (xs : List ℕ) (rows : Rows) (s2 : State) (ys : List ℕ) (more : Rows) → Reached cfg s xs rows s2 ys → AreRecords cfg s2 ys more
    → AreRecords cfg s xs (rows ++ more)
unfolding Reached
reached-all cfg s xs [] s2 ys more h are = rw (h.0, h.1) are
reached-all cfg s xs (r ∷ rows) s2 ys more h are =
    let (p, e, is, reached) = h in
    let (s3, zs, all, none) = reached-all cfg p.1 p.2 rows s2 ys more reached are in
    (s3, zs, (p, e, is, all), none)

pub records-go_on : (cfg : Config) (text : List ℕ) (rows : Rows) (here : List (List ℕ)) (s : State) (ys : List ℕ)
    → Reached cfg st.StartRecord text (rows ++ here ∷ []) s ys → (after : Rows) × (records cfg text ≡ rows ++ here ∷ after)
records-go_on cfg text rows here s ys h =
    let (after, n) = exist cfg s [] [] ys in
    let are = are-of cfg s ys after (next_record cfg s [] [] ys) refl n in
    (after, records-only cfg text ((rows ++ here ∷ []) ++ after) (reached-all cfg st.StartRecord text (rows ++ here ∷ []) s ys after h are) ∙ append_assoc rows (here ∷ []) after)
