-- What a bounded writer holds, as a clause reads it.
use Rattle.std.specs.Prelude.{ℕ, ◌+◌, List, ◌∷◌, ◌++◌, length}
use Rattle.bounded_output.specs.declared.bounded.Bounded.{Bounded}

-- the name of the memory that it writes into: two borrows of one name are the same
abbrev pub name_of : Bounded → ℕ
name_of writer = writer.out.ghost_name

-- how many bytes it takes at most
abbrev pub limit_of : Bounded → ℕ
limit_of writer = writer.count + writer.left

-- what its memory held before the first byte
abbrev pub memory_of : Bounded → List ℕ
memory_of writer = writer.before.bytes

-- the bytes that it took, also those that its memory has no space for
abbrev pub taken_of : Bounded → List ℕ
taken_of writer = writer.taken.bytes

-- all of this as one list, which each write makes longer by what it takes
abbrev pub held_of : Bounded → List ℕ
held_of writer = name_of writer ∷ limit_of writer ∷ length (memory_of writer) ∷ (memory_of writer ++ taken_of writer)
