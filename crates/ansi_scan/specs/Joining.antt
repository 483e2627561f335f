-- The pieces of two texts, one after the other.
use Rattle.std.specs.Prelude.{Bool, true, false, ◌&&◌, cond, List, [], ◌∷◌, ◌++◌}
use Rattle.ansi_scan.specs.declared.items.Kind.{Kind}
use Rattle.ansi_scan.specs.declared.items.Kind.TheVariants.{Text, Sgr, Csi, Osc, Esc, Str, Broken}
use Rattle.ansi_scan.specs.Sequences.{Piece}

-- the kind is Text
abbrev pub is_text_kind : Kind → Bool
is_text_kind Text = true
is_text_kind Sgr = false
is_text_kind Csi = false
is_text_kind Osc = false
is_text_kind Esc = false
is_text_kind Str = false
is_text_kind Broken = false

-- a piece before others, made one with the first where both are Text
abbrev pub put_before : Piece → List Piece → List Piece
put_before p [] = p ∷ []
put_before p (q ∷ qs) =
    cond (is_text_kind p.kind && is_text_kind q.kind)
    (record { kind = Text; bytes = p.bytes ++ q.bytes } ∷ qs)
    (p ∷ q ∷ qs)

-- pieces before others, where neighbouring Text pieces are made one
abbrev pub put_all_before : List Piece → List Piece → List Piece
put_all_before [] qs = qs
put_all_before (p ∷ ps) qs = put_before p (put_all_before ps qs)
