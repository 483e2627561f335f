use Rattle.tabled_output.proofs.WrittenPieces.{piece-passed, piece-stopped}
use Rattle.tabled_output.proofs.pieces.write_piece.Goals as goal

pub returns-clause-passed : goal.returns-clause-passed
returns-clause-passed g c =
    piece-passed g.W.Write.contents c.write_all.result c.args.bytes.now c.args.writer.now c.write_all.new.writer
    c.write_all.ensures.ok c.write_all.ensures.nothing c.write_all.ensures.writer

pub returns-clause-stopped : goal.returns-clause-stopped
returns-clause-stopped g c =
    piece-stopped g.W.Write.contents c.write_all.result c.args.bytes.now c.args.writer.now c.write_all.new.writer
    c.write_all.ensures.front c.write_all.ensures.nothing c.write_all.ensures.writer
