use Rattle.theory.proofs.Pieces.{piece}
use Rattle.theory.proofs.piece_holds.Goals as goal

pub returns : goal.returns
returns c = piece
