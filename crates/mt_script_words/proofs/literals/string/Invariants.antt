use Rattle.std.proofs.Common.{◌≡◌, ◌-◌, List, length}
use Rattle.std.specs.List.{flat_map}
use Rattle.mt_json.proofs.Many.{SoFar}
use Rattle.mt_script_words.specs.Literals.{piece_at, piece_bytes, pieces_at}
use Rattle.mt_script_words.specs.declared.literals.Piece.{Piece}
use Rattle.mt_script_words.proofs.literals.string.Given as goal

-- the pieces that the bytes so far were made of
abbrev pub invariant-loop : goal.invariant-loop
invariant-loop l = (pieces : List Piece) × (flat_map piece_bytes pieces ≡ l.out.items) × SoFar piece_at (length l.bytes - l.counter) pieces l.rest (pieces_at l.bytes)
