-- The operators between two operands, with the space behind each, by their first two bytes.
use Rattle.std.specs.Prelude.{ℕ, ◌==◌, if◌then◌else◌, drop, None, Some}
use Rattle.mt_tree.specs.declared.operators.Binary.{Binary}
use Rattle.mt_tree.specs.declared.operators.Binary.TheVariants as binary
use Rattle.mt_json.specs.Reading.{◌>>=◌, Parse, first_at}
use Rattle.mt_script_words.specs.declared.operators.Operator.{Operator}
use Rattle.mt_script_words.specs.declared.operators.Operator.TheVariants as operator

abbrev pub arithmetic : Binary → ℕ → Parse Operator
arithmetic op second bytes = if second == 61 then Some (operator.Assign (Some op), drop 3 bytes) else Some (operator.Binary op, drop 2 bytes)

abbrev pub comparison : Binary → Binary → ℕ → Parse Operator
comparison strict equal second bytes = if second == 61 then Some (operator.Binary equal, drop 3 bytes) else Some (operator.Binary strict, drop 2 bytes)

abbrev pub equals : ℕ → Parse Operator
equals second bytes = if second == 61 then Some (operator.Binary binary.Same, drop 4 bytes) else Some (operator.Assign None, drop 2 bytes)

abbrev pub operator_from : ℕ → ℕ → Parse Operator
operator_from first second bytes =
    if first == 43 then arithmetic binary.Add second bytes else
    if first == 45 then arithmetic binary.Sub second bytes else
    if first == 42 then arithmetic binary.Mul second bytes else
    if first == 47 then arithmetic binary.Div second bytes else
    if first == 37 then arithmetic binary.Rem second bytes else
    if first == 60 then comparison binary.Less binary.LessEqual second bytes else
    if first == 62 then comparison binary.Greater binary.GreaterEqual second bytes else
    if first == 61 then equals second bytes else
    if first == 33 then Some (operator.Binary binary.Different, drop 4 bytes) else
    if first == 38 then Some (operator.And, drop 3 bytes) else
    if first == 124 then Some (operator.Or, drop 3 bytes) else
    if first == 63 then Some (operator.Choice, drop 2 bytes) else
    None

unfoldable pub operator_at : Parse Operator
operator_at bytes = first_at bytes >>= λ p. first_at p.1 >>= λ q. operator_from p.0 q.0 bytes
