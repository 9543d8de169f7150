-- The text of a stop by a rule.
use Rattle.std.proofs.Common.{◌≡◌, ◌<◌, ◌^◌, ◌++◌, ℕ, List, codes, decimal, refl, ap, ◌∙◌}
use Rattle.std.proofs.lemmas.Fmt.{IsAscii-decimal}
use Rattle.std.proofs.lemmas.Str.{IsAscii-append, chars-IsAscii}
use Rattle.std.specs.Str.{chars}
use Rattle.mt_ops.proofs.Texts.{ascii}

pub marshal_text : (bs : List ℕ) (rule : ℕ) → rule < 2 ^ 64 → bs ≡ codes "stop marshal M" ++ decimal rule → chars bs ≡ codes "stop marshal M" ++ decimal rule
marshal_text bs rule small is =
    ap chars is ∙ chars-IsAscii (codes "stop marshal M" ++ decimal rule) (IsAscii-append (codes "stop marshal M") (decimal rule) (ascii (codes "stop marshal M") refl) (IsAscii-decimal rule small))
