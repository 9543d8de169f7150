use Rattle.std.proofs.Common.{◌≡◌, length, sym, ap, ◌∙◌, arith}
use Rattle.std.proofs.lemmas.Str.{encodes-chars}
use Rattle.mt_syntax.specs.DataLimits.{text_bytes}
use Rattle.mt_json.proofs.extent.Extent.of_text.Goals as goal

pub returns : goal.returns
returns c =
    let bytes : text_bytes c.args.text.now ≡ length c.as_str.result.now = ap text_bytes (sym c.as_str.ensures.value) ∙ ap length (encodes-chars c.as_str.result.now c.as_str.utf8) in
    omega (arith, bytes)
