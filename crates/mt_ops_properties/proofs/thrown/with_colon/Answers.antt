use Rattle.std.proofs.Common.{◌≡◌, ◌++◌, IfOk, subst, ap, refl, ◌∙◌, append_assoc}
use Rattle.std.specs.Prelude.{codes}
use Rattle.std.specs.Str.{chars}
use Rattle.std.specs.String.{string_bytes}
use Rattle.mt_ops.proofs.Texts.{no_characters, plain}
use Rattle.mt_ops_properties.proofs.thrown.with_colon.Goals as goal

pub returns : goal.returns
returns c =
    let name = c.args.name.now in
    let message = c.args.message.now in
    let first : chars (string_bytes c.push_text.new.into) ≡ name = c.in_ok-push_text.ensures ∙ rw (c.new-made.ensures.bytes, no_characters) c.as_str.ensures.value in
    let colon : chars (string_bytes c.push_text-2.new.into) ≡ name ++ codes ": " = c.in_ok-push_text-2.ensures ∙ rw (first, plain (codes ": ") refl) refl in
    let whole : chars (string_bytes c.push_text-3.new.into) ≡ (name ++ codes ": ") ++ message = c.in_ok-push_text-3.ensures ∙ rw (colon, c.as_str-2.ensures.value) refl in
    subst (λ text. IfOk c.from_str.result (λ made. made ≡ text)) (ap chars c.as_str-3.ensures.value ∙ whole ∙ append_assoc name (codes ": ") message) c.from_str.ensures
