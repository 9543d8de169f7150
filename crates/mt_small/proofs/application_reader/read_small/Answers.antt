use Rattle.std.proofs.Common.{◌∙◌, ap, sym, encode_utf8_all}
use Rattle.std.proofs.lemmas.Option.{none-some}
use Rattle.std.proofs.lemmas.Str.{encodes-chars}
use Rattle.mt_small.proofs.Applications.{small_in-found, small-again, small-spelled}
use Rattle.mt_small.proofs.PlainText.{service-utf8, paragraph-utf8}
use Rattle.mt_small.proofs.application_reader.read_small.Goals as goal

pub small_of-requires-clause-service : goal.small_of-requires-clause-service
small_of-requires-clause-service c = (small_in-found c.args.bytes.now c.in-Some.service.now c.in-Some.text.now (sym c.in-Some.ensures)).0

pub small_of-requires-clause-text : goal.small_of-requires-clause-text
small_of-requires-clause-text c = (small_in-found c.args.bytes.now c.in-Some.service.now c.in-Some.text.now (sym c.in-Some.ensures)).1

pub returns-in-Ok-clause-read : goal.returns-in-Ok-clause-read
returns-in-Ok-clause-read c =
    let service = c.in-Some.service.now in
    let text = c.in-Some.text.now in
    let found = small_in-found c.args.bytes.now service text (sym c.in-Some.ensures) in
    let is_service = ap encode_utf8_all c.in-Ok.ensures.service ∙ encodes-chars service (service-utf8 service found.0) in
    let is_text = ap encode_utf8_all c.in-Ok.ensures.text ∙ encodes-chars text (paragraph-utf8 text found.1) in (
      record { service = c.in-Ok.small.service_fits; text = c.in-Ok.small.text_fits },
      small-spelled c.args.bytes.now c.in-Ok.small service text is_service is_text found.2,
    )

pub returns-in-None-clause-refused : goal.returns-in-None-clause-refused
returns-in-None-clause-refused c = λ refused small is spells. none-some _ (c.in-None.ensures ∙ small-again c.args.bytes.now small is spells)
