use Rattle.std.proofs.Common.{◌∙◌, encode_utf8_all, ap}
use Rattle.std.proofs.lemmas.Str.{encodes-chars}
use Rattle.mt_small.specs.Name.{is_service_name}
use Rattle.mt_small.specs.Paragraph.{is_paragraph}
use Rattle.mt_small.proofs.PlainText.{service-utf8, paragraph-utf8}
use Rattle.mt_small.proofs.application_reader.small_of.Goals as goal

pub utf8_text-requires : goal.utf8_text-requires
utf8_text-requires c = service-utf8 c.args.service.now c.requires.service

pub utf8_text-requires-2 : goal.utf8_text-requires-2
utf8_text-requires-2 c = paragraph-utf8 c.args.text.now c.requires.text

pub invariant_of-result : goal.invariant_of-result
invariant_of-result c =
    let service = ap encode_utf8_all c.in_ok-service.ensures ∙ encodes-chars c.args.service.now (service-utf8 c.args.service.now c.requires.service) in
    let text = ap encode_utf8_all c.in_ok-text.ensures ∙ encodes-chars c.args.text.now (paragraph-utf8 c.args.text.now c.requires.text) in
    record {
      service_fits = ap is_service_name service ∙ c.requires.service;
      text_fits = ap is_paragraph text ∙ c.requires.text;
    }
