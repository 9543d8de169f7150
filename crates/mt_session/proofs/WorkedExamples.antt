-- The transcripts that are written out are the machine's.
use Rattle.std.proofs.Common.{◌≡◌, ℕ, List, true, encode_utf8_all, codes, refl, sym, subst}
use Rattle.std.specs.Fmt.{digits}
use lib.Utf8.{encode}
use Rattle.mt_small.specs.declared.application.Small.{Small}
use Rattle.mt_small.specs.Name.{is_service_name}
use Rattle.mt_small.specs.Paragraph.{is_paragraph}
use Rattle.mt_small.specs.Wire.{load_back, page_front, page_middle, not_found_wire}
use Rattle.mt_session.specs.Examples.{page_commands, page_transcript, refused_commands, refused_transcript}
use Rattle.mt_session.specs.Machine.{machine_transcript}

-- a fact on each application with these two texts
of_texts : (P : Small → Type 0) (service text : List ℕ)
    → ((p : is_service_name (encode_utf8_all service) ≡ true) (q : is_paragraph (encode_utf8_all text) ≡ true)
    → P (record { service = service; text = text; service_fits = p; text_fits = q }))
    → (small : Small) → small.service ≡ service → small.text ≡ text → P small
of_texts P service text holds small is_service is_text =
    subst (λ (t : List ℕ). (q : is_paragraph (encode_utf8_all t) ≡ true) → P (record { service = small.service; text = t; service_fits = small.service_fits; text_fits = q })) (sym is_text)
    (subst (λ (s : List ℕ). (p : is_service_name (encode_utf8_all s) ≡ true) (q : is_paragraph (encode_utf8_all text) ≡ true)
    → P (record { service = s; text = text; service_fits = p; text_fits = q })) (sym is_service) holds small.service_fits) small.text_fits

page_spelled : (p : is_service_name (encode_utf8_all (codes "hello")) ≡ true) (q : is_paragraph (encode_utf8_all (codes "hi")) ≡ true)
    → machine_transcript (record { service = codes "hello"; text = codes "hi"; service_fits = p; text_fits = q }) page_commands ≡ page_transcript
unfolding digits encode load_back page_front page_middle page_transcript
page_spelled p q = refl

refused_spelled : (text : List ℕ) (p : is_service_name (encode_utf8_all (codes "hello")) ≡ true) (q : is_paragraph (encode_utf8_all text) ≡ true)
    → machine_transcript (record { service = codes "hello"; text = text; service_fits = p; text_fits = q }) refused_commands ≡ refused_transcript
unfolding digits encode load_back not_found_wire refused_transcript
refused_spelled text p q = refl

pub page_example : (small : Small) → small.service ≡ codes "hello" → small.text ≡ codes "hi" → machine_transcript small page_commands ≡ page_transcript
page_example = of_texts (λ small. machine_transcript small page_commands ≡ page_transcript) (codes "hello") (codes "hi") page_spelled

pub refused_example : (small : Small) → small.service ≡ codes "hello" → machine_transcript small refused_commands ≡ refused_transcript
refused_example small service =
    of_texts (λ small. machine_transcript small refused_commands ≡ refused_transcript) (codes "hello") small.text (refused_spelled small.text) small service refl
