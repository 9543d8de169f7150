-- No two messages have one text, and none's text begins another's.
use Rattle.std.proofs.Common.{◌≡◌, ◌<◌, ℕ, true, List, [], ◌++◌, length, get_or, refl, sym, ap, ◌∙◌, arith, encode_utf8_all, Some}
use Rattle.std.proofs.lemmas.List.{append-nil}
use Rattle.mt_small.specs.declared.application.Small.{Small}
use Rattle.mt_small.specs.declared.message.Asked.{Asked}
use Rattle.mt_small.specs.declared.message.Asked.TheVariants as asked
use Rattle.mt_small.specs.declared.message.Failure.{Failure}
use Rattle.mt_small.specs.declared.message.Failure.TheVariants.{BadRequest, NotFound}
use Rattle.mt_small.specs.declared.message.Reply.{Reply}
use Rattle.mt_small.specs.declared.message.Reply.TheVariants as reply
use Rattle.mt_small.specs.Application.{IsSmall}
use Rattle.mt_small.specs.Name.{is_target}
use Rattle.mt_small.specs.Wire.{Message, request, answer, wire, load_wire, page_front, not_found_wire, bad_request_wire, failure_wire, reply_wire}
use Rattle.mt_small.specs.Readable.{IsReadableReply, IsReadable}
use Rattle.mt_small.specs.Reading.{understood, reads_request, server_job}
use Rattle.mt_small.proofs.Characters.{characters_are_bytes}
use Rattle.mt_small.proofs.Targets.{is_path_byte, path_below, path_of_target, same_load, target_size, load_size, request_in_is}
use Rattle.mt_small.proofs.Pages.{same_page, page_size, paragraph_size}
use Rattle.mt_small.proofs.Replies.{code_of_page, code_of_failure, same_failure, bytes_of_page}

start_of_load : (target more : List ℕ) → get_or (load_wire target ++ more) 0 0 ≡ 71
start_of_load target more = refl

start_of_reply : (r : Reply) (more : List ℕ) → get_or (reply_wire r ++ more) 0 0 ≡ 72
unfolding page_front not_found_wire bad_request_wire
start_of_reply (reply.Page text) more = refl
start_of_reply (reply.Failure BadRequest) more = refl
start_of_reply (reply.Failure NotFound) more = refl

bytes_of_target : (target : List ℕ) → is_target (encode_utf8_all target) ≡ true → encode_utf8_all target ≡ target
bytes_of_target target good = characters_are_bytes is_path_byte path_below target (path_of_target (encode_utf8_all target) good)

same_reply : (a b : Reply) (us vs : List ℕ) → IsReadableReply a → IsReadableReply b → reply_wire a ++ us ≡ reply_wire b ++ vs → (a ≡ b) × (us ≡ vs)
same_reply (reply.Page a) (reply.Page b) us vs first second same =
    let parts = same_page (encode_utf8_all a) (encode_utf8_all b) us vs first second same in
    (ap reply.Page (sym (bytes_of_page a first) ∙ parts.0 ∙ bytes_of_page b second), parts.1)
same_reply (reply.Page a) (reply.Failure g) us vs first second same =
    absurd (let codes : 50 ≡ 52 = sym (code_of_page (encode_utf8_all a) us) ∙ ap (λ (l : List ℕ). get_or l 9 0) same ∙ code_of_failure g vs in omega arith)
same_reply (reply.Failure f) (reply.Page b) us vs first second same =
    absurd (let codes : 52 ≡ 50 = sym (code_of_failure f us) ∙ ap (λ (l : List ℕ). get_or l 9 0) same ∙ code_of_page (encode_utf8_all b) vs in omega arith)
same_reply (reply.Failure f) (reply.Failure g) us vs first second same =
    let parts = same_failure f g us vs same in (ap reply.Failure parts.0, parts.1)

same_message : (a b : Message) (us vs : List ℕ) → IsReadable a → IsReadable b → wire a ++ us ≡ wire b ++ vs → (a ≡ b) × (us ≡ vs)
same_message (request a) (request b) us vs first second same =
    let parts = same_load (encode_utf8_all a) (encode_utf8_all b) us vs first second same in
    (ap request (sym (bytes_of_target a first) ∙ parts.0 ∙ bytes_of_target b second), parts.1)
same_message (request a) (answer r) us vs first second same =
    absurd (let starts : 71 ≡ 72 = sym (start_of_load (encode_utf8_all a) us) ∙ ap (λ (l : List ℕ). get_or l 0 0) same ∙ start_of_reply r vs in omega arith)
same_message (answer r) (request b) us vs first second same =
    absurd (let starts : 72 ≡ 71 = sym (start_of_reply r us) ∙ ap (λ (l : List ℕ). get_or l 0 0) same ∙ start_of_load (encode_utf8_all b) vs in omega arith)
same_message (answer q) (answer r) us vs first second same =
    let parts = same_reply q r us vs first second same in (ap answer parts.0, parts.1)

pub texts_are_unique : (a b : Message) (rest : List ℕ) → IsReadable a → IsReadable b → wire b ≡ wire a ++ rest → (a ≡ b) × (rest ≡ [])
texts_are_unique a b rest first second same = same_message a b rest [] first second (sym same ∙ sym (append-nil (wire b)))

short_failure : (failure : Failure) → length (failure_wire failure) < 65537
unfolding not_found_wire bad_request_wire
short_failure BadRequest = omega arith
short_failure NotFound = omega arith

pub texts_are_short : (message : Message) → IsReadable message → length (wire message) < 65537
texts_are_short (request target) good =
    let most = target_size (encode_utf8_all target) good in
    let size = load_size (encode_utf8_all target) in
    omega arith
texts_are_short (answer (reply.Page text)) good =
    let most = page_size (encode_utf8_all text) good in
    let size = paragraph_size (encode_utf8_all text) good in
    omega arith
texts_are_short (answer (reply.Failure failure)) good = short_failure failure

pub requests_read_as_meant : (small : Small) (target : List ℕ) → is_target (encode_utf8_all target) ≡ true
    → reads_request small (wire (request target)) ≡ understood small (Some (encode_utf8_all target))
requests_read_as_meant small target good =
    ap (understood small) ((request_in_is (load_wire (encode_utf8_all target)) (encode_utf8_all target)).1 (good, refl))

pub applications_are_small : (small : Small) → IsSmall small
applications_are_small small = record { service = small.service_fits; text = small.text_fits }

pub answers_are_readable : (small : Small) (a : Asked) → IsReadableReply (server_job small a)
answers_are_readable small asked.Page = small.text_fits
answers_are_readable small (asked.Refused failure) = tt
