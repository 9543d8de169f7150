-- Replies as a client reads them.
use Rattle.std.proofs.Common.{◌≡◌, ◌↔◌, ℕ, Bool, true, false, ◌&&◌, List, [], ◌∷◌, ◌++◌, get_or, refl, sym, ap, ◌∙◌, subst, arith, encode_utf8_all, if◌then◌else◌, Option, None, Some}
use Rattle.std.proofs.lemmas.List.{append_cancel_left}
use Rattle.std.proofs.lemmas.Bool.{false_from_ne_true}
use Rattle.std.proofs.lemmas.Slice.Eq.{bytes_eq-Decides}
use Rattle.std.proofs.lemmas.Str.{encodes-chars, chars-IsAscii}
use Rattle.std.proofs.lemmas.Str.Ascii.{IsAscii-nil, IsAscii-cons}
use Rattle.std.specs.List.{list_all}
use Rattle.std.specs.Str.{bytes_eq, chars, IsAscii}
use Rattle.mt_small.specs.declared.message.Failure.{Failure}
use Rattle.mt_small.specs.declared.message.Failure.TheVariants.{BadRequest, NotFound}
use Rattle.mt_small.specs.declared.message.Reply.{Reply}
use Rattle.mt_small.specs.declared.message.Reply.TheVariants as reply
use Rattle.mt_small.specs.Paragraph.{is_plain, is_paragraph}
use Rattle.mt_small.specs.Wire.{page_front, page_wire, not_found_wire, bad_request_wire, failure_wire, reply_wire}
use Rattle.mt_small.specs.Readable.{IsReadableReply}
use Rattle.mt_small.specs.Reading.{page_in, failure_in, reply_from, reads_reply}
use Rattle.mt_small.proofs.Characters.{characters_are_bytes}
use Rattle.mt_small.proofs.Pages.{plain_below, plain_of_paragraph, page_in_is}
use Rattle.mt_small.proofs.PlainText.{utf8}

-- ---- failures

pub code_of_page : (text more : List ℕ) → get_or (page_wire text ++ more) 9 0 ≡ 50
unfolding page_front
code_of_page text more = refl

pub code_of_failure : (failure : Failure) (more : List ℕ) → get_or (failure_wire failure ++ more) 9 0 ≡ 52
unfolding not_found_wire bad_request_wire
code_of_failure BadRequest more = refl
code_of_failure NotFound more = refl

end_of_not_found : (more : List ℕ) → get_or (not_found_wire ++ more) 11 0 ≡ 52
unfolding not_found_wire
end_of_not_found more = refl

end_of_bad_request : (more : List ℕ) → get_or (bad_request_wire ++ more) 11 0 ≡ 48
unfolding bad_request_wire
end_of_bad_request more = refl

pub same_failure : (a b : Failure) (us vs : List ℕ) → failure_wire a ++ us ≡ failure_wire b ++ vs → (a ≡ b) × (us ≡ vs)
same_failure BadRequest BadRequest us vs same = (refl, append_cancel_left bad_request_wire us vs same)
same_failure NotFound NotFound us vs same = (refl, append_cancel_left not_found_wire us vs same)
same_failure BadRequest NotFound us vs same =
    absurd (let codes : 48 ≡ 52 = sym (end_of_bad_request us) ∙ ap (λ (l : List ℕ). get_or l 11 0) same ∙ end_of_not_found vs in omega arith)
same_failure NotFound BadRequest us vs same =
    absurd (let codes : 52 ≡ 48 = sym (end_of_not_found us) ∙ ap (λ (l : List ℕ). get_or l 11 0) same ∙ end_of_bad_request vs in omega arith)

pub failure_in_is : (bytes : List ℕ) (failure : Failure) → (failure_in bytes ≡ Some failure) ↔ (bytes ≡ failure_wire failure)
failure_in_is bytes failure = (λ said. read (bytes_eq bytes not_found_wire) (bytes_eq bytes bad_request_wire) refl refl said, λ is. written failure is) where
  read : (a b : Bool) → bytes_eq bytes not_found_wire ≡ a → bytes_eq bytes bad_request_wire ≡ b
      → (if a then Some NotFound else if b then Some BadRequest else None) ≡ Some failure → bytes ≡ failure_wire failure
  read true b first second said = let which : NotFound ≡ failure = cc in (bytes_eq-Decides bytes not_found_wire).0 first ∙ ap failure_wire which
  read false true first second said = let which : BadRequest ≡ failure = cc in (bytes_eq-Decides bytes bad_request_wire).0 second ∙ ap failure_wire which
  read false false first second said = absurd (cc)

  written : (f : Failure) → bytes ≡ failure_wire f → failure_in bytes ≡ Some f
  written NotFound is = rw ((bytes_eq-Decides bytes not_found_wire).1 is) refl
  written BadRequest is =
      let other : bytes_eq bytes not_found_wire ≡ false = false_from_ne_true (bytes_eq bytes not_found_wire) (λ (e : bytes_eq bytes not_found_wire ≡ true).
      let both : BadRequest ≡ NotFound = (same_failure BadRequest NotFound [] [] (ap (λ (l : List ℕ). l ++ []) (sym is ∙ (bytes_eq-Decides bytes not_found_wire).0 e))).0 in absurd (cc)) in
      rw (other, (bytes_eq-Decides bytes bad_request_wire).1 is) refl

-- ---- pages

ascii_of_plain : (text : List ℕ) → list_all is_plain text ≡ true → IsAscii text
ascii_of_plain [] all = IsAscii-nil
ascii_of_plain (b ∷ bs) all = both (is_plain b) refl all (ascii_of_plain bs) where
  both : (t : Bool) → is_plain b ≡ t → (t && list_all is_plain bs) ≡ true → (list_all is_plain bs ≡ true → IsAscii bs) → IsAscii (b ∷ bs)
  both true e rest behind = IsAscii-cons b bs (plain_below b e) (behind rest)
  both false e rest behind = absurd (cc)

-- the text of a page in bytes is the text in characters
pub bytes_of_page : (text : List ℕ) → is_paragraph (encode_utf8_all text) ≡ true → encode_utf8_all text ≡ text
bytes_of_page text good = characters_are_bytes is_plain plain_below text (plain_of_paragraph (encode_utf8_all text) good)

chars_of_page : (text : List ℕ) → is_paragraph (encode_utf8_all text) ≡ true → chars (encode_utf8_all text) ≡ text
chars_of_page text good =
    chars-IsAscii (encode_utf8_all text) (ascii_of_plain (encode_utf8_all text) (plain_of_paragraph (encode_utf8_all text) good)) ∙ bytes_of_page text good

bytes_of_text : (text : List ℕ) → is_paragraph text ≡ true → encode_utf8_all (chars text) ≡ text
bytes_of_text text good = encodes-chars text (utf8 text (plain_of_paragraph text good))

no_page : (bytes : List ℕ) (failure : Failure) → bytes ≡ failure_wire failure → page_in bytes ≡ None
no_page bytes failure is = at (page_in bytes) refl where
  at : (o : Option (List ℕ)) → page_in bytes ≡ o → page_in bytes ≡ None
  at None e = e
  at (Some text) e =
      let page = (page_in_is bytes text).0 e in
      absurd (let codes : 52 ≡ 50 = sym (code_of_failure failure []) ∙ ap (λ (l : List ℕ). get_or (l ++ []) 9 0) (sym is ∙ page.1) ∙ code_of_page text [] in omega arith)

-- ---- replies

pub reads_reply_is : (bytes : List ℕ) (r : Reply) → (reads_reply bytes ≡ Some r) ↔ (IsReadableReply r × (bytes ≡ reply_wire r))
reads_reply_is bytes r = (λ said. read (page_in bytes) (failure_in bytes) refl refl said, λ is. written r is) where
  read : (o : Option (List ℕ)) (f : Option Failure) → page_in bytes ≡ o → failure_in bytes ≡ f → reply_from o f ≡ Some r
      → IsReadableReply r × (bytes ≡ reply_wire r)
  read (Some text) f first second said =
      let page = (page_in_is bytes text).0 first in
      let which : reply.Page (chars text) ≡ r = cc in
      let back = bytes_of_text text page.0 in
      subst (λ (q : Reply). IsReadableReply q × (bytes ≡ reply_wire q)) which (ap is_paragraph back ∙ page.0, page.1 ∙ ap page_wire (sym back))
  read None (Some failure) first second said =
      let which : reply.Failure failure ≡ r = cc in
      subst (λ (q : Reply). IsReadableReply q × (bytes ≡ reply_wire q)) which (tt, (failure_in_is bytes failure).0 second)
  read None None first second said = absurd (cc)

  written : (q : Reply) → IsReadableReply q × (bytes ≡ reply_wire q) → reads_reply bytes ≡ Some q
  written (reply.Page text) is =
      let found = (page_in_is bytes (encode_utf8_all text)).1 (is.0, is.1) in
      ap (λ (o : Option (List ℕ)). reply_from o (failure_in bytes)) found ∙ ap (λ (t : List ℕ). Some (reply.Page t)) (chars_of_page text is.0)
  written (reply.Failure failure) is =
      ap (λ (o : Option (List ℕ)). reply_from o (failure_in bytes)) (no_page bytes failure is.1) ∙ ap (reply_from None) ((failure_in_is bytes failure).1 is.1)
