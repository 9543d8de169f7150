-- Bytes that were put together of lines, words and fields are taken apart into these.
use Rattle.std.proofs.Common.{◌≡◌, zero, suc, ◌-◌, ◌≤◌, ◌<◌, ℕ, Bool, true, false, not, ◌==◌, ◌&&◌, List, [], ◌∷◌, ◌++◌, length, map, drop, get_or, refl, sym, ap, ◌∙◌}
use Rattle.std.proofs.Common.{arith, append_assoc}
use Rattle.std.proofs.lemmas.Bool.{and_parts, and_from, cond-true, cond-false, eqb-true, false_from_ne_true}
use Rattle.std.proofs.lemmas.Bool.Decides.{nat_tests}
use Rattle.std.proofs.lemmas.List.{append-nil}
use Rattle.std.specs.List.{flat_map, list_all}
use Rattle.httparse.specs.Grammar.{Field, LineEnd, crlf, is_token, is_token_byte, is_uri_byte, is_value_byte, lf, print_blank, print_end, print_field, print_version}
use Rattle.mt_http_types.proofs.Runs.{all_of_both, all_weaker}
use Rattle.mt_http_read.specs.Heads.{after, before, behind, end_by, end_of, field_of, front, has_text, is_empty, is_field, is_nothing, lines_of, other, text_of, with_byte}

-- ---- fronts

module _ {A : Type 0} where
  pub front_stops : (p : A → Bool) (xs : List A) (y : A) (ys : List A) → list_all p xs ≡ true → p y ≡ false → front p (xs ++ y ∷ ys) ≡ xs
  front_stops p [] y ys all stop = cond-false _ _ _ stop
  front_stops p (x ∷ xs) y ys all stop =
      let both = and_parts (p x) (list_all p xs) all in
      cond-true _ _ _ both.0 ∙ ap (λ (l : List A). x ∷ l) (front_stops p xs y ys both.1 stop)

  pub behind_stops : (p : A → Bool) (xs : List A) (y : A) (ys : List A) → list_all p xs ≡ true → p y ≡ false → behind p (xs ++ y ∷ ys) ≡ y ∷ ys
  behind_stops p [] y ys all stop = cond-false _ _ _ stop
  behind_stops p (x ∷ xs) y ys all stop =
      let both = and_parts (p x) (list_all p xs) all in
      cond-true _ _ _ both.0 ∙ behind_stops p xs y ys both.1 stop

  pub front_whole : (p : A → Bool) (xs : List A) → list_all p xs ≡ true → front p xs ≡ xs
  front_whole p [] all = refl
  front_whole p (x ∷ xs) all =
      let both = and_parts (p x) (list_all p xs) all in
      cond-true _ _ _ both.0 ∙ ap (λ (l : List A). x ∷ l) (front_whole p xs both.1)

  pub behind_whole : (p : A → Bool) (xs : List A) → list_all p xs ≡ true → behind p xs ≡ []
  behind_whole p [] all = refl
  behind_whole p (x ∷ xs) all =
      let both = and_parts (p x) (list_all p xs) all in
      cond-true _ _ _ both.0 ∙ behind_whole p xs both.1

-- ---- bytes that pass a test are others than one that doesn't

no_stop : (b : ℕ) → other b b ≡ false
no_stop b = grind (arith, nat_tests)

others : (p : ℕ → Bool) (stop : ℕ) → p stop ≡ false → (b : ℕ) → p b ≡ true → other stop b ≡ true
others p stop fails b passes =
    ap not (false_from_ne_true (b == stop) (λ e. let same : true ≡ false = sym passes ∙ ap p (eqb-true b stop e) ∙ fails in absurd cc))

pub all_others : (p : ℕ → Bool) (stop : ℕ) → p stop ≡ false → (xs : List ℕ) → list_all p xs ≡ true → list_all (other stop) xs ≡ true
all_others p stop fails xs all = all_weaker p (other stop) (others p stop fails) xs all

pub before_stop : (stop : ℕ) (xs ys : List ℕ) → list_all (other stop) xs ≡ true → before stop (xs ++ stop ∷ ys) ≡ xs
before_stop stop xs ys all = front_stops (other stop) xs stop ys all (no_stop stop)

pub after_stop : (stop : ℕ) (xs ys : List ℕ) → list_all (other stop) xs ≡ true → after stop (xs ++ stop ∷ ys) ≡ ys
after_stop stop xs ys all = ap (λ (l : List ℕ). drop 1 l) (behind_stops (other stop) xs stop ys all (no_stop stop))

-- ---- one line

-- neither a line feed nor a carriage return
abbrev pub in_line : ℕ → Bool
in_line b = other 10 b && other 13 b

in_line_by : (p : ℕ → Bool) → p 10 ≡ false → p 13 ≡ false → (b : ℕ) → p b ≡ true → in_line b ≡ true
in_line_by p line_feed return b passes = and_from (other 10 b) (other 13 b) (others p 10 line_feed b passes) (others p 13 return b passes)

pub all_in_line : (p : ℕ → Bool) → p 10 ≡ false → p 13 ≡ false → (xs : List ℕ) → list_all p xs ≡ true → list_all in_line xs ≡ true
all_in_line p line_feed return xs all = all_weaker p in_line (in_line_by p line_feed return) xs all

-- what stands before the line feed of an end
abbrev pub return_of : LineEnd → List ℕ
return_of crlf = 13 ∷ []
return_of lf = []

-- a line, up to its line feed
abbrev pub shown : List ℕ → LineEnd → List ℕ
shown text end = text ++ return_of end

no_returns : (text : List ℕ) → list_all in_line text ≡ true → list_all (other 13) text ≡ true
no_returns text all = all_others in_line 13 refl text all

no_feeds : (text : List ℕ) → list_all in_line text ≡ true → list_all (other 10) text ≡ true
no_feeds text all = all_others in_line 10 refl text all

pub text_shown : (text : List ℕ) (end : LineEnd) → list_all in_line text ≡ true → text_of (shown text end) ≡ text
text_shown text crlf all = before_stop 13 text [] (no_returns text all)
text_shown text lf all = ap text_of (append-nil text) ∙ front_whole (other 13) text (no_returns text all)

pub end_shown : (text : List ℕ) (end : LineEnd) → list_all in_line text ≡ true → end_of (shown text end) ≡ end
end_shown text crlf all = ap end_by (behind_stops (other 13) text 13 [] (no_returns text all) refl)
end_shown text lf all = ap end_of (append-nil text) ∙ ap end_by (behind_whole (other 13) text (no_returns text all))

-- ---- lines

line_first : (xs more : List ℕ) → list_all (other 10) xs ≡ true → lines_of (xs ++ 10 ∷ more) ≡ xs ∷ lines_of more
line_first [] more all = refl
line_first (x ∷ xs) more all =
    let both = and_parts (other 10 x) (list_all (other 10) xs) all in
    let differs : (x == 10) ≡ false = grind (arith, nat_tests, both.0) in
    cond-false _ _ _ differs ∙ ap (with_byte x) (line_first xs more both.1)

shown_plain : (text : List ℕ) (end : LineEnd) → list_all in_line text ≡ true → list_all (other 10) (shown text end) ≡ true
shown_plain text crlf all = all_of_both (other 10) text (13 ∷ []) (no_feeds text all) refl
shown_plain text lf all = all_of_both (other 10) text [] (no_feeds text all) refl

ended : (end : LineEnd) (more : List ℕ) → print_end end ++ more ≡ return_of end ++ 10 ∷ more
ended crlf more = refl
ended lf more = refl

pub line_shown : (text : List ℕ) (end : LineEnd) (more : List ℕ) → list_all in_line text ≡ true
    → lines_of (text ++ (print_end end ++ more)) ≡ shown text end ∷ lines_of more
line_shown text end more all =
    ap (λ (l : List ℕ). lines_of (text ++ l)) (ended end more)
    ∙ ap lines_of (sym (append_assoc text (return_of end) (10 ∷ more)))
    ∙ line_first (shown text end) more (shown_plain text end all)

-- ---- empty lines

abbrev pub returns_of : List LineEnd → List (List ℕ)
returns_of = map return_of

pub blank_lines : (ends : List LineEnd) (more : List ℕ) → lines_of (print_blank ends ++ more) ≡ returns_of ends ++ lines_of more
blank_lines [] more = refl
blank_lines (end ∷ ends) more =
    ap lines_of (append_assoc (print_end end) (print_blank ends) more)
    ∙ line_shown [] end (print_blank ends ++ more) refl
    ∙ ap (λ (l : List (List ℕ)). return_of end ∷ l) (blank_lines ends more)

pub all_empty : (ends : List LineEnd) → list_all is_empty (returns_of ends) ≡ true
all_empty [] = refl
all_empty (crlf ∷ ends) = all_empty ends
all_empty (lf ∷ ends) = all_empty ends

pub ends_again : (ends : List LineEnd) → map end_of (returns_of ends) ≡ ends
ends_again [] = refl
ends_again (crlf ∷ ends) = ap (λ (l : List LineEnd). crlf ∷ l) (ends_again ends)
ends_again (lf ∷ ends) = ap (λ (l : List LineEnd). lf ∷ l) (ends_again ends)

pub end_is_empty : (end : LineEnd) → has_text (return_of end) ≡ false
end_is_empty crlf = refl
end_is_empty lf = refl

-- ---- fields

abbrev pub field_text : Field → List ℕ
field_text f = f.name ++ 58 ∷ f.raw

abbrev pub field_line : Field → List ℕ
field_line f = shown (field_text f) f.end

token_in_line : (bs : List ℕ) → list_all is_token_byte bs ≡ true → list_all in_line bs ≡ true
unfolding is_token_byte
token_in_line bs all = all_in_line is_token_byte refl refl bs all

field_in_line : (f : Field) → is_field f ≡ true → list_all in_line (field_text f) ≡ true
field_in_line f is =
    let both = and_parts (is_token f.name) (list_all is_value_byte f.raw) is in
    let name = and_parts _ (list_all is_token_byte f.name) both.0 in
    all_of_both in_line f.name (58 ∷ f.raw) (token_in_line f.name name.1) (all_in_line is_value_byte refl refl f.raw both.1)

no_colon : (bs : List ℕ) → list_all is_token_byte bs ≡ true → list_all (other 58) bs ≡ true
unfolding is_token_byte
no_colon bs all = all_others is_token_byte 58 refl bs all

pub field_again : (f : Field) → is_field f ≡ true → field_of (field_line f) ≡ f
field_again f is =
    let both = and_parts (is_token f.name) (list_all is_value_byte f.raw) is in
    let plain = no_colon f.name (and_parts _ (list_all is_token_byte f.name) both.0).1 in
    let inside = field_in_line f is in
    let text = text_shown (field_text f) f.end inside in
    let end = end_shown (field_text f) f.end inside in
    let name = ap (before 58) text ∙ before_stop 58 f.name f.raw plain in
    let raw = ap (after 58) text ∙ after_stop 58 f.name f.raw plain in
    λ i. record { name = name i; raw = raw i; end = end i }

some_text : (bs more : List ℕ) → 0 < length bs → is_nothing (bs ++ more) ≡ false
some_text [] more some = absurd (omega (arith, some))
some_text (b ∷ bs) more some = refl

pub line_has_text : (bs more : List ℕ) (end : LineEnd) → 0 < length bs → list_all in_line (bs ++ more) ≡ true → has_text (shown (bs ++ more) end) ≡ true
line_has_text bs more end some inside = ap (λ (l : List ℕ). not (is_nothing l)) (text_shown (bs ++ more) end inside) ∙ ap not (some_text bs more some)

field_has_text : (f : Field) → is_field f ≡ true → has_text (field_line f) ≡ true
field_has_text f is =
    let both = and_parts (is_token f.name) (list_all is_value_byte f.raw) is in
    let name = and_parts _ (list_all is_token_byte f.name) both.0 in
    let some : 0 < length f.name = grind (arith, nat_tests, name.0) in
    line_has_text f.name (58 ∷ f.raw) f.end some (field_in_line f is)

pub field_lines : (fields : List Field) (more : List ℕ) → list_all is_field fields ≡ true
    → lines_of (flat_map print_field fields ++ more) ≡ map field_line fields ++ lines_of more
field_lines [] more all = refl
field_lines (f ∷ fields) more all =
    let both = and_parts (is_field f) (list_all is_field fields) all in
    ap lines_of (append_assoc (print_field f) (flat_map print_field fields) more)
    ∙ ap lines_of (append_assoc (field_text f) (print_end f.end) (flat_map print_field fields ++ more))
    ∙ line_shown (field_text f) f.end (flat_map print_field fields ++ more) (field_in_line f both.0)
    ∙ ap (λ (l : List (List ℕ)). field_line f ∷ l) (field_lines fields more both.1)

pub fields_have_text : (fields : List Field) → list_all is_field fields ≡ true → list_all has_text (map field_line fields) ≡ true
fields_have_text [] all = refl
fields_have_text (f ∷ fields) all =
    let both = and_parts (is_field f) (list_all is_field fields) all in
    and_from (has_text (field_line f)) (list_all has_text (map field_line fields)) (field_has_text f both.0) (fields_have_text fields both.1)

pub fields_again : (fields : List Field) → list_all is_field fields ≡ true → map field_of (map field_line fields) ≡ fields
fields_again [] all = refl
fields_again (f ∷ fields) all =
    let both = and_parts (is_field f) (list_all is_field fields) all in
    let first = field_again f both.0 in
    let more = fields_again fields both.1 in
    λ i. first i ∷ more i

-- ---- the request line

pub version_in_line : (minor : ℕ) → minor ≤ 1 → list_all in_line (print_version minor) ≡ true
version_in_line zero low = refl
version_in_line (suc zero) low = refl
version_in_line (suc (suc n)) low = absurd (omega (arith, low))

pub minor_again : (minor : ℕ) → get_or (print_version minor) 7 0 - 48 ≡ minor
minor_again minor = omega arith

pub token_no_space : (bs : List ℕ) → list_all is_token_byte bs ≡ true → list_all (other 32) bs ≡ true
unfolding is_token_byte
token_no_space bs all = all_others is_token_byte 32 refl bs all

pub target_no_space : (bs : List ℕ) → list_all is_uri_byte bs ≡ true → list_all (other 32) bs ≡ true
target_no_space bs all = all_others is_uri_byte 32 refl bs all

pub start_in_line : (method target : List ℕ) (minor : ℕ) → list_all is_token_byte method ≡ true → list_all is_uri_byte target ≡ true → minor ≤ 1
    → list_all in_line (method ++ 32 ∷ (target ++ 32 ∷ print_version minor)) ≡ true
start_in_line method target minor token uri low =
    all_of_both in_line method (32 ∷ (target ++ 32 ∷ print_version minor)) (token_in_line method token)
    (all_of_both in_line target (32 ∷ print_version minor) (all_in_line is_uri_byte refl refl target uri) (version_in_line minor low))
