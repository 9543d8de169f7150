-- The head of a request at the front of bytes.
--
-- Bytes are first taken apart at line feeds, spaces and colons, whatever they are. What comes of it is the head where it is one of
-- the grammar of `httparse` and its text stands in front. No other head stands there: the law `heads_are_found` says so.
use Rattle.std.specs.Prelude.{ℕ, ◌-◌, ◌==◌, ◌&&◌, not, nat_le, nat_lt, Bool, true, false, if◌then◌else◌, List, [], ◌∷◌, length, take, drop, get_or, map, Some, None}
use Rattle.std.specs.List.{list_all}
use Rattle.std.specs.Str.{bytes_eq, is_utf8}
use Rattle.httparse.specs.Grammar.{Field, LineEnd, RequestHead, crlf, is_token, is_uri_byte, is_value_byte, lf, print_request}
use Rattle.mt_http_stream.specs.Settling.{Found, head_limit}

-- ---- parts of lists

-- the items in front that pass the test
abbrev pub front : {A : Type 0} → (A → Bool) → List A → List A
front p [] = []
front p (x ∷ xs) = if p x then x ∷ front p xs else []

-- the items from the first on that doesn't
abbrev pub behind : {A : Type 0} → (A → Bool) → List A → List A
behind p [] = []
behind p (x ∷ xs) = if p x then behind p xs else x ∷ xs

-- another byte than this one
abbrev pub other : ℕ → ℕ → Bool
other stop b = not (b == stop)

-- the bytes before the first such byte
abbrev pub before : ℕ → List ℕ → List ℕ
before stop = front (other stop)

-- the bytes after it
abbrev pub after : ℕ → List ℕ → List ℕ
after stop bytes = drop 1 (behind (other stop) bytes)

-- ---- lines

abbrev pub with_byte : ℕ → List (List ℕ) → List (List ℕ)
with_byte b [] = (b ∷ []) ∷ []
with_byte b (line ∷ lines) = (b ∷ line) ∷ lines

-- what stands between line feeds
abbrev pub lines_of : List ℕ → List (List ℕ)
lines_of [] = []
lines_of (b ∷ bytes) = if b == 10 then [] ∷ lines_of bytes else with_byte b (lines_of bytes)

-- a line without a carriage return
abbrev pub text_of : List ℕ → List ℕ
text_of = before 13

abbrev pub end_by : List ℕ → LineEnd
end_by [] = lf
end_by (b ∷ bytes) = crlf

abbrev pub end_of : List ℕ → LineEnd
end_of line = end_by (behind (other 13) line)

abbrev pub is_nothing : List ℕ → Bool
is_nothing [] = true
is_nothing (b ∷ bytes) = false

abbrev pub is_empty : List ℕ → Bool
is_empty line = is_nothing (text_of line)

abbrev pub has_text : List ℕ → Bool
has_text line = not (is_empty line)

abbrev pub first_of : List (List ℕ) → List ℕ
first_of [] = []
first_of (line ∷ lines) = line

-- ---- the parts of a head

abbrev pub field_of : List ℕ → Field
field_of line = record { name = before 58 (text_of line); raw = after 58 (text_of line); end = end_of line }

-- by the empty lines in front, the text of the first line behind them and its end, and the lines behind this one
abbrev pub head_by : List LineEnd → List ℕ → LineEnd → List (List ℕ) → RequestHead
head_by blank start end lines = record {
  blank = blank;
  method = before 32 start;
  target = before 32 (after 32 start);
  minor = get_or (after 32 (after 32 start)) 7 0 - 48;
  line_end = end;
  fields = map field_of (front has_text lines);
  last = end_of (first_of (behind has_text lines));
}

abbrev pub head_after : List LineEnd → List (List ℕ) → RequestHead
head_after blank lines = head_by blank (text_of (first_of lines)) (end_of (first_of lines)) (drop 1 lines)

abbrev pub head_with : List (List ℕ) → RequestHead
head_with lines = head_after (map end_of (front is_empty lines)) (behind is_empty lines)

unfoldable pub taken_apart : List ℕ → RequestHead
taken_apart bytes = head_with (lines_of bytes)

-- ---- the head

abbrev pub is_field : Field → Bool
is_field f = is_token f.name && list_all is_value_byte f.raw

-- whether the head is one of the grammar
abbrev pub is_head : RequestHead → Bool
is_head head =
    is_token head.method && ((nat_lt 0 (length head.target) && list_all is_uri_byte head.target) && (is_utf8 head.target
    && (nat_le head.minor 1 && list_all is_field head.fields)))

abbrev pub stands_in : List ℕ → RequestHead → Bool
stands_in bytes head =
    is_head head && (nat_le (length (print_request head)) head_limit && bytes_eq (take (length (print_request head)) bytes) (print_request head))

abbrev pub found_in : List ℕ → RequestHead → Found
found_in bytes head = if stands_in bytes head then Some (head, drop (length (print_request head)) bytes) else None

-- the head of at most 65,536 bytes at the front of the bytes, and what stands behind it
unfoldable pub head_in : List ℕ → Found
head_in bytes = found_in bytes (taken_apart bytes)
