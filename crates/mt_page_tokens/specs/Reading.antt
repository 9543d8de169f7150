-- How one token is read: leniently, and then it is written again and compared.
use Rattle.std.specs.Prelude.{ℕ, zero, suc, ◌-◌, ◌≡◌, Bool, ◌&&◌, ◌==◌, if◌then◌else◌, List, [], ◌∷◌, length, take, drop, Option, Some, None, option_and_then, Result, Ok, Err}
use Rattle.std.specs.Str.{chars, is_utf8, bytes_eq}
use Rattle.mt_tree.specs.Tables.{is_attribute, is_handler, is_tag}
use Rattle.mt_tree.specs.declared.html.Attribute.{Attribute}
use Rattle.mt_tree.specs.declared.html.AttributeValue.{AttributeValue}
use Rattle.mt_tree.specs.declared.html.AttributeValue.TheVariants.{Plain, Handler}
use Rattle.mt_syntax.specs.PageText.{escaped}
use Rattle.mt_syntax.specs.declared.program.Code.{Code}
use Rattle.mt_page_tokens.specs.declared.refusal.ReadRefusal.{ReadRefusal}
use Rattle.mt_page_tokens.specs.declared.refusal.ReadRefusal.TheVariants as refusal
use Rattle.mt_page_tokens.specs.declared.texts.Escape.{Escape}
use Rattle.mt_page_tokens.specs.declared.texts.Escape.TheVariants as escape
use Rattle.mt_page_tokens.specs.declared.tokens.Opening.{Opening}
use Rattle.mt_page_tokens.specs.Codes.{code_spelled}
use Rattle.mt_page_tokens.specs.Limits.{are_distinct, is_text}
use Rattle.mt_page_tokens.specs.Tokens.{Chars, opening, script}

infixl 10 ◌>>=◌
abbrev pub ◌>>=◌ : {A B : Type 0} → Option A → (A → Option B) → Option B
o >>= f = option_and_then f o

abbrev pub Refuses : {Y : Type 0} → ReadRefusal → Option Y → Type 0
Refuses refusal.NoMemory read = Unit {0}
Refuses refusal.NotPage read = read ≡ None

-- what was returned, seen by view, is what there is to read, unless memory ran out
abbrev pub Gives : {X Y : Type 0} → (X → Y) → Result X ReadRefusal → Option Y → Type 0
Gives view (Ok x) read = read ≡ Some (view x)
Gives view (Err e) read = Refuses e read

-- the text of bytes in UTF-8
unfoldable pub text_at : List ℕ → Option Chars
text_at bytes = if is_utf8 bytes then Some (chars bytes) else None

-- the character that a reference names, by its first byte
abbrev pub letter : ℕ → ℕ
letter b = if b == 97 then 38 else if b == 108 then 60 else if b == 103 then 62 else if b == 113 then 34 else 13

abbrev pub unescaped_by : Escape → List ℕ → List ℕ
unescaped_by at [] = []
unescaped_by escape.Plain (b ∷ bs) = if b == 38 then unescaped_by escape.Ampersand bs else b ∷ unescaped_by escape.Plain bs
unescaped_by escape.Ampersand (b ∷ bs) = letter b ∷ unescaped_by escape.Name bs
unescaped_by escape.Name (b ∷ bs) = if b == 59 then unescaped_by escape.Plain bs else unescaped_by escape.Name bs

unfoldable pub unescaped : List ℕ → List ℕ
unescaped bytes = unescaped_by escape.Plain bytes

-- what stands before the first stop, and what stands after it
abbrev pub upto : ℕ → List ℕ → List ℕ
upto stop [] = []
upto stop (b ∷ bs) = if b == stop then [] else b ∷ upto stop bs

abbrev pub past : ℕ → List ℕ → List ℕ
past stop [] = []
past stop (b ∷ bs) = if b == stop then bs else past stop bs

unfoldable pub value_at : Bool → List ℕ → Option (AttributeValue Code)
value_at handler bytes = if handler
    then (code_spelled bytes >>= λ code. Some (Handler code))
    else (text_at bytes >>= λ text. if is_text text then Some (Plain text) else None)

-- an attribute, and what follows the quote that ends it and one byte more
unfoldable pub attribute_at : List ℕ → Option (Attribute Code × List ℕ)
attribute_at bytes = do
  name ← text_at (upto 61 bytes)
  value ← value_at (is_handler (upto 61 bytes)) (unescaped (upto 34 (drop 1 (past 61 bytes))))
  if is_attribute (upto 61 bytes) then Some (record { name = name; value = value }, drop 1 (past 34 (drop 1 (past 61 bytes)))) else None

unfoldable pub attributes_by : ℕ → List ℕ → Option (List (Attribute Code))
attributes_by n [] = Some []
attributes_by zero (b ∷ bs) = None
attributes_by (suc n) (b ∷ bs) = attribute_at (b ∷ bs) >>= λ x. (attributes_by n x.1 >>= λ more. Some (x.0 ∷ more))

-- an opening tag, of its bytes before the >
unfoldable pub opening_at : List ℕ → Option Opening
opening_at bytes = do
  tag ← text_at (upto 32 (drop 1 bytes))
  attributes ← attributes_by (length bytes) (past 32 (drop 1 bytes))
  if (is_tag (upto 32 (drop 1 bytes)) && are_distinct attributes) && bytes_eq (opening tag attributes) bytes then Some (record { tag = tag; attributes = attributes }) else None

-- a text
unfoldable pub words_at : List ℕ → Option Chars
words_at bytes = text_at (unescaped bytes) >>= λ text. if is_text text && bytes_eq (escaped (unescaped bytes)) bytes then Some text else None

-- a script, of its bytes before the last >
unfoldable pub script_at : List ℕ → Option Code
script_at bytes = code_spelled (take (length bytes - 16) (drop 8 bytes)) >>= λ code. if bytes_eq (script code) bytes then Some code else None
