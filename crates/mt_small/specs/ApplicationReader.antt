-- How the application is found in any bytes: what the functions of the reader compute. That this is the one application
-- that the bytes spell is proved in proofs/Applications.
use Rattle.std.specs.Prelude.{◌&&◌, ℕ, List, [], ◌∷◌, unwrap_or, option_map, option_and_then, if◌then◌else◌, Option, None, Some}
use Rattle.mt_small.specs.Application.{front, middle, back}
use Rattle.mt_small.specs.Name.{is_service_name}
use Rattle.mt_small.specs.Paragraph.{is_paragraph}
use Rattle.mt_small.specs.Splitting.{before, from, after_front, before_back}

-- without the line feed at the end
abbrev pub without_line_feed : List ℕ → List ℕ
without_line_feed bytes = unwrap_or (before_back (10 ∷ []) bytes) bytes

-- the text of the paragraph, where the service's parenthesis opens here
abbrev pub text_from : List ℕ → Option (List ℕ)
text_from bytes = option_and_then (before_back back) (after_front middle bytes)

-- the service's name and the text
abbrev pub named_from : List ℕ → Option (List ℕ × List ℕ)
named_from bytes = option_map (λ text. (before 40 bytes, text)) (text_from (from 40 bytes))

-- the same of a whole application
abbrev pub parts_in : List ℕ → Option (List ℕ × List ℕ)
parts_in bytes = option_and_then named_from (after_front front (without_line_feed bytes))

-- the same of a small application
abbrev pub fitting : List ℕ × List ℕ → Option (List ℕ × List ℕ)
fitting parts = if is_service_name parts.0 && is_paragraph parts.1 then Some parts else None

abbrev pub small_in : List ℕ → Option (List ℕ × List ℕ)
small_in bytes = option_and_then fitting (parts_in bytes)
