-- What a small application is, and how it is spelled.
use Rattle.std.specs.Prelude.{◌≡◌, ◌⊎◌, ◌++◌, ℕ, true, List, [], ◌∷◌, codes, encode_utf8_all}
use Rattle.mt_small.specs.declared.application.Small.{Small}
use Rattle.mt_small.specs.Name.{is_service_name}
use Rattle.mt_small.specs.Paragraph.{is_paragraph}

pub record IsSmall (small : Small) : Type 0 where
  pub service : is_service_name (encode_utf8_all small.service) ≡ true
  pub text : is_paragraph (encode_utf8_all small.text) ≡ true

unfoldable pub front : List ℕ
front = codes "service "

unfoldable pub middle : List ℕ
middle = codes "() { return <p>"

unfoldable pub back : List ℕ
back = codes "</p>; }"

-- the application in UTF-8
abbrev pub application_text : Small → List ℕ
application_text small = front ++ encode_utf8_all small.service ++ middle ++ encode_utf8_all small.text ++ back

-- with or without one line feed after it
abbrev pub Spells : List ℕ → Small → Type 0
Spells bytes small = (bytes ≡ application_text small) ⊎ (bytes ≡ application_text small ++ 10 ∷ [])
