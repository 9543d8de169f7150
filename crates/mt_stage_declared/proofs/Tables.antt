-- A table whose keys are strings, seen as a list of names with kinds.
use Rattle.std.proofs.Common.{◌≡◌, ℕ, Bool, true, false, List, [], ◌∷◌, Option, None, Some, sym, ap, ◌∙◌, refl}
use Rattle.std.specs.Map.{lookup}
use Rattle.std.specs.Str.{IsUtf8, chars, bytes_eq}
use Rattle.std.specs.String.{string_bytes}
use Rattle.std.specs.declared.string.String.{String}
use Rattle.std.proofs.lemmas.Slice.Eq.{bytes_eq-Decides}
use Rattle.std.proofs.lemmas.Str.{encodes-chars, IsUtf8-string_bytes}
use Rattle.indexmap.specs.IndexMap.{insert_entry}
use lib.Utf8.{encodes}
use Rattle.mt_stage_declared.specs.Clashes.{no_kinds}
use Rattle.mt_stage_declared.specs.Names.{is_same, named, kinds_of, assigned}
use Rattle.mt_stage_declared.proofs.Words.{alike}
use Rattle.mt_stage_declared.specs.declared.kinds.Kinds.{Kinds}

-- two texts have the same bytes where they have the same characters
same_bytes : (q k : List ℕ) → IsUtf8 q → IsUtf8 k → bytes_eq q k ≡ is_same (chars q) (chars k)
same_bytes q k u v =
    let bytes = bytes_eq-Decides q k in
    let characters = bytes_eq-Decides (chars q) (chars k) in
    alike (bytes_eq q k) (is_same (chars q) (chars k)) (λ h. characters.1 (ap chars (bytes.0 h)))
    (λ h. bytes.1 (sym (encodes-chars q u) ∙ ap encodes (characters.0 h) ∙ encodes-chars k v))

-- what is found; no kinds where nothing is
abbrev pub found_kinds : Option Kinds → Kinds
found_kinds None = no_kinds
found_kinds (Some kinds) = kinds

module _ {A : Type 0} (q : List ℕ) (u : IsUtf8 q) where
  pub kinds_named : (es : List (String A × Kinds)) → found_kinds (lookup (λ k. bytes_eq q (string_bytes k)) es) ≡ kinds_of (chars q) (named es)
  kinds_named [] = refl
  kinds_named (e ∷ es) = by (bytes_eq q (string_bytes e.0)) refl (kinds_named es)
    where
      same : bytes_eq q (string_bytes e.0) ≡ is_same (chars q) (chars (string_bytes e.0))
      same = same_bytes q (string_bytes e.0) u (IsUtf8-string_bytes e.0)

      by : (b : Bool) → bytes_eq q (string_bytes e.0) ≡ b → found_kinds (lookup (λ k. bytes_eq q (string_bytes k)) es) ≡ kinds_of (chars q) (named es)
          → found_kinds (lookup (λ k. bytes_eq q (string_bytes k)) (e ∷ es)) ≡ kinds_of (chars q) (named (e ∷ es))
      by true t rest = rw (t, sym same ∙ t) refl
      by false f rest = rw (f, sym same ∙ f) rest

module _ {A : Type 0} (key : String A) (kinds : Kinds) where
  abbrev pub entered : List (String A × Kinds) → List (String A × Kinds)
  entered es = insert_entry (λ a b. bytes_eq (string_bytes a) (string_bytes b)) es key kinds

  pub insert_named : (es : List (String A × Kinds)) → named (entered es) ≡ assigned (chars (string_bytes key)) kinds (named es)
  insert_named [] = refl
  insert_named (e ∷ es) = by (bytes_eq (string_bytes key) (string_bytes e.0)) refl (insert_named es)
    where
      same : bytes_eq (string_bytes key) (string_bytes e.0) ≡ is_same (chars (string_bytes key)) (chars (string_bytes e.0))
      same = same_bytes (string_bytes key) (string_bytes e.0) (IsUtf8-string_bytes key) (IsUtf8-string_bytes e.0)

      by : (b : Bool) → bytes_eq (string_bytes key) (string_bytes e.0) ≡ b → named (entered es) ≡ assigned (chars (string_bytes key)) kinds (named es)
          → named (entered (e ∷ es)) ≡ assigned (chars (string_bytes key)) kinds (named (e ∷ es))
      by true t rest = rw (t, sym same ∙ t) refl
      by false f rest = rw (f, sym same ∙ f) (ap (λ ws. (chars (string_bytes e.0), e.1) ∷ ws) rest)
