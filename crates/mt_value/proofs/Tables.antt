-- A table whose keys are strings, seen as a list of names with values.
use Rattle.std.proofs.Common.{◌≡◌, ℕ, Bool, true, false, List, [], ◌∷◌, Option, sym, ap, ◌∙◌, refl}
use Rattle.std.specs.Prelude.{if◌then◌else◌}
use Rattle.std.specs.Map.{lookup}
use Rattle.std.specs.Str.{IsUtf8, chars, bytes_eq}
use Rattle.std.specs.String.{string_bytes}
use Rattle.std.specs.declared.string.String.{String}
use Rattle.std.proofs.lemmas.Slice.Eq.{bytes_eq-Decides}
use Rattle.std.proofs.lemmas.Str.{encodes-chars, IsUtf8-string_bytes}
use Rattle.indexmap.specs.IndexMap.{insert_entry}
use lib.Utf8.{encodes}
use Rattle.mt_value.specs.Globals.{value_of, assigned}
use Rattle.mt_value.specs.Names.{is_same, named}
use Rattle.mt_value.specs.declared.value.Value.{Value}

-- two tests of which each implies the other
same_truth : (a b : Bool) → (a ≡ true → b ≡ true) → (b ≡ true → a ≡ true) → a ≡ b
same_truth true true f g = refl
same_truth true false f g = sym (f refl)
same_truth false true f g = g refl
same_truth false false f g = refl

-- two texts have the same bytes where they have the same characters
pub same_bytes : (q k : List ℕ) → IsUtf8 q → IsUtf8 k → bytes_eq q k ≡ is_same (chars q) (chars k)
same_bytes q k u v =
    let bytes = bytes_eq-Decides q k in
    let characters = bytes_eq-Decides (chars q) (chars k) in
    same_truth (bytes_eq q k) (is_same (chars q) (chars k)) (λ h. characters.1 (ap chars (bytes.0 h)))
    (λ h. bytes.1 (sym (encodes-chars q u) ∙ ap encodes (characters.0 h) ∙ encodes-chars k v))

module _ {A : Type 0} (q : List ℕ) (u : IsUtf8 q) where
  pub lookup_named : (es : List (String A × Value)) → lookup (λ k. bytes_eq q (string_bytes k)) es ≡ value_of (chars q) (named es)
  lookup_named [] = refl
  lookup_named (e ∷ es) =
      ap (λ b. if b then Option.Some e.1 else lookup (λ k. bytes_eq q (string_bytes k)) es) (same_bytes q (string_bytes e.0) u (IsUtf8-string_bytes e.0))
      ∙ ap (λ r. if is_same (chars q) (chars (string_bytes e.0)) then Option.Some e.1 else r) (lookup_named es)

module _ {A : Type 0} (key : String A) (v : Value) where
  abbrev pub entered : List (String A × Value) → List (String A × Value)
  entered es = insert_entry (λ a b. bytes_eq (string_bytes a) (string_bytes b)) es key v

  pub insert_named : (es : List (String A × Value)) → named (entered es) ≡ assigned (chars (string_bytes key)) v (named es)
  insert_named [] = refl
  insert_named (e ∷ es) = by (bytes_eq (string_bytes key) (string_bytes e.0)) refl (insert_named es)
    where
      same : bytes_eq (string_bytes key) (string_bytes e.0) ≡ is_same (chars (string_bytes key)) (chars (string_bytes e.0))
      same = same_bytes (string_bytes key) (string_bytes e.0) (IsUtf8-string_bytes key) (IsUtf8-string_bytes e.0)

      by : (b : Bool) → bytes_eq (string_bytes key) (string_bytes e.0) ≡ b → named (entered es) ≡ assigned (chars (string_bytes key)) v (named es)
          → named (entered (e ∷ es)) ≡ assigned (chars (string_bytes key)) v (named (e ∷ es))
      by true t rest = rw (t, sym same ∙ t) refl
      by false f rest = rw (f, sym same ∙ f) (ap (λ ws. (chars (string_bytes e.0), e.1) ∷ ws) rest)
