-- The targets that a client asks for. All of their characters are ASCII, so they are given by their bytes.
use Rattle.std.specs.Prelude.{◌≡◌, ◌||◌, ◌&&◌, ◌==◌, ℕ, Bool, true, false, List, [], ◌∷◌, length, codes, nat_le, encode_utf8_all}
use Rattle.std.specs.Char.{is_ascii_alphanumeric}
use Rattle.std.specs.List.{list_all, list_any}
use Rattle.mt_http_types.specs.declared.target.Target.{Target}

-- what may stand behind the first slash: an ASCII letter, a digit or one of these signs
abbrev pub is_target_byte : ℕ → Bool
is_target_byte b = is_ascii_alphanumeric b || list_any (λ sign. sign == b) (codes "-._~!$&'()*+,;=:@%/?")

-- a slash, and then at most 8,191 of these bytes
abbrev pub is_target : List ℕ → Bool
is_target [] = false
is_target (b ∷ bs) = b == 47 && (nat_le (length bs) 8191 && list_all is_target_byte bs)

-- a target as a client may ask for it
abbrev pub IsTarget : Target → Type 0
IsTarget target = is_target (encode_utf8_all target.0) ≡ true

-- the target that these bytes spell
abbrev pub IsSpelled : List ℕ → Target → Type 0
IsSpelled bytes target = (is_target bytes ≡ true) × (target.0 ≡ bytes)
